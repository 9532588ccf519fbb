use Rattle.std.proofs.Common.{◌≡◌, ℕ, replicate, sym, ap, ◌∙◌, subst, arith}
use Rattle.scheduler.specs.Bits.{has}
use Rattle.scheduler.specs.Edges.{More, asks, commits, in_block}
use Rattle.scheduler.specs.ItemSets.{no_places}
use Rattle.scheduler.proofs.Blockwise.{Upto, upto_add, upto_all, upto_none, upto_skip}
use Rattle.scheduler.proofs.Gathering.{blank}
use Rattle.scheduler.proofs.tables.Tables.wait_rows.Goals as goal
use Rattle.scheduler.proofs.tables.Tables.wait_rows.Goals.{then-contains, else-contains}

pub loop-block-init : goal.loop-block-init
loop-block-init g c =
    upto_none (g.R.LockRule.allows c.args.rule.now) c.args.self.now.open.items c.args.self.now.locks.inner.items (replicate 64 no_places) (blank 64)

pub loop-block-preserved : goal.loop-block-preserved
loop-block-preserved g c =
    let ok = g.R.LockRule.allows c.args.rule.now in
    let os = c.args.self.now.open.items in
    let ls = c.args.self.now.locks.inner.items in
    let k = c.loop-block.block in
    elim c.if-contains.branch [
      | then-contains w ↦
          let its = w.gather.ensures.block in
          let asked : More os (asks (in_block k) ok ls) c.loop-block.rows w.add_asks.new.rows = subst (λ n. More os (asks (in_block n) ok ls) c.loop-block.rows w.add_asks.new.rows) its w.add_asks.ensures in
          let committed : More os (commits (in_block k) ls ls) w.add_asks.new.rows w.add_commits.new.rows = subst (λ n. More os (commits (in_block n) ls ls) w.add_asks.new.rows w.add_commits.new.rows) its w.add_commits.ensures in
          rw w.rows-is (upto_add ok os ls k c.loop-block.rows _ _ c.loop-block.invariant asked committed)
      | else-contains w ↦ rw w.rows-is (upto_skip ok os ls k c.blocks-blocks.result.bits c.loop-block.rows c.blocks-blocks.ensures
          (ap (has c.blocks-blocks.result.bits) (sym c.from.ensures) ∙ sym w.if-contains.ensures) c.loop-block.invariant)
    ]

pub returns : goal.returns
returns g c =
    let ok = g.R.LockRule.allows c.args.rule.now in
    let os = c.args.self.now.open.items in
    let ls = c.args.self.now.locks.inner.items in
    let all : c.loop-block.block ≡ 64 = omega arith in
    upto_all ok os ls c.blocks-blocks.result.bits c.blocks-blocks.ensures c.loop-block.rows (subst (λ (n : ℕ). Upto ok os ls n c.loop-block.rows) all c.loop-block.invariant)
