use Rattle.std.proofs.Common.{◌<◌, ◌≤◌, Bool, ◌||◌, length, get_or, ap, ◌∙◌, arith}
use Rattle.std.proofs.lemmas.List.{length-set}
use Rattle.scheduler.specs.Bits.{has}
use Rattle.scheduler.specs.Edges.{asks, in_block}
use Rattle.scheduler.specs.ItemSets.{no_places}
use Rattle.scheduler.proofs.Gathered.{asks_all, asks-more, asks_none}
use Rattle.scheduler.proofs.tables.Tables.add_asks.Goals as goal

pub loop-b-init : goal.loop-b-init
loop-b-init g c =
    let os = c.args.self.now.open.items in
    let f = asks (in_block c.args.holders.now.block) (g.R.LockRule.allows c.args.rule.now) c.args.self.now.locks.inner.items in
    (c.told-rows, λ a b la lb. asks_none os f (has (get_or c.args.rows.now b no_places).bits a) b a)

pub loop-b-preserved : goal.loop-b-preserved
loop-b-preserved g c =
    let os = c.args.self.now.open.items in
    let f = asks (in_block c.args.holders.now.block) (g.R.LockRule.allows c.args.rule.now) c.args.self.now.locks.inner.items in
    let i = c.loop-b.b in
    let li : i < length c.loop-b.rows = omega (arith, c.loop-b.invariant.0, c.loop-b-test.true, c.args.self.now.few) in (
      length-set c.loop-b.rows i c.union.result ∙ c.loop-b.invariant.0,
      asks-more os f c.args.rows.now c.loop-b.rows i c.union.result li c.loop-b.invariant.1
          (λ a la. c.union.ensures a ∙ ap (λ (t : Bool). has (get_or c.loop-b.rows i no_places).bits a || t) (c.asked_in.ensures a la)),
    )

pub returns : goal.returns
returns g c =
    let T = c.args.self.now in
    let os = T.open.items in
    let f = asks (in_block c.args.holders.now.block) (g.R.LockRule.allows c.args.rule.now) T.locks.inner.items in
    let all : length os ≤ c.loop-b.b = omega (arith, c.loop-b-test.false) in
    λ a b la lb. c.loop-b.invariant.1 a b la lb ∙ ap (λ (t : Bool). has (get_or c.args.rows.now b no_places).bits a || t) (asks_all os f c.loop-b.b b a all)
