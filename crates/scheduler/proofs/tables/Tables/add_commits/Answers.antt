use Rattle.std.proofs.Common.{ℕ, ◌<◌, Bool, false, not, ◌&&◌, ◌||◌, eqb, List, length, get_or, sym, refl, ap, ◌∙◌, subst, arith}
use Rattle.std.proofs.lemmas.List.{length-set, take_all}
use Rattle.std.proofs.lemmas.Bool.{both_ways}
use Rattle.scheduler.specs.declared.lock.Kind.TheVariants.{Read}
use Rattle.scheduler.specs.declared.lock.Lock.{Lock}
use Rattle.scheduler.specs.Bits.{has}
use Rattle.scheduler.specs.Edges.{Held, More, commits, committing, in_block}
use Rattle.scheduler.specs.ItemSets.{no_places}
use Rattle.scheduler.proofs.Gathered.{commits_add, commits_gone, commits-none, commits_other, commits_skip, is_committing}
use Rattle.scheduler.proofs.tables.Tables.add_commits.Goals as goal
use Rattle.scheduler.proofs.tables.Tables.add_commits.Goals.{then-counts+in-Some+then-is_committing, then-counts+in-Some+else-is_committing, then-counts+in_default, else-counts}

pub loop-lock-init : goal.loop-lock-init
loop-lock-init c = (c.list-locks.ensures, c.told-rows, commits-none c.args.self.now.open.items c.list-locks.result.now c.args.holders.now.block c.args.rows.now)

pub loop-lock-preserved : goal.loop-lock-preserved
loop-lock-preserved c =
    let T = c.args.self.now in
    let os = T.open.items in
    let ls = c.list-locks.result.now in
    let k = c.loop-lock.lock-index in
    let w = c.args.holders.now.block in
    let old = c.args.rows.now in
    let rows = c.loop-lock.rows in
    let inv = c.loop-lock.invariant.2 in
    elim c.if-counts.branch [
      | then-counts+in-Some+then-is_committing v ↦
          let lp : v.in-Some.b < length rows = omega (arith, c.loop-lock.invariant.1, v.in-Some.ensures.within, T.few) in
          rw v.rows-is (
            c.loop-lock.invariant.0,
            length-set rows v.in-Some.b v.union.result ∙ c.loop-lock.invariant.1,
            commits_add os T.begins T.rising ls k w c.loop-lock-test.true old rows inv v.in-Some.b v.in-Some.ensures v.union.result (sym v.state.ensures ∙ is_committing v.state.result (sym v.if-is_committing.ensures)) (sym v.if-counts.ensures) lp
                c.args.holders.now.readers (subst (λ (xs : List Lock). Held os xs w Read c.args.holders.now.readers) (sym c.loop-lock.invariant.0) c.requires.readers)
                (λ a. v.union.ensures a ∙ ap (λ (t : Bool). has (get_or rows v.in-Some.b no_places).bits a || t) (v.without.ensures a ∙ ap (λ (n : ℕ). has (get_or c.args.holders.now.readers n no_places).bits a && not (eqb v.in-Some.b a)) v.from.ensures)),
          )
      | then-counts+in-Some+else-is_committing v ↦ rw v.rows-is (c.loop-lock.invariant.0, c.loop-lock.invariant.1, commits_other os T.begins T.rising ls k w c.loop-lock-test.true old rows inv v.in-Some.b v.in-Some.ensures (λ q. both_ways false refl (v.if-is_committing.ensures ∙ ap committing (v.state.ensures ∙ q))))
      | then-counts+in_default v ↦ rw v.rows-is (c.loop-lock.invariant.0, c.loop-lock.invariant.1, commits_gone os T.begins T.rising ls k w c.loop-lock-test.true old rows inv v.in_default.ensures)
      | else-counts v ↦ rw v.rows-is (c.loop-lock.invariant.0, c.loop-lock.invariant.1, commits_skip os T.begins T.rising ls k w c.loop-lock-test.true old rows inv (sym v.if-counts.ensures))
    ]

pub returns : goal.returns
returns c =
    let T = c.args.self.now in
    let os = T.open.items in
    let ls = c.list-locks.result.now in
    subst (λ (xs : List Lock). More os (commits (in_block c.args.holders.now.block) xs xs) c.args.rows.now c.loop-lock.rows) c.loop-lock.invariant.0
    (subst (λ (xs : List Lock). More os (commits (in_block c.args.holders.now.block) ls xs) c.args.rows.now c.loop-lock.rows) (take_all c.loop-lock.lock-index ls c.loop-lock-test.false) c.loop-lock.invariant.2)
