use Rattle.std.proofs.Common.{◌≡◌, ◌^◌, ◌<◌, subst, sym, ◌∙◌, arith, rules}
use Rattle.std.proofs.lemmas.Bool.{eqb-false, eqb-true}
use Rattle.scheduler.proofs.Reaching.{leading-one, leading_widened, leading-all}
use Rattle.scheduler.specs.Ways.{Widened}
use Rattle.scheduler.proofs.reach.leading_to.Goals as goal

pub loop-wider-init : goal.loop-wider-init
loop-wider-init c = leading-one _ c.with-marked.ensures.value

pub returns-then-eq : goal.returns-then-eq
returns-then-eq c =
    let same : c.widened-wider.result.bits ≡ c.loop-wider.marked.bits = eqb-true _ _ (sym c.eq.ensures ∙ c.if-eq.true) in
    leading-all c.loop-wider.invariant (subst (Widened c.args.rows.now c.loop-wider.marked.bits) same c.widened-wider.ensures)

pub loop-wider-smaller : goal.loop-wider-smaller
loop-wider-smaller c =
    let small : c.widened-wider.result.bits < 2 ^ 64 = search rules in
    let other : c.widened-wider.result.bits ≡ c.loop-wider.marked.bits → ⊥ = eqb-false _ _ (sym c.eq.ensures ∙ c.if-eq.false) in
    omega (arith, small, other, c.widened-wider.ensures.more)

pub loop-wider-preserved : goal.loop-wider-preserved
loop-wider-preserved c = leading_widened c.loop-wider.invariant c.widened-wider.ensures
