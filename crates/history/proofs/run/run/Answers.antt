use Rattle.std.proofs.Common.{◌≡◌, List, [], ◌∷◌, ◌++◌, length, get_or, take, vec_items, Option, sym, refl, ap, ◌∙◌, subst, ap₂, arith, rules}
use Rattle.std.proofs.lemmas.List.{take_all, take_more}
use Rattle.records.specs.declared.refusal.Refusal.{Refusal}
use Rattle.records.specs.declared.request.Request.{Request}
use Rattle.records.specs.declared.request.Request.TheVariants.{Begin}
use Rattle.store.specs.Meaning.{held_count}
use Rattle.scheduler.specs.Ledger.{Answer, Ledger}
use Rattle.scheduler.specs.Stepped.{Situation}
use Rattle.scheduler.specs.Steps.{Answers, Terms, pair_refusal}
use Rattle.scheduler.specs.Tables.{ledger_of}
use Rattle.history.specs.Ran.{Ran}
use Rattle.history.proofs.Going.{Going, GoingOn, going-none, going-push, ran}
use Rattle.history.proofs.run.run.Goals as goal

pub loop-call-init : goal.loop-call-init
loop-call-init g c =
    let S = g.S.Store in
    let k : Terms = record { private = S.private; room = S.room; share = S.share } in
    let O = c.open-scheduler.result in
    let e = c.open-scheduler.ensures in
    let ok = g.R.LockRule.allows O.rule in
    let pair : O.refusal ≡ pair_refusal ok S.private (held_count (S.pending O.store) (length (S.committed O.store))) =
    e.refusal ∙ ap₂ (λ r s. pair_refusal (g.R.LockRule.allows r) S.private (held_count (S.pending s) (length (S.committed s)))) (sym e.rule) (sym e.store) in
    let made = c.in_ok-answers.ensures in (
      made.len,
      made.capacity,
      refl,
      refl,
      refl,
      (
        ap length made.items,
        subst (λ (L : Ledger). Going ok k O.refusal (S.committed O.store) (S.pending O.store) [] L (S.committed O.store) (S.pending O.store)) (sym e.tables)
            (going-none ok k (S.committed O.store) (S.pending O.store) (g.met.S.Store.sound O.store) O.refusal pair),
      ),
    )

pub loop-call-preserved : goal.loop-call-preserved
loop-call-preserved g c =
    let S = g.S.Store in
    let k : Terms = record { private = S.private; room = S.room; share = S.share } in
    let O = c.open-scheduler.result in
    let e = c.open-scheduler.ensures in
    let ok = g.R.LockRule.allows O.rule in
    let pair : O.refusal ≡ pair_refusal ok S.private (held_count (S.pending O.store) (length (S.committed O.store))) =
    e.refusal ∙ ap₂ (λ r s. pair_refusal (g.R.LockRule.allows r) S.private (held_count (S.pending s) (length (S.committed s)))) (sym e.rule) (sym e.store) in
    let now' = c.loop-call.scheduler in
    let then' = c.call-answer.new.self in
    let s : Situation = record { ledger = ledger_of now'.tables; committed = S.committed now'.store; pending = S.pending now'.store } in
    let n : Situation = record { ledger = ledger_of then'.tables; committed = S.committed then'.store; pending = S.pending then'.store } in
    let i = c.loop-call.invariant in
    let j = c.loop-call.call-index in
    let qs = c.args.calls.now in
    let q = get_or qs j Begin in
    let told : Answers ok k O.refusal s.ledger s.committed s.pending q c.call-answer.result =
    subst (λ (x : Option Refusal). Answers ok k x s.ledger s.committed s.pending q c.call-answer.result) i.3
    (subst (λ r. Answers (g.R.LockRule.allows r) k now'.refusal s.ledger s.committed s.pending q c.call-answer.result) i.2 c.call-answer.ensures.answer) in (
      omega (arith, i.0, c.push_reserved.ensures.len),
      search rules,
      c.call-answer.ensures.same.0 ∙ i.2,
      c.call-answer.ensures.same.1 ∙ i.3,
      c.call-answer.ensures.same.2 ∙ i.4,
      subst (λ (xs : List Request). GoingOn ok k O.refusal (S.committed O.store) (S.pending O.store) xs (vec_items c.push_reserved.new.self) n.ledger n.committed n.pending) (sym (take_more qs j Begin c.loop-call-test.true))
          (subst (λ (xs : List Answer). GoingOn ok k O.refusal (S.committed O.store) (S.pending O.store) (take j qs ++ q ∷ []) xs n.ledger n.committed n.pending) (sym c.push_reserved.ensures.items)
          (going-push ok (g.met.R.LockRule.apart O.rule) k (S.committed O.store) (S.pending O.store) O.refusal pair (take j qs) (vec_items c.loop-call.answers) q c.call-answer.result s n i.5 told c.call-answer.ensures.step)),
    )

pub returns : goal.returns
returns g c =
    let S = g.S.Store in
    let k : Terms = record { private = S.private; room = S.room; share = S.share } in
    let O = c.open-scheduler.result in
    let e = c.open-scheduler.ensures in
    let qs = c.args.calls.now in
    let all = take_all c.loop-call.call-index qs c.loop-call-test.false in
    let F = c.loop-call.scheduler in
    let as' = vec_items c.loop-call.answers in
    let r = ran (g.R.LockRule.allows O.rule) k O.refusal (S.committed O.store) (S.pending O.store) (take c.loop-call.call-index qs) as' (ledger_of F.tables) (S.committed F.store) (S.pending F.store) c.loop-call.invariant.5 in
    let PR = pair_refusal (g.R.LockRule.allows c.args.rule) S.private (held_count (S.pending c.args.store) (length (S.committed c.args.store))) in
    let L = ledger_of F.tables in
    let ws = S.committed F.store in
    let ps = S.pending F.store in
    record {
      ran =
          subst (λ (xs : List Request). Ran (g.R.LockRule.allows c.args.rule) k PR (S.committed c.args.store) (S.pending c.args.store) xs as' L ws ps) all
          (subst (λ s. Ran (g.R.LockRule.allows c.args.rule) k PR (S.committed s) (S.pending s) (take c.loop-call.call-index qs) as' L ws ps) e.store
          (subst (λ y. Ran (g.R.LockRule.allows y) k PR (S.committed O.store) (S.pending O.store) (take c.loop-call.call-index qs) as' L ws ps) e.rule
          (subst (λ (x : Option Refusal). Ran (g.R.LockRule.allows O.rule) k x (S.committed O.store) (S.pending O.store) (take c.loop-call.call-index qs) as' L ws ps) e.refusal r)));
      same = (
        c.loop-call.invariant.2 ∙ e.rule,
        c.loop-call.invariant.3 ∙ e.refusal,
        c.loop-call.invariant.4 ∙ ap S.place e.store,
      );
    }
