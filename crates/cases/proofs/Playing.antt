-- From one call to a whole script.
use Rattle.std.proofs.Common.{◌≡◌, List, [], ◌∷◌, length, ℤ, None, Option, sym, refl, ap, ◌∙◌, subst, ap₂, arith}
use Rattle.records.specs.declared.refusal.Refusal.{Refusal}
use Rattle.records.specs.declared.request.Request.{Request}
use Rattle.store.specs.Meaning.{nothing}
use Rattle.scheduler.specs.Ledger.{Answer}
use Rattle.scheduler.specs.Steps.{pair_refusal}
use Rattle.history.specs.Run.{Entry, Run, Served, committed_of, ledger, onto, pending_of, run_of}
use Rattle.cases.specs.Servers.{Server}
use Rattle.cases.specs.Scripts.{Plays, Script, answers, calls, pair_of, played}
use Rattle.cases.proofs.Pending.{none-held}
use Rattle.cases.proofs.Sure.{Sure}

infixr 5 ◌then◌
-- each answer of the script is sure, behind the run of the first index
pub data AllSure (s : Server) (vs : List ℤ) : Run → Script → Type 0 where
  done : {r : Run} → AllSure s vs r []
  ◌then◌ : {r : Run} {e : Entry} {es : Script} → Sure s (ledger r) (committed_of vs nothing r) (pending_of nothing r) e.call e.answer → AllSure s vs (e ∷ r) es → AllSure s vs r (e ∷ es)

module _ (s : Server) (vs : List ℤ) where
  abbrev Before : Run → Type 0
  Before r = Served s.rule s.terms None vs nothing r

  served-on : (r : Run) (es : Script) → Before r → AllSure s vs r es → Before (onto r (calls es) (answers es))
  served-on _ _ h done = h
  served-on _ _ h (◌then◌ {r} {e} {es} a t) = served-on (e ∷ r) es (a.fits, h) t

  served-before : (r : Run) (qs : List Request) (as' : List Answer) → Before (onto r qs as') → Before r
  served-before r [] as' h = h
  served-before r (q ∷ qs) [] h = h
  served-before r (q ∷ qs) (a ∷ as') h = (served-before (record { call = q; answer = a } ∷ r) qs as' h).1

  only_these : (r : Run) (es : Script) → AllSure s vs r es → (as' : List Answer) → length as' ≡ length (calls es) → Before (onto r (calls es) as') → as' ≡ answers es
  only_these _ _ done [] l h = refl
  only_these _ _ done (b ∷ as') l h = absurd (omega arith)
  only_these _ _ (a then t) [] l h = absurd (omega arith)
  only_these _ _ (◌then◌ {r} {e} {es} a t) (b ∷ as') l h =
      let same : b ≡ e.answer = a.only b (served-before (record { call = e.call; answer = b } ∷ r) (calls es) as' h).0 in
      ap₂ (λ (c : Answer) (cs : List Answer). c ∷ cs) same
      (only_these (e ∷ r) es t as' (omega arith) (subst (λ (c : Answer). Before (onto (record { call = e.call; answer = c } ∷ r) (calls es) as')) same h))

  pub plays : pair_refusal s.rule s.terms.private 0 ≡ None → {es : Script} → AllSure s vs [] es → Plays s vs es
  plays pair {es} t = record {
    served = subst (λ (x : Option Refusal). Served s.rule s.terms x vs nothing (played es)) (sym not-refused) (served-on [] es tt t);
    only = λ as' l h. only_these [] es t as' l (subst (λ (x : Option Refusal). Served s.rule s.terms x vs nothing (run_of (calls es) as')) not-refused h);
  }
    where
      not-refused : pair_of s vs ≡ None
      not-refused = ap (pair_refusal s.rule s.terms.private) (none-held (length vs)) ∙ pair
