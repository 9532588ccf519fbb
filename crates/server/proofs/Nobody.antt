-- The transaction 0 is never open, so it has no pending writes.
use Rattle.std.proofs.Common.{List, [], ◌∷◌, ℤ, Some, None, Ok, Err, Option, sym, ◌∙◌, subst, inl, inr, arith}
use Rattle.std.proofs.lemmas.Bool.{false≢true}
use Rattle.records.specs.declared.refusal.Refusal.{Refusal}
use Rattle.records.specs.declared.request.Request.{Request}
use Rattle.store.specs.Meaning.{Writes}
use Rattle.scheduler.specs.Blockers.{Rule}
use Rattle.scheduler.specs.Ledger.{Answer, Ledger, asked, feed}
use Rattle.scheduler.specs.Steps.{Answers, Terms}
use Rattle.scheduler.specs.declared.reply.Reply.TheVariants.{Opened, Value, Written, Committed, Aborted, Wait, Deadlock}
use Rattle.scheduler.specs.declared.transaction.State.TheVariants.{Active}
use Rattle.history.specs.Law.{Open}
use Rattle.history.specs.Run.{Run, Served, committed_of, ledger, pending_of}
use Rattle.history.proofs.Facts.{Facts, IsOpen}
use Rattle.history.proofs.Granted.{facts}
use Rattle.history.proofs.Tables.{more-open, open-closed, open-restated, open-waiting}

-- an answer opens only the number above the begins
not_opened : (ok : Rule) (L : Ledger) (cs : List ℤ) (p : Writes) (q : Request) (a : Answer) → Facts ok L cs p q a → IsOpen (feed L q a) 0 → IsOpen L 0
not_opened ok L cs p q (Ok (Opened t)) f h = elim (more-open 0 t Active L.opens h) [ inl e ↦ absurd (omega arith) | inr o ↦ o ]
not_opened ok L cs p q (Ok (Value t i v)) f h = sym (open-restated 0 t Active L.opens f.0) ∙ h
not_opened ok L cs p q (Ok (Written t i)) f h = sym (open-restated 0 t Active L.opens f.0) ∙ h
not_opened ok L cs p q (Ok (Committed t)) f h = (open-closed 0 t L.opens h).1
not_opened ok L cs p q (Ok (Aborted t)) f h = (open-closed 0 t L.opens h).1
not_opened ok L cs p q (Ok (Wait t b)) f h = sym (open-waiting 0 t (asked L q) L.opens f.0) ∙ h
not_opened ok L cs p q (Ok (Deadlock t)) f h = (open-closed 0 t L.opens h).1
not_opened ok L cs p q (Err e) f h = h

one_answer : (ok : Rule) (k : Terms) (refusal : Option Refusal) (L : Ledger) (cs : List ℤ) (p : Writes) (q : Request) (a : Answer) → Answers ok k refusal L cs p q a → IsOpen (feed L q a) 0 → IsOpen L 0
one_answer ok k None L cs p q a s h = not_opened ok L cs p q a (facts ok k L cs p q a s) h
one_answer ok k (Some e) L cs p q a s h = subst (λ (x : Answer). IsOpen (feed L q x) 0) s h

pub nobody : (ok : Rule) (k : Terms) (refusal : Option Refusal) (vs : List ℤ) (p : Writes) (r : Run) → Served ok k refusal vs p r → Open r 0 → ⊥
nobody ok k refusal vs p [] s h = false≢true h
nobody ok k refusal vs p (e ∷ r) s h = nobody ok k refusal vs p r s.1 (one_answer ok k refusal (ledger r) (committed_of vs p r) (pending_of p r) e.call e.answer s.0 h)
