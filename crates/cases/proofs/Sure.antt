-- One answer to a call, and no other.
use Rattle.std.proofs.Common.{◌≡◌, ℕ, Bool, false, not, ◌&&◌, ◌||◌, eqb, leb, List, [], ◌∷◌, length, get_or, ℤ, pos, Some, None, Ok, Result, unwrap_or, sym, refl, ap, ◌∙◌, subst, arith}
use Rattle.std.proofs.lemmas.Bool.{cond-false, eqb-false}
use Rattle.records.specs.declared.refusal.Refusal.{Refusal}
use Rattle.records.specs.declared.request.Request.{Request}
use Rattle.store.specs.Meaning.{Writes, refused}
use Rattle.scheduler.proofs.Members.{in_nothing}
use Rattle.scheduler.specs.declared.lock.Kind.TheVariants.{Read, Write}
use Rattle.scheduler.specs.declared.reply.Reply.TheVariants.{Deadlock, Value, Wait, Written}
use Rattle.scheduler.specs.declared.transaction.Ask.{Ask}
use Rattle.scheduler.specs.declared.transaction.Ask.TheVariants.{Read as ask_read, Write as ask_write}
use Rattle.scheduler.specs.declared.transaction.State.TheVariants.{Active}
use Rattle.scheduler.specs.Blockers.{Chain, In, Rule, Waits, blockers, first, here, later, on}
use Rattle.scheduler.specs.Ledger.{Answer, Ledger, holds, state_of}
use Rattle.scheduler.specs.Steps.{Answers, Blocked, Done, Met, Placed, Task, checked, full, granted, no_item, trying, value_put, value_read}
use Rattle.cases.specs.Servers.{Server}

-- a is the answer to q, where the pair is not refused
pub record Sure (s : Server) (L : Ledger) (cs : List ℤ) (p : Writes) (q : Request) (a : Answer) : Type 0 where
  pub fits : Answers s.rule s.terms None L cs p q a
  pub only : (b : Answer) → Answers s.rule s.terms None L cs p q b → b ≡ a

-- the steps say outright which answer it is
pub outright : {s : Server} {L : Ledger} {cs : List ℤ} {p : Writes} {q : Request} {a : Answer} → ((b : Answer) → Answers s.rule s.terms None L cs p q b ≡ (b ≡ a)) → Sure s L cs p q a
outright {a} e = record { fits = subst (λ (X : Type 0). X) (sym (e a)) refl; only = λ b. subst (λ (X : Type 0). X) (e b) }

-- what the answer has to be, where q asks for x on an item that there is, and bs block it
met : (s : Server) (L : Ledger) (cs : List ℤ) (p : Writes) (q : Request) (t : ℕ) (x : Ask) (bs : List ℕ) → checked L q ≡ Ok (trying t x) → no_item (length cs) x ≡ false → blockers s.rule L.locks t x ≡ bs
    → (b : Answer) → Answers s.rule s.terms None L cs p q b ≡ Met s.rule s.terms L cs p t x bs b
met s L cs p q t x bs asks there by b =
    ap (λ (c : Result Task Refusal). Done s.rule s.terms L cs p c b) asks
    ∙ ap (λ (n : Bool). Placed s.rule s.terms L cs p t x n b) there
    ∙ ap (λ (us : List ℕ). Met s.rule s.terms L cs p t x us b) by

lone : {u v : ℕ} → In v (u ∷ []) → v ≡ u
lone first = refl
lone (later m) = absurd (in_nothing m)

-- no chain of waits leads on from an active transaction
stops : {ok : Rule} {L : Ledger} {u t : ℕ} → Chain ok L u t → (u ≡ t → ⊥) → state_of u L.opens ≡ Some Active → ⊥
stops here ne active = ne refl
stops (on v w c) ne active = let z : ◌≡◌ {A = ℕ} 0 1 = cc (active, w.state) in omega arith

module _ {s : Server} {L : Ledger} {cs : List ℤ} {p : Writes} {q : Request} {t : ℕ} {x : Ask} (asks : checked L q ≡ Ok (trying t x)) (there : no_item (length cs) x ≡ false) where
  grants : {a : Answer} → blockers s.rule L.locks t x ≡ [] → granted s.terms L cs p t x ≡ a → Sure s L cs p q a
  grants {a} by e = outright (λ b. met s L cs p q t x [] asks there by b ∙ ap (λ (c : Answer). b ≡ c) e)

  module _ {u : ℕ} (by : blockers s.rule L.locks t x ≡ u ∷ []) where
    blocked : {a : Answer} → Blocked s.rule L t (u ∷ []) a → ((b : Answer) → Blocked s.rule L t (u ∷ []) b → b ≡ a) → Sure s L cs p q a
    blocked {a} h same = record {
      fits = subst (λ (X : Type 0). X) (sym (met s L cs p q t x (u ∷ []) asks there by a)) h;
      only = λ b k. same b (subst (λ (X : Type 0). X) (met s L cs p q t x (u ∷ []) asks there by b) k);
    }

    -- the blocker is active
    pub waits_for : eqb u t ≡ false → state_of u L.opens ≡ Some Active → Sure s L cs p q (Ok (Wait t u))
    waits_for ne active = blocked (record { circle = λ v m c. absurd (none v m c); clear = λ _. (u, first, refl) }) (λ b h. let w = h.clear none in w.2 ∙ ap (λ (v : ℕ). Ok (Wait t v)) (lone w.1))
      where
        none : (v : ℕ) → In v (u ∷ []) → Chain s.rule L v t → ⊥
        none v m c = stops (subst (λ (w : ℕ). Chain s.rule L w t) (lone m) c) (eqb-false u t ne) active

    -- the blocker waits for t
    pub deadlocks_by : Waits s.rule L u t → Sure s L cs p q (Ok (Deadlock t))
    deadlocks_by w = blocked (record { circle = λ _ _ _. refl; clear = λ n. absurd (n u first (on t w here)) }) (λ b h. h.circle u first (on t w here))

module _ {s : Server} {L : Ledger} {cs : List ℤ} {p : Writes} {q : Request} {t i : ℕ} {v : ℤ} where
  pub reads_sure : checked L q ≡ Ok (trying t (ask_read i)) → leb (length cs) i ≡ false → blockers s.rule L.locks t (ask_read i) ≡ []
      → (not (holds t i Read L.locks || holds t i Write L.locks) && full L) ≡ false → unwrap_or (p t i) (get_or cs i (pos 0)) ≡ v → Sure s L cs p q (Ok (Value t i v))
  reads_sure asks there by room e =
      grants asks there by
      (cond-false (not (holds t i Read L.locks || holds t i Write L.locks) && full L) _ _ room
      ∙ ap (value_read t i) (cond-false (leb (length cs) i) _ _ there ∙ ap {B = Result ℤ Refusal} Ok e))

  pub writes_sure : checked L q ≡ Ok (trying t (ask_write i v)) → leb (length cs) i ≡ false → blockers s.rule L.locks t (ask_write i v) ≡ []
      → (not (holds t i Write L.locks) && full L) ≡ false → refused s.terms.private s.terms.room s.terms.share cs p t i ≡ None → Sure s L cs p q (Ok (Written t i))
  writes_sure asks there by room e = grants asks there by (cond-false (not (holds t i Write L.locks) && full L) _ _ room ∙ ap (value_put t i) e)
