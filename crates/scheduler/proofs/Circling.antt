-- A transaction that begins to wait: a chain of waits led back to it before exactly if it now stands in a circle.
use Rattle.std.proofs.Common.{◌≡◌, ℕ, Bool, true, false, cond, not, eqb, List, [], ◌∷◌, get_or, set, ℤ, is_some, Some, Ok, Decides, sym, refl, ap, ◌∙◌, subst, inl, inr}
use Rattle.std.proofs.lemmas.List.{get_or-set_same}
use Rattle.std.proofs.lemmas.Bool.{cases_eq, eq-eqb}
use Rattle.store.specs.Meaning.{Writes}
use Rattle.scheduler.specs.declared.reply.Reply.TheVariants.{Deadlock, Wait}
use Rattle.scheduler.specs.declared.transaction.Ask.{Ask}
use Rattle.scheduler.specs.declared.transaction.State.{State}
use Rattle.scheduler.specs.declared.transaction.State.TheVariants.{Waiting}
use Rattle.scheduler.specs.declared.transaction.Transaction.{Transaction}
use Rattle.scheduler.specs.Orders.{no_transaction}
use Rattle.scheduler.specs.Blockers.{Chain, In, Rule, Waits, blockers, here, on}
use Rattle.scheduler.specs.Circles.{Circle}
use Rattle.scheduler.specs.Found.{At}
use Rattle.scheduler.specs.Ledger.{Answer, Ledger, closed, restated, state_of, struck, transaction}
use Rattle.scheduler.specs.Moves.{moved}
use Rattle.scheduler.specs.Steps.{Blocked, Met, Terms}
use Rattle.scheduler.proofs.Members.{in_nothing}
use Rattle.scheduler.proofs.Opens.{restated_other, restated_same}

-- the ledger with t waiting for a
abbrev pub in_wait : ℕ → Ask → Ledger → Ledger
in_wait t a L = record { begins = L.begins; opens = restated t (Waiting a) L.opens; locks = L.locks }

waiting_same : {a b : Ask} → Some (Waiting a) ≡ Some (Waiting b) → a ≡ b
waiting_same e = cc

module _ (ok : Rule) (L : Ledger) (t : ℕ) (a : Ask) (o : is_some (state_of t L.opens) ≡ true) where
  -- what the others wait for is the same
  to_wait : {u v : ℕ} → (u ≡ t → ⊥) → Waits ok L u v → Waits ok (in_wait t a L) u v
  to_wait {u} {v} n w = record { ask = w.ask; state = restated_other u t (Waiting a) L.opens n ∙ w.state; blocker = w.blocker }

  from_wait : {u v : ℕ} → (u ≡ t → ⊥) → Waits ok (in_wait t a L) u v → Waits ok L u v
  from_wait {u} {v} n w = record { ask = w.ask; state = sym (restated_other u t (Waiting a) L.opens n) ∙ w.state; blocker = w.blocker }

  -- a chain is cut where it first comes to t
  chain_to : {u w : ℕ} → Chain ok L u w → w ≡ t → Chain ok (in_wait t a L) u w
  chain_to here e = here
  chain_to (on {u} {w} v x c) e = elim (cases_eq u t) [
    | inl q ↦ subst (Chain ok (in_wait t a L) u) (q ∙ sym e) here
    | inr n ↦ on v (to_wait n x) (chain_to c e)
  ]

  chain_from : {u w : ℕ} → Chain ok (in_wait t a L) u w → w ≡ t → Chain ok L u w
  chain_from here e = here
  chain_from (on {u} {w} v x c) e = elim (cases_eq u t) [
    | inl q ↦ subst (Chain ok L u) (q ∙ sym e) here
    | inr n ↦ on v (from_wait n x) (chain_from c e)
  ]

  circle : (b : ℕ) → In b (blockers ok L.locks t a) → Chain ok L b t → Circle ok (in_wait t a L) t
  circle b m c = record { blocker = b; waits = record { ask = a; state = restated_same t (Waiting a) L.opens o; blocker = m }; back = chain_to c refl }

  no_circle : (Circle ok (in_wait t a L) t → ⊥) → (b : ℕ) → In b (blockers ok L.locks t a) → Chain ok L b t → ⊥
  no_circle n b m c = n (circle b m c)

  uncircle : Circle ok (in_wait t a L) t → ((b : ℕ) → In b (blockers ok L.locks t a) → Chain ok L b t → ⊥) → ⊥
  uncircle c n =
      let asks = waiting_same (sym (restated_same t (Waiting a) L.opens o) ∙ c.waits.state) in
      n c.blocker (subst (λ (x : Ask). In c.blocker (blockers ok L.locks t x)) (sym asks) c.waits.blocker) (chain_from c.back refl)

  pub dead : Circle ok (in_wait t a L) t → Blocked ok L t (blockers ok L.locks t a) (Ok (Deadlock t))
  dead c = record { circle = λ b m h. refl; clear = λ n. absurd (uncircle c n) }

  pub waits : (Circle ok (in_wait t a L) t → ⊥) → (b : ℕ) → In b (blockers ok L.locks t a) → Blocked ok L t (blockers ok L.locks t a) (Ok (Wait t b))
  waits n b m = record { circle = λ c k h. absurd (no_circle n c k h); clear = λ _. (b, m, refl) }

-- the place i is t's
module _ (L : Ledger) (t i : ℕ) (s : State) (at : At L.opens t i) where
  pub moved_is : moved i s L ≡ record { begins = L.begins; opens = restated t s L.opens; locks = L.locks }
  moved_is = ap (λ (os : List Transaction). record { begins = L.begins; opens = os; locks = L.locks }) (ap (λ (n : ℕ). set L.opens i (transaction n s)) at.number ∙ sym (at.change s))

pub closed-restated : (t : ℕ) (s : State) (os : List Transaction) → closed t (restated t s os) ≡ closed t os
closed-restated t s [] = refl
closed-restated t s (o ∷ os) = go (eqb o.number t) refl (closed-restated t s os)
  where
    go : (b : Bool) → eqb o.number t ≡ b → closed t (restated t s os) ≡ closed t os → closed t (cond b (transaction t s ∷ os) (o ∷ restated t s os)) ≡ closed t (o ∷ os)
    go true e rest = ap (λ (b : Bool). cond (not b) (transaction t s ∷ closed t os) (closed t os)) (eq-eqb t t refl) ∙ sym (ap (λ (b : Bool). cond (not b) (o ∷ closed t os) (closed t os)) e)
    go false e rest = ap (λ (r : List Transaction). cond (not (eqb o.number t)) (o ∷ r) r) rest

pub struck-wait : (t : ℕ) (a : Ask) (L : Ledger) → struck t (in_wait t a L) ≡ struck t L
struck-wait t a L = ap (λ (os : List Transaction). record { begins = L.begins; opens = os; locks = (struck t L).locks }) (closed-restated t (Waiting a) L.opens)

pub met_blocked : (ok : Rule) (k : Terms) (L : Ledger) (cs : List ℤ) (p : Writes) (t : ℕ) (x : Ask) (bs : List ℕ) (a : Answer) (b : ℕ) → In b bs → Blocked ok L t bs a → Met ok k L cs p t x bs a
met_blocked ok k L cs p t x [] a b m B = absurd (in_nothing m)
met_blocked ok k L cs p t x (c ∷ bs) a b m B = B

-- the search's answer at the place i, said of t
pub circle-at : (ok : Rule) (L : Ledger) (t i : ℕ) (a : Ask) → At L.opens t i → (M : Ledger) → M ≡ moved i (Waiting a) L → (r : Bool) → Decides r (Circle ok M (get_or M.opens i no_transaction).number) → Decides r (Circle ok (in_wait t a L) t)
circle-at ok L t i a at M e r d =
    let now : M ≡ in_wait t a L = e ∙ moved_is L t i (Waiting a) at in
    let its : (get_or M.opens i no_transaction).number ≡ t =
    ap (λ (N : Ledger). (get_or N.opens i no_transaction).number) e
    ∙ ap (λ (o : Transaction). o.number) (get_or-set_same L.opens i (transaction (get_or L.opens i no_transaction).number (Waiting a)) no_transaction at.within)
    ∙ at.number in
    subst (λ (N : Ledger). Decides r (Circle ok N t)) now (subst (λ (n : ℕ). Decides r (Circle ok M n)) its d)
