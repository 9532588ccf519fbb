-- Waits never go round in a circle, so somebody waits for nobody.
use Rattle.std.proofs.Common.{◌≡◌, ℕ, ◌+◌, Bool, true, false, cond, ◌||◌, ◌⊎◌, List, [], ◌∷◌, ◌++◌, ℤ, Some, None, Ok, Err, Option, sym, refl, ap, ◌∙◌, subst, inl, inr, arith}
use mathlib.Core.WellFounded.{Acc}
use Rattle.std.proofs.lemmas.Bool.{cases_eq}
use Rattle.records.specs.declared.request.Request.{Request}
use Rattle.store.specs.Meaning.{Writes}
use Rattle.scheduler.specs.declared.lock.Kind.TheVariants.{Read, Write}
use Rattle.scheduler.specs.declared.lock.Lock.{Lock}
use Rattle.scheduler.specs.declared.transaction.Ask.{Ask}
use Rattle.scheduler.specs.declared.transaction.State.{State}
use Rattle.scheduler.specs.declared.transaction.State.TheVariants.{Active, Waiting}
use Rattle.scheduler.specs.declared.reply.Reply.TheVariants.{Opened, Value, Written, Committed, Aborted, Wait, Deadlock}
use Rattle.scheduler.specs.Ledger.{Ledger, Answer, empty, lock, holds, with_read, with_write, state_of, restated, closed, transaction, waiting, asked, struck, feed}
use Rattle.scheduler.specs.Blockers.{Rule, In, first, blockers, Waits, Chain, here, on}
use Rattle.scheduler.proofs.Members.{in_nothing}
use Rattle.scheduler.proofs.Opens.{opens-more, opens-new, restated_same, restated_other, closed_same, closed_other}
use Rattle.scheduler.proofs.Blocking.{blockers-push, blockers-unlocked, blocker-holds}
use Rattle.history.proofs.Facts.{Facts, IsOpen}
use Rattle.history.proofs.Tables.{Kept, is_none, none_shut, none≢some}

-- below R u are those that u waits for
abbrev Below : Type 1
Below = ℕ → ℕ → Type 0

-- where waits go, nothing goes round
module _ (R S : Below) where
  fewer : ((u v : ℕ) → S v u → R v u) → {u : ℕ} → Acc R u → Acc S u
  fewer sub (Acc.intro u h) = Acc.intro u (λ v w. fewer sub (h v (sub u v w)))

  -- new waits only for t, who waits for nobody
  more_for : (t : ℕ) → ((v : ℕ) → S v t → ⊥) → ((u v : ℕ) → S v u → (v ≡ t) ⊎ R v u) → {u : ℕ} → Acc R u → Acc S u
  more_for t idle sub (Acc.intro u h) = Acc.intro u (λ v w. elim (sub u v w) [
    | inl e ↦ Acc.intro v (λ x y. absurd (idle x (subst (λ (z : ℕ). S x z) e y)))
    | inr k ↦ more_for t idle sub (h v k)
  ])

  -- new waits only of t, and no way leads back to t
  module _ (t : ℕ) (To : ℕ → Type 0) (home : To t) (back : (u v : ℕ) → R v u → To v → To u) (same : (u v : ℕ) → (u ≡ t → ⊥) → S v u → R v u) where
    away : {u : ℕ} → Acc R u → (To u → ⊥) → Acc S u
    away (Acc.intro u h) n = Acc.intro u (λ v w. let k = same u v (λ e. n (subst To (sym e) home)) w in away (h v k) (λ x. n (back u v k x)))

    more_of : ((v : ℕ) → S v t → Acc S v) → {u : ℕ} → Acc R u → Acc S u
    more_of rest (Acc.intro u h) = Acc.intro u (λ v w. elim (cases_eq u t) [
      | inl e ↦ rest v (subst (λ (z : ℕ). S v z) e w)
      | inr n ↦ more_of rest (h v (same u v n w))
    ])

-- nobody waits in a circle
abbrev pub Grounded : Rule → Ledger → Type 0
Grounded ok L = (u : ℕ) → Acc (λ v w. Waits ok L w v) u

active≢waiting : {a : Ask} → Some Active ≡ Some (Waiting a) → ⊥
active≢waiting e = let z : ◌≡◌ {A = ℕ} 0 1 = cc in omega arith

waiting_same : {a b : Ask} → Some (Waiting a) ≡ Some (Waiting b) → a ≡ b
waiting_same e = cc

pub grounded_empty : (ok : Rule) → Grounded ok empty
grounded_empty ok u = Acc.intro u (λ v w. absurd (none≢some w.state))

module _ (ok : Rule) (L : Ledger) (K : Kept L) (G : Grounded ok L) (q : Request) where
  opened_grounded : (t : ℕ) → t ≡ L.begins + 1 → Grounded ok (feed L q (Ok (Opened t)))
  opened_grounded t e u = fewer _ _ (λ w v x. old w v x) (G u)
    where
      closed_yet : state_of t L.opens ≡ None
      closed_yet = is_none (state_of t L.opens) (λ o. let k = K.numbered t o in omega arith)

      old : (w v : ℕ) → Waits ok (feed L q (Ok (Opened t))) w v → Waits ok L w v
      old w v x = record { ask = x.ask; state = was; blocker = x.blocker }
        where
          was : state_of w L.opens ≡ Some (Waiting x.ask)
          was = elim (cases_eq w t) [
            | inl d ↦ absurd (active≢waiting (sym (opens-new t Active L.opens closed_yet) ∙ ap (λ (z : ℕ). state_of z (L.opens ++ transaction t Active ∷ [])) (sym d) ∙ x.state))
            | inr n ↦ sym (opens-more w t Active L.opens n) ∙ x.state
          ]

  -- t is active, and may have one lock more, at the end
  module _ (t : ℕ) (o : IsOpen L t) (ls : List Lock) (grown : (ls ≡ L.locks) ⊎ ((l : Lock) × (l.owner ≡ t) × (ls ≡ L.locks ++ l ∷ []))) where
    granted_grounded : Grounded ok (record { begins = L.begins; opens = restated t Active L.opens; locks = ls })
    granted_grounded u = more_for _ _ t (λ v x. idle v x) (λ w v x. old w v x) (G u)
      where
        idle : (v : ℕ) → Waits ok (record { begins = L.begins; opens = restated t Active L.opens; locks = ls }) t v → ⊥
        idle v x = active≢waiting (sym (restated_same t Active L.opens o) ∙ x.state)

        old : (w v : ℕ) → Waits ok (record { begins = L.begins; opens = restated t Active L.opens; locks = ls }) w v → (v ≡ t) ⊎ Waits ok L w v
        old w v x = elim grown [
          | inl e ↦ inr (record { ask = x.ask; state = was; blocker = subst (λ (ms : List Lock). In v (blockers ok ms w x.ask)) e x.blocker })
          | inr g ↦ elim (blockers-push ok w v L.locks g.0 x.ask (λ d. ne (sym d ∙ g.1)) (subst (λ (ms : List Lock). In v (blockers ok ms w x.ask)) g.2 x.blocker)) [
            | inl d ↦ inl (d ∙ g.1)
            | inr m ↦ inr (record { ask = x.ask; state = was; blocker = m })
          ]
        ]
          where
            ne : w ≡ t → ⊥
            ne d = idle v (subst (λ (z : ℕ). Waits ok (record { begins = L.begins; opens = restated t Active L.opens; locks = ls }) z v) d x)

            was : state_of w L.opens ≡ Some (Waiting x.ask)
            was = sym (restated_other w t Active L.opens ne) ∙ x.state

  read_grown : (t i : ℕ) → (with_read t i L.locks ≡ L.locks) ⊎ ((l : Lock) × (l.owner ≡ t) × (with_read t i L.locks ≡ L.locks ++ l ∷ []))
  read_grown t i = go (holds t i Read L.locks || holds t i Write L.locks)
    where
      go : (b : Bool) → (cond b L.locks (L.locks ++ lock t i Read ∷ []) ≡ L.locks) ⊎ ((l : Lock) × (l.owner ≡ t) × (cond b L.locks (L.locks ++ lock t i Read ∷ []) ≡ L.locks ++ l ∷ []))
      go true = inl refl
      go false = inr (lock t i Read, refl, refl)

  write_grown : (t i : ℕ) → (with_write t i L.locks ≡ L.locks) ⊎ ((l : Lock) × (l.owner ≡ t) × (with_write t i L.locks ≡ L.locks ++ l ∷ []))
  write_grown t i = go (holds t i Write L.locks)
    where
      go : (b : Bool) → (cond b L.locks (L.locks ++ lock t i Write ∷ []) ≡ L.locks) ⊎ ((l : Lock) × (l.owner ≡ t) × (cond b L.locks (L.locks ++ lock t i Write ∷ []) ≡ L.locks ++ l ∷ []))
      go true = inl refl
      go false = inr (lock t i Write, refl, refl)

  struck_grounded : (t : ℕ) → Grounded ok (struck t L)
  struck_grounded t u = fewer _ _ (λ w v x. old w v x) (G u)
    where
      old : (w v : ℕ) → Waits ok (struck t L) w v → Waits ok L w v
      old w v x = record { ask = x.ask; state = sym (closed_other w t L.opens ne) ∙ x.state; blocker = blockers-unlocked ok w t v L.locks x.ask ne x.blocker }
        where
          ne : w ≡ t → ⊥
          ne d = none≢some (sym (closed_same t L.opens) ∙ ap (λ (z : ℕ). state_of z (closed t L.opens)) (sym d) ∙ x.state)

  waits_grounded : (t b : ℕ) (a : Ask) → IsOpen L t → asked L q ≡ Some a → ((c : ℕ) → In c (blockers ok L.locks t a) → Chain ok L c t → ⊥) → Grounded ok (feed L q (Ok (Wait t b)))
  waits_grounded t b a o wants clear u = subst (Grounded ok) (ap (λ (x : Option Ask). record { begins = L.begins; opens = waiting x t L.opens; locks = L.locks }) (sym wants)) now_grounded u
    where
      same : (w v : ℕ) → (w ≡ t → ⊥) → Waits ok (record { begins = L.begins; opens = restated t (Waiting a) L.opens; locks = L.locks }) w v → Waits ok L w v
      same w v n x = record { ask = x.ask; state = sym (restated_other w t (Waiting a) L.opens n) ∙ x.state; blocker = x.blocker }

      asks : (v : ℕ) → Waits ok (record { begins = L.begins; opens = restated t (Waiting a) L.opens; locks = L.locks }) t v → In v (blockers ok L.locks t a)
      asks v x = subst (λ (d : Ask). In v (blockers ok L.locks t d)) (sym (waiting_same (sym (restated_same t (Waiting a) L.opens o) ∙ x.state))) x.blocker

      now_grounded : Grounded ok (record { begins = L.begins; opens = restated t (Waiting a) L.opens; locks = L.locks })
      now_grounded w =
          more_of _ _ t (λ x. Chain ok L x t) here (λ x y z c. on y z c) same
          (λ v x. away _ _ t (λ y. Chain ok L y t) here (λ y z w' c. on z w' c) same (G v) (clear v (asks v x)))
          (G w)

  pub grounded_next : (cs : List ℤ) (p : Writes) (a : Answer) → Facts ok L cs p q a → Grounded ok (feed L q a)
  grounded_next cs p (Ok (Opened t)) f = opened_grounded t f
  grounded_next cs p (Ok (Value t i v)) f = granted_grounded t f.0 (with_read t i L.locks) (read_grown t i)
  grounded_next cs p (Ok (Written t i)) f = granted_grounded t f.0 (with_write t i L.locks) (write_grown t i)
  grounded_next cs p (Ok (Committed t)) f = struck_grounded t
  grounded_next cs p (Ok (Aborted t)) f = struck_grounded t
  grounded_next cs p (Ok (Wait t b)) f = waits_grounded t b f.1.0 f.0 f.1.1 f.1.2
  grounded_next cs p (Ok (Deadlock t)) f = struck_grounded t
  grounded_next cs p (Err e) f = G

-- go down the waits until there is none
module _ (ok : Rule) (L : Ledger) (K : Kept L) where
  pub someone_free : {t : ℕ} → Acc (λ v w. Waits ok L w v) t → IsOpen L t → (z : ℕ) × (IsOpen L z) × ((u : ℕ) → Waits ok L z u → ⊥)
  someone_free (Acc.intro t h) o = look (state_of t L.opens) refl (λ v w. someone_free (h v w) (held v w))
    where
      held : (v : ℕ) → Waits ok L t v → IsOpen L v
      held v w = let b = blocker-holds ok t v L.locks w.ask w.blocker in subst (IsOpen L) (sym b.2) (K.owned b.0 b.1)

      by : (a : Ask) (vs : List ℕ) → state_of t L.opens ≡ Some (Waiting a) → blockers ok L.locks t a ≡ vs → ((v : ℕ) → Waits ok L t v → (z : ℕ) × (IsOpen L z) × ((u : ℕ) → Waits ok L z u → ⊥)) → (z : ℕ) × (IsOpen L z) × ((u : ℕ) → Waits ok L z u → ⊥)
      by a [] e b rest = (t, o, λ u w. none_in (subst (λ (d : Ask). In u (blockers ok L.locks t d)) (waiting_same (sym w.state ∙ e)) w.blocker))
        where
          none_in : {u : ℕ} → In u (blockers ok L.locks t a) → ⊥
          none_in {u} m = in_nothing (subst (λ (ys : List ℕ). In u ys) b m)
      by a (v ∷ vs) e b rest = rest v (record { ask = a; state = e; blocker = subst (λ (ys : List ℕ). In v ys) (sym b) first })

      look : (s : Option State) → state_of t L.opens ≡ s → ((v : ℕ) → Waits ok L t v → (z : ℕ) × (IsOpen L z) × ((u : ℕ) → Waits ok L z u → ⊥)) → (z : ℕ) × (IsOpen L z) × ((u : ℕ) → Waits ok L z u → ⊥)
      look None e rest = absurd (none_shut e o)
      look (Some Active) e rest = (t, o, λ u w. active≢waiting (sym e ∙ w.state))
      look (Some (Waiting a)) e rest = by a (blockers ok L.locks t a) e refl rest
