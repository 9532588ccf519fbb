-- What the definition of the answers tells, as the facts that the law needs.
use Rattle.std.proofs.Common.{◌≡◌, ℕ, Bool, true, false, cond, not, ◌&&◌, ◌||◌, leb, List, [], ◌∷◌, length, ℤ, is_some, Some, None, Ok, Err, Option, Result, sym, refl, ap, ◌∙◌, subst, inl, inr, arith}
use Rattle.std.proofs.lemmas.Bool.{cases_eq}
use Rattle.records.specs.declared.refusal.Refusal.{Refusal}
use Rattle.records.specs.declared.request.Request.{Request}
use Rattle.records.specs.declared.request.Request.TheVariants.{Begin, Read, Write, Commit, Abort, Retry}
use Rattle.store.specs.Meaning.{Writes, looked, refused}
use Rattle.scheduler.specs.declared.lock.Kind.TheVariants.{Read as read_kind, Write as write_kind}
use Rattle.scheduler.specs.declared.transaction.Ask.{Ask}
use Rattle.scheduler.specs.declared.transaction.Ask.TheVariants.{Read as ask_read, Write as ask_write, Commit as ask_commit}
use Rattle.scheduler.specs.declared.transaction.State.{State}
use Rattle.scheduler.specs.declared.transaction.State.TheVariants.{Active, Waiting}
use Rattle.scheduler.specs.declared.reply.Reply.{Reply}
use Rattle.scheduler.specs.declared.reply.Reply.TheVariants.{Opened, Value, Written, Committed, Aborted, Wait, Deadlock}
use Rattle.scheduler.specs.Ledger.{Ledger, Answer, holds, state_of, asked, held}
use Rattle.scheduler.specs.Blockers.{Rule, In, Chain, blockers}
use Rattle.scheduler.specs.Steps.{Terms, Task, opening, ending, trying, asking, retrying, aborting, checked, no_item, full, value_read, value_put, granted, Blocked, Met, Placed, Done, Answers}
use Rattle.history.proofs.Facts.{Facts, IsOpen}

-- the kinds of replies
abbrev sort : Reply → ℕ
sort (Opened t) = 0
sort (Value t i v) = 1
sort (Written t i) = 2
sort (Committed t) = 3
sort (Aborted t) = 4
sort (Wait t b) = 5
sort (Deadlock t) = 6

reply_same : {r s : Reply} → ◌≡◌ {A = Answer} (Ok r) (Ok s) → r ≡ s
reply_same e = cc

other : {r s : Reply} → ◌≡◌ {A = Answer} (Ok r) (Ok s) → (sort r ≡ sort s → ⊥) → ⊥
other e n = n (ap sort (reply_same e))

-- a task is tried only for an open transaction, with what the call asks for
record Passed (L : Ledger) (q : Request) (t : ℕ) (x : Ask) : Type 0 where
  is_open : IsOpen L t
  wants : asked L q ≡ Some x

trying_same : {t u : ℕ} {x y : Ask} → ◌≡◌ {A = Result Task Refusal} (Ok (trying t x)) (Ok (trying u y)) → (t ≡ u) × (x ≡ y)
trying_same e = (cc, cc)

asking_passed : (L : Ledger) (q : Request) (t u : ℕ) (x y : Ask) (s : Option State) → state_of t L.opens ≡ s → asked L q ≡ Some x → asking t x s ≡ Ok (trying u y) → Passed L q u y
asking_passed L q t u x y None e w h = let z : ◌≡◌ {A = ℕ} 0 1 = cc in absurd (omega arith)
asking_passed L q t u x y (Some Active) e w h =
    let p = trying_same h in
    record { is_open = subst (IsOpen L) p.0 (ap is_some e); wants = w ∙ ap Some p.1 }
asking_passed L q t u x y (Some (Waiting b)) e w h = let z : ◌≡◌ {A = ℕ} 0 1 = cc in absurd (omega arith)

retrying_passed : (L : Ledger) (t u : ℕ) (y : Ask) (s : Option State) → state_of t L.opens ≡ s → retrying t s ≡ Ok (trying u y) → Passed L (Retry t) u y
retrying_passed L t u y None e h = let z : ◌≡◌ {A = ℕ} 0 1 = cc in absurd (omega arith)
retrying_passed L t u y (Some Active) e h = let z : ◌≡◌ {A = ℕ} 0 1 = cc in absurd (omega arith)
retrying_passed L t u y (Some (Waiting b)) e h =
    let p = trying_same h in
    record { is_open = subst (IsOpen L) p.0 (ap is_some e); wants = ap held e ∙ ap Some p.1 }

aborting-not : (t u : ℕ) (y : Ask) (s : Option State) → aborting t s ≡ Ok (trying u y) → ⊥
aborting-not t u y None h = let z : ◌≡◌ {A = ℕ} 0 1 = cc in omega arith
aborting-not t u y (Some s) h = let z : ◌≡◌ {A = ℕ} 0 1 = cc in omega arith

begin-not : (x y : Bool) (e f : Refusal) (u : ℕ) (a : Ask) → cond x (Err e) (cond y (Err f) (Ok opening)) ≡ Ok (trying u a) → ⊥
begin-not true y e f u a h = let z : ◌≡◌ {A = ℕ} 0 1 = cc in omega arith
begin-not false true e f u a h = let z : ◌≡◌ {A = ℕ} 0 1 = cc in omega arith
begin-not false false e f u a h = let z : ◌≡◌ {A = ℕ} 0 1 = cc in omega arith

passed : (L : Ledger) (q : Request) (u : ℕ) (y : Ask) → checked L q ≡ Ok (trying u y) → Passed L q u y
passed L Begin u y h = absurd (begin-not (leb 64 (length L.opens)) (leb 60000 L.begins) _ _ u y h)
passed L (Read t i) u y h = asking_passed L (Read t i) t u (ask_read i) y (state_of t L.opens) refl refl h
passed L (Write t i v) u y h = asking_passed L (Write t i v) t u (ask_write i v) y (state_of t L.opens) refl refl h
passed L (Commit t) u y h = asking_passed L (Commit t) t u ask_commit y (state_of t L.opens) refl refl h
passed L (Abort t) u y h = absurd (aborting-not t u y (state_of t L.opens) h)
passed L (Retry t) u y h = retrying_passed L t u y (state_of t L.opens) refl h

-- and an end only of an open one
asking_end : (t u : ℕ) (x : Ask) (s : Option State) → asking t x s ≡ Ok (ending u) → ⊥
asking_end t u x None h = let z : ◌≡◌ {A = ℕ} 0 1 = cc in omega arith
asking_end t u x (Some Active) h = let z : ◌≡◌ {A = ℕ} 0 1 = cc in omega arith
asking_end t u x (Some (Waiting b)) h = let z : ◌≡◌ {A = ℕ} 0 1 = cc in omega arith

retrying_end : (t u : ℕ) (s : Option State) → retrying t s ≡ Ok (ending u) → ⊥
retrying_end t u None h = let z : ◌≡◌ {A = ℕ} 0 1 = cc in omega arith
retrying_end t u (Some Active) h = let z : ◌≡◌ {A = ℕ} 0 1 = cc in omega arith
retrying_end t u (Some (Waiting b)) h = let z : ◌≡◌ {A = ℕ} 0 1 = cc in omega arith

begin_end : (x y : Bool) (e f : Refusal) (u : ℕ) → cond x (Err e) (cond y (Err f) (Ok opening)) ≡ Ok (ending u) → ⊥
begin_end true y e f u h = let z : ◌≡◌ {A = ℕ} 0 1 = cc in omega arith
begin_end false true e f u h = let z : ◌≡◌ {A = ℕ} 0 1 = cc in omega arith
begin_end false false e f u h = let z : ◌≡◌ {A = ℕ} 0 1 = cc in omega arith

aborting_end : (L : Ledger) (t u : ℕ) (s : Option State) → state_of t L.opens ≡ s → aborting t s ≡ Ok (ending u) → IsOpen L u
aborting_end L t u None e h = let z : ◌≡◌ {A = ℕ} 0 1 = cc in absurd (omega arith)
aborting_end L t u (Some s) e h = let q : t ≡ u = cc in subst (IsOpen L) q (ap is_some e)

ended : (L : Ledger) (q : Request) (u : ℕ) → checked L q ≡ Ok (ending u) → IsOpen L u
ended L Begin u h = absurd (begin_end (leb 64 (length L.opens)) (leb 60000 L.begins) _ _ u h)
ended L (Read t i) u h = absurd (asking_end t u (ask_read i) (state_of t L.opens) h)
ended L (Write t i v) u h = absurd (asking_end t u (ask_write i v) (state_of t L.opens) h)
ended L (Commit t) u h = absurd (asking_end t u ask_commit (state_of t L.opens) h)
ended L (Abort t) u h = aborting_end L t u (state_of t L.opens) refl h
ended L (Retry t) u h = absurd (retrying_end t u (state_of t L.opens) h)

module _ (ok : Rule) (k : Terms) (L : Ledger) (cs : List ℤ) (p : Writes) (q : Request) where
  -- what is granted
  read_facts : (t i : ℕ) → Passed L q t (ask_read i) → blockers ok L.locks t (ask_read i) ≡ [] → (l : Result ℤ Refusal) → looked cs p t i ≡ l → Facts ok L cs p q (value_read t i l)
  read_facts t i P free (Ok v) e = (P.is_open, free, e)
  read_facts t i P free (Err x) e = tt

  write_facts : (t i : ℕ) (v : ℤ) → Passed L q t (ask_write i v) → blockers ok L.locks t (ask_write i v) ≡ [] → (o : Option Refusal) → Facts ok L cs p q (value_put t i o)
  write_facts t i v P free None = (P.is_open, (v, free, P.wants))
  write_facts t i v P free (Some x) = tt

  or_refused : (b : Bool) (e : Refusal) (a : Answer) → Facts ok L cs p q a → Facts ok L cs p q (cond b (Err e) a)
  or_refused true e a f = tt
  or_refused false e a f = f

  granted_facts : (t : ℕ) (x : Ask) → Passed L q t x → blockers ok L.locks t x ≡ [] → Facts ok L cs p q (granted k L cs p t x)
  granted_facts t (ask_read i) P free = or_refused (not (holds t i read_kind L.locks || holds t i write_kind L.locks) && full L) _ _ (read_facts t i P free (looked cs p t i) refl)
  granted_facts t (ask_write i v) P free = or_refused (not (holds t i write_kind L.locks) && full L) _ _ (write_facts t i v P free (refused k.private k.room k.share cs p t i))
  granted_facts t ask_commit P free = (P.is_open, free)

  -- what a blocked request is answered is a wait or a deadlock of t
  module _ (t : ℕ) (x : Ask) (P : Passed L q t x) (bs : List ℕ) (are : blockers ok L.locks t x ≡ bs) where
    not_other : (a : Answer) → Blocked ok L t bs a → (a ≡ Ok (Deadlock t) → ⊥) → ((b : ℕ) → a ≡ Ok (Wait t b) → ⊥) → ⊥
    not_other a B d w = let c = B.clear (λ b m h. d (B.circle b m h)) in w c.0 c.2

    blocked_facts : (a : Answer) → Blocked ok L t bs a → Facts ok L cs p q a
    blocked_facts (Ok (Opened u)) B = absurd (not_other (Ok (Opened u)) B (λ e. other e (λ z. omega arith)) (λ b e. other e (λ z. omega arith)))
    blocked_facts (Ok (Value u i v)) B = absurd (not_other (Ok (Value u i v)) B (λ e. other e (λ z. omega arith)) (λ b e. other e (λ z. omega arith)))
    blocked_facts (Ok (Written u i)) B = absurd (not_other (Ok (Written u i)) B (λ e. other e (λ z. omega arith)) (λ b e. other e (λ z. omega arith)))
    blocked_facts (Ok (Committed u)) B = absurd (not_other (Ok (Committed u)) B (λ e. other e (λ z. omega arith)) (λ b e. other e (λ z. omega arith)))
    blocked_facts (Ok (Aborted u)) B = absurd (not_other (Ok (Aborted u)) B (λ e. other e (λ z. omega arith)) (λ b e. other e (λ z. omega arith)))
    blocked_facts (Ok (Wait u b)) B =
        let free : (c : ℕ) → In c bs → Chain ok L c t → ⊥ = λ c m h. other (B.circle c m h) (λ z. omega arith) in
        let w = B.clear free in
        let same : u ≡ t = wait_same w.2 in (
          subst (IsOpen L) (sym same) P.is_open,
          (x, P.wants, λ c m h. free c (subst (λ (ys : List ℕ). In c ys) (ap (λ (n : ℕ). blockers ok L.locks n x) same ∙ are) m) (subst (Chain ok L c) same h)),
        )
      where
        wait_same : {c : ℕ} → ◌≡◌ {A = Answer} (Ok (Wait u b)) (Ok (Wait t c)) → u ≡ t
        wait_same e = cc
    blocked_facts (Ok (Deadlock u)) B = elim (cases_eq u t) [
      | inl e ↦ subst (IsOpen L) (sym e) P.is_open
      | inr n ↦ absurd (not_other (Ok (Deadlock u)) B (λ e. n (dead_same e)) (λ b e. other e (λ z. omega arith)))
    ]
      where
        dead_same : ◌≡◌ {A = Answer} (Ok (Deadlock u)) (Ok (Deadlock t)) → u ≡ t
        dead_same e = cc
    blocked_facts (Err e) B = tt

  met_facts : (t : ℕ) (x : Ask) → Passed L q t x → (bs : List ℕ) → blockers ok L.locks t x ≡ bs → (a : Answer) → Met ok k L cs p t x bs a → Facts ok L cs p q a
  met_facts t x P [] e a m = subst (Facts ok L cs p q) (sym m) (granted_facts t x P e)
  met_facts t x P (b ∷ bs) e a m = blocked_facts t x P (b ∷ bs) e a m

  placed_facts : (t : ℕ) (x : Ask) → Passed L q t x → (b : Bool) (a : Answer) → Placed ok k L cs p t x b a → Facts ok L cs p q a
  placed_facts t x P true a m = subst (Facts ok L cs p q) (sym m) tt
  placed_facts t x P false a m = met_facts t x P (blockers ok L.locks t x) refl a m

  done_facts : (c : Result Task Refusal) → checked L q ≡ c → (a : Answer) → Done ok k L cs p c a → Facts ok L cs p q a
  done_facts (Err e) h a d = subst (Facts ok L cs p q) (sym d) tt
  done_facts (Ok opening) h a d = subst (Facts ok L cs p q) (sym d) refl
  done_facts (Ok (ending t)) h a d = subst (Facts ok L cs p q) (sym d) (ended L q t h)
  done_facts (Ok (trying t x)) h a d = placed_facts t x (passed L q t x h) (no_item (length cs) x) a d

  pub facts : (a : Answer) → Answers ok k None L cs p q a → Facts ok L cs p q a
  facts a d = done_facts (checked L q) refl a d
