-- Which answers a call of one transaction can have, from what the steps say of it.
use Rattle.std.proofs.Common.{◌≡◌, ℕ, Bool, true, false, cond, not, ◌&&◌, ◌||◌, eqb, List, [], ◌∷◌, length, ℤ, Some, None, Ok, Err, Option, Result, sym, refl, subst, arith}
use Rattle.std.proofs.lemmas.Bool.{eqb-true, eqb-false}
use Rattle.records.specs.declared.refusal.Reason.TheVariants.{LockListFull}
use Rattle.records.specs.declared.refusal.Refusal.{Refusal}
use Rattle.records.specs.declared.request.Request.TheVariants.{Write as write_request, Retry}
use Rattle.store.specs.Meaning.{Writes, looked, refused as refuses}
use Rattle.scheduler.specs.declared.lock.Kind.TheVariants.{Read, Write}
use Rattle.scheduler.specs.declared.reply.Reply.TheVariants.{Opened, Value, Written, Committed, Aborted, Wait, Deadlock}
use Rattle.scheduler.specs.declared.transaction.Ask.{Ask}
use Rattle.scheduler.specs.declared.transaction.Ask.TheVariants.{Read as ask_read, Write as ask_write, Commit as ask_commit}
use Rattle.scheduler.specs.declared.transaction.State.{State}
use Rattle.scheduler.specs.declared.transaction.State.TheVariants.{Active, Waiting}
use Rattle.scheduler.specs.Blockers.{Rule, blockers}
use Rattle.scheduler.specs.Ledger.{Answer, Ledger, holds, state_of}
use Rattle.scheduler.specs.Steps.{Answers, Blocked, Done, Met, Placed, Terms, asking, full, granted, no_item, of_scheduler, retrying, value_put, value_read}
use Rattle.tickets.specs.Replies.{ToAsk}

-- a refusal can be the answer to anything
refused : (t : ℕ) (x : Ask) (a : Answer) (e : Refusal) → a ≡ Err e → ToAsk t x a
refused t x a e h = subst (λ (b : Answer). ToAsk t x b) (sym h) tt

-- where t is blocked, its answer is its deadlock or its wait, and so m is n if both say so
settled : (ok : Rule) (L : Ledger) (t : ℕ) (bs : List ℕ) (a : Answer) (m n : ℕ) → Blocked ok L t bs a → (a ≡ Ok (Deadlock t) → m ≡ n) → ((b : ℕ) → a ≡ Ok (Wait t b) → m ≡ n) → m ≡ n
settled ok L t bs a m n h d w = go (eqb m n) refl
  where
    go : (c : Bool) → eqb m n ≡ c → m ≡ n
    go true e = eqb-true m n e
    go false e = let c = h.clear (λ b i k. eqb-false m n e (d (h.circle b i k))) in w c.0 c.2

-- an answer that is neither cannot be
shut : (ok : Rule) (L : Ledger) (t : ℕ) (bs : List ℕ) (a : Answer) → Blocked ok L t bs a → (a ≡ Ok (Deadlock t) → ◌≡◌ {A = ℕ} 0 1) → ((b : ℕ) → a ≡ Ok (Wait t b) → ◌≡◌ {A = ℕ} 0 1) → ⊥
shut ok L t bs a h d w = let z = settled ok L t bs a 0 1 h d w in omega arith

blocked : (ok : Rule) (L : Ledger) (t : ℕ) (bs : List ℕ) (x : Ask) (a : Answer) → Blocked ok L t bs a → ToAsk t x a
blocked ok L t bs x (Ok (Opened u)) h = shut ok L t bs _ h (λ e. cc) (λ b e. cc)
blocked ok L t bs x (Ok (Value u i v)) h = absurd (shut ok L t bs _ h (λ e. cc) (λ b e. cc))
blocked ok L t bs x (Ok (Written u i)) h = absurd (shut ok L t bs _ h (λ e. cc) (λ b e. cc))
blocked ok L t bs x (Ok (Committed u)) h = absurd (shut ok L t bs _ h (λ e. cc) (λ b e. cc))
blocked ok L t bs x (Ok (Aborted u)) h = shut ok L t bs _ h (λ e. cc) (λ b e. cc)
blocked ok L t bs x (Ok (Wait u b)) h = settled ok L t bs _ u t h (λ e. cc) (λ c e. cc)
blocked ok L t bs x (Ok (Deadlock u)) h = settled ok L t bs _ u t h (λ e. cc) (λ c e. cc)
blocked ok L t bs x (Err e) h = tt

free : (k : Terms) (L : Ledger) (cs : List ℤ) (p : Writes) (t : ℕ) (x : Ask) → ToAsk t x (granted k L cs p t x)
free k L cs p t (ask_read i) = go (not (holds t i Read L.locks || holds t i Write L.locks) && full L) (looked cs p t i) (of_scheduler LockListFull)
  where
    go : (b : Bool) (r : Result ℤ Refusal) (e : Refusal) → ToAsk t (ask_read i) (cond b (Err e) (value_read t i r))
    go true r e = tt
    go false (Ok v) e = (refl, refl)
    go false (Err f) e = tt
free k L cs p t (ask_write i v) = go (not (holds t i Write L.locks) && full L) (refuses k.private k.room k.share cs p t i) (of_scheduler LockListFull)
  where
    go : (b : Bool) (r : Option Refusal) (e : Refusal) → ToAsk t (ask_write i v) (cond b (Err e) (value_put t i r))
    go true r e = tt
    go false None e = (refl, (v, refl))
    go false (Some f) e = tt
free k L cs p t ask_commit = (refl, refl)

module _ (ok : Rule) (k : Terms) (L : Ledger) (cs : List ℤ) (p : Writes) (t : ℕ) where
  placed : (x : Ask) (b : Bool) (a : Answer) → Placed ok k L cs p t x b a → ToAsk t x a
  placed x true a h = refused t x a _ h
  placed x false a h = go (blockers ok L.locks t x) h
    where
      go : (bs : List ℕ) → Met ok k L cs p t x bs a → ToAsk t x a
      go [] m = subst (λ (b : Answer). ToAsk t x b) (sym m) (free k L cs p t x)
      go (b ∷ bs) m = blocked ok L t (b ∷ bs) x a m

  asked_for : (x : Ask) (s : Option State) (a : Answer) → Done ok k L cs p (asking t x s) a → ToAsk t x a
  asked_for x None a h = refused t x a _ h
  asked_for x (Some Active) a h = placed x (no_item (length cs) x) a h
  asked_for x (Some (Waiting y)) a h = refused t x a _ h

  tried_again : (s : Option State) (a : Answer) → Done ok k L cs p (retrying t s) a → (x : Ask) × ToAsk t x a
  tried_again None a h = (ask_commit, refused t ask_commit a _ h)
  tried_again (Some Active) a h = (ask_commit, refused t ask_commit a _ h)
  tried_again (Some (Waiting x)) a h = (x, placed x (no_item (length cs) x) a h)

  pub to_write : (pair : Option Refusal) (i : ℕ) (v : ℤ) (a : Answer) → Answers ok k pair L cs p (write_request t i v) a → ToAsk t (ask_write i v) a
  to_write None i v a h = asked_for (ask_write i v) (state_of t L.opens) a h
  to_write (Some e) i v a h = refused t (ask_write i v) a e h

  pub to_retry : (pair : Option Refusal) (a : Answer) → Answers ok k pair L cs p (Retry t) a → (x : Ask) × ToAsk t x a
  to_retry None a h = tried_again (state_of t L.opens) a h
  to_retry (Some e) a h = (ask_commit, refused t ask_commit a e h)
