-- Run alone from the committed values of now, each open transaction reads what it was answered; so each commit is the serial run's next turn.
use Rattle.std.proofs.Common.{◌≡◌, ℕ, ◌+◌, ◌<◌, ◌≤◌, Bool, true, false, cond, not, ◌&&◌, ◌||◌, eqb, leb, List, [], ◌∷◌, ◌++◌, length, get_or, ℤ, pos, is_some, Some, None, Ok, Err, Option, unwrap_or, sym, refl, ap, ◌∙◌, subst, inl, inr, arith}
use mathlib.Core.Path.{fun_ext}
use Rattle.std.proofs.lemmas.Bool.{both_ways, cases_eq, cases_Bool, cond-true, cond-false, eq-eqb, eqb-true, ne_eqb, leb-false, not-true, or_left, or_cases, and_left, and_right, and_from, and_parts}
use Rattle.records.specs.declared.refusal.Refusal.{Refusal}
use Rattle.records.specs.declared.request.Request.{Request}
use Rattle.store.specs.Meaning.{Writes, laid, looked, written, without}
use Rattle.scheduler.specs.declared.lock.Kind.{Kind}
use Rattle.scheduler.specs.declared.lock.Kind.TheVariants.{Read, Write}
use Rattle.scheduler.specs.declared.lock.Lock.{Lock}
use Rattle.scheduler.specs.declared.transaction.Ask.TheVariants.{Commit as ask_commit}
use Rattle.scheduler.specs.declared.transaction.State.TheVariants.{Active}
use Rattle.scheduler.specs.declared.reply.Reply.TheVariants.{Opened, Value, Written, Committed, Aborted, Wait, Deadlock}
use Rattle.scheduler.specs.Ledger.{Ledger, Answer, lock, is_lock, holds, with_read, with_write, unlocked, asked, struck, feed, empty}
use Rattle.scheduler.specs.Blockers.{Rule, In, blockers}
use Rattle.scheduler.specs.Effects.{to_write, committed_after, pending_after}
use Rattle.scheduler.proofs.Members.{in_nothing, in_cons, in_order}
use Rattle.scheduler.proofs.Locks.{is_lock_self, is_lock_eq, holds_in, holds-push, holds-unlocked, holds-unlocked_same}
use Rattle.scheduler.proofs.Blocking.{ahead_in, nothing_in}
use Rattle.history.specs.Run.{Run, Entry, ledger}
use Rattle.history.specs.Serial.{Act, got, put, act, acts, commit_in, commits, after, ReadsRight, serial, SerialReadsRight}
use Rattle.history.proofs.Facts.{Facts, IsOpen}
use Rattle.history.proofs.Tables.{Kept, read≢write, is_none, open-restated, open-waiting, open-closed, more-open}
use Rattle.history.proofs.Replay.{laid-length, laid-at, laid_silent, writes, outside, after-laid, right_same, serial_same, serial_right_same}

module _ (t i : ℕ) (ls : List Lock) where
  not_kind : (u j : ℕ) → is_lock u j Write (lock t i Read) ≡ false
  not_kind u j = and_right (eqb t u) (eqb i j && false) (and_right (eqb i j) false refl)

  not_kind_write : (u j : ℕ) → is_lock u j Read (lock t i Write) ≡ false
  not_kind_write u j = and_right (eqb t u) (eqb i j && false) (and_right (eqb i j) false refl)

  silent : (x y : Bool) → y ≡ false → (x || y) ≡ x
  silent true y e = refl
  silent false y e = e

  -- a read adds no write lock, keeps every lock, and leaves t with a lock
  pub read_writers : (u j : ℕ) → holds u j Write (with_read t i ls) ≡ holds u j Write ls
  read_writers u j = go (holds t i Read ls || holds t i Write ls)
    where
      go : (b : Bool) → holds u j Write (cond b ls (ls ++ lock t i Read ∷ [])) ≡ holds u j Write ls
      go true = refl
      go false = holds-push u j Write ls (lock t i Read) ∙ silent (holds u j Write ls) (is_lock u j Write (lock t i Read)) (not_kind u j)

  pub read_keeps : (u j : ℕ) (k : Kind) → holds u j k ls ≡ true → holds u j k (with_read t i ls) ≡ true
  read_keeps u j k h = go (holds t i Read ls || holds t i Write ls)
    where
      go : (b : Bool) → holds u j k (cond b ls (ls ++ lock t i Read ∷ [])) ≡ true
      go true = h
      go false = holds-push u j k ls (lock t i Read) ∙ or_left (holds u j k ls) (is_lock u j k (lock t i Read)) h

  pub read-locks : holds t i Write ls ≡ false → holds t i Read (with_read t i ls) ≡ true
  read-locks w = go (holds t i Read ls || holds t i Write ls) refl
    where
      right : (x y : Bool) → y ≡ true → (x || y) ≡ true
      right true y e = refl
      right false y e = e

      go : (b : Bool) → (holds t i Read ls || holds t i Write ls) ≡ b → holds t i Read (cond b ls (ls ++ lock t i Read ∷ [])) ≡ true
      go true e = elim (or_cases (holds t i Read ls) (holds t i Write ls) e) [ inl h ↦ h | inr h ↦ absurd (both_ways (holds t i Write ls) w h) ]
      go false e = holds-push t i Read ls (lock t i Read) ∙ right (holds t i Read ls) (is_lock t i Read (lock t i Read)) (is_lock_self t i Read)

  pub write_readers : (u j : ℕ) → holds u j Read (with_write t i ls) ≡ holds u j Read ls
  write_readers u j = go (holds t i Write ls)
    where
      go : (b : Bool) → holds u j Read (cond b ls (ls ++ lock t i Write ∷ [])) ≡ holds u j Read ls
      go true = refl
      go false = holds-push u j Read ls (lock t i Write) ∙ silent (holds u j Read ls) (is_lock u j Read (lock t i Write)) (not_kind_write u j)

  -- a write leaves t with the write lock, and nobody else with more
  pub write-locks : holds t i Write (with_write t i ls) ≡ true
  write-locks = go (holds t i Write ls) refl
    where
      right : (x y : Bool) → y ≡ true → (x || y) ≡ true
      right true y e = refl
      right false y e = e

      go : (b : Bool) → holds t i Write ls ≡ b → holds t i Write (cond b ls (ls ++ lock t i Write ∷ [])) ≡ true
      go true e = e
      go false e = holds-push t i Write ls (lock t i Write) ∙ right (holds t i Write ls) (is_lock t i Write (lock t i Write)) (is_lock_self t i Write)

  pub write_writers : (u j : ℕ) → (eqb u t && eqb j i) ≡ false → holds u j Write (with_write t i ls) ≡ holds u j Write ls
  write_writers u j n = go (holds t i Write ls)
    where
      other : is_lock u j Write (lock t i Write) ≡ false
      other = elim (cases_Bool (is_lock u j Write (lock t i Write))) [
        | inr e ↦ e
        | inl e ↦ let q = is_lock_eq u j Write (lock t i Write) e in
            absurd (both_ways (eqb u t && eqb j i) n (and_from (eqb u t) (eqb j i) (eq-eqb u t (sym (ap (λ (y : Lock). y.owner) q))) (eq-eqb j i (sym (ap (λ (y : Lock). y.item) q)))))
      ]

      go : (b : Bool) → holds u j Write (cond b ls (ls ++ lock t i Write ∷ [])) ≡ holds u j Write ls
      go true = refl
      go false = holds-push u j Write ls (lock t i Write) ∙ silent (holds u j Write ls) (is_lock u j Write (lock t i Write)) other

-- what holds after a run with the ledger L, the acts f and the commits ts, from the committed values vs at opening,
-- of the store's committed values cs and pending writes p
pub record Replayed (L : Ledger) (f : ℕ → List Act) (ts : List ℕ) (vs cs : List ℤ) (p : Writes) : Type 0 where
  -- a transaction has a write lock exactly where it has a pending write
  pub backed : (t i : ℕ) → holds t i Write L.locks ≡ is_some (p t i)
  -- which is what it wrote last
  pub pend : (t i : ℕ) → IsOpen L t → p t i ≡ writes (f t) i
  -- it has a read lock on what it read before it wrote it
  pub seen : (t i : ℕ) → IsOpen L t → outside i (f t) ≡ true → holds t i Read L.locks ≡ true
  -- run alone from now, it reads what it was answered
  pub right : (t : ℕ) → IsOpen L t → ReadsRight cs (f t)
  pub fresh : (t : ℕ) → L.begins < t → f t ≡ []
  pub done : (t : ℕ) → In t (ts) → (IsOpen L t → ⊥) × (t ≤ L.begins)
  pub replay : SerialReadsRight (f) vs (ts)
  pub ends : cs ≡ serial (f) vs (ts)

pub replayed_none : (vs : List ℤ) (p : Writes) → ((t i : ℕ) → p t i ≡ None) → Replayed empty (acts []) [] vs vs p
replayed_none vs p none = record {
  backed = λ t i. sym (ap is_some (none t i));
  pend = λ t i h. none t i;
  seen = λ t i h. absurd (both_ways false refl h);
  right = λ t h. tt;
  fresh = λ t h. refl;
  done = λ t m. absurd (in_nothing m);
  replay = tt;
  ends = refl;
}

-- nobody but an open transaction has anything pending
pub idle : {L : Ledger} {f : ℕ → List Act} {ts : List ℕ} {vs cs : List ℤ} {p : Writes} → Kept L → Replayed L f ts vs cs p → (t i : ℕ) → (IsOpen L t → ⊥) → p t i ≡ None
idle {L} {p = p} K R t i n = is_none (p t i) (λ s. n (K.owned (lock t i Write) (holds_in t i Write L.locks (R.backed t i ∙ s))))

ok_in : {v : ℤ} (b : Bool) (e : Refusal) (w : ℤ) → cond b (Err e) (Ok w) ≡ Ok v → (b ≡ false) × (w ≡ v)
ok_in true e w h = let z : ◌≡◌ {A = ℕ} 0 1 = cc in absurd (omega arith)
ok_in false e w h = (refl, cc)

module _ (ok : Rule) (L : Ledger) (f : ℕ → List Act) (ts : List ℕ) (vs cs : List ℤ) (p : Writes) (K : Kept L) (R : Replayed L f ts vs cs p) (q : Request) where
  opened : (t : ℕ) → t ≡ L.begins + 1 → Replayed (feed L q (Ok (Opened t))) f ts vs cs p
  opened t e = record {
    backed = R.backed;
    pend = λ u i h. elim (more-open u t Active L.opens h) [
      | inl x ↦ idle K R u i (λ o. new u x o) ∙ sym (ap (λ (as' : List Act). writes as' i) (R.fresh u (omega arith)))
      | inr o ↦ R.pend u i o
    ];
    seen = λ u i h w. elim (more-open u t Active L.opens h) [
      | inl x ↦ absurd (both_ways false refl (ap (outside i) (sym (R.fresh u (omega arith))) ∙ w))
      | inr o ↦ R.seen u i o w
    ];
    right = λ u h. elim (more-open u t Active L.opens h) [
      | inl x ↦ subst (ReadsRight cs) (sym (R.fresh u (omega arith))) tt
      | inr o ↦ R.right u o
    ];
    fresh = λ u h. R.fresh u (omega arith);
    done = λ u m. let d = R.done u m in ((λ h. elim (more-open u t Active L.opens h) [ inl x ↦ let k = d.1 in omega arith | inr o ↦ d.0 o ]), let k = d.1 in omega arith);
    replay = R.replay;
    ends = R.ends;
  }
    where
      new : (u : ℕ) → u ≡ t → IsOpen L u → ⊥
      new u x o = let k = K.numbered u o in omega arith

  -- t's act stands before its older ones, and nobody else acted
  act_own : (t : ℕ) (x : Act) (as' : List Act) → cond (eqb t t) (x ∷ []) [] ++ as' ≡ x ∷ as'
  act_own t x as' = ap (λ (b : Bool). cond b (x ∷ []) [] ++ as') (eq-eqb t t refl)

  act_other : (t u : ℕ) (x : Act) (as' : List Act) → (u ≡ t → ⊥) → cond (eqb t u) (x ∷ []) [] ++ as' ≡ as'
  act_other t u x as' n = ap (λ (b : Bool). cond b (x ∷ []) [] ++ as') (ne_eqb t u (λ e. n (sym e)))

  -- what an act of the open transaction t leaves of the serial run
  module _ (t : ℕ) (o : IsOpen L t) (x : Act) where
    acted : ℕ → List Act
    acted u = cond (eqb t u) (x ∷ []) [] ++ f u

    still : (u : ℕ) → In u (ts) → f u ≡ acted u
    unfolding acted
    still u m = sym (act_other t u x (f u) (λ e. (R.done u m).0 (subst (λ (w : ℕ). IsOpen L w) (sym e) o)))

    acted_replay : SerialReadsRight acted vs (ts)
    acted_replay = serial_right_same (f) acted vs (ts) still R.replay

    acted_ends : cs ≡ serial acted vs (ts)
    acted_ends = R.ends ∙ serial_same (f) acted vs (ts) still

    acted_fresh : (u : ℕ) → L.begins < u → acted u ≡ []
    unfolding acted
    acted_fresh u h = act_other t u x (f u) (λ e. let k = K.numbered t o in omega arith) ∙ R.fresh u h

    -- a fact on the acts of a transaction, t or another
    by_owner : (P : ℕ → List Act → Type 0) → P t (x ∷ f t) → ((u : ℕ) → (u ≡ t → ⊥) → P u (f u)) → (u : ℕ) → P u (acted u)
    unfolding acted
    by_owner P mine theirs u = elim (cases_eq u t) [
      | inl e ↦ subst (λ (w : ℕ). P w (cond (eqb t w) (x ∷ []) [] ++ f w)) (sym e) (subst (P t) (sym (act_own t x (f t))) mine)
      | inr n ↦ subst (P u) (sym (act_other t u x (f u) n)) (theirs u n)
    ]

  valued : (t i : ℕ) (v : ℤ) → IsOpen L t → looked cs p t i ≡ Ok v → Replayed (feed L q (Ok (Value t i v))) (λ u. cond (eqb t u) (got i v ∷ []) [] ++ f u) ts vs cs p
  unfolding acted
  valued t i v o look = record {
    backed = λ u j. read_writers t i L.locks u j ∙ R.backed u j;
    pend = λ u j h. by_owner t o (got i v) (λ w as'. IsOpen L w → p w j ≡ writes as' j) (λ h'. R.pend t j h') (λ w n h'. R.pend w j h') u (was u h);
    seen = λ u j h. by_owner t o (got i v) (λ w as'. IsOpen L w → outside j as' ≡ true → holds w j Read (with_read t i L.locks) ≡ true) (λ h'. own_seen j h') (λ w n h' s. read_keeps t i L.locks w j Read (R.seen w j h' s)) u (was u h);
    right = λ u h. by_owner t o (got i v) (λ w as'. IsOpen L w → ReadsRight cs as') (λ h'. (value_right, R.right t h')) (λ w n h'. R.right w h') u (was u h);
    fresh = acted_fresh t o (got i v);
    done = λ u m. let d = R.done u m in ((λ h. d.0 (was u h)), d.1);
    replay = acted_replay t o (got i v);
    ends = acted_ends t o (got i v);
  }
    where
      was : (u : ℕ) → IsOpen (feed L q (Ok (Value t i v))) u → IsOpen L u
      was u h = sym (open-restated u t Active L.opens o) ∙ h

      found : (leb (length cs) i ≡ false) × (unwrap_or (p t i) (get_or cs i (pos 0)) ≡ v)
      found = ok_in (leb (length cs) i) _ _ look

      value_right : get_or (after cs (f t)) i (pos 0) ≡ v
      value_right =
          ap (λ (ws : List ℤ). get_or ws i (pos 0)) (after-laid cs (f t))
          ∙ laid-at (writes (f t)) cs i (pos 0) (leb-false (length cs) i found.0)
          ∙ ap (λ (w : Option ℤ). unwrap_or w (get_or cs i (pos 0))) (sym (R.pend t i o))
          ∙ found.1

      own_seen : (j : ℕ) → IsOpen L t → ((eqb i j && not (is_some (writes (f t) j))) || outside j (f t)) ≡ true → holds t j Read (with_read t i L.locks) ≡ true
      own_seen j h s = elim (or_cases (eqb i j && not (is_some (writes (f t) j))) (outside j (f t)) s) [
        | inr w ↦ read_keeps t i L.locks t j Read (R.seen t j h w)
        | inl w ↦
            let parts = and_parts (eqb i j) (not (is_some (writes (f t) j))) w in
            let e = eqb-true i j parts.0 in
            let free : is_some (p t j) ≡ false = ap is_some (R.pend t j h) ∙ not-true (is_some (writes (f t) j)) parts.1 in
            subst (λ (k : ℕ). holds t k Read (with_read t i L.locks) ≡ true) e (read-locks t i L.locks (subst (λ (k : ℕ). holds t k Write L.locks ≡ false) (sym e) (R.backed t j ∙ free)))
      ]

  wrote : (t i : ℕ) → IsOpen L t → Replayed (feed L q (Ok (Written t i))) (λ u. cond (eqb t u) (put i (to_write (asked L q)) ∷ []) [] ++ f u) ts vs cs (written p t i (to_write (asked L q)))
  unfolding acted
  wrote t i o = record {
    backed = λ u j. new_backed u j;
    pend = λ u j h. by_owner t o x (λ w as'. IsOpen L w → written p t i z w j ≡ writes as' j) (λ h'. own_pend j h') (λ w n h'. cond-false _ _ _ (and_left (eqb w t) (eqb j i) (ne_eqb w t n)) ∙ R.pend w j h') u (was u h);
    seen = λ u j h. by_owner t o x (λ w as'. IsOpen L w → outside j as' ≡ true → holds w j Read (with_write t i L.locks) ≡ true) (λ h' s. write_readers t i L.locks t j ∙ R.seen t j h' s) (λ w n h' s. write_readers t i L.locks w j ∙ R.seen w j h' s) u (was u h);
    right = λ u h. by_owner t o x (λ w as'. IsOpen L w → ReadsRight cs as') (λ h'. R.right t h') (λ w n h'. R.right w h') u (was u h);
    fresh = acted_fresh t o x;
    done = λ u m. let d = R.done u m in ((λ h. d.0 (was u h)), d.1);
    replay = acted_replay t o x;
    ends = acted_ends t o x;
  }
    where
      z : ℤ
      z = to_write (asked L q)

      x : Act
      x = put i (to_write (asked L q))

      was : (u : ℕ) → IsOpen (feed L q (Ok (Written t i))) u → IsOpen L u
      was u h = sym (open-restated u t Active L.opens o) ∙ h

      new_backed : (u j : ℕ) → holds u j Write (with_write t i L.locks) ≡ is_some (written p t i (to_write (asked L q)) u j)
      new_backed u j = elim (cases_Bool (eqb u t && eqb j i)) [
        | inl e ↦
            let parts = and_parts (eqb u t) (eqb j i) e in
            subst (λ (w : ℕ). holds w j Write (with_write t i L.locks) ≡ true) (sym (eqb-true u t parts.0))
            (subst (λ (k : ℕ). holds t k Write (with_write t i L.locks) ≡ true) (sym (eqb-true j i parts.1)) (write-locks t i L.locks))
            ∙ sym (ap is_some (cond-true (eqb u t && eqb j i) _ _ e))
        | inr e ↦ write_writers t i L.locks u j e ∙ R.backed u j ∙ sym (ap is_some (cond-false (eqb u t && eqb j i) _ _ e))
      ]

      own_pend : (j : ℕ) → IsOpen L t → written p t i (to_write (asked L q)) t j ≡ cond (eqb j i) (Some (to_write (asked L q))) (writes (f t) j)
      own_pend j h = ap (λ (b : Bool). cond (b && eqb j i) (Some (to_write (asked L q))) (p t j)) (eq-eqb t t refl) ∙ ap (cond (eqb j i) (Some (to_write (asked L q)))) (R.pend t j h)

  -- t is struck out: what the others have stays
  module _ (t : ℕ) (o : IsOpen L t) where
    gone_backed : (u j : ℕ) → holds u j Write (unlocked t L.locks) ≡ is_some (without p t u j)
    gone_backed u j = elim (cases_eq u t) [
      | inl e ↦ subst (λ (w : ℕ). holds w j Write (unlocked t L.locks) ≡ is_some (without p t w j)) (sym e) (holds-unlocked_same t j Write L.locks ∙ sym (ap is_some (cond-true (eqb t t) None (p t j) (eq-eqb t t refl))))
      | inr n ↦ holds-unlocked u t j Write L.locks n ∙ R.backed u j ∙ sym (ap is_some (cond-false (eqb u t) None (p u j) (ne_eqb u t n)))
    ]

    gone_pend : (u j : ℕ) → (u ≡ t → ⊥) → IsOpen L u → without p t u j ≡ writes (f u) j
    gone_pend u j n h = cond-false (eqb u t) None (p u j) (ne_eqb u t n) ∙ R.pend u j h

    gone_seen : (u j : ℕ) → (u ≡ t → ⊥) → IsOpen L u → outside j (f u) ≡ true → holds u j Read (unlocked t L.locks) ≡ true
    gone_seen u j n h s = holds-unlocked u t j Read L.locks n ∙ R.seen u j h s

    left : (u : ℕ) → IsOpen (struck t L) u → (u ≡ t → ⊥) × IsOpen L u
    left u h = open-closed u t L.opens h

  -- where t's commit is not blocked, what another read from outside has no pending write of t
  unread : (t : ℕ) → blockers ok L.locks t ask_commit ≡ [] → (u j : ℕ) → (u ≡ t → ⊥) → IsOpen L u → outside j (f u) ≡ true → p t j ≡ None
  unread t free u j n h s = is_none (p t j) (λ w. clash (R.backed t j ∙ w))
    where
      reader : In (lock u j Read) L.locks
      reader = holds_in u j Read L.locks (R.seen u j h s)

      clash : holds t j Write L.locks ≡ true → ⊥
      clash w = elim (in_order L.locks reader (holds_in t j Write L.locks w)) [
        | inl e ↦ read≢write (ap (λ (y : Lock). y.kind) e)
        | inr b ↦ elim b [
          | inl c ↦ nothing_in free (ahead_in t L.locks (lock u j Read) (lock t j Write) c n refl refl)
          | inr c ↦ n (sym (K.calm (lock t j Write) (lock u j Read) c refl refl refl))
        ]
      ]

  committed : (t : ℕ) → IsOpen L t → blockers ok L.locks t ask_commit ≡ [] → Replayed (struck t L) f (t ∷ ts) vs (laid (p t) cs) (without p t)
  committed t o free = record {
    backed = gone_backed t o;
    pend = λ u j h. let l = left t o u h in gone_pend t o u j l.0 l.1;
    seen = λ u j h. let l = left t o u h in gone_seen t o u j l.0 l.1;
    right = λ u h. let l = left t o u h in right_same cs (laid (p t) cs) (f u) (sym (laid-length (p t) cs)) (λ j s. sym (laid_silent (p t) cs j (pos 0) (unread t free u j l.0 l.1 s))) (R.right u l.1);
    fresh = R.fresh;
    done = λ u m. elim (in_cons m) [
      | inl e ↦ ((λ h. (left t o u h).0 e), subst (λ (w : ℕ). w ≤ L.begins) (sym e) (K.numbered t o))
      | inr k ↦ let d = R.done u k in ((λ h. d.0 (left t o u h).1), d.1)
    ];
    replay = (subst (λ (ws : List ℤ). ReadsRight ws (f t)) R.ends (R.right t o), R.replay);
    ends = ap (λ (f : ℕ → Option ℤ). laid f cs) (fun_ext (λ (j : ℕ). R.pend t j o)) ∙ sym (after-laid cs (f t)) ∙ ap (λ (ws : List ℤ). after ws (f t)) R.ends;
  }

  -- an abort or a deadlock
  aborted : (t : ℕ) → IsOpen L t → Replayed (struck t L) f ts vs cs (without p t)
  aborted t o = record {
    backed = gone_backed t o;
    pend = λ u j h. let l = left t o u h in gone_pend t o u j l.0 l.1;
    seen = λ u j h. let l = left t o u h in gone_seen t o u j l.0 l.1;
    right = λ u h. R.right u (left t o u h).1;
    fresh = R.fresh;
    done = λ u m. let d = R.done u m in ((λ h. d.0 (left t o u h).1), d.1);
    replay = R.replay;
    ends = R.ends;
  }

  waited : (t b : ℕ) → IsOpen L t → Replayed (feed L q (Ok (Wait t b))) f ts vs cs p
  waited t b o = record {
    backed = R.backed;
    pend = λ u j h. R.pend u j (was u h);
    seen = λ u j h. R.seen u j (was u h);
    right = λ u h. R.right u (was u h);
    fresh = R.fresh;
    done = λ u m. let d = R.done u m in ((λ h. d.0 (was u h)), d.1);
    replay = R.replay;
    ends = R.ends;
  }
    where
      was : (u : ℕ) → IsOpen (feed L q (Ok (Wait t b))) u → IsOpen L u
      was u h = sym (open-waiting u t (asked L q) L.opens o) ∙ h

pub replayed_next : (ok : Rule) (r : Run) (vs cs : List ℤ) (p : Writes) → Kept (ledger r) → Replayed (ledger r) (acts r) (commits r) vs cs p → (e : Entry) → Facts ok (ledger r) cs p e.call e.answer
    → Replayed (ledger (e ∷ r)) (acts (e ∷ r)) (commits (e ∷ r)) vs (committed_after e.answer cs p) (pending_after (asked (ledger r) e.call) e.answer p)
replayed_next ok r vs cs p K R e = go e.answer
  where
    go : (a : Answer) → Facts ok (ledger r) cs p e.call a
        → Replayed (feed (ledger r) e.call a) (λ t. act t (asked (ledger r) e.call) a ++ acts r t) (commit_in a ++ commits r) vs (committed_after a cs p) (pending_after (asked (ledger r) e.call) a p)
    go (Ok (Opened t)) h = opened ok (ledger r) (acts r) (commits r) vs cs p K R e.call t h
    go (Ok (Value t i v)) h = valued ok (ledger r) (acts r) (commits r) vs cs p K R e.call t i v h.0 h.2
    go (Ok (Written t i)) h = wrote ok (ledger r) (acts r) (commits r) vs cs p K R e.call t i h.0
    go (Ok (Committed t)) h = committed ok (ledger r) (acts r) (commits r) vs cs p K R e.call t h.0 h.1
    go (Ok (Aborted t)) h = aborted ok (ledger r) (acts r) (commits r) vs cs p K R e.call t h
    go (Ok (Wait t b)) h = waited ok (ledger r) (acts r) (commits r) vs cs p K R e.call t b h.0
    go (Ok (Deadlock t)) h = aborted ok (ledger r) (acts r) (commits r) vs cs p K R e.call t h
    go (Err x) h = R
