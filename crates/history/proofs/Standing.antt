-- All that holds after every run, and one call more.
use Rattle.std.proofs.Common.{◌≡◌, ℕ, ◌+◌, Bool, true, false, cond, eqb, ◌⊎◌, List, [], ◌∷◌, ◌++◌, map, ℤ, is_some, Some, None, Ok, Err, MatchBool, sym, refl, ap, ◌∙◌, subst, inl, inr, arith}
use Rattle.std.proofs.lemmas.Bool.{both_ways, cases_Bool, cases_eq, cond-true, cond-false, eq-eqb, ne_eqb, and_left, and_right}
use Rattle.records.specs.declared.refusal.Refusal.{Refusal}
use Rattle.records.specs.declared.request.Request.{Request}
use Rattle.store.specs.Meaning.{Writes}
use Rattle.scheduler.specs.declared.lock.Kind.TheVariants.{Read, Write}
use Rattle.scheduler.specs.declared.transaction.Ask.TheVariants.{Read as ask_read, Write as ask_write, Commit as ask_commit}
use Rattle.scheduler.specs.declared.transaction.State.TheVariants.{Active}
use Rattle.scheduler.specs.declared.reply.Reply.TheVariants.{Opened, Value, Written, Committed, Aborted, Wait, Deadlock}
use Rattle.scheduler.specs.Ledger.{Ledger, Answer, empty, lock, holds, with_write, asked, struck, feed}
use Rattle.scheduler.specs.Blockers.{Rule, In, first, later, blockers}
use Rattle.scheduler.specs.Effects.{committed_after, pending_after}
use Rattle.scheduler.proofs.Members.{in_nothing, in_cons}
use Rattle.scheduler.proofs.Locks.{holds_in, holds-unlocked}
use Rattle.scheduler.proofs.Blocking.{barring_in, bars_from, no_writer, nothing_in}
use Rattle.history.specs.Run.{Run, Entry, ledger}
use Rattle.history.specs.Serial.{Act, got, put, acts, commits}
use Rattle.history.specs.Events.{Event, read, wrote, commit, abort, History, none, more, Shows, Arranged, items_put}
use Rattle.history.specs.Law.{Law}
use Rattle.history.proofs.Facts.{Facts, IsOpen}
use Rattle.history.proofs.Tables.{Kept, kept_empty, kept_next, open-restated, open-waiting, more-open}
use Rattle.history.proofs.Replay.{writes}
use Rattle.history.proofs.Serially.{Replayed, replayed_none, replayed_next, read_writers, read_keeps, read-locks, write_readers, write_writers, write-locks}
use Rattle.history.proofs.Waiting.{Grounded, grounded_empty, grounded_next, someone_free}
use Rattle.history.proofs.Orders.{apart, arrange}
use Rattle.history.proofs.Histories.{Told, told_none, Grows, told_grows, told_touch, told-abort, told-commit}

-- in a store that is not private, who wrote keeps others off by the write lock
abbrev pub Locked : Bool → Ledger → ℕ → ℕ → Type 0
Locked private L t i = (private ≡ false) × (holds t i Write L.locks ≡ true)

pub record Standing (ok : Rule) (private : Bool) (vs : List ℤ) (r : Run) (cs : List ℤ) (p : Writes) : Type 0 where
  pub kept : Kept (ledger r)
  pub grounded : Grounded ok (ledger r)
  pub replayed : Replayed (ledger r) (acts r) (commits r) vs cs p
  pub recorded : (h : List Event) × History private r h
  pub told : (h : List Event) → History private r h → Told (Locked private (ledger r)) (ledger r) h

-- a history of one call more
history_cons : {private : Bool} {e : Entry} {r : Run} {k : List Event} → History private (e ∷ r) k → (es : List Event) × (h : List Event) × History private r h × Shows private r e.answer es × (k ≡ es ++ h)
history_cons (more {h = h} e es H S) = (es, h, H, S, refl)

history_none : {private : Bool} {k : List Event} → History private [] k → k ≡ []
history_none none = refl

pub standing_none : (ok : Rule) (private : Bool) (vs : List ℤ) (p : Writes) → ((t i : ℕ) → p t i ≡ None) → Standing ok private vs [] vs p
standing_none ok private vs p idle = record {
  kept = kept_empty;
  grounded = grounded_empty ok;
  replayed = replayed_none vs p idle;
  recorded = ([], none);
  told = λ h H. subst (Told (Locked private empty) empty) (sym (history_none H)) (told_none (Locked private empty) empty);
}

-- a refusal changes nothing
pub standing_err : {ok : Rule} {private : Bool} {vs : List ℤ} {r : Run} {cs : List ℤ} {p : Writes} → Standing ok private vs r cs p → (q : Request) (x : Refusal) → Standing ok private vs (record { call = q; answer = Err x } ∷ r) cs p
standing_err {ok} {private} {vs} {r} {cs} {p} S q x = record {
  kept = S.kept;
  grounded = S.grounded;
  replayed = S.replayed;
  recorded = (S.recorded.0, more (record { call = q; answer = Err x }) [] S.recorded.1 refl);
  told = λ h H. let c = history_cons H in subst (Told (Locked private (ledger r)) (ledger r)) (sym (c.4 ∙ ap (λ (es : List Event). es ++ c.1) c.3)) (S.told c.1 c.2);
}

-- what a transaction wrote has a value
put-writes : (as' : List Act) (i : ℕ) → In i (items_put as') → is_some (writes as' i) ≡ true
put-writes [] i m = absurd (in_nothing m)
put-writes (got j v ∷ as') i m = put-writes as' i m
put-writes (put j v ∷ as') i m = elim (cases_Bool (eqb i j)) [
  | inl e ↦ ap is_some (cond-true (eqb i j) (Some v) (writes as' i) e)
  | inr e ↦ ap is_some (cond-false (eqb i j) (Some v) (writes as' i) e) ∙ elim (in_cons m) [ inl q ↦ absurd (both_ways (eqb i j) e (eq-eqb i j q)) | inr k ↦ put-writes as' i k ]
]

module _ (ok : Rule) (law : ok Read Write ≡ false) (private : Bool) (pair : private ≡ false → ok Write Write ≡ false) (L : Ledger) (K : Kept L) (q : Request) where
  module _ (h : List Event) (T : Told (Locked private L) L h) where
    opened-told : (t : ℕ) → t ≡ L.begins + 1 → Told (Locked private (feed L q (Ok (Opened t)))) (feed L q (Ok (Opened t))) h
    opened-told t e = told_grows g T
      where
        g : Grows (Locked private L) (Locked private (feed L q (Ok (Opened t)))) L (feed L q (Ok (Opened t)))
        g = record {
          own = λ u i x. x;
          reads = λ u i o x. x;
          opens = λ u o. elim (more-open u t Active L.opens o) [ inl x ↦ inr (omega arith) | inr x ↦ inl x ];
          begins = omega arith;
        }

    waits-told : (t b : ℕ) → IsOpen L t → Told (Locked private (feed L q (Ok (Wait t b)))) (feed L q (Ok (Wait t b))) h
    waits-told t b o = told_grows g T
      where
        g : Grows (Locked private L) (Locked private (feed L q (Ok (Wait t b)))) L (feed L q (Ok (Wait t b)))
        g = record {
          own = λ u i x. x;
          reads = λ u i p x. x;
          opens = λ u p. inl (sym (open-waiting u t (asked L q) L.opens o) ∙ p);
          begins = omega arith;
        }

    value-told : (t i : ℕ) (v : ℤ) → IsOpen L t → blockers ok L.locks t (ask_read i) ≡ [] → Told (Locked private (feed L q (Ok (Value t i v)))) (feed L q (Ok (Value t i v))) (cond (holds t i Write L.locks) [] (read t i ∷ []) ++ h)
    value-told t i v o free = go (holds t i Write L.locks) refl
      where
        g : Grows (Locked private L) (Locked private (feed L q (Ok (Value t i v)))) L (feed L q (Ok (Value t i v)))
        g = record {
          own = λ u j x. (x.0, read_writers t i L.locks u j ∙ x.1);
          reads = λ u j p x. read_keeps t i L.locks u j Read x;
          opens = λ u p. inl (sym (open-restated u t Active L.opens o) ∙ p);
          begins = omega arith;
        }

        go : (b : Bool) → holds t i Write L.locks ≡ b → Told (Locked private (feed L q (Ok (Value t i v)))) (feed L q (Ok (Value t i v))) (cond b [] (read t i ∷ []) ++ h)
        go true e = told_grows g T
        go false e =
            told_touch (told_grows g T) t i (read t i) (refl, refl) (open-restated t t Active L.opens o ∙ o) (K.numbered t o)
            (λ u n x. no_writer ok law t i L.locks free e (lock u i Write) (holds_in u i Write L.locks (sym (read_writers t i L.locks u i) ∙ x.1)) refl refl n)
            (λ _. read-locks t i L.locks e)
            (λ z. absurd (apart z (λ y. omega arith)))

    written-told : (t i : ℕ) (v : ℤ) → IsOpen L t → blockers ok L.locks t (ask_write i v) ≡ [] → Told (Locked private (feed L q (Ok (Written t i)))) (feed L q (Ok (Written t i))) (cond private [] (wrote t i ∷ []) ++ h)
    written-told t i v o free = go (cases_Bool private)
      where
        keeps : (u j : ℕ) → holds u j Write L.locks ≡ true → holds u j Write (with_write t i L.locks) ≡ true
        keeps u j x = elim (cases_eq u t) [
          | inr n ↦ write_writers t i L.locks u j (and_left (eqb u t) (eqb j i) (ne_eqb u t n)) ∙ x
          | inl e ↦ elim (cases_eq j i) [
            | inl d ↦ subst (λ (w : ℕ). holds w j Write (with_write t i L.locks) ≡ true) (sym e) (subst (λ (k : ℕ). holds t k Write (with_write t i L.locks) ≡ true) (sym d) (write-locks t i L.locks))
            | inr n ↦ write_writers t i L.locks u j (and_right (eqb u t) (eqb j i) (ne_eqb j i n)) ∙ x
          ]
        ]

        g : Grows (Locked private L) (Locked private (feed L q (Ok (Written t i)))) L (feed L q (Ok (Written t i)))
        g = record {
          own = λ u j x. (x.0, keeps u j x.1);
          reads = λ u j p x. write_readers t i L.locks u j ∙ x;
          opens = λ u p. inl (sym (open-restated u t Active L.opens o) ∙ p);
          begins = omega arith;
        }

        alone : private ≡ false → (u : ℕ) → (u ≡ t → ⊥) → Locked private (feed L q (Ok (Written t i))) u i → ⊥
        alone open' u n x =
            nothing_in free
            (barring_in ok t i Write L.locks (lock u i Write)
            (holds_in u i Write L.locks (sym (write_writers t i L.locks u i (and_left (eqb u t) (eqb i i) (ne_eqb u t n))) ∙ x.1))
            (bars_from ok t i Write (lock u i Write) n refl (pair open')))

        go : (private ≡ true) ⊎ (private ≡ false) → Told (Locked private (feed L q (Ok (Written t i)))) (feed L q (Ok (Written t i))) (cond private [] (wrote t i ∷ []) ++ h)
        go (inl e) = subst (λ (b : Bool). Told (Locked private (feed L q (Ok (Written t i)))) (feed L q (Ok (Written t i))) (cond b [] (wrote t i ∷ []) ++ h)) (sym e) (told_grows g T)
        go (inr e) =
            subst (λ (b : Bool). Told (Locked private (feed L q (Ok (Written t i)))) (feed L q (Ok (Written t i))) (cond b [] (wrote t i ∷ []) ++ h)) (sym e)
            (told_touch (told_grows g T) t i (wrote t i) (refl, refl) (open-restated t t Active L.opens o ∙ o) (K.numbered t o)
            (alone e) (λ z. absurd (apart z (λ y. omega arith))) (λ _. (e, write-locks t i L.locks)))

    -- the others keep their write locks
    still : (t u i : ℕ) → (u ≡ t → ⊥) → Locked private L u i → Locked private (struck t L) u i
    still t u i n x = (x.0, holds-unlocked u t i Write L.locks n ∙ x.1)

    aborted-told : (t : ℕ) → IsOpen L t → Told (Locked private (struck t L)) (struck t L) (abort t ∷ h)
    aborted-told t o = told-abort (Locked private (struck t L)) T t (K.numbered t o) (still t)

    committed-told : (t : ℕ) → IsOpen L t → blockers ok L.locks t ask_commit ≡ [] → Told (Locked private (struck t L)) (struck t L) (commit t ∷ h)
    committed-told t o free = told-commit (Locked private (struck t L)) T t (K.numbered t o) (still t) ok K o free (λ i x. x.1)

    -- in a private store the writes come with the commit
    module _ (t : ℕ) (o : IsOpen L t) (hidden : private ≡ true) where
      Mine : ℕ → ℕ → Type 0
      Mine u i = (u ≡ t) × (holds u i Write L.locks ≡ true)

      begun : Told Mine L h
      unfolding Mine
      begun = told_grows g T
        where
          g : Grows (Locked private L) (λ u i. (u ≡ t) × (holds u i Write L.locks ≡ true)) L L
          g = record {
            own = λ u i x. absurd (both_ways private x.0 hidden);
            reads = λ u i p x. x;
            opens = λ u p. inl p;
            begins = omega arith;
          }

      all_wrote : (is : List ℕ) → ((i : ℕ) → In i is → holds t i Write L.locks ≡ true) → Told Mine L (map (wrote t) is ++ h)
      unfolding Mine
      all_wrote [] locked = begun
      all_wrote (i ∷ is) locked =
          told_touch (all_wrote is (λ j m. locked j (later m))) t i (wrote t i) (refl, refl) o (K.numbered t o)
          (λ u n x. n x.0) (λ z. absurd (apart z (λ y. omega arith))) (λ _. (refl, locked i first))

      published_told : blockers ok L.locks t ask_commit ≡ [] → (is : List ℕ) → ((i : ℕ) → In i is → holds t i Write L.locks ≡ true) → Told (Locked private (struck t L)) (struck t L) (commit t ∷ (map (wrote t) is ++ h))
      unfolding Mine
      published_told free is locked = told-commit (Locked private (struck t L)) (all_wrote is locked) t (K.numbered t o) (λ u i n x. absurd (n x.0)) ok K o free (λ i x. x.1)

module _ (ok : Rule) (law : ok Read Write ≡ false) (private : Bool) (pair : private ≡ false → ok Write Write ≡ false) (vs : List ℤ) (r : Run) (cs : List ℤ) (p : Writes) (S : Standing ok private vs r cs p) (q : Request) where
  -- the write locks of what t wrote
  write_locked : (t : ℕ) → IsOpen (ledger r) t → (is : List ℕ) → Arranged (acts r t) is → (i : ℕ) → In i is → holds t i Write (ledger r).locks ≡ true
  write_locked t o is A i m = S.replayed.backed t i ∙ ap is_some (S.replayed.pend t i o) ∙ put-writes (acts r t) i (A.only i m)

  committed-shown : (t : ℕ) → IsOpen (ledger r) t → blockers ok (ledger r).locks t ask_commit ≡ [] → (h es : List Event) → Told (Locked private (ledger r)) (ledger r) h
      → MatchBool private ((is : List ℕ) × Arranged (acts r t) is × (es ≡ commit t ∷ map (wrote t) is)) (es ≡ commit t ∷ []) → Told (Locked private (struck t (ledger r))) (struck t (ledger r)) (es ++ h)
  committed-shown t o free h es T = go private refl
    where
      go : (b : Bool) → private ≡ b → MatchBool b ((is : List ℕ) × Arranged (acts r t) is × (es ≡ commit t ∷ map (wrote t) is)) (es ≡ commit t ∷ []) → Told (Locked private (struck t (ledger r))) (struck t (ledger r)) (es ++ h)
      go true e w =
          subst (λ (xs : List Event). Told (Locked private (struck t (ledger r))) (struck t (ledger r)) (xs ++ h)) (sym w.2)
          (published_told ok law private pair (ledger r) S.kept q h T t o e free w.0 (write_locked t o w.0 w.1))
      go false e w =
          subst (λ (xs : List Event). Told (Locked private (struck t (ledger r))) (struck t (ledger r)) (xs ++ h)) (sym w)
          (committed-told ok law private pair (ledger r) S.kept q h T t o free)

  told-next : (a : Answer) → Facts ok (ledger r) cs p q a → (h es : List Event) → Told (Locked private (ledger r)) (ledger r) h → Shows private r a es → Told (Locked private (feed (ledger r) q a)) (feed (ledger r) q a) (es ++ h)
  told-next (Ok (Opened t)) f h es T s = subst (λ (xs : List Event). Told (Locked private (feed (ledger r) q (Ok (Opened t)))) (feed (ledger r) q (Ok (Opened t))) (xs ++ h)) (sym s) (opened-told ok law private pair (ledger r) S.kept q h T t f)
  told-next (Ok (Value t i v)) f h es T s = subst (λ (xs : List Event). Told (Locked private (feed (ledger r) q (Ok (Value t i v)))) (feed (ledger r) q (Ok (Value t i v))) (xs ++ h)) (sym s) (value-told ok law private pair (ledger r) S.kept q h T t i v f.0 f.1)
  told-next (Ok (Written t i)) f h es T s = subst (λ (xs : List Event). Told (Locked private (feed (ledger r) q (Ok (Written t i)))) (feed (ledger r) q (Ok (Written t i))) (xs ++ h)) (sym s) (written-told ok law private pair (ledger r) S.kept q h T t i f.1.0 f.0 f.1.1)
  told-next (Ok (Committed t)) f h es T s = committed-shown t f.0 f.1 h es T s
  told-next (Ok (Aborted t)) f h es T s = subst (λ (xs : List Event). Told (Locked private (struck t (ledger r))) (struck t (ledger r)) (xs ++ h)) (sym s) (aborted-told ok law private pair (ledger r) S.kept q h T t f)
  told-next (Ok (Wait t b)) f h es T s = subst (λ (xs : List Event). Told (Locked private (feed (ledger r) q (Ok (Wait t b)))) (feed (ledger r) q (Ok (Wait t b))) (xs ++ h)) (sym s) (waits-told ok law private pair (ledger r) S.kept q h T t b f.0)
  told-next (Ok (Deadlock t)) f h es T s = subst (λ (xs : List Event). Told (Locked private (struck t (ledger r))) (struck t (ledger r)) (xs ++ h)) (sym s) (aborted-told ok law private pair (ledger r) S.kept q h T t f)
  told-next (Err x) f h es T s = subst (λ (xs : List Event). Told (Locked private (ledger r)) (ledger r) (xs ++ h)) (sym s) T

  shown : (a : Answer) → (es : List Event) × Shows private r a es
  shown (Ok (Opened t)) = ([], refl)
  shown (Ok (Value t i v)) = (cond (holds t i Write (ledger r).locks) [] (read t i ∷ []), refl)
  shown (Ok (Written t i)) = (cond private [] (wrote t i ∷ []), refl)
  shown (Ok (Committed t)) = let A = arrange (acts r t) in go private A.0 A.1
    where
      go : (b : Bool) (is : List ℕ) → Arranged (acts r t) is → (es : List Event) × MatchBool b ((js : List ℕ) × Arranged (acts r t) js × (es ≡ commit t ∷ map (wrote t) js)) (es ≡ commit t ∷ [])
      go true is A = (commit t ∷ map (wrote t) is, (is, A, refl))
      go false is A = (commit t ∷ [], refl)
  shown (Ok (Aborted t)) = (abort t ∷ [], refl)
  shown (Ok (Wait t b)) = ([], refl)
  shown (Ok (Deadlock t)) = (abort t ∷ [], refl)
  shown (Err x) = ([], refl)

  pub standing_next : (a : Answer) → Facts ok (ledger r) cs p q a → Standing ok private vs (record { call = q; answer = a } ∷ r) (committed_after a cs p) (pending_after (asked (ledger r) q) a p)
  standing_next a f = record {
    kept = kept_next ok law (ledger r) S.kept cs p q a f;
    grounded = grounded_next ok (ledger r) S.kept S.grounded q cs p a f;
    replayed = replayed_next ok r vs cs p S.kept S.replayed (record { call = q; answer = a }) f;
    recorded = let w = shown a in (w.0 ++ S.recorded.0, more (record { call = q; answer = a }) w.0 S.recorded.1 w.1);
    told = λ k H. let c = history_cons H in
        subst (Told (Locked private (feed (ledger r) q a)) (feed (ledger r) q a)) (sym c.4) (told-next a f c.1 c.0 (S.told c.1 c.2) c.3);
  }

pub lawful : {ok : Rule} {private : Bool} {vs : List ℤ} {r : Run} {cs : List ℤ} {p : Writes} → Standing ok private vs r cs p → Law ok private vs r cs
lawful {ok} {private} {vs} {r} {cs} {p} S = record {
  reads_replay_in_commit_order = S.replayed.replay;
  commits_leave_the_store = S.replayed.ends;
  has_history = S.recorded;
  is_strict = λ h H. (S.told h H).strict;
  is_commit_ordered = λ h H t u i d e o x y n w m k. (S.told h H).ordered t u (record { item = i; older = d; newer = e; order = o; old_touch = x; new_touch = y; others = n; clash = w }) m k;
  someone_waits_for_nobody = λ t o. let z = someone_free ok (ledger r) S.kept (S.grounded t) o in (z.0, record { is_open = z.1; waits_for_nobody = z.2 });
}
