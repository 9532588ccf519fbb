-- Every history of a run is strict and commit-ordered.
use Rattle.std.proofs.Common.{◌≡◌, ℕ, ◌<◌, ◌≤◌, true, ◌⊎◌, List, [], ◌∷◌, ◌++◌, sym, refl, ap, ◌∙◌, subst, inl, inr, arith}
use Rattle.std.proofs.lemmas.Bool.{cases_eq}
use Rattle.scheduler.specs.declared.lock.Kind.TheVariants.{Read, Write}
use Rattle.scheduler.specs.declared.lock.Lock.{Lock}
use Rattle.scheduler.specs.declared.transaction.Ask.TheVariants.{Commit as ask_commit}
use Rattle.scheduler.specs.Ledger.{Ledger, lock, holds, unlocked, struck}
use Rattle.scheduler.specs.Blockers.{Rule, In, first, later, blockers}
use Rattle.scheduler.proofs.Members.{in_nothing, in_cons, in_order}
use Rattle.scheduler.proofs.Locks.{holds_in, holds-unlocked}
use Rattle.scheduler.proofs.Blocking.{ahead_in, nothing_in}
use Rattle.history.specs.Events.{Event, read, wrote, commit, abort, Touches, IsWrite, Ends, Later, Strict}
use Rattle.history.proofs.Facts.{IsOpen}
use Rattle.history.proofs.Tables.{Kept, read≢write, open-closed}
use Rattle.history.proofs.Orders.{split_cons, in_split, split_in, newer_in, older_in, later_more, ends_between, later_cons, ends_more, touch_cases, write_is, commit_same, abort_same, apart}

abbrev pub who : Event → ℕ
who (read u j) = u
who (wrote u j) = u
who (commit u) = u
who (abort u) = u

pub touched_who : (t i : ℕ) (e : Event) → Touches t i e → who e ≡ t
touched_who t i (read u j) h = h.0
touched_who t i (wrote u j) h = h.0
touched_who t i (commit u) h = absurd h
touched_who t i (abort u) h = absurd h

-- two events on one item, of two transactions, at least one a write: d is t's, e is u's and later
pub record Conflict (h : List Event) (t u : ℕ) : Type 0 where
  pub item : ℕ
  pub older : Event
  pub newer : Event
  pub order : Later older newer h
  pub old_touch : Touches t item older
  pub new_touch : Touches u item newer
  pub others : u ≡ t → ⊥
  pub clash : IsWrite older ⊎ IsWrite newer

-- what holds of a history h beside the ledger L; Own t i says that t, which wrote i and has not ended, keeps others off it
pub record Told (Own : ℕ → ℕ → Type 0) (L : Ledger) (h : List Event) : Type 0 where
  -- who wrote has ended since, or keeps others off
  pub dirty : (mid old : List Event) (t i : ℕ) → h ≡ mid ++ wrote t i ∷ old → Ends t mid ⊎ Own t i
  pub ended : (t : ℕ) → Ends t h → IsOpen L t → ⊥
  pub seen : (t i : ℕ) → In (read t i) h → IsOpen L t → holds t i Read L.locks ≡ true
  pub known : (e : Event) → In e h → who e ≤ L.begins
  pub strict : Strict h
  -- where the later of two in conflict has committed, the earlier is no longer open
  pub past : (t u : ℕ) → Conflict h t u → In (commit u) h → IsOpen L t → ⊥
  pub ordered : (t u : ℕ) → Conflict h t u → In (commit t) h → In (commit u) h → Later (commit t) (commit u) h

pub told_none : (Own : ℕ → ℕ → Type 0) (L : Ledger) → Told Own L []
told_none Own L = record {
  dirty = λ mid old t i e. absurd (in_nothing (split_in mid old e));
  ended = λ t e. elim e [ inl m ↦ absurd (in_nothing m) | inr m ↦ absurd (in_nothing m) ];
  seen = λ t i m. absurd (in_nothing m);
  known = λ e m. absurd (in_nothing m);
  strict = λ t u i e o. absurd (in_nothing (newer_in o));
  past = λ t u c. absurd (in_nothing (newer_in c.order));
  ordered = λ t u c m. absurd (in_nothing m);
}

-- the ledger changes, and nothing of the history's transactions is lost
pub record Grows (Own Own' : ℕ → ℕ → Type 0) (L M : Ledger) : Type 0 where
  pub own : (t i : ℕ) → Own t i → Own' t i
  pub reads : (t i : ℕ) → IsOpen L t → holds t i Read L.locks ≡ true → holds t i Read M.locks ≡ true
  pub opens : (t : ℕ) → IsOpen M t → IsOpen L t ⊎ (L.begins < t)
  pub begins : L.begins ≤ M.begins

pub told_grows : {Own Own' : ℕ → ℕ → Type 0} {L M : Ledger} {h : List Event} → Grows Own Own' L M → Told Own L h → Told Own' M h
told_grows {Own} {Own'} {L} {M} {h} g T = record {
  dirty = λ mid old t i e. elim (T.dirty mid old t i e) [ inl x ↦ inl x | inr x ↦ inr (g.own t i x) ];
  ended = λ t e o. T.ended t e (was t (ends_known t e) o);
  seen = λ t i m o. let p = was t (T.known (read t i) m) o in g.reads t i p (T.seen t i m p);
  known = λ e m. let k = T.known e m in let b = g.begins in omega arith;
  strict = T.strict;
  past = λ t u c m o. T.past t u c m (was t (subst (λ (n : ℕ). n ≤ L.begins) (touched_who t c.item c.older c.old_touch) (T.known c.older (older_in c.order))) o);
  ordered = T.ordered;
}
  where
    was : (t : ℕ) → t ≤ L.begins → IsOpen M t → IsOpen L t
    was t k o = elim (g.opens t o) [ inl x ↦ x | inr n ↦ absurd (omega arith) ]

    ends_known : (t : ℕ) → Ends t h → t ≤ L.begins
    ends_known t (inl m) = T.known (commit t) m
    ends_known t (inr m) = T.known (abort t) m

-- the newer of a conflict is the new event, or the conflict was there
conflict_cons : {h : List Event} {x : Event} {t u : ℕ} (c : Conflict (x ∷ h) t u) → (c.newer ≡ x) ⊎ Conflict h t u
conflict_cons c = elim (later_cons c.order) [
  | inl p ↦ inl p.0
  | inr k ↦ inr (record { item = c.item; older = c.older; newer = c.newer; order = k.0; old_touch = c.old_touch; new_touch = c.new_touch; others = c.others; clash = c.clash })
]

-- a read or a write of w on x, which nobody else keeps others off
module _ {Own : ℕ → ℕ → Type 0} {L : Ledger} {h : List Event} (T : Told Own L h) (w x : ℕ) (e : Event)
    (touch : Touches w x e) (o : IsOpen L w) (low : w ≤ L.begins) (alone : (t : ℕ) → (t ≡ w → ⊥) → Own t x → ⊥)
    (reading : e ≡ read w x → holds w x Read L.locks ≡ true) (writing : e ≡ wrote w x → Own w x) where
  not_end : (t : ℕ) → Ends t (e ∷ h) → Ends t h
  not_end t (inl m) = elim (in_cons m) [ inl q ↦ absurd (subst (Touches w x) (sym q) touch) | inr k ↦ inl k ]
  not_end t (inr m) = elim (in_cons m) [ inl q ↦ absurd (subst (Touches w x) (sym q) touch) | inr k ↦ inr k ]

  not-commit : (t : ℕ) → In (commit t) (e ∷ h) → In (commit t) h
  not-commit t m = elim (in_cons m) [ inl q ↦ absurd (subst (Touches w x) (sym q) touch) | inr k ↦ k ]

  -- the new event's transaction is open, so it has not committed
  uncommitted : (u i : ℕ) (d : Event) → Touches u i d → d ≡ e → In (commit u) h → ⊥
  uncommitted u i d y q m =
      let same : u ≡ w = sym (touched_who u i d y) ∙ ap who q ∙ touched_who w x e touch in
      T.ended w (inl (subst (λ (n : ℕ). In (commit n) h) same m)) o

  pub told_touch : Told Own L (e ∷ h)
  told_touch = record {
    dirty = λ mid old t i q. elim (split_cons mid old q) [
      | inl s ↦ inr (new_own t i s.0)
      | inr s ↦ elim (T.dirty s.0 old t i s.2) [
        | inl k ↦ inl (subst (Ends t) (sym s.1) (ends_more t e k))
        | inr k ↦ inr k
      ]
    ];
    ended = λ t k. T.ended t (not_end t k);
    seen = λ t i m p. elim (in_cons m) [ inl q ↦ new_seen t i q | inr k ↦ T.seen t i k p ];
    known = λ d m. elim (in_cons m) [ inl q ↦ subst (λ (n : ℕ). n ≤ L.begins) (sym (ap who q ∙ touched_who w x e touch)) low | inr k ↦ T.known d k ];
    strict = λ t u i d p y n. elim (later_cons p) [
      | inl q ↦ elim (T.dirty p.between p.before t i q.1) [
        | inl k ↦ k
        | inr own ↦ absurd (alone t (λ z. n (new_who u i d y q.0 ∙ sym z)) (subst (λ (j : ℕ). Own t j) (new_item u i d y q.0) own))
      ]
      | inr k ↦ subst (Ends t) k.1 (T.strict t u i d k.0 y n)
    ];
    past = λ t u c m p. elim (conflict_cons c) [
      | inl q ↦ uncommitted u c.item c.newer c.new_touch q (not-commit u m)
      | inr k ↦ T.past t u k (not-commit u m) p
    ];
    ordered = λ t u c m k. elim (conflict_cons c) [
      | inl q ↦ absurd (uncommitted u c.item c.newer c.new_touch q (not-commit u k))
      | inr z ↦ later_more (T.ordered t u z (not-commit t m) (not-commit u k)) e
    ];
  }
    where
      new_who : (u i : ℕ) (d : Event) → Touches u i d → d ≡ e → u ≡ w
      new_who u i d y q = sym (touched_who u i d y) ∙ ap who q ∙ touched_who w x e touch

      item_of : (u i v j : ℕ) (d : Event) → Touches u i d → Touches v j d → i ≡ j
      item_of u i v j (read a b) y z = sym y.1 ∙ z.1
      item_of u i v j (wrote a b) y z = sym y.1 ∙ z.1
      item_of u i v j (commit a) y z = absurd y
      item_of u i v j (abort a) y z = absurd y

      new_item : (u i : ℕ) (d : Event) → Touches u i d → d ≡ e → i ≡ x
      new_item u i d y q = item_of u i w x d y (subst (Touches w x) (sym q) touch)

      new_own : (t i : ℕ) → e ≡ wrote t i → Own t i
      new_own t i q =
          let p : Touches w x (wrote t i) = subst (Touches w x) q touch in
          subst (λ (n : ℕ). Own n i) (sym p.0) (subst (Own w) (sym p.1) (writing (q ∙ cc (p.0, p.1))))

      new_seen : (t i : ℕ) → read t i ≡ e → holds t i Read L.locks ≡ true
      new_seen t i q =
          let p : Touches w x (read t i) = subst (Touches w x) (sym q) touch in
          subst (λ (n : ℕ). holds n i Read L.locks ≡ true) (sym p.0) (subst (λ (j : ℕ). holds w j Read L.locks ≡ true) (sym p.1) (reading (sym q ∙ cc (p.0, p.1))))

-- w ends: e is its commit or its abort
module _ {Own : ℕ → ℕ → Type 0} (Own' : ℕ → ℕ → Type 0) {L : Ledger} {h : List Event} (T : Told Own L h) (w : ℕ) (low : w ≤ L.begins)
    (keep : (t i : ℕ) → (t ≡ w → ⊥) → Own t i → Own' t i) where
  left : (t : ℕ) → IsOpen (struck w L) t → (t ≡ w → ⊥) × IsOpen L t
  left t p = open-closed t w L.opens p

  module _ (e : Event) (ends : Ends w (e ∷ [])) (quiet : (t i : ℕ) → Touches t i e → ⊥) (only : (t : ℕ) → Ends t (e ∷ []) → t ≡ w) (its : who e ≡ w) where
    end_dirty : (mid old : List Event) (t i : ℕ) → e ∷ h ≡ mid ++ wrote t i ∷ old → Ends t mid ⊎ Own' t i
    end_dirty mid old t i q = elim (split_cons mid old q) [
      | inl s ↦ absurd (quiet t i (subst (Touches t i) (sym s.0) (refl, refl)))
      | inr s ↦ elim (T.dirty s.0 old t i s.2) [
        | inl k ↦ inl (subst (Ends t) (sym s.1) (ends_more t e k))
        | inr k ↦ elim (cases_eq t w) [
          | inl z ↦ inl (subst (Ends t) (sym s.1) (subst (λ (n : ℕ). Ends n (e ∷ s.0)) (sym z) (front s.0)))
          | inr n ↦ inr (keep t i n k)
        ]
      ]
    ]
      where
        front : (m : List Event) → Ends w (e ∷ m)
        front m = elim ends [
          | inl k ↦ elim (in_cons k) [ inl z ↦ inl (subst (λ (y : Event). In y (e ∷ m)) (sym z) first) | inr z ↦ absurd (in_nothing z) ]
          | inr k ↦ elim (in_cons k) [ inl z ↦ inr (subst (λ (y : Event). In y (e ∷ m)) (sym z) first) | inr z ↦ absurd (in_nothing z) ]
        ]

    end_ended : (t : ℕ) → Ends t (e ∷ h) → IsOpen (struck w L) t → ⊥
    end_ended t k p = elim (new k) [ inl z ↦ (left t p).0 z | inr z ↦ T.ended t z (left t p).1 ]
      where
        new : Ends t (e ∷ h) → (t ≡ w) ⊎ Ends t h
        new (inl m) = elim (in_cons m) [ inl z ↦ inl (only t (inl (subst (λ (y : Event). In y (e ∷ [])) (sym z) first))) | inr z ↦ inr (inl z) ]
        new (inr m) = elim (in_cons m) [ inl z ↦ inl (only t (inr (subst (λ (y : Event). In y (e ∷ [])) (sym z) first))) | inr z ↦ inr (inr z) ]

    end_seen : (t i : ℕ) → In (read t i) (e ∷ h) → IsOpen (struck w L) t → holds t i Read (unlocked w L.locks) ≡ true
    end_seen t i m p = elim (in_cons m) [
      | inl q ↦ absurd (quiet t i (subst (Touches t i) q (refl, refl)))
      | inr k ↦ holds-unlocked t w i Read L.locks (left t p).0 ∙ T.seen t i k (left t p).1
    ]

    end_known : (d : Event) → In d (e ∷ h) → who d ≤ L.begins
    end_known d m = elim (in_cons m) [ inl q ↦ subst (λ (n : ℕ). n ≤ L.begins) (sym (ap who q ∙ its)) low | inr k ↦ T.known d k ]

    end_strict : Strict (e ∷ h)
    end_strict t u i d p y n = elim (later_cons p) [
      | inl q ↦ absurd (quiet u i (subst (Touches u i) q.0 y))
      | inr k ↦ subst (Ends t) k.1 (T.strict t u i d k.0 y n)
    ]

    old_conflict : (t u : ℕ) → Conflict (e ∷ h) t u → Conflict h t u
    old_conflict t u c = elim (conflict_cons c) [
      | inl q ↦ absurd (quiet u c.item (subst (Touches u c.item) q c.new_touch))
      | inr k ↦ k
    ]

  pub told-abort : Told Own' (struck w L) (abort w ∷ h)
  told-abort = record {
    dirty = end_dirty (abort w) (inr first) (λ t i y. y) only refl;
    ended = end_ended (abort w) (inr first) (λ t i y. y) only refl;
    seen = end_seen (abort w) (inr first) (λ t i y. y) only refl;
    known = end_known (abort w) (inr first) (λ t i y. y) only refl;
    strict = end_strict (abort w) (inr first) (λ t i y. y) only refl;
    past = λ t u c m p. T.past t u (old_conflict (abort w) (inr first) (λ t' i y. y) only refl t u c) (old_commit u m) (left t p).1;
    ordered = λ t u c m k. later_more (T.ordered t u (old_conflict (abort w) (inr first) (λ t' i y. y) only refl t u c) (old_commit t m) (old_commit u k)) (abort w);
  }
    where
      old_commit : (t : ℕ) → In (commit t) (abort w ∷ h) → In (commit t) h
      old_commit t m = elim (in_cons m) [ inl q ↦ absurd (apart q (λ z. omega arith)) | inr k ↦ k ]

      only : (t : ℕ) → Ends t (abort w ∷ []) → t ≡ w
      only t (inl m) = elim (in_cons m) [ inl q ↦ absurd (apart q (λ z. omega arith)) | inr k ↦ absurd (in_nothing k) ]
      only t (inr m) = elim (in_cons m) [ inl q ↦ abort_same q | inr k ↦ absurd (in_nothing k) ]

  pub told-commit : (ok : Rule) → Kept L → IsOpen L w → blockers ok L.locks w ask_commit ≡ [] → ((i : ℕ) → Own w i → holds w i Write L.locks ≡ true) → Told Own' (struck w L) (commit w ∷ h)
  told-commit ok K o free locked = record {
    dirty = end_dirty (commit w) (inl first) (λ t i y. y) only refl;
    ended = end_ended (commit w) (inl first) (λ t i y. y) only refl;
    seen = end_seen (commit w) (inl first) (λ t i y. y) only refl;
    known = end_known (commit w) (inl first) (λ t i y. y) only refl;
    strict = end_strict (commit w) (inl first) (λ t i y. y) only refl;
    past = λ t u c m p. elim (in_cons m) [
      | inl q ↦ first_out t (subst (Conflict h t) (commit_same q) (old t u c)) (left t p).1
      | inr k ↦ T.past t u (old t u c) k (left t p).1
    ];
    ordered = λ t u c m k. elim (in_cons k) [
      | inl q ↦ elim (in_cons m) [
        | inl z ↦ absurd (c.others (commit_same q ∙ sym (commit_same z)))
        | inr z ↦ subst (λ (n : ℕ). Later (commit t) (commit n) (commit w ∷ h)) (sym (commit_same q)) (newest t z)
      ]
      | inr k' ↦ elim (in_cons m) [
        | inl z ↦ absurd (T.past t u (old t u c) k' (subst (IsOpen L) (sym (commit_same z)) o))
        | inr z ↦ later_more (T.ordered t u (old t u c) z k') (commit w)
      ]
    ];
  }
    where
      only : (t : ℕ) → Ends t (commit w ∷ []) → t ≡ w
      only t (inl m) = elim (in_cons m) [ inl q ↦ commit_same q | inr k ↦ absurd (in_nothing k) ]
      only t (inr m) = elim (in_cons m) [ inl q ↦ absurd (apart q (λ z. omega arith)) | inr k ↦ absurd (in_nothing k) ]

      old : (t u : ℕ) → Conflict (commit w ∷ h) t u → Conflict h t u
      old t u c = old_conflict (commit w) (inl first) (λ t' i y. y) only refl t u c

      newest : (t : ℕ) → In (commit t) h → Later (commit t) (commit w) (commit w ∷ h)
      newest t m = let s = in_split m in record { since = []; between = s.0; before = s.1; split = ap (λ (z : List Event). commit w ∷ z) s.2 }

      -- a reader that is still open stands before w's write lock, so w's commit would be blocked
      reader : (t i : ℕ) → (w ≡ t → ⊥) → holds t i Read L.locks ≡ true → holds w i Write L.locks ≡ true → ⊥
      reader t i n a b = elim (in_order L.locks (holds_in t i Read L.locks a) (holds_in w i Write L.locks b)) [
        | inl e ↦ read≢write (ap (λ (y : Lock). y.kind) e)
        | inr s ↦ elim s [
          | inl c ↦ nothing_in free (ahead_in w L.locks (lock t i Read) (lock w i Write) c (λ e. n (sym e)) refl refl)
          | inr c ↦ n (K.calm (lock w i Write) (lock t i Read) c refl refl refl)
        ]
      ]

      wrote_locked : (i : ℕ) → In (wrote w i) h → holds w i Write L.locks ≡ true
      wrote_locked i m = let s = in_split m in elim (T.dirty s.0 s.1 w i s.2) [
        | inl k ↦ absurd (T.ended w (ends_before s.0 (wrote w i ∷ s.1) k s.2) o)
        | inr k ↦ locked i k
      ]
        where
          in_front : {y : Event} (a b : List Event) → In y a → In y (a ++ b)
          in_front a b first = first
          in_front a b (later k) = later (in_front _ b k)

          ends_before : (a b : List Event) → Ends w a → h ≡ a ++ b → Ends w h
          ends_before a b (inl k) e = inl (subst (λ (z : List Event). In (commit w) z) (sym e) (in_front a b k))
          ends_before a b (inr k) e = inr (subst (λ (z : List Event). In (abort w) z) (sym e) (in_front a b k))

      first_out : (t : ℕ) → Conflict h t w → IsOpen L t → ⊥
      first_out t c p = elim c.clash [
        | inl d ↦ wrote-first (write_is t c.item c.older c.old_touch d)
        | inr d ↦ elim (touch_cases t c.item c.older c.old_touch) [
          | inr q ↦ wrote-first q
          | inl q ↦ reader t c.item c.others
              (T.seen t c.item (subst (λ (y : Event). In y h) q (older_in c.order)) p)
              (wrote_locked c.item (subst (λ (y : Event). In y h) (write_is w c.item c.newer c.new_touch d) (newer_in c.order)))
        ]
      ]
        where
          wrote-first : c.older ≡ wrote t c.item → ⊥
          wrote-first q =
              let l : Later (wrote t c.item) c.newer h = subst (λ (y : Event). Later y c.newer h) q c.order in
              T.ended t (ends_between l t (T.strict t w c.item c.newer l c.new_touch c.others)) p
