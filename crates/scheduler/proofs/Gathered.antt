-- The waits by what is asked for, by the write locks of those that commit, and block after block.
use Rattle.std.proofs.Common.{◌≡◌, ℕ, ◌+◌, ◌*◌, ◌/◌, ◌%◌, ◌<◌, ◌≤◌, Bool, true, false, not, ◌&&◌, ◌||◌, eqb, ltb, List, [], ◌∷◌, ◌++◌, length, get_or, take, set, ℤ, Some, None, sym, refl, ap, ◌∙◌, subst, ap₂, inl, inr, arith}
use Rattle.std.proofs.lemmas.List.{get_or-set_other, get_or-set_same, take_more}
use Rattle.std.proofs.lemmas.Bool.{and_from, and_left, and_parts, and_right, both_ways, cases_Bool, cases_eq, cases_lt, eq-eqb, eqb-true, le-ltb, lt-ltb, ne_eqb}
use Rattle.scheduler.specs.declared.lock.Kind.{Kind}
use Rattle.scheduler.specs.declared.lock.Kind.TheVariants.{Read, Write}
use Rattle.scheduler.specs.declared.lock.Lock.{Lock}
use Rattle.scheduler.specs.declared.places.Places.{Places}
use Rattle.scheduler.specs.declared.transaction.Ask.TheVariants.{Read as ask_read, Write as ask_write, Commit as ask_commit}
use Rattle.scheduler.specs.declared.transaction.State.{State}
use Rattle.scheduler.specs.declared.transaction.State.TheVariants.{Active, Waiting}
use Rattle.scheduler.specs.declared.transaction.Transaction.{Transaction}
use Rattle.scheduler.specs.Orders.{no_lock, rising}
use Rattle.scheduler.specs.Bits.{has}
use Rattle.scheduler.specs.Blockers.{Rule}
use Rattle.scheduler.specs.Edges.{Held, More, asks, bars_with, between, commits, committing, in_block, number_at, state_at, written_in}
use Rattle.scheduler.specs.Found.{At}
use Rattle.scheduler.specs.ItemSets.{no_places}
use Rattle.scheduler.specs.Ledger.{holds, is_lock, same_kind, state_of}
use Rattle.scheduler.proofs.Edging.{one_place}
use Rattle.scheduler.proofs.Gathering.{nothing-more}
use Rattle.scheduler.proofs.Locks.{is_lock_eq, is_lock_other}
use Rattle.scheduler.proofs.Rising.{at-rising}

-- tests
bars-open : (nr hr nw hw e : Bool) → (((nr && hr) || (nw && hw)) && not e) ≡ (not e && ((nr && hr) || (nw && hw)))
bars-open nr hr nw hw true = go ((nr && hr) || (nw && hw))
  where
    go : (x : Bool) → (x && false) ≡ false
    go true = refl
    go false = refl
bars-open nr hr nw hw false = go ((nr && hr) || (nw && hw))
  where
    go : (x : Bool) → (x && true) ≡ x
    go true = refl
    go false = refl

bars_shut : (nr nw e : Bool) → (((nr && false) || (nw && false)) && e) ≡ false
bars_shut true true e = refl
bars_shut true false e = refl
bars_shut false true e = refl
bars_shut false false e = refl

-- the places of two open transactions are the same exactly if their numbers are
module _ (os : List Transaction) (last : ℕ) (up : rising 0 last os ≡ true) (b : ℕ) (lb : b < length os) where
  pub places_numbers : (a : ℕ) → a < length os → eqb b a ≡ eqb (number_at os a) (number_at os b)
  places_numbers a la = elim (cases_eq b a) [
    | inl e ↦ eq-eqb b a e ∙ sym (eq-eqb _ _ (ap (number_at os) (sym e)))
    | inr n ↦ ne_eqb b a n ∙ sym (ne_eqb _ _ (λ q. n (one_place last os up b a lb la (sym q))))
  ]

  -- those that bar the kind on an item of the block, without b
  module _ (ok : Rule) (ls : List Lock) (w x : ℕ) (k : Kind) (here : x / 1024 ≡ w) (readers writers : List Places) (hr : Held os ls w Read readers) (hw : Held os ls w Write writers) where
    item_is : w * 1024 + x % 1024 ≡ x
    item_is = omega arith

    at_read : (a : ℕ) → a < 64 → has (get_or readers (x % 1024) no_places).bits a ≡ (ltb a (length os) && holds (number_at os a) x Read ls)
    at_read a l = hr (x % 1024) a (omega arith) l ∙ ap (λ (n : ℕ). ltb a (length os) && holds (number_at os a) n Read ls) item_is

    pub at-write : (a : ℕ) → a < 64 → has (get_or writers (x % 1024) no_places).bits a ≡ (ltb a (length os) && holds (number_at os a) x Write ls)
    at-write a l = hw (x % 1024) a (omega arith) l ∙ ap (λ (n : ℕ). ltb a (length os) && holds (number_at os a) n Write ls) item_is

    pub bars_row : (r : ℕ) → ((a : ℕ) → has r a ≡ (((not (ok k Read) && has (get_or readers (x % 1024) no_places).bits a) || (not (ok k Write) && has (get_or writers (x % 1024) no_places).bits a)) && not (eqb b a)))
        → (a : ℕ) → a < 64 → has r a ≡ (ltb a (length os) && (not (eqb (number_at os a) (number_at os b)) && bars_with ok ls (number_at os a) x k))
    bars_row r h a l =
        h a
        ∙ ap₂ (λ (y z : Bool). ((not (ok k Read) && y) || (not (ok k Write) && z)) && not (eqb b a)) (at_read a l) (at-write a l)
        ∙ elim (cases_lt a (length os)) [
          | inl la ↦
              ap (λ (t : Bool). ((not (ok k Read) && (t && holds (number_at os a) x Read ls)) || (not (ok k Write) && (t && holds (number_at os a) x Write ls))) && not (eqb b a)) (lt-ltb a (length os) la)
              ∙ ap (λ (e : Bool). ((not (ok k Read) && holds (number_at os a) x Read ls) || (not (ok k Write) && holds (number_at os a) x Write ls)) && not e) (places_numbers a la)
              ∙ bars-open (not (ok k Read)) (holds (number_at os a) x Read ls) (not (ok k Write)) (holds (number_at os a) x Write ls) (eqb (number_at os a) (number_at os b))
              ∙ sym (ap (λ (t : Bool). t && (not (eqb (number_at os a) (number_at os b)) && bars_with ok ls (number_at os a) x k)) (lt-ltb a (length os) la))
          | inr ga ↦
              ap (λ (t : Bool). ((not (ok k Read) && (t && holds (number_at os a) x Read ls)) || (not (ok k Write) && (t && holds (number_at os a) x Write ls))) && not (eqb b a)) (le-ltb a (length os) ga)
              ∙ bars_shut (not (ok k Read)) (not (ok k Write)) (not (eqb b a))
              ∙ sym (ap (λ (t : Bool). t && (not (eqb (number_at os a) (number_at os b)) && bars_with ok ls (number_at os a) x k)) (le-ltb a (length os) ga))
        ]

    at_place : (f : ℕ → ℕ → State → Bool) (s : State) (v : ℕ → Bool) → state_at os b ≡ s → ((a : ℕ) → f (number_at os a) (number_at os b) s ≡ v a) → (a : ℕ) → (ltb a (length os) && v a) ≡ between os f b a
    at_place f s v e q a =
        ap (λ (t : Bool). ltb a (length os) && t) (sym (q a))
        ∙ ap (λ (y : State). ltb a (length os) && f (number_at os a) (number_at os b) y) (sym e)
        ∙ ap (λ (t : Bool). t && (ltb a (length os) && f (number_at os a) (number_at os b) (state_at os b))) (sym (lt-ltb b (length os) lb))

    -- a transaction that asks to write the item
    pub write_row : (v : ℤ) → k ≡ Write → state_at os b ≡ Waiting (ask_write x v) → (r : ℕ) → ((a : ℕ) → a < 64 → has r a ≡ (ltb a (length os) && (not (eqb (number_at os a) (number_at os b)) && bars_with ok ls (number_at os a) x k)))
        → (a : ℕ) → a < 64 → has r a ≡ between os (asks (in_block w) ok ls) b a
    write_row v ek e r h a l =
        h a l
        ∙ ap (λ (j : Kind). ltb a (length os) && (not (eqb (number_at os a) (number_at os b)) && bars_with ok ls (number_at os a) x j)) ek
        ∙ at_place (asks (in_block w) ok ls) (Waiting (ask_write x v)) (λ n. not (eqb (number_at os n) (number_at os b)) && bars_with ok ls (number_at os n) x Write) e (λ n. ap (λ (t : Bool). t && (not (eqb (number_at os n) (number_at os b)) && bars_with ok ls (number_at os n) x Write)) (eq-eqb (x / 1024) w here)) a

    -- a transaction that asks to read the item, and has no write lock on it
    pub read_row : k ≡ Read → state_at os b ≡ Waiting (ask_read x) → holds (number_at os b) x Write ls ≡ false → (r : ℕ) → ((a : ℕ) → a < 64 → has r a ≡ (ltb a (length os) && (not (eqb (number_at os a) (number_at os b)) && bars_with ok ls (number_at os a) x k)))
        → (a : ℕ) → a < 64 → has r a ≡ between os (asks (in_block w) ok ls) b a
    read_row ek e no' r h a l =
        h a l
        ∙ ap (λ (j : Kind). ltb a (length os) && (not (eqb (number_at os a) (number_at os b)) && bars_with ok ls (number_at os a) x j)) ek
        ∙ at_place (asks (in_block w) ok ls) (Waiting (ask_read x)) (λ n. not (eqb (number_at os n) (number_at os b)) && bars_with ok ls (number_at os n) x Read) e
        (λ n. ap₂ (λ (t y : Bool). t && (not (eqb (number_at os n) (number_at os b)) && (not y && bars_with ok ls (number_at os n) x Read))) (eq-eqb (x / 1024) w here) no') a

-- one transaction more
module _ (os : List Transaction) (f : ℕ → ℕ → State → Bool) (old rows : List Places) (i : ℕ) (c : Places) (li : i < length rows) where
  pub asks-more : ((a b : ℕ) → a < 64 → b < 64 → has (get_or rows b no_places).bits a ≡ (has (get_or old b no_places).bits a || (ltb b i && between os f b a)))
      → ((a : ℕ) → a < 64 → has c.bits a ≡ (has (get_or rows i no_places).bits a || between os f i a))
      → (a b : ℕ) → a < 64 → b < 64 → has (get_or (set rows i c) b no_places).bits a ≡ (has (get_or old b no_places).bits a || (ltb b (i + 1) && between os f b a))
  asks-more inv h a b la lb = elim (cases_eq b i) [
    | inl e ↦
        subst (λ (n : ℕ). has (get_or (set rows i c) n no_places).bits a ≡ (has (get_or old n no_places).bits a || (ltb n (i + 1) && between os f n a))) (sym e)
        (ap (λ (y : Places). has y.bits a) (get_or-set_same rows i c no_places li)
        ∙ h a la
        ∙ ap (λ (t : Bool). t || between os f i a) (inv a i la (subst (λ (n : ℕ). n < 64) e lb) ∙ ap (λ (t : Bool). has (get_or old i no_places).bits a || (t && between os f i a)) (le-ltb i i (omega arith)) ∙ sym (nothing-more (has (get_or old i no_places).bits a)))
        ∙ ap (λ (t : Bool). has (get_or old i no_places).bits a || (t && between os f i a)) (sym (lt-ltb i (i + 1) (omega arith))))
    | inr n ↦
        ap (λ (y : Places). has y.bits a) (get_or-set_other rows i b c no_places n)
        ∙ inv a b la lb
        ∙ ap (λ (t : Bool). has (get_or old b no_places).bits a || (t && between os f b a)) (next b n)
  ]
    where
      next : (n : ℕ) → (n ≡ i → ⊥) → ltb n i ≡ ltb n (i + 1)
      next n d = elim (cases_lt n i) [
        | inl l ↦ lt-ltb n i l ∙ sym (lt-ltb n (i + 1) (omega arith))
        | inr l ↦ le-ltb n i l ∙ sym (le-ltb n (i + 1) (omega arith))
      ]

pub asks_none : (os : List Transaction) (f : ℕ → ℕ → State → Bool) (x : Bool) (b a : ℕ) → x ≡ (x || (ltb b 0 && between os f b a))
asks_none os f x b a = nothing-more x ∙ ap (λ (t : Bool). x || (t && between os f b a)) (sym (le-ltb b 0 (omega arith)))

pub asks_all : (os : List Transaction) (f : ℕ → ℕ → State → Bool) (n b a : ℕ) → length os ≤ n → (ltb b n && between os f b a) ≡ between os f b a
asks_all os f n b a l = elim (cases_lt b (length os)) [
  | inl k ↦ ap (λ (t : Bool). t && between os f b a) (lt-ltb b n (omega arith))
  | inr k ↦ let z : between os f b a ≡ false = and_left (ltb b (length os)) _ (le-ltb b (length os) k) in and_right (ltb b n) (between os f b a) z ∙ sym z
]

pub is_committing : (s : State) → committing s ≡ true → s ≡ Waiting ask_commit
is_committing Active e = absurd (both_ways false refl e)
is_committing (Waiting (ask_read x)) e = absurd (both_ways false refl e)
is_committing (Waiting (ask_write x v)) e = absurd (both_ways false refl e)
is_committing (Waiting ask_commit) e = refl

-- one write lock more
written-push : (q : ℕ → Bool) (u t : ℕ) (ls ms : List Lock) (m : Lock) → written_in q u t ls (ms ++ m ∷ []) ≡ (written_in q u t ls ms || (is_lock t m.item Write m && (q m.item && holds u m.item Read ls)))
written-push q u t ls [] m = go (is_lock t m.item Write m && (q m.item && holds u m.item Read ls))
  where
    go : (x : Bool) → (x || false) ≡ x
    go true = refl
    go false = refl
written-push q u t ls (n ∷ ms) m =
    ap (λ (x : Bool). (is_lock t n.item Write n && (q n.item && holds u n.item Read ls)) || x) (written-push q u t ls ms m)
    ∙ assoc (is_lock t n.item Write n && (q n.item && holds u n.item Read ls)) (written_in q u t ls ms) (is_lock t m.item Write m && (q m.item && holds u m.item Read ls))
  where
    assoc : (x y z : Bool) → (x || (y || z)) ≡ ((x || y) || z)
    assoc true y z = refl
    assoc false y z = refl

-- what the lock m adds to the waits of a commit
abbrev adds : (ℕ → Bool) → List Lock → Lock → ℕ → ℕ → State → Bool
adds q ls m u t Active = false
adds q ls m u t (Waiting (ask_read x)) = false
adds q ls m u t (Waiting (ask_write x v)) = false
adds q ls m u t (Waiting ask_commit) = not (eqb u t) && (is_lock t m.item Write m && (q m.item && holds u m.item Read ls))

and_or : (n x y : Bool) → (n && (x || y)) ≡ ((n && x) || (n && y))
and_or true x y = refl
and_or false x y = refl

commits-push : (q : ℕ → Bool) (ls ms : List Lock) (m : Lock) (u t : ℕ) (s : State) → commits q ls (ms ++ m ∷ []) u t s ≡ (commits q ls ms u t s || adds q ls m u t s)
commits-push q ls ms m u t Active = refl
commits-push q ls ms m u t (Waiting (ask_read x)) = refl
commits-push q ls ms m u t (Waiting (ask_write x v)) = refl
commits-push q ls ms m u t (Waiting ask_commit) = ap (λ (x : Bool). not (eqb u t) && x) (written-push q u t ls ms m) ∙ and_or (not (eqb u t)) (written_in q u t ls ms) (is_lock t m.item Write m && (q m.item && holds u m.item Read ls))

pub between_or : (os : List Transaction) (f g h : ℕ → ℕ → State → Bool) → ((u t : ℕ) (s : State) → h u t s ≡ (f u t s || g u t s)) → (b a : ℕ) → between os h b a ≡ (between os f b a || between os g b a)
between_or os f g h e b a =
    ap (λ (x : Bool). ltb b (length os) && (ltb a (length os) && x)) (e (number_at os a) (number_at os b) (state_at os b))
    ∙ ap (λ (x : Bool). ltb b (length os) && x) (and_or (ltb a (length os)) (f (number_at os a) (number_at os b) (state_at os b)) (g (number_at os a) (number_at os b) (state_at os b)))
    ∙ and_or (ltb b (length os)) (ltb a (length os) && f (number_at os a) (number_at os b) (state_at os b)) (ltb a (length os) && g (number_at os a) (number_at os b) (state_at os b))

module _ (os : List Transaction) (last : ℕ) (up : rising 0 last os ≡ true) (ls : List Lock) (k w : ℕ) (in' : k < length ls) (old rows : List Places) (inv : More os (commits (in_block w) ls (take k ls)) old rows) where
  commits-step : (next : List Places) → ((a b : ℕ) → a < 64 → b < 64 → has (get_or next b no_places).bits a ≡ (has (get_or rows b no_places).bits a || between os (adds (in_block w) ls (get_or ls k no_lock)) b a)) → More os (commits (in_block w) ls (take (k + 1) ls)) old next
  commits-step next h a b la lb =
      h a b la lb
      ∙ ap (λ (x : Bool). x || between os (adds (in_block w) ls (get_or ls k no_lock)) b a) (inv a b la lb)
      ∙ assoc (has (get_or old b no_places).bits a) (between os (commits (in_block w) ls (take k ls)) b a) (between os (adds (in_block w) ls (get_or ls k no_lock)) b a)
      ∙ ap (λ (x : Bool). has (get_or old b no_places).bits a || x)
      (sym (ap (λ (ms : List Lock). between os (commits (in_block w) ls ms) b a) (take_more ls k no_lock in')
      ∙ between_or os (commits (in_block w) ls (take k ls)) (adds (in_block w) ls (get_or ls k no_lock)) (commits (in_block w) ls (take k ls ++ get_or ls k no_lock ∷ [])) (commits-push (in_block w) ls (take k ls) (get_or ls k no_lock)) b a))
    where
      assoc : (x y z : Bool) → ((x || y) || z) ≡ (x || (y || z))
      assoc true y z = refl
      assoc false y z = refl

  -- nobody waits for the lock's sake
  commits_quiet : ((a b : ℕ) → between os (adds (in_block w) ls (get_or ls k no_lock)) b a ≡ false) → More os (commits (in_block w) ls (take (k + 1) ls)) old rows
  commits_quiet quiet = commits-step rows (λ a b la lb. nothing-more (has (get_or rows b no_places).bits a) ∙ ap (λ (x : Bool). has (get_or rows b no_places).bits a || x) (sym (quiet a b)))

  -- if no lock of t is added
  adds_false : (u t : ℕ) (s : State) → (is_lock t (get_or ls k no_lock).item Write (get_or ls k no_lock) && in_block w (get_or ls k no_lock).item) ≡ false → adds (in_block w) ls (get_or ls k no_lock) u t s ≡ false
  adds_false u t Active e = refl
  adds_false u t (Waiting (ask_read x)) e = refl
  adds_false u t (Waiting (ask_write x v)) e = refl
  adds_false u t (Waiting ask_commit) e = and_right (not (eqb u t)) _ (go (is_lock t (get_or ls k no_lock).item Write (get_or ls k no_lock)) (in_block w (get_or ls k no_lock).item) (holds u (get_or ls k no_lock).item Read ls) e)
    where
      go : (x y z : Bool) → (x && y) ≡ false → (x && (y && z)) ≡ false
      go true true z e = absurd (both_ways true e refl)
      go true false z e = refl
      go false y z e = refl

  out : (b a : ℕ) → (b < length os → adds (in_block w) ls (get_or ls k no_lock) (number_at os a) (number_at os b) (state_at os b) ≡ false) → between os (adds (in_block w) ls (get_or ls k no_lock)) b a ≡ false
  out b a h = elim (cases_lt b (length os)) [
    | inr g ↦ and_left (ltb b (length os)) _ (le-ltb b (length os) g)
    | inl l ↦ and_right (ltb b (length os)) _ (and_right (ltb a (length os)) _ (h l))
  ]

  pub commits_skip : (same_kind (get_or ls k no_lock).kind Write && in_block w (get_or ls k no_lock).item) ≡ false → More os (commits (in_block w) ls (take (k + 1) ls)) old rows
  commits_skip e = commits_quiet (λ a b. out b a (λ l. adds_false (number_at os a) (number_at os b) (state_at os b) (go (number_at os b))))
    where
      go : (t : ℕ) → (is_lock t (get_or ls k no_lock).item Write (get_or ls k no_lock) && in_block w (get_or ls k no_lock).item) ≡ false
      go t = elim (cases_Bool (is_lock t (get_or ls k no_lock).item Write (get_or ls k no_lock) && in_block w (get_or ls k no_lock).item)) [
        | inr q ↦ q
        | inl q ↦
            let p = and_parts (is_lock t (get_or ls k no_lock).item Write (get_or ls k no_lock)) (in_block w (get_or ls k no_lock).item) q in
            let s = is_lock_eq t (get_or ls k no_lock).item Write (get_or ls k no_lock) p.0 in
            absurd (both_ways _ e (and_from (same_kind (get_or ls k no_lock).kind Write) (in_block w (get_or ls k no_lock).item) (ap (λ (x : Lock). same_kind x.kind Write) s) p.1))
      ]

  not_owner : (t : ℕ) → ((get_or ls k no_lock).owner ≡ t → ⊥) → (is_lock t (get_or ls k no_lock).item Write (get_or ls k no_lock) && in_block w (get_or ls k no_lock).item) ≡ false
  not_owner t n = and_left (is_lock t (get_or ls k no_lock).item Write (get_or ls k no_lock)) _ (is_lock_other t (get_or ls k no_lock).item Write (get_or ls k no_lock) n)

  none_some : {s : State} → None ≡ Some s → ⊥
  none_some z = let y : ◌≡◌ {A = ℕ} 0 1 = cc in omega arith

  pub commits_gone : state_of (get_or ls k no_lock).owner os ≡ None → More os (commits (in_block w) ls (take (k + 1) ls)) old rows
  commits_gone e = commits_quiet (λ a b. out b a (λ l. adds_false (number_at os a) (number_at os b) (state_at os b) (not_owner (number_at os b) (λ q.
      none_some (sym e ∙ ap (λ (n : ℕ). state_of n os) q ∙ (at-rising 0 last os up (number_at os b) b l refl).state)))))

  module _ (p : ℕ) (at : At os (get_or ls k no_lock).owner p) where
    other_place : (b : ℕ) → b < length os → (b ≡ p → ⊥) → (get_or ls k no_lock).owner ≡ number_at os b → ⊥
    other_place b l n q = n (one_place last os up b p l at.within (sym q ∙ sym at.number))

    not-commit : (q : ℕ → Bool) (m : Lock) (u t : ℕ) (s : State) → (s ≡ Waiting ask_commit → ⊥) → adds q ls m u t s ≡ false
    not-commit q m u t Active n = refl
    not-commit q m u t (Waiting (ask_read x)) n = refl
    not-commit q m u t (Waiting (ask_write x v)) n = refl
    not-commit q m u t (Waiting ask_commit) n = absurd (n refl)

    pub commits_other : (state_at os p ≡ Waiting ask_commit → ⊥) → More os (commits (in_block w) ls (take (k + 1) ls)) old rows
    commits_other n = commits_quiet (λ a b. out b a (λ l. elim (cases_eq b p) [
      | inl e ↦ not-commit (in_block w) (get_or ls k no_lock) (number_at os a) (number_at os b) (state_at os b) (λ q. n (ap (state_at os) (sym e) ∙ q))
      | inr d ↦ adds_false (number_at os a) (number_at os b) (state_at os b) (not_owner (number_at os b) (other_place b l d))
    ]))

    pub commits_add : (c : Places) → state_at os p ≡ Waiting ask_commit → (same_kind (get_or ls k no_lock).kind Write && in_block w (get_or ls k no_lock).item) ≡ true → p < length rows → (readers : List Places) → Held os ls w Read readers
        → ((a : ℕ) → has c.bits a ≡ (has (get_or rows p no_places).bits a || (has (get_or readers ((get_or ls k no_lock).item % 1024) no_places).bits a && not (eqb p a))))
        → More os (commits (in_block w) ls (take (k + 1) ls)) old (set rows p c)
    commits_add c st e lp readers hr h = commits-step (set rows p c) step
      where
        parts : (same_kind (get_or ls k no_lock).kind Write ≡ true) × (in_block w (get_or ls k no_lock).item ≡ true)
        parts = and_parts (same_kind (get_or ls k no_lock).kind Write) (in_block w (get_or ls k no_lock).item) e

        whole : w * 1024 + (get_or ls k no_lock).item % 1024 ≡ (get_or ls k no_lock).item
        whole = let b : (get_or ls k no_lock).item / 1024 ≡ w = eqb-true _ w parts.1 in omega arith

        read_at : (a : ℕ) → a < 64 → has (get_or readers ((get_or ls k no_lock).item % 1024) no_places).bits a ≡ (ltb a (length os) && holds (number_at os a) (get_or ls k no_lock).item Read ls)
        read_at a l = hr ((get_or ls k no_lock).item % 1024) a (omega arith) l ∙ ap (λ (n : ℕ). ltb a (length os) && holds (number_at os a) n Read ls) whole

        its : is_lock (number_at os p) (get_or ls k no_lock).item Write (get_or ls k no_lock) ≡ true
        its = and_from (eqb (get_or ls k no_lock).owner (number_at os p)) _ (eq-eqb _ _ (sym at.number)) (and_from (eqb (get_or ls k no_lock).item (get_or ls k no_lock).item) _ (eq-eqb _ _ refl) parts.0)

        swap_and : (x e : Bool) → (x && not e) ≡ (not e && x)
        swap_and true true = refl
        swap_and true false = refl
        swap_and false true = refl
        swap_and false false = refl

        mine : (a : ℕ) → a < 64 → (has (get_or readers ((get_or ls k no_lock).item % 1024) no_places).bits a && not (eqb p a)) ≡ between os (adds (in_block w) ls (get_or ls k no_lock)) p a
        mine a l = ap (λ (x : Bool). x && not (eqb p a)) (read_at a l) ∙ elim (cases_lt a (length os)) [
          | inr g ↦
              ap (λ (t : Bool). (t && holds (number_at os a) (get_or ls k no_lock).item Read ls) && not (eqb p a)) (le-ltb a (length os) g)
              ∙ sym (and_right (ltb p (length os)) _ (and_left (ltb a (length os)) _ (le-ltb a (length os) g)))
          | inl la ↦
              ap (λ (t : Bool). (t && holds (number_at os a) (get_or ls k no_lock).item Read ls) && not (eqb p a)) (lt-ltb a (length os) la)
              ∙ ap (λ (t : Bool). holds (number_at os a) (get_or ls k no_lock).item Read ls && not t) (places_numbers os last up p at.within a la)
              ∙ swap_and (holds (number_at os a) (get_or ls k no_lock).item Read ls) (eqb (number_at os a) (number_at os p))
              ∙ sym (ap₂ (λ (t y : Bool). t && (y && adds (in_block w) ls (get_or ls k no_lock) (number_at os a) (number_at os p) (state_at os p))) (lt-ltb p (length os) at.within) (lt-ltb a (length os) la)
              ∙ ap (λ (s : State). adds (in_block w) ls (get_or ls k no_lock) (number_at os a) (number_at os p) s) st
              ∙ ap₂ (λ (t y : Bool). not (eqb (number_at os a) (number_at os p)) && (t && (y && holds (number_at os a) (get_or ls k no_lock).item Read ls))) its parts.1)
        ]

        step : (a b : ℕ) → a < 64 → b < 64 → has (get_or (set rows p c) b no_places).bits a ≡ (has (get_or rows b no_places).bits a || between os (adds (in_block w) ls (get_or ls k no_lock)) b a)
        step a b la lb = elim (cases_eq b p) [
          | inl q ↦
              subst (λ (n : ℕ). has (get_or (set rows p c) n no_places).bits a ≡ (has (get_or rows n no_places).bits a || between os (adds (in_block w) ls (get_or ls k no_lock)) n a)) (sym q)
              (ap (λ (y : Places). has y.bits a) (get_or-set_same rows p c no_places lp) ∙ h a ∙ ap (λ (x : Bool). has (get_or rows p no_places).bits a || x) (mine a la))
          | inr n ↦
              ap (λ (y : Places). has y.bits a) (get_or-set_other rows p b c no_places n)
              ∙ nothing-more (has (get_or rows b no_places).bits a)
              ∙ ap (λ (x : Bool). has (get_or rows b no_places).bits a || x) (sym (out b a (λ l. adds_false (number_at os a) (number_at os b) (state_at os b) (not_owner (number_at os b) (other_place b l n)))))
        ]

-- no lock has been looked at
pub commits-none : (os : List Transaction) (ls : List Lock) (w : ℕ) (rows : List Places) → More os (commits (in_block w) ls []) rows rows
commits-none os ls w rows a b la lb = nothing-more (has (get_or rows b no_places).bits a) ∙ ap (λ (x : Bool). has (get_or rows b no_places).bits a || x) (sym (and_right (ltb b (length os)) _ (and_right (ltb a (length os)) _ (go (number_at os a) (number_at os b) (state_at os b)))))
  where
    go : (u t : ℕ) (s : State) → commits (in_block w) ls [] u t s ≡ false
    go u t Active = refl
    go u t (Waiting (ask_read x)) = refl
    go u t (Waiting (ask_write x v)) = refl
    go u t (Waiting ask_commit) = and_right (not (eqb u t)) false refl
