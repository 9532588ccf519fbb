-- Ways over the places are chains of waits.
use Rattle.std.proofs.Common.{◌≡◌, ℕ, ◌<◌, ◌≤◌, true, false, ◌&&◌, ltb, List, length, get_or, Some, sym, refl, ◌∙◌, subst, arith}
use Rattle.std.proofs.lemmas.Bool.{and_from, and_parts, both_ways, lt-ltb, ltb-true}
use Rattle.scheduler.specs.declared.places.Places.{Places}
use Rattle.scheduler.specs.declared.transaction.State.{State}
use Rattle.scheduler.specs.declared.transaction.State.TheVariants.{Active, Waiting}
use Rattle.scheduler.specs.Orders.{orderly, rising}
use Rattle.scheduler.specs.Bits.{has}
use Rattle.scheduler.specs.Blockers.{Chain, Rule, Waits, here, on}
use Rattle.scheduler.specs.Circles.{Circle}
use Rattle.scheduler.specs.Edges.{Drawn, blocks_in, edge, number_at, state_at}
use Rattle.scheduler.specs.ItemSets.{no_places}
use Rattle.scheduler.specs.Ledger.{Ledger, state_of}
use Rattle.scheduler.specs.Ways.{Way, back, next, start}
use Rattle.scheduler.proofs.Edging.{blocks_to, one_place, place_of, to_blocks}
use Rattle.scheduler.proofs.Rising.{at-rising}

module _ (ok : Rule) (L : Ledger) (rows : List Places) (few : length L.opens ≤ 64) (calm : orderly L.locks ≡ true) (up : rising 0 L.begins L.opens ≡ true) (drawn : Drawn ok L rows) where
  there : (b : ℕ) → b < length L.opens → state_of (number_at L.opens b) L.opens ≡ Some (state_at L.opens b)
  there b l = (at-rising 0 L.begins L.opens up (number_at L.opens b) b l refl).state

  -- an edge is a wait
  edge-waits : (b a : ℕ) → edge ok L.opens L.locks b a ≡ true → Waits ok L (number_at L.opens b) (number_at L.opens a)
  edge-waits b a e =
      let p = and_parts (ltb b (length L.opens)) (ltb a (length L.opens) && blocks_in ok L.locks (number_at L.opens a) (number_at L.opens b) (state_at L.opens b)) e in
      let q = and_parts (ltb a (length L.opens)) (blocks_in ok L.locks (number_at L.opens a) (number_at L.opens b) (state_at L.opens b)) p.1 in
      by (state_at L.opens b) (there b (ltb-true b (length L.opens) p.0)) q.1
    where
      by : (s : State) → state_of (number_at L.opens b) L.opens ≡ Some s → blocks_in ok L.locks (number_at L.opens a) (number_at L.opens b) s ≡ true → Waits ok L (number_at L.opens b) (number_at L.opens a)
      by Active h x = absurd (both_ways false refl x)
      by (Waiting c) h x = record { ask = c; state = h; blocker = blocks_to ok L.locks calm (number_at L.opens a) (number_at L.opens b) c x }

  waits-edge : (b a : ℕ) → b < length L.opens → a < length L.opens → Waits ok L (number_at L.opens b) (number_at L.opens a) → edge ok L.opens L.locks b a ≡ true
  waits-edge b a l m w =
      and_from (ltb b (length L.opens)) _ (lt-ltb b (length L.opens) l)
      (and_from (ltb a (length L.opens)) _ (lt-ltb a (length L.opens) m)
      (subst (λ (s : State). blocks_in ok L.locks (number_at L.opens a) (number_at L.opens b) s ≡ true) state
      (to_blocks ok L.locks calm (number_at L.opens a) (number_at L.opens b) w.ask w.blocker)))
    where
      some_same : {x y : State} → Some x ≡ Some y → x ≡ y
      some_same e = cc

      state : Waiting w.ask ≡ state_at L.opens b
      state = some_same (sym w.state ∙ there b l)

  module _ (i : ℕ) (in' : i < length L.opens) where
    -- a way back from i is a chain that leads to i
    way_chain : {p : ℕ} → Way (back rows) i p → (p < 64) × Chain ok L (number_at L.opens p) (number_at L.opens i)
    way_chain start = (omega arith, here)
    way_chain (next {b} c w h e) =
        let r = way_chain w in
        (h, on (number_at L.opens b) (edge-waits c b (sym (drawn b c r.0 h) ∙ e)) r.1)

    -- who stands in a chain that leads to i is open
    open-first : {n m : ℕ} → Chain ok L n m → m ≡ number_at L.opens i → (k : ℕ) × (k < length L.opens) × (number_at L.opens k ≡ n)
    open-first here d = (i, in', sym d)
    open-first (on {u = n} m' z d') d = let o = place_of L.opens n (Waiting z.ask) z.state in (o.0, o.1, o.2)

    chain_way : {u v : ℕ} → Chain ok L u v → v ≡ number_at L.opens i → (p : ℕ) → p < length L.opens → number_at L.opens p ≡ u → Way (back rows) i p
    chain_way here e p l q = subst (Way (back rows) i) (one_place L.begins L.opens up i p in' l (sym e ∙ sym q)) start
    chain_way (on {u} {w} v x c) e p l q =
        let o = open-first c e in
        let r = chain_way c e o.0 o.1 o.2 in
        let a : o.0 < 64 = omega (arith, o.1) in
        let b : p < 64 = omega arith in
        let y : Waits ok L (number_at L.opens p) (number_at L.opens o.0) = subst (λ (n : ℕ). Waits ok L n (number_at L.opens o.0)) (sym q) (subst (Waits ok L u) (sym o.2) x) in
        next p r b (drawn o.0 p a b ∙ waits-edge p o.0 l o.1 y)

    pub round : (p : ℕ) → Way (back rows) i p → has (get_or rows i no_places).bits p ≡ true → Circle ok L (number_at L.opens i)
    round p w h = record {
      blocker = number_at L.opens p;
      waits = edge-waits i p (sym (drawn p i (way_chain w).0 (omega arith)) ∙ h);
      back = (way_chain w).1;
    }

    pub unround : Circle ok L (number_at L.opens i) → (p : ℕ) × Way (back rows) i p × (has (get_or rows i no_places).bits p ≡ true)
    unround c =
        let o = open-first c.back refl in
        let l : o.0 < 64 = omega (arith, o.1) in (
          o.0,
          chain_way c.back refl o.0 o.1 o.2,
          drawn o.0 i l (omega arith) ∙ waits-edge i o.0 in' o.1 (subst (Waits ok L (number_at L.opens i)) (sym o.2) c.waits),
        )
