-- A run goes on: one call more.
use Rattle.std.proofs.Common.{◌≡◌, ℕ, zero, suc, ◌+◌, ◌<◌, Bool, true, false, cond, not, ◌&&◌, eqb, List, [], ◌∷◌, ◌++◌, length, ℤ, is_some, Some, None, Option, sym, refl, ap, ◌∙◌, subst, ap₂, inl, inr, arith}
use Rattle.std.proofs.lemmas.List.{length_push}
use Rattle.std.proofs.lemmas.Bool.{both_ways, cases_eq, eqb-true}
use Rattle.records.specs.declared.refusal.Reason.TheVariants.{Pair, PendingAtOpening}
use Rattle.records.specs.declared.refusal.Refusal.{Refusal}
use Rattle.records.specs.declared.request.Request.{Request}
use Rattle.store.specs.Meaning.{Sound, Writes, held_count, row_count, sum_below}
use Rattle.scheduler.specs.declared.lock.Kind.TheVariants.{Read, Write}
use Rattle.scheduler.specs.Blockers.{Rule}
use Rattle.scheduler.specs.Effects.{committed_after, pending_after}
use Rattle.scheduler.specs.Ledger.{Answer, Ledger, asked, empty, fed}
use Rattle.scheduler.specs.Stepped.{Situation, Stepped}
use Rattle.scheduler.specs.Steps.{Answers, Terms, of_scheduler, pair_refusal}
use Rattle.history.specs.Run.{Run, Served, committed_of, ledger, onto, pending_of, run_of}
use Rattle.history.specs.Law.{Law, Open}
use Rattle.history.specs.Ran.{Ran}
use Rattle.history.proofs.Granted.{facts}
use Rattle.history.proofs.Serially.{idle}
use Rattle.history.proofs.Standing.{Standing, lawful, standing_err, standing_next, standing_none}

-- one call with its answer more
onto-push : (r : Run) (qs : List Request) (as' : List Answer) (q : Request) (a : Answer) → length as' ≡ length qs → onto r (qs ++ q ∷ []) (as' ++ a ∷ []) ≡ record { call = q; answer = a } ∷ onto r qs as'
onto-push r [] [] q a e = refl
onto-push r [] (b ∷ as') q a e = absurd (omega arith)
onto-push r (x ∷ qs) [] q a e = absurd (omega arith)
onto-push r (x ∷ qs) (b ∷ as') q a e = onto-push (record { call = x; answer = b } ∷ r) qs as' q a (omega arith)

-- what stands behind the law, by whether the pair is refused
abbrev pub Stands : Option Refusal → Rule → Bool → List ℤ → Run → List ℤ → Writes → Type 0
Stands None ok private vs r ws p = Standing ok private vs r ws p
Stands (Some e) ok private vs r ws p = Standing ok private vs r ws (λ t i. None)

pub record Going (ok : Rule) (k : Terms) (refusal : Option Refusal) (vs : List ℤ) (p : Writes) (r : Run) (L : Ledger) (ws : List ℤ) (p' : Writes) : Type 0 where
  pub served : Served ok k refusal vs p r
  pub tables : L ≡ ledger r
  pub values : ws ≡ committed_of vs p r
  pub writes : p' ≡ pending_of p r
  pub stands : Stands refusal ok k.private vs r ws p'

-- a sum that is nothing is nothing at each place
sum-none : (f : ℕ → ℕ) (n i : ℕ) → sum_below f n ≡ 0 → i < n → f i ≡ 0
unfolding sum_below
sum-none f zero i e l = absurd (omega arith)
sum-none f (suc n) i e l = elim (cases_eq i n) [
  | inl q ↦ subst (λ (m : ℕ). f m ≡ 0) (sym q) (omega arith)
  | inr q ↦ sum-none f n i (omega arith) (omega arith)
]

-- no write is pending where none is held
pub none-held : (private : Bool) (room share : ℕ) (cs : List ℤ) (p : Writes) → Sound private room share cs p → held_count p (length cs) ≡ 0 → (t i : ℕ) → p t i ≡ None
none-held private room share cs p S e t i = go (p t i) refl
  where
    go : (o : Option ℤ) → p t i ≡ o → p t i ≡ None
    go None h = h
    go (Some v) h =
        let some : is_some (p t i) ≡ true = ap is_some h in
        let w = S.within t i some in
        let row = sum-none (λ (u : ℕ). row_count p u (length cs)) 65536 t e w.0 in
        let one = sum-none (λ (j : ℕ). cond (is_some (p t j)) 1 0) (length cs) i row w.1 in
        absurd (bad (is_some (p t i)) some one)
      where
        bad : (b : Bool) → b ≡ true → ◌≡◌ {A = ℕ} (cond b 1 0) 0 → ⊥
        bad true s z = omega arith
        bad false s z = both_ways false refl s

-- a pair that is not refused
pair_parts : (ok : Rule) (private : Bool) (n : ℕ) → pair_refusal ok private n ≡ None → (private ≡ false → ok Write Write ≡ false) × (n ≡ 0)
pair_parts ok private n e = go (ok Write Write && not private) (eqb n 0) refl refl e
  where
    go : (x y : Bool) → (ok Write Write && not private) ≡ x → eqb n 0 ≡ y → cond x (Some (of_scheduler Pair)) (cond y None (Some (of_scheduler PendingAtOpening))) ≡ None → (private ≡ false → ok Write Write ≡ false) × (n ≡ 0)
    go true y a b h = let z : ◌≡◌ {A = ℕ} 0 1 = cc in absurd (omega arith)
    go false false a b h = let z : ◌≡◌ {A = ℕ} 0 1 = cc in absurd (omega arith)
    go false true a b h = ((λ f. apart (ok Write Write) private a f), eqb-true n 0 b)
      where
        apart : (x y : Bool) → (x && not y) ≡ false → y ≡ false → x ≡ false
        apart true true c f = absurd (both_ways true f refl)
        apart true false c f = c
        apart false y c f = refl

pub going-none : (ok : Rule) (k : Terms) (vs : List ℤ) (p : Writes) → Sound k.private k.room k.share vs p → (refusal : Option Refusal) → refusal ≡ pair_refusal ok k.private (held_count p (length vs)) → Going ok k refusal vs p [] empty vs p
going-none ok k vs p S None e = record {
  served = tt;
  tables = refl;
  values = refl;
  writes = refl;
  stands = standing_none ok k.private vs p (none-held k.private k.room k.share vs p S (pair_parts ok k.private (held_count p (length vs)) (sym e)).1);
}
going-none ok k vs p S (Some x) e = record {
  served = tt;
  tables = refl;
  values = refl;
  writes = refl;
  stands = standing_none ok k.private vs (λ t i. None) (λ t i. refl);
}

module _ (ok : Rule) (law : ok Read Write ≡ false) (k : Terms) (vs : List ℤ) (p : Writes) (q : Request) (a : Answer) where
  stands_next : (refusal : Option Refusal) → refusal ≡ pair_refusal ok k.private (held_count p (length vs)) → (r : Run) (ws : List ℤ) (p' : Writes) → Stands refusal ok k.private vs r ws p' → Answers ok k refusal (ledger r) ws p' q a
      → Stands refusal ok k.private vs (record { call = q; answer = a } ∷ r) (committed_after a ws p') (pending_after (asked (ledger r) q) a p')
  stands_next None e r ws p' S h = standing_next ok law k.private (pair_parts ok k.private (held_count p (length vs)) (sym e)).0 vs r ws p' S q a (facts ok k (ledger r) ws p' q a h)
  stands_next (Some x) e r ws p' S h =
      subst (λ (b : Answer). Standing ok k.private vs (record { call = q; answer = b } ∷ r) (committed_after b ws p') (λ t i. None)) (sym h) (standing_err S q x)

  pub going_next : (refusal : Option Refusal) → refusal ≡ pair_refusal ok k.private (held_count p (length vs)) → (r : Run) (s n : Situation) → Going ok k refusal vs p r s.ledger s.committed s.pending
      → Answers ok k refusal s.ledger s.committed s.pending q a → Stepped (asked s.ledger q) a s n → Going ok k refusal vs p (record { call = q; answer = a } ∷ r) n.ledger n.committed n.pending
  going_next refusal e r s n G h d = record {
    served = (at-ledger, G.served);
    tables = d.ledger ∙ ap (λ (M : Ledger). fed M (asked M q) a) G.tables;
    values = d.committed ∙ ap₂ (committed_after a) G.values G.writes;
    writes = d.pending ∙ ap₂ (λ (M : Ledger) (w : Writes). pending_after (asked M q) a w) G.tables G.writes;
    stands =
        subst (λ (w : List ℤ). Stands refusal ok k.private vs (record { call = q; answer = a } ∷ r) w n.pending) (sym d.committed)
        (subst (λ (w : Writes). Stands refusal ok k.private vs (record { call = q; answer = a } ∷ r) (committed_after a s.committed s.pending) w)
        (sym (d.pending ∙ ap (λ (M : Ledger). pending_after (asked M q) a s.pending) G.tables))
        (stands_next refusal e r s.committed s.pending G.stands (subst (λ (M : Ledger). Answers ok k refusal M s.committed s.pending q a) G.tables h)));
  }
    where
      at-ledger : Answers ok k refusal (ledger r) (committed_of vs p r) (pending_of p r) q a
      at-ledger = subst (λ (M : Ledger). Answers ok k refusal M (committed_of vs p r) (pending_of p r) q a) G.tables (subst (λ (w : List ℤ). Answers ok k refusal s.ledger w (pending_of p r) q a) G.values (subst (λ (w : Writes). Answers ok k refusal s.ledger s.committed w q a) G.writes h))

stands_law : (refusal : Option Refusal) (ok : Rule) (private : Bool) (vs : List ℤ) (r : Run) (ws : List ℤ) (p : Writes) → Stands refusal ok private vs r ws p → Law ok private vs r ws
stands_law None ok private vs r ws p S = lawful S
stands_law (Some e) ok private vs r ws p S = lawful S

-- over a refused pair nothing becomes pending
refused-writes : (ok : Rule) (k : Terms) (x : Refusal) (vs : List ℤ) (p : Writes) (r : Run) → Served ok k (Some x) vs p r → pending_of p r ≡ p
refused-writes ok k x vs p [] h = refl
refused-writes ok k x vs p (e ∷ r) h = ap (λ (a : Answer). pending_after (asked (ledger r) e.call) a (pending_of p r)) h.0 ∙ refused-writes ok k x vs p r h.1

stands_idle : (refusal : Option Refusal) (ok : Rule) (k : Terms) (vs : List ℤ) (p : Writes) (r : Run) (ws : List ℤ) (p' : Writes) → Served ok k refusal vs p r → p' ≡ pending_of p r → Stands refusal ok k.private vs r ws p'
    → ((t i : ℕ) → p t i ≡ None) → (t i : ℕ) → (Open r t → ⊥) → p' t i ≡ None
stands_idle None ok k vs p r ws p' h e S none t i n = idle S.kept S.replayed t i n
stands_idle (Some x) ok k vs p r ws p' h e S none t i n = ap (λ (w : Writes). w t i) (e ∙ refused-writes ok k x vs p r h) ∙ none t i

-- the calls qs so far, with their answers
abbrev pub GoingOn : Rule → Terms → Option Refusal → List ℤ → Writes → List Request → List Answer → Ledger → List ℤ → Writes → Type 0
GoingOn ok k refusal vs p qs as' L ws p' = (length as' ≡ length qs) × Going ok k refusal vs p (run_of qs as') L ws p'

pub ran : (ok : Rule) (k : Terms) (refusal : Option Refusal) (vs : List ℤ) (p : Writes) (qs : List Request) (as' : List Answer) (L : Ledger) (ws : List ℤ) (p' : Writes) → GoingOn ok k refusal vs p qs as' L ws p' → Ran ok k refusal vs p qs as' L ws p'
ran ok k refusal vs p qs as' L ws p' g = record {
  answered = g.0;
  served = g.1.served;
  tables = g.1.tables;
  values = g.1.values;
  writes = g.1.writes;
  only_the_open_have_writes = stands_idle refusal ok k vs p (run_of qs as') ws p' g.1.served g.1.writes g.1.stands;
  law = stands_law refusal ok k.private vs (run_of qs as') ws p' g.1.stands;
}

pub going-push : (ok : Rule) → ok Read Write ≡ false → (k : Terms) (vs : List ℤ) (p : Writes) (refusal : Option Refusal) → refusal ≡ pair_refusal ok k.private (held_count p (length vs)) → (qs : List Request) (as' : List Answer) (q : Request) (a : Answer) (s n : Situation)
    → GoingOn ok k refusal vs p qs as' s.ledger s.committed s.pending → Answers ok k refusal s.ledger s.committed s.pending q a → Stepped (asked s.ledger q) a s n
    → GoingOn ok k refusal vs p (qs ++ q ∷ []) (as' ++ a ∷ []) n.ledger n.committed n.pending
going-push ok law k vs p refusal e qs as' q a s n g h d = (
  length_push as' a ∙ ap (λ (m : ℕ). m + 1) g.0 ∙ sym (length_push qs q),
  subst (λ (r : Run). Going ok k refusal vs p r n.ledger n.committed n.pending) (sym (onto-push [] qs as' q a g.0)) (going_next ok law k vs p q a refusal e (run_of qs as') s n g.1 h d),
)
