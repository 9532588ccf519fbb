-- The worked cases, call by call.
use Rattle.std.proofs.Common.{◌≡◌, ℕ, ◌<◌, Bool, true, false, cond, not, ◌&&◌, eqb, leb, List, [], ◌∷◌, length, get_or, set, ℤ, pos, is_some, Some, None, Option, unwrap_or, sym, refl, ap, ◌∙◌, subst, inl, inr, ⊎_elim, arith, lit<}
use Rattle.std.proofs.lemmas.List.{ext_get_or, get_or-set_other, get_or-set_same, length-set, set-set}
use Rattle.std.proofs.lemmas.Bool.{and_right, cases_eq, eq-eqb, eqb-false, leb-false, ne_eqb}
use Rattle.store.proofs.Refusals.{has_one, not_taken}
use Rattle.store.specs.Laid.{get_or-laid, length-laid}
use Rattle.store.specs.Meaning.{Writes, laid, nothing, refused, taken, written}
use Rattle.scheduler.specs.declared.lock.Kind.TheVariants.{Read, Write}
use Rattle.scheduler.specs.declared.transaction.Ask.TheVariants.{Read as ask_read, Write as ask_write, Commit as ask_commit}
use Rattle.scheduler.specs.Blockers.{In, first}
use Rattle.scheduler.specs.Ledger.{lock}
use Rattle.scheduler.specs.Steps.{pair_refusal}
use Rattle.cases.specs.Servers.{Both, Server, in_place_server, private_server}
use Rattle.cases.specs.Scripts.{Leaves, Locks, Plays, Script, begins, reads, writes}
use Rattle.cases.specs.Worked.{WorkedCases, both_write, commit_after_the_reader, crossed_commits, crossed_reads, read_again, read_back, reader_waits_to_write, reader_writes_too, written_and_aborted, written_past_a_reader}
use Rattle.cases.proofs.Pending.{Few, accepted, few_nothing, few_written, written_elsewhere}
use Rattle.cases.proofs.Playing.{AllSure, ◌then◌, done, plays}
use Rattle.cases.proofs.Sure.{deadlocks_by, outright, reads_sure, waits_for, writes_sure}

-- what is alike in both servers
record Fit (s : Server) : Type 0 where
  pair : pair_refusal s.rule s.terms.private 0 ≡ None
  write_beside_read : s.rule Write Read ≡ true
  read_beside_write : s.rule Read Write ≡ false
  room : 1 < s.terms.room
  share : 1 < s.terms.share

in_place_fit : Fit in_place_server
in_place_fit = record { pair = refl; write_beside_read = refl; read_beside_write = refl; room = lit< tt; share = lit< tt }

private_fit : Fit private_server
private_fit = record { pair = refl; write_beside_read = refl; read_beside_write = refl; room = lit< tt; share = lit< tt }

in_both : (P : Server → Type 0) → ((s : Server) → Fit s → P s) → Both P
in_both P h = (h in_place_server in_place_fit, h private_server private_fit)

-- one value laid over others
laid_one : (i : ℕ) (v : ℤ) (cs : List ℤ) → laid (λ j. cond (eqb j i) (Some v) None) cs ≡ set cs i v
laid_one i v cs =
    let row : ℕ → Option ℤ = λ j. cond (eqb j i) (Some v) None in
    let over : ℤ → Bool → ℤ = λ c b. unwrap_or (cond b (Some v) None) c in
    ext_get_or (pos 0) (laid row cs) (set cs i v) (length-laid row cs ∙ sym (length-set cs i v))
    (λ j lt.
    let lt' : j < length cs = omega (arith, length-laid row cs) in
    get_or-laid row cs j lt'
    ∙ ⊎_elim
    (λ e. ap (over (get_or cs j (pos 0))) (eq-eqb j i e) ∙ sym (subst (λ (k : ℕ). get_or (set cs i v) k (pos 0) ≡ v) (sym e) (get_or-set_same cs i v (pos 0) (omega arith))))
    (λ ne. ap (over (get_or cs j (pos 0))) (ne_eqb j i ne) ∙ sym (get_or-set_other cs i j v (pos 0) ne))
    (cases_eq j i))

module _ (vs : List ℤ) (long : length vs ≡ 1024) (zeros : (i : ℕ) → get_or vs i (pos 0) ≡ pos 0) where
  item : (i : ℕ) → leb 1024 i ≡ false → leb (length vs) i ≡ false
  item i there = ap (λ (n : ℕ). leb n i) long ∙ there

  module _ (s : Server) (F : Fit s) where
    -- a put on an item on which nothing is pending, beside one pending write at most
    new-put : (p : Writes) (t i : ℕ) → Few p 1 → leb 1024 i ≡ false → ((u : ℕ) → is_some (p u i) ≡ false) → refused s.terms.private s.terms.room s.terms.share vs p t i ≡ None
    new-put p t i few there free =
        accepted s.terms vs p t i 1 few F.room F.share (leb-false (length vs) i (item i there))
        (and_right (not s.terms.private) (taken p t i) (not_taken p t i (λ u _. free u))) (free t)

    first-put : (t i : ℕ) → leb 1024 i ≡ false → refused s.terms.private s.terms.room s.terms.share vs nothing t i ≡ None
    first-put t i there = new-put nothing t i (few_nothing 1) there (λ _. refl)

    second_put : (t i : ℕ) (v : ℤ) (u j : ℕ) → leb 1024 j ≡ false → eqb j i ≡ false → refused s.terms.private s.terms.room s.terms.share vs (written nothing t i v) u j ≡ None
    second_put t i v u j there ne = new-put (written nothing t i v) u j (few_written t i v (few_nothing 0)) there (λ w. ap is_some (written_elsewhere nothing t i v w j (inr (eqb-false j i ne))))

    past_a_reader : (v : ℤ) {es : Script} → AllSure s vs (writes 2 5 v ∷ reads 1 5 (pos 0) ∷ begins 2 ∷ begins 1 ∷ []) es → Plays s vs (written_past_a_reader v es)
    past_a_reader v rest =
        plays s vs F.pair
        (outright (λ b. refl)
        then outright (λ b. refl)
        then reads_sure refl (item 5 refl) refl refl (zeros 5)
        then writes_sure refl (item 5 refl) (ap (λ (b : Bool). cond (not b) (1 ∷ []) []) F.write_beside_read) refl (first-put 2 5 refl)
        then rest)

    -- the write lock of u bars a read
    barred : (u : ℕ) → cond (not (s.rule Read Write)) (u ∷ []) [] ≡ u ∷ []
    barred u = ap (λ (b : Bool). cond (not b) (u ∷ []) []) F.read_beside_write

    commit-waits : (v : ℤ) → Plays s vs (commit_after_the_reader v)
    commit-waits v = past_a_reader v (waits_for refl refl refl refl refl then outright (λ b. refl) then outright (λ b. refl) then done)

    reads_crossed : (v w : ℤ) → Plays s vs (crossed_reads v w)
    reads_crossed v w =
        plays s vs F.pair
        (outright (λ b. refl)
        then outright (λ b. refl)
        then writes_sure refl (item 3 refl) refl refl (first-put 1 3 refl)
        then writes_sure refl (item 4 refl) refl refl (second_put 1 3 v 2 4 refl refl)
        then waits_for refl (item 4 refl) (barred 2) refl refl
        then deadlocks_by refl (item 3 refl) (barred 1) (record { ask = ask_read 4; state = refl; blocker = subst (λ (us : List ℕ). In 2 us) (sym (barred 2)) first })
        then done)

    own_read : (v : ℤ) → Plays s vs (read_back v) × Locks (read_back v) (lock 1 5 Write ∷ [])
    own_read v = (plays s vs F.pair (outright (λ b. refl) then writes_sure refl (item 5 refl) refl refl (first-put 1 5 refl) then reads_sure refl (item 5 refl) refl refl refl then done), refl)

    read-waits : (v : ℤ) → Plays s vs (read_again v)
    read-waits v = past_a_reader v (waits_for refl (item 5 refl) (barred 2) refl refl then done)

  -- ---- in place
  write-waits : (v w : ℤ) → Plays in_place_server vs (reader_waits_to_write v w)
  write-waits v w =
      past_a_reader in_place_server in_place_fit v
      (waits_for refl (item 5 refl) refl refl refl
      then deadlocks_by refl refl refl (record { ask = ask_write 5 w; state = refl; blocker = first })
      then done)

  commits_crossed : (v w : ℤ) → Plays in_place_server vs (crossed_commits v w)
  commits_crossed v w =
      past_a_reader in_place_server in_place_fit v
      (reads_sure refl (item 6 refl) refl refl (zeros 6)
      then writes_sure refl (item 6 refl) refl refl (second_put in_place_server in_place_fit 2 5 v 1 6 refl refl)
      then waits_for refl refl refl refl refl
      then deadlocks_by refl refl refl (record { ask = ask_commit; state = refl; blocker = first })
      then done)

  put_again : (v : ℤ) → refused false 512 512 vs (written nothing 1 5 v) 1 5 ≡ None
  put_again v = has_one false 512 512 vs (written nothing 1 5 v) 1 5 (item 5 refl) (not_taken (written nothing 1 5 v) 1 5 (λ u ne. ap is_some (written_elsewhere nothing 1 5 v u 5 (inl ne)))) refl

  aborted : Plays in_place_server vs written_and_aborted
  aborted =
      plays in_place_server vs refl
      (outright (λ b. refl)
      then writes_sure refl (item 5 refl) refl refl (first-put in_place_server in_place_fit 1 5 refl)
      then writes_sure refl (item 5 refl) refl refl (put_again (pos 7))
      then outright (λ b. refl)
      then done)

  undone : Leaves vs written_and_aborted vs
  undone = record { committed = refl; none_pending = λ t i. gone (eqb t 1) (eqb i 5) }
    where
      gone : (own on' : Bool) → cond own None (cond (own && on') (Some (pos 9)) (cond (own && on') (Some (pos 7)) None)) ≡ None
      gone true on' = refl
      gone false on' = refl

  -- ---- private
  put_beside : (t i : ℕ) (v : ℤ) (u : ℕ) → leb 1024 i ≡ false → eqb u t ≡ false → refused true 512 64 vs (written nothing t i v) u i ≡ None
  put_beside t i v u there ne =
      accepted private_server.terms vs (written nothing t i v) u i 1 (few_written t i v (few_nothing 0)) (lit< tt) (lit< tt) (leb-false (length vs) i (item i there)) refl
      (ap is_some (written_elsewhere nothing t i v u i (inl (eqb-false u t ne))))

  write_granted : (v w : ℤ) → Plays private_server vs (reader_writes_too v w)
  write_granted v w = past_a_reader private_server private_fit v (writes_sure refl (item 5 refl) refl refl (put_beside 2 5 v 1 refl refl) then waits_for refl refl refl refl refl then done)

  committed_in_turn : Plays private_server vs both_write
  committed_in_turn =
      plays private_server vs refl
      (outright (λ b. refl)
      then outright (λ b. refl)
      then writes_sure refl (item 5 refl) refl refl (first-put private_server private_fit 1 5 refl)
      then writes_sure refl (item 5 refl) refl refl (put_beside 1 5 (pos 1) 2 refl refl)
      then outright (λ b. refl)
      then outright (λ b. refl)
      then done)

  later_stays : Leaves vs both_write (set vs 5 (pos 1))
  later_stays = record {
    committed = laid_one 5 (pos 1) (laid (λ j. cond (eqb j 5) (Some (pos 2)) None) vs) ∙ ap (λ (cs : List ℤ). set cs 5 (pos 1)) (laid_one 5 (pos 2) vs) ∙ set-set vs 5 (pos 2) (pos 1);
    none_pending = λ t i. gone (eqb t 1) (eqb t 2) (eqb i 5);
  }
    where
      gone : (one two on' : Bool) → cond one None (cond two None (cond (two && on') (Some (pos 2)) (cond (one && on') (Some (pos 1)) None))) ≡ None
      gone true two on' = refl
      gone false true on' = refl
      gone false false on' = refl

  pub worked : WorkedCases vs
  worked = record {
    a_commit_waits_for_a_reader = in_both _ commit-waits;
    a_write_waits_in_place = write-waits;
    a_write_is_granted_privately = write_granted;
    crossed_reads_deadlock = in_both _ reads_crossed;
    crossed_commits_deadlock_in_place = commits_crossed;
    an_own_write_is_read = in_both _ own_read;
    a_read_waits_for_a_writer = in_both _ read-waits;
    the_later_commit_stays_privately = (committed_in_turn, later_stays);
    an_abort_undoes_in_place = (aborted, undone);
  }
