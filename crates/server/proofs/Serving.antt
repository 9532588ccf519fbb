-- From what the parts of a server leave to what goes out.
use Rattle.std.proofs.Common.{◌≡◌, ℕ, ◌<◌, ◌≤◌, Bool, true, false, ltb, List, [], ◌++◌, map, length, ℤ, None, Option, sym, ap, ◌∙◌, subst, ap₂}
use mathlib.Core.Path.{fun_ext}
use Rattle.std.specs.List.Sorted.{IsPermutation}
use Rattle.std.proofs.lemmas.List.{append_assoc, append-nil}
use Rattle.std.proofs.lemmas.List.Sorted.{IsPermutation-refl}
use Rattle.std.proofs.lemmas.Bool.{le-ltb, lt-ltb}
use Rattle.records.specs.declared.answer.Answer.{Answer as Record}
use Rattle.records.specs.declared.refusal.Refusal.{Refusal}
use Rattle.records.specs.declared.request.Request.{Request}
use Rattle.reading.specs.Held.{Held, requests_in}
use Rattle.reading.specs.declared.file.Ending.{Ending}
use Rattle.reading.specs.declared.file.Placed.{Placed}
use Rattle.store.specs.Meaning.{Writes, laid}
use Rattle.store.proofs.Openings.{laid-nothing}
use Rattle.scheduler.specs.Blockers.{Rule}
use Rattle.scheduler.specs.Ledger.{Answer, Ledger}
use Rattle.scheduler.specs.Steps.{Terms}
use Rattle.history.specs.Ran.{Ran}
use Rattle.history.specs.Run.{committed_of, ledger, pending_of}
use Rattle.server.specs.Output.{Answered, Output, requests_of, run_over}
use Rattle.scheduler.specs.Recorded.{still_open}
use Rattle.server.specs.Told.{bytes_of, closing, ended, holding, told_all}
use Rattle.server.proofs.Growing.{bytes_append}
use Rattle.server.proofs.Nobody.{nobody}

-- the answers and the ending, written into an empty output
pub both_written : (rs ss : List Record) (start o₁ o₂ : List ℕ) → start ≡ [] → o₁ ≡ start ++ bytes_of rs → o₂ ≡ o₁ ++ bytes_of ss → o₂ ≡ bytes_of (rs ++ ss)
both_written rs ss start o₁ o₂ n h₁ h₂ = h₂ ∙ ap (λ xs. xs ++ bytes_of ss) (h₁ ∙ ap (λ xs. xs ++ bytes_of rs) n) ∙ sym (bytes_append rs ss)

module _ (ok : Rule) (k : Terms) (refusal : Option Refusal) (vs : List ℤ) (p : Writes) (input o₁ : List ℕ) (L : Ledger) (ws : List ℤ) (p' : Writes) where
  -- by what was found and what was asked
  pub answered_of : (found : List Placed) (ending : Ending) (calls : List Request) (as' : List Answer) → (found, ending) ≡ requests_in input → calls ≡ requests_of found
      → Ran ok k refusal vs p calls as' L ws p' → o₁ ≡ bytes_of (told_all found as' ++ ended ending) → Answered ok k refusal vs p input o₁ L ws p'
  answered_of found ending calls as' h q R e =
      record {
        answers = as';
        ran = subst (λ (qs : List Request). Ran ok k refusal vs p qs as' L ws p') (q ∙ ap (λ (x : Held). requests_of x.0) h) R;
        written = e ∙ ap (λ (x : Held). bytes_of (told_all x.0 as' ++ ended x.1)) h;
      }

  -- the values and pending writes of the run
  settled : (A : Answered ok k refusal vs p input o₁ L ws p') → let r = run_over input A.answers in Ran ok k refusal vs p (requests_of (requests_in input).0) A.answers (ledger r) (committed_of vs p r) (pending_of p r)
  settled A =
      let R = A.ran in
      let qs = requests_of (requests_in input).0 in
      let r = run_over input A.answers in
      subst (λ (M : Ledger). Ran ok k refusal vs p qs A.answers M (committed_of vs p r) (pending_of p r)) R.tables
      (subst (λ (cs : List ℤ). Ran ok k refusal vs p qs A.answers L cs (pending_of p r)) R.values
      (subst (λ (w : Writes). Ran ok k refusal vs p qs A.answers L ws w) R.writes R))

  closed : (b : Bool) → ltb 60000 (length input) ≡ b → (A : Answered ok k refusal vs p input o₁ L ws p') (o₂ : List ℕ) → o₂ ≡ o₁ ++ bytes_of (closing b L.opens (laid (p' 0) ws)) → Output ok k refusal vs p input o₂
  closed b is_b A o₂ e =
      let R = settled A in
      let r = run_over input A.answers in
      let told' = told_all (requests_in input).0 A.answers in
      let end = ended (requests_in input).1 in
      let seen : laid (p' 0) ws ≡ laid (pending_of p r 0) (committed_of vs p r) = ap₂ (λ (w : Writes) cs. laid (w 0) cs) A.ran.writes A.ran.values in
      let none : ((t i : ℕ) → p t i ≡ None) → (i : ℕ) → pending_of p r 0 i ≡ None = λ h i. R.only_the_open_have_writes h 0 i (nobody ok k refusal vs p r R.served) in
      let rest = closing (ltb 60000 (length input)) L.opens (laid (p' 0) ws) in
      record {
        answers = A.answers;
        ran = R;
        opens = L.opens;
        opens_are_all = subst (λ (M : Ledger). IsPermutation M.opens L.opens) A.ran.tables (IsPermutation-refl L.opens);
        shown = laid (p' 0) ws;
        shown_to_nobody = seen;
        shown_are_committed = λ h. seen ∙ ap (λ row. laid row (committed_of vs p r)) (fun_ext (none h)) ∙ laid-nothing (committed_of vs p r);
        written = e ∙ ap (λ x. o₁ ++ bytes_of (closing x L.opens (laid (p' 0) ws))) (sym is_b) ∙ ap (λ xs. xs ++ bytes_of rest) A.written ∙ sym (bytes_append (told' ++ end) rest) ∙ ap bytes_of (append_assoc told' end rest);
      }

  -- nothing follows after an input that is too long
  pub none-closing : 60000 < length input → Answered ok k refusal vs p input o₁ L ws p' → Output ok k refusal vs p input o₁
  none-closing h A = closed true (lt-ltb 60000 (length input) h) A o₁ (sym (append-nil o₁))

  -- else the open transactions and the values
  pub both_closing : length input ≤ 60000 → Answered ok k refusal vs p input o₁ L ws p' → (o₂ o₃ : List ℕ) → o₂ ≡ o₁ ++ bytes_of (map still_open L.opens) → o₃ ≡ o₂ ++ bytes_of (holding 0 (laid (p' 0) ws)) → Output ok k refusal vs p input o₃
  both_closing h A o₂ o₃ h₂ h₃ =
      let os = map still_open L.opens in
      let hs = holding 0 (laid (p' 0) ws) in
      closed false (le-ltb 60000 (length input) h) A o₃ (h₃ ∙ ap (λ xs. xs ++ bytes_of hs) h₂ ∙ append_assoc o₁ (bytes_of os) (bytes_of hs) ∙ ap (λ xs. o₁ ++ xs) (sym (bytes_append os hs)))
