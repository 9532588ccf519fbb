use Rattle.std.proofs.Common.{◌≡◌, IfSome, Err, None, Some, Option, subst, sym, refl, ap, ◌∙◌, arith, ℕ}
use Rattle.std.proofs.lemmas.Bool.{cond-false}
use Rattle.std.proofs.lemmas.Result.{err_from_is_err_and}
use Rattle.records.specs.declared.refusal.Refusal.{Refusal}
use Rattle.store.specs.Meaning.{answered}
use Rattle.scheduler.specs.declared.lock.Kind.TheVariants.{Write}
use Rattle.scheduler.specs.Fresh.{Fresh}
use Rattle.scheduler.specs.Steps.{value_put}
use Rattle.scheduler.specs.Tables.{ledger_of}
use Rattle.scheduler.proofs.Freshness.{missing-write}
use Rattle.scheduler.proofs.Missing.{has_room}
use Rattle.scheduler.proofs.scheduler.Scheduler.grant_write.Goals as goal

pub grant-requires : goal.grant-requires
grant-requires g c =
    let s = c.args.self.now in
    let ls = s.tables.locks.inner.items in
    let room = has_room c.args.t c.args.item Write (ledger_of s.tables) c.in_ok-missing.missing c.in_ok-missing.ensures.answer in
    record {
      within = c.requires.at.within;
      room = c.in_ok-missing.ensures.room;
      fresh = subst (λ l. IfSome l (Fresh ls)) room.1 (missing-write c.args.t c.args.item ls);
    }

-- the store's refusal is handed on
passed : {e : Refusal} (o : Option Refusal) → Err e ≡ answered o → o ≡ Some e
passed None h = let z : ◌≡◌ {A = ℕ} 0 1 = cc in absurd (omega arith)
passed (Some d) h = cc

pub returns-in_err-put : goal.returns-in_err-put
returns-in_err-put g c =
    let p = err_from_is_err_and c.from_residual-in_err-put.result c.from_residual-in_err-put.ensures.1 in
    let s = c.args.self.now in
    let room = has_room c.args.t c.args.item Write (ledger_of s.tables) c.in_ok-missing.missing c.in_ok-missing.ensures.answer in
    rw (p.1, p.2) (record {
      answer = sym (cond-false _ _ _ room.0 ∙ ap (value_put c.args.t c.args.item) (passed _ c.in_err-put.ensures.answer));
      step = record { ledger = refl; committed = c.put.ensures.committed; pending = c.in_err-put.ensures.pending };
      same = (refl, refl, c.put.ensures.place);
    })
