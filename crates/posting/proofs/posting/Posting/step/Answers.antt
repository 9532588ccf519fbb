use Rattle.std.proofs.Common.{sym, refl, ap, ◌∙◌, to_z-of_z, w32, SFits, to_z, of_z, rules}
use Rattle.posting.specs.declared.posting.Stage.TheVariants.{ToRead, ToWrite, ToCommit, ToRetry, ToGiveUp, ToAbort}
use Rattle.tickets.specs.Outcomes.{abort_answer, commit_answer, read_answer, retry_answer, write_answer}
use Rattle.posting.specs.Turns.{at}
use Rattle.posting.proofs.Ending.{sooner_at, sooner_retry, sooner_write}
use Rattle.posting.proofs.Telling.{ends_abort, ends_outcome, ends_retried, taken_at, told}
use Rattle.posting.proofs.posting.Posting.step.Goals as goal

pub returns-in-ToRead-clause-taken : goal.returns-in-ToRead-clause-taken
returns-in-ToRead-clause-taken g c =
    let k = c.in-ToRead.ticket in
    let o = c.read.result in
    taken_at (ToRead k) k.number (read_answer k.number c.args.self.game.team o) c.in-ToRead.is refl (ends_outcome _ k.number o (λ f. tt)) c.read.ensures.answer c.read.ensures.step (c.after_read.ensures k.number c.read.ensures.number)

pub returns-in-ToWrite : goal.returns-in-ToWrite
returns-in-ToWrite g c =
    let k = c.in-ToWrite.ticket in
    let o = c.write.result in
    let f : SFits w32 c.in-ToWrite.total = search rules in
    -- the total as it went through the call's 32 bits
    let v = to_z w32 (of_z w32 c.in-ToWrite.total) in
    let is = c.in-ToWrite.is ∙ ap (ToWrite k) (sym (to_z-of_z f)) in
    let a = write_answer k.number c.args.self.game.team o in
    let e = c.after_write.ensures k.number v c.write.ensures.number in
    record {
      taken = taken_at (ToWrite k v) k.number a is refl (ends_outcome _ k.number o (λ j. tt)) c.write.ensures.answer c.write.ensures.step e;
      same = c.write.ensures.same;
      sooner = sooner_at c.args.self (ToWrite k v) a is e (sooner_write c.args.self.game k v o);
    }

pub returns-in-ToCommit-clause-taken : goal.returns-in-ToCommit-clause-taken
returns-in-ToCommit-clause-taken g c =
    let k = c.in-ToCommit.ticket in
    let o = c.commit.result in
    taken_at (ToCommit k) k.number (commit_answer k.number o) c.in-ToCommit.is refl (ends_outcome _ k.number o (λ u. refl)) c.commit.ensures.answer c.commit.ensures.step (c.after_commit.ensures k.number c.commit.ensures.number)

pub returns-in-ToRetry : goal.returns-in-ToRetry
returns-in-ToRetry g c =
    let k = c.in-ToRetry.ticket in
    let o = c.retry.result in
    let a = retry_answer k.number o in
    let e = c.after_retry.ensures k.number c.retry.ensures.number in
    record {
      taken = taken_at (ToRetry k) k.number a c.in-ToRetry.is refl (ends_outcome _ k.number o (ends_retried k.number)) c.retry.ensures.answer c.retry.ensures.step e;
      same = c.retry.ensures.same;
      sooner = sooner_at c.args.self (ToRetry k) a c.in-ToRetry.is e (sooner_retry c.args.self.game k o);
    }

pub returns-in-ToGiveUp-clause-taken : goal.returns-in-ToGiveUp-clause-taken
returns-in-ToGiveUp-clause-taken g c =
    let k = c.in-ToGiveUp.ticket in
    let o = c.abort.result in
    let e = told (at c.args.self.game (ToGiveUp k)) k.number o (λ x. refl) c.after_abort.ensures in
    taken_at (ToGiveUp k) k.number (abort_answer k.number o) c.in-ToGiveUp.is refl (ends_abort k.number o) c.abort.ensures.answer c.abort.ensures.step e

pub returns-in-ToAbort-clause-taken : goal.returns-in-ToAbort-clause-taken
returns-in-ToAbort-clause-taken g c =
    let k = c.in-ToAbort.ticket in
    let why = c.in-ToAbort.cause in
    let o = c.abort-in-ToAbort.result in
    let e = told (at c.args.self.game (ToAbort k why)) k.number o (λ x. refl) c.after_abort-in-ToAbort.ensures in
    taken_at (ToAbort k why) k.number (abort_answer k.number o) c.in-ToAbort.is refl (ends_abort k.number o) c.abort-in-ToAbort.ensures.answer c.abort-in-ToAbort.ensures.step e
