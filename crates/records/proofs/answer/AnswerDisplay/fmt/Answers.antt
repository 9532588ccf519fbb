use Rattle.records.proofs.answer.AnswerDisplay.fmt.Goals as goal

pub returns-in-Written-clause-writes : goal.returns-in-Written-clause-writes
returns-in-Written-clause-writes g c = rw c.in-Written.is c.write-in-Written.ensures.writes

pub returns-in-Aborted-clause-writes : goal.returns-in-Aborted-clause-writes
returns-in-Aborted-clause-writes g c = rw c.in-Aborted.is c.write-in-Aborted.ensures.writes

pub returns-in-Deadlock-clause-writes : goal.returns-in-Deadlock-clause-writes
returns-in-Deadlock-clause-writes g c = rw c.in-Deadlock.is c.write-in-Deadlock.ensures.writes
