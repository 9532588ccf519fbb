use Rattle.records.proofs.request.RequestDisplay.fmt.Goals as goal

pub returns-in-Read-clause-writes : goal.returns-in-Read-clause-writes
returns-in-Read-clause-writes g c = rw c.in-Read.is c.write.ensures.writes

pub returns-in-Retry-clause-writes : goal.returns-in-Retry-clause-writes
returns-in-Retry-clause-writes g c = rw c.in-Retry.is c.write-in-Retry.ensures.writes
