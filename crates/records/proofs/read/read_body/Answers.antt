use Rattle.std.proofs.Common.{rules}
use Rattle.records.proofs.Cut.{answer_cut}
use Rattle.records.proofs.read.read_body.Goals as goal

pub returns-in-17-to-26-clause-reads : goal.returns-in-17-to-26-clause-reads
returns-in-17-to-26-clause-reads c = answer_cut c.args.kind c.args.body.now (search rules) (search rules) (search rules)
