use Rattle.scope_judging.proofs.Written.{written}
use Rattle.scope_judging.proofs.reading.reads_or.Goals as goal

pub returns-in-Some-clause-answer : goal.returns-in-Some-clause-answer
returns-in-Some-clause-answer c = written c.args.written.now c.args.other c.args.scopes.now c.args.checker.now c.in-Some.written c.reads.new.checker c.reads.result c.in-Some.is c.reads.ensures.answer
