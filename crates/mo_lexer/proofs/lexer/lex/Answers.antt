use Rattle.mo_lexer.proofs.Laws.{gives_these, refuses_this, in_order, are_placed}
use Rattle.mo_lexer.proofs.lexer.lex.Goals as goal

pub returns-clause-only_tokens : goal.returns-clause-only_tokens
returns-clause-only_tokens c = λ tokens short lexed. gives_these c.args.source.now c.answer.result tokens short lexed c.answer.ensures.found c.answer.ensures.fault

pub returns-clause-only_fault : goal.returns-clause-only_fault
returns-clause-only_fault c = λ fault faults. refuses_this c.args.source.now c.answer.result fault faults c.answer.ensures.found c.answer.ensures.fault

pub returns-clause-ordered : goal.returns-clause-ordered
returns-clause-ordered c = in_order c.args.source.now c.answer.result c.answer.ensures.found

pub returns-clause-placed : goal.returns-clause-placed
returns-clause-placed c = are_placed c.args.source.now c.answer.result c.answer.ensures.found
