use Rattle.mo_lexer.proofs.EscapeLemmas.{unicode_whole}
use Rattle.mo_lexer.proofs.escape.escape_at.Goals as goal

pub returns-then-letter-eq117-clause-found : goal.returns-then-letter-eq117-clause-found
returns-then-letter-eq117-clause-found c = unicode_whole c.args.in_text c.args.text.now c.unicode_at.result c.in-len1-up.len_at_least c.if-letter-eq117.true c.unicode_at.ensures
