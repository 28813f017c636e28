use Rattle.std.proofs.Common.{sym}
use Rattle.mo_lexer.proofs.MarkLemmas.{mark_within}
use Rattle.mo_lexer.proofs.sign.mark_at.Goals as goal

pub returns-in_ok-mark-in-len1-up-clause-within : goal.returns-in_ok-mark-in-len1-up-clause-within
returns-in_ok-mark-in-len1-up-clause-within c = mark_within c.args.text.now c.in_ok-mark-in-len1-up.mark c.longest_mark.result c.in-len1-up.len_at_least (sym c.in_ok-mark-in-len1-up.ensures) c.longest_mark.ensures
