use Rattle.std.proofs.Common.{sym, ◌∙◌, arith}
use Rattle.std.proofs.lemmas.List.Sums.{prefix_len_is}
use Rattle.mo_lexer.specs.Reading.{is_in}
use Rattle.mo_lexer.proofs.class.Class.run_len.Goals as goal

pub returns-else-has-clause-value : goal.returns-else-has-clause-value
returns-else-has-clause-value c = sym (prefix_len_is (is_in c.args.self) c.args.text.now c.loop-len.len 0 c.loop-len.invariant.0 c.loop-len.invariant.1 (λ _. sym c.has.ensures ∙ c.if-has.false))

pub returns-after-loop-len-clause-value : goal.returns-after-loop-len-clause-value
returns-after-loop-len-clause-value c = sym (prefix_len_is (is_in c.args.self) c.args.text.now c.loop-len.len 0 c.loop-len.invariant.0 c.loop-len.invariant.1 (λ more. absurd (omega arith)))
