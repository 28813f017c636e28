use Rattle.mo_syntax.specs.declared.token.TokenKind.TheVariants as t
use Rattle.mo_syntax.specs.declared.mark.Mark.TheVariants as m
use Rattle.mo_syntax.specs.TypeGrammar.{type_parameter_tokens}
use Rattle.mo_tokens.proofs.Appending.{rest_of, one_more, all_written}
use Rattle.mo_tokens.proofs.type_writing.put_each_type_parameter.Goals as goal

pub loop-one-preserved : goal.loop-one-preserved
loop-one-preserved c = one_more (t.Mark m.Comma) type_parameter_tokens (rest_of c.args.parameters.now) _ _ _ _ _ _ c.loop-one-test.true c.one-item.is c.in_ok-put_mark.ensures c.in_ok-put_type_parameter-2.ensures c.loop-one.invariant

pub returns : goal.returns
returns c = all_written (t.Mark m.Comma) type_parameter_tokens c.args.parameters.now _ _ _ _ _ c.in-len1-up.len_at_least c.first-item.is c.loop-one-test.false c.in_ok-put_type_parameter.ensures c.loop-one.invariant
