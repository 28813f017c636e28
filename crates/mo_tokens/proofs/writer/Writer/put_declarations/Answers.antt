use Rattle.mo_syntax.specs.declared.token.TokenKind.TheVariants as t
use Rattle.mo_syntax.specs.declared.mark.Mark.TheVariants as m
use Rattle.mo_syntax.specs.ExpressionGrammar.{declaration_tokens}
use Rattle.mo_tokens.proofs.Appending.{rest_of, one_more, all_written}
use Rattle.mo_tokens.proofs.writer.Writer.put_declarations.Goals as goal

pub loop-one-preserved : goal.loop-one-preserved
loop-one-preserved g c = one_more (t.Mark m.Semicolon) declaration_tokens (rest_of c.args.items.now) _ _ _ _ _ _ c.loop-one-test.true c.one-item.is c.in_ok-put_mark.ensures c.in_ok-put_declared-2.ensures c.loop-one.invariant

pub returns : goal.returns
returns g c = all_written (t.Mark m.Semicolon) declaration_tokens c.args.items.now _ _ _ _ _ c.in-len1-up.len_at_least c.first-item.is c.loop-one-test.false c.in_ok-put_declared.ensures c.loop-one.invariant
