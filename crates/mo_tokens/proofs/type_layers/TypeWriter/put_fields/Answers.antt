use Rattle.mo_syntax.specs.declared.token.TokenKind.TheVariants as t
use Rattle.mo_syntax.specs.declared.mark.Mark.TheVariants as m
use Rattle.mo_syntax.specs.TypeGrammar.{type_field_tokens}
use Rattle.mo_tokens.proofs.Appending.{rest_of, one_more, all_written}
use Rattle.mo_tokens.proofs.type_layers.TypeWriter.put_fields.Goals as goal

pub loop-one-preserved : goal.loop-one-preserved
loop-one-preserved g c = one_more (t.Mark m.Semicolon) type_field_tokens (rest_of c.args.fields.now) _ _ _ _ _ _ c.loop-one-test.true c.one-item.is c.in_ok-put_mark.ensures (rw c.get-in-loop-one.ensures at c.in_ok-put_field-2.ensures) c.loop-one.invariant

pub returns : goal.returns
returns g c = all_written (t.Mark m.Semicolon) type_field_tokens c.args.fields.now _ _ _ _ _ c.in-len1-up.len_at_least c.first-item.is c.loop-one-test.false (rw c.get.ensures at c.in_ok-put_field.ensures) c.loop-one.invariant
