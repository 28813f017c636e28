use Rattle.std.proofs.Common.{◌≡◌, ◌++◌, ◌∷◌, drop, map}
use Rattle.std.specs.List.{flat_map}
use Rattle.mo_syntax.specs.declared.token.TokenKind.TheVariants as t
use Rattle.mo_syntax.specs.declared.mark.Mark.TheVariants as m
use Rattle.mo_syntax.specs.ExpressionGrammar.{expression_field_tokens}
use Rattle.mo_tokens.proofs.writer.Writer.put_expression_fields.Given as goal

abbrev pub invariant-loop-one : goal.invariant-loop-one
invariant-loop-one g l =
    l.initial.out ++ flat_map (λ y. t.Mark m.Semicolon ∷ y) (map expression_field_tokens l.others) ≡ l.out ++ flat_map (λ y. t.Mark m.Semicolon ∷ y) (map expression_field_tokens (drop l.one-index l.others))
