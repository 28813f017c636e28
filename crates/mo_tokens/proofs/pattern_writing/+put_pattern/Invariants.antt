use Rattle.std.proofs.Common.{◌≡◌, ◌++◌, ◌∷◌, drop, map}
use Rattle.std.specs.List.{flat_map}
use Rattle.mo_syntax.specs.declared.token.TokenKind.TheVariants as t
use Rattle.mo_syntax.specs.declared.mark.Mark.TheVariants as m
use Rattle.mo_syntax.specs.PatternGrammar.{pattern_tokens, pattern_field_tokens}
use Rattle.mo_tokens.proofs.pattern_writing.+put_pattern.Given as goal

abbrev pub invariant-put_each_pattern_field-loop-one : goal.invariant-put_each_pattern_field-loop-one
invariant-put_each_pattern_field-loop-one l =
    l.initial.out ++ flat_map (λ y. t.Mark m.Semicolon ∷ y) (map pattern_field_tokens l.others) ≡ l.out ++ flat_map (λ y. t.Mark m.Semicolon ∷ y) (map pattern_field_tokens (drop l.one-index l.others))

abbrev pub invariant-put_patterns-loop-one : goal.invariant-put_patterns-loop-one
invariant-put_patterns-loop-one l =
    l.initial.out ++ flat_map (λ y. t.Mark m.Comma ∷ y) (map pattern_tokens l.others) ≡ l.out ++ flat_map (λ y. t.Mark m.Comma ∷ y) (map pattern_tokens (drop l.one-index l.others))
