use Rattle.std.proofs.Common.{◌≡◌, ◌++◌, ◌∷◌, [], drop, map}
use Rattle.std.specs.List.{flat_map}
use Rattle.mo_syntax.specs.declared.token.TokenKind.TheVariants as t
use Rattle.mo_syntax.specs.declared.mark.Mark.TheVariants as m
use Rattle.mo_tokens.proofs.type_writing.put_each_name.Given as goal

abbrev pub invariant-loop-one : goal.invariant-loop-one
invariant-loop-one l =
    l.initial.out ++ flat_map (λ y. t.Mark m.Comma ∷ y) (map (λ y. t.Identifier y ∷ []) l.others) ≡ l.out ++ flat_map (λ y. t.Mark m.Comma ∷ y) (map (λ y. t.Identifier y ∷ []) (drop l.one-index l.others))
