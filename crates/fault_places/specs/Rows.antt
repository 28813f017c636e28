-- A row: a program that is refused at its last number.
use Rattle.std.specs.Prelude.{ℕ, false, codes}
use Rattle.typing_rules.specs.AbstractSyntax.{Program}
use Rattle.typing_rules.specs.AbstractSyntax as p
use Rattle.typing_rules.specs.Rows.{actor}

-- `actor { let x : Nat = true }`
abbrev pub mismatched : Program ℕ
mismatched =
    actor
    (p.Then false 2
    (p.Let (p.pattern 3 (p.Annotated (p.pattern 3 (p.Variable (codes "x"))) (p.node 5 (p.Use (codes "Nat") p.Nil)))) (p.exp 7 (p.Constant p.True)))
    p.End)
