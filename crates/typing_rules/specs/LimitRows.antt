-- Programs that pass a limit.
use Rattle.std.specs.Prelude.{ℕ, zero, suc, ◌+◌, false, codes}
use Rattle.typing_rules.specs.AbstractSyntax.{TypeNode, Declarations, Program}
use Rattle.typing_rules.specs.AbstractSyntax as p
use Rattle.typing_rules.specs.Rows.{actor}

-- so many times `()`, each with a semicolon behind it, from the token of this number on
abbrev pub units : ℕ → ℕ → Declarations ℕ
units zero at = p.End
units (suc n) at = p.Then false at (p.Evaluate (p.exp at (p.Tuple p.Nil))) (units n (at + 3))

-- so many times `?`, and then `Nat`
abbrev pub options : ℕ → ℕ → TypeNode
options zero at = p.node at (p.Use (codes "Nat") p.Nil)
options (suc n) at = p.node at (p.Optional (options n (suc at)))

-- `actor { let x : ?..?Nat = null }`
abbrev pub with_options : ℕ → Program ℕ
with_options n =
    actor (p.Then false 2 (p.Let (p.pattern 3 (p.Annotated (p.pattern 3 (p.Variable (codes "x"))) (options n 5))) (p.exp (n + 7) (p.Constant p.Null))) p.End)
