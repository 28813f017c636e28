-- Programs with the types of their nodes.
use Rattle.std.specs.Prelude.{ℕ, List, [], ◌∷◌, false, None, codes, Ok}
use Rattle.mo_num.specs.declared.kind.Kind.TheVariants as kind
use Rattle.mo_syntax.specs.declared.operators.BinaryOperator.TheVariants as op
use Rattle.mo_types.specs.Sub.{Each}
use Rattle.typing_rules.specs.AbstractSyntax.{Declarations, Program}
use Rattle.typing_rules.specs.AbstractSyntax as p
use Rattle.typing_rules.specs.Programs.{Checks}
use Rattle.typing_rules.specs.Rows.{actor}
use Rattle.typing_rules.specs.Terms.{Term, int, nat}
use Rattle.typing_rules.specs.Terms as t
use Rattle.typing_rules.specs.TypedTrees.{Note, note}

pub record NodeRow : Type 0 where
  pub source : Declarations ℕ
  pub made : Declarations Note

abbrev pub row : Declarations ℕ → Declarations Note → NodeRow
row source made = record { source = source; made = made }

abbrev pub AreMade : List NodeRow → Type 0
AreMade rows = Each (λ r. Checks (actor r.source) (Ok (record { imports = []; name = None; fields = r.made }))) rows

abbrev pub nat8 : Term
nat8 = t.Number kind.Nat8

-- Where Int is wanted, both operands are of Int; a literal takes the type of the other operand only where its own has no greatest with it.
abbrev pub node_types : List NodeRow
node_types =
    -- actor { let x : Int = 1 - 2 }
    row
    (p.Then false 2 (p.Let (p.pattern 3 (p.Annotated (p.pattern 3 (p.Variable (codes "x"))) (p.node 5 (p.Use (codes "Int") p.Nil))))
    (p.exp 7 (p.Binary op.Subtract (p.exp 7 (p.Constant (p.Number 1))) (p.exp 9 (p.Constant (p.Number 2)))))) p.End)
    (p.Then false (note 2 int) (p.Let (p.pattern (note 3 int) (p.Annotated (p.pattern (note 3 int) (p.Variable (codes "x"))) (p.node 5 (p.Use (codes "Int") p.Nil))))
    (p.exp (note 7 int) (p.Binary op.Subtract (p.exp (note 7 int) (p.Constant (p.Number 1))) (p.exp (note 9 int) (p.Constant (p.Number 2)))))) p.End) ∷
    -- actor { let x = 1 - 2 }
    row
    (p.Then false 2 (p.Let (p.pattern 3 (p.Variable (codes "x")))
    (p.exp 5 (p.Binary op.Subtract (p.exp 5 (p.Constant (p.Number 1))) (p.exp 7 (p.Constant (p.Number 2)))))) p.End)
    (p.Then false (note 2 nat) (p.Let (p.pattern (note 3 nat) (p.Variable (codes "x")))
    (p.exp (note 5 nat) (p.Binary op.Subtract (p.exp (note 5 nat) (p.Constant (p.Number 1))) (p.exp (note 7 nat) (p.Constant (p.Number 2)))))) p.End) ∷
    -- actor { let i = -1; let b = 1 < i }
    row
    (p.Then false 2 (p.Let (p.pattern 3 (p.Variable (codes "i"))) (p.exp 5 (p.Negative (p.exp 6 (p.Constant (p.Number 1))))))
    (p.Then false 8 (p.Let (p.pattern 9 (p.Variable (codes "b")))
    (p.exp 11 (p.Binary op.Less (p.exp 11 (p.Constant (p.Number 1))) (p.exp 13 (p.Name (codes "i")))))) p.End))
    (p.Then false (note 2 int) (p.Let (p.pattern (note 3 int) (p.Variable (codes "i"))) (p.exp (note 5 int) (p.Negative (p.exp (note 6 nat) (p.Constant (p.Number 1))))))
    (p.Then false (note 8 t.Boolean) (p.Let (p.pattern (note 9 t.Boolean) (p.Variable (codes "b")))
    (p.exp (note 11 t.Boolean) (p.Binary op.Less (p.exp (note 11 int) (p.Subsumed (p.exp (note 11 nat) (p.Constant (p.Number 1)))))
    (p.exp (note 13 int) (p.Subsumed (p.exp (note 13 int) (p.Name (codes "i")))))))) p.End)) ∷
    -- actor { let a : Nat8 = 1; let b = a + 1 }
    row
    (p.Then false 2 (p.Let (p.pattern 3 (p.Annotated (p.pattern 3 (p.Variable (codes "a"))) (p.node 5 (p.Use (codes "Nat8") p.Nil)))) (p.exp 7 (p.Constant (p.Number 1))))
    (p.Then false 9 (p.Let (p.pattern 10 (p.Variable (codes "b")))
    (p.exp 12 (p.Binary op.Add (p.exp 12 (p.Name (codes "a"))) (p.exp 14 (p.Constant (p.Number 1)))))) p.End))
    (p.Then false (note 2 nat8) (p.Let (p.pattern (note 3 nat8) (p.Annotated (p.pattern (note 3 nat8) (p.Variable (codes "a"))) (p.node 5 (p.Use (codes "Nat8") p.Nil))))
    (p.exp (note 7 nat8) (p.Constant (p.Number 1))))
    (p.Then false (note 9 nat8) (p.Let (p.pattern (note 10 nat8) (p.Variable (codes "b")))
    (p.exp (note 12 nat8) (p.Binary op.Add (p.exp (note 12 nat8) (p.Name (codes "a"))) (p.exp (note 14 nat8) (p.Constant (p.Number 1)))))) p.End)) ∷
    []
