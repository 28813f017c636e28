-- A small program, and what it is written out to.
use Rattle.std.specs.Prelude.{◌≡◌, ℕ, List, [], ◌∷◌, false, true, None, Some, codes, Ok}
use Rattle.mo_syntax.specs.declared.operators.BinaryOperator.TheVariants as op
use Rattle.mo_types.specs.Graph.{Slot}
use Rattle.typed_tree.specs.declared.program.Program as typed
use Rattle.typed_tree.specs.Examples.{counter}
use Rattle.typing_rules.specs.AbstractSyntax.{Program}
use Rattle.typing_rules.specs.AbstractSyntax as p
use Rattle.typing_rules.specs.Rows.{actor, token}
use Rattle.typing_rules.specs.Terms.{Term}
use Rattle.typing_rules.specs.Terms as t
use Rattle.typing_rules.specs.Gathered.{gathered}
use Rattle.typing_rules.specs.SameTerms.{number_in}
use Rattle.typing_rules.specs.TypedTrees.{Note}
use Rattle.typing_rules.specs.Programs.{Checks}
use Rattle.desugaring.specs.Programs.{desugared}

-- the program is typed, and is written out to this one over a graph that has these types under the numbers of their places
abbrev pub Desugars : Program ℕ → List Slot → List Term → typed.Program → Type 0
Desugars source types terms program = (made : Program Note) × Checks source (Ok made) × (desugared (gathered source) (number_in terms) types made ≡ program)

abbrev pub counter_terms : List Term
counter_terms = t.nat ∷ t.unit ∷ []

-- the counter of typed trees, with the nodes that its declarations are written in: the variable with its type and value, and the public function
abbrev pub written_counter : typed.Program
written_counter = record counter { nodes = 4 }

-- actor { stable var n : Nat = 0; public func inc() : async Nat { n += 1; n } }
abbrev pub counter_source : Program ℕ
counter_source =
    (actor
    (p.Then false 2 (p.Var true (token 4 (codes "n")) (Some (p.node 6 (p.Use (codes "Nat") p.Nil))) (p.exp 8 (p.Constant (p.Number 0))))
    (p.Then true 10
    (p.Method false None (token 12 (codes "inc"))
    (record { generics = []; parameters = p.Nil; result = (Some (p.node 16 (p.Async (p.node 17 (p.Use (codes "Nat") p.Nil))))) })
    (p.exp 18
    (p.Block
    (p.Then false 19
    (p.Evaluate
    (p.exp 19 (p.AssignBy op.Add (p.exp 19 (p.Name (codes "n"))) (p.exp 21 (p.Constant (p.Number 1))))))
    (p.Then false 23 (p.Evaluate (p.exp 23 (p.Name (codes "n")))) p.End))))) p.End)))
