-- A small program with Bool, () and Nat among its types.
use Rattle.std.specs.Prelude.{List, [], ◌∷◌, Option, Some}
use Rattle.mo_num.specs.declared.kind.Kind.TheVariants as kind
use Rattle.mo_types.specs.declared.node.Node.TheVariants as node
use Rattle.mo_types.specs.Graph.{Slot, Interned}
use Rattle.mo_actor.specs.Executions.{Completion, Completes}
use Rattle.mo_meaning.specs.Kernel.{Fields}
use Rattle.typed_tree.specs.Examples.{answers_five}
use Rattle.typed_tree.specs.declared.program.Program.{Program}

abbrev pub basic_types : List Slot
basic_types = Interned (node.Number kind.Nat) ∷ Interned node.Text ∷ Interned node.Bool ∷ Interned (node.Tuple []) ∷ []

-- `actor { public query func f() : async Nat { 5 } }`
abbrev pub answers : Program
answers = record answers_five { types = basic_types }

-- a start that has ended, with what an actor keeps
abbrev pub IsStarted : Option (Completion Fields) → Type 0
IsStarted (Some (Completes fields)) = Unit {0}
IsStarted _ = ⊥
