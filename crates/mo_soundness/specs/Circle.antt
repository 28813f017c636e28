-- Type parameters whose bounds go in a circle, `<A <: B, B <: A>` (Motoko language manual, section "Type parameters").
use Rattle.std.specs.Prelude.{ℕ, List, [], ◌∷◌}
use Rattle.mo_num.specs.declared.kind.Kind.TheVariants as kind
use Rattle.mo_types.specs.declared.node.Node.{Node}
use Rattle.mo_types.specs.declared.node.Node.TheVariants as node
use Rattle.mo_types.specs.declared.node.TypeId.{TypeId}
use Rattle.mo_types.specs.Graph.{Slot, Interned, head_at}

abbrev pub at : ℕ → TypeId
at n = record { index = n }

-- A, B, Nat and Text
abbrev pub circle : List Slot
circle = Interned (node.Variable 0 (at 1)) ∷ Interned (node.Variable 1 (at 0)) ∷ Interned (node.Number kind.Nat) ∷ Interned node.Text ∷ []

abbrev pub circle_head : TypeId → Node TypeId
circle_head = head_at circle
