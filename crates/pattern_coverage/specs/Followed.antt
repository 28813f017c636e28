-- Where type parameters lead by their bounds (Motoko language manual, section "Type parameters"). A type parameter stands for types within
-- its bound, so what may be a value of it is what may be one of its bound.
use Rattle.std.specs.Prelude.{ℕ, zero, suc, List, length}
use Rattle.mo_types.specs.declared.node.Node.{Node}
use Rattle.mo_types.specs.declared.node.Node.TheVariants as node
use Rattle.mo_types.specs.declared.node.TypeId.{TypeId}
use Rattle.mo_types.specs.Graph.{Slot, head_at}

-- a bound goes on, and another type stays
abbrev pub along : {X : Type 0} → (TypeId → X) → X → Node TypeId → X
along f x (node.Variable v b) = f b
along f x _ = x

-- at most n bounds further
abbrev pub followed : List Slot → ℕ → TypeId → TypeId
followed types zero t = t
followed types (suc n) t = along (followed types n) t (head_at types t)

-- the type that is no type parameter; as many bounds as there are types are enough, where they come to an end
abbrev pub end_of : List Slot → TypeId → TypeId
end_of types t = followed types (length types) t

-- the head by which the values of a type go
abbrev pub value_head : List Slot → TypeId → Node TypeId
value_head types t = head_at types (end_of types t)
