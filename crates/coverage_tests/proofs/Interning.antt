-- What a graph is after a node that it lacks is interned.
use Rattle.std.proofs.Common.{◌≡◌, ℕ, zero, suc, List, [], ◌∷◌, Some, slice_get, inl, inr, ap}
use Rattle.mo_types.specs.declared.node.Node.{Node}
use Rattle.mo_types.specs.declared.node.Node.TheVariants as node
use Rattle.mo_types.specs.declared.node.TypeId.{TypeId}
use Rattle.mo_types.specs.Graph.{Slot, Interned, Interns}
use Rattle.pattern_coverage.specs.Inhabited.{type_at}
use Rattle.coverage_tests.specs.Small.{ABool, ALight, light, small}

nothing_there : (i : ℕ) (s : Slot) → slice_get [] i ≡ Some s → ⊥
nothing_there i s e = cc

pub first_added : (n : Node TypeId) (id : TypeId) (new : List Slot) → Interns [] n id new → (id ≡ ABool) × (new ≡ Interned n ∷ [])
first_added n id new (inl (i, e)) = absurd (nothing_there id.index (Interned n) i.there)
first_added n id new (inr (m, a)) = (ap type_at a.number, a.slots)

only_bool : (i : ℕ) → slice_get (Interned node.Bool ∷ []) i ≡ Some (Interned light) → ⊥
only_bool zero e = cc
only_bool (suc i) e = cc

pub second_added : (id : TypeId) (new : List Slot) → Interns (Interned node.Bool ∷ []) light id new → (id ≡ ALight) × (new ≡ small)
second_added id new (inl (i, e)) = absurd (only_bool id.index i.there)
second_added id new (inr (m, a)) = (ap type_at a.number, a.slots)
