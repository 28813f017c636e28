-- Bool, and a variant of two tags with Bool under both.
use Rattle.std.specs.Prelude.{ℕ, List, [], ◌∷◌, false, codes}
use Rattle.mo_types.specs.declared.node.Field.{Field}
use Rattle.mo_types.specs.declared.node.Node.{Node}
use Rattle.mo_types.specs.declared.node.Node.TheVariants as node
use Rattle.mo_types.specs.declared.node.TypeId.{TypeId}
use Rattle.mo_types.specs.Graph.{Slot, Interned}
use Rattle.pattern_coverage.specs.Inhabited.{type_at}

abbrev pub ABool : TypeId
ABool = type_at 0

abbrev pub ALight : TypeId
ALight = type_at 1

abbrev pub tag : List ℕ → Field TypeId
tag l = record { label = l; mutable = false; part = ABool }

abbrev pub light : Node TypeId
light = node.Variant (tag (codes "red") ∷ tag (codes "green") ∷ [])

abbrev pub small : List Slot
small = Interned node.Bool ∷ Interned light ∷ []
