-- Labels that tell the fields of a type apart (Motoko language manual, sections "Type fields" and "Variant type fields": the
-- labels of one type are distinct).
use Rattle.std.specs.Prelude.{◌≡◌, List, Some}
use Rattle.mo_types.specs.declared.node.Node.{Node}
use Rattle.mo_types.specs.declared.node.Node.TheVariants as node
use Rattle.mo_types.specs.declared.node.Field.{Field}
use Rattle.mo_types.specs.Sub.{Each, find}

module _ {A : Type 0} where
  -- by its label each field is found itself, or one that is the same
  abbrev pub AreOwn : List (Field A) → Type 0
  AreOwn fs = Each (λ f. find f.label fs ≡ Some f) fs

  -- the same of the fields, methods or tags of a head
  abbrev pub OwnLabels : Node A → Type 0
  OwnLabels (node.Object fs) = AreOwn fs
  OwnLabels (node.Actor fs) = AreOwn fs
  OwnLabels (node.Variant fs) = AreOwn fs
  OwnLabels _ = Unit {0}
