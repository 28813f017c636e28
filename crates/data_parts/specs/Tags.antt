-- The tags of variants.
use Rattle.std.specs.Prelude.{◌≡◌, List, Option, Some, None, option_map, slice_get}
use Rattle.mo_types.specs.declared.node.Node.{Node}
use Rattle.mo_types.specs.declared.node.Field.{Field}
use Rattle.mo_types.specs.declared.node.TypeId.{TypeId}
use Rattle.mo_types.specs.Heads.{variant_of}
use Rattle.mo_types.specs.Sub.{find}
use Rattle.type_terms.specs.declared.form.TermId.{TermId}
use Rattle.typing_rules.specs.AbstractSyntax.{Bytes}
use Rattle.met_types.specs.States.{State}

abbrev pub own_part : {A : Type 0} → Field A → A
own_part f = f.part

-- the type of the tag among these
abbrev pub part_among : {A : Type 0} → Bytes → List (Field A) → Option A
part_among x tags = option_map own_part (find x tags)

-- the type of the tag, where it is a type of variants
abbrev pub tag_of : {A : Type 0} → Bytes → Node A → Option (Option A)
tag_of x y = option_map (part_among x) (variant_of y)

-- this is the term of the type of the graph, where there is one
abbrev pub IsPart : State → Option TypeId → Option TermId → Type 0
IsPart s None None = Unit {0}
IsPart s (Some p) (Some id) = slice_get s.reached p.index ≡ Some id
IsPart s _ _ = ⊥
