-- The names in a type (Motoko language manual, "Types").
use Rattle.std.specs.Prelude.{List, [], ◌∷◌, ◌++◌, Option, Some, None, map}
use Rattle.std.specs.List.{flat_map}
use Rattle.mo_syntax.specs.declared.name.Name.{Name}
use Rattle.mo_syntax.specs.declared.types.TypeExpression.{TypeExpression, TypeExpression-F, fold-TypeExpression}
use Rattle.mo_syntax.specs.declared.types.TypeField.{TypeField, fold-TypeField}
use Rattle.mo_syntax.specs.declared.types.TypeItem.{TypeItem, fold-TypeItem}
use Rattle.mo_syntax.specs.declared.types.TypeMethod.{TypeMethod, fold-TypeMethod}
use Rattle.mo_syntax.specs.declared.types.TypeTag.{TypeTag, fold-TypeTag}
use Rattle.mo_syntax.specs.declared.types.TypeExpression.TheOpen as F
use Rattle.mo_scopes.specs.declared.finding.Finding.{Finding}
use Rattle.mo_scopes.specs.Findings.{Names, InScope, identifier, label, together, labels, used, nothing, within, each_within}
use Rattle.mo_scopes.specs.Scopes.{type_meaning}

-- a part with a label
pub record Entry : Type 0 where
  pub name : Name
  pub finds : InScope

abbrev pub names_of : List Entry → Names
names_of entries = map (λ e. e.name) entries

abbrev pub each_entry : List Entry → InScope
each_entry entries s = flat_map (λ e. e.finds s) entries

-- the parts of an object, variant or actor type
abbrev pub members : List Entry → InScope
members entries s = each_entry entries s ++ (together (names_of entries) ++ labels (names_of entries))

-- a part that may have a name
pub record Item : Type 0 where
  pub names : Names
  pub finds : InScope

abbrev pub item_names : List Item → Names
item_names items = flat_map (λ i. i.names) items

abbrev pub each_item : List Item → InScope
each_item items s = flat_map (λ i. i.finds s) items

-- ---- by one layer of the type over its parts

abbrev pub type_step : TypeExpression-F InScope Entry Item Entry Entry → InScope
type_step (F.Function sharing a b) s = a s ++ b s
type_step (F.Optional a) s = a s
type_step (F.Async a) s = a s
type_step (F.Named x arguments) s = identifier x ++ (used (type_meaning s x.bytes) x ++ each_within arguments s)
type_step (F.Parenthesized items) s = each_item items s ++ together (item_names items)
type_step (F.Array mutable a) s = a s
type_step (F.Object word fields last) s = members fields s
type_step F.EmptyVariant s = nothing s
type_step (F.Variant tags last) s = members tags s
type_step (F.Actor methods last) s = members methods s

abbrev pub type_field_step : F.TypeField-F InScope Entry Item Entry Entry → Entry
type_field_step x = record { name = x.name; finds = λ s. label x.name ++ x.annotation s }

abbrev pub type_method_step : F.TypeMethod-F InScope Entry Item Entry Entry → Entry
type_method_step x = record { name = x.name; finds = λ s. label x.name ++ x.annotation s }

abbrev pub type_tag_step : F.TypeTag-F InScope Entry Item Entry Entry → Entry
type_tag_step x = record { name = x.name; finds = λ s. label x.name ++ within x.payload s }

abbrev pub item_name : Option Name → Names
item_name None = []
item_name (Some x) = x ∷ []

abbrev pub item_identifier : Option Name → List Finding
item_identifier None = []
item_identifier (Some x) = identifier x

abbrev pub type_item_step : F.TypeItem-F InScope Entry Item Entry Entry → Item
type_item_step x = record { names = item_name x.name; finds = λ s. item_identifier x.name ++ x.annotation s }

unfoldable pub in_type : TypeExpression → InScope
in_type = fold-TypeExpression InScope Entry Item Entry Entry type_step type_field_step type_item_step type_method_step type_tag_step

unfoldable pub in_type_field : TypeField → Entry
in_type_field = fold-TypeField InScope Entry Item Entry Entry type_step type_field_step type_item_step type_method_step type_tag_step

unfoldable pub in_type_item : TypeItem → Item
in_type_item = fold-TypeItem InScope Entry Item Entry Entry type_step type_field_step type_item_step type_method_step type_tag_step

unfoldable pub in_type_method : TypeMethod → Entry
in_type_method = fold-TypeMethod InScope Entry Item Entry Entry type_step type_field_step type_item_step type_method_step type_tag_step

unfoldable pub in_type_tag : TypeTag → Entry
in_type_tag = fold-TypeTag InScope Entry Item Entry Entry type_step type_field_step type_item_step type_method_step type_tag_step
