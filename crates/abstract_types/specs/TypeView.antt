-- The abstract syntax of types that values of this crate stand for.
use Rattle.std.specs.Prelude.{List, Option, option_map, map}
use Rattle.abstract_types.specs.declared.names.PlacedName.{PlacedName}
use Rattle.abstract_types.specs.declared.types.TypeField.{TypeField, fold-TypeField}
use Rattle.abstract_types.specs.declared.types.TypeForm.{TypeForm, fold-TypeForm}
use Rattle.abstract_types.specs.declared.types.TypeNode as value
use Rattle.abstract_types.specs.declared.types.TypeNode.{fold-TypeNode}
use Rattle.abstract_types.specs.declared.types.TypeParameter as value_parameter
use Rattle.abstract_types.specs.declared.types.TypeField.TheOpen as F
use Rattle.typing_rules.specs.AbstractSyntax.{Named, TypeNode, TypeFields, TypeParameter}
use Rattle.typing_rules.specs.AbstractSyntax as p
use Rattle.typing_rules.specs.AbstractTypes.{type_nodes, type_fields}

abbrev pub named : PlacedName → Named
named x = record { at = x.at; bytes = x.bytes }

-- a field, tag or method, before others
abbrev pub FieldView : Type 0
FieldView = TypeFields → TypeFields

abbrev pub field_step : F.TypeField-F FieldView p.TypeForm TypeNode → FieldView
field_step (F.Field mutable x a) rest = p.Field mutable (named x) a rest
field_step (F.EmptyTag x) rest = p.EmptyTag (named x) rest

abbrev pub form_step : F.TypeForm-F FieldView p.TypeForm TypeNode → p.TypeForm
form_step (F.Function s parameters r) = p.Function s (type_nodes parameters) r
form_step (F.Optional a) = p.Optional a
form_step (F.Async a) = p.Async a
form_step (F.Use x arguments) = p.Use x (type_nodes arguments)
form_step (F.Tuple items) = p.Tuple (type_nodes items)
form_step (F.Array mutable a) = p.Array mutable a
form_step (F.Object fields) = p.Object (type_fields fields)
form_step (F.Variant tags) = p.Variant (type_fields tags)
form_step (F.Actor methods) = p.Actor (type_fields methods)

abbrev pub node_step : F.TypeNode-F FieldView p.TypeForm TypeNode → TypeNode
node_step x = p.node x.at x.form

unfoldable pub type_node : value.TypeNode → TypeNode
type_node = fold-TypeNode FieldView p.TypeForm TypeNode field_step form_step node_step

unfoldable pub type_form : TypeForm → p.TypeForm
type_form = fold-TypeForm FieldView p.TypeForm TypeNode field_step form_step node_step

unfoldable pub type_field : TypeField → FieldView
type_field = fold-TypeField FieldView p.TypeForm TypeNode field_step form_step node_step

-- a list of types, as a list
abbrev pub types : List value.TypeNode → List TypeNode
types xs = map type_node xs

-- a type that may be missing
abbrev pub annotation : Option value.TypeNode → Option TypeNode
annotation a = option_map type_node a

abbrev pub parameter : value_parameter.TypeParameter → TypeParameter
parameter x = record { name = named x.name; bound = annotation x.bound }
