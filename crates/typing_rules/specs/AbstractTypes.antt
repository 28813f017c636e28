-- The abstract syntax of types (Motoko language manual, section "Types").
use Rattle.std.specs.Prelude.{ℕ, ◌+◌, false, List, [], ◌∷◌, Option, Some, None, option_map, map}
use Rattle.mo_syntax.specs.declared.name.Name.{Name}
use Rattle.mo_syntax.specs.declared.types.Sharing.{Sharing}
use Rattle.mo_syntax.specs.declared.types.Sharing.TheVariants as sharing
use Rattle.mo_syntax.specs.declared.types.TypeExpression.{TypeExpression, TypeExpression-F, fold-TypeExpression}
use Rattle.mo_syntax.specs.declared.types.TypeExpression.TheOpen as T
use Rattle.mo_syntax.specs.declared.types.TypeField as type_field
use Rattle.mo_syntax.specs.declared.types.TypeItem as type_item
use Rattle.mo_syntax.specs.declared.types.TypeMethod as type_method
use Rattle.mo_syntax.specs.declared.types.TypeTag as type_tag
use Rattle.mo_syntax.specs.declared.types.TypeParameter as generic
use Rattle.typing_rules.specs.AbstractSyntax.{Named, TypeNode, TypeNodes, TypeFields, TypeParameter}
use Rattle.typing_rules.specs.AbstractSyntax as p
use Rattle.typing_rules.specs.Spans.{Span, name_at, flag, led, at_led, listed_from, listed_size}

-- a type, and its items where it is in parentheses
pub record TypeSpan : Type 0 where
  pub size : ℕ
  pub from : ℕ → TypeNode
  pub items : Option (List (Span TypeNode))

abbrev pub type_nodes : List TypeNode → TypeNodes
type_nodes [] = p.Nil
type_nodes (a ∷ rest) = p.Cons a (type_nodes rest)

abbrev pub type_span_of : TypeSpan → Span TypeNode
type_span_of a = record { size = a.size; from = a.from }

abbrev pub only_type : ℕ → (ℕ → TypeNode) → TypeSpan
only_type n f = record { size = n; from = f; items = None }

-- The outermost parentheses before `->` are the list of parameters.
abbrev pub parameter_nodes : TypeSpan → ℕ → TypeNodes
parameter_nodes a k = listed a.items
  where
    listed : Option (List (Span TypeNode)) → TypeNodes
    listed None = p.Cons (a.from k) p.Nil
    listed (Some items) = type_nodes (listed_from items (k + 1))

-- One type in parentheses is that type itself.
abbrev pub in_parentheses : List (Span TypeNode) → ℕ → TypeNode
in_parentheses (a ∷ []) k = a.from (k + 1)
in_parentheses items k = p.node k (p.Tuple (type_nodes (listed_from items (k + 1))))

abbrev pub sharing_size : Sharing → ℕ
sharing_size sharing.Local = 0
sharing_size sharing.Shared = 1
sharing_size sharing.SharedQuery = 2

-- a field, with what stands before it
abbrev pub FieldSpan : Type 0
FieldSpan = Span (TypeFields → TypeFields)

abbrev pub type_fields : List (TypeFields → TypeFields) → TypeFields
type_fields [] = p.NoFields
type_fields (f ∷ rest) = f (type_fields rest)

abbrev pub in_angles : Option (List TypeSpan) → ℕ
in_angles None = 0
in_angles (Some arguments) = 2 + listed_size (map type_span_of arguments)

abbrev pub angled : Option (List TypeSpan) → ℕ → List TypeNode
angled None k = []
angled (Some arguments) k = listed_from (map type_span_of arguments) (k + 1)

abbrev pub type_step : TypeExpression-F TypeSpan FieldSpan (Span TypeNode) FieldSpan FieldSpan → TypeSpan
type_step (T.Function s a b) =
    only_type (sharing_size s + a.size + 1 + b.size)
    (λ k. p.node k (p.Function s (parameter_nodes a (k + sharing_size s)) (b.from (k + sharing_size s + a.size + 1))))
type_step (T.Optional a) = only_type (1 + a.size) (λ k. p.node k (p.Optional (a.from (k + 1))))
type_step (T.Async a) = only_type (1 + a.size) (λ k. p.node k (p.Async (a.from (k + 1))))
type_step (T.Named x arguments) = only_type (1 + in_angles arguments) (λ k. p.node k (p.Use x.bytes (type_nodes (angled arguments (k + 1)))))
type_step (T.Parenthesized items) = record { size = 2 + listed_size items; from = in_parentheses items; items = Some items }
type_step (T.Array mutable a) = only_type (2 + flag mutable + a.size) (λ k. p.node k (p.Array mutable (a.from (k + 1 + flag mutable))))
type_step (T.Object word fields last) =
    only_type (flag word + 2 + listed_size fields + flag last) (λ k. p.node k (p.Object (type_fields (listed_from fields (k + flag word + 1)))))
type_step T.EmptyVariant = only_type 3 (λ k. p.node k (p.Variant p.NoFields))
type_step (T.Variant tags last) = only_type (2 + listed_size tags + flag last) (λ k. p.node k (p.Variant (type_fields (listed_from tags (k + 1)))))
type_step (T.Actor methods last) = only_type (3 + listed_size methods + flag last) (λ k. p.node k (p.Actor (type_fields (listed_from methods (k + 2)))))

abbrev pub type_field_step : T.TypeField-F TypeSpan FieldSpan (Span TypeNode) FieldSpan FieldSpan → FieldSpan
type_field_step x = record {
  size = flag x.mutable + 2 + x.annotation.size;
  from = λ k rest. p.Field x.mutable (name_at x.name (k + flag x.mutable)) (x.annotation.from (k + flag x.mutable + 2)) rest;
}

abbrev pub item_size : Option Name → ℕ
item_size None = 0
item_size (Some x) = 2

abbrev pub type_item_step : T.TypeItem-F TypeSpan FieldSpan (Span TypeNode) FieldSpan FieldSpan → Span TypeNode
type_item_step x = record { size = item_size x.name + x.annotation.size; from = λ k. x.annotation.from (k + item_size x.name) }

abbrev pub type_method_step : T.TypeMethod-F TypeSpan FieldSpan (Span TypeNode) FieldSpan FieldSpan → FieldSpan
type_method_step x = record { size = 2 + x.annotation.size; from = λ k rest. p.Field false (name_at x.name k) (x.annotation.from (k + 2)) rest }

abbrev pub tag_span : Name → Option TypeSpan → FieldSpan
tag_span x None = record { size = 2; from = λ k rest. p.EmptyTag (name_at x (k + 1)) rest }
tag_span x (Some a) = record { size = 3 + a.size; from = λ k rest. p.Field false (name_at x (k + 1)) (a.from (k + 3)) rest }

abbrev pub type_tag_step : T.TypeTag-F TypeSpan FieldSpan (Span TypeNode) FieldSpan FieldSpan → FieldSpan
type_tag_step x = tag_span x.name x.payload

unfoldable pub type_span : TypeExpression → TypeSpan
type_span = fold-TypeExpression TypeSpan FieldSpan (Span TypeNode) FieldSpan FieldSpan type_step type_field_step type_item_step type_method_step type_tag_step

unfoldable pub in_type_field : type_field.TypeField → FieldSpan
in_type_field = type_field.fold-TypeField TypeSpan FieldSpan (Span TypeNode) FieldSpan FieldSpan type_step type_field_step type_item_step type_method_step type_tag_step

unfoldable pub in_type_item : type_item.TypeItem → Span TypeNode
in_type_item = type_item.fold-TypeItem TypeSpan FieldSpan (Span TypeNode) FieldSpan FieldSpan type_step type_field_step type_item_step type_method_step type_tag_step

unfoldable pub in_type_method : type_method.TypeMethod → FieldSpan
in_type_method = type_method.fold-TypeMethod TypeSpan FieldSpan (Span TypeNode) FieldSpan FieldSpan type_step type_field_step type_item_step type_method_step type_tag_step

unfoldable pub in_type_tag : type_tag.TypeTag → FieldSpan
in_type_tag = type_tag.fold-TypeTag TypeSpan FieldSpan (Span TypeNode) FieldSpan FieldSpan type_step type_field_step type_item_step type_method_step type_tag_step

abbrev pub in_type : TypeExpression → Span TypeNode
in_type a = type_span_of (type_span a)

abbrev pub annotation : Option TypeExpression → Option (Span TypeNode)
annotation a = option_map in_type a

abbrev pub written_parameter : generic.TypeParameter → Span TypeParameter
written_parameter x = record { size = 1 + led 1 (annotation x.bound); from = λ k. record { name = name_at x.name k; bound = at_led (annotation x.bound) (k + 2) } }

abbrev pub generics_spans : Option (List generic.TypeParameter) → List (Span TypeParameter)
generics_spans None = []
generics_spans (Some xs) = map written_parameter xs

abbrev pub generics_size : Option (List generic.TypeParameter) → ℕ
generics_size None = 0
generics_size (Some xs) = 2 + listed_size (map written_parameter xs)
