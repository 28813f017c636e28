-- Items, fields, methods, tags and type parameters, by what is made of their parts.
use Rattle.std.proofs.Common.{◌≡◌, ℕ, ◌+◌, false, Option, None, Some, Result, IfOk, option_map, ap, ◌∙◌, refl, arith}
use Rattle.mo_num.specs.declared.memory.Memory.{Memory}
use Rattle.mo_syntax.specs.declared.name.Name.{Name}
use Rattle.mo_syntax.specs.declared.types.TypeExpression.{TypeExpression}
use Rattle.mo_syntax.specs.declared.types.TypeField as written_field
use Rattle.mo_syntax.specs.declared.types.TypeItem.{TypeItem, fold_out-TypeItem}
use Rattle.mo_syntax.specs.declared.types.TypeMethod.{TypeMethod, fold_out-TypeMethod}
use Rattle.mo_syntax.specs.declared.types.TypeTag.{TypeTag, fold_out-TypeTag, map-TypeTag}
use Rattle.mo_syntax.specs.declared.types.TypeParameter as written_generic
use Rattle.typing_rules.specs.AbstractSyntax.{Named, TypeNode, TypeFields}
use Rattle.typing_rules.specs.AbstractSyntax as p
use Rattle.typing_rules.specs.Spans.{Span, flag, name_at}
use Rattle.typing_rules.specs.AbstractTypes.{FieldSpan, TypeSpan, item_size, tag_span, type_span, type_field_step, type_item_step, type_method_step, type_step, type_tag_step, in_type, in_type_field, in_type_item, in_type_method, in_type_tag}
use Rattle.abstract_types.specs.declared.names.PlacedName.{PlacedName}
use Rattle.abstract_types.specs.declared.types.TypeNode as value
use Rattle.abstract_types.specs.declared.types.TypeField.TheVariants as t
use Rattle.abstract_types.specs.TypeView.{named, type_field, type_node, parameter}
use Rattle.abstract_types.proofs.TypeViews as V
use Rattle.abstract_type_walk.specs.Stands.{Stands, MayStand}
use Rattle.abstract_type_walk.proofs.Spanning.{if_ok, as_stands}

item_is : (x : TypeItem) → in_type_item x ≡ type_item_step (record { name = x.name; annotation = type_span x.annotation })
unfolding type_span in_type_field in_type_item in_type_method in_type_tag
item_is x = fold_out-TypeItem TypeSpan FieldSpan (Span TypeNode) FieldSpan FieldSpan type_step type_field_step type_item_step type_method_step type_tag_step x

field_is : (x : written_field.TypeField) → in_type_field x ≡ type_field_step (record { mutable = x.mutable; name = x.name; annotation = type_span x.annotation })
unfolding type_span in_type_field in_type_item in_type_method in_type_tag
field_is x = written_field.fold_out-TypeField TypeSpan FieldSpan (Span TypeNode) FieldSpan FieldSpan type_step type_field_step type_item_step type_method_step type_tag_step x

method_is : (x : TypeMethod) → in_type_method x ≡ type_method_step (record { name = x.name; annotation = type_span x.annotation })
unfolding type_span in_type_field in_type_item in_type_method in_type_tag
method_is x = fold_out-TypeMethod TypeSpan FieldSpan (Span TypeNode) FieldSpan FieldSpan type_step type_field_step type_item_step type_method_step type_tag_step x

same_tag : (n : Name) (o : Option TypeExpression) → type_tag_step (map-TypeTag TypeExpression written_field.TypeField TypeItem TypeMethod TypeTag TypeSpan FieldSpan (Span TypeNode) FieldSpan FieldSpan type_span in_type_field in_type_item in_type_method in_type_tag (record { name = n; payload = o }))
    ≡ tag_span n (option_map type_span o)
same_tag n None = refl
same_tag n (Some a) = refl

tag_is : (x : TypeTag) → in_type_tag x ≡ tag_span x.name (option_map type_span x.payload)
unfolding type_span in_type_field in_type_item in_type_method in_type_tag
tag_is x = fold_out-TypeTag TypeSpan FieldSpan (Span TypeNode) FieldSpan FieldSpan type_step type_field_step type_item_step type_method_step type_tag_step x ∙ same_tag x.name x.payload

pub item_made : (x : TypeItem) (size at place : ℕ) (r : Result (value.TypeNode × ℕ) Memory) → item_size x.name ≡ size → place ≡ at
    → IfOk r (Stands type_node (in_type x.annotation) (place + size)) → IfOk r (Stands type_node (in_type_item x) at)
item_made x size at place r s q h = if_ok r (Stands type_node (in_type x.annotation) (place + size)) (Stands type_node (in_type_item x) at) h (λ made k.
    let n : made.1 ≡ place + size + (in_type x.annotation).size = k.next in
    let o : place + size ≡ at + item_size x.name = omega arith in
    as_stands type_node (type_item_step (record { name = x.name; annotation = type_span x.annotation })) (in_type_item x) at made (item_is x)
    (record { part = k.part ∙ ap (in_type x.annotation).from o; next = omega arith }))

pub field_made : (x : written_field.TypeField) (at start count place last : ℕ) (name : PlacedName) (of : value.TypeNode) → start ≡ at → count ≡ flag x.mutable → place ≡ start + count
    → named name ≡ name_at x.name place → Stands type_node (in_type x.annotation) (place + 2) (of, last) → Stands type_field (in_type_field x) at (t.Field x.mutable name of, last)
field_made x at start count place last name of s c q n h =
    let o : place ≡ at + flag x.mutable = omega arith in
    let k : last ≡ place + 2 + (in_type x.annotation).size = h.next in
    as_stands type_field (type_field_step (record { mutable = x.mutable; name = x.name; annotation = type_span x.annotation })) (in_type_field x) at (t.Field x.mutable name of, last) (field_is x)
    (record {
      part = V.seen_Field x.mutable name of ∙ ap {B = TypeFields → TypeFields} (λ (y : Named) (rest : TypeFields). p.Field x.mutable y (type_node of) rest) (n ∙ ap (name_at x.name) o)
          ∙ ap {B = TypeFields → TypeFields} (λ (z : TypeNode) (rest : TypeFields). p.Field x.mutable (name_at x.name (at + flag x.mutable)) z rest) (h.part ∙ ap (λ k. (in_type x.annotation).from (k + 2)) o);
      next = omega arith;
    })

pub method_made : (x : TypeMethod) (at place last : ℕ) (name : PlacedName) (of : value.TypeNode) → place ≡ at → named name ≡ name_at x.name place
    → Stands type_node (in_type x.annotation) (place + 2) (of, last) → Stands type_field (in_type_method x) at (t.Field false name of, last)
method_made x at place last name of o n h =
    let k : last ≡ place + 2 + (in_type x.annotation).size = h.next in
    as_stands type_field (type_method_step (record { name = x.name; annotation = type_span x.annotation })) (in_type_method x) at (t.Field false name of, last) (method_is x)
    (record {
      part = V.seen_Field false name of ∙ ap {B = TypeFields → TypeFields} (λ (y : Named) (rest : TypeFields). p.Field false y (type_node of) rest) (n ∙ ap (name_at x.name) o)
          ∙ ap {B = TypeFields → TypeFields} (λ (z : TypeNode) (rest : TypeFields). p.Field false (name_at x.name at) z rest) (h.part ∙ ap (λ k. (in_type x.annotation).from (k + 2)) o);
      next = omega arith;
    })

pub empty_tag_made : (x : TypeTag) (at start place last : ℕ) (name : PlacedName) → x.payload ≡ None → start ≡ at → place ≡ start + 1 → named name ≡ name_at x.name place
    → last ≡ place + 1 → Stands type_field (in_type_tag x) at (t.EmptyTag name, last)
empty_tag_made x at start place last name e s q n l =
    let o : place ≡ at + 1 = omega arith in
    as_stands type_field (tag_span x.name None) (in_type_tag x) at (t.EmptyTag name, last) (tag_is x ∙ ap (λ (z : Option TypeExpression). tag_span x.name (option_map type_span z)) e)
    (record {
      part = V.seen_EmptyTag name ∙ ap {B = TypeFields → TypeFields} (λ (y : Named) (rest : TypeFields). p.EmptyTag y rest) (n ∙ ap (name_at x.name) o);
      next = omega arith;
    })

pub tag_made : (x : TypeTag) (a : TypeExpression) (at start place last : ℕ) (name : PlacedName) (of : value.TypeNode) → x.payload ≡ Some a → start ≡ at → place ≡ start + 1
    → named name ≡ name_at x.name place → Stands type_node (in_type a) (place + 2) (of, last) → Stands type_field (in_type_tag x) at (t.Field false name of, last)
tag_made x a at start place last name of e s q n h =
    let o : place ≡ at + 1 = omega arith in
    let u : place + 2 ≡ at + 3 = omega arith in
    let k : last ≡ place + 2 + (in_type a).size = h.next in
    as_stands type_field (tag_span x.name (Some (type_span a))) (in_type_tag x) at (t.Field false name of, last) (tag_is x ∙ ap (λ (z : Option TypeExpression). tag_span x.name (option_map type_span z)) e)
    (record {
      part = V.seen_Field false name of ∙ ap {B = TypeFields → TypeFields} (λ (y : Named) (rest : TypeFields). p.Field false y (type_node of) rest) (n ∙ ap (name_at x.name) o)
          ∙ ap {B = TypeFields → TypeFields} (λ (z : TypeNode) (rest : TypeFields). p.Field false (name_at x.name (at + 1)) z rest) (h.part ∙ ap (in_type a).from u);
      next = omega arith;
    })
