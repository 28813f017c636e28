-- Heads with the types of a graph in the place of terms.
use Rattle.std.specs.Prelude.{List, [], ◌∷◌, length, take, drop}
use Rattle.mo_types.specs.declared.node.Field.{Field}
use Rattle.mo_types.specs.declared.node.Node.{Node}
use Rattle.mo_types.specs.declared.node.Node.TheVariants as node
use Rattle.mo_types.specs.declared.node.TypeId.{TypeId}
use Rattle.type_terms.specs.declared.form.TermId.{TermId}

abbrev pub fields_typed : List (Field TermId) → List TypeId → List (Field TypeId)
fields_typed [] ids = []
fields_typed (f ∷ fs) [] = []
fields_typed (f ∷ fs) (i ∷ ids) = record { label = f.label; mutable = f.mutable; part = i } ∷ fields_typed fs ids

abbrev pub with_first : List TypeId → (TypeId → Node TypeId) → Node TypeId
with_first [] f = node.Bottom
with_first (i ∷ ids) f = f i

-- the head with these in the place of its parts, in their order
abbrev pub typed_node : Node TermId → List TypeId → Node TypeId
typed_node (node.Number k) ids = node.Number k
typed_node node.Bool ids = node.Bool
typed_node node.Char ids = node.Char
typed_node node.Text ids = node.Text
typed_node node.Blob ids = node.Blob
typed_node node.Principal ids = node.Principal
typed_node node.Error ids = node.Error
typed_node node.Null ids = node.Null
typed_node node.Any ids = node.Any
typed_node node.Bottom ids = node.Bottom
typed_node (node.Opt a) ids = with_first ids (λ i. node.Opt i)
typed_node (node.Array a) ids = with_first ids (λ i. node.Array i)
typed_node (node.MutArray a) ids = with_first ids (λ i. node.MutArray i)
typed_node (node.Tuple ts) ids = node.Tuple ids
typed_node (node.Object fs) ids = node.Object (fields_typed fs ids)
typed_node (node.Actor fs) ids = node.Actor (fields_typed fs ids)
typed_node (node.Variant fs) ids = node.Variant (fields_typed fs ids)
typed_node (node.Func s ps rs) ids = node.Func s (take (length ps) ids) (drop (length ps) ids)
typed_node (node.Async a) ids = with_first ids (λ i. node.Async i)
typed_node (node.Variable v b) ids = with_first ids (λ i. node.Variable v i)
