-- Heads with other parts.
use Rattle.std.specs.Prelude.{map}
use Rattle.mo_types.specs.declared.node.Node.{Node}
use Rattle.mo_types.specs.declared.node.Node.TheVariants as node
use Rattle.mo_types.specs.declared.node.Field.{Field}

module _ {A B : Type 0} (f : A → B) where
  abbrev pub on_field : Field A → Field B
  on_field m = record { label = m.label; mutable = m.mutable; part = f m.part }

  abbrev pub on_node : Node A → Node B
  on_node (node.Number k) = node.Number k
  on_node node.Bool = node.Bool
  on_node node.Char = node.Char
  on_node node.Text = node.Text
  on_node node.Blob = node.Blob
  on_node node.Principal = node.Principal
  on_node node.Error = node.Error
  on_node node.Null = node.Null
  on_node node.Any = node.Any
  on_node node.Bottom = node.Bottom
  on_node (node.Opt a) = node.Opt (f a)
  on_node (node.Array a) = node.Array (f a)
  on_node (node.MutArray a) = node.MutArray (f a)
  on_node (node.Tuple ts) = node.Tuple (map f ts)
  on_node (node.Object fs) = node.Object (map on_field fs)
  on_node (node.Actor fs) = node.Actor (map on_field fs)
  on_node (node.Variant fs) = node.Variant (map on_field fs)
  on_node (node.Func s ps rs) = node.Func s (map f ps) (map f rs)
  on_node (node.Async a) = node.Async (f a)
  on_node (node.Variable v b) = node.Variable v (f b)
