-- Which form a type has, and its parts.
use Rattle.std.specs.Prelude.{ℕ, Bool, true, false, List, Option, Some, None}
use Rattle.mo_num.specs.declared.kind.Kind.{Kind}
use Rattle.mo_types.specs.declared.node.Node.{Node}
use Rattle.mo_types.specs.declared.node.Node.TheVariants as node
use Rattle.mo_types.specs.declared.node.Field.{Field}
use Rattle.mo_types.specs.declared.node.Sort.{Sort}

abbrev pub map_option : {A B : Type 0} → (A → B) → Option A → Option B
map_option f None = None
map_option f (Some a) = Some (f a)

module _ {A : Type 0} where
  abbrev pub number_of : Node A → Option Kind
  number_of (node.Number k) = Some k
  number_of _ = None

  abbrev pub is_bool : Node A → Bool
  is_bool node.Bool = true
  is_bool _ = false

  abbrev pub is_char : Node A → Bool
  is_char node.Char = true
  is_char _ = false

  abbrev pub is_text : Node A → Bool
  is_text node.Text = true
  is_text _ = false

  abbrev pub is_blob : Node A → Bool
  is_blob node.Blob = true
  is_blob _ = false

  abbrev pub is_principal : Node A → Bool
  is_principal node.Principal = true
  is_principal _ = false

  abbrev pub is_error : Node A → Bool
  is_error node.Error = true
  is_error _ = false

  abbrev pub is_null : Node A → Bool
  is_null node.Null = true
  is_null _ = false

  abbrev pub is_any : Node A → Bool
  is_any node.Any = true
  is_any _ = false

  abbrev pub is_bottom : Node A → Bool
  is_bottom node.Bottom = true
  is_bottom _ = false

  abbrev pub opt_of : Node A → Option A
  opt_of (node.Opt a) = Some a
  opt_of _ = None

  abbrev pub array_of : Node A → Option A
  array_of (node.Array a) = Some a
  array_of _ = None

  abbrev pub mut_array_of : Node A → Option A
  mut_array_of (node.MutArray a) = Some a
  mut_array_of _ = None

  abbrev pub tuple_of : Node A → Option (List A)
  tuple_of (node.Tuple ts) = Some ts
  tuple_of _ = None

  abbrev pub object_of : Node A → Option (List (Field A))
  object_of (node.Object fs) = Some fs
  object_of _ = None

  abbrev pub actor_of : Node A → Option (List (Field A))
  actor_of (node.Actor fs) = Some fs
  actor_of _ = None

  abbrev pub variant_of : Node A → Option (List (Field A))
  variant_of (node.Variant fs) = Some fs
  variant_of _ = None

  abbrev pub func_of : Node A → Option (Sort × List A × List A)
  func_of (node.Func s ps rs) = Some (s, ps, rs)
  func_of _ = None

  abbrev pub async_of : Node A → Option A
  async_of (node.Async a) = Some a
  async_of _ = None

  abbrev pub variable_of : Node A → Option ℕ
  variable_of (node.Variable v b) = Some v
  variable_of _ = None
