-- A node as a form, a detail and its parts, by which nodes are compared, hashed and counted.
use Rattle.std.specs.Prelude.{ℕ, ◌+◌, ◌*◌, ◌%◌, Bool, ◌&&◌, List, [], ◌∷◌, nat_eq, length, fold}
use Rattle.std.specs.Bool.{beq}
use Rattle.std.specs.Cmp.Lexicographic.{pointwise}
use Rattle.mo_num.specs.declared.kind.Kind.{Kind}
use Rattle.mo_num.specs.declared.kind.Kind.TheVariants as kind
use Rattle.mo_types.specs.declared.node.Node.{Node}
use Rattle.mo_types.specs.declared.node.Node.TheVariants as node
use Rattle.mo_types.specs.declared.node.Field.{Field}
use Rattle.mo_types.specs.declared.node.TypeId.{TypeId}
use Rattle.mo_types.specs.declared.node.Sort.{Sort}
use Rattle.mo_types.specs.declared.node.Sort.TheVariants as sort
use Rattle.mo_types.specs.Label.{label_id}

pub record Layout (A : Type 0) : Type 0 where
  -- which form
  pub form : ℕ
  -- the kind of a number, the sort of a function, the number of a type parameter
  pub detail : ℕ
  pub first : List A
  pub second : List A
  pub fields : List (Field A)

abbrev pub kind_number : Kind → ℕ
kind_number kind.Nat = 0
kind_number kind.Int = 1
kind_number kind.Nat8 = 2
kind_number kind.Nat16 = 3
kind_number kind.Nat32 = 4
kind_number kind.Nat64 = 5
kind_number kind.Int8 = 6
kind_number kind.Int16 = 7
kind_number kind.Int32 = 8
kind_number kind.Int64 = 9

abbrev pub sort_number : Sort → ℕ
sort_number sort.Local = 0
sort_number sort.Shared = 1
sort_number sort.Query = 2

module _ {A : Type 0} where
  abbrev pub plain : ℕ → Layout A
  plain form = record { form = form; detail = 0; first = []; second = []; fields = [] }

  abbrev pub with_part : ℕ → A → Layout A
  with_part form part = record { form = form; detail = 0; first = part ∷ []; second = []; fields = [] }

  abbrev pub with_fields : ℕ → List (Field A) → Layout A
  with_fields form fields = record { form = form; detail = 0; first = []; second = []; fields = fields }

  unfoldable pub layout : Node A → Layout A
  layout (node.Number k) = record { form = 0; detail = kind_number k; first = []; second = []; fields = [] }
  layout node.Bool = plain 1
  layout node.Char = plain 2
  layout node.Text = plain 3
  layout node.Blob = plain 4
  layout node.Principal = plain 5
  layout node.Error = plain 6
  layout node.Null = plain 7
  layout node.Any = plain 8
  layout node.Bottom = plain 9
  layout (node.Opt a) = with_part 10 a
  layout (node.Array a) = with_part 11 a
  layout (node.MutArray a) = with_part 12 a
  layout (node.Tuple ts) = record { form = 13; detail = 0; first = ts; second = []; fields = [] }
  layout (node.Object fs) = with_fields 14 fs
  layout (node.Actor fs) = with_fields 15 fs
  layout (node.Variant fs) = with_fields 16 fs
  layout (node.Func s ps rs) = record { form = 17; detail = sort_number s; first = ps; second = rs; fields = [] }
  layout (node.Async a) = with_part 18 a
  layout (node.Variable v b) = record { form = 19; detail = v; first = b ∷ []; second = []; fields = [] }

  -- the fields and parts of a node
  abbrev pub laid_entries : Layout A → ℕ
  laid_entries l = length l.first + length l.second + length l.fields

  abbrev pub entries : Node A → ℕ
  entries n = laid_entries (layout n)

abbrev pub same_id : TypeId → TypeId → Bool
same_id a b = nat_eq a.index b.index

abbrev pub same_field : Field TypeId → Field TypeId → Bool
same_field f g = pointwise nat_eq f.label g.label && (beq f.mutable g.mutable && same_id f.part g.part)

abbrev pub same_layout : Layout TypeId → Layout TypeId → Bool
same_layout a b = nat_eq a.form b.form && (nat_eq a.detail b.detail && (pointwise same_id a.first b.first && (pointwise same_id a.second b.second && pointwise same_field a.fields b.fields)))

-- whether two nodes are the same
abbrev pub same_node : Node TypeId → Node TypeId → Bool
same_node a b = same_layout (layout a) (layout b)

-- numbers mixed into one, by which nodes are found
abbrev pub mix : ℕ → ℕ → ℕ
mix digest x = (digest * 31 + x) % 4294967296

abbrev pub mix_id : ℕ → TypeId → ℕ
mix_id digest id = mix digest id.index

abbrev pub mix_field : ℕ → Field TypeId → ℕ
mix_field digest field = mix (mix digest (label_id field.label)) field.part.index

abbrev pub digest_of : Layout TypeId → ℕ
digest_of l = fold mix_field (fold mix_id (fold mix_id (mix l.form l.detail) l.first) l.second) l.fields

unfoldable pub digest : Node TypeId → ℕ
digest n = digest_of (layout n)
