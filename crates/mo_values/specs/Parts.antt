-- Which leaves are values of a type, and when two of them are the same.
use Rattle.std.specs.Prelude.{ℕ, List, length, Bool, true, false, not, ◌&&◌, ◌||◌, nat_eq, nat_lt, nat_le, int_le, ℤ}
use Rattle.std.specs.Str.{is_utf8, bytes_eq}
use Rattle.std.specs.Ordering.{int_eq}
use Rattle.mo_num.specs.declared.kind.Kind.{Kind}
use Rattle.mo_num.specs.Kinds.{least, greatest}
use Rattle.mo_types.specs.declared.datum.Datum.{Datum}
use Rattle.mo_types.specs.declared.datum.Datum.TheVariants as part
use Rattle.mo_types.specs.declared.node.Node.{Node}
use Rattle.mo_types.specs.declared.node.Node.TheVariants as node
use Rattle.mo_types.specs.declared.node.Sort.{Sort}
use Rattle.mo_types.specs.declared.node.Sort.TheVariants as sort
use Rattle.mo_types.specs.Values.{is_method_name}

abbrev pub is_in_range : Kind → ℤ → Bool
is_in_range kind n = int_le (least kind) n && int_le n (greatest kind)

-- a Unicode scalar value
abbrev pub is_scalar : ℕ → Bool
is_scalar c = nat_lt c 55296 || (nat_le 57344 c && nat_lt c 1114112)

abbrev pub is_principal : List ℕ → Bool
is_principal bytes = nat_le (length bytes) 29

abbrev pub is_shared : Sort → Bool
is_shared sort.Local = false
is_shared sort.Shared = true
is_shared sort.Query = true

-- a value without parts, of a type with this head
abbrev pub is_leaf_of : {A : Type 0} → Node A → Datum → Bool
is_leaf_of (node.Number k) (part.Number n) = is_in_range k n
is_leaf_of node.Bool (part.Flag b) = true
is_leaf_of node.Char (part.Char c) = is_scalar c
is_leaf_of node.Text (part.Text t) = is_utf8 t
is_leaf_of node.Blob (part.Blob t) = true
is_leaf_of node.Principal (part.Principal p) = is_principal p
is_leaf_of node.Null part.Null = true
is_leaf_of (node.Opt a) part.Null = true
is_leaf_of (node.Actor fs) (part.Actor p) = is_principal p
is_leaf_of (node.Func s ps rs) (part.Method p name) = is_shared s && is_principal p && is_method_name name
is_leaf_of _ _ = false

abbrev pub same_flag : Bool → Bool → Bool
same_flag true b = b
same_flag false b = not b

abbrev pub same_part : Datum → Datum → Bool
same_part part.Null part.Null = true
same_part (part.Flag a) (part.Flag b) = same_flag a b
same_part (part.Number m) (part.Number n) = int_eq m n
same_part (part.Char c) (part.Char d) = nat_eq c d
same_part (part.Text t) (part.Text u) = bytes_eq t u
same_part (part.Blob t) (part.Blob u) = bytes_eq t u
same_part (part.Principal p) (part.Principal q) = bytes_eq p q
same_part (part.Actor p) (part.Actor q) = bytes_eq p q
same_part (part.Method p m) (part.Method q n) = bytes_eq p q && bytes_eq m n
same_part part.Present part.Present = true
same_part (part.Many m) (part.Many n) = nat_eq m n
same_part (part.Record m) (part.Record n) = nat_eq m n
same_part (part.Tag i) (part.Tag j) = nat_eq i j
same_part _ _ = false
