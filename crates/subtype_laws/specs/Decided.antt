-- Subtyping to a depth, computed rule by rule (Motoko language manual, section "Subtyping").
use Rattle.std.specs.Prelude.{ℕ, zero, suc, Bool, true, false, ◌&&◌, ◌||◌, List, [], ◌∷◌, Option, Some, None, nat_eq}
use Rattle.mo_num.specs.declared.kind.Kind.{Kind}
use Rattle.mo_types.specs.declared.node.Node.{Node}
use Rattle.mo_types.specs.declared.node.Node.TheVariants as node
use Rattle.mo_types.specs.declared.node.Field.{Field}
use Rattle.mo_types.specs.declared.node.Sort.{Sort}
use Rattle.mo_types.specs.Layout.{kind_number, sort_number}
use Rattle.mo_types.specs.Heads.{number_of, is_bool, is_char, is_text, is_blob, is_principal, is_error, is_null, is_any, opt_of, array_of, mut_array_of, tuple_of, object_of, actor_of, variant_of, func_of, async_of, variable_of}
use Rattle.mo_types.specs.Sub.{find}

abbrev pub some_holds : {X : Type 0} → Option X → (X → Bool) → Bool
some_holds None p = false
some_holds (Some x) p = p x

abbrev pub all_hold : {X : Type 0} → (X → Bool) → List X → Bool
all_hold p [] = true
all_hold p (x ∷ xs) = p x && all_hold p xs

abbrev pub same_kind : Kind → Kind → Bool
same_kind k j = nat_eq (kind_number k) (kind_number j)

-- the numbers of Nat and Int are 0 and 1
abbrev pub kind_below : Kind → Kind → Bool
kind_below k j = same_kind k j || (nat_eq (kind_number k) 0 && nat_eq (kind_number j) 1)

module _ {A : Type 0} (below : A → A → Bool) where
  abbrev pub parts_below : List A → List A → Bool
  parts_below [] [] = true
  parts_below (t ∷ ts) (u ∷ us) = below t u && parts_below ts us
  parts_below _ _ = false

  abbrev pub field_fits : Field A → Field A → Bool → Bool → Bool
  field_fits f g true true = below f.part g.part && below g.part f.part
  field_fits f g false false = below f.part g.part
  field_fits f g _ _ = false

  abbrev pub fields_below : List (Field A) → List (Field A) → Bool
  fields_below fs gs = all_hold (λ g. some_holds (find g.label fs) (λ f. field_fits f g f.mutable g.mutable)) gs

  abbrev pub tags_below : List (Field A) → List (Field A) → Bool
  tags_below fs gs = all_hold (λ f. some_holds (find f.label gs) (λ g. below f.part g.part)) fs

  abbrev pub function_below : Sort → List A → List A → Sort × List A × List A → Bool
  function_below s ps rs q = nat_eq (sort_number s) (sort_number q.0) && (parts_below q.1 ps && parts_below rs q.2)

  abbrev pub variable_below : A → A → Option ℕ → ℕ → Bool
  variable_below b u None v = below b u
  variable_below b u (Some w) v = nat_eq v w || below b u

  abbrev pub head_below : A → Node A → Node A → Bool
  head_below u (node.Number k) y = some_holds (number_of y) (kind_below k)
  head_below u node.Bool y = is_bool y
  head_below u node.Char y = is_char y
  head_below u node.Text y = is_text y
  head_below u node.Blob y = is_blob y
  head_below u node.Principal y = is_principal y
  head_below u node.Error y = is_error y
  head_below u node.Null y = is_null y || some_holds (opt_of y) (λ b. true)
  head_below u node.Any y = false
  head_below u node.Bottom y = true
  head_below u (node.Opt a) y = some_holds (opt_of y) (λ b. below a b)
  head_below u (node.Array a) y = some_holds (array_of y) (λ b. below a b)
  head_below u (node.MutArray a) y = some_holds (mut_array_of y) (λ b. below a b && below b a)
  head_below u (node.Tuple ts) y = some_holds (tuple_of y) (parts_below ts)
  head_below u (node.Object fs) y = some_holds (object_of y) (fields_below fs)
  head_below u (node.Actor fs) y = some_holds (actor_of y) (fields_below fs)
  head_below u (node.Variant fs) y = some_holds (variant_of y) (tags_below fs)
  head_below u (node.Func s ps rs) y = some_holds (func_of y) (function_below s ps rs)
  head_below u (node.Async a) y = some_holds (async_of y) (λ b. below a b)
  head_below u (node.Variable v b) y = variable_below b u (variable_of y) v

  abbrev pub node_below : A → Node A → Node A → Bool
  node_below u x y = is_any y || head_below u x y

-- whether t is below u to depth n
abbrev pub is_below : {A : Type 0} → (A → Node A) → ℕ → A → A → Bool
is_below head zero t u = true
is_below head (suc n) t u = node_below (is_below head n) u (head t) (head u)
