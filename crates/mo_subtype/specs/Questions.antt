-- The questions that a question leads to: none at all where the heads rule it out.
use Rattle.std.specs.Prelude.{ℕ, Bool, true, false, ◌&&◌, ◌||◌, List, [], ◌∷◌, ◌++◌, Option, Some, None, nat_eq, if◌then◌else◌}
use Rattle.mo_num.specs.declared.kind.Kind.{Kind}
use Rattle.mo_types.specs.declared.node.Node.{Node}
use Rattle.mo_types.specs.declared.node.Node.TheVariants as node
use Rattle.mo_types.specs.declared.node.Field.{Field}
use Rattle.mo_types.specs.declared.node.Sort.{Sort}
use Rattle.mo_types.specs.Layout.{kind_number, sort_number}
use Rattle.mo_types.specs.Heads.{number_of, is_bool, is_char, is_text, is_blob, is_principal, is_error, is_null, is_any, opt_of, array_of, mut_array_of, tuple_of, object_of, actor_of, variant_of, func_of, async_of, variable_of}
use Rattle.mo_types.specs.Sub.{find}
use Rattle.mo_subtype.specs.declared.pairs.Pair.{Pair}

abbrev pub with_some : {X Y : Type 0} → Option X → (X → Option Y) → Option Y
with_some None f = None
with_some (Some x) f = f x

abbrev pub is_some_of : {X : Type 0} → Option X → Bool
is_some_of None = false
is_some_of (Some x) = true

abbrev pub number_below : Kind → Kind → Bool
number_below k j = nat_eq (kind_number k) (kind_number j) || (nat_eq (kind_number k) 0 && nat_eq (kind_number j) 1)

module _ {A : Type 0} where
  abbrev pub pair : A → A → Pair A
  pair low high = record { low = low; high = high }

  abbrev pub join : Option (List (Pair A)) → Option (List (Pair A)) → Option (List (Pair A))
  join None b = None
  join (Some a) None = None
  join (Some a) (Some b) = Some (a ++ b)

  abbrev pub when : Bool → Option (List (Pair A))
  when true = Some []
  when false = None

  abbrev pub one : A → A → Option (List (Pair A))
  one a b = Some (pair a b ∷ [])

  abbrev pub both_ways : A → A → Option (List (Pair A))
  both_ways a b = Some (pair a b ∷ pair b a ∷ [])

  abbrev pub parts_questions : List A → List A → Option (List (Pair A))
  parts_questions [] [] = Some []
  parts_questions (a ∷ ts) (b ∷ bs) = join (one a b) (parts_questions ts bs)
  parts_questions _ _ = None

  abbrev pub field_questions : Field A → Field A → Bool → Bool → Option (List (Pair A))
  field_questions f g true true = both_ways f.part g.part
  field_questions f g false false = one f.part g.part
  field_questions f g _ _ = None

  abbrev pub found_questions : List (Field A) → Field A → Option (List (Pair A))
  found_questions fs g = with_some (find g.label fs) (λ f. field_questions f g f.mutable g.mutable)

  abbrev pub fields_questions : List (Field A) → List (Field A) → Option (List (Pair A))
  fields_questions fs [] = Some []
  fields_questions fs (g ∷ gs) = join (found_questions fs g) (fields_questions fs gs)

  abbrev pub tag_questions : List (Field A) → Field A → Option (List (Pair A))
  tag_questions gs f = with_some (find f.label gs) (λ g. one f.part g.part)

  abbrev pub tags_questions : List (Field A) → List (Field A) → Option (List (Pair A))
  tags_questions [] gs = Some []
  tags_questions (f ∷ fs) gs = join (tag_questions gs f) (tags_questions fs gs)

  abbrev pub func_questions : Sort → List A → List A → Sort × List A × List A → Option (List (Pair A))
  func_questions s ps rs q = join (when (nat_eq (sort_number s) (sort_number q.0))) (join (parts_questions q.1 ps) (parts_questions rs q.2))

  abbrev pub variable_questions : A → A → Option ℕ → ℕ → Option (List (Pair A))
  variable_questions b u None v = one b u
  variable_questions b u (Some w) v = if nat_eq v w then Some [] else one b u

  abbrev pub head_questions : A → Node A → Node A → Option (List (Pair A))
  head_questions u (node.Number k) y = with_some (number_of y) (λ j. when (number_below k j))
  head_questions u node.Bool y = when (is_bool y)
  head_questions u node.Char y = when (is_char y)
  head_questions u node.Text y = when (is_text y)
  head_questions u node.Blob y = when (is_blob y)
  head_questions u node.Principal y = when (is_principal y)
  head_questions u node.Error y = when (is_error y)
  head_questions u node.Null y = when (is_null y || is_some_of (opt_of y))
  head_questions u node.Any y = None
  head_questions u node.Bottom y = Some []
  head_questions u (node.Opt a) y = with_some (opt_of y) (λ b. one a b)
  head_questions u (node.Array a) y = with_some (array_of y) (λ b. one a b)
  head_questions u (node.MutArray a) y = with_some (mut_array_of y) (λ b. both_ways a b)
  head_questions u (node.Tuple ts) y = with_some (tuple_of y) (parts_questions ts)
  head_questions u (node.Object fs) y = with_some (object_of y) (fields_questions fs)
  head_questions u (node.Actor fs) y = with_some (actor_of y) (fields_questions fs)
  head_questions u (node.Variant fs) y = with_some (variant_of y) (tags_questions fs)
  head_questions u (node.Func s ps rs) y = with_some (func_of y) (func_questions s ps rs)
  head_questions u (node.Async a) y = with_some (async_of y) (λ b. one a b)
  head_questions u (node.Variable v b) y = variable_questions b u (variable_of y) v

  unfoldable pub questions : A → Node A → Node A → Option (List (Pair A))
  questions u x y = if is_any y then Some [] else head_questions u x y

  -- the questions of a pair, in any collection of types with heads
  abbrev pub asked : (A → Node A) → Pair A → Option (List (Pair A))
  asked head q = questions q.high (head q.low) (head q.high)
