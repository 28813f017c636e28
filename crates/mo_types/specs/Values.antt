-- Values of shareable types as trees, and which of them a type has. A value is plain: at an object type it has the
-- fields of that type alone, and at Any it is ().
use Rattle.std.specs.Prelude.{◌≡◌, ◌≢◌, ℕ, zero, suc, ◌<◌, ◌≤◌, ◌⊎◌, Bool, true, false, ◌&&◌, List, [], ◌∷◌, ◌++◌, length, map, Option, Some, None, slice_get, nat_lt, if◌then◌else◌}
use Rattle.std.specs.List.{list_all}
use Rattle.std.specs.Str.{is_utf8}
use Rattle.mo_num.specs.Kinds.{InRange}
use Rattle.mo_types.specs.declared.datum.Datum.{Datum}
use Rattle.mo_types.specs.declared.datum.Datum.TheVariants as part
use Rattle.mo_types.specs.declared.node.Node.{Node}
use Rattle.mo_types.specs.declared.node.Node.TheVariants as node
use Rattle.mo_types.specs.declared.node.Field.{Field}
use Rattle.mo_types.specs.declared.node.Sort.TheVariants as sort
use Rattle.mo_types.specs.Label.{label_id}

-- A list of values: the first one's outermost part, the values inside it, and the other values.
pub data Values : Type 0 where
  Nil : Values
  Value : Datum → Values → Values → Values

-- each part before the parts inside it
abbrev pub flat : Values → List Datum
flat Nil = []
flat (Value p inner others) = p ∷ (flat inner ++ flat others)

-- how many values are inside a part
abbrev pub arity : Datum → ℕ
arity part.Null = 0
arity (part.Flag b) = 0
arity (part.Number n) = 0
arity (part.Char c) = 0
arity (part.Text t) = 0
arity (part.Blob t) = 0
arity (part.Principal p) = 0
arity (part.Actor p) = 0
arity (part.Method p m) = 0
arity part.Present = 1
arity (part.Many n) = n
arity (part.Record n) = n
arity (part.Tag i) = 1

abbrev pub firsts : ℕ → Values → Values
firsts zero v = Nil
firsts (suc n) Nil = Nil
firsts (suc n) (Value p inner others) = Value p inner (firsts n others)

abbrev pub after : ℕ → Values → Values
after zero v = v
after (suc n) Nil = Nil
after (suc n) (Value p inner others) = after n others

-- the values whose parts these are
abbrev pub tree : List Datum → Values
tree [] = Nil
tree (p ∷ ps) = Value p (firsts (arity p) (tree ps)) (after (arity p) (tree ps))

module _ {A : Type 0} where
  -- a field among others, in the rising order of the numbers of the labels
  abbrev pub insert_field : Field A → List (Field A) → List (Field A)
  insert_field f [] = f ∷ []
  insert_field f (g ∷ gs) = if nat_lt (label_id f.label) (label_id g.label) then f ∷ g ∷ gs else g ∷ insert_field f gs

  abbrev pub by_label : List (Field A) → List (Field A)
  by_label [] = []
  by_label (f ∷ fs) = insert_field f (by_label fs)

  abbrev pub types_of : List (Field A) → List A
  types_of fs = map (λ f. f.part) fs

  abbrev pub copies : ℕ → A → List A
  copies zero a = []
  copies (suc n) a = a ∷ copies n a

  abbrev pub one_type : Option (Field A) → List A
  one_type None = []
  one_type (Some f) = f.part ∷ []

  -- the types of the values inside a part of a type
  abbrev pub inside : Node A → Datum → List A
  inside (node.Opt a) part.Present = a ∷ []
  inside (node.Array a) (part.Many n) = copies n a
  inside (node.Tuple ts) (part.Record n) = ts
  inside (node.Object fs) (part.Record n) = types_of (by_label fs)
  inside (node.Variant fs) (part.Tag i) = one_type (slice_get (by_label fs) i)
  inside _ _ = []

-- a Unicode scalar value
abbrev pub IsScalar : ℕ → Type 0
IsScalar c = (c < 55296) ⊎ ((57344 ≤ c) × (c < 1114112))

-- a method's name: not empty, and of bytes from 33 to 126
abbrev pub is_method_name : List ℕ → Bool
is_method_name [] = false
is_method_name (b ∷ bs) = list_all (λ c. nat_lt 32 c && nat_lt c 127) (b ∷ bs)

-- an outermost part of a value of a type with this head
abbrev pub IsPartOf : {A : Type 0} → Node A → Datum → Type 0
IsPartOf (node.Number k) (part.Number n) = InRange k n
IsPartOf node.Bool (part.Flag b) = Unit {0}
IsPartOf node.Char (part.Char c) = IsScalar c
IsPartOf node.Text (part.Text t) = is_utf8 t ≡ true
IsPartOf node.Blob (part.Blob t) = Unit {0}
IsPartOf node.Principal (part.Principal p) = length p ≤ 29
IsPartOf node.Null part.Null = Unit {0}
IsPartOf node.Any (part.Record n) = n ≡ 0
IsPartOf (node.Opt a) part.Null = Unit {0}
IsPartOf (node.Opt a) part.Present = Unit {0}
IsPartOf (node.Array a) (part.Many n) = Unit {0}
IsPartOf (node.Tuple ts) (part.Record n) = n ≡ length ts
IsPartOf (node.Object fs) (part.Record n) = n ≡ length fs
IsPartOf (node.Actor fs) (part.Actor p) = length p ≤ 29
IsPartOf (node.Variant fs) (part.Tag i) = i < length fs
IsPartOf (node.Func s ps rs) (part.Method p name) = (s ≢ sort.Local) × (length p ≤ 29) × (is_method_name name ≡ true)
IsPartOf _ _ = ⊥

-- values of these types, in order
abbrev pub HaveTypes : {A : Type 0} → (A → Node A) → List A → Values → Type 0
HaveTypes head [] Nil = Unit {0}
HaveTypes head (t ∷ ts) (Value p inner others) = IsPartOf (head t) p × HaveTypes head (inside (head t) p) inner × HaveTypes head ts others
HaveTypes head _ _ = ⊥
