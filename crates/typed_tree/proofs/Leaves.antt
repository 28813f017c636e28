-- Values of types without parts are leaves, which pass the tests of operations.
use Rattle.std.proofs.Common.{◌≡◌, ◌≢◌, ℕ, Bool, true, false, List, [], length, Some, arith, inl, inr, refl, sym, ap, ap₂, ◌∙◌, subst, ℤ, ◌≤ℤ◌}
use Rattle.std.specs.Prelude.{◌⊎◌, ◌<◌, ◌≤◌, ◌&&◌, int_le, nat_lt, nat_le}
use Rattle.std.specs.Str.{is_utf8}
use Rattle.std.proofs.lemmas.Bool.{and_from, or_left, or_right, lt-ltb, le-leb}
use Rattle.std.proofs.lemmas.Int.{ints}
use Rattle.mo_num.specs.declared.kind.Kind.{Kind}
use Rattle.mo_num.specs.Kinds.{InRange, least, greatest}
use Rattle.mo_types.specs.declared.datum.Datum.{Datum}
use Rattle.mo_types.specs.declared.datum.Datum.TheVariants as part
use Rattle.mo_types.specs.declared.node.Field.{Field}
use Rattle.mo_types.specs.declared.node.Node.{Node}
use Rattle.mo_types.specs.declared.node.Node.TheVariants as node
use Rattle.mo_types.specs.declared.node.Sort.{Sort}
use Rattle.mo_types.specs.declared.node.Sort.TheVariants as sort
use Rattle.mo_types.specs.declared.node.TypeId.{TypeId}
use Rattle.mo_types.specs.Heads.{is_error, opt_of, array_of, mut_array_of, tuple_of, object_of, variant_of, async_of}
use Rattle.mo_types.specs.Sub.{AtSome, IsSomething}
use Rattle.mo_types.specs.Values.{IsPartOf, is_method_name}
use Rattle.mo_values.specs.declared.error_code.ErrorCode.{ErrorCode}
use Rattle.mo_values.specs.declared.operation.Scalar.{Scalar}
use Rattle.mo_values.specs.declared.operation.Scalar.TheVariants as scalar
use Rattle.mo_values.specs.Messages.{count, only_if}
use Rattle.mo_values.specs.Parts.{is_leaf_of, is_shared, is_principal, is_scalar}
use Rattle.mo_values.specs.Shapes.{Bytes, Head, Leaf, Present, Tuple, Array, Object, Tag, Error, Cell, Future, Shape, Shapes, Made, Function, NoShape, AShape, leaf}
use Rattle.mo_values.specs.Views.{scalar_type, leaf_if, leaf_of, scalar_of, number_of, number_in, flag_of, flag_in, text_of, text_in, actor_of, actor_in}
use Rattle.typed_tree.specs.Has.{IsLeafPart, IsCode, Judgements, wants, RootOf, Fits, FunctionFits, Has, HasEach}
use Rattle.typed_tree.specs.Wants.{Of}

-- a type without parts, but for Error
abbrev pub is_plain : Node TypeId → Bool
is_plain (node.Number k) = true
is_plain node.Bool = true
is_plain node.Char = true
is_plain node.Text = true
is_plain node.Blob = true
is_plain node.Principal = true
is_plain node.Null = true
is_plain (node.Actor fs) = true
is_plain _ = false

pub no : false ≡ true → ⊥
no e = cc

no_opt : (x : Node TypeId) → is_plain x ≡ true → IsSomething (opt_of x) → ⊥
no_opt (node.Opt a) e h = no e
no_opt _ e h = h

no_tuple : (x : Node TypeId) → is_plain x ≡ true → IsSomething (tuple_of x) → ⊥
no_tuple (node.Tuple ts) e h = no e
no_tuple _ e h = h

no_array : (x : Node TypeId) → is_plain x ≡ true → IsSomething (array_of x) → ⊥
no_array (node.Array a) e h = no e
no_array _ e h = h

no_mut_array : (x : Node TypeId) → is_plain x ≡ true → IsSomething (mut_array_of x) → ⊥
no_mut_array (node.MutArray a) e h = no e
no_mut_array _ e h = h

no_object : (x : Node TypeId) (P : List (Field TypeId) → Type 0) → is_plain x ≡ true → AtSome (object_of x) P → ⊥
no_object (node.Object fs) P e h = no e
no_object _ P e h = h

no_variant : (x : Node TypeId) (P : List (Field TypeId) → Type 0) → is_plain x ≡ true → AtSome (variant_of x) P → ⊥
no_variant (node.Variant fs) P e h = no e
no_variant _ P e h = h

no_async : (x : Node TypeId) (P : TypeId → Type 0) → is_plain x ≡ true → AtSome (async_of x) P → ⊥
no_async (node.Async a) P e h = no e
no_async _ P e h = h

no_error : (x : Node TypeId) → is_plain x ≡ true → is_error x ≡ true → ⊥
no_error node.Error e h = no e
no_error _ e h = no h

-- ---- tests of leaves

int_le_true : (a b : ℤ) → a ≤ℤ b → int_le a b ≡ true
int_le_true a b h = by (int_le a b) refl
  where
    by : (t : Bool) → int_le a b ≡ t → int_le a b ≡ true
    by true e = e
    by false e = absurd (omega (arith, ints))

shared_true : (s : Sort) → s ≢ sort.Local → is_shared s ≡ true
shared_true sort.Local h = absurd (h refl)
shared_true sort.Shared h = refl
shared_true sort.Query h = refl

scalar_true : (c : ℕ) → (c < 55296) ⊎ ((57344 ≤ c) × (c < 1114112)) → is_scalar c ≡ true
scalar_true c (inl h) = or_left (nat_lt c 55296) (nat_le 57344 c && nat_lt c 1114112) (lt-ltb c 55296 h)
scalar_true c (inr h) = or_right (nat_lt c 55296) (nat_le 57344 c && nat_lt c 1114112) (and_from (nat_le 57344 c) (nat_lt c 1114112) (le-leb 57344 c h.0) (lt-ltb c 1114112 h.1))

pub passes : (x : Node TypeId) (p : Datum) → IsLeafPart p → IsPartOf x p → is_leaf_of x p ≡ true
passes (node.Number k) (part.Number n) l h = and_from (int_le (least k) n) (int_le n (greatest k)) (int_le_true (least k) n h.0) (int_le_true n (greatest k) h.1)
passes node.Bool (part.Flag b) l h = refl
passes node.Char (part.Char c) l h = scalar_true c h
passes node.Text (part.Text t) l h = h
passes node.Blob (part.Blob t) l h = refl
passes node.Principal (part.Principal p) l h = le-leb (length p) 29 h
passes node.Null part.Null l h = refl
passes (node.Opt a) part.Null l h = refl
passes (node.Actor fs) (part.Actor p) l h = le-leb (length p) 29 h
passes (node.Func s ps rs) (part.Method p m) l h =
    and_from (is_shared s && is_principal p) (is_method_name m) (and_from (is_shared s) (is_principal p) (shared_true s h.0) (le-leb (length p) 29 h.1)) h.2
passes node.Any (part.Record n) l h = absurd l
passes (node.Opt a) part.Present l h = absurd l
passes (node.Array a) (part.Many n) l h = absurd l
passes (node.Tuple ts) (part.Record n) l h = absurd l
passes (node.Object fs) (part.Record n) l h = absurd l
passes (node.Variant fs) (part.Tag i) l h = absurd l
passes _ _ l h = absurd h

pub number_part : (k : Kind) (p : Datum) → IsPartOf {A = TypeId} (node.Number k) p → (n : ℤ) × (p ≡ part.Number n) × InRange k n
number_part k (part.Number n) h = (n, refl, h)
number_part k _ h = absurd h

flag_part : (p : Datum) → IsPartOf {A = TypeId} node.Bool p → (b : Bool) × (p ≡ part.Flag b)
flag_part (part.Flag b) h = (b, refl)
flag_part _ h = absurd h

pub text_part : (p : Datum) → IsPartOf {A = TypeId} node.Text p → (t : Bytes) × (p ≡ part.Text t) × (is_utf8 t ≡ true)
text_part (part.Text t) h = (t, refl, h)
text_part _ h = absurd h

actor_part : (fs : List (Field TypeId)) (p : Datum) → IsPartOf (node.Actor fs) p → (q : Bytes) × (p ≡ part.Actor q) × (length q ≤ 29)
actor_part fs (part.Actor q) h = (q, refl, h)
actor_part fs _ h = absurd h

array_leaf : (a : TypeId) (p : Datum) → IsLeafPart p → IsPartOf (node.Array a) p → ⊥
array_leaf a (part.Many n) l h = l
array_leaf a _ l h = h

plain_scalar : (s : Scalar) → is_plain (scalar_type s) ≡ true
plain_scalar scalar.Bool = refl
plain_scalar (scalar.Number k) = refl
plain_scalar scalar.Char = refl
plain_scalar scalar.Text = refl
plain_scalar scalar.Blob = refl

neither : ⊥ ⊎ ⊥ → ⊥
neither (inl h) = h
neither (inr h) = h

module _ {F : Type 0} (head : TypeId → Node TypeId) (known : Judgements TypeId F) (kinds : List TypeId) where
  no_arrays : (x : Node TypeId) → is_plain x ≡ true → IsSomething (array_of x) ⊎ IsSomething (mut_array_of x) → ⊥
  no_arrays x e (inl h) = no_array x e h
  no_arrays x e (inr h) = no_mut_array x e h

  root_leaf : (x : Node TypeId) → is_plain x ≡ true → (h : Head) → RootOf head known kinds x h → (p : Datum) × (h ≡ Leaf p) × IsLeafPart p × IsPartOf x p
  root_leaf x e (Leaf p) r = (p, refl, r.0, r.1)
  root_leaf x e Present r = absurd (no_opt x e r)
  root_leaf x e Tuple r = absurd (no_tuple x e r)
  root_leaf x e Array r = absurd (no_arrays x e r)
  root_leaf x e (Object ls) r = absurd (no_object x _ e r)
  root_leaf x e (Tag l) r = absurd (no_variant x _ e r)
  root_leaf x e (Error c m) r = absurd (no_error x e r.0)
  root_leaf x e (Cell at) r = absurd r
  root_leaf x e (Future n) r = absurd (no_async x _ e r)

  fits_root : (x : Node TypeId) → is_plain x ≡ true → (h : Head) (inside : Shapes F) → Fits head known kinds x h inside → RootOf head known kinds x h
  fits_root node.Any e h inside r = absurd (no e)
  fits_root (node.Variable v b) e h inside r = absurd (no e)
  fits_root _ e h inside r = r

  root_fits : (x : Node TypeId) → is_plain x ≡ true → (h : Head) (inside : Shapes F) → RootOf head known kinds x h → Fits head known kinds x h inside
  root_fits node.Any e h inside r = absurd (no e)
  root_fits (node.Variable v b) e h inside r = absurd (no e)
  root_fits _ e h inside r = r

  no_function : (x : Node TypeId) → is_plain x ≡ true → (f : F) (t : TypeId) → FunctionFits head known kinds x f t → ⊥
  no_function node.Any e f t h = no e
  no_function (node.Variable v b) e f t h = no e
  no_function (node.Func s ps rs) e f t h = no e
  no_function _ e f t h = h

  pub nothing_inside : (inside : Shapes F) → HasEach head known kinds [] inside → inside ≡ NoShape
  nothing_inside NoShape h = refl
  nothing_inside (AShape v vs) h = absurd h

  leaf_of_plain : (t : TypeId) → is_plain (head t) ≡ true → (v : Shape F) → Has head known kinds (Of t) v → (p : Datum) × (v ≡ Made (Leaf p) NoShape) × IsLeafPart p × IsPartOf (head t) p
  leaf_of_plain t e (Made h inside) k =
      let r : (p : Datum) × (h ≡ Leaf p) × IsLeafPart p × IsPartOf (head t) p = root_leaf (head t) e h (fits_root (head t) e h inside k.0) in
      (r.0, ap₂ Made r.1 (nothing_inside inside (subst (λ g. HasEach head known kinds (wants g (head t) (count inside)) inside) r.1 k.1)), r.2, r.3)
  leaf_of_plain t e (Function f) k = absurd (no_function (head t) e f t k)

  -- a leaf is a value of a type without parts
  pub gives_leaf : (t : TypeId) (x : Node TypeId) (p : Datum) → head t ≡ x → is_plain x ≡ true → IsLeafPart p → IsPartOf x p → Has head known kinds (Of t) (leaf p)
  gives_leaf t x p e q l h = (subst (λ y. Fits head known kinds y (Leaf p) NoShape) (sym e) (root_fits x q (Leaf p) NoShape (l, h)), tt)

  pub scalar_seen : (s : Scalar) (t : TypeId) → head t ≡ scalar_type s → (v : Shape F) → Has head known kinds (Of t) v → (p : Datum) × (scalar_of s v ≡ Some p) × IsPartOf {A = TypeId} (scalar_type s) p
  scalar_seen s t e v k =
      let l : (p : Datum) × (v ≡ Made (Leaf p) NoShape) × IsLeafPart p × IsPartOf (head t) p = leaf_of_plain t (ap is_plain e ∙ plain_scalar s) v k in
      let h : IsPartOf {A = TypeId} (scalar_type s) l.0 = subst (λ x. IsPartOf x l.0) e l.3 in
      (l.0, ap (λ u. leaf_if (scalar_type s) (leaf_of u)) l.1 ∙ ap (λ b. only_if b l.0) (passes (scalar_type s) l.0 l.2 h), h)

  pub number_seen : (k : Kind) (t : TypeId) → head t ≡ node.Number k → (v : Shape F) → Has head known kinds (Of t) v → (n : ℤ) × (number_of k v ≡ Some n) × InRange k n
  number_seen k t e v h =
      let s : (p : Datum) × (scalar_of (scalar.Number k) v ≡ Some p) × IsPartOf {A = TypeId} (node.Number k) p = scalar_seen (scalar.Number k) t e v h in
      let n : (n : ℤ) × (s.0 ≡ part.Number n) × InRange k n = number_part k s.0 s.2 in
      (n.0, ap number_in s.1 ∙ ap (λ p. number_in (Some p)) n.1, n.2)

  pub flag_seen : (t : TypeId) → head t ≡ node.Bool → (v : Shape F) → Has head known kinds (Of t) v → (b : Bool) × (flag_of v ≡ Some b)
  flag_seen t e v h =
      let s : (p : Datum) × (scalar_of scalar.Bool v ≡ Some p) × IsPartOf {A = TypeId} node.Bool p = scalar_seen scalar.Bool t e v h in
      let b : (b : Bool) × (s.0 ≡ part.Flag b) = flag_part s.0 s.2 in
      (b.0, ap flag_in s.1 ∙ ap (λ p. flag_in (Some p)) b.1)

  pub text_seen : (t : TypeId) → head t ≡ node.Text → (v : Shape F) → Has head known kinds (Of t) v → (x : Bytes) × (text_of v ≡ Some x) × (is_utf8 x ≡ true)
  text_seen t e v h =
      let s : (p : Datum) × (scalar_of scalar.Text v ≡ Some p) × IsPartOf {A = TypeId} node.Text p = scalar_seen scalar.Text t e v h in
      let x : (x : Bytes) × (s.0 ≡ part.Text x) × (is_utf8 x ≡ true) = text_part s.0 s.2 in
      (x.0, ap text_in s.1 ∙ ap (λ p. text_in (Some p)) x.1, x.2)

  pub actor_seen : (t : TypeId) (fs : List (Field TypeId)) → head t ≡ node.Actor fs → (v : Shape F) → Has head known kinds (Of t) v → (q : Bytes) × (actor_of v ≡ Some q) × (length q ≤ 29)
  actor_seen t fs e v h =
      let l : (p : Datum) × (v ≡ Made (Leaf p) NoShape) × IsLeafPart p × IsPartOf (head t) p = leaf_of_plain t (ap is_plain e) v h in
      let q : (q : Bytes) × (l.0 ≡ part.Actor q) × (length q ≤ 29) = actor_part fs l.0 (subst (λ x. IsPartOf x l.0) e l.3) in
      (q.0, ap (λ u. actor_in (leaf_if (node.Actor []) (leaf_of u))) l.1 ∙ (ap (λ p. actor_in (leaf_if (node.Actor []) (Some p))) q.1 ∙ ap (λ b. actor_in (only_if b (part.Actor q.0))) (le-leb (length q.0) 29 q.2)), q.2)

  -- an error
  error_root : (h : Head) → RootOf head known kinds node.Error h → (c : ErrorCode) × (m : Bytes) × (h ≡ Error c m) × IsCode c × (is_utf8 m ≡ true)
  error_root (Leaf p) r = absurd r.1
  error_root Present r = absurd r
  error_root Tuple r = absurd r
  error_root Array r = absurd (neither r)
  error_root (Object ls) r = absurd r
  error_root (Tag l) r = absurd r
  error_root (Error c m) r = (c, m, refl, r.1, r.2)
  error_root (Cell at) r = absurd r
  error_root (Future n) r = absurd r

  pub error_seen : (t : TypeId) → head t ≡ node.Error → (v : Shape F) → Has head known kinds (Of t) v → (c : ErrorCode) × (m : Bytes) × (v ≡ Made (Error c m) NoShape) × IsCode c × (is_utf8 m ≡ true)
  error_seen t e (Made h inside) k =
      let r : (c : ErrorCode) × (m : Bytes) × (h ≡ Error c m) × IsCode c × (is_utf8 m ≡ true) = error_root h (subst (λ x. Fits head known kinds x h inside) e k.0) in
      (r.0, r.1, ap₂ Made r.2 (nothing_inside inside (subst (λ g. HasEach head known kinds (wants g (head t) (count inside)) inside) r.2 k.1)), r.3, r.4)
  error_seen t e (Function f) k = absurd (subst (λ x. FunctionFits head known kinds x f t) e k)

  -- an array
  array_root : (a : TypeId) (h : Head) → RootOf head known kinds (node.Array a) h → h ≡ Array
  array_root a (Leaf p) r = absurd (array_leaf a p r.0 r.1)
  array_root a Present r = absurd r
  array_root a Tuple r = absurd r
  array_root a Array r = refl
  array_root a (Object ls) r = absurd r
  array_root a (Tag l) r = absurd r
  array_root a (Error c m) r = absurd (no r.0)
  array_root a (Cell at) r = absurd r
  array_root a (Future n) r = absurd r

  mut_array_root : (a : TypeId) (h : Head) → RootOf head known kinds (node.MutArray a) h → h ≡ Array
  mut_array_root a (Leaf p) r = absurd r.1
  mut_array_root a Present r = absurd r
  mut_array_root a Tuple r = absurd r
  mut_array_root a Array r = refl
  mut_array_root a (Object ls) r = absurd r
  mut_array_root a (Tag l) r = absurd r
  mut_array_root a (Error c m) r = absurd (no r.0)
  mut_array_root a (Cell at) r = absurd r
  mut_array_root a (Future n) r = absurd r

  pub array_seen : (t a : TypeId) → (head t ≡ node.Array a) ⊎ (head t ≡ node.MutArray a) → (v : Shape F) → Has head known kinds (Of t) v → (inside : Shapes F) × (v ≡ Made Array inside)
  array_seen t a (inl e) (Made h inside) k = (inside, ap (λ g. Made g inside) (array_root a h (subst (λ x. Fits head known kinds x h inside) e k.0)))
  array_seen t a (inr e) (Made h inside) k = (inside, ap (λ g. Made g inside) (mut_array_root a h (subst (λ x. Fits head known kinds x h inside) e k.0)))
  array_seen t a (inl e) (Function f) k = absurd (subst (λ x. FunctionFits head known kinds x f t) e k)
  array_seen t a (inr e) (Function f) k = absurd (subst (λ x. FunctionFits head known kinds x f t) e k)
