-- Sameness of words is sameness of what they stand for, at types whose values are words.
use Rattle.std.proofs.Common.{◌≡◌, ◌⊎◌, inl, inr, ℕ, suc, ◌<◌, ◌^◌, List, [], ◌∷◌, Bool, true, false, ◌&&◌, nat_eq, nat_lt, Option, Some, None, ℤ, pos, refl, sym, ap, ◌∙◌, subst, arith}
use Rattle.std.specs.Prelude.{int_lt}
use Rattle.std.specs.Ordering.{int_eq}
use Rattle.std.proofs.lemmas.Bool.Decides.{nat_tests}
use Rattle.mo_num.specs.declared.kind.Kind.{Kind}
use Rattle.mo_num.specs.Kinds.{InRange}
use Rattle.mo_types.specs.declared.datum.Datum.{Datum}
use Rattle.mo_types.specs.declared.datum.Datum.TheVariants as part
use Rattle.mo_types.specs.declared.node.Node.{Node}
use Rattle.mo_types.specs.declared.node.Node.TheVariants as node
use Rattle.mo_types.specs.declared.node.TypeId.{TypeId}
use Rattle.mo_types.specs.Form.{form, form_part, form_inner}
use Rattle.mo_types.specs.Values.{Values, Nil, Value as Part, inside}
use Rattle.mo_values.specs.declared.operation.Comparison.{Comparison}
use Rattle.mo_values.specs.declared.operation.Scalar.{Scalar}
use Rattle.mo_values.specs.declared.operation.Scalar.TheVariants as scalar
use Rattle.mo_values.specs.Equality.{same_values, same_forms, equal}
use Rattle.mo_values.specs.Messages.{count, part_at, types_inside, message_of, function_at, only_if, plain, plain_each}
use Rattle.mo_values.specs.Numbers.{before, compared}
use Rattle.mo_values.specs.Parts.{is_leaf_of, same_flag, same_part}
use Rattle.mo_values.specs.Shapes.{Leaf, Present, Tuple, Array, Object, Tag, Error, Cell, Future, Shapes, Made, Function, NoShape, AShape, leaf, unit}
use Rattle.mo_values.specs.Views as views
use Rattle.mo_values.specs.Views.{Answer, given, scalar_type}
use Rattle.wasm_tree.specs.declared.types.ValueType.TheVariants.{I32, I64}
use Rattle.wasm_tree.specs.declared.op.Comparison.TheVariants.{Eq}
use Rattle.wasm_tree.specs.Numeric.{low, flag, compare}
use Rattle.wasm_tree.specs.Exec.{Host, Store}
use Rattle.core_ir.specs.Values.{Handle, Value}
use Rattle.low_ir.specs.Tree.{Module}
use Rattle.heap_layout.specs.Ghosts.{Ghost}
use Rattle.heap_layout.specs.Means.{Means, Rep}
use Rattle.operation_codes.specs.Codes.{order_test}
use Rattle.operation_codes.specs.Treated.{is_word, is_word_scalar, is_ordered_word}
use Rattle.operation_lines.proofs.Values.{in_range_of}
use Rattle.operation_lines.proofs.Truths.{order_is, same_numbers, same_flags, same_chars, char_numbers, char_order}

-- ---- leaves of a type

pub number_is : (k : Kind) (p : Datum) → is_leaf_of {A = TypeId} (node.Number k) p ≡ true → (n : ℤ) × (p ≡ part.Number n) × InRange k n
number_is k part.Null e = absurd (cc e)
number_is k (part.Flag b) e = absurd (cc e)
number_is k (part.Number n) e = (n, refl, in_range_of k n e)
number_is k (part.Char c) e = absurd (cc e)
number_is k (part.Text t) e = absurd (cc e)
number_is k (part.Blob t) e = absurd (cc e)
number_is k (part.Principal t) e = absurd (cc e)
number_is k (part.Actor t) e = absurd (cc e)
number_is k (part.Method t u) e = absurd (cc e)
number_is k part.Present e = absurd (cc e)
number_is k (part.Many n) e = absurd (cc e)
number_is k (part.Record n) e = absurd (cc e)
number_is k (part.Tag n) e = absurd (cc e)

pub flag_is : (p : Datum) → is_leaf_of {A = TypeId} node.Bool p ≡ true → (b : Bool) × (p ≡ part.Flag b)
flag_is part.Null e = absurd (cc e)
flag_is (part.Flag b) e = (b, refl)
flag_is (part.Number n) e = absurd (cc e)
flag_is (part.Char c) e = absurd (cc e)
flag_is (part.Text t) e = absurd (cc e)
flag_is (part.Blob t) e = absurd (cc e)
flag_is (part.Principal t) e = absurd (cc e)
flag_is (part.Actor t) e = absurd (cc e)
flag_is (part.Method t u) e = absurd (cc e)
flag_is part.Present e = absurd (cc e)
flag_is (part.Many n) e = absurd (cc e)
flag_is (part.Record n) e = absurd (cc e)
flag_is (part.Tag n) e = absurd (cc e)

pub char_is : (p : Datum) → is_leaf_of {A = TypeId} node.Char p ≡ true → (c : ℕ) × (p ≡ part.Char c)
char_is part.Null e = absurd (cc e)
char_is (part.Flag b) e = absurd (cc e)
char_is (part.Number n) e = absurd (cc e)
char_is (part.Char c) e = (c, refl)
char_is (part.Text t) e = absurd (cc e)
char_is (part.Blob t) e = absurd (cc e)
char_is (part.Principal t) e = absurd (cc e)
char_is (part.Actor t) e = absurd (cc e)
char_is (part.Method t u) e = absurd (cc e)
char_is part.Present e = absurd (cc e)
char_is (part.Many n) e = absurd (cc e)
char_is (part.Record n) e = absurd (cc e)
char_is (part.Tag n) e = absurd (cc e)

null_is : (p : Datum) → is_leaf_of {A = TypeId} node.Null p ≡ true → p ≡ part.Null
null_is part.Null e = refl
null_is (part.Flag b) e = absurd (cc e)
null_is (part.Number n) e = absurd (cc e)
null_is (part.Char c) e = absurd (cc e)
null_is (part.Text t) e = absurd (cc e)
null_is (part.Blob t) e = absurd (cc e)
null_is (part.Principal t) e = absurd (cc e)
null_is (part.Actor t) e = absurd (cc e)
null_is (part.Method t u) e = absurd (cc e)
null_is part.Present e = absurd (cc e)
null_is (part.Many n) e = absurd (cc e)
null_is (part.Record n) e = absurd (cc e)
null_is (part.Tag n) e = absurd (cc e)

module _ {W : Type 0} (pages : ℕ) (m : Module) (host : Host W) (store : Store W) (g : Ghost) where
  abbrev Stands : ℕ → Datum → Type 0
  Stands x p = Rep g store.memory x (leaf p)

  stands_as : (x : ℕ) (p q : Datum) → p ≡ q → Stands x p → Stands x q
  stands_as x p q e r = subst (Stands x) e r

  -- of two words, that these stand for parts which are the same or not
  abbrev Same : ℕ → ℕ → Bool → Type 0
  Same x y t = low I32 (compare I64 Eq x y) ≡ flag t

  pub numbers_same : (k : Kind) (a b : ℤ) → InRange k a → InRange k b → (x y : ℕ) → Stands x (part.Number a) → Stands y (part.Number b) → Same x y (int_eq a b)
  numbers_same k a b r s x y p q = (λ i. low I32 (compare I64 Eq (p.means i) (q.means i))) ∙ same_numbers pages m host store k a b r s

  pub flags_same : (a b : Bool) (x y : ℕ) → Stands x (part.Flag a) → Stands y (part.Flag b) → Same x y (same_flag a b)
  flags_same a b x y p q = (λ i. low I32 (compare I64 Eq (p.means i) (q.means i))) ∙ same_flags a b

  pub chars_same : (c d x y : ℕ) → Stands x (part.Char c) → Stands y (part.Char d) → Same x y (nat_eq c d)
  chars_same c d x y p q =
      (λ i. low I32 (compare I64 Eq (p.means i) (q.means i))) ∙ same_chars c d (subst (λ n. n < 2 ^ 64) p.means p.small) (subst (λ n. n < 2 ^ 64) q.means q.small)

  pub scalars_same : (s : Scalar) → is_word_scalar s ≡ true → (p q : Datum) → is_leaf_of (scalar_type s) p ≡ true → is_leaf_of (scalar_type s) q ≡ true → (x y : ℕ) → Stands x p → Stands y q → Same x y (same_part p q)
  scalars_same (scalar.Number k) is p q a b x y r s =
      let i = number_is k p a in
      let j = number_is k q b in
      subst (λ p. Same x y (same_part p q)) (sym i.1) (subst (λ q. Same x y (same_part (part.Number i.0) q)) (sym j.1) (numbers_same k i.0 j.0 i.2 j.2 x y (stands_as x p (part.Number i.0) i.1 r) (stands_as y q (part.Number j.0) j.1 s)))
  scalars_same scalar.Bool is p q a b x y r s =
      let i = flag_is p a in
      let j = flag_is q b in
      subst (λ p. Same x y (same_part p q)) (sym i.1) (subst (λ q. Same x y (same_part (part.Flag i.0) q)) (sym j.1) (flags_same i.0 j.0 x y (stands_as x p (part.Flag i.0) i.1 r) (stands_as y q (part.Flag j.0) j.1 s)))
  scalars_same scalar.Char is p q a b x y r s =
      let i = char_is p a in
      let j = char_is q b in
      subst (λ p. Same x y (same_part p q)) (sym i.1) (subst (λ q. Same x y (same_part (part.Char i.0) q)) (sym j.1) (chars_same i.0 j.0 x y (stands_as x p (part.Char i.0) i.1 r) (stands_as y q (part.Char j.0) j.1 s)))
  scalars_same scalar.Text is p q a b x y r s = absurd (cc is)
  scalars_same scalar.Blob is p q a b x y r s = absurd (cc is)

  -- ---- order

  module _ (B : Answer Handle → Type 0) (F : Bool → Answer Handle) (o : Comparison) (x y : ℕ) where
    abbrev Ordered : Scalar → Bool → Type 0
    Ordered s t = low I32 (compare I64 (order_test s o) x y) ≡ flag t

    abbrev asked : Datum → Datum → Answer Handle
    asked p q = given (before p q) (λ first. given (before q p) (λ second. F (compared o first second)))

    pub scalars_ordered : (s : Scalar) → is_ordered_word s ≡ true → (p q : Datum) → is_leaf_of (scalar_type s) p ≡ true → is_leaf_of (scalar_type s) q ≡ true → Stands x p → Stands y q → ((t : Bool) → Ordered s t → B (F t)) → B (asked p q)
    scalars_ordered (scalar.Number k) is p q a b r s then =
        let i = number_is k p a in
        let j = number_is k q b in
        let r' : Stands x (part.Number i.0) = stands_as x p (part.Number i.0) i.1 r in
        let s' : Stands y (part.Number j.0) = stands_as y q (part.Number j.0) j.1 s in
        subst (λ p. B (asked p q)) (sym i.1) (subst (λ q. B (asked (part.Number i.0) q)) (sym j.1)
        (then (compared o (int_lt i.0 j.0) (int_lt j.0 i.0)) ((λ h. low I32 (compare I64 (order_test (scalar.Number k) o) (r'.means h) (s'.means h))) ∙ order_is pages m host store o k i.0 j.0 i.2 j.2)))
    scalars_ordered scalar.Char is p q a b r s then =
        let i = char_is p a in
        let j = char_is q b in
        let r' : Stands x (part.Char i.0) = stands_as x p (part.Char i.0) i.1 r in
        let s' : Stands y (part.Char j.0) = stands_as y q (part.Char j.0) j.1 s in
        subst (λ p. B (asked p q)) (sym i.1) (subst (λ q. B (asked (part.Char i.0) q)) (sym j.1)
        (then (compared o (nat_lt i.0 j.0) (nat_lt j.0 i.0)) ((λ h. low I32 (compare I64 (order_test scalar.Char o) (r'.means h) (s'.means h))) ∙ char_order o i.0 j.0 (subst (λ n. n < 2 ^ 64) r'.means r'.small) (subst (λ n. n < 2 ^ 64) s'.means s'.small))))
    scalars_ordered scalar.Bool is p q a b r s then = absurd (cc is)
    scalars_ordered scalar.Text is p q a b r s then = absurd (cc is)
    scalars_ordered scalar.Blob is p q a b r s then = absurd (cc is)

-- ---- equality at a type

abbrev none_inside : Shapes Handle
none_inside = NoShape

module _ (head : TypeId → Node TypeId) where
  -- a value at a type with this head
  abbrev plain_by : Node TypeId → Value → Option Values
  plain_by n (Made h inside) = message_of n h (part_at n h (count inside)) (plain_each head (types_inside n h (count inside)) inside)
  plain_by n (Function f) = function_at n

  plain_same : (t : TypeId) (v : Value) → plain head t v ≡ plain_by (head t) v
  plain_same t (Made h inside) = refl
  plain_same t (Function f) = refl

  abbrev form_one : Node TypeId → Values → Values
  form_one n Nil = Nil
  form_one n (Part p inner others) = Part (form_part n p) (form_inner head n p (form head (inside n p) inner)) (form head [] others)

  abbrev forms_by : Node TypeId → Option Values → Option Values → Option Bool
  forms_by n (Some a) (Some b) = Some (same_values (form_one n a) (form_one n b))
  forms_by n _ _ = None

  form_same : (t : TypeId) (a : Values) → form head (t ∷ []) a ≡ form_one (head t) a
  form_same t Nil = refl
  form_same t (Part p inner others) = refl

  forms_same : (t : TypeId) (o u : Option Values) → same_forms head t o u ≡ forms_by (head t) o u
  forms_same t None u = refl
  forms_same t (Some a) None = refl
  forms_same t (Some a) (Some b) = λ i. Some (same_values (form_same t a i) (form_same t b i))

  equal_by : (t : TypeId) (v w : Value) → equal head t v w ≡ forms_by (head t) (plain_by (head t) v) (plain_by (head t) w)
  equal_by t v w = (λ i. same_forms head t (plain_same t v i) (plain_same t w i)) ∙ forms_same t (plain_by (head t) v) (plain_by (head t) w)

  -- What is seen of a value: nothing, or one part.
  abbrev Seen : Node TypeId → Value → Option Values → Type 0
  Seen n v o =
      (o ≡ None)
      ⊎ (((p : Datum) × (is_leaf_of n p ≡ true) × (v ≡ leaf p) × (o ≡ Some (Part p Nil Nil))) ⊎ ((n ≡ node.Tuple []) × (v ≡ unit) × (o ≡ Some (Part (part.Record 0) Nil Nil))))

  leaf_seen : (n : Node TypeId) (p : Datum) → ((q : Datum) → message_of n (Leaf p) (Some q) (plain_each head (types_inside n (Leaf p) 0) none_inside) ≡ Some (Part q Nil Nil))
      → (message_of n (Leaf p) None (plain_each head (types_inside n (Leaf p) 0) none_inside) ≡ None)
      → Seen n (leaf p) (message_of n (Leaf p) (only_if (is_leaf_of n p) p) (plain_each head (types_inside n (Leaf p) 0) none_inside))
  leaf_seen n p some none = by (is_leaf_of n p) refl
    where
      by : (t : Bool) → is_leaf_of n p ≡ t → Seen n (leaf p) (message_of n (Leaf p) (only_if t p) (plain_each head (types_inside n (Leaf p) 0) none_inside))
      by true e = inr (inl (p, e, refl, some p))
      by false e = inl none

  more_than : (n : ℕ) → nat_eq (suc n) 0 ≡ false
  more_than n = grind (arith, nat_tests)

  seen : (n : Node TypeId) → is_word n ≡ true → (g : Ghost) (memory : List ℕ) (x : ℕ) (v : Value) → Rep g memory x v → Seen n v (plain_by n v)
  seen (node.Number k) is g memory x (Made (Leaf p) NoShape) r = leaf_seen (node.Number k) p (λ q. refl) refl
  seen (node.Number k) is g memory x (Made (Leaf p) (AShape v vs)) r = absurd r.means
  seen (node.Number k) is g memory x (Made Present vs) r = inl refl
  seen (node.Number k) is g memory x (Made Tuple vs) r = inl refl
  seen (node.Number k) is g memory x (Made Array vs) r = inl refl
  seen (node.Number k) is g memory x (Made (Object ls) vs) r = inl refl
  seen (node.Number k) is g memory x (Made (Tag l) vs) r = inl refl
  seen (node.Number k) is g memory x (Made (Error c t) vs) r = inl refl
  seen (node.Number k) is g memory x (Made (Cell i) vs) r = inl refl
  seen (node.Number k) is g memory x (Made (Future i) vs) r = inl refl
  seen (node.Number k) is g memory x (Function f) r = inl refl
  seen node.Bool is g memory x (Made (Leaf p) NoShape) r = leaf_seen node.Bool p (λ q. refl) refl
  seen node.Bool is g memory x (Made (Leaf p) (AShape v vs)) r = absurd r.means
  seen node.Bool is g memory x (Made Present vs) r = inl refl
  seen node.Bool is g memory x (Made Tuple vs) r = inl refl
  seen node.Bool is g memory x (Made Array vs) r = inl refl
  seen node.Bool is g memory x (Made (Object ls) vs) r = inl refl
  seen node.Bool is g memory x (Made (Tag l) vs) r = inl refl
  seen node.Bool is g memory x (Made (Error c t) vs) r = inl refl
  seen node.Bool is g memory x (Made (Cell i) vs) r = inl refl
  seen node.Bool is g memory x (Made (Future i) vs) r = inl refl
  seen node.Bool is g memory x (Function f) r = inl refl
  seen node.Char is g memory x (Made (Leaf p) NoShape) r = leaf_seen node.Char p (λ q. refl) refl
  seen node.Char is g memory x (Made (Leaf p) (AShape v vs)) r = absurd r.means
  seen node.Char is g memory x (Made Present vs) r = inl refl
  seen node.Char is g memory x (Made Tuple vs) r = inl refl
  seen node.Char is g memory x (Made Array vs) r = inl refl
  seen node.Char is g memory x (Made (Object ls) vs) r = inl refl
  seen node.Char is g memory x (Made (Tag l) vs) r = inl refl
  seen node.Char is g memory x (Made (Error c t) vs) r = inl refl
  seen node.Char is g memory x (Made (Cell i) vs) r = inl refl
  seen node.Char is g memory x (Made (Future i) vs) r = inl refl
  seen node.Char is g memory x (Function f) r = inl refl
  seen node.Null is g memory x (Made (Leaf p) NoShape) r = leaf_seen node.Null p (λ q. refl) refl
  seen node.Null is g memory x (Made (Leaf p) (AShape v vs)) r = absurd r.means
  seen node.Null is g memory x (Made Present vs) r = inl refl
  seen node.Null is g memory x (Made Tuple vs) r = inl refl
  seen node.Null is g memory x (Made Array vs) r = inl refl
  seen node.Null is g memory x (Made (Object ls) vs) r = inl refl
  seen node.Null is g memory x (Made (Tag l) vs) r = inl refl
  seen node.Null is g memory x (Made (Error c t) vs) r = inl refl
  seen node.Null is g memory x (Made (Cell i) vs) r = inl refl
  seen node.Null is g memory x (Made (Future i) vs) r = inl refl
  seen node.Null is g memory x (Function f) r = inl refl
  seen (node.Tuple []) is g memory x (Made (Leaf p) NoShape) r = inl refl
  seen (node.Tuple []) is g memory x (Made (Leaf p) (AShape v vs)) r = absurd r.means
  seen (node.Tuple []) is g memory x (Made Tuple NoShape) r = inr (inr (refl, refl, refl))
  seen (node.Tuple []) is g memory x (Made Tuple (AShape v vs)) r = subst (λ t. Seen (node.Tuple []) (Made Tuple (AShape v vs)) (message_of {A = TypeId} (node.Tuple []) Tuple (only_if t (part.Record (count (AShape v vs)))) (Some []))) (sym (more_than (count vs))) (inl refl)
  seen (node.Tuple []) is g memory x (Made Present vs) r = inl refl
  seen (node.Tuple []) is g memory x (Made Array vs) r = inl refl
  seen (node.Tuple []) is g memory x (Made (Object ls) vs) r = inl refl
  seen (node.Tuple []) is g memory x (Made (Tag l) vs) r = inl refl
  seen (node.Tuple []) is g memory x (Made (Error c t) vs) r = inl refl
  seen (node.Tuple []) is g memory x (Made (Cell i) vs) r = inl refl
  seen (node.Tuple []) is g memory x (Made (Future i) vs) r = inl refl
  seen (node.Tuple []) is g memory x (Function f) r = inl refl
  seen (node.Tuple (u ∷ us)) is g memory x v r = absurd (cc is)
  seen node.Text is g memory x v r = absurd (cc is)
  seen node.Blob is g memory x v r = absurd (cc is)
  seen node.Principal is g memory x v r = absurd (cc is)
  seen node.Error is g memory x v r = absurd (cc is)
  seen node.Any is g memory x v r = absurd (cc is)
  seen node.Bottom is g memory x v r = absurd (cc is)
  seen (node.Opt a) is g memory x v r = absurd (cc is)
  seen (node.Array a) is g memory x v r = absurd (cc is)
  seen (node.MutArray a) is g memory x v r = absurd (cc is)
  seen (node.Object fs) is g memory x v r = absurd (cc is)
  seen (node.Actor fs) is g memory x v r = absurd (cc is)
  seen (node.Variant fs) is g memory x v r = absurd (cc is)
  seen (node.Func s ps rs) is g memory x v r = absurd (cc is)
  seen (node.Async a) is g memory x v r = absurd (cc is)
  seen (node.Variable i a) is g memory x v r = absurd (cc is)

  module _ {W : Type 0} (pages : ℕ) (m : Module) (host : Host W) (store : Store W) (g : Ghost) (B : Answer Handle → Type 0) (F : Bool → Answer Handle) (otherwise : B views.Stuck) (v w : Value) (x y : ℕ) (r : Rep g store.memory x v) (s : Rep g store.memory y w) where
    abbrev Truth : Bool → Type 0
    Truth t = low I32 (compare I64 Eq x y) ≡ flag t

    both_true : (t : Bool) → Truth t → Truth (t && (true && true))
    both_true true e = e
    both_true false e = e

    zero_words : x ≡ 0 → y ≡ 0 → Truth true
    zero_words e f = λ i. low I32 (compare I64 Eq (e i) (f i))

    first_as : (p q : Datum) → v ≡ leaf p → p ≡ q → Rep g store.memory x (leaf q)
    first_as p q e f = subst (λ v. Rep g store.memory x v) (e ∙ ap leaf f) r

    second_as : (p q : Datum) → w ≡ leaf p → p ≡ q → Rep g store.memory y (leaf q)
    second_as p q e f = subst (λ v. Rep g store.memory y v) (e ∙ ap leaf f) s

    abbrev Parted : Node TypeId → Datum → Datum → Type 0
    Parted n p q = Truth (same_values (form_one n (Part p Nil Nil)) (form_one n (Part q Nil Nil)))

    -- parts of a type are the same where their forms are
    part_truth : (n : Node TypeId) → is_word n ≡ true → (p q : Datum) → is_leaf_of n p ≡ true → is_leaf_of n q ≡ true → v ≡ leaf p → w ≡ leaf q → Parted n p q
    part_truth (node.Number k) is p q a b e f =
        let i = number_is k p a in
        let j = number_is k q b in
        subst (λ p. Parted (node.Number k) p q) (sym i.1)
        (subst (λ q. Parted (node.Number k) (part.Number i.0) q) (sym j.1) (both_true (int_eq i.0 j.0) (numbers_same pages m host store g k i.0 j.0 i.2 j.2 x y (first_as p (part.Number i.0) e i.1) (second_as q (part.Number j.0) f j.1))))
    part_truth node.Bool is p q a b e f =
        let i = flag_is p a in
        let j = flag_is q b in
        subst (λ p. Parted node.Bool p q) (sym i.1)
        (subst (λ q. Parted node.Bool (part.Flag i.0) q) (sym j.1) (both_true (same_flag i.0 j.0) (flags_same pages m host store g i.0 j.0 x y (first_as p (part.Flag i.0) e i.1) (second_as q (part.Flag j.0) f j.1))))
    part_truth node.Char is p q a b e f =
        let i = char_is p a in
        let j = char_is q b in
        subst (λ p. Parted node.Char p q) (sym i.1)
        (subst (λ q. Parted node.Char (part.Char i.0) q) (sym j.1)
        (both_true (int_eq (pos i.0) (pos j.0)) (chars_same pages m host store g i.0 j.0 x y (first_as p (part.Char i.0) e i.1) (second_as q (part.Char j.0) f j.1) ∙ ap flag (sym (char_numbers i.0 j.0)))))
    part_truth node.Null is p q a b e f =
        let i = null_is p a in
        let j = null_is q b in
        subst (λ p. Parted node.Null p q) (sym i) (subst (λ q. Parted node.Null part.Null q) (sym j) (zero_words (first_as p part.Null e i).means (second_as q part.Null f j).means))
    part_truth (node.Tuple []) is p q a b e f = absurd (cc a)
    part_truth (node.Tuple (u ∷ us)) is p q a b e f = absurd (cc is)
    part_truth node.Text is p q a b e f = absurd (cc is)
    part_truth node.Blob is p q a b e f = absurd (cc is)
    part_truth node.Principal is p q a b e f = absurd (cc is)
    part_truth node.Error is p q a b e f = absurd (cc is)
    part_truth node.Any is p q a b e f = absurd (cc is)
    part_truth node.Bottom is p q a b e f = absurd (cc is)
    part_truth (node.Opt u) is p q a b e f = absurd (cc is)
    part_truth (node.Array u) is p q a b e f = absurd (cc is)
    part_truth (node.MutArray u) is p q a b e f = absurd (cc is)
    part_truth (node.Object fs) is p q a b e f = absurd (cc is)
    part_truth (node.Actor fs) is p q a b e f = absurd (cc is)
    part_truth (node.Variant fs) is p q a b e f = absurd (cc is)
    part_truth (node.Func so ps rs) is p q a b e f = absurd (cc is)
    part_truth (node.Async u) is p q a b e f = absurd (cc is)
    part_truth (node.Variable i u) is p q a b e f = absurd (cc is)

    by_parts : (n : Node TypeId) → is_word n ≡ true → (o u : Option Values) → Seen n v o → Seen n w u → ((t : Bool) → Truth t → B (F t)) → B (given (forms_by n o u) F)
    by_parts n is o u (inl e) k then = subst (λ o. B (given (forms_by n o u) F)) (sym e) otherwise
    by_parts n is o u (inr e) (inl k) then = subst (λ u. B (given (forms_by n o u) F)) (sym k) (none o)
      where
        none : (o : Option Values) → B (given (forms_by n o None) F)
        none None = otherwise
        none (Some a) = otherwise
    by_parts n is o u (inr (inl e)) (inr (inl k)) then =
        subst (λ o. B (given (forms_by n o u) F)) (sym e.3)
        (subst (λ u. B (given (forms_by n (Some (Part e.0 Nil Nil)) u) F)) (sym k.3) (then (same_values (form_one n (Part e.0 Nil Nil)) (form_one n (Part k.0 Nil Nil))) (part_truth n is e.0 k.0 e.1 k.1 e.2 k.2)))
    by_parts n is o u (inr (inr e)) (inr (inr k)) then =
        subst (λ o. B (given (forms_by n o u) F)) (sym e.2)
        (subst (λ u. B (given (forms_by n (Some (Part (part.Record 0) Nil Nil)) u) F)) (sym k.2)
        (subst (λ n. B (given (forms_by n (Some (Part (part.Record 0) Nil Nil)) (Some (Part (part.Record 0) Nil Nil))) F)) (sym e.0)
        (then true (zero_words (unit_word x v e.1 r) (unit_word y w k.1 s)))))
      where
        unit_word : (x : ℕ) (v : Value) → v ≡ unit → Rep g store.memory x v → x ≡ 0
        unit_word x v e r = let m : Means g store.memory x unit = subst (λ v. Means g store.memory x v) e r.means in m
    by_parts n is o u (inr (inl e)) (inr (inr k)) then = let no : is_leaf_of {A = TypeId} (node.Tuple []) e.0 ≡ true = subst (λ n. is_leaf_of n e.0 ≡ true) k.0 e.1 in absurd (cc no)
    by_parts n is o u (inr (inr e)) (inr (inl k)) then = let no : is_leaf_of {A = TypeId} (node.Tuple []) k.0 ≡ true = subst (λ n. is_leaf_of n k.0 ≡ true) e.0 k.1 in absurd (cc no)

    pub by_equal : (t : TypeId) → is_word (head t) ≡ true → ((b : Bool) → Truth b → B (F b)) → B (given (equal head t v w) F)
    by_equal t is then =
        subst (λ o. B (given o F)) (sym (equal_by t v w)) (by_parts (head t) is (plain_by (head t) v) (plain_by (head t) w) (seen (head t) is g store.memory x v r) (seen (head t) is g store.memory y w s) then)
