-- The same of operations that order values, join texts and take parts.
use Rattle.std.proofs.Common.{◌≡◌, ℕ, zero, suc, ◌<◌, ◌^◌, ◌-◌, Bool, true, false, List, [], ◌∷◌, ◌++◌, map, Some, slice_get, pos, negsuc, arith, inl, inr, refl, sym, ap, ap₂, ◌∙◌, subst, ℤ, ◌≤ℤ◌}
use Rattle.std.specs.Prelude.{◌⊎◌, cond, int_lt, nat_lt, nat_eq, if◌then◌else◌}
use Rattle.std.specs.Cmp.Lexicographic.{pointwise}
use Rattle.std.specs.Str.{is_utf8, bytes_eq, IsAscii}
use Rattle.std.specs.Fmt.{decimal, signed_decimal}
use Rattle.std.proofs.lemmas.Fmt.{IsAscii-decimal}
use Rattle.std.proofs.lemmas.Int.{ints}
use Rattle.std.proofs.lemmas.Slice.Eq.{bytes_eq-Decides}
use Rattle.std.proofs.lemmas.Str.{IsUtf8-append, IsUtf8-from_ascii, IsUtf8-from_is_utf8, is_utf8-from_IsUtf8}
use Rattle.mo_num.specs.declared.kind.Kind.{Kind}
use Rattle.mo_num.specs.declared.kind.Kind.TheVariants as kind
use Rattle.mo_num.specs.Kinds.{InRange}
use Rattle.mo_num.proofs.Ranges.{in_bounds as number_bounds}
use Rattle.mo_types.specs.declared.datum.Datum.{Datum}
use Rattle.mo_types.specs.declared.datum.Datum.TheVariants as part
use Rattle.mo_types.specs.declared.node.Field.{Field}
use Rattle.mo_types.specs.declared.node.Node.{Node}
use Rattle.mo_types.specs.declared.node.Node.TheVariants as node
use Rattle.mo_types.specs.declared.node.TypeId.{TypeId}
use Rattle.mo_types.specs.Sub.{Each, find}
use Rattle.mo_types.specs.Values.{IsPartOf, copies}
use Rattle.mo_types.specs.Wire.{name_before}
use Rattle.mo_values.specs.declared.operation.Comparison.{Comparison}
use Rattle.mo_values.specs.declared.operation.Operation.{Operation}
use Rattle.mo_values.specs.declared.operation.Operation.TheVariants as op
use Rattle.mo_values.specs.declared.operation.Scalar.{Scalar}
use Rattle.mo_values.specs.declared.operation.Scalar.TheVariants as scalar
use Rattle.mo_values.specs.Messages.{count, under}
use Rattle.mo_values.specs.Numbers.{before}
use Rattle.mo_values.specs.Operations.{operate, in_bounds}
use Rattle.mo_values.specs.Shapes.{Bytes, Head, Leaf, Present, Tuple, Array, Object, Tag, Error, Cell, Future, Shape, Shapes, Made, Function, NoShape, AShape, listed}
use Rattle.mo_values.specs.Views.{Answer, scalar_type, natural_of, natural_in, tuple_of, array_of, field_of}
use Rattle.typed_tree.specs.Has.{IsLeafPart, Judgements, field_want, wants, RootOf, Fits, FunctionFits, Has, HasEach}
use Rattle.typed_tree.specs.Instances.{IsAmong}
use Rattle.typed_tree.specs.OperationTypes.{IsOrdered}
use Rattle.typed_tree.specs.Soundness.{AllHave, AnswerHas, IsSound}
use Rattle.typed_tree.specs.Wants.{Want, Of, CellOf}
use Rattle.typed_tree.proofs.Leaves.{no, number_part, text_part, scalar_seen, number_seen, text_seen, array_seen}
use Rattle.typed_tree.proofs.SoundRows.{one, two, seen, moved, gives_flag, gives_text}

-- ---- scalars that have an order

char_part : (p : Datum) → IsPartOf {A = TypeId} node.Char p → (c : ℕ) × (p ≡ part.Char c)
char_part (part.Char c) h = (c, refl)
char_part _ h = absurd h

pub ordered : (s : Scalar) → IsOrdered s → (p q : Datum) → IsPartOf {A = TypeId} (scalar_type s) p → IsPartOf {A = TypeId} (scalar_type s) q → (b : Bool) × (before p q ≡ Some b)
ordered scalar.Bool o p q h i = absurd o
ordered scalar.Blob o p q h i = absurd o
ordered (scalar.Number k) o p q h i =
    let m : (n : ℤ) × (p ≡ part.Number n) × InRange k n = number_part k p h in
    let n : (n : ℤ) × (q ≡ part.Number n) × InRange k n = number_part k q i in
    (int_lt m.0 n.0, ap₂ before m.1 n.1)
ordered scalar.Char o p q h i =
    let m : (c : ℕ) × (p ≡ part.Char c) = char_part p h in
    let n : (c : ℕ) × (q ≡ part.Char c) = char_part q i in
    (nat_lt m.0 n.0, ap₂ before m.1 n.1)
ordered scalar.Text o p q h i =
    let m : (t : Bytes) × (p ≡ part.Text t) × (is_utf8 t ≡ true) = text_part p h in
    let n : (t : Bytes) × (q ≡ part.Text t) × (is_utf8 t ≡ true) = text_part q i in
    (name_before m.0 n.0, ap₂ before m.1 n.1)

-- ---- decimal digits

led : (b : ℕ) (bs : List ℕ) → b < 128 → IsAscii bs → IsAscii (b ∷ bs)
led b bs h i zero = h
led b bs h i (suc n) = i n

ascii : (n : ℤ) → (negsuc (2 ^ 63 - 1) ≤ℤ n) × (n ≤ℤ pos (2 ^ 64 - 1)) → IsAscii (signed_decimal n)
ascii (pos n) h = IsAscii-decimal n (omega (arith, ints))
ascii (negsuc n) h = led 45 (decimal (suc n)) (omega arith) (IsAscii-decimal (suc n) (omega (arith, ints)))

-- ---- values with parts

tuple_leaf : (ts : List TypeId) (p : Datum) → IsLeafPart p → IsPartOf (node.Tuple ts) p → ⊥
tuple_leaf ts (part.Record n) l h = l
tuple_leaf ts _ l h = h

object_leaf : (fs : List (Field TypeId)) (p : Datum) → IsLeafPart p → IsPartOf (node.Object fs) p → ⊥
object_leaf fs (part.Record n) l h = l
object_leaf fs _ l h = h

neither : ⊥ ⊎ ⊥ → ⊥
neither (inl h) = h
neither (inr h) = h

-- ---- fields by label

-- the field that is found has the label, and each label that is the same finds it
pub found : (l : Bytes) (fs : List (Field TypeId)) (f : Field TypeId) (P : Field TypeId → Type 0) → find l fs ≡ Some f → Each P fs → (f.label ≡ l) × P f
found l [] f P e h = cc
found l (g ∷ gs) f P e h = by (λ i. found l gs f P i h.1) (pointwise nat_eq g.label l) refl
  where
    by : (find l gs ≡ Some f → (f.label ≡ l) × P f) → (b : Bool) → pointwise nat_eq g.label l ≡ b → (f.label ≡ l) × P f
    by later true q =
        let same : Some g ≡ Some f = ap (λ b. if b then Some g else find l gs) (sym q) ∙ e in
        let is : g ≡ f = cc in
        (subst (λ x. x.label ≡ l) is ((bytes_eq-Decides g.label l).0 q), subst P is h.0)
    by later false q = later (ap (λ b. if b then Some g else find l gs) (sym q) ∙ e)

module _ {F : Type 0} (head : TypeId → Node TypeId) (known : Judgements TypeId F) (kinds : List TypeId) where
  abbrev Sound : Operation → Type 0
  Sound o = IsSound head known kinds o

  abbrev H : Want TypeId → Shape F → Type 0
  H w v = Has head known kinds w v

  abbrev Answers : Want TypeId → Answer F → Type 0
  Answers w a = AnswerHas head known kinds w a

  abbrev HasThese : List (Want TypeId) → Shapes F → Type 0
  HasThese ws inside = HasEach head known kinds ws inside

  pub compare : (c : Comparison) (s : Scalar) → Sound (op.Compare c s)
  compare c s ws w vs t h =
      let vu : (v u : Shape F) × (vs ≡ v ∷ u ∷ []) × H (Of t.0) v × H (Of t.0) u = two head known kinds t.0 ws vs t.3 h in
      let a : (p : Datum) × (_ ≡ Some p) × IsPartOf {A = TypeId} (scalar_type s) p = scalar_seen head known kinds s t.0 t.2 vu.0 vu.3 in
      let b : (p : Datum) × (_ ≡ Some p) × IsPartOf {A = TypeId} (scalar_type s) p = scalar_seen head known kinds s t.0 t.2 vu.1 vu.4 in
      let first : (y : Bool) × (before a.0 b.0 ≡ Some y) = ordered s t.1 a.0 b.0 a.2 b.2 in
      let second : (y : Bool) × (before b.0 a.0 ≡ Some y) = ordered s t.1 b.0 a.0 b.2 a.2 in
      moved head known kinds (op.Compare c s) t.4.0 w vs (vu.0 ∷ vu.1 ∷ []) t.4.1 vu.2
      (seen head known kinds (Of t.4.0) _ a.0 _ a.1 (seen head known kinds (Of t.4.0) _ b.0 _ b.1
      (seen head known kinds (Of t.4.0) _ first.0 _ first.1 (seen head known kinds (Of t.4.0) _ second.0 _ second.1 (gives_flag head known kinds t.4.0 t.4.2 _)))))

  pub concatenation : Sound op.Concat
  concatenation ws w vs t h =
      let vu : (v u : Shape F) × (vs ≡ v ∷ u ∷ []) × H (Of t.0) v × H (Of t.0) u = two head known kinds t.0 ws vs t.2 h in
      let a : (x : Bytes) × (_ ≡ Some x) × (is_utf8 x ≡ true) = text_seen head known kinds t.0 t.1 vu.0 vu.3 in
      let b : (x : Bytes) × (_ ≡ Some x) × (is_utf8 x ≡ true) = text_seen head known kinds t.0 t.1 vu.1 vu.4 in
      moved head known kinds op.Concat t.0 w vs (vu.0 ∷ vu.1 ∷ []) t.3 vu.2
      (seen head known kinds (Of t.0) _ a.0 _ a.1 (seen head known kinds (Of t.0) _ b.0 _ b.1
      (gives_text head known kinds t.0 t.1 (a.0 ++ b.0) (is_utf8-from_IsUtf8 (a.0 ++ b.0) (IsUtf8-append a.0 b.0 (IsUtf8-from_is_utf8 a.0 a.2) (IsUtf8-from_is_utf8 b.0 b.2))))))

  pub digits : (k : Kind) → Sound (op.ToText k)
  digits k ws w vs t h =
      let v : (v : Shape F) × (vs ≡ v ∷ []) × H (Of t.0.0) v = one head known kinds t.0.0 ws vs t.0.1 h in
      let n : (n : ℤ) × (_ ≡ Some n) × InRange k n = number_seen head known kinds k t.0.0 t.0.2 v.0 v.2 in
      moved head known kinds (op.ToText k) t.1.0 w vs (v.0 ∷ []) t.1.1 v.1 (seen head known kinds (Of t.1.0) _ n.0 _ n.1
      (gives_text head known kinds t.1.0 t.1.2 (signed_decimal n.0) (is_utf8-from_IsUtf8 (signed_decimal n.0) (IsUtf8-from_ascii (signed_decimal n.0) (ascii n.0 (number_bounds k n.0 n.2))))))

  -- ---- parts of tuples

  tuple_root : (ts : List TypeId) (h : Head) → RootOf head known kinds (node.Tuple ts) h → h ≡ Tuple
  tuple_root ts (Leaf p) r = absurd (tuple_leaf ts p r.0 r.1)
  tuple_root ts Present r = absurd r
  tuple_root ts Tuple r = refl
  tuple_root ts Array r = absurd (neither r)
  tuple_root ts (Object ls) r = absurd r
  tuple_root ts (Tag l) r = absurd r
  tuple_root ts (Error c m) r = absurd (no r.0)
  tuple_root ts (Cell at) r = absurd r
  tuple_root ts (Future n) r = absurd r

  tuple_seen : (t : TypeId) (ts : List TypeId) → head t ≡ node.Tuple ts → (v : Shape F) → H (Of t) v → (inside : Shapes F) × (v ≡ Made Tuple inside) × HasThese (map (λ u. Of u) ts) inside
  tuple_seen t ts e (Made h inside) k =
      let r : h ≡ Tuple = tuple_root ts h (subst (λ x. Fits head known kinds x h inside) e k.0) in
      (inside, ap (λ g. Made g inside) r, subst (λ x. HasThese (wants Tuple x (count inside)) inside) e (subst (λ g. HasThese (wants g (head t) (count inside)) inside) r k.1))
  tuple_seen t ts e (Function f) k = absurd (subst (λ x. FunctionFits head known kinds x f t) e k)

  nth_has : (ts : List TypeId) (inside : Shapes F) (i : ℕ) (u : TypeId) → HasThese (map (λ u. Of u) ts) inside → slice_get ts i ≡ Some u → (x : Shape F) × (slice_get (listed inside) i ≡ Some x) × H (Of u) x
  nth_has [] inside i u h e = cc
  nth_has (t ∷ ts) NoShape i u h e = absurd h
  nth_has (t ∷ ts) (AShape v vs) zero u h e = let same : t ≡ u = cc in (v, refl, subst (λ x. H (Of x) v) same h.0)
  nth_has (t ∷ ts) (AShape v vs) (suc i) u h e = nth_has ts vs i u h.1 e

  pub projection : (i : ℕ) → Sound (op.Project i)
  projection i ws w vs t h =
      let v : (v : Shape F) × (vs ≡ v ∷ []) × H (Of t.0) v = one head known kinds t.0 ws vs t.1 h in
      let a : (inside : Shapes F) × (v.0 ≡ Made Tuple inside) × HasThese (map (λ u. Of u) t.2.0) inside = tuple_seen t.0 t.2.0 t.2.2 v.0 v.2 in
      let x : (x : Shape F) × (slice_get (listed a.0) i ≡ Some x) × H (Of t.2.1) x = nth_has t.2.0 a.0 i t.2.1 a.2 t.2.3 in
      moved head known kinds (op.Project i) t.2.1 w vs (v.0 ∷ []) t.2.4 v.1
      (seen head known kinds (Of t.2.1) (tuple_of v.0) (listed a.0) _ (ap tuple_of a.1) (seen head known kinds (Of t.2.1) _ x.0 _ x.1 x.2))

  -- ---- elements of arrays

  array_inside : (t a : TypeId) → head t ≡ node.Array a → (v : Shape F) → H (Of t) v → (inside : Shapes F) × (v ≡ Made Array inside) × ((n : ℕ) × HasThese (copies n (Of a)) inside)
  array_inside t a e (Made h inside) k =
      let s : (i : Shapes F) × (Made h inside ≡ Made Array i) = array_seen head known kinds t a (inl e) (Made h inside) k in
      let g : h ≡ Array = cc in
      (inside, ap (λ x. Made x inside) g, (count inside, subst (λ x. HasThese (wants Array x (count inside)) inside) e (subst (λ x. HasThese (wants x (head t) (count inside)) inside) g k.1)))
  array_inside t a e (Function f) k = absurd (subst (λ x. FunctionFits head known kinds x f t) e k)

  cells_inside : (t a : TypeId) → head t ≡ node.MutArray a → (v : Shape F) → H (Of t) v → (inside : Shapes F) × (v ≡ Made Array inside) × ((n : ℕ) × HasThese (copies n (CellOf a)) inside)
  cells_inside t a e (Made h inside) k =
      let s : (i : Shapes F) × (Made h inside ≡ Made Array i) = array_seen head known kinds t a (inr e) (Made h inside) k in
      let g : h ≡ Array = cc in
      (inside, ap (λ x. Made x inside) g, (count inside, subst (λ x. HasThese (wants Array x (count inside)) inside) e (subst (λ x. HasThese (wants x (head t) (count inside)) inside) g k.1)))
  cells_inside t a e (Function f) k = absurd (subst (λ x. FunctionFits head known kinds x f t) e k)

  each_element : (n : ℕ) (w : Want TypeId) (inside : Shapes F) (i : ℕ) → HasThese (copies n w) inside → Answers w (in_bounds (slice_get (listed inside) i))
  each_element n w NoShape i h = tt
  each_element zero w (AShape v vs) i h = absurd h
  each_element (suc n) w (AShape v vs) zero h = h.0
  each_element (suc n) w (AShape v vs) (suc i) h = each_element n w vs i h.1

  natural_seen : (t : TypeId) → head t ≡ node.Number kind.Nat → (v : Shape F) → H (Of t) v → (n : ℕ) × (natural_of v ≡ Some n)
  natural_seen t e v h =
      let s : (p : Datum) × (_ ≡ Some p) × IsPartOf {A = TypeId} (node.Number kind.Nat) p = scalar_seen head known kinds (scalar.Number kind.Nat) t e v h in
      let m : (n : ℤ) × (s.0 ≡ part.Number n) × InRange kind.Nat n = number_part kind.Nat s.0 s.2 in
      by m.0 m.2 (ap natural_in s.1 ∙ ap (λ p. natural_in (Some p)) m.1)
    where
      by : (n : ℤ) → InRange kind.Nat n → natural_of v ≡ natural_in (Some (part.Number n)) → (k : ℕ) × (natural_of v ≡ Some k)
      by (pos n) r q = (n, q)
      by (negsuc n) r q = absurd (omega (arith, ints))

  pub element : Sound op.Element
  element ws w vs t h = by t.5
    where
      operands : (us : List (Shape F)) → AllHave head known kinds (Of t.0 ∷ Of t.1 ∷ []) us → (v u : Shape F) × (us ≡ v ∷ u ∷ []) × H (Of t.0) v × H (Of t.1) u
      operands [] k = absurd k
      operands (v ∷ []) k = absurd k.1
      operands (v ∷ u ∷ []) k = (v, u, refl, k.0, k.1.0)
      operands (v ∷ u ∷ x ∷ us) k = absurd k.1.1

      vu : (v u : Shape F) × (vs ≡ v ∷ u ∷ []) × H (Of t.0) v × H (Of t.1) u
      vu = operands vs (subst (λ us. AllHave head known kinds us vs) t.3 h)

      i : (n : ℕ) × (natural_of vu.1 ≡ Some n)
      i = natural_seen t.1 t.4 vu.1 vu.4

      by : ((head t.0 ≡ node.Array t.2) × (w ≡ Of t.2)) ⊎ ((head t.0 ≡ node.MutArray t.2) × (w ≡ CellOf t.2)) → Answers w (operate head op.Element vs)
      by (inl e) =
          let a : (inside : Shapes F) × (vu.0 ≡ Made Array inside) × ((n : ℕ) × HasThese (copies n (Of t.2)) inside) = array_inside t.0 t.2 e.0 vu.0 vu.3 in
          subst (λ x. Answers x (operate head op.Element vs)) (sym e.1) (subst (λ us. Answers (Of t.2) (operate head op.Element us)) (sym vu.2)
          (seen head known kinds (Of t.2) (array_of vu.0) (listed a.0) _ (ap array_of a.1) (seen head known kinds (Of t.2) _ i.0 _ i.1 (each_element a.2.0 (Of t.2) a.0 i.0 a.2.1))))
      by (inr e) =
          let a : (inside : Shapes F) × (vu.0 ≡ Made Array inside) × ((n : ℕ) × HasThese (copies n (CellOf t.2)) inside) = cells_inside t.0 t.2 e.0 vu.0 vu.3 in
          subst (λ x. Answers x (operate head op.Element vs)) (sym e.1) (subst (λ us. Answers (CellOf t.2) (operate head op.Element us)) (sym vu.2)
          (seen head known kinds (CellOf t.2) (array_of vu.0) (listed a.0) _ (ap array_of a.1) (seen head known kinds (CellOf t.2) _ i.0 _ i.1 (each_element a.2.0 (CellOf t.2) a.0 i.0 a.2.1))))

  -- ---- fields of objects

  abbrev IsObject : List (Field TypeId) → List Bytes → Type 0
  IsObject fs ls = Each (λ f. IsAmong f.label ls) fs

  object_root : (fs : List (Field TypeId)) (h : Head) → RootOf head known kinds (node.Object fs) h → (ls : List Bytes) × (h ≡ Object ls) × IsObject fs ls
  object_root fs (Leaf p) r = absurd (object_leaf fs p r.0 r.1)
  object_root fs Present r = absurd r
  object_root fs Tuple r = absurd r
  object_root fs Array r = absurd (neither r)
  object_root fs (Object ls) r = (ls, refl, r)
  object_root fs (Tag l) r = absurd r
  object_root fs (Error c m) r = absurd (no r.0)
  object_root fs (Cell at) r = absurd r
  object_root fs (Future n) r = absurd r

  abbrev field_wants : List (Field TypeId) → List Bytes → List (Want TypeId)
  field_wants fs ls = map (λ l. field_want (find l fs)) ls

  object_seen : (t : TypeId) (fs : List (Field TypeId)) → head t ≡ node.Object fs → (v : Shape F) → H (Of t) v → (ls : List Bytes) × (inside : Shapes F) × (v ≡ Made (Object ls) inside) × IsObject fs ls × HasThese (field_wants fs ls) inside
  object_seen t fs e (Made h inside) k =
      let r : (ls : List Bytes) × (h ≡ Object ls) × IsObject fs ls = object_root fs h (subst (λ x. Fits head known kinds x h inside) e k.0) in
      (r.0, inside, ap (λ g. Made g inside) r.1, r.2, subst (λ x. HasThese (wants (Object r.0) x (count inside)) inside) e (subst (λ g. HasThese (wants g (head t) (count inside)) inside) r.1 k.1))
  object_seen t fs e (Function f) k = absurd (subst (λ x. FunctionFits head known kinds x f t) e k)

  under_has : (fs : List (Field TypeId)) (l : Bytes) (ls : List Bytes) (inside : Shapes F) → IsAmong l ls → HasThese (field_wants fs ls) inside → (x : Shape F) × (under l ls (listed inside) ≡ Some x) × H (field_want (find l fs)) x
  under_has fs l [] inside a h = absurd a
  under_has fs l (m ∷ ms) NoShape a h = absurd h
  under_has fs l (m ∷ ms) (AShape v vs) a h = by (λ i. under_has fs l ms vs i h.1) (bytes_eq l m) refl a
    where
      by : (IsAmong l ms → (x : Shape F) × (under l ms (listed vs) ≡ Some x) × H (field_want (find l fs)) x) → (b : Bool) → bytes_eq l m ≡ b → IsAmong l (m ∷ ms) → (x : Shape F) × (under l (m ∷ ms) (listed (AShape v vs)) ≡ Some x) × H (field_want (find l fs)) x
      by later true e i = (v, ap (λ b. cond b (Some v) (under l ms (listed vs))) e, subst (λ k. H (field_want (find k fs)) v) (sym ((bytes_eq-Decides l m).0 e)) h.0)
      by later false e (inl i) = absurd (no (sym e ∙ (bytes_eq-Decides l m).1 i))
      by later false e (inr i) =
          let r : (x : Shape F) × (under l ms (listed vs) ≡ Some x) × H (field_want (find l fs)) x = later i in
          (r.0, ap (λ b. cond b (Some v) (under l ms (listed vs))) e ∙ r.1, r.2)

  pub field : (l : Bytes) → Sound (op.Field l)
  field l ws w vs t h =
      let v : (v : Shape F) × (vs ≡ v ∷ []) × H (Of t.0) v = one head known kinds t.0 ws vs t.1 h in
      let fs : List (Field TypeId) = t.2.0 in
      let f : Field TypeId = t.2.1 in
      let a : (ls : List Bytes) × (inside : Shapes F) × (v.0 ≡ Made (Object ls) inside) × IsObject fs ls × HasThese (field_wants fs ls) inside = object_seen t.0 fs t.2.2 v.0 v.2 in
      let i : (f.label ≡ l) × IsAmong f.label a.0 = found l fs f (λ g. IsAmong g.label a.0) t.2.3 a.3 in
      let x : (x : Shape F) × (under l a.0 (listed a.1) ≡ Some x) × H (field_want (find l fs)) x = under_has fs l a.0 a.1 (subst (λ k. IsAmong k a.0) i.0 i.1) a.4 in
      let is : H w x.0 = subst (λ y. H y x.0) (sym t.2.4) (subst (λ o. H (field_want o) x.0) t.2.3 x.2) in
      subst (λ us. Answers w (operate head (op.Field l) us)) (sym v.1)
      (seen head known kinds w (field_of l v.0) x.0 _ (ap (field_of l) a.2 ∙ x.1) is)
