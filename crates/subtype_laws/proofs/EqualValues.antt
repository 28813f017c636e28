-- Equal types have the same values, with the same Candid values.
use Rattle.std.proofs.Common.{◌≡◌, inl, inr, ℕ, zero, suc, ◌<◌, List, [], ◌∷◌, length, nat_lt, refl, sym, ap, ◌∙◌, subst, if◌then◌else◌}
use Rattle.std.specs.Prelude.{slice_get}
use Rattle.mo_types.specs.declared.datum.Datum.{Datum}
use Rattle.mo_types.specs.declared.datum.Datum.TheVariants as part
use Rattle.mo_types.specs.declared.node.Node.{Node}
use Rattle.mo_types.specs.declared.node.Node.TheVariants as node
use Rattle.mo_types.specs.declared.node.Field.{Field}
use Rattle.mo_types.specs.declared.node.Sort.{Sort}
use Rattle.mo_types.specs.Form.{form_part, is_unit_by, under_tag, form_inner, form}
use Rattle.mo_types.specs.Sub.{Each}
use Rattle.mo_types.specs.Values.{Values, Nil, Value, by_label, types_of, copies, one_type, inside, IsPartOf, HaveTypes}
use Rattle.mo_types.specs.Wire.{SameParts}
use Rattle.subtype_laws.specs.Equal.{AreTold, AreEqual, IsTold}
use Rattle.subtype_laws.specs.Reached.{Itself}
use Rattle.subtype_laws.proofs.Sorting.{PlaceByPlace, length_sort}
use Rattle.subtype_laws.proofs.KeyOrders.{id_of, by_label_is}
use Rattle.subtype_laws.proofs.Matching.{Match}
use Rattle.subtype_laws.proofs.EqualHeads.{Hidden, Both, Alike}
use Rattle.subtype_laws.proofs.ToldHeads.{Told, told_alike, both_told}
use Rattle.subtype_laws.proofs.EqualWires.{is_unit, label_lines, same_unit}

lines_length : {X : Type 0} (M : X → X → Type 0) (xs ys : List X) → PlaceByPlace M xs ys → length xs ≡ length ys
lines_length M [] [] h = refl
lines_length M [] (y ∷ ys) h = absurd h
lines_length M (x ∷ xs) [] h = absurd h
lines_length M (x ∷ xs) (y ∷ ys) h = ap suc (lines_length M xs ys h.1)

parts_length : {A : Type 0} (R : A → A → Type 0) (ts us : List A) → SameParts R ts us → length ts ≡ length us
parts_length R [] [] h = refl
parts_length R [] (u ∷ us) h = absurd h
parts_length R (t ∷ ts) [] h = absurd h
parts_length R (t ∷ ts) (u ∷ us) h = ap suc (parts_length R ts us h.1)

module _ {A : Type 0} (S : A → A → Type 0) where
  as_many : (fs gs : List (Field A)) → PlaceByPlace (Match S) (by_label fs) (by_label gs) → length fs ≡ length gs
  as_many fs gs h = sym (ordered fs) ∙ lines_length (Match S) (by_label fs) (by_label gs) h ∙ ordered gs where
    ordered : (fs : List (Field A)) → length (by_label fs) ≡ length fs
    ordered fs = ap length (by_label_is fs) ∙ length_sort id_of nat_lt fs

  lines_types : (fs gs : List (Field A)) → PlaceByPlace (Match S) fs gs → SameParts (Both S) (types_of fs) (types_of gs)
  lines_types [] [] h = tt
  lines_types [] (g ∷ gs) h = absurd h
  lines_types (f ∷ fs) [] h = absurd h
  lines_types (f ∷ fs) (g ∷ gs) h = ((h.0.1, h.0.2), lines_types fs gs h.1)

  lines_at : (fs gs : List (Field A)) → PlaceByPlace (Match S) fs gs → (i : ℕ) → SameParts (Both S) (one_type (slice_get fs i)) (one_type (slice_get gs i))
  lines_at [] [] h i = tt
  lines_at [] (g ∷ gs) h i = absurd h
  lines_at (f ∷ fs) [] h i = absurd h
  lines_at (f ∷ fs) (g ∷ gs) h zero = ((h.0.1, h.0.2), tt)
  lines_at (f ∷ fs) (g ∷ gs) h (suc i) = lines_at fs gs h.1 i

  copies_both : (n : ℕ) (a b : A) → Both S a b → SameParts (Both S) (copies n a) (copies n b)
  copies_both zero a b r = tt
  copies_both (suc n) a b r = (r, copies_both n a b r)

  -- ---- outermost parts

  option_part : (a b : A) (p : Datum) → IsPartOf (node.Opt a) p → IsPartOf (node.Opt b) p
  option_part a b part.Null h = tt
  option_part a b part.Present h = tt
  option_part a b p h = absurd h

  array_part : (a b : A) (p : Datum) → IsPartOf (node.Array a) p → IsPartOf (node.Array b) p
  array_part a b (part.Many n) h = tt
  array_part a b p h = absurd h

  tuple_part : (ts us : List A) (p : Datum) → length ts ≡ length us → IsPartOf (node.Tuple ts) p → IsPartOf (node.Tuple us) p
  tuple_part ts us (part.Record n) e h = h ∙ e
  tuple_part ts us p e h = absurd h

  object_part : (fs gs : List (Field A)) (p : Datum) → length fs ≡ length gs → IsPartOf (node.Object fs) p → IsPartOf (node.Object gs) p
  object_part fs gs (part.Record n) e h = h ∙ e
  object_part fs gs p e h = absurd h

  variant_part : (fs gs : List (Field A)) (p : Datum) → length fs ≡ length gs → IsPartOf (node.Variant fs) p → IsPartOf (node.Variant gs) p
  variant_part fs gs (part.Tag i) e h = subst (λ n. i < n) e h
  variant_part fs gs p e h = absurd h

  actor_part : (fs gs : List (Field A)) (p : Datum) → IsPartOf (node.Actor fs) p → IsPartOf (node.Actor gs) p
  actor_part fs gs (part.Actor q) h = h
  actor_part fs gs p h = absurd h

  method_part : (k : Sort) (ps rs qs ss : List A) (p : Datum) → IsPartOf (node.Func k ps rs) p → IsPartOf (node.Func k qs ss) p
  method_part k ps rs qs ss (part.Method q m) h = h
  method_part k ps rs qs ss p h = absurd h

  part_same : (x y : Node A) (p : Datum) → AreTold x → Alike S x y → IsPartOf x p → IsPartOf y p
  part_same (node.Number k) y p d e h = subst (λ y. IsPartOf y p) (sym e) h
  part_same node.Bool y p d e h = subst (λ y. IsPartOf y p) (sym e) h
  part_same node.Char y p d e h = subst (λ y. IsPartOf y p) (sym e) h
  part_same node.Text y p d e h = subst (λ y. IsPartOf y p) (sym e) h
  part_same node.Blob y p d e h = subst (λ y. IsPartOf y p) (sym e) h
  part_same node.Principal y p d e h = subst (λ y. IsPartOf y p) (sym e) h
  part_same node.Error y p d e h = subst (λ y. IsPartOf y p) (sym e) h
  part_same node.Null y p d e h = subst (λ y. IsPartOf y p) (sym e) h
  part_same node.Any y p d e h = subst (λ y. IsPartOf y p) (sym e) h
  part_same node.Bottom y p d a h = absurd h
  part_same (node.Variable v b) y p d a h = absurd h
  part_same (node.MutArray a) y p d e h = absurd h
  part_same (node.Async a) y p d e h = absurd h
  part_same (node.Opt a) y p d (b, e, r) h = subst (λ y. IsPartOf y p) (sym e) (option_part a b p h)
  part_same (node.Array a) y p d (b, e, r) h = subst (λ y. IsPartOf y p) (sym e) (array_part a b p h)
  part_same (node.Tuple ts) y p d (us, e, s) h = subst (λ y. IsPartOf y p) (sym e) (tuple_part ts us p (parts_length (Both S) ts us s) h)
  part_same (node.Object fs) y p d (gs, e, f, m) h = subst (λ y. IsPartOf y p) (sym e) (object_part fs gs p (as_many fs gs (label_lines S fs gs d f m)) h)
  part_same (node.Variant fs) y p d (gs, e, f, m) h = subst (λ y. IsPartOf y p) (sym e) (variant_part fs gs p (as_many fs gs (label_lines S fs gs d f m)) h)
  part_same (node.Actor fs) y p d (gs, e, f, m) h = subst (λ y. IsPartOf y p) (sym e) (actor_part fs gs p h)
  part_same (node.Func k ps rs) y p d (qs, ss, e, q, r) h = subst (λ y. IsPartOf y p) (sym e) (method_part k ps rs qs ss p h)

  -- ---- what is inside

  option_inside : (a b : A) (p : Datum) → Both S a b → SameParts (Both S) (inside (node.Opt a) p) (inside (node.Opt b) p)
  option_inside a b part.Present r = (r, tt)
  option_inside a b p r = tt

  array_inside : (a b : A) (p : Datum) → Both S a b → SameParts (Both S) (inside (node.Array a) p) (inside (node.Array b) p)
  array_inside a b (part.Many n) r = copies_both n a b r
  array_inside a b p r = tt

  tuple_inside : (ts us : List A) (p : Datum) → SameParts (Both S) ts us → SameParts (Both S) (inside (node.Tuple ts) p) (inside (node.Tuple us) p)
  tuple_inside ts us (part.Record n) s = s
  tuple_inside ts us p s = tt

  object_inside : (fs gs : List (Field A)) (p : Datum) → PlaceByPlace (Match S) (by_label fs) (by_label gs) → SameParts (Both S) (inside (node.Object fs) p) (inside (node.Object gs) p)
  object_inside fs gs (part.Record n) s = lines_types (by_label fs) (by_label gs) s
  object_inside fs gs p s = tt

  variant_inside : (fs gs : List (Field A)) (p : Datum) → PlaceByPlace (Match S) (by_label fs) (by_label gs) → SameParts (Both S) (inside (node.Variant fs) p) (inside (node.Variant gs) p)
  variant_inside fs gs (part.Tag i) s = lines_at (by_label fs) (by_label gs) s i
  variant_inside fs gs p s = tt

  abbrev Inside : Datum → Node A → Node A → Type 0
  Inside p x y = SameParts (Both S) (inside x p) (inside y p)

  hidden : (P : Node A → Type 0) (y : Node A) → P node.Bottom → ((v : ℕ) (b : A) → P (node.Variable v b)) → Hidden y → P y
  hidden P y f g (inl e) = subst P (sym e) f
  hidden P y f g (inr (v, b, e)) = subst P (sym e) (g v b)

  inside_same : (x y : Node A) (p : Datum) → AreTold x → Alike S x y → Inside p x y
  inside_same (node.Number k) y p d e = subst (Inside p (node.Number k)) (sym e) tt
  inside_same node.Bool y p d e = subst (Inside p node.Bool) (sym e) tt
  inside_same node.Char y p d e = subst (Inside p node.Char) (sym e) tt
  inside_same node.Text y p d e = subst (Inside p node.Text) (sym e) tt
  inside_same node.Blob y p d e = subst (Inside p node.Blob) (sym e) tt
  inside_same node.Principal y p d e = subst (Inside p node.Principal) (sym e) tt
  inside_same node.Error y p d e = subst (Inside p node.Error) (sym e) tt
  inside_same node.Null y p d e = subst (Inside p node.Null) (sym e) tt
  inside_same node.Any y p d e = subst (Inside p node.Any) (sym e) tt
  inside_same node.Bottom y p d a = hidden (Inside p node.Bottom) y tt (λ v b. tt) a
  inside_same (node.Variable w c) y p d a = hidden (Inside p (node.Variable w c)) y tt (λ v b. tt) a
  inside_same (node.MutArray a) y p d (b, e) = subst (Inside p (node.MutArray a)) (sym e) tt
  inside_same (node.Async a) y p d (b, e) = subst (Inside p (node.Async a)) (sym e) tt
  inside_same (node.Opt a) y p d (b, e, r) = subst (Inside p (node.Opt a)) (sym e) (option_inside a b p r)
  inside_same (node.Array a) y p d (b, e, r) = subst (Inside p (node.Array a)) (sym e) (array_inside a b p r)
  inside_same (node.Tuple ts) y p d (us, e, s) = subst (Inside p (node.Tuple ts)) (sym e) (tuple_inside ts us p s)
  inside_same (node.Object fs) y p d (gs, e, f, m) = subst (Inside p (node.Object fs)) (sym e) (object_inside fs gs p (label_lines S fs gs d f m))
  inside_same (node.Variant fs) y p d (gs, e, f, m) = subst (Inside p (node.Variant fs)) (sym e) (variant_inside fs gs p (label_lines S fs gs d f m))
  inside_same (node.Actor fs) y p d (gs, e, f, m) = subst (Inside p (node.Actor fs)) (sym e) tt
  inside_same (node.Func k ps rs) y p d (qs, ss, e, q, r) = subst (Inside p (node.Func k ps rs)) (sym e) tt

  -- ---- Candid values

  abbrev Parted : Datum → Node A → Node A → Type 0
  Parted p x y = form_part x p ≡ form_part y p

  form_part_same : (x y : Node A) (p : Datum) → Alike S x y → Parted p x y
  form_part_same (node.Number k) y p e = subst (Parted p (node.Number k)) (sym e) refl
  form_part_same node.Bool y p e = subst (Parted p node.Bool) (sym e) refl
  form_part_same node.Char y p e = subst (Parted p node.Char) (sym e) refl
  form_part_same node.Text y p e = subst (Parted p node.Text) (sym e) refl
  form_part_same node.Blob y p e = subst (Parted p node.Blob) (sym e) refl
  form_part_same node.Principal y p e = subst (Parted p node.Principal) (sym e) refl
  form_part_same node.Error y p e = subst (Parted p node.Error) (sym e) refl
  form_part_same node.Null y p e = subst (Parted p node.Null) (sym e) refl
  form_part_same node.Any y p e = subst (Parted p node.Any) (sym e) refl
  form_part_same node.Bottom y p a = hidden (Parted p node.Bottom) y refl (λ v b. refl) a
  form_part_same (node.Variable w c) y p a = hidden (Parted p (node.Variable w c)) y refl (λ v b. refl) a
  form_part_same (node.MutArray a) y p (b, e) = subst (Parted p (node.MutArray a)) (sym e) refl
  form_part_same (node.Async a) y p (b, e) = subst (Parted p (node.Async a)) (sym e) refl
  form_part_same (node.Opt a) y p (b, e, r) = subst (Parted p (node.Opt a)) (sym e) refl
  form_part_same (node.Array a) y p (b, e, r) = subst (Parted p (node.Array a)) (sym e) refl
  form_part_same (node.Tuple ts) y p (us, e, s) = subst (Parted p (node.Tuple ts)) (sym e) refl
  form_part_same (node.Object fs) y p (gs, e, f, m) = subst (Parted p (node.Object fs)) (sym e) refl
  form_part_same (node.Variant fs) y p (gs, e, f, m) = subst (Parted p (node.Variant fs)) (sym e) refl
  form_part_same (node.Actor fs) y p (gs, e, f, m) = subst (Parted p (node.Actor fs)) (sym e) refl
  form_part_same (node.Func k ps rs) y p (qs, ss, e, q, r) = subst (Parted p (node.Func k ps rs)) (sym e) refl

module _ {A : Type 0} (head : A → Node A) where
  by_unit : (n : Node A) (unit other : Values) → is_unit_by head n unit other ≡ (if is_unit n then unit else other)
  by_unit (node.Tuple []) unit other = refl
  by_unit n unit other = refl

  under : (ts us : List A) (i j : Values) → SameParts (Both (Told head)) ts us → i ≡ j → under_tag head ts i ≡ under_tag head us j
  under [] [] i j s e = e
  under [] (u ∷ us) i j s e = absurd s
  under (t ∷ ts) [] i j s e = absurd s
  under (t ∷ []) (u ∷ []) i j s e =
      by_unit (head t) (Value part.Null Nil Nil) i ∙ ap (λ o. if is_unit (head t) then Value part.Null Nil Nil else o) e ∙ ap (λ b. if b then Value part.Null Nil Nil else j) (same_unit head t u s.0) ∙ sym (by_unit (head u) (Value part.Null Nil Nil) j)
  under (t ∷ []) (u ∷ v ∷ us) i j s e = absurd s.1
  under (t ∷ v ∷ ts) (u ∷ []) i j s e = absurd s.1
  under (t ∷ v ∷ ts) (u ∷ w ∷ us) i j s e = e

  abbrev Formed : Datum → Values → Values → Node A → Node A → Type 0
  Formed p i j x y = form_inner head x p i ≡ form_inner head y p j

  form_inner_same : (x y : Node A) (p : Datum) (i j : Values) → AreTold x → Alike (Told head) x y → i ≡ j → Formed p i j x y
  form_inner_same (node.Number k) y p i j d e h = subst (Formed p i j (node.Number k)) (sym e) h
  form_inner_same node.Bool y p i j d e h = subst (Formed p i j node.Bool) (sym e) (ap (form_inner head node.Bool p) h)
  form_inner_same node.Char y p i j d e h = subst (Formed p i j node.Char) (sym e) (ap (form_inner head node.Char p) h)
  form_inner_same node.Text y p i j d e h = subst (Formed p i j node.Text) (sym e) (ap (form_inner head node.Text p) h)
  form_inner_same node.Blob y p i j d e h = subst (Formed p i j node.Blob) (sym e) (ap (form_inner head node.Blob p) h)
  form_inner_same node.Principal y p i j d e h = subst (Formed p i j node.Principal) (sym e) (ap (form_inner head node.Principal p) h)
  form_inner_same node.Error y p i j d e h = subst (Formed p i j node.Error) (sym e) (ap (form_inner head node.Error p) h)
  form_inner_same node.Null y p i j d e h = subst (Formed p i j node.Null) (sym e) (ap (form_inner head node.Null p) h)
  form_inner_same node.Any y p i j d e h = subst (Formed p i j node.Any) (sym e) (ap (form_inner head node.Any p) h)
  form_inner_same node.Bottom y p i j d a h = hidden (Told head) (Formed p i j node.Bottom) y h (λ v b. h) a
  form_inner_same (node.Variable w c) y p i j d a h = hidden (Told head) (Formed p i j (node.Variable w c)) y h (λ v b. h) a
  form_inner_same (node.MutArray a) y p i j d (b, e) h = subst (Formed p i j (node.MutArray a)) (sym e) h
  form_inner_same (node.Async a) y p i j d (b, e) h = subst (Formed p i j (node.Async a)) (sym e) h
  form_inner_same (node.Opt a) y p i j d (b, e, r) h = subst (Formed p i j (node.Opt a)) (sym e) h
  form_inner_same (node.Array a) y p i j d (b, e, r) h = subst (Formed p i j (node.Array a)) (sym e) h
  form_inner_same (node.Tuple ts) y p i j d (us, e, s) h = subst (Formed p i j (node.Tuple ts)) (sym e) h
  form_inner_same (node.Object fs) y p i j d (gs, e, f, m) h = subst (Formed p i j (node.Object fs)) (sym e) h
  form_inner_same (node.Actor fs) y p i j d (gs, e, f, m) h = subst (Formed p i j (node.Actor fs)) (sym e) h
  form_inner_same (node.Func k ps rs) y p i j d (qs, ss, e, q, r) h = subst (Formed p i j (node.Func k ps rs)) (sym e) h
  form_inner_same (node.Variant fs) y p i j d (gs, e, f, m) h =
      subst (Formed p i j (node.Variant fs)) (sym e)
      (under (inside (node.Variant fs) p) (inside (node.Variant gs) p) i j (variant_inside (Told head) fs gs p (label_lines (Told head) fs gs d f m)) h)

  -- ---- values

  told_values : (v : Values) (ts us : List A) → SameParts (Both (Told head)) ts us → HaveTypes head ts v → HaveTypes head us v
  told_values Nil [] [] s h = tt
  told_values Nil [] (u ∷ us) s h = absurd s
  told_values Nil (t ∷ ts) us s h = absurd h
  told_values (Value p i o) [] us s h = absurd h
  told_values (Value p i o) (t ∷ ts) [] s h = absurd s
  told_values (Value p i o) (t ∷ ts) (u ∷ us) s h =
      let a = told_alike head t u s.0 in (
        part_same (Told head) (head t) (head u) p (s.0.0.1 t Itself) a h.0,
        told_values i (inside (head t) p) (inside (head u) p) (inside_same (Told head) (head t) (head u) p (s.0.0.1 t Itself) a) h.1,
        told_values o ts us s.1 h.2,
      )

  value_same : (p q : Datum) (i j o u : Values) → p ≡ q → i ≡ j → o ≡ u → Value p i o ≡ Value q j u
  value_same p q i j o u e f g = ap (λ p. Value p i o) e ∙ ap (λ i. Value q i o) f ∙ ap (λ o. Value q j o) g

  told_forms : (v : Values) (ts us : List A) → SameParts (Both (Told head)) ts us → form head ts v ≡ form head us v
  told_forms Nil [] [] s = refl
  told_forms Nil [] (u ∷ us) s = absurd s
  told_forms Nil (t ∷ ts) [] s = absurd s
  told_forms Nil (t ∷ ts) (u ∷ us) s = refl
  told_forms (Value p i o) [] [] s = refl
  told_forms (Value p i o) [] (u ∷ us) s = absurd s
  told_forms (Value p i o) (t ∷ ts) [] s = absurd s
  told_forms (Value p i o) (t ∷ ts) (u ∷ us) s =
      let a = told_alike head t u s.0 in
      let j : form head (inside (head t) p) i ≡ form head (inside (head u) p) i = told_forms i (inside (head t) p) (inside (head u) p) (inside_same (Told head) (head t) (head u) p (s.0.0.1 t Itself) a) in
      value_same (form_part (head t) p) (form_part (head u) p)
      (form_inner head (head t) p (form head (inside (head t) p) i)) (form_inner head (head u) p (form head (inside (head u) p) i)) (form head ts o) (form head us o)
      (form_part_same (Told head) (head t) (head u) p a)
      (form_inner_same (head t) (head u) p (form head (inside (head t) p) i) (form head (inside (head u) p) i) (s.0.0.1 t Itself) a j)
      (told_forms o ts us s.1)

  pub same_values : (v : Values) (ts us : List A) → SameParts (AreEqual head) ts us → Each (IsTold head) ts → Each (IsTold head) us → HaveTypes head ts v → HaveTypes head us v
  same_values v ts us s p q h = told_values v ts us (both_told head ts us s p q) h

  pub same_forms : (v : Values) (ts us : List A) → SameParts (AreEqual head) ts us → Each (IsTold head) ts → Each (IsTold head) us → form head ts v ≡ form head us v
  same_forms v ts us s p q = told_forms v ts us (both_told head ts us s p q)
