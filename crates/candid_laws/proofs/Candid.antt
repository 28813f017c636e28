-- No two values of a type have the same Candid value.
use Rattle.std.proofs.Common.{◌≡◌, ℕ, List, [], ◌∷◌, Option, Some, None, slice_get, refl, sym, ap, ◌∙◌, subst}
use Rattle.mo_types.specs.declared.datum.Datum.{Datum}
use Rattle.mo_types.specs.declared.datum.Datum.TheVariants as part
use Rattle.mo_types.specs.declared.node.Node.{Node}
use Rattle.mo_types.specs.declared.node.Node.TheVariants as node
use Rattle.mo_types.specs.declared.node.Field.{Field}
use Rattle.mo_types.specs.Form.{bytes_one_by_one, form_part, form_inner, is_unit_by, under_tag, form}
use Rattle.mo_types.specs.Values.{Values, Nil, Value, by_label, one_type, inside, IsPartOf, HaveTypes}
use Rattle.mo_types.specs.Code.{Keep}
use Rattle.candid_laws.proofs.Once.{same_value}

module _ {A : Type 0} (head : A → Node A) where
  abbrev Once : Values → Values → Type 0
  Once i j = (ts : List A) → HaveTypes head ts i → HaveTypes head ts j → form head ts i ≡ form head ts j → i ≡ j

  bytes_once : (s t : List ℕ) → bytes_one_by_one s ≡ bytes_one_by_one t → s ≡ t
  bytes_once [] [] e = refl
  bytes_once [] (c ∷ t) e = cc
  bytes_once (b ∷ s) [] e = cc
  bytes_once (b ∷ s) (c ∷ t) e =
      let f : b ≡ c = cc in
      let g : bytes_one_by_one s ≡ bytes_one_by_one t = cc in
      ap (λ (x : ℕ). x ∷ s) f ∙ ap (λ (l : List ℕ). c ∷ l) (bytes_once s t g)

  nothing : (v : Values) → HaveTypes head [] v → v ≡ Nil
  nothing Nil h = refl
  nothing (Value p i o) h = absurd h

  none_inside : (i j : Values) → HaveTypes head [] i → HaveTypes head [] j → i ≡ j
  none_inside i j h k = nothing i h ∙ sym (nothing j k)

  -- where the part and what is inside it are the same
  kept : (n : Node A) (p q : Datum) (i j : Values) → Once i j → HaveTypes head (inside n p) i → HaveTypes head (inside n q) j → p ≡ q → form head (inside n p) i ≡ form head (inside n q) j → (p ≡ q) × (i ≡ j)
  kept n p q i j once h k e f =
      (e, once (inside n q) (subst (λ (d : Datum). HaveTypes head (inside n d) i) e h) k (ap (λ (d : Datum). form head (inside n d) i) (sym e) ∙ f))

  unit_once : (t : A) (i : Values) → head t ≡ node.Tuple [] → HaveTypes head (t ∷ []) i → i ≡ Value (part.Record 0) Nil Nil
  unit_once t Nil e h = absurd h
  unit_once t (Value p i (Value q j o)) e h = absurd h.2
  unit_once t (Value p i Nil) e h = by p i (subst (λ (n : Node A). IsPartOf n p × HaveTypes head (inside n p) i × Unit {0}) e h) where
    by : (p : Datum) (i : Values) → IsPartOf {A = A} (node.Tuple []) p × HaveTypes head (inside (node.Tuple []) p) i × Unit {0} → Value p i Nil ≡ Value (part.Record 0) Nil Nil
    by (part.Record n) i h = same_value (part.Record n) (part.Record 0) i Nil Nil Nil (ap (λ (k : ℕ). part.Record k) h.0) (nothing i h.1) refl
    by p i h = absurd h.0

  payload_once : (t : A) (m : Node A) (i j : Values) → head t ≡ m → Once i j → HaveTypes head (t ∷ []) i → HaveTypes head (t ∷ []) j → is_unit_by head m (Value part.Null Nil Nil) (form head (t ∷ []) i) ≡ is_unit_by head m (Value part.Null Nil Nil) (form head (t ∷ []) j) → i ≡ j
  payload_once t (node.Tuple []) i j e once h k f = unit_once t i e h ∙ sym (unit_once t j e k)
  payload_once t m i j e once h k f = once (t ∷ []) h k f

  tagged_once : (o : Option (Field A)) (i j : Values) → Once i j → HaveTypes head (one_type o) i → HaveTypes head (one_type o) j → under_tag head (one_type o) (form head (one_type o) i) ≡ under_tag head (one_type o) (form head (one_type o) j) → i ≡ j
  tagged_once None i j once h k f = none_inside i j h k
  tagged_once (Some g) i j once h k f = payload_once g.part (head g.part) i j refl once h k f

  node_once : (n : Node A) (p q : Datum) (i j : Values) → Once i j → IsPartOf n p → HaveTypes head (inside n p) i → IsPartOf n q → HaveTypes head (inside n q) j → form_part n p ≡ form_part n q →
      form_inner head n p (form head (inside n p) i) ≡ form_inner head n q (form head (inside n q) j) → (p ≡ q) × (i ≡ j)
  node_once node.Char (part.Char c) (part.Char d) i j once tp h tq k e f = let g : c ≡ d = cc in (ap (λ (x : ℕ). part.Char x) g, none_inside i j h k)
  node_once node.Char (part.Char c) q i j once tp h tq k e f = absurd tq
  node_once node.Char p q i j once tp h tq k e f = absurd tp
  node_once node.Blob (part.Blob s) (part.Blob t) i j once tp h tq k e f = (ap (λ (x : List ℕ). part.Blob x) (bytes_once s t f), none_inside i j h k)
  node_once node.Blob (part.Blob s) q i j once tp h tq k e f = absurd tq
  node_once node.Blob p q i j once tp h tq k e f = absurd tp
  node_once node.Any (part.Record m) (part.Record n) i j once tp h tq k e f = (ap (λ (x : ℕ). part.Record x) (tp ∙ sym tq), none_inside i j h k)
  node_once node.Any (part.Record m) q i j once tp h tq k e f = absurd tq
  node_once node.Any p q i j once tp h tq k e f = absurd tp
  node_once (node.Variant fs) (part.Tag m) (part.Tag n) i j once tp h tq k e f =
      let g : n ≡ m = cc in
      let o = slice_get (by_label fs) m in
      let moved = subst (λ (x : ℕ). HaveTypes head (inside (node.Variant fs) (part.Tag x)) j) g k in
      let same = subst (λ (x : ℕ). under_tag head (one_type o) (form head (one_type o) i) ≡ under_tag head (one_type (slice_get (by_label fs) x)) (form head (one_type (slice_get (by_label fs) x)) j)) g f in
      (e, tagged_once o i j once h moved same)
  node_once (node.Variant fs) (part.Tag m) q i j once tp h tq k e f = absurd tq
  node_once (node.Variant fs) p q i j once tp h tq k e f = absurd tp
  node_once n p q i j once tp h tq k e f = kept n p q i j once h k e f

  pub form_once : (ts : List A) (v w : Values) → HaveTypes head ts v → HaveTypes head ts w → form head ts v ≡ form head ts w → v ≡ w
  form_once [] v w h k e = none_inside v w h k
  form_once (t ∷ ts) Nil w h k e = absurd h
  form_once (t ∷ ts) (Value p i o) Nil h k e = absurd k
  form_once (t ∷ ts) (Value p i o) (Value q j u) h k e =
      let f : form_part (head t) p ≡ form_part (head t) q = cc in
      let g : form_inner head (head t) p (form head (inside (head t) p) i) ≡ form_inner head (head t) q (form head (inside (head t) q) j) = cc in
      let l : form head ts o ≡ form head ts u = cc in
      let x = node_once (head t) p q i j (λ us a b c. form_once us i j a b c) h.0 h.1 k.0 k.1 f g in
      same_value p q i j o u x.0 x.1 (form_once ts o u h.2 k.2 l)

pub kept_once : {A B : Type 0} (head : A → Node A) (next : B → Node B) (t : A) (u : B) (v w x : Values) → Keep head next t u v w → Keep head next t u v x → w ≡ x
kept_once head next t u v w x h k = form_once next (u ∷ []) w x h.new k.new (h.same ∙ sym k.same)
