-- Candid values of typed values are turned back into them.
use Rattle.std.proofs.Common.{◌≡◌, ℕ, ◌⊎◌, inl, inr, List, [], ◌∷◌, refl, sym, ap, ◌∙◌, subst}
use Rattle.mo_types.specs.declared.datum.Datum.{Datum}
use Rattle.mo_types.specs.declared.datum.Datum.TheVariants as part
use Rattle.mo_types.specs.declared.node.Node.{Node}
use Rattle.mo_types.specs.declared.node.Node.TheVariants as node
use Rattle.mo_types.specs.Form.{bytes_one_by_one, form_part, is_unit_by, under_tag, form_inner, form}
use Rattle.mo_types.specs.Values.{Values, Nil, Value, inside, IsPartOf, HaveTypes}
use Rattle.mo_coding.specs.Keeping.{bytes_of, motoko_part, unit_or, from_tag, motoko_inner, unform}

bytes_back : (bytes : List ℕ) → bytes_of (bytes_one_by_one bytes) ≡ bytes
bytes_back [] = refl
bytes_back (b ∷ bs) = ap (λ l. b ∷ l) (bytes_back bs)

module _ {A : Type 0} (head : A → Node A) where
  part_back : (n : Node A) (p : Datum) (f : Values) → IsPartOf n p → motoko_part n (form_part n p) (form_inner head n p f) ≡ p
  part_back node.Char (part.Char c) f h = refl
  part_back node.Char p f h = absurd h
  part_back node.Blob (part.Blob b) f h = ap (λ (l : List ℕ). part.Blob l) (bytes_back b)
  part_back node.Blob p f h = absurd h
  part_back node.Any (part.Record n) f h = ap (λ (k : ℕ). part.Record k) (sym h)
  part_back node.Any p f h = absurd h
  part_back n p f h = refl

  none_typed : (inner : Values) → HaveTypes head [] inner → Nil ≡ inner
  none_typed Nil h = refl
  none_typed (Value p i o) h = absurd h

  -- a value of the type of ()
  unit_typed : (t : A) (inner : Values) → head t ≡ node.Tuple [] → HaveTypes head (t ∷ []) inner → Value (part.Record 0) Nil Nil ≡ inner
  unit_typed t Nil e h = absurd h
  unit_typed t (Value p i o) e h = by p (subst (λ (n : Node A). IsPartOf n p) e h.0) (subst (λ (n : Node A). HaveTypes head (inside n p) i) e h.1) where
    by : (p : Datum) → IsPartOf {A = A} (node.Tuple []) p → HaveTypes head (inside (node.Tuple []) p) i → Value (part.Record 0) Nil Nil ≡ Value p i o
    by (part.Record n) k l = ap (λ (m : ℕ). Value (part.Record m) Nil Nil) (sym k) ∙ ap (λ v. Value (part.Record n) v Nil) (none_typed i l) ∙ ap (λ v. Value (part.Record n) i v) (none_typed o h.2)
    by p k l = absurd k

  -- the type of (), or one where nothing changes
  unit_case : (n : Node A) → (n ≡ node.Tuple []) ⊎ (((u o : Values) → is_unit_by head n u o ≡ o) × ((o : Values) → unit_or n o ≡ o))
  unit_case (node.Tuple []) = inl refl
  unit_case n = inr (λ u o. refl, λ o. refl)

  abbrev Back : List A → Values → Type 0
  Back ts inner = unform head ts (form head ts inner) ≡ inner

  tag_back : (ts : List A) (inner : Values) → HaveTypes head ts inner → Back ts inner → from_tag head ts (unform head ts (under_tag head ts (form head ts inner))) ≡ inner
  tag_back [] inner h b = b
  tag_back (t ∷ s ∷ ts) inner h b = b
  tag_back (t ∷ []) inner h b = by (unit_case (head t)) where
    by : (head t ≡ node.Tuple []) ⊎ (((u o : Values) → is_unit_by head (head t) u o ≡ o) × ((o : Values) → unit_or (head t) o ≡ o)) → from_tag head (t ∷ []) (unform head (t ∷ []) (under_tag head (t ∷ []) (form head (t ∷ []) inner))) ≡ inner
    by (inl e) = ap (λ (n : Node A). unit_or n (unform head (t ∷ []) (under_tag head (t ∷ []) (form head (t ∷ []) inner)))) e ∙ unit_typed t inner e h
    by (inr k) = k.1 (unform head (t ∷ []) (under_tag head (t ∷ []) (form head (t ∷ []) inner))) ∙ ap (unform head (t ∷ [])) (k.0 (Value part.Null Nil Nil) (form head (t ∷ []) inner)) ∙ b

  inner_back : (n : Node A) (p : Datum) (inner : Values) → IsPartOf n p → HaveTypes head (inside n p) inner → Back (inside n p) inner → motoko_inner head n p (unform head (inside n p) (form_inner head n p (form head (inside n p) inner))) ≡ inner
  inner_back node.Blob p inner h t b = none_typed inner t
  inner_back node.Any p inner h t b = none_typed inner t
  inner_back (node.Variant fs) p inner h t b = tag_back (inside (node.Variant fs) p) inner t b
  inner_back n p inner h t b = b

  pub form_back : (w : Values) (ts : List A) → HaveTypes head ts w → unform head ts (form head ts w) ≡ w
  form_back Nil [] h = refl
  form_back Nil (t ∷ ts) h = absurd h
  form_back (Value p inner others) [] h = absurd h
  form_back (Value p inner others) (t ∷ ts) h =
      let n = head t in
      let f = form_inner head n p (form head (inside n p) inner) in
      let e : motoko_part n (form_part n p) f ≡ p = part_back n p (form head (inside n p) inner) h.0 in
      let i = inner_back n p inner h.0 h.1 (form_back inner (inside n p) h.1) in
      ap (λ q. Value q (motoko_inner head n q (unform head (inside n q) f)) (unform head ts (form head ts others))) e
      ∙ ap (λ v. Value p v (unform head ts (form head ts others))) i
      ∙ ap (λ v. Value p inner v) (form_back others ts h.2)
