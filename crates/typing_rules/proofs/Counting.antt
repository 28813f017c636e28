-- Where these are all types that are reached, and they are within the limits, there are few types.
use Rattle.std.proofs.Common.{◌≡◌, ◌≢◌, ◌⊎◌, inl, inr, ℕ, ◌+◌, ◌≤◌, List, [], ◌∷◌, ◌++◌, length, refl, sym, ap, subst, ◌∙◌, arith}
use Rattle.mo_types.specs.Sub.{Each}
use Rattle.mo_types.specs.Layout.{entries}
use Rattle.subtype_laws.specs.Reached.{Among}
use Rattle.subtype_laws.proofs.Reflexive.{among_left}
use Rattle.subtype_laws.proofs.Monotone.{each_map}
use Rattle.typed_tree.specs.OperationTypes.{Distinct}
use Rattle.typing_rules.specs.Terms.{Term}
use Rattle.typing_rules.specs.Definitions.{Definitions}
use Rattle.typing_rules.specs.Heads.{head}
use Rattle.typing_rules.specs.Counts.{Reached, Met, Part, FewTypes, sizes}

module _ {A : Type 0} where
  abbrev sum_of : (A → ℕ) → List A → ℕ
  sum_of w [] = 0
  sum_of w (x ∷ xs) = w x + sum_of w xs

  -- the list without one that is among it
  record Without (x : A) (ts : List A) : Type 0 where
    pub rest : List A
    pub sum : (w : A → ℕ) → sum_of w ts ≡ w x + sum_of w rest
    pub others : (y : A) → Among y ts → (x ≡ y) ⊎ Among y rest

  later : (x t : A) (ts : List A) → Without x ts → Without x (t ∷ ts)
  later x t ts r = record {
    rest = t ∷ r.rest;
    sum = λ w. (let h : sum_of w ts ≡ w x + sum_of w r.rest = r.sum w in omega arith);
    others = others;
  }
    where
      wider : (y : A) → (x ≡ y) ⊎ Among y r.rest → (x ≡ y) ⊎ Among y (t ∷ r.rest)
      wider y (inl e) = inl e
      wider y (inr h) = inr (inr h)

      others : (y : A) → Among y (t ∷ ts) → (x ≡ y) ⊎ Among y (t ∷ r.rest)
      others y (inl e) = inr (inl e)
      others y (inr h) = wider y (r.others y h)

  without : (x : A) (ts : List A) → Among x ts → Without x ts
  without x [] h = absurd h
  without x (t ∷ ts) (inl e) = record {
    rest = ts;
    sum = λ w. ap (λ z. w z + sum_of w ts) e;
    others = others;
  }
    where
      others : (y : A) → Among y (t ∷ ts) → (x ≡ y) ⊎ Among y ts
      others y (inl f) = inl (sym e ∙ f)
      others y (inr h) = inr h
  without x (t ∷ ts) (inr h) = later x t ts (without x ts h)

  each_among : (P : A → Type 0) (xs : List A) → Each P xs → (x : A) → Among x xs → P x
  each_among P [] e x h = absurd h
  each_among P (y ∷ ys) e x (inl f) = subst P f e.0
  each_among P (y ∷ ys) e x (inr h) = each_among P ys e.1 x h

  left : (x : A) (xs ts : List A) (r : Without x ts) → Each (λ y. x ≢ y) xs → ((y : A) → Among y xs → Among y ts) → (y : A) → Among y xs → Among y r.rest
  left x xs ts r d s y h = other (r.others y (s y h))
    where
      other : (x ≡ y) ⊎ Among y r.rest → Among y r.rest
      other (inl e) = absurd (each_among (λ z. x ≢ z) xs d y h e)
      other (inr m) = m

  -- different ones among a list are no more than the list
  at_most : (w : A → ℕ) (xs ts : List A) → Distinct xs → ((x : A) → Among x xs → Among x ts) → sum_of w xs ≤ sum_of w ts
  at_most w [] ts d s = let h : 0 ≤ sum_of w ts = omega arith in h
  at_most w (x ∷ xs) ts d s =
      let r = without x ts (s x (inl refl)) in
      let h : sum_of w xs ≤ sum_of w r.rest = at_most w xs r.rest d.1 (left x xs ts r d.0 (λ y m. s y (inr m))) in
      let e : sum_of w ts ≡ w x + sum_of w r.rest = r.sum w in
      omega arith

  lengths : (xs : List A) → sum_of (λ x. 1) xs ≡ length xs
  lengths [] = refl
  lengths (x ∷ xs) = let h : sum_of (λ x. 1) xs ≡ length xs = lengths xs in omega arith

module _ (defs : Definitions) where
  totals : (ts : List Term) → sum_of (λ t. entries (head defs t)) ts ≡ sizes defs ts
  totals [] = refl
  totals (t ∷ ts) = ap (λ n. entries (head defs t) + n) (totals ts)

  pub few : (met terms : List Term) → ((u : Term) → Reached defs met u → Among u terms) → length terms ≤ 4096 → sizes defs terms ≤ 65536 → FewTypes defs met
  few met terms all fits small list d r =
      let s : (x : Term) → Among x list → Among x terms = λ x m. all x (each_among (Reached defs met) list r x m) in
      let h : sum_of (λ x. 1) list ≤ sum_of (λ x. 1) terms = at_most (λ x. 1) list terms d s in
      let g : sum_of (λ t. entries (head defs t)) list ≤ sum_of (λ t. entries (head defs t)) terms = at_most (λ t. entries (head defs t)) list terms d s in
      let a : sum_of (λ x. 1) list ≡ length list = lengths list in
      let b : sum_of (λ x. 1) terms ≡ length terms = lengths terms in
      let c : sum_of (λ t. entries (head defs t)) list ≡ sizes defs list = totals list in
      let e : sum_of (λ t. entries (head defs t)) terms ≡ sizes defs terms = totals terms in
      (omega arith, omega arith)

  wide : (xs ys : List Term) (u : Term) → Reached defs xs u → Reached defs (xs ++ ys) u
  wide xs ys u (Met t m) = Met t (among_left t xs ys m)
  wide xs ys u (Part t v r m) = Part t v (wide xs ys t r) m

  -- where fewer types are met, there are few too
  pub fewer : (xs ys : List Term) → FewTypes defs (xs ++ ys) → FewTypes defs xs
  fewer xs ys f list d r = f list d (each_map (Reached defs xs) (Reached defs (xs ++ ys)) (λ u. wide xs ys u) list r)
