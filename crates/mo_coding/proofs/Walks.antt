-- Visiting adds at most so many types as there are, so that it leads through all of them.
use Rattle.std.proofs.Common.{◌≡◌, ℕ, zero, suc, ◌≤◌, ◌⊎◌, inl, inr, Bool, true, false, not, List, [], ◌∷◌, ◌++◌, length, refl, sym, ap, ◌∙◌, subst, arith}
use Rattle.mo_coding.specs.Walks.{step, visit}
use Rattle.mo_coding.proofs.Members.{Has, has_left, has_right, has_either, Distinct, distinct_push}
use Rattle.mo_coding.proofs.Counting.{count, at_most, fewer_by_one, none_passes}

module _ {B : Type 0} (known : List B → B → Bool) (parts : B → List B) where
  -- an order of first visit leads to another
  pub data Walk : List B → List B → List B → Type 0 where
    Done : {order : List B} → Walk order [] order
    Skip : {order ts out : List B} (t : B) → known order t ≡ true → Walk order ts out → Walk order (t ∷ ts) out
    New : {order ts out : List B} (t : B) → known order t ≡ false → Walk (order ++ t ∷ []) (parts t ++ ts) out → Walk order (t ∷ ts) out

  abbrev unknown : List B → B → Bool
  unknown order t = not (known order t)

  module _ (universe : List B) (grows : (order : List B) (t x : B) → known order x ≡ true → known (order ++ t ∷ []) x ≡ true)
      (learns : (order : List B) (t : B) → known (order ++ t ∷ []) t ≡ true) (closed : (t x : B) → Has (parts t) x → Has universe x) where
    all_known : (order todo : List B) → ((x : B) → Has todo x → known order x ≡ true) → Walk order todo order
    all_known order [] h = Done
    all_known order (t ∷ ts) h = Skip t (h t (inl refl)) (all_known order ts (λ x i. h x (inr i)))

    negated : (b : Bool) → not b ≡ false → b ≡ true
    negated true e = refl
    negated false e = sym e

    still_unknown : (order : List B) (t x : B) → unknown (order ++ t ∷ []) x ≡ true → unknown order x ≡ true
    still_unknown order t x e = by (known order x) refl where
      by : (b : Bool) → known order x ≡ b → unknown order x ≡ true
      by false f = ap not f
      by true f = let g : false ≡ true = sym (ap not (grows order t x f)) ∙ e in cc

    abbrev Covered : List B → Type 0
    Covered todo = (x : B) → Has todo x → Has universe x

    -- where so many are unknown, the rest leads through all
    abbrev Leads : ℕ → (List B → List B → List B) → Type 0
    Leads n next = (order todo : List B) → Covered todo → count (unknown order) universe ≤ n → Walk order todo (next order todo)

    steps : (n : ℕ) (next : List B → List B → List B) → Leads n next → (order todo : List B) → Covered todo → count (unknown order) universe ≤ suc n → Walk order todo (step known parts next order todo)
    steps n next leads order [] h c = Done
    steps n next leads order (t ∷ ts) h c = by (known order t) refl (steps n next leads order ts (λ x i. h x (inr i)) c) where
      by : (b : Bool) → known order t ≡ b → Walk order ts (step known parts next order ts) → Walk order (t ∷ ts) (elim b [ true ↦ step known parts next order ts | false ↦ next (order ++ t ∷ []) (parts t ++ ts) ])
      by true e w = Skip t e w
      by false e w =
          let less = fewer_by_one (unknown order) (unknown (order ++ t ∷ [])) (still_unknown order t) universe t (h t (inl refl)) (ap not e) (ap not (learns order t)) in
          New t e (leads (order ++ t ∷ []) (parts t ++ ts) (λ x i. elim (has_either (parts t) ts x i) [ inl j ↦ closed t x j | inr j ↦ h x (inr j) ]) (omega (arith, less, c)))

    walks : (n : ℕ) → Leads n (visit known parts n)
    walks zero = λ order todo h c. all_known order todo (λ x i. negated (known order x) (none_passes (unknown order) universe x c (h x i)))
    walks (suc n) = λ order todo h c. steps n (visit known parts n) (walks n) order todo h c

    pub walked : (todo : List B) → Covered todo → Walk [] todo (visit known parts (length universe) [] todo)
    walked todo h = walks (length universe) [] todo h (at_most (unknown []) universe)

  -- ---- what is met

  -- what holds of all that is given, and of the parts of what it holds of, holds of all in the order
  pub met : (P : B → Type 0) → ((t x : B) → P t → Has (parts t) x → P x) → {order todo out : List B} → Walk order todo out → ((x : B) → Has order x → P x) → ((x : B) → Has todo x → P x) → (x : B) → Has out x → P x
  met P down Done h k x i = h x i
  met P down (Skip t e w) h k x i = met P down w h (λ y j. k y (inr j)) x i
  met P down (New {order} {ts} t e w) h k x i = met P down w (λ y j. by y (has_either order (t ∷ []) y j)) (λ y j. elim (has_either (parts t) ts y j) [ inl l ↦ down t y (k t (inl refl)) l | inr l ↦ k y (inr l) ]) x i where
    by : (y : B) → Has order y ⊎ Has (t ∷ []) y → P y
    by y (inl j) = h y j
    by y (inr (inl f)) = subst P f (k t (inl refl))
    by y (inr (inr j)) = absurd j

  module _ (knows : (order : List B) (t : B) → known order t ≡ true → Has order t) where
    pub kept : {order todo out : List B} → Walk order todo out → (x : B) → Has order x ⊎ Has todo x → Has out x
    kept Done x (inl h) = h
    kept Done x (inr h) = absurd h
    kept (Skip t e w) x (inl h) = kept w x (inl h)
    kept (Skip {order} t e w) x (inr (inl f)) = kept w x (inl (subst (λ z. Has order z) f (knows order t e)))
    kept (Skip t e w) x (inr (inr h)) = kept w x (inr h)
    kept (New {order} t e w) x (inl h) = kept w x (inl (has_left order (t ∷ []) x h))
    kept (New {order} t e w) x (inr (inl f)) = kept w x (inl (has_right order (t ∷ []) x (inl f)))
    kept (New {ts = ts} t e w) x (inr (inr h)) = kept w x (inr (has_right (parts t) ts x h))

    -- the parts of what is in the order are in it
    pub closes : {order todo out : List B} → Walk order todo out → ((t x : B) → Has order t → Has (parts t) x → Has order x ⊎ Has todo x) → (t x : B) → Has out t → Has (parts t) x → Has out x
    closes Done h t x i j = elim (h t x i j) [ inl k ↦ k | inr k ↦ absurd k ]
    closes (Skip {order} {ts} s e w) h t x i j = closes w (λ u y a b. by y (h u y a b)) t x i j where
      by : (y : B) → Has order y ⊎ Has (s ∷ ts) y → Has order y ⊎ Has ts y
      by y (inl k) = inl k
      by y (inr (inl f)) = inl (subst (λ z. Has order z) f (knows order s e))
      by y (inr (inr k)) = inr k
    closes (New {order} {ts} s e w) h t x i j = closes w (λ u y a b. by u y (has_either order (s ∷ []) u a) b) t x i j where
      old : (y : B) → Has order y ⊎ Has (s ∷ ts) y → Has (order ++ s ∷ []) y ⊎ Has (parts s ++ ts) y
      old y (inl k) = inl (has_left order (s ∷ []) y k)
      old y (inr (inl f)) = inl (has_right order (s ∷ []) y (inl f))
      old y (inr (inr k)) = inr (has_right (parts s) ts y k)

      by : (u y : B) → Has order u ⊎ Has (s ∷ []) u → Has (parts u) y → Has (order ++ s ∷ []) y ⊎ Has (parts s ++ ts) y
      by u y (inl k) b = old y (h u y k b)
      by u y (inr (inl f)) b = inr (has_left (parts s) ts y (subst (λ z. Has (parts z) y) (sym f) b))
      by u y (inr (inr k)) b = absurd k

  module _ (unknown_is : (order : List B) (t : B) → Has order t → known order t ≡ true) where
    pub once : {order todo out : List B} → Walk order todo out → Distinct order → Distinct out
    once Done d = d
    once (Skip t e w) d = once w d
    once (New {order} t e w) d = once w (distinct_push order t d (λ h. let f : true ≡ false = sym (unknown_is order t h) ∙ e in cc))
