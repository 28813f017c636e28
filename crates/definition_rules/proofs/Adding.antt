-- Items put into sets.
use Rattle.std.proofs.Common.{◌≡◌, ◌⊎◌, inl, inr, ℕ, zero, suc, ◌≤◌, length, arith, Bool, true, false, ◌||◌, List, [], ◌∷◌, ◌++◌, take, nat_eq, refl, sym, ap, ◌∙◌, subst, append_assoc}
use Rattle.std.specs.Prelude.{if◌then◌else◌}
use Rattle.std.specs.List.{list_any}
use Rattle.std.specs.Cmp.{unsigned_Decides}
use Rattle.indexmap.specs.IndexSet.{insert_key}
use Rattle.subtype_laws.specs.Reached.{Among}
use Rattle.subtype_laws.proofs.Reflexive.{among_left, among_right}
use Rattle.type_terms.specs.declared.form.TermId.{TermId}
use Rattle.definition_rules.specs.Uses.{Adds}

abbrev pub same : TermId → TermId → Bool
same a b = nat_eq a.index b.index

pub same_number : (m n : ℕ) → nat_eq m n ≡ true → m ≡ n
same_number m n h = (unsigned_Decides m n).0 h

pub same_term : (a b : TermId) → same a b ≡ true → a ≡ b
same_term a b h = ap (λ n. numbered n) (same_number a.index b.index h) where
  numbered : ℕ → TermId
  numbered n = record { index = n }

module _ {A : Type 0} (eq : A → A → Bool) (is : (a b : A) → eq a b ≡ true → a ≡ b) where
  there : (x : A) (xs : List A) → list_any (eq x) xs ≡ true → Among x xs
  there x [] h = cc
  there x (y ∷ xs) h = by (eq x y) refl h (there x xs) where
    by : (b : Bool) → eq x y ≡ b → (b || list_any (eq x) xs) ≡ true → (list_any (eq x) xs ≡ true → Among x xs) → Among x (y ∷ xs)
    by true e k f = inl (sym (is x y e))
    by false e k f = inr (f k)

  append_nil : (xs : List A) → xs ≡ xs ++ []
  append_nil [] = refl
  append_nil (x ∷ xs) = ap (λ l. x ∷ l) (append_nil xs)

  pub adds_none : (xs : List A) → Adds xs [] xs
  adds_none xs = record { more = []; grows = append_nil xs; from = λ a h. h; all = λ a h. absurd h }

  -- one item more
  pub adds_one : (old xs mid new : List A) (x : A) → Adds old xs mid → new ≡ insert_key eq mid x → Adds old (xs ++ x ∷ []) new
  adds_one old xs mid new x s e = by (list_any (eq x) mid) refl where
    either : (a : A) (ys : List A) → Among a (ys ++ x ∷ []) → Among a ys ⊎ (x ≡ a)
    either a [] (inl k) = inr k
    either a [] (inr k) = absurd k
    either a (y ∷ ys) (inl k) = inl (inl k)
    either a (y ∷ ys) (inr k) = next (either a ys k) where
      next : Among a ys ⊎ (x ≡ a) → Among a (y ∷ ys) ⊎ (x ≡ a)
      next (inl g) = inl (inr g)
      next (inr g) = inr g

    all_of : (ks : List A) → ((a : A) → Among a mid → Among a ks) → Among x ks → (a : A) → Among a xs ⊎ (x ≡ a) → Among a ks
    all_of ks f h a (inl k) = f a (s.all a k)
    all_of ks f h a (inr k) = subst (λ b. Among b ks) k h

    by : (b : Bool) → list_any (eq x) mid ≡ b → Adds old (xs ++ x ∷ []) new
    by true k =
        let same : new ≡ mid = e ∙ ap (λ (b : Bool). if b then mid else mid ++ x ∷ []) k in
        subst (λ ks. Adds old (xs ++ x ∷ []) ks) (sym same)
        (record { more = s.more; grows = s.grows; from = λ a h. among_left a xs (x ∷ []) (s.from a h); all = λ a h. all_of mid (λ a h. h) (there x mid k) a (either a xs h) })
    by false k =
        let one : new ≡ mid ++ x ∷ [] = e ∙ ap (λ (b : Bool). if b then mid else mid ++ x ∷ []) k in
        subst (λ ks. Adds old (xs ++ x ∷ []) ks) (sym one)
        (record {
          more = s.more ++ x ∷ [];
          grows = ap (λ l. l ++ x ∷ []) s.grows ∙ append_assoc old s.more (x ∷ []);
          from = λ a h. from a (either a s.more h);
          all = λ a h. all_of (mid ++ x ∷ []) (λ a h. among_left a mid (x ∷ []) h) (among_right x mid (x ∷ []) (inl refl)) a (either a xs h);
        })
      where
        from : (a : A) → Among a s.more ⊎ (x ≡ a) → Among a (xs ++ x ∷ [])
        from a (inl g) = among_left a xs (x ∷ []) (s.from a g)
        from a (inr g) = among_right a xs (x ∷ []) (inl g)

pub take_all : {A : Type 0} (xs : List A) (i : ℕ) → length xs ≤ i → take i xs ≡ xs
take_all [] zero h = refl
take_all [] (suc i) h = refl
take_all (x ∷ xs) zero h = absurd (omega arith)
take_all (x ∷ xs) (suc i) h = ap (λ ys. x ∷ ys) (take_all xs i (omega arith))
