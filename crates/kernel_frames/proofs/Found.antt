-- Where a name is found among the places is where it is among the entries.
use Rattle.std.proofs.Common.{◌≡◌, ◌∙◌, ℕ, zero, suc, ◌+◌, ◌<◌, ◌≤◌, Bool, true, false, List, [], ◌∷◌, length, Option, Some, None, IfSome, cond, option_map, refl, sym, ap, subst, arith}
use Rattle.std.specs.Str.{bytes_eq}
use Rattle.std.proofs.lemmas.Slice.Eq.{bytes_eq-Decides}
use Rattle.mo_scopes.specs.Scopes.{named}
use Rattle.desugaring.specs.Frames.{Entry, Named, Kept, Unnamed, found_from, kept_from}
use Rattle.desugaring.specs.Frames as frames
use Rattle.kernel_frames.specs.declared.names.Use.{Use}
use Rattle.kernel_frames.specs.declared.names.ValuePlace.{ValuePlace}
use Rattle.kernel_frames.specs.Places.{ArePlaces, IsUse, Stored, Values, at_place, kept_in, kept_places, value_places}

together : (a b : Bool) → (a ≡ true → b ≡ true) → (b ≡ true → a ≡ true) → a ≡ b
together true b f g = sym (f refl)
together false true f g = g refl
together false false f g = refl

turned : (x y : List ℕ) → bytes_eq x y ≡ bytes_eq y x
turned x y = together (bytes_eq x y) (bytes_eq y x) (λ h. (bytes_eq-Decides y x).1 (sym ((bytes_eq-Decides x y).0 h))) (λ h. (bytes_eq-Decides x y).1 (sym ((bytes_eq-Decides y x).0 h)))

-- n names and then a list of m entries, of which this one is it
Located : ℕ → ℕ → Option ValuePlace → frames.Use → Type 0
Located n m None u = (u.index ≡ n + m) × (u.cell ≡ false)
Located n m (Some v) u = (u.index + (v.place + 1) ≡ n + m) × (u.cell ≡ v.is_cell)

next : (n m : ℕ) (o : Option ValuePlace) (u : frames.Use) → Located (suc n) m o u → Located n (suc m) o u
unfolding Located
next n m None u h = let e : u.index ≡ suc n + m = h.0 in let g : u.index ≡ n + suc m = omega (arith, e) in (g, h.1)
next n m (Some v) u h = let e : u.index + (v.place + 1) ≡ suc n + m = h.0 in let g : u.index + (v.place + 1) ≡ n + suc m = omega (arith, e) in (g, h.1)

located : (n : ℕ) (es : List Entry) (x : List ℕ) → Located n (length es) (named (value_places es) x) (found_from n es x)
unfolding Located
located n [] x = let e : n ≡ n + 0 = omega arith in (e, refl)
located n (Named y c ∷ es) x = subst (λ (b : Bool). Located n (suc (length es)) (named (value_places (Named y c ∷ es)) x) (cond b (record { index = n; cell = c }) (found_from (suc n) es x))) (turned x y) (by (bytes_eq x y) (next n (length es) (named (value_places es) x) (found_from (suc n) es x) (located (suc n) es x))) where
  by : (b : Bool) → Located n (suc (length es)) (named (value_places es) x) (found_from (suc n) es x) → Located n (suc (length es)) (cond b (Some (at_place (length es) c)) (named (value_places es) x)) (cond b (record { index = n; cell = c }) (found_from (suc n) es x))
  by true h = let e : n + (length es + 1) ≡ n + suc (length es) = omega arith in (e, refl)
  by false h = h
located n (Kept y ∷ es) x = next n (length es) (named (value_places es) x) (found_from (suc n) es x) (located (suc n) es x)
located n (Unnamed ∷ es) x = next n (length es) (named (value_places es) x) (found_from (suc n) es x) (located (suc n) es x)

module _ (es : List Entry) (all : ℕ) (vs : Values) (ks : Stored) (h : ArePlaces es all vs ks) (x : List ℕ) where
  here : (o : Option ValuePlace) → o ≡ named vs x → Located zero (length es) o (found_from zero es x)
  here o e = subst (λ (p : Option ValuePlace). Located zero (length es) p (found_from zero es x)) (ap (λ (z : Values). named z x) (sym h.values) ∙ sym e) (located zero es x)

  pub place_within : (v : ValuePlace) → Some v ≡ named vs x → v.place + 1 ≤ all
  unfolding Located
  place_within v e = let l : (found_from zero es x).index + (v.place + 1) ≡ zero + length es = (here (Some v) e).0 in let m : all ≡ length es = h.all in omega (arith, l, m)

  pub value_found : (v : ValuePlace) (u : Use) → Some v ≡ named vs x → u.index + (v.place + 1) ≡ all → u.is_cell ≡ v.is_cell → IsUse es x u
  unfolding Located
  value_found v u e g c =
      let l : (found_from zero es x).index + (v.place + 1) ≡ zero + length es = (here (Some v) e).0 in
      let m : all ≡ length es = h.all in
      let i : u.index ≡ (found_from zero es x).index = omega (arith, l, m, g) in
      record { index = i; cell = c ∙ sym (here (Some v) e).1 }

  pub no_value_found : (u : Use) → None ≡ named vs x → u.index ≡ all → u.is_cell ≡ false → IsUse es x u
  unfolding Located
  no_value_found u e g c =
      let l : (found_from zero es x).index ≡ zero + length es = (here None e).0 in
      let m : all ≡ length es = h.all in
      let i : u.index ≡ (found_from zero es x).index = omega (arith, l, m, g) in
      record { index = i; cell = c ∙ sym (here None e).1 }

-- ---- the same of what was kept

KeptAt : ℕ → ℕ → Option ℕ → ℕ → Type 0
KeptAt n m None u = u ≡ n + m
KeptAt n m (Some p) u = u + (p + 1) ≡ n + m

kept_next : (n m : ℕ) (o : Option ℕ) (u : ℕ) → KeptAt (suc n) m o u → KeptAt n (suc m) o u
unfolding KeptAt
kept_next n m None u h = let e : u ≡ suc n + m = h in omega (arith, e)
kept_next n m (Some p) u h = let e : u + (p + 1) ≡ suc n + m = h in omega (arith, e)

kept_located : (n : ℕ) (es : List Entry) (x : List ℕ) → KeptAt n (length es) (named (kept_places es) x) (kept_from n es x)
unfolding KeptAt
kept_located n [] x = omega arith
kept_located n (Kept y ∷ es) x = subst (λ (b : Bool). KeptAt n (suc (length es)) (named (kept_places (Kept y ∷ es)) x) (cond b n (kept_from (suc n) es x))) (turned x y) (by (bytes_eq x y) (kept_next n (length es) (named (kept_places es) x) (kept_from (suc n) es x) (kept_located (suc n) es x))) where
  by : (b : Bool) → KeptAt n (suc (length es)) (named (kept_places es) x) (kept_from (suc n) es x) → KeptAt n (suc (length es)) (cond b (Some (length es)) (named (kept_places es) x)) (cond b n (kept_from (suc n) es x))
  by true h = let e : n + (length es + 1) ≡ n + suc (length es) = omega arith in e
  by false h = h
kept_located n (Named y c ∷ es) x = kept_next n (length es) (named (kept_places es) x) (kept_from (suc n) es x) (kept_located (suc n) es x)
kept_located n (Unnamed ∷ es) x = kept_next n (length es) (named (kept_places es) x) (kept_from (suc n) es x) (kept_located (suc n) es x)

module _ (es : List Entry) (all : ℕ) (vs : Values) (ks : Stored) (h : ArePlaces es all vs ks) (x : List ℕ) where
  stored : (o : Option ℕ) → o ≡ named ks x → KeptAt zero (length es) o (kept_in es x)
  stored o e = subst (λ (p : Option ℕ). KeptAt zero (length es) p (kept_in es x)) (ap (λ (z : Stored). named z x) (sym h.kept) ∙ sym e) (kept_located zero es x)

  pub kept_within : (p : ℕ) → Some p ≡ named ks x → p + 1 ≤ all
  unfolding KeptAt
  kept_within p e = let l : kept_in es x + (p + 1) ≡ zero + length es = stored (Some p) e in let m : all ≡ length es = h.all in omega (arith, l, m)

  pub kept_found : (p u : ℕ) → Some p ≡ named ks x → u + (p + 1) ≡ all → u ≡ kept_in es x
  unfolding KeptAt
  kept_found p u e g = let l : kept_in es x + (p + 1) ≡ zero + length es = stored (Some p) e in let m : all ≡ length es = h.all in omega (arith, l, m, g)

  pub not_kept : (u : ℕ) → None ≡ named ks x → u ≡ all → u ≡ kept_in es x
  unfolding KeptAt
  not_kept u e g = let l : kept_in es x ≡ zero + length es = stored None e in let m : all ≡ length es = h.all in omega (arith, l, m, g)
