-- Names of a pattern, which stand around an expression with their types.
use Rattle.std.proofs.Common.{◌≡◌, ◌≢◌, ◌⊎◌, inl, inr, ℕ, zero, suc, Bool, true, false, List, [], ◌∷◌, ◌++◌, map, Some, refl, sym, ap, ◌∙◌, subst}
use Rattle.std.specs.Prelude.{cond, slice_get}
use Rattle.std.specs.Str.{bytes_eq}
use Rattle.std.proofs.lemmas.Slice.Eq.{bytes_eq-Decides}
use Rattle.mo_scopes.specs.Scopes.{named}
use Rattle.mo_types.specs.declared.node.TypeId.{TypeId}
use Rattle.mo_types.specs.Graph.{Slot}
use Rattle.mo_types.specs.Sub.{Each}
use Rattle.subtype_laws.specs.Reached.{Among}
use Rattle.typed_tree.specs.ActionTypes as typed
use Rattle.typed_tree.specs.OperationTypes.{Distinct}
use Rattle.typed_tree.specs.Typing.{with_names}
use Rattle.typed_tree.specs.Wants.{Want, Of}
use Rattle.typing_rules.specs.AbstractSyntax.{Bytes}
use Rattle.typing_rules.specs.AsyncPlaces.{Body}
use Rattle.typing_rules.specs.Contexts.{Scope, Bound, Context, constant, with_values}
use Rattle.typing_rules.specs.Definitions.{Definitions}
use Rattle.typing_rules.specs.Terms.{Term}
use Rattle.typing_rules.specs.TypeScopes.{TypeScope}
use Rattle.desugaring.specs.Frames.{Entry, Named, Kept, Unnamed, value, Frame, Use, found_from, found}
use Rattle.desugaring.specs.Frames as frames
use Rattle.desugaring_laws.specs.Known.{IsKnown}
use Rattle.desugaring_laws.specs.Laws.{wants}
use Rattle.desugaring_laws.specs.Names.{Names, entered}
use Rattle.desugaring_laws.proofs.Patterns.{entered_on}
use Rattle.expression_laws.specs.Fitting.{StandsFor, AValue, Fits}

abbrev pub names_of : Names → List Bytes
names_of xs = map (λ x. x.0) xs

abbrev pub next : Use → Use
next x = record { index = suc x.index; cell = x.cell }

next_either : (b : Bool) (x y z : Use) → y ≡ next z → (n : ℕ) (c : Bool) → cond b (record { index = suc n; cell = c }) y ≡ next (cond b (record { index = n; cell = c }) z)
next_either true x y z h n c = refl
next_either false x y z h n c = h

pub found_next : (n : ℕ) (es : List Entry) (x : Bytes) → found_from (suc n) es x ≡ next (found_from n es x)
found_next n [] x = refl
found_next n (Named y is_cell ∷ es) x = next_either (bytes_eq y x) (found_from n es x) (found_from (suc (suc n)) es x) (found_from (suc n) es x) (found_next (suc n) es x) n is_cell
found_next n (Kept y ∷ es) x = found_next (suc n) es x
found_next n (Unnamed ∷ es) x = found_next (suc n) es x

pub same_bytes : (x y : Bytes) → bytes_eq x y ≡ true → x ≡ y
same_bytes x y h = (bytes_eq-Decides x y).0 h

-- names that are entered over scopes that have the same under x
over_same : (xs : Names) (s s' : Scope) (x : Bytes) → named s x ≡ named s' x → named (entered xs s) x ≡ named (entered xs s') x
over_same [] s s' x h = h
over_same (y ∷ xs) s s' x h = over_same xs ((y.0, constant y.1) ∷ s) ((y.0, constant y.1) ∷ s') x (ap (λ z. cond (bytes_eq x y.0) (Some (constant y.1)) z) h)

-- a name that is none of those that are entered
pub not_entered : (xs : Names) (s : Scope) (x : Bytes) → Each (λ y. x ≢ y) (names_of xs) → named (entered xs s) x ≡ named s x
not_entered [] s x d = refl
not_entered (y ∷ xs) s x d = not_entered xs ((y.0, constant y.1) ∷ s) x d.1 ∙ by (bytes_eq x y.0) refl where
  by : (b : Bool) → bytes_eq x y.0 ≡ b → cond (bytes_eq x y.0) (Some (constant y.1)) (named s x) ≡ named s x
  by true e = absurd (d.0 (same_bytes x y.0 e))
  by false e = ap (λ z. cond z (Some (constant y.1)) (named s x)) e

apart : (x y : Bytes) → bytes_eq x y ≡ false → bytes_eq y x ≡ false
apart x y h = by (bytes_eq y x) refl where
  by : (b : Bool) → bytes_eq y x ≡ b → bytes_eq y x ≡ false
  by true e = let q : bytes_eq x y ≡ true = (bytes_eq-Decides x y).1 (sym (same_bytes y x e)) in let r : true ≡ false = sym q ∙ h in absurd (let s : true ≡ false = r in cc)
  by false e = e

module _ (defs : Definitions) (slots : List Slot) (terms : List Term) (number : Term → TypeId) where
  module _ (vs : List ℕ) (body : Body) where
    abbrev StandsIn : List Entry → List (Want TypeId) → Bytes → Bound → Type 0
    StandsIn es ns y b = (w : Want TypeId) × (slice_get ns (found_from zero es y).index ≡ Some w) × StandsFor defs slots terms number vs body b (found_from zero es y).cell w

    -- by what is found of it
    abbrev StandsAt : Use → List (Want TypeId) → Bound → Type 0
    StandsAt x ns b = (w : Want TypeId) × (slice_get ns x.index ≡ Some w) × StandsFor defs slots terms number vs body b x.cell w

    pub names_stand : (outer : List Bytes) (xs : Names) → Distinct (names_of xs) → Each (λ x. IsKnown defs terms vs x.1) xs → (s : Scope) (es : List Entry) (ns : List (Want TypeId))
        → ((y : Bytes) → Among y outer → (b : Bound) → named s y ≡ Some b → StandsIn es ns y b) → (y : Bytes) → Among y (names_of xs) ⊎ Among y outer → (b : Bound) → named (entered xs s) y ≡ Some b
        → StandsIn (map value (names_of xs) ++ es) (wants number xs ++ ns) y b
    names_stand outer [] d k s es ns h y (inl m) b e = absurd m
    names_stand outer [] d k s es ns h y (inr m) b e = h y m b e
    names_stand outer (x ∷ xs) d k s es ns h y m b e = by (bytes_eq x.0 y) refl (λ i q. names_stand outer xs d.1 k.1 s es ns h y (other i m) b q) where
      rest : List Entry
      rest = map value (names_of xs) ++ es

      other : bytes_eq x.0 y ≡ false → Among y (names_of (x ∷ xs)) ⊎ Among y outer → Among y (names_of xs) ⊎ Among y outer
      other i (inl (inl q)) = let t : true ≡ false = sym ((bytes_eq-Decides x.0 y).1 q) ∙ i in absurd (let u : true ≡ false = t in cc)
      other i (inl (inr n)) = inl n
      other i (inr n) = inr n

      by : (t : Bool) → bytes_eq x.0 y ≡ t → (bytes_eq x.0 y ≡ false → named (entered xs s) y ≡ Some b → StandsIn rest (wants number xs ++ ns) y b) → StandsIn (value x.0 ∷ rest) (Of (number x.1) ∷ (wants number xs ++ ns)) y b
      by true i ih =
          let q : x.0 ≡ y = same_bytes x.0 y i in
          let new : Each (λ z. y ≢ z) (names_of xs) = subst (λ v. Each (λ z. v ≢ z) (names_of xs)) q d.0 in
          let back : bytes_eq y x.0 ≡ true = (bytes_eq-Decides y x.0).1 (sym q) in
          let is : Some (constant x.1) ≡ Some b = sym (not_entered xs ((x.0, constant x.1) ∷ s) y new ∙ ap (λ t. cond t (Some (constant x.1)) (named s y)) back) ∙ e in
          let bound : constant x.1 ≡ b = cc in
          subst (λ u. StandsAt u (Of (number x.1) ∷ (wants number xs ++ ns)) b) (sym (ap (λ t. cond t (record { index = zero; cell = false }) (found_from 1 rest y)) i))
          (subst (λ c. StandsAt (record { index = zero; cell = false }) (Of (number x.1) ∷ (wants number xs ++ ns)) c) bound (Of (number x.1), refl, AValue refl refl refl k.0 refl))
      by false i ih =
          let under : named (entered xs ((x.0, constant x.1) ∷ s)) y ≡ named (entered xs s) y = over_same xs ((x.0, constant x.1) ∷ s) s y (ap (λ t. cond t (Some (constant x.1)) (named s y)) (apart x.0 y i)) in
          let r = ih i (sym under ∙ e) in
          subst (λ u. StandsAt u (Of (number x.1) ∷ (wants number xs ++ ns)) b) (sym (ap (λ t. cond t (record { index = zero; cell = false }) (found_from 1 rest y)) i ∙ found_next zero rest y)) r

  -- around what stands behind a pattern
  pub with_pattern : (scope : TypeScope) (used outer : List Bytes) (xs : Names) → ((x : Bytes) → Among x used → Among x (names_of xs) ⊎ Among x outer) → (e : Context) (f : Frame) (c : typed.Context) → Fits defs slots terms number scope outer e f c
      → Distinct (names_of xs) → Each (λ x. IsKnown defs terms c.parameters x.1) xs
      → Fits defs slots terms number scope used (with_values (entered xs []) e) (frames.with_names (names_of xs) f) (with_names (wants number xs) c)
  with_pattern scope used outer xs within e f c fit d k = record {
    names = λ y m b h. names_stand c.parameters e.body outer xs d k e.values f.names c.names fit.names y (within y m) b (ap (λ s. named s y) (entered_on xs e.values) ∙ h);
    labels = λ y l h. let i = fit.labels y l h in record { known = i.known; left = i.left; continued = i.continued };
    returns = λ u h. let i = fit.returns u h in record { known = i.known; left = i.left };
    options = fit.options;
    body_is = fit.body_is;
    types = fit.types;
    bounds = fit.bounds;
    scope_is = fit.scope_is;
  }
