-- What is known in the body of a function that is no shared one.
use Rattle.std.proofs.Common.{◌≡◌, ℕ, zero, suc, Bool, true, false, List, [], ◌∷◌, ◌++◌, map, Some, None, refl, sym, ap, ◌∙◌, subst}
use Rattle.std.specs.Prelude.{slice_get}
use Rattle.mo_types.specs.declared.node.Sort.TheVariants as sort
use Rattle.mo_types.specs.declared.node.TypeId.{TypeId}
use Rattle.mo_types.specs.Graph.{Slot}
use Rattle.typed_tree.specs.ActionTypes as typed
use Rattle.typed_tree.specs.Typing.{Signature, in_body, with_names}
use Rattle.typed_tree.specs.Wants.{Want, in_function}
use Rattle.typing_rules.specs.AbstractSyntax.{Bytes}
use Rattle.typing_rules.specs.AsyncPlaces.{Body, Local}
use Rattle.typing_rules.specs.Contexts.{Context, Bound, with_types}
use Rattle.typing_rules.specs.Contexts as rules
use Rattle.typing_rules.specs.Definitions.{Definitions}
use Rattle.typing_rules.specs.Terms.{Term}
use Rattle.typing_rules.specs.TypeScopes.{TypeScope}
use Rattle.desugaring.specs.Frames.{Unnamed, Frame, Use, with_entries, found}
use Rattle.desugaring.specs.Frames as frames
use Rattle.desugaring_laws.specs.Known.{IsKnown}
use Rattle.desugaring_laws.specs.Scopes.{IsScopeFine, AreBoundsIn}
use Rattle.expression_laws.specs.Fitting.{StandsFor, AValue, ACell, AFuture, AGeneric, Fits}
use Rattle.expression_laws.proofs.Naming.{found_next}
use Rattle.desugaring_laws.proofs.Weakening.{among_behind, among_between, known_more}

got_mapped : {A B : Type 0} (g : A → B) (xs : List A) (n : ℕ) (x : A) → slice_get xs n ≡ Some x → slice_get (map g xs) n ≡ Some (g x)
got_mapped g [] n x h = cc
got_mapped g (y ∷ xs) zero x h = let e : Some y ≡ Some x = h in let f : y ≡ x = cc in ap (λ z. Some (g z)) f
got_mapped g (y ∷ xs) (suc n) x h = got_mapped g xs n x h

no_names : {A : Type 0} (x : Bytes) (l : A) → None ≡ Some l → ⊥
no_names x l h = cc

not_so : false ≡ true → ⊥
not_so e = cc

same_some : (u v : Term) → Some u ≡ Some v → u ≡ v
same_some u v h = cc

module _ (defs : Definitions) (slots : List Slot) (terms : List Term) (number : Term → TypeId) where
  -- a name that no one finds stands before the others
  pub behind_unnamed : (scope : TypeScope) (used : List Bytes) (e : Context) (f : Frame) (c : typed.Context) (w : Want TypeId) → Fits defs slots terms number scope used e f c
      → Fits defs slots terms number scope used e (with_entries (Unnamed ∷ []) f) (with_names (w ∷ []) c)
  behind_unnamed scope used e f c w fit = record {
    names = λ x m b h.
        let i = fit.names x m b h in
        let q = found_next zero f.names x in
        (i.0, ap (λ (u : Use). slice_get (w ∷ c.names) u.index) q ∙ i.1, subst (λ (u : Use). StandsFor defs slots terms number c.parameters e.body b u.cell i.0) (sym q) i.2);
    labels = λ x l h. let i = fit.labels x l h in record { known = i.known; left = i.left; continued = i.continued };
    returns = λ u h. let i = fit.returns u h in record { known = i.known; left = i.left };
    options = fit.options;
    body_is = fit.body_is;
    types = fit.types;
    bounds = fit.bounds;
    scope_is = fit.scope_is;
  }

  module _ (vs gs : List ℕ) (body : Body) where
    -- what a name stands for outside it stands for inside
    stands_inside : (b : Bound) (cell : Bool) (w : Want TypeId) → StandsFor defs slots terms number vs body b cell w → StandsFor defs slots terms number (gs ++ vs) Local b cell (in_function w)
    stands_inside b cell w (AValue m g c k e) = AValue m g c (known_more vs (gs ++ vs) (among_behind gs vs) defs terms b.type k) (ap (λ z. in_function z) e)
    stands_inside b cell w (ACell m g c k e) = ACell m g c (known_more vs (gs ++ vs) (among_behind gs vs) defs terms b.type k) (ap (λ z. in_function z) e)
    stands_inside b cell w (AFuture m g c a h k e) = AFuture m g c a h (known_more vs (gs ++ vs) (among_behind gs vs) defs terms a k) (λ q. absurd (not_so q))
    stands_inside b cell w (AGeneric m g c k e) = AGeneric m g c (known_more (b.generics ++ vs) (b.generics ++ (gs ++ vs)) (among_between b.generics gs vs) defs terms b.type k) (ap (λ z. in_function z) e)

  -- a function with these type parameters, and no others, whose parameters are to come
  abbrev pub signature_of : List ℕ → List TypeId → TypeId → Signature
  signature_of gs ps r = record { sort = sort.Local; generics = gs; context = []; parameters = ps; result = r }

  -- in its body, before its parameters
  pub in_function_body : (scope : TypeScope) (used : List Bytes) (e : Context) (f : Frame) (c : typed.Context) (gs : List ℕ) (s : TypeScope) (ps : List TypeId) (r : Term) → Fits defs slots terms number scope used e f c
      → IsScopeFine defs (gs ++ c.parameters) s → AreBoundsIn (gs ++ c.parameters) defs → IsKnown defs terms (gs ++ c.parameters) r
      → Fits defs slots terms number s used (rules.in_body Local (Some r) [] (with_types s e)) (frames.in_function [] f) (in_body (signature_of gs ps (number r)) [] c)
  in_function_body scope used e f c gs s ps r fit types bounds known = record {
    names = λ x m b h.
        let i = fit.names x m b h in
        (in_function i.0, got_mapped in_function c.names (found f x).index i.0 i.1, stands_inside c.parameters gs e.body b (found f x).cell i.0 i.2);
    labels = λ x l h. absurd (no_names x l h);
    returns = λ u h. record { known = subst (λ z. IsKnown defs terms (gs ++ c.parameters) z) (same_some r u h) known; left = ap (λ z. Some (number z)) (same_some r u h) };
    options = λ h. absurd (not_so h);
    body_is = refl;
    types = types;
    bounds = bounds;
    scope_is = refl;
  }
