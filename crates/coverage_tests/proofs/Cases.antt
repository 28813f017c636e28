-- What the cases of the tests stand for, and that they are on the small types.
use denote.Bor.{Bor}
use Rattle.std.proofs.Common.{◌≡◌, ℕ, Bool, List, [], ◌∷◌, map, true, false, codes, sym, ap, ◌∙◌, subst}
use Rattle.mo_types.specs.declared.datum.Datum.TheVariants as part
use Rattle.mo_types.specs.declared.node.TypeId.{TypeId}
use Rattle.mo_types.specs.Graph.{Slot}
use Rattle.mo_types.specs.Sub.{Each}
use Rattle.typed_tree.specs.declared.literal.Literal.TheVariants as literal
use Rattle.typed_tree.specs.declared.pattern.TypedPattern.{TypedPattern, roll-TypedPattern}
use Rattle.typed_tree.specs.declared.pattern.PatternForm.{PatternForm}
use Rattle.typed_tree.specs.declared.pattern.PatternForm.TheVariants as p
use Rattle.typed_tree.specs.Patterns.{Pat, Constant, Tagged, Wildcard}
use Rattle.typed_tree.specs.PatternView.{pattern, pattern_form}
use Rattle.typed_tree.proofs.Views.{pattern_views}
use Rattle.pattern_coverage.specs.Followed.{value_head}
use Rattle.pattern_coverage.specs.Suited.{IsOn}
use Rattle.coverage_tests.specs.Small.{ABool, ALight, small}

pub typed_view : (t : TypeId) (f : PatternForm) → pattern (roll-TypedPattern (record { of_type = t; form = f })) ≡ pattern_form f
typed_view t f = pattern_views.typed t f

pub flag_view : (b : Bool) → pattern_form (p.Constant (literal.Flag b)) ≡ Constant (part.Flag b)
flag_view b = pattern_views.constant (literal.Flag b)

pub wildcard_view : pattern_form p.Wildcard ≡ Wildcard
wildcard_view = pattern_views.wildcard

pub tagged_view : (l : List ℕ) (q : TypedPattern) → pattern q ≡ pattern_form p.Wildcard → pattern_form (p.Tagged l q) ≡ Tagged l Wildcard
tagged_view l q e = pattern_views.tagged l q ∙ ap (Tagged l) (e ∙ pattern_views.wildcard)

flag_on : (q : Pat) (b : Bool) → q ≡ Constant (part.Flag b) → IsOn (value_head small) q ABool
flag_on q b e = subst (λ p. IsOn (value_head small) p ABool) (sym e) tt

red_on : (q : Pat) → q ≡ Tagged (codes "red") Wildcard → IsOn (value_head small) q ALight
red_on q e = subst (λ p. IsOn (value_head small) p ALight) (sym e) tt

-- these patterns are on a type
abbrev AreOn : List Slot → TypeId → List (Bor TypedPattern) → Type 0
AreOn types id cases = Each (λ q. IsOn (value_head types) q id) (map (λ p. pattern p.now) cases)

pub flags_on : (types : List Slot) (id : TypeId) (a b : Bor TypedPattern) → types ≡ small → id ≡ ABool → pattern a.now ≡ Constant (part.Flag false) → pattern b.now ≡ Constant (part.Flag true) → AreOn types id (a ∷ b ∷ [])
flags_on types id a b t i d e =
    subst (λ ss. AreOn ss id (a ∷ b ∷ [])) (sym t) (subst (λ n. AreOn small n (a ∷ b ∷ [])) (sym i) (flag_on (pattern a.now) false d, (flag_on (pattern b.now) true e, tt)))

pub reds_on : (types : List Slot) (id : TypeId) (a : Bor TypedPattern) → types ≡ small → id ≡ ALight → pattern a.now ≡ Tagged (codes "red") Wildcard → AreOn types id (a ∷ [])
reds_on types id a t i d =
    subst (λ ss. AreOn ss id (a ∷ [])) (sym t) (subst (λ n. AreOn small n (a ∷ [])) (sym i) (red_on (pattern a.now) d, tt))
