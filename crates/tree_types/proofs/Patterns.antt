-- The types in a pattern that stands on a type.
use Rattle.std.proofs.Common.{◌≡◌, ℕ, List, [], ◌∷◌, map, sym, subst}
use Rattle.mo_types.specs.declared.node.Field.{Field}
use Rattle.mo_types.specs.declared.node.TypeId.{TypeId}
use Rattle.mo_types.specs.Graph.{Slot, node_at}
use Rattle.mo_types.specs.Sub.{Each, IsSomething}
use Rattle.typed_tree.specs.declared.pattern.TypedPattern.{TypedPattern, roll-TypedPattern, ind-TypedPattern, map-TypedPattern, fold-roll-TypedPattern}
use Rattle.typed_tree.specs.declared.pattern.PatternForm.{PatternForm, roll-PatternForm, map-PatternForm, fold-roll-PatternForm}
use Rattle.typed_tree.specs.declared.pattern.PatternForm.TheOpen as P
use Rattle.typed_tree.specs.declared.pattern.PatternField.{PatternField, roll-PatternField, map-PatternField, fold-roll-PatternField}
use Rattle.typed_tree.specs.PatternTypes.{EachStands, FieldsStand, Stands, FormStands, FieldStands}
use Rattle.typed_tree.specs.TypingLaws.{form_standing, field_standing, pattern_standing}
use Rattle.typed_tree.specs.Wants.{Want}
use Rattle.typed_tree.proofs.Rules as rules
use Rattle.tree_types.specs.TypesAt.{Types, joined, pattern_form_step, field_step, pattern_step, in_pattern, in_pattern_form, in_field, in_patterns}
use Rattle.tree_types.proofs.Lists.{both}

form_types : (x : P.PatternForm-F PatternForm PatternField TypedPattern) → in_pattern_form (roll-PatternForm x) ≡ pattern_form_step (map-PatternForm PatternForm PatternField TypedPattern Types Types Types in_pattern_form in_field in_pattern x)
unfolding in_pattern_form in_field in_pattern
form_types x = fold-roll-PatternForm Types Types Types pattern_form_step field_step pattern_step x

field_types : (x : P.PatternField-F PatternForm PatternField TypedPattern) → in_field (roll-PatternField x) ≡ in_pattern x.pattern
unfolding in_pattern_form in_field in_pattern
field_types x = fold-roll-PatternField Types Types Types pattern_form_step field_step pattern_step x

pattern_types : (x : P.TypedPattern-F PatternForm PatternField TypedPattern) → in_pattern (roll-TypedPattern x) ≡ x.of_type ∷ in_pattern_form x.form
unfolding in_pattern_form in_field in_pattern
pattern_types x = fold-roll-TypedPattern Types Types Types pattern_form_step field_step pattern_step x

module _ (types : List Slot) where
  abbrev pub There : TypeId → Type 0
  There t = IsSomething (node_at types t)

  module _ (vs : List ℕ) where
    abbrev FormClaim : PatternForm → Type 0
    FormClaim f = (t : TypeId) (ns : List (Want TypeId)) → FormStands types vs f t ns → Each There (in_pattern_form f)

    abbrev FieldClaim : PatternField → Type 0
    FieldClaim x = (fs : List (Field TypeId)) (ns : List (Want TypeId)) → FieldStands types vs x fs ns → Each There (in_field x)

    abbrev PatternClaim : TypedPattern → Type 0
    PatternClaim p = (t : TypeId) (ns : List (Want TypeId)) → Stands types vs p t ns → Each There (in_pattern p)

    abbrev K0 : Type 0
    K0 = (x : PatternForm) × FormClaim x

    abbrev K1 : Type 0
    K1 = (x : PatternField) × FieldClaim x

    abbrev K2 : Type 0
    K2 = (x : TypedPattern) × PatternClaim x

    each_there : (ps : List K2) (ts : List TypeId) (ns : List (Want TypeId)) → EachStands (Stands types vs) (map (λ p. p.0) ps) ts ns → Each There (joined (map in_pattern (map (λ p. p.0) ps)))
    each_there [] ts ns h = tt
    each_there (p ∷ ps) [] ns h = absurd h
    each_there (p ∷ ps) (t ∷ ts) ns h = both There (in_pattern p.0) (joined (map in_pattern (map (λ z. z.0) ps))) (p.1 t h.0 h.3) (each_there ps ts h.1 h.4)

    fields_there : (xs : List K1) (fs : List (Field TypeId)) (ns : List (Want TypeId)) → FieldsStand (FieldStands types vs) (map (λ x. x.0) xs) fs ns → Each There (joined (map in_field (map (λ x. x.0) xs)))
    fields_there [] fs ns h = tt
    fields_there (x ∷ xs) fs ns h = both There (in_field x.0) (joined (map in_field (map (λ z. z.0) xs))) (x.1 fs h.0 h.3) (fields_there xs fs h.1 h.4)

    form_there : (y : P.PatternForm-F K0 K1 K2) (t : TypeId) (ns : List (Want TypeId)) → form_standing types vs (map-PatternForm K0 K1 K2 PatternForm PatternField TypedPattern (λ z. z.0) (λ z. z.0) (λ z. z.0) y) t ns
        → Each There (pattern_form_step (map-PatternForm PatternForm PatternField TypedPattern Types Types Types in_pattern_form in_field in_pattern (map-PatternForm K0 K1 K2 PatternForm PatternField TypedPattern (λ z. z.0) (λ z. z.0) (λ z. z.0) y)))
    form_there P.Wildcard t ns h = tt
    form_there P.Bind t ns h = tt
    form_there (P.Constant l) t ns h = tt
    form_there (P.Present p) t ns h = p.1 h.0 ns h.2
    form_there (P.Tagged l p) t ns h = p.1 h.1.part ns h.4
    form_there (P.Parts ps) t ns h = each_there ps h.0 ns h.2
    form_there (P.Fields xs) t ns h = fields_there xs h.0 ns h.2
    form_there (P.Either p q) t ns h = both There (in_pattern p.0) (in_pattern q.0) (p.1 t [] h.0) (q.1 t [] h.1)

    form_case : (y : P.PatternForm-F K0 K1 K2) → FormClaim (roll-PatternForm (map-PatternForm K0 K1 K2 PatternForm PatternField TypedPattern (λ z. z.0) (λ z. z.0) (λ z. z.0) y))
    form_case y t ns h = subst (λ ts. Each There ts) (sym (form_types _)) (form_there y t ns ((rules.pattern_forms types vs _ t ns).0 h))

    field_case : (y : P.PatternField-F K0 K1 K2) → FieldClaim (roll-PatternField (map-PatternField K0 K1 K2 PatternForm PatternField TypedPattern (λ z. z.0) (λ z. z.0) (λ z. z.0) y))
    field_case y fs ns h =
        let f : field_standing types vs (map-PatternField K0 K1 K2 PatternForm PatternField TypedPattern (λ z. z.0) (λ z. z.0) (λ z. z.0) y) fs ns = (rules.fields types vs _ fs ns).0 h in
        subst (λ ts. Each There ts) (sym (field_types _)) (y.pattern.1 f.0 ns f.2)

    pattern_case : (y : P.TypedPattern-F K0 K1 K2) → PatternClaim (roll-TypedPattern (map-TypedPattern K0 K1 K2 PatternForm PatternField TypedPattern (λ z. z.0) (λ z. z.0) (λ z. z.0) y))
    pattern_case y t ns h =
        let f : pattern_standing types vs (map-TypedPattern K0 K1 K2 PatternForm PatternField TypedPattern (λ z. z.0) (λ z. z.0) (λ z. z.0) y) t ns = (rules.patterns types vs _ t ns).0 h in
        subst (λ ts. Each There ts) (sym (pattern_types _)) (f.1.0, y.form.1 y.of_type ns f.2)

    pub pattern_there : (p : TypedPattern) → PatternClaim p
    pattern_there = ind-TypedPattern FormClaim FieldClaim PatternClaim
        (λ x y is. subst (λ z. FormClaim (roll-PatternForm z)) is (form_case y))
        (λ x y is. subst (λ z. FieldClaim (roll-PatternField z)) is (field_case y))
        (λ x y is. subst (λ z. PatternClaim (roll-TypedPattern z)) is (pattern_case y))

    pub patterns_there : (ps : List TypedPattern) (ts : List TypeId) (ns : List (Want TypeId)) → EachStands (Stands types vs) ps ts ns → Each There (in_patterns ps)
    patterns_there [] ts ns h = tt
    patterns_there (p ∷ ps) [] ns h = absurd h
    patterns_there (p ∷ ps) (t ∷ ts) ns h = both There (in_pattern p) (joined (map in_pattern ps)) (pattern_there p t h.0 h.3) (patterns_there ps ts h.1 h.4)
