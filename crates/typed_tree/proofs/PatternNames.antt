-- A pattern that stands on a type has as many names as there are things that they stand for.
use Rattle.std.proofs.Common.{◌≡◌, ℕ, ◌+◌, List, [], ◌∷◌, length, length-append, map, refl, sym, ap, ap₂, ◌∙◌, subst}
use Rattle.mo_types.specs.declared.node.Field.{Field}
use Rattle.mo_types.specs.declared.node.TypeId.{TypeId}
use Rattle.mo_types.specs.Graph.{Slot}
use Rattle.typed_tree.specs.declared.literal.Literal.{Literal}
use Rattle.typed_tree.specs.declared.literal.Literal.TheVariants as literal
use Rattle.typed_tree.specs.declared.pattern.TypedPattern.{TypedPattern, roll-TypedPattern, ind-TypedPattern, map-TypedPattern, fold-roll-TypedPattern}
use Rattle.typed_tree.specs.declared.pattern.PatternForm.{PatternForm, roll-PatternForm, map-PatternForm, fold-roll-PatternForm}
use Rattle.typed_tree.specs.declared.pattern.PatternForm.TheOpen as P
use Rattle.typed_tree.specs.declared.pattern.PatternField.{PatternField, roll-PatternField, map-PatternField, fold-roll-PatternField}
use Rattle.typed_tree.specs.Patterns.{Pat, names, names_all}
use Rattle.typed_tree.specs.PatternTypes.{EachStands, FieldsStand, Stands, FormStands, FieldStands}
use Rattle.typed_tree.specs.PatternView.{LabelledPat, form_step, field_step, pattern_step, literal_pattern, pats, pattern, pattern_form, patterns}
use Rattle.typed_tree.specs.TypingLaws.{form_standing, field_standing, pattern_standing}
use Rattle.typed_tree.specs.ViewLaws.{field}
use Rattle.typed_tree.specs.Wants.{Want}
use Rattle.typed_tree.proofs.Rules as rules

-- ---- what a layer stands for

abbrev form_view : P.PatternForm-F PatternForm PatternField TypedPattern → Pat
form_view x = form_step (map-PatternForm PatternForm PatternField TypedPattern Pat LabelledPat Pat pattern_form field pattern x)

form_viewed : (x : P.PatternForm-F PatternForm PatternField TypedPattern) → pattern_form (roll-PatternForm x) ≡ form_view x
unfolding pattern_form field pattern
form_viewed x = fold-roll-PatternForm Pat LabelledPat Pat form_step field_step pattern_step x

field_viewed : (x : P.PatternField-F PatternForm PatternField TypedPattern) → (field (roll-PatternField x)).pattern ≡ pattern x.pattern
unfolding pattern_form field pattern
field_viewed x = ap (λ (l : LabelledPat). l.pattern) (fold-roll-PatternField Pat LabelledPat Pat form_step field_step pattern_step x)

pattern_viewed : (x : P.TypedPattern-F PatternForm PatternField TypedPattern) → pattern (roll-TypedPattern x) ≡ pattern_form x.form
unfolding pattern_form field pattern
pattern_viewed x = fold-roll-TypedPattern Pat LabelledPat Pat form_step field_step pattern_step x

literal_has_none : (l : Literal) → names (literal_pattern l) ≡ 0
literal_has_none literal.Unit = refl
literal_has_none literal.Null = refl
literal_has_none (literal.Flag b) = refl
literal_has_none (literal.Number n) = refl
literal_has_none (literal.Character c) = refl
literal_has_none (literal.Text t) = refl
literal_has_none (literal.Blob t) = refl
literal_has_none (literal.Actor p) = refl

module _ (types : List Slot) (vs : List ℕ) where
  abbrev FormClaim : PatternForm → Type 0
  FormClaim f = (t : TypeId) (ns : List (Want TypeId)) → FormStands types vs f t ns → length ns ≡ names (pattern_form f)

  abbrev FieldClaim : PatternField → Type 0
  FieldClaim x = (fs : List (Field TypeId)) (ns : List (Want TypeId)) → FieldStands types vs x fs ns → length ns ≡ names (field x).pattern

  abbrev PatternClaim : TypedPattern → Type 0
  PatternClaim p = (t : TypeId) (ns : List (Want TypeId)) → Stands types vs p t ns → length ns ≡ names (pattern p)

  abbrev K0 : Type 0
  K0 = (x : PatternForm) × FormClaim x

  abbrev K1 : Type 0
  K1 = (x : PatternField) × FieldClaim x

  abbrev K2 : Type 0
  K2 = (x : TypedPattern) × PatternClaim x

  each_counted : (ps : List K2) (ts : List TypeId) (ns : List (Want TypeId)) → EachStands (Stands types vs) (map (λ p. p.0) ps) ts ns → length ns ≡ names_all (pats (map pattern (map (λ p. p.0) ps)))
  each_counted [] [] ns h = ap length h
  each_counted [] (t ∷ ts) ns h = absurd h
  each_counted (p ∷ ps) [] ns h = absurd h
  each_counted (p ∷ ps) (t ∷ ts) ns h = ap length h.2 ∙ (length-append h.0 h.1 ∙ ap₂ (λ m n. m + n) (p.1 t h.0 h.3) (each_counted ps ts h.1 h.4))

  fields_counted : (xs : List K1) (fs : List (Field TypeId)) (ns : List (Want TypeId)) → FieldsStand (FieldStands types vs) (map (λ x. x.0) xs) fs ns →
      length ns ≡ names_all (pats (map (λ (l : LabelledPat). l.pattern) (map field (map (λ x. x.0) xs))))
  fields_counted [] fs ns h = ap length h
  fields_counted (x ∷ xs) fs ns h = ap length h.2 ∙ (length-append h.0 h.1 ∙ ap₂ (λ m n. m + n) (x.1 fs h.0 h.3) (fields_counted xs fs h.1 h.4))

  form_counted : (y : P.PatternForm-F K0 K1 K2) (t : TypeId) (ns : List (Want TypeId)) → form_standing types vs (map-PatternForm K0 K1 K2 PatternForm PatternField TypedPattern (λ z. z.0) (λ z. z.0) (λ z. z.0) y) t ns →
      length ns ≡ names (form_view (map-PatternForm K0 K1 K2 PatternForm PatternField TypedPattern (λ z. z.0) (λ z. z.0) (λ z. z.0) y))
  form_counted P.Wildcard t ns h = ap length h
  form_counted P.Bind t ns h = ap length h
  form_counted (P.Constant l) t ns h = ap length h.2 ∙ sym (literal_has_none l)
  form_counted (P.Present p) t ns h = p.1 h.0 ns h.2
  form_counted (P.Tagged l p) t ns h = p.1 h.1.part ns h.4
  form_counted (P.Parts ps) t ns h = each_counted ps h.0 ns h.2
  form_counted (P.Fields xs) t ns h = fields_counted xs h.0 ns h.2
  form_counted (P.Either p q) t ns h = ap length h.2

  form_case : (y : P.PatternForm-F K0 K1 K2) → FormClaim (roll-PatternForm (map-PatternForm K0 K1 K2 PatternForm PatternField TypedPattern (λ z. z.0) (λ z. z.0) (λ z. z.0) y))
  form_case y t ns h = form_counted y t ns ((rules.pattern_forms types vs _ t ns).0 h) ∙ ap names (sym (form_viewed _))

  field_case : (y : P.PatternField-F K0 K1 K2) → FieldClaim (roll-PatternField (map-PatternField K0 K1 K2 PatternForm PatternField TypedPattern (λ z. z.0) (λ z. z.0) (λ z. z.0) y))
  field_case y fs ns h =
      let f : field_standing types vs (map-PatternField K0 K1 K2 PatternForm PatternField TypedPattern (λ z. z.0) (λ z. z.0) (λ z. z.0) y) fs ns = (rules.fields types vs _ fs ns).0 h in
      y.pattern.1 f.0 ns f.2 ∙ ap names (sym (field_viewed _))

  pattern_case : (y : P.TypedPattern-F K0 K1 K2) → PatternClaim (roll-TypedPattern (map-TypedPattern K0 K1 K2 PatternForm PatternField TypedPattern (λ z. z.0) (λ z. z.0) (λ z. z.0) y))
  pattern_case y t ns h =
      let f : pattern_standing types vs (map-TypedPattern K0 K1 K2 PatternForm PatternField TypedPattern (λ z. z.0) (λ z. z.0) (λ z. z.0) y) t ns = (rules.patterns types vs _ t ns).0 h in
      y.form.1 y.of_type ns f.2 ∙ ap names (sym (pattern_viewed _))

  pub names_counted : (p : TypedPattern) → PatternClaim p
  names_counted = ind-TypedPattern FormClaim FieldClaim PatternClaim
      (λ x y is. subst (λ z. FormClaim (roll-PatternForm z)) is (form_case y))
      (λ x y is. subst (λ z. FieldClaim (roll-PatternField z)) is (field_case y))
      (λ x y is. subst (λ z. PatternClaim (roll-TypedPattern z)) is (pattern_case y))

  pub all_counted : (ps : List TypedPattern) (ts : List TypeId) (ns : List (Want TypeId)) → EachStands (Stands types vs) ps ts ns → length ns ≡ names_all (patterns ps)
  all_counted [] [] ns h = ap length h
  all_counted [] (t ∷ ts) ns h = absurd h
  all_counted (p ∷ ps) [] ns h = absurd h
  all_counted (p ∷ ps) (t ∷ ts) ns h = ap length h.2 ∙ (length-append h.0 h.1 ∙ ap₂ (λ m n. m + n) (names_counted p t h.0 h.3) (all_counted ps ts h.1 h.4))
