-- The checks of a pattern of a tree bind as many names as the pattern has.
use Rattle.std.proofs.Common.{◌≡◌, ℕ, suc, ◌+◌, ◌-◌, List, [], ◌∷◌, length, length-append, map, refl, sym, ap, ap₂, ◌∙◌, subst}
use Rattle.mo_values.specs.Shapes.{Bytes}
use Rattle.typed_tree.specs.declared.literal.Literal.{Literal}
use Rattle.typed_tree.specs.declared.literal.Literal.TheVariants as literal
use Rattle.typed_tree.specs.declared.pattern.TypedPattern.{TypedPattern, roll-TypedPattern, ind-TypedPattern, map-TypedPattern, fold-roll-TypedPattern}
use Rattle.typed_tree.specs.declared.pattern.PatternForm.{PatternForm, roll-PatternForm, map-PatternForm, fold-roll-PatternForm}
use Rattle.typed_tree.specs.declared.pattern.PatternForm.TheOpen as P
use Rattle.typed_tree.specs.declared.pattern.PatternField.{PatternField, roll-PatternField, map-PatternField, fold-roll-PatternField}
use Rattle.typed_tree.specs.Patterns.{Pat, Pats, Wildcard, Bind, Constant, Present?, Tagged, Parts, Fields, Either, NoPat, APat, names, names_all}
use Rattle.typed_tree.specs.PatternView.{LabelledPat, form_step, field_step, pattern_step, literal_pattern, pats, pattern, pattern_form, patterns}
use Rattle.typed_tree.specs.ViewLaws.{field}
use Rattle.elaboration.specs.Checks.{Named, Source, check, check_parts, check_fields, check_all, part_of, field_of, level_of, names_with}

-- as many patterns as labels
abbrev mutual
  Even : Pat → Type 0
  Even Wildcard = Unit {0}
  Even Bind = Unit {0}
  Even (Constant c) = Unit {0}
  Even (Present? p) = Even p
  Even (Tagged l p) = Even p
  Even (Parts ps) = EvenAll ps
  Even (Fields ls ps) = EvenFields ls ps
  Even (Either p q) = Unit {0}

  EvenAll : Pats → Type 0
  EvenAll NoPat = Unit {0}
  EvenAll (APat p ps) = Even p × EvenAll ps

  EvenFields : List Bytes → Pats → Type 0
  EvenFields [] NoPat = Unit {0}
  EvenFields [] (APat p ps) = ⊥
  EvenFields (l ∷ ls) NoPat = Unit {0}
  EvenFields (l ∷ ls) (APat p ps) = Even p × EvenFields ls ps

mutual
  bound : (p : Pat) (v : Source) (n : ℕ) → Even p → length (check p v n).bound ≡ names p
  bound Wildcard v n h = refl
  bound Bind v n h = refl
  bound (Constant c) v n h = refl
  bound (Present? p) v n h = bound p (Named n) (suc n) h
  bound (Tagged l p) v n h = bound p (Named n) (suc n) h
  bound (Parts ps) v n h = bound_parts ps 0 (level_of v n) (names_with v n) h
  bound (Fields ls ps) v n h = bound_fields ls ps (level_of v n) (names_with v n) h
  bound (Either p q) v n h = refl

  bound_parts : (ps : Pats) (i level n : ℕ) → EvenAll ps → length (check_parts ps i level n).bound ≡ names_all ps
  bound_parts NoPat i level n h = refl
  bound_parts (APat p ps) i level n h =
      length-append (check p (part_of i level n) n).bound (check_parts ps (suc i) level (check p (part_of i level n) n).names).bound
      ∙ ap₂ (λ x y. x + y) (bound p (part_of i level n) n h.0) (bound_parts ps (suc i) level (check p (part_of i level n) n).names h.1)

  bound_fields : (ls : List Bytes) (ps : Pats) (level n : ℕ) → EvenFields ls ps → length (check_fields ls ps level n).bound ≡ names_all ps
  bound_fields [] NoPat level n h = refl
  bound_fields (l ∷ ls) NoPat level n h = refl
  bound_fields [] (APat p ps) level n h = absurd h
  bound_fields (l ∷ ls) (APat p ps) level n h =
      length-append (check p (field_of l level n) n).bound (check_fields ls ps level (check p (field_of l level n) n).names).bound
      ∙ ap₂ (λ x y. x + y) (bound p (field_of l level n) n h.0) (bound_fields ls ps level (check p (field_of l level n) n).names h.1)

bound_each : (ps : Pats) (level n : ℕ) → EvenAll ps → length (check_all ps level n).bound ≡ names_all ps
bound_each NoPat level n h = refl
bound_each (APat p ps) level n h =
    length-append (check p (Named level) n).bound (check_all ps (level - 1) (check p (Named level) n).names).bound
    ∙ ap₂ (λ x y. x + y) (bound p (Named level) n h.0) (bound_each ps (level - 1) (check p (Named level) n).names h.1)

-- ---- patterns of a tree

abbrev form_view : P.PatternForm-F PatternForm PatternField TypedPattern → Pat
form_view x = form_step (map-PatternForm PatternForm PatternField TypedPattern Pat LabelledPat Pat pattern_form field pattern x)

form_viewed : (x : P.PatternForm-F PatternForm PatternField TypedPattern) → pattern_form (roll-PatternForm x) ≡ form_view x
unfolding pattern_form field pattern
form_viewed x = fold-roll-PatternForm Pat LabelledPat Pat form_step field_step pattern_step x

field_viewed : (x : P.PatternField-F PatternForm PatternField TypedPattern) → (field (roll-PatternField x)).pattern ≡ pattern x.pattern
unfolding pattern_form field pattern
field_viewed x = ap (λ (l : LabelledPat). l.pattern) (fold-roll-PatternField Pat LabelledPat Pat form_step field_step pattern_step x)

pattern_viewed : (x : P.TypedPattern-F PatternForm PatternField TypedPattern) → pattern (roll-TypedPattern x) ≡ pattern_form x.form
unfolding pattern_form field pattern
pattern_viewed x = fold-roll-TypedPattern Pat LabelledPat Pat form_step field_step pattern_step x

abbrev FormClaim : PatternForm → Type 0
FormClaim f = Even (pattern_form f)

abbrev FieldClaim : PatternField → Type 0
FieldClaim x = Even (field x).pattern

abbrev PatternClaim : TypedPattern → Type 0
PatternClaim p = Even (pattern p)

abbrev K0 : Type 0
K0 = (x : PatternForm) × FormClaim x

abbrev K1 : Type 0
K1 = (x : PatternField) × FieldClaim x

abbrev K2 : Type 0
K2 = (x : TypedPattern) × PatternClaim x

literal_even : (l : Literal) → Even (literal_pattern l)
literal_even literal.Unit = tt
literal_even literal.Null = tt
literal_even (literal.Flag b) = tt
literal_even (literal.Number n) = tt
literal_even (literal.Character c) = tt
literal_even (literal.Text t) = tt
literal_even (literal.Blob t) = tt
literal_even (literal.Actor p) = tt

each_even : (ps : List K2) → EvenAll (pats (map pattern (map (λ p. p.0) ps)))
each_even [] = tt
each_even (p ∷ ps) = (p.1, each_even ps)

fields_even : (xs : List K1) → EvenFields (map (λ (l : LabelledPat). l.label) (map field (map (λ x. x.0) xs))) (pats (map (λ (l : LabelledPat). l.pattern) (map field (map (λ x. x.0) xs))))
fields_even [] = tt
fields_even (x ∷ xs) = (x.1, fields_even xs)

form_even : (y : P.PatternForm-F K0 K1 K2) → Even (form_view (map-PatternForm K0 K1 K2 PatternForm PatternField TypedPattern (λ z. z.0) (λ z. z.0) (λ z. z.0) y))
form_even P.Wildcard = tt
form_even P.Bind = tt
form_even (P.Constant l) = literal_even l
form_even (P.Present p) = p.1
form_even (P.Tagged l p) = p.1
form_even (P.Parts ps) = each_even ps
form_even (P.Fields xs) = fields_even xs
form_even (P.Either p q) = tt

form_case : (y : P.PatternForm-F K0 K1 K2) → FormClaim (roll-PatternForm (map-PatternForm K0 K1 K2 PatternForm PatternField TypedPattern (λ z. z.0) (λ z. z.0) (λ z. z.0) y))
form_case y = subst Even (sym (form_viewed _)) (form_even y)

field_case : (y : P.PatternField-F K0 K1 K2) → FieldClaim (roll-PatternField (map-PatternField K0 K1 K2 PatternForm PatternField TypedPattern (λ z. z.0) (λ z. z.0) (λ z. z.0) y))
field_case y = subst Even (sym (field_viewed _)) y.pattern.1

pattern_case : (y : P.TypedPattern-F K0 K1 K2) → PatternClaim (roll-TypedPattern (map-TypedPattern K0 K1 K2 PatternForm PatternField TypedPattern (λ z. z.0) (λ z. z.0) (λ z. z.0) y))
pattern_case y = subst Even (sym (pattern_viewed _)) y.form.1

even : (p : TypedPattern) → PatternClaim p
even = ind-TypedPattern FormClaim FieldClaim PatternClaim
    (λ x y is. subst (λ z. FormClaim (roll-PatternForm z)) is (form_case y))
    (λ x y is. subst (λ z. FieldClaim (roll-PatternField z)) is (field_case y))
    (λ x y is. subst (λ z. PatternClaim (roll-TypedPattern z)) is (pattern_case y))

all_even : (ps : List TypedPattern) → EvenAll (patterns ps)
all_even [] = tt
all_even (p ∷ ps) = (even p, all_even ps)

-- ---- their names

pub names_bound : (p : TypedPattern) (v : Source) (n : ℕ) → length (check (pattern p) v n).bound ≡ names (pattern p)
names_bound p v n = bound (pattern p) v n (even p)

pub all_bound : (ps : List TypedPattern) (level n : ℕ) → length (check_all (patterns ps) level n).bound ≡ names_all (patterns ps)
all_bound ps level n = bound_each (patterns ps) level n (all_even ps)
