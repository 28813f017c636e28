-- A pattern that is written out has no more tests than what is written has nodes.
use Rattle.std.proofs.Common.{◌≡◌, ◌≤◌, ℕ, suc, ◌+◌, List, map, ap, ◌∙◌, arith}
use Rattle.mo_types.specs.declared.node.TypeId.{TypeId}
use Rattle.typed_tree.specs.declared.literal.Literal.{Literal}
use Rattle.typed_tree.specs.declared.literal.Literal.TheVariants as literal
use Rattle.typed_tree.specs.declared.pattern.TypedPattern.{TypedPattern, roll-TypedPattern, fold-roll-TypedPattern}
use Rattle.typed_tree.specs.declared.pattern.PatternForm.{PatternForm, roll-PatternForm, fold-roll-PatternForm}
use Rattle.typed_tree.specs.declared.pattern.PatternForm.TheOpen as P
use Rattle.typed_tree.specs.declared.pattern.PatternField.{PatternField, roll-PatternField}
use Rattle.typed_tree.specs.Patterns.{Pat}
use Rattle.typed_tree.specs.PatternView.{LabelledPat, pattern, pattern_form, pats, literal_pattern, form_step, field_step, pattern_step}
use Rattle.typed_tree.specs.ViewLaws.{field}
use Rattle.typed_tree.proofs.Views.{pattern_views}
use Rattle.typing_rules.specs.AbstractSyntax.{Bytes, Pattern, Patterns, PatternFields}
use Rattle.typing_rules.specs.AbstractSyntax as p
use Rattle.typing_rules.specs.Definitions.{Definitions}
use Rattle.typing_rules.specs.Heads.{head}
use Rattle.typing_rules.specs.Nodes as counts
use Rattle.typing_rules.specs.Terms.{Term, unit}
use Rattle.typing_rules.specs.TypedTrees.{Note}
use Rattle.desugaring.specs.Nodes.{literal_at}
use Rattle.desugaring.specs.Patterns as made
use Rattle.nesting.specs.Shapes.{tests, tests_all}

abbrev Layer : Type 0
Layer = P.PatternForm-F PatternForm PatternField TypedPattern

abbrev pub tests_in : TypedPattern → ℕ
tests_in q = tests (pattern q)

-- ---- one layer

layer : (u : TypeId) (x : Layer) → pattern (roll-TypedPattern (record { of_type = u; form = roll-PatternForm x })) ≡ pattern_form (roll-PatternForm x)
unfolding pattern pattern_form
layer u x = fold-roll-TypedPattern Pat LabelledPat Pat form_step field_step pattern_step (record { of_type = u; form = roll-PatternForm x })

abbrev node : TypeId → Layer → TypedPattern
node u x = roll-TypedPattern (record { of_type = u; form = roll-PatternForm x })

wildcard_tests : (u : TypeId) → tests_in (node u P.Wildcard) ≡ 0
unfolding pattern pattern_form field
wildcard_tests u = ap tests (layer u P.Wildcard ∙ fold-roll-PatternForm Pat LabelledPat Pat form_step field_step pattern_step P.Wildcard)

pub bind_tests : (u : TypeId) → tests_in (node u P.Bind) ≡ 0
unfolding pattern pattern_form field
bind_tests u = ap tests (layer u P.Bind ∙ fold-roll-PatternForm Pat LabelledPat Pat form_step field_step pattern_step P.Bind)

literal_tests : (l : Literal) → tests (literal_pattern l) ≤ 1
literal_tests literal.Unit = omega arith
literal_tests literal.Null = omega arith
literal_tests (literal.Flag b) = omega arith
literal_tests (literal.Number n) = omega arith
literal_tests (literal.Character c) = omega arith
literal_tests (literal.Text t) = omega arith
literal_tests (literal.Blob t) = omega arith
literal_tests (literal.Actor t) = omega arith

constant_is : (u : TypeId) (l : Literal) → tests_in (node u (P.Constant l)) ≡ tests (literal_pattern l)
unfolding pattern pattern_form field
constant_is u l = ap tests (layer u (P.Constant l) ∙ fold-roll-PatternForm Pat LabelledPat Pat form_step field_step pattern_step (P.Constant l))

present_tests : (u : TypeId) (q : TypedPattern) → tests_in (node u (P.Present q)) ≡ suc (tests_in q)
unfolding pattern pattern_form field
present_tests u q = ap tests (layer u (P.Present q) ∙ fold-roll-PatternForm Pat LabelledPat Pat form_step field_step pattern_step (P.Present q))

tagged_tests : (u : TypeId) (x : Bytes) (q : TypedPattern) → tests_in (node u (P.Tagged x q)) ≡ suc (tests_in q)
unfolding pattern pattern_form field
tagged_tests u x q = ap tests (layer u (P.Tagged x q) ∙ fold-roll-PatternForm Pat LabelledPat Pat form_step field_step pattern_step (P.Tagged x q))

parts_tests : (u : TypeId) (qs : List TypedPattern) → tests_in (node u (P.Parts qs)) ≡ tests_all (pats (map pattern qs))
unfolding pattern pattern_form field
parts_tests u qs = ap tests (layer u (P.Parts qs) ∙ fold-roll-PatternForm Pat LabelledPat Pat form_step field_step pattern_step (P.Parts qs))

abbrev inner : List PatternField → List Pat
inner xs = map (λ x. x.pattern) (map field xs)

fields_tests : (u : TypeId) (xs : List PatternField) → tests_in (node u (P.Fields xs)) ≡ tests_all (pats (inner xs))
unfolding pattern pattern_form field
fields_tests u xs = ap tests (layer u (P.Fields xs) ∙ fold-roll-PatternForm Pat LabelledPat Pat form_step field_step pattern_step (P.Fields xs))

either_tests : (u : TypeId) (q r : TypedPattern) → tests_in (node u (P.Either q r)) ≡ suc (tests_in q + tests_in r)
unfolding pattern pattern_form field
either_tests u q r = ap tests (layer u (P.Either q r) ∙ fold-roll-PatternForm Pat LabelledPat Pat form_step field_step pattern_step (P.Either q r))

field_tests : (x : Bytes) (q : TypedPattern) → tests (field (roll-PatternField (record { label = x; pattern = q }))).pattern ≡ tests_in q
field_tests x q = ap (λ (y : LabelledPat). tests y.pattern) (pattern_views.labelled x q)

-- ---- whole patterns

module _ (defs : Definitions) (number : Term → TypeId) where
  mutual
    pub tests_few : (q : Pattern Note) → tests_in (made.pattern defs number q) ≤ counts.in_pattern q
    tests_few (p.pattern n (p.Annotated q a)) = omega (arith, tests_few q)
    tests_few (p.pattern n (p.Alternative q r)) = omega (arith, either_tests (number n.type) (made.pattern defs number q) (made.pattern defs number r), tests_few q, tests_few r)
    tests_few (p.pattern n (p.Optional q)) = omega (arith, present_tests (number n.type) (made.pattern defs number q), tests_few q)
    tests_few (p.pattern n (p.Tag x)) =
        omega (arith, tagged_tests (number n.type) x (node (number unit) (P.Constant literal.Unit)), constant_is (number unit) literal.Unit)
    tests_few (p.pattern n (p.Tagged x q)) = omega (arith, tagged_tests (number n.type) x (made.pattern defs number q), tests_few q)
    tests_few (p.pattern n (p.Variable x)) = omega (arith, bind_tests (number n.type))
    tests_few (p.pattern n p.Wildcard) = omega (arith, wildcard_tests (number n.type))
    tests_few (p.pattern n (p.Constant minus l)) =
        omega (arith, constant_is (number n.type) (literal_at minus l (head defs n.type)), literal_tests (literal_at minus l (head defs n.type)))
    tests_few (p.pattern n (p.Tuple items)) = omega (arith, parts_tests (number n.type) (made.patterns defs number items), all_tests_few items)
    tests_few (p.pattern n (p.Object fields)) = omega (arith, fields_tests (number n.type) (made.fields_of defs number fields), fields_tests_few fields)

    pub all_tests_few : (qs : Patterns Note) → tests_all (pats (map pattern (made.patterns defs number qs))) ≤ counts.in_patterns qs
    all_tests_few p.Nil = omega arith
    all_tests_few (p.Cons q rest) = omega (arith, tests_few q, all_tests_few rest)

    fields_tests_few : (fields : PatternFields Note) → tests_all (pats (inner (made.fields_of defs number fields))) ≤ counts.in_pattern_fields fields
    fields_tests_few p.NoFields = omega arith
    fields_tests_few (p.Field x q rest) = omega (arith, field_tests x.bytes (made.pattern defs number q), tests_few q, fields_tests_few rest)
