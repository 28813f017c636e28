-- The nodes of patterns.
use Rattle.std.proofs.Common.{◌≡◌, ◌≤◌, ◌+◌, ◌*◌, List, [], ◌∷◌, ◌++◌, length, map, refl, ap, ◌∙◌, arith}
use Rattle.mo_types.specs.declared.node.TypeId.{TypeId}
use Rattle.typed_tree.specs.declared.literal.Literal.{Literal}
use Rattle.typed_tree.specs.declared.literal.Literal.TheVariants as literal
use Rattle.typed_tree.specs.declared.pattern.TypedPattern.{TypedPattern, roll-TypedPattern, fold-roll-TypedPattern}
use Rattle.typed_tree.specs.declared.pattern.PatternForm.{PatternForm, roll-PatternForm, fold-roll-PatternForm}
use Rattle.typed_tree.specs.declared.pattern.PatternForm.TheOpen as P
use Rattle.typed_tree.specs.declared.pattern.PatternField.{PatternField, roll-PatternField}
use Rattle.typed_tree.specs.Nodes.{in_pattern, in_patterns}
use Rattle.typed_tree.specs.Patterns.{Pat, pattern_nodes, nodes_of_all}
use Rattle.typed_tree.specs.PatternView.{LabelledPat, pattern, pattern_form, pats, literal_pattern, form_step, field_step, pattern_step}
use Rattle.typed_tree.specs.ViewLaws.{field}
use Rattle.typed_tree.proofs.Views.{pattern_views}
use Rattle.typing_rules.specs.AbstractSyntax.{Bytes, Pattern, Patterns, PatternFields}
use Rattle.typing_rules.specs.AbstractSyntax as p
use Rattle.typing_rules.specs.Definitions.{Definitions}
use Rattle.typing_rules.specs.Heads.{head}
use Rattle.typing_rules.specs.Nodes as counts
use Rattle.typing_rules.specs.Terms.{Term, unit}
use Rattle.typing_rules.specs.TypedTrees.{Note}
use Rattle.desugaring.specs.FreeNames.{names_in, names_in_each, names_in_fields}
use Rattle.desugaring.specs.Nodes.{literal_at}
use Rattle.desugaring.specs.Patterns as made

abbrev Layer : Type 0
Layer = P.PatternForm-F PatternForm PatternField TypedPattern

-- ---- one layer

layer : (u : TypeId) (x : Layer) → pattern (roll-TypedPattern (record { of_type = u; form = roll-PatternForm x })) ≡ pattern_form (roll-PatternForm x)
unfolding pattern pattern_form
layer u x = fold-roll-TypedPattern Pat LabelledPat Pat form_step field_step pattern_step (record { of_type = u; form = roll-PatternForm x })

abbrev node : TypeId → Layer → TypedPattern
node u x = roll-TypedPattern (record { of_type = u; form = roll-PatternForm x })

wildcard_nodes : (u : TypeId) → in_pattern (node u P.Wildcard) ≡ 1
unfolding pattern pattern_form field
wildcard_nodes u = ap pattern_nodes (layer u P.Wildcard ∙ fold-roll-PatternForm Pat LabelledPat Pat form_step field_step pattern_step P.Wildcard)

pub bind_nodes : (u : TypeId) → in_pattern (node u P.Bind) ≡ 1
unfolding pattern pattern_form field
bind_nodes u = ap pattern_nodes (layer u P.Bind ∙ fold-roll-PatternForm Pat LabelledPat Pat form_step field_step pattern_step P.Bind)

literal_nodes : (l : Literal) → pattern_nodes (literal_pattern l) ≡ 1
literal_nodes literal.Unit = refl
literal_nodes literal.Null = refl
literal_nodes (literal.Flag b) = refl
literal_nodes (literal.Number n) = refl
literal_nodes (literal.Character c) = refl
literal_nodes (literal.Text t) = refl
literal_nodes (literal.Blob t) = refl
literal_nodes (literal.Actor t) = refl

constant_nodes : (u : TypeId) (l : Literal) → in_pattern (node u (P.Constant l)) ≡ 1
unfolding pattern pattern_form field
constant_nodes u l = ap pattern_nodes (layer u (P.Constant l) ∙ fold-roll-PatternForm Pat LabelledPat Pat form_step field_step pattern_step (P.Constant l)) ∙ literal_nodes l

present_nodes : (u : TypeId) (q : TypedPattern) → in_pattern (node u (P.Present q)) ≡ 1 + in_pattern q
unfolding pattern pattern_form field
present_nodes u q = ap pattern_nodes (layer u (P.Present q) ∙ fold-roll-PatternForm Pat LabelledPat Pat form_step field_step pattern_step (P.Present q))

tagged_nodes : (u : TypeId) (x : Bytes) (q : TypedPattern) → in_pattern (node u (P.Tagged x q)) ≡ 1 + in_pattern q
unfolding pattern pattern_form field
tagged_nodes u x q = ap pattern_nodes (layer u (P.Tagged x q) ∙ fold-roll-PatternForm Pat LabelledPat Pat form_step field_step pattern_step (P.Tagged x q))

parts_nodes : (u : TypeId) (qs : List TypedPattern) → in_pattern (node u (P.Parts qs)) ≡ 1 + nodes_of_all (pats (map pattern qs))
unfolding pattern pattern_form field
parts_nodes u qs = ap pattern_nodes (layer u (P.Parts qs) ∙ fold-roll-PatternForm Pat LabelledPat Pat form_step field_step pattern_step (P.Parts qs))

abbrev labels : List PatternField → List Bytes
labels xs = map (λ x. x.label) (map field xs)

abbrev inner : List PatternField → List Pat
inner xs = map (λ x. x.pattern) (map field xs)

fields_nodes : (u : TypeId) (xs : List PatternField) → in_pattern (node u (P.Fields xs)) ≡ 1 + length (labels xs) + nodes_of_all (pats (inner xs))
unfolding pattern pattern_form field
fields_nodes u xs = ap pattern_nodes (layer u (P.Fields xs) ∙ fold-roll-PatternForm Pat LabelledPat Pat form_step field_step pattern_step (P.Fields xs))

either_nodes : (u : TypeId) (q r : TypedPattern) → in_pattern (node u (P.Either q r)) ≡ 1 + in_pattern q + in_pattern r
unfolding pattern pattern_form field
either_nodes u q r = ap pattern_nodes (layer u (P.Either q r) ∙ fold-roll-PatternForm Pat LabelledPat Pat form_step field_step pattern_step (P.Either q r))

field_nodes : (x : Bytes) (q : TypedPattern) → pattern_nodes (field (roll-PatternField (record { label = x; pattern = q }))).pattern ≡ in_pattern q
field_nodes x q = ap (λ (y : LabelledPat). pattern_nodes y.pattern) (pattern_views.labelled x q)

-- ---- whole patterns

module _ (defs : Definitions) (number : Term → TypeId) where
  mutual
    pub pattern_covered : (q : Pattern Note) → in_pattern (made.pattern defs number q) ≤ 2 * counts.in_pattern q
    pattern_covered (p.pattern n (p.Annotated q a)) = omega (arith, pattern_covered q)
    pattern_covered (p.pattern n (p.Alternative q r)) = omega (arith, either_nodes (number n.type) (made.pattern defs number q) (made.pattern defs number r), pattern_covered q, pattern_covered r)
    pattern_covered (p.pattern n (p.Optional q)) = omega (arith, present_nodes (number n.type) (made.pattern defs number q), pattern_covered q)
    pattern_covered (p.pattern n (p.Tag x)) = omega (arith, tagged_nodes (number n.type) x (node (number unit) (P.Constant literal.Unit)), constant_nodes (number unit) literal.Unit)
    pattern_covered (p.pattern n (p.Tagged x q)) = omega (arith, tagged_nodes (number n.type) x (made.pattern defs number q), pattern_covered q)
    pattern_covered (p.pattern n (p.Variable x)) = omega (arith, bind_nodes (number n.type))
    pattern_covered (p.pattern n p.Wildcard) = omega (arith, wildcard_nodes (number n.type))
    pattern_covered (p.pattern n (p.Constant minus l)) = omega (arith, constant_nodes (number n.type) (literal_at minus l (head defs n.type)))
    pattern_covered (p.pattern n (p.Tuple items)) = omega (arith, parts_nodes (number n.type) (made.patterns defs number items), items_covered items)
    pattern_covered (p.pattern n (p.Object fields)) = omega (arith, fields_nodes (number n.type) (made.fields_of defs number fields), fields_covered fields)

    items_covered : (qs : Patterns Note) → nodes_of_all (pats (map pattern (made.patterns defs number qs))) ≤ 2 * counts.in_patterns qs
    items_covered p.Nil = omega arith
    items_covered (p.Cons q rest) = omega (arith, pattern_covered q, items_covered rest)

    fields_covered : (fields : PatternFields Note) → length (labels (made.fields_of defs number fields)) + nodes_of_all (pats (inner (made.fields_of defs number fields))) ≤ 2 * counts.in_pattern_fields fields
    fields_covered p.NoFields = omega arith
    fields_covered (p.Field x q rest) = omega (arith, field_nodes x.bytes (made.pattern defs number q), pattern_covered q, fields_covered rest)

  pub patterns_covered : (qs : Patterns Note) → in_patterns (made.patterns defs number qs) ≤ 2 * counts.in_patterns qs
  patterns_covered p.Nil = omega arith
  patterns_covered (p.Cons q rest) = omega (arith, pattern_covered q, patterns_covered rest)

-- ---- names

pub length_append : {A : Type 0} (xs ys : List A) → length (xs ++ ys) ≡ length xs + length ys
length_append [] ys = omega arith
length_append (x ∷ xs) ys = omega (arith, length_append xs ys)

mutual
  -- a pattern has no more names than nodes
  pub names_few : (q : Pattern Note) → length (names_in q) ≤ counts.in_pattern q
  names_few (p.pattern n (p.Annotated q a)) = omega (arith, names_few q)
  names_few (p.pattern n (p.Alternative q r)) = omega arith
  names_few (p.pattern n (p.Optional q)) = omega (arith, names_few q)
  names_few (p.pattern n (p.Tag x)) = omega arith
  names_few (p.pattern n (p.Tagged x q)) = omega (arith, names_few q)
  names_few (p.pattern n (p.Variable x)) = omega arith
  names_few (p.pattern n p.Wildcard) = omega arith
  names_few (p.pattern n (p.Constant minus l)) = omega arith
  names_few (p.pattern n (p.Tuple items)) = omega (arith, names_few_each items)
  names_few (p.pattern n (p.Object fields)) = omega (arith, names_few_fields fields)

  names_few_each : (qs : Patterns Note) → length (names_in_each qs) ≤ counts.in_patterns qs
  names_few_each p.Nil = omega arith
  names_few_each (p.Cons q rest) = omega (arith, length_append (names_in q) (names_in_each rest), names_few q, names_few_each rest)

  names_few_fields : (fields : PatternFields Note) → length (names_in_fields fields) ≤ counts.in_pattern_fields fields
  names_few_fields p.NoFields = omega arith
  names_few_fields (p.Field x q rest) = omega (arith, length_append (names_in q) (names_in_fields rest), names_few q, names_few_fields rest)
