-- What is counted of a type, a pattern, an expression or a field, by its form.
use Rattle.std.proofs.Common.{◌≡◌, ℕ, suc, ◌+◌, ap, ◌∙◌, sym, refl, arith}
use Rattle.typing_rules.specs.AbstractSyntax as p
use Rattle.typing_rules.specs.Nodes as nodes
use Rattle.typing_rules.specs.TypedTrees.{Note}
use Rattle.abstract_types.specs.declared.types.TypeNode.{TypeNode}
use Rattle.abstract_types.specs.declared.types.TypeForm.{TypeForm}
use Rattle.abstract_types.specs.declared.patterns.Pattern.{Pattern}
use Rattle.abstract_types.specs.declared.patterns.PatternForm.{PatternForm}
use Rattle.abstract_types.specs.declared.patterns.PatternField.{PatternField}
use Rattle.abstract_types.specs.TypeView.{annotation, type_form, type_node}
use Rattle.abstract_types.specs.PatternView.{pattern, pattern_field, pattern_form}
use Rattle.abstract_types.specs.PatternView as q
use Rattle.abstract_types.proofs.TypeViews.{node_is}
use Rattle.abstract_tree.specs.declared.declarations.Declaration.{Declaration}
use Rattle.abstract_tree.specs.declared.declarations.DeclarationForm.{DeclarationForm}
use Rattle.abstract_tree.specs.declared.expressions.Case.{Case}
use Rattle.abstract_tree.specs.declared.expressions.Expression.{Expression}
use Rattle.abstract_tree.specs.declared.expressions.ExpressionForm.{ExpressionForm}
use Rattle.abstract_tree.specs.declared.expressions.ObjectField.{ObjectField}
use Rattle.abstract_tree.specs.TreeView as t
use Rattle.abstract_tree.specs.TreeView.{case, declaration, declaration_form, expression, expression_form, object_field}
use Rattle.value_scopes.specs.declared.note.Note as value_note
use Rattle.judged_parts.specs.declared.parts.Parts as value
use Rattle.judged_parts.specs.Parts as parts
use Rattle.judged_parts.specs.Parts.{See, Parts, parts_of, seen_parts}
use Rattle.judged_parts.proofs.PatternViews as Q
use Rattle.judged_parts.proofs.TreeViews as V

pub of_type : (n : TypeNode) (f : TypeForm) (s : p.TypeForm) → f ≡ n.form → type_form f ≡ s → nodes.in_type (type_node n) ≡ nodes.in_type (p.node n.at s)
of_type n f s h e = ap nodes.in_type (node_is n ∙ ap (p.node n.at) (ap type_form (sym h) ∙ e))

module _ (see : See) where
  pub of_pattern : (x : Pattern value_note.Note) (f : PatternForm value_note.Note) (s : p.PatternForm Note) → f ≡ x.form → pattern_form see f ≡ s → nodes.in_pattern (pattern see x) ≡ nodes.in_pattern (p.pattern (see x.note) s)
  of_pattern x f s h e = ap nodes.in_pattern (Q.pattern_is see x f (sym h) ∙ ap (p.pattern (see x.note)) e)

  pub of_pattern_field : (x : PatternField value_note.Note) (rest : p.PatternFields Note) → nodes.in_pattern_fields (pattern_field see x rest) ≡ 1 + nodes.in_pattern (pattern see x.pattern) + nodes.in_pattern_fields rest
  of_pattern_field x rest =
      let z : suc (nodes.in_pattern (pattern see x.pattern) + nodes.in_pattern_fields rest) ≡ 1 + nodes.in_pattern (pattern see x.pattern) + nodes.in_pattern_fields rest = omega arith in
      ap {B = ℕ} (λ (f : q.FieldView Note). nodes.in_pattern_fields (f rest)) (Q.field_is see x) ∙ z

  pub of_case : (x : Case value_note.Note) (rest : p.Cases Note) → nodes.in_cases (case see x rest) ≡ nodes.in_pattern (pattern see x.pattern) + nodes.in_expression (expression see x.body) + nodes.in_cases rest
  of_case x rest = ap {B = ℕ} (λ (f : t.CaseView Note). nodes.in_cases (f rest)) (V.case_is see x)

  pub of_object_field : (x : ObjectField value_note.Note) (rest : p.ObjectFields Note) → nodes.in_fields (object_field see x rest) ≡ 1 + nodes.in_annotation (annotation x.annotation) + nodes.in_expression (expression see x.value) + nodes.in_fields rest
  of_object_field x rest =
      let z : suc (nodes.in_annotation (annotation x.annotation) + nodes.in_expression (expression see x.value) + nodes.in_fields rest) ≡ 1 + nodes.in_annotation (annotation x.annotation) + nodes.in_expression (expression see x.value) + nodes.in_fields rest = omega arith in
      ap {B = ℕ} (λ (f : t.FieldView Note). nodes.in_fields (f rest)) (V.field_is see x) ∙ z

  pub of_member : (x : Declaration value_note.Note) (rest : p.Declarations Note) → nodes.in_list (declaration see x rest) ≡ 1 + nodes.in_declaration (declaration_form see x.form) + nodes.in_list rest
  of_member x rest =
      let z : suc (nodes.in_declaration (declaration_form see x.form) + nodes.in_list rest) ≡ 1 + nodes.in_declaration (declaration_form see x.form) + nodes.in_list rest = omega arith in
      ap {B = ℕ} (λ (f : t.DeclarationView Note). nodes.in_list (f rest)) (V.declaration_is see x) ∙ z

-- ---- expressions, by their parts

abbrev pub in_parts : Parts → ℕ
in_parts parts.Nothing = 1
in_parts (parts.Name x) = 1
in_parts (parts.One a) = suc (nodes.in_expression a)
in_parts (parts.Two a b) = suc (nodes.in_expression a + nodes.in_expression b)
in_parts (parts.Three a b c) = suc (nodes.in_expression a + nodes.in_expression b + nodes.in_expression c)
in_parts (parts.Each items) = suc (nodes.in_each items)
in_parts (parts.Fields xs) = suc (nodes.in_fields xs)
in_parts (parts.Annotated a u) = suc (nodes.in_expression a + nodes.in_type u)
in_parts (parts.Call a types arguments) = suc (nodes.in_expression a + nodes.in_type_arguments types + nodes.in_each arguments)
in_parts (parts.Switch a list) = suc (nodes.in_expression a + nodes.in_cases list)
in_parts (parts.WithPattern x a b) = suc (nodes.in_pattern x + nodes.in_expression a + nodes.in_expression b)
in_parts (parts.Labelled u a) = suc (nodes.in_annotation u + nodes.in_expression a)
in_parts (parts.Declared ds) = suc (nodes.in_list ds)
in_parts (parts.Function g a) = suc (nodes.in_signature g + nodes.in_expression a)
in_parts (parts.Subsumed a) = nodes.in_expression a

of_form : (k : Note) (f : p.Form Note) → nodes.in_expression (p.exp k f) ≡ in_parts (parts_of f)
of_form k (p.Constant l) = refl
of_form k (p.Name x) = refl
of_form k (p.Tuple items) = refl
of_form k (p.Optional a) = refl
of_form k (p.Tag x) = refl
of_form k (p.Tagged x a) = refl
of_form k (p.Array mutable items) = refl
of_form k (p.Object xs) = refl
of_form k (p.Member a x) = refl
of_form k (p.Projection a n) = refl
of_form k (p.Index a b) = refl
of_form k (p.Annotated a t) = refl
of_form k (p.Negative a) = refl
of_form k (p.Binary o a b) = refl
of_form k (p.Not a) = refl
of_form k (p.Assign a b) = refl
of_form k (p.AssignBy o a b) = refl
of_form k (p.Call a types arguments) = refl
of_form k (p.When a b) = refl
of_form k (p.If a b c) = refl
of_form k (p.Switch a list) = refl
of_form k (p.Try a x b) = let z : suc (nodes.in_expression a + nodes.in_pattern x + nodes.in_expression b) ≡ suc (nodes.in_pattern x + nodes.in_expression a + nodes.in_expression b) = omega arith in z
of_form k (p.While a b) = refl
of_form k (p.Loop a) = refl
of_form k (p.LoopWhile a b) = refl
of_form k (p.For q a b) = refl
of_form k (p.Label x t a) = refl
of_form k (p.Break x) = refl
of_form k (p.BreakWith x a) = refl
of_form k (p.Continue x) = refl
of_form k p.Return = refl
of_form k (p.ReturnWith a) = refl
of_form k (p.Throw a) = refl
of_form k (p.Do a) = refl
of_form k (p.DoOption a) = refl
of_form k (p.Bang a) = refl
of_form k (p.Block ds) = refl
of_form k (p.Function g a) = refl
of_form k (p.ObjectBlock ds) = refl
of_form k (p.Assert a) = refl
of_form k (p.Ignore a) = refl
of_form k (p.Debug a) = refl
of_form k (p.ActorReference x) = refl
of_form k (p.Await a) = refl
of_form k (p.BuiltIn m) = refl
of_form k (p.Subsumed a) = refl

module _ (see : See) where
  pub of_expression : (a : Expression value_note.Note) (f : ExpressionForm value_note.Note) (ps : value.Parts) (s : Parts) → f ≡ a.form → seen_parts see ps ≡ parts_of (expression_form see f) → seen_parts see ps ≡ s
      → nodes.in_expression (expression see a) ≡ in_parts s
  of_expression a f ps s h e k = ap nodes.in_expression (V.expression_is see a ∙ ap (p.exp (see a.note)) (ap (expression_form see) (sym h))) ∙ of_form (see a.note) (expression_form see f) ∙ ap in_parts (sym e ∙ k)

  -- ---- declarations

  pub of_declaration : (f : DeclarationForm value_note.Note) (g : DeclarationForm value_note.Note) (s : p.Declaration Note) → f ≡ g → declaration_form see g ≡ s → nodes.in_declaration (declaration_form see f) ≡ nodes.in_declaration s
  of_declaration f g s h e = ap nodes.in_declaration (ap (declaration_form see) h ∙ e)
