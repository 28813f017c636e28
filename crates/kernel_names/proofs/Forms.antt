-- What is collected of a part, by its form.
use Rattle.std.proofs.Common.{◌≡◌, List, [], ◌∷◌, ◌++◌, ap, ◌∙◌, sym, refl}
use Rattle.typing_rules.specs.AbstractSyntax.{Bytes}
use Rattle.typing_rules.specs.AbstractSyntax as p
use Rattle.typing_rules.specs.TypedTrees.{Note}
use Rattle.abstract_types.specs.declared.patterns.Pattern.{Pattern}
use Rattle.abstract_types.specs.declared.patterns.PatternForm.{PatternForm}
use Rattle.abstract_types.specs.declared.patterns.PatternField.{PatternField}
use Rattle.abstract_types.specs.PatternView.{pattern, pattern_field, pattern_form}
use Rattle.abstract_types.specs.PatternView as q
use Rattle.abstract_tree.specs.declared.declarations.Declaration.{Declaration}
use Rattle.abstract_tree.specs.declared.declarations.DeclarationForm.{DeclarationForm}
use Rattle.abstract_tree.specs.declared.expressions.Case.{Case}
use Rattle.abstract_tree.specs.declared.expressions.Expression.{Expression}
use Rattle.abstract_tree.specs.declared.expressions.ExpressionForm.{ExpressionForm}
use Rattle.abstract_tree.specs.declared.expressions.ObjectField.{ObjectField}
use Rattle.abstract_tree.specs.TreeView as t
use Rattle.abstract_tree.specs.TreeView.{case, declaration, declaration_form, expression, expression_form, object_field}
use Rattle.value_scopes.specs.declared.note.Note as value_note
use Rattle.desugaring.specs.FreeNames as n
use Rattle.desugaring.specs.FreeNames.{without}
use Rattle.judged_parts.specs.declared.parts.Parts as value
use Rattle.judged_parts.specs.Parts as parts
use Rattle.judged_parts.specs.Parts.{See, Parts, parts_of, seen_parts}
use Rattle.judged_parts.proofs.PatternViews as Q
use Rattle.judged_parts.proofs.TreeViews as V

module _ (see : See) where
  pub of_pattern : (x : Pattern value_note.Note) (f : PatternForm value_note.Note) (s : p.PatternForm Note) → f ≡ x.form → pattern_form see f ≡ s → n.names_in (pattern see x) ≡ n.names_in (p.pattern (see x.note) s)
  of_pattern x f s h e = ap n.names_in (Q.pattern_is see x f (sym h) ∙ ap (p.pattern (see x.note)) e)

  pub of_pattern_field : (x : PatternField value_note.Note) (rest : p.PatternFields Note) → n.names_in_fields (pattern_field see x rest) ≡ n.names_in (pattern see x.pattern) ++ n.names_in_fields rest
  of_pattern_field x rest = ap {B = List Bytes} (λ (f : q.FieldView Note). n.names_in_fields (f rest)) (Q.field_is see x)

  pub of_names : (f : DeclarationForm value_note.Note) (s : p.Declaration Note) → declaration_form see f ≡ s → n.names_of (declaration_form see f) ≡ n.names_of s
  of_names f s e = ap n.names_of e

  pub of_names_member : (x : Declaration value_note.Note) (rest : p.Declarations Note) → n.names_of_list (declaration see x rest) ≡ n.names_of (declaration_form see x.form) ++ n.names_of_list rest
  of_names_member x rest = ap {B = List Bytes} (λ (f : t.DeclarationView Note). n.names_of_list (f rest)) (V.declaration_is see x)

  pub of_case : (x : Case value_note.Note) (rest : p.Cases Note) → n.in_cases (case see x rest) ≡ without (n.names_in (pattern see x.pattern)) (n.occurring (expression see x.body)) ++ n.in_cases rest
  of_case x rest = ap {B = List Bytes} (λ (f : t.CaseView Note). n.in_cases (f rest)) (V.case_is see x)

  pub of_object_field : (x : ObjectField value_note.Note) (rest : p.ObjectFields Note) → n.in_fields (object_field see x rest) ≡ n.occurring (expression see x.value) ++ n.in_fields rest
  of_object_field x rest = ap {B = List Bytes} (λ (f : t.FieldView Note). n.in_fields (f rest)) (V.field_is see x)

  pub of_member : (x : Declaration value_note.Note) (rest : p.Declarations Note) → n.in_declarations (declaration see x rest) ≡ n.in_declaration (declaration_form see x.form) ++ n.in_declarations rest
  of_member x rest = ap {B = List Bytes} (λ (f : t.DeclarationView Note). n.in_declarations (f rest)) (V.declaration_is see x)

-- ---- expressions, by their parts

abbrev pub in_parts : Parts → List Bytes
in_parts parts.Nothing = []
in_parts (parts.Name x) = x ∷ []
in_parts (parts.One a) = n.occurring a
in_parts (parts.Two a b) = n.occurring a ++ n.occurring b
in_parts (parts.Three a b c) = n.occurring a ++ n.occurring b ++ n.occurring c
in_parts (parts.Each items) = n.in_each items
in_parts (parts.Fields xs) = n.in_fields xs
in_parts (parts.Annotated a u) = n.occurring a
in_parts (parts.Call a types arguments) = n.occurring a ++ n.in_each arguments
in_parts (parts.Switch a list) = n.occurring a ++ n.in_cases list
in_parts (parts.WithPattern x a b) = n.occurring a ++ without (n.names_in x) (n.occurring b)
in_parts (parts.Labelled u a) = n.occurring a
in_parts (parts.Declared ds) = without (n.names_of_list ds) (n.in_declarations ds)
in_parts (parts.Function g a) = without (n.names_in_each g.parameters) (n.occurring a)
in_parts (parts.Subsumed a) = n.occurring a

of_form : (k : Note) (f : p.Form Note) → n.occurring (p.exp k f) ≡ in_parts (parts_of f)
of_form k (p.Constant l) = refl
of_form k (p.Name x) = refl
of_form k (p.Tuple items) = refl
of_form k (p.Optional a) = refl
of_form k (p.Tag x) = refl
of_form k (p.Tagged x a) = refl
of_form k (p.Array mutable items) = refl
of_form k (p.Object xs) = refl
of_form k (p.Member a x) = refl
of_form k (p.Projection a i) = refl
of_form k (p.Index a b) = refl
of_form k (p.Annotated a t) = refl
of_form k (p.Negative a) = refl
of_form k (p.Binary o a b) = refl
of_form k (p.Not a) = refl
of_form k (p.Assign a b) = refl
of_form k (p.AssignBy o a b) = refl
of_form k (p.Call a types arguments) = refl
of_form k (p.When a b) = refl
of_form k (p.If a b c) = refl
of_form k (p.Switch a list) = refl
of_form k (p.Try a x b) = refl
of_form k (p.While a b) = refl
of_form k (p.Loop a) = refl
of_form k (p.LoopWhile a b) = refl
of_form k (p.For q a b) = refl
of_form k (p.Label x t a) = refl
of_form k (p.Break x) = refl
of_form k (p.BreakWith x a) = refl
of_form k (p.Continue x) = refl
of_form k p.Return = refl
of_form k (p.ReturnWith a) = refl
of_form k (p.Throw a) = refl
of_form k (p.Do a) = refl
of_form k (p.DoOption a) = refl
of_form k (p.Bang a) = refl
of_form k (p.Block ds) = refl
of_form k (p.Function g a) = refl
of_form k (p.ObjectBlock ds) = refl
of_form k (p.Assert a) = refl
of_form k (p.Ignore a) = refl
of_form k (p.Debug a) = refl
of_form k (p.ActorReference x) = refl
of_form k (p.Await a) = refl
of_form k (p.BuiltIn m) = refl
of_form k (p.Subsumed a) = refl

module _ (see : See) where
  pub of_expression : (a : Expression value_note.Note) (f : ExpressionForm value_note.Note) (ps : value.Parts) (s : Parts) → f ≡ a.form → seen_parts see ps ≡ parts_of (expression_form see f) → seen_parts see ps ≡ s
      → n.occurring (expression see a) ≡ in_parts s
  of_expression a f ps s h e k = ap n.occurring (V.expression_is see a ∙ ap (p.exp (see a.note)) (ap (expression_form see) (sym h))) ∙ of_form (see a.note) (expression_form see f) ∙ ap in_parts (sym e ∙ k)

  -- ---- declarations

  pub of_declaration : (f : DeclarationForm value_note.Note) (g : DeclarationForm value_note.Note) (s : p.Declaration Note) → f ≡ g → declaration_form see g ≡ s → n.in_declaration (declaration_form see f) ≡ n.in_declaration s
  of_declaration f g s h e = ap n.in_declaration (ap (declaration_form see) h ∙ e)
