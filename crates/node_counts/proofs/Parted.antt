-- What is counted of a type, a pattern, an expression or a field, by its form.
use Rattle.std.proofs.Common.{◌≡◌, ℕ, suc, ◌+◌, ap, ◌∙◌, sym, refl, arith}
use Rattle.typing_rules.specs.AbstractSyntax as p
use Rattle.typing_rules.specs.Nodes as nodes
use Rattle.abstract_types.specs.declared.types.TypeNode.{TypeNode}
use Rattle.abstract_types.specs.declared.types.TypeForm.{TypeForm}
use Rattle.abstract_types.specs.declared.patterns.Pattern.{Pattern}
use Rattle.abstract_types.specs.declared.patterns.PatternForm.{PatternForm}
use Rattle.abstract_types.specs.declared.patterns.PatternField.{PatternField, fold_out-PatternField}
use Rattle.abstract_types.specs.TypeView.{annotation, named, type_form, type_node}
use Rattle.abstract_types.specs.PatternView.{pattern, pattern_field, pattern_form}
use Rattle.abstract_types.specs.PatternView as q
use Rattle.abstract_types.proofs.TypeViews.{node_is}
use Rattle.abstract_types.proofs.PatternViews.{pattern_is}
use Rattle.abstract_tree.specs.declared.declarations.Declaration.{Declaration}
use Rattle.abstract_tree.specs.declared.declarations.DeclarationForm.{DeclarationForm}
use Rattle.abstract_tree.specs.declared.expressions.Case.{Case, fold_out-Case}
use Rattle.abstract_tree.specs.declared.expressions.Expression.{Expression}
use Rattle.abstract_tree.specs.declared.expressions.ExpressionForm.{ExpressionForm}
use Rattle.abstract_tree.specs.declared.expressions.ObjectField.{ObjectField, fold_out-ObjectField}
use Rattle.abstract_tree.specs.TreeView as t
use Rattle.abstract_tree.specs.TreeView.{case, declaration, declaration_form, expression, expression_form, object_field, plain, plain_case, plain_declaration, plain_declaration_form, plain_field, plain_form}
use Rattle.abstract_tree.proofs.TreeViews.{declaration_is, expression_is}
use Rattle.expression_parts.specs.declared.part_kinds.Parts as value
use Rattle.expression_parts.specs.Parts as parts
use Rattle.expression_parts.specs.Parts.{Parts, parts_of, seen_parts}

pub of_type : (n : TypeNode) (f : TypeForm) (s : p.TypeForm) → f ≡ n.form → type_form f ≡ s → nodes.in_type (type_node n) ≡ nodes.in_type (p.node n.at s)
of_type n f s h e = ap nodes.in_type (node_is n ∙ ap (p.node n.at) (ap type_form (sym h) ∙ e))

pub of_pattern : (x : Pattern ℕ) (f : PatternForm ℕ) (s : p.PatternForm ℕ) → f ≡ x.form → q.plain_form f ≡ s → nodes.in_pattern (q.plain x) ≡ nodes.in_pattern (p.pattern x.note s)
of_pattern x f s h e = ap nodes.in_pattern (pattern_is x ∙ ap (p.pattern x.note) (ap q.plain_form (sym h) ∙ e))

-- how notes are seen
abbrev same : ℕ → ℕ
same n = n

pattern_field_is : (x : PatternField ℕ) → q.plain_field x ≡ (λ rest. p.Field (named x.name) (q.plain x.pattern) rest)
unfolding pattern pattern_form pattern_field
pattern_field_is x = fold_out-PatternField ℕ (p.PatternForm ℕ) (p.Pattern ℕ) (q.FieldView ℕ) (q.form_step same) (q.pattern_step same) (q.field_step same) x

pub of_pattern_field : (x : PatternField ℕ) (rest : p.PatternFields ℕ) → nodes.in_pattern_fields (q.plain_field x rest) ≡ 1 + nodes.in_pattern (q.plain x.pattern) + nodes.in_pattern_fields rest
of_pattern_field x rest =
    let z : suc (nodes.in_pattern (q.plain x.pattern) + nodes.in_pattern_fields rest) ≡ 1 + nodes.in_pattern (q.plain x.pattern) + nodes.in_pattern_fields rest = omega arith in
    ap {B = ℕ} (λ (f : q.FieldView ℕ). nodes.in_pattern_fields (f rest)) (pattern_field_is x) ∙ z

case_is : (x : Case ℕ) → plain_case x ≡ (λ rest. p.Case (q.plain x.pattern) (plain x.body) rest)
unfolding expression expression_form declaration declaration_form case object_field
case_is x = fold_out-Case ℕ (p.Declaration ℕ) (p.Form ℕ) (t.DeclarationView ℕ) (t.CaseView ℕ) (p.Expression ℕ) (t.FieldView ℕ) (t.declaration_form_step same) (t.form_step same) (t.declaration_step same) (t.case_step same) (t.expression_step same) (t.field_step same) x

pub of_case : (x : Case ℕ) (rest : p.Cases ℕ) → nodes.in_cases (plain_case x rest) ≡ nodes.in_pattern (q.plain x.pattern) + nodes.in_expression (plain x.body) + nodes.in_cases rest
of_case x rest = ap {B = ℕ} (λ (f : t.CaseView ℕ). nodes.in_cases (f rest)) (case_is x)

object_field_is : (x : ObjectField ℕ) → plain_field x ≡ (λ rest. p.Field x.mutable (named x.name) (annotation x.annotation) (plain x.value) rest)
unfolding expression expression_form declaration declaration_form case object_field
object_field_is x = fold_out-ObjectField ℕ (p.Declaration ℕ) (p.Form ℕ) (t.DeclarationView ℕ) (t.CaseView ℕ) (p.Expression ℕ) (t.FieldView ℕ) (t.declaration_form_step same) (t.form_step same) (t.declaration_step same) (t.case_step same) (t.expression_step same) (t.field_step same) x

pub of_object_field : (x : ObjectField ℕ) (rest : p.ObjectFields ℕ) → nodes.in_fields (plain_field x rest) ≡ 1 + nodes.in_annotation (annotation x.annotation) + nodes.in_expression (plain x.value) + nodes.in_fields rest
of_object_field x rest =
    let z : suc (nodes.in_annotation (annotation x.annotation) + nodes.in_expression (plain x.value) + nodes.in_fields rest) ≡ 1 + nodes.in_annotation (annotation x.annotation) + nodes.in_expression (plain x.value) + nodes.in_fields rest = omega arith in
    ap {B = ℕ} (λ (f : t.FieldView ℕ). nodes.in_fields (f rest)) (object_field_is x) ∙ z

pub of_member : (x : Declaration ℕ) (rest : p.Declarations ℕ) → nodes.in_list (plain_declaration x rest) ≡ 1 + nodes.in_declaration (plain_declaration_form x.form) + nodes.in_list rest
of_member x rest =
    let z : suc (nodes.in_declaration (plain_declaration_form x.form) + nodes.in_list rest) ≡ 1 + nodes.in_declaration (plain_declaration_form x.form) + nodes.in_list rest = omega arith in
    ap {B = ℕ} (λ (f : t.DeclarationView ℕ). nodes.in_list (f rest)) (declaration_is x) ∙ z

-- ---- expressions, by their parts

abbrev pub in_parts : Parts → ℕ
in_parts parts.Nothing = 1
in_parts (parts.One a) = suc (nodes.in_expression a)
in_parts (parts.Two a b) = suc (nodes.in_expression a + nodes.in_expression b)
in_parts (parts.Three a b c) = suc (nodes.in_expression a + nodes.in_expression b + nodes.in_expression c)
in_parts (parts.Each items) = suc (nodes.in_each items)
in_parts (parts.Fields fields) = suc (nodes.in_fields fields)
in_parts (parts.Annotated a u) = suc (nodes.in_expression a + nodes.in_type u)
in_parts (parts.Call a types arguments) = suc (nodes.in_expression a + nodes.in_type_arguments types + nodes.in_each arguments)
in_parts (parts.Switch a cases) = suc (nodes.in_expression a + nodes.in_cases cases)
in_parts (parts.WithPattern x a b) = suc (nodes.in_pattern x + nodes.in_expression a + nodes.in_expression b)
in_parts (parts.Labelled u a) = suc (nodes.in_annotation u + nodes.in_expression a)
in_parts (parts.Declared ds) = suc (nodes.in_list ds)
in_parts (parts.Function g a) = suc (nodes.in_signature g + nodes.in_expression a)
in_parts (parts.Subsumed a) = nodes.in_expression a

of_form : (k : ℕ) (f : p.Form ℕ) → nodes.in_expression (p.exp k f) ≡ in_parts (parts_of f)
of_form k (p.Constant l) = refl
of_form k (p.Name x) = refl
of_form k (p.Tuple items) = refl
of_form k (p.Optional a) = refl
of_form k (p.Tag x) = refl
of_form k (p.Tagged x a) = refl
of_form k (p.Array mutable items) = refl
of_form k (p.Object fields) = refl
of_form k (p.Member a x) = refl
of_form k (p.Projection a n) = refl
of_form k (p.Index a b) = refl
of_form k (p.Annotated a t) = refl
of_form k (p.Negative a) = refl
of_form k (p.Binary o a b) = refl
of_form k (p.Not a) = refl
of_form k (p.Assign a b) = refl
of_form k (p.AssignBy o a b) = refl
of_form k (p.Call a types arguments) = refl
of_form k (p.When a b) = refl
of_form k (p.If a b c) = refl
of_form k (p.Switch a cases) = refl
of_form k (p.Try a x b) = let z : suc (nodes.in_expression a + nodes.in_pattern x + nodes.in_expression b) ≡ suc (nodes.in_pattern x + nodes.in_expression a + nodes.in_expression b) = omega arith in z
of_form k (p.While a b) = refl
of_form k (p.Loop a) = refl
of_form k (p.LoopWhile a b) = refl
of_form k (p.For q a b) = refl
of_form k (p.Label x t a) = refl
of_form k (p.Break x) = refl
of_form k (p.BreakWith x a) = refl
of_form k (p.Continue x) = refl
of_form k p.Return = refl
of_form k (p.ReturnWith a) = refl
of_form k (p.Throw a) = refl
of_form k (p.Do a) = refl
of_form k (p.DoOption a) = refl
of_form k (p.Bang a) = refl
of_form k (p.Block ds) = refl
of_form k (p.Function g a) = refl
of_form k (p.ObjectBlock ds) = refl
of_form k (p.Assert a) = refl
of_form k (p.Ignore a) = refl
of_form k (p.Debug a) = refl
of_form k (p.ActorReference x) = refl
of_form k (p.Await a) = refl
of_form k (p.BuiltIn m) = refl
of_form k (p.Subsumed a) = refl

pub of_expression : (a : Expression ℕ) (f : ExpressionForm ℕ) (ps : value.Parts) (s : Parts) → f ≡ a.form → seen_parts ps ≡ parts_of (plain_form f) → seen_parts ps ≡ s → nodes.in_expression (plain a) ≡ in_parts s
of_expression a f ps s h e k = ap nodes.in_expression (expression_is a ∙ ap (p.exp a.note) (ap plain_form (sym h))) ∙ of_form a.note (plain_form f) ∙ ap in_parts (sym e ∙ k)

-- ---- declarations

pub of_declaration : (f : DeclarationForm ℕ) (g : DeclarationForm ℕ) (s : p.Declaration ℕ) → f ≡ g → plain_declaration_form g ≡ s → nodes.in_declaration (plain_declaration_form f) ≡ nodes.in_declaration s
of_declaration f g s h e = ap nodes.in_declaration (ap plain_declaration_form h ∙ e)
