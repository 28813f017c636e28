-- What the language's expression of a tree is, form by form.
use Rattle.std.specs.Prelude.{◌≡◌, ℕ, List, map}
use Rattle.mo_types.specs.declared.node.Sort.{Sort}
use Rattle.mo_types.specs.declared.node.TypeId.{TypeId}
use Rattle.mo_values.specs.declared.operation.Operation.{Operation}
use Rattle.mo_values.specs.Shapes.{Bytes}
use Rattle.typed_tree.specs.declared.action.Action.{Action}
use Rattle.typed_tree.specs.declared.literal.Literal.{Literal}
use Rattle.typed_tree.specs.declared.pattern.TypedPattern.{TypedPattern, roll-TypedPattern}
use Rattle.typed_tree.specs.declared.pattern.PatternForm.{PatternForm}
use Rattle.typed_tree.specs.declared.pattern.PatternForm.TheVariants as p
use Rattle.typed_tree.specs.declared.pattern.PatternField.{PatternField, fold-PatternField, roll-PatternField}
use Rattle.typed_tree.specs.declared.expression.Form.{Form}
use Rattle.typed_tree.specs.declared.expression.Form.TheVariants as e
use Rattle.typed_tree.specs.declared.expression.Step.{Step}
use Rattle.typed_tree.specs.declared.expression.Step.TheVariants as s
use Rattle.typed_tree.specs.declared.expression.Case.{Case, roll-Case}
use Rattle.typed_tree.specs.declared.expression.Function.{Function, roll-Function}
use Rattle.typed_tree.specs.declared.expression.TypedExpression.{TypedExpression, roll-TypedExpression}
use Rattle.typed_tree.specs.Language.{Exp, Val, Name, Do, If, Switch, Group, Label, While, Repeat, For, Try, Update, let_in, then, var_in}
use Rattle.typed_tree.specs.Patterns.{Pat, Wildcard, Bind, Present?, Tagged, Parts, Fields, Either}
use Rattle.typed_tree.specs.PatternView.{LabelledPat, literal_value, literal_pattern, pats, pattern, pattern_form, patterns, form_step, field_step, pattern_step}
use Rattle.typed_tree.specs.View.{exps, cases, group, block, kept_or, endless, expression, form, declaration, case_view, function}

unfoldable pub field : PatternField → LabelledPat
field = fold-PatternField Pat LabelledPat Pat form_step field_step pattern_step

abbrev pub labels_of : List PatternField → List Bytes
labels_of fs = map (λ x. x.label) (map field fs)

abbrev pub patterns_of : List PatternField → List Pat
patterns_of fs = map (λ x. x.pattern) (map field fs)

-- patterns, whose types are left out
pub record PatternViews : Type 0 where
  pub typed : (t : TypeId) (f : PatternForm) → pattern (roll-TypedPattern (record { of_type = t; form = f })) ≡ pattern_form f
  pub wildcard : pattern_form p.Wildcard ≡ Wildcard
  pub bind : pattern_form p.Bind ≡ Bind
  pub constant : (l : Literal) → pattern_form (p.Constant l) ≡ literal_pattern l
  pub present : (q : TypedPattern) → pattern_form (p.Present q) ≡ Present? (pattern q)
  pub tagged : (l : Bytes) (q : TypedPattern) → pattern_form (p.Tagged l q) ≡ Tagged l (pattern q)
  pub parts : (qs : List TypedPattern) → pattern_form (p.Parts qs) ≡ Parts (patterns qs)
  pub fields : (fs : List PatternField) → pattern_form (p.Fields fs) ≡ Fields (labels_of fs) (pats (patterns_of fs))
  pub either : (q r : TypedPattern) → pattern_form (p.Either q r) ≡ Either (pattern q) (pattern r)
  pub labelled : (l : Bytes) (q : TypedPattern) → field (roll-PatternField (record { label = l; pattern = q })) ≡ record { label = l; pattern = pattern q }

-- expressions, whose types are left out
pub record FormViews : Type 0 where
  pub typed : (t : TypeId) (f : Form) → expression (roll-TypedExpression (record { of_type = t; form = f })) ≡ form f
  pub constant : (l : Literal) → form (e.Constant l) ≡ Val (literal_value l)
  pub name : (x : ℕ) → form (e.Name x) ≡ Name x
  pub operands : (a : Action) (es : List TypedExpression) → form (e.Do a es) ≡ Do a (exps (map expression es))
  pub choice : (c a b : TypedExpression) → form (e.If c a b) ≡ If (expression c) (expression a) (expression b)
  pub switch : (token : ℕ) (a : TypedExpression) (xs : List Case) → form (e.Switch token a xs) ≡ Switch (expression a) (cases (map case_view xs))
  pub while : (c b : TypedExpression) → form (e.While c b) ≡ While (expression c) (expression b)
  pub loop : (b : TypedExpression) → form (e.Loop b) ≡ endless (expression b)
  pub repeat : (b c : TypedExpression) → form (e.Repeat b c) ≡ Repeat (expression b) (expression c)
  pub for : (q : TypedPattern) (a b : TypedExpression) → form (e.For q a b) ≡ For (pattern q) (expression a) (expression b)
  pub label : (b : TypedExpression) → form (e.Label b) ≡ Label (expression b)
  pub attempt : (a : TypedExpression) (q : TypedPattern) (b : TypedExpression) → form (e.Try a q b) ≡ Try (expression a) (pattern q) (expression b)
  pub update : (o : Operation) (a b : TypedExpression) → form (e.Update o a b) ≡ Update o (expression a) (expression b)
  pub declarations : (ss : List Step) (a : TypedExpression) → form (e.Block ss a) ≡ block (map declaration ss) (expression a)

-- declarations, cases and functions
pub record DeclarationViews : Type 0 where
  pub value : (q : TypedPattern) (a : TypedExpression) (b : Exp) → declaration (s.Let q a) b ≡ let_in (pattern q) (expression a) b
  pub variable : (a : TypedExpression) (b : Exp) → declaration (s.Var a) b ≡ var_in (expression a) b
  pub stable : (x : ℕ) (a : TypedExpression) (b : Exp) → declaration (s.Stable x a) b ≡ var_in (kept_or x (expression a)) b
  pub functions : (fs : List Function) (b : Exp) → declaration (s.Functions fs) b ≡ Group (group (map function fs)) b
  pub evaluated : (a : TypedExpression) (b : Exp) → declaration (s.Evaluate a) b ≡ then (expression a) b
  pub case_of : (q : TypedPattern) (a : TypedExpression) → case_view (roll-Case (record { pattern = q; body = a })) ≡ record { pattern = pattern q; body = expression a }
  pub function_of : (how : Sort) (ts : List TypeId) (n : ℕ) (qs : List TypedPattern) (a : TypedExpression) →
      function (roll-Function (record { sort = how; type_parameters = ts; nodes = n; parameters = qs; body = a })) ≡ record { how = how; nodes = n; parameters = patterns qs; body = expression a }
