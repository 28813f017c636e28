-- The abstract syntax of expressions, declarations and programs that values of this crate stand for, where this is how notes are seen.
use Rattle.std.specs.Prelude.{ℕ, List, [], ◌∷◌, option_map, map}
use Rattle.abstract_tree.specs.declared.declarations.Declaration as value_declaration
use Rattle.abstract_tree.specs.declared.declarations.Declaration.{fold-Declaration}
use Rattle.abstract_tree.specs.declared.declarations.DeclarationForm.{DeclarationForm, fold-DeclarationForm}
use Rattle.abstract_tree.specs.declared.declarations.DeclarationForm.TheOpen as F
use Rattle.abstract_tree.specs.declared.expressions.Expression as value
use Rattle.abstract_tree.specs.declared.expressions.Expression.{fold-Expression}
use Rattle.abstract_tree.specs.declared.expressions.ExpressionForm.{ExpressionForm, fold-ExpressionForm}
use Rattle.abstract_tree.specs.declared.expressions.Case.{Case, fold-Case}
use Rattle.abstract_tree.specs.declared.expressions.ObjectField.{ObjectField, fold-ObjectField}
use Rattle.abstract_tree.specs.declared.program.Program as value_program
use Rattle.typing_rules.specs.AbstractSyntax.{Pattern, Expression, Expressions, Cases, ObjectFields, Declaration, Declarations, Program}
use Rattle.typing_rules.specs.AbstractSyntax as p
use Rattle.typing_rules.specs.Spans.{literal_of}
use Rattle.abstract_types.specs.TypeView.{named, type_node, annotation}
use Rattle.abstract_types.specs.PatternView.{pattern, signature}

-- cases, fields and declarations before others
abbrev pub CaseView : Type 0 → Type 0
CaseView M = Cases M → Cases M

abbrev pub FieldView : Type 0 → Type 0
FieldView M = ObjectFields M → ObjectFields M

abbrev pub DeclarationView : Type 0 → Type 0
DeclarationView M = Declarations M → Declarations M

abbrev pub listed : {M : Type 0} → List (Expression M) → Expressions M
listed [] = p.Nil
listed (a ∷ rest) = p.Cons a (listed rest)

abbrev pub cases : {M : Type 0} → List (CaseView M) → Cases M
cases [] = p.NoCases
cases (f ∷ rest) = f (cases rest)

abbrev pub fields : {M : Type 0} → List (FieldView M) → ObjectFields M
fields [] = p.NoFields
fields (f ∷ rest) = f (fields rest)

abbrev pub declarations : {M : Type 0} → List (DeclarationView M) → Declarations M
declarations [] = p.End
declarations (f ∷ rest) = f (declarations rest)

module _ {N M : Type 0} (see : N → M) where
  abbrev pub declaration_form_step : F.DeclarationForm-F N (Declaration M) (p.Form M) (DeclarationView M) (CaseView M) (Expression M) (FieldView M) → Declaration M
  declaration_form_step (F.Let q a) = p.Let (pattern see q) a
  declaration_form_step (F.Var stable x t a) = p.Var stable (named x) (annotation t) a
  declaration_form_step (F.Func x g body) = p.Func (named x) (signature see g) body
  declaration_form_step (F.Method query context x g body) = p.Method query (option_map (pattern see) context) (named x) (signature see g) body
  declaration_form_step (F.System x body) = p.System (named x) body
  declaration_form_step (F.TypeAlias x parameters t) = p.TypeAlias (named x) (map named parameters) (type_node t)
  declaration_form_step (F.Class x g ds) = p.Class (named x) (signature see g) (declarations ds)
  declaration_form_step (F.NamedObject x ds) = p.NamedObject (named x) (declarations ds)
  declaration_form_step (F.Evaluate a) = p.Evaluate a

  abbrev pub form_step : F.ExpressionForm-F N (Declaration M) (p.Form M) (DeclarationView M) (CaseView M) (Expression M) (FieldView M) → p.Form M
  form_step (F.Constant l) = p.Constant (literal_of l)
  form_step (F.Name x) = p.Name x
  form_step (F.Tuple items) = p.Tuple (listed items)
  form_step (F.Optional a) = p.Optional a
  form_step (F.Tag x) = p.Tag x
  form_step (F.Tagged x a) = p.Tagged x a
  form_step (F.Array mutable items) = p.Array mutable (listed items)
  form_step (F.Object xs) = p.Object (fields xs)
  form_step (F.Member a x) = p.Member a x
  form_step (F.Projection a n) = p.Projection a n
  form_step (F.Index a i) = p.Index a i
  form_step (F.Annotated a t) = p.Annotated a (type_node t)
  form_step (F.Negative a) = p.Negative a
  form_step (F.Binary o a b) = p.Binary o a b
  form_step (F.Not a) = p.Not a
  form_step (F.Assign a b) = p.Assign a b
  form_step (F.AssignBy o a b) = p.AssignBy o a b
  form_step (F.Call f types arguments) = p.Call f (option_map (map type_node) types) (listed arguments)
  form_step (F.When c a) = p.When c a
  form_step (F.If c a b) = p.If c a b
  form_step (F.Switch a xs) = p.Switch a (cases xs)
  form_step (F.Try a q b) = p.Try a (pattern see q) b
  form_step (F.While c a) = p.While c a
  form_step (F.Loop a) = p.Loop a
  form_step (F.LoopWhile a c) = p.LoopWhile a c
  form_step (F.For q a b) = p.For (pattern see q) a b
  form_step (F.Label x t a) = p.Label x (annotation t) a
  form_step (F.Break x) = p.Break x
  form_step (F.BreakWith x a) = p.BreakWith x a
  form_step (F.Continue x) = p.Continue x
  form_step F.Return = p.Return
  form_step (F.ReturnWith a) = p.ReturnWith a
  form_step (F.Throw a) = p.Throw a
  form_step (F.Do a) = p.Do a
  form_step (F.DoOption a) = p.DoOption a
  form_step (F.Bang a) = p.Bang a
  form_step (F.Block ds) = p.Block (declarations ds)
  form_step (F.Function g body) = p.Function (signature see g) body
  form_step (F.ObjectBlock ds) = p.ObjectBlock (declarations ds)
  form_step (F.Assert a) = p.Assert a
  form_step (F.Ignore a) = p.Ignore a
  form_step (F.Debug a) = p.Debug a
  form_step (F.ActorReference text) = p.ActorReference text
  form_step (F.Await a) = p.Await a
  form_step (F.BuiltIn m) = p.BuiltIn m
  form_step (F.Subsumed a) = p.Subsumed a

  abbrev pub declaration_step : F.Declaration-F N (Declaration M) (p.Form M) (DeclarationView M) (CaseView M) (Expression M) (FieldView M) → DeclarationView M
  declaration_step x rest = p.Then x.public (see x.note) x.form rest

  abbrev pub case_step : F.Case-F N (Declaration M) (p.Form M) (DeclarationView M) (CaseView M) (Expression M) (FieldView M) → CaseView M
  case_step x rest = p.Case (pattern see x.pattern) x.body rest

  abbrev pub expression_step : F.Expression-F N (Declaration M) (p.Form M) (DeclarationView M) (CaseView M) (Expression M) (FieldView M) → Expression M
  expression_step x = p.exp (see x.note) x.form

  abbrev pub field_step : F.ObjectField-F N (Declaration M) (p.Form M) (DeclarationView M) (CaseView M) (Expression M) (FieldView M) → FieldView M
  field_step x rest = p.Field x.mutable (named x.name) (annotation x.annotation) x.value rest

  unfoldable pub expression : value.Expression N → Expression M
  expression = fold-Expression N (Declaration M) (p.Form M) (DeclarationView M) (CaseView M) (Expression M) (FieldView M) declaration_form_step form_step declaration_step case_step expression_step field_step

  unfoldable pub expression_form : ExpressionForm N → p.Form M
  expression_form = fold-ExpressionForm N (Declaration M) (p.Form M) (DeclarationView M) (CaseView M) (Expression M) (FieldView M) declaration_form_step form_step declaration_step case_step expression_step field_step

  unfoldable pub declaration : value_declaration.Declaration N → DeclarationView M
  declaration = fold-Declaration N (Declaration M) (p.Form M) (DeclarationView M) (CaseView M) (Expression M) (FieldView M) declaration_form_step form_step declaration_step case_step expression_step field_step

  unfoldable pub declaration_form : DeclarationForm N → Declaration M
  declaration_form = fold-DeclarationForm N (Declaration M) (p.Form M) (DeclarationView M) (CaseView M) (Expression M) (FieldView M) declaration_form_step form_step declaration_step case_step expression_step field_step

  unfoldable pub case : Case N → CaseView M
  case = fold-Case N (Declaration M) (p.Form M) (DeclarationView M) (CaseView M) (Expression M) (FieldView M) declaration_form_step form_step declaration_step case_step expression_step field_step

  unfoldable pub object_field : ObjectField N → FieldView M
  object_field = fold-ObjectField N (Declaration M) (p.Form M) (DeclarationView M) (CaseView M) (Expression M) (FieldView M) declaration_form_step form_step declaration_step case_step expression_step field_step

  abbrev pub program : value_program.Program N → Program M
  program x = record { imports = map (λ i. (i.name, i.path)) x.imports; name = x.name; fields = declarations (map declaration x.fields) }

-- what is judged: the note is the number of the first token
abbrev pub plain : value.Expression ℕ → Expression ℕ
plain = expression (λ n. n)

abbrev pub plain_form : ExpressionForm ℕ → p.Form ℕ
plain_form = expression_form (λ n. n)

abbrev pub plain_declaration : value_declaration.Declaration ℕ → DeclarationView ℕ
plain_declaration = declaration (λ n. n)

abbrev pub plain_declaration_form : DeclarationForm ℕ → Declaration ℕ
plain_declaration_form = declaration_form (λ n. n)

abbrev pub plain_case : Case ℕ → CaseView ℕ
plain_case = case (λ n. n)

abbrev pub plain_field : ObjectField ℕ → FieldView ℕ
plain_field = object_field (λ n. n)

abbrev pub plain_program : value_program.Program ℕ → Program ℕ
plain_program = program (λ n. n)
