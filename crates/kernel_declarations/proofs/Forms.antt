-- What each form of declaration becomes.
use Rattle.std.proofs.Common.{◌≡◌, ◌∙◌, Bool, true, false, List, [], Option, refl, ap}
use Rattle.typing_rules.specs.AbstractSyntax as p
use Rattle.typing_rules.specs.TypedTrees as trees
use Rattle.abstract_tree.specs.declared.declarations.Declaration.{Declaration}
use Rattle.abstract_tree.specs.declared.declarations.DeclarationForm.{DeclarationForm}
use Rattle.abstract_tree.specs.declared.declarations.DeclarationForm.TheVariants as d
use Rattle.abstract_tree.specs.declared.expressions.Expression.{Expression}
use Rattle.abstract_tree.specs.TreeView.{declaration_form}
use Rattle.abstract_types.specs.declared.names.PlacedName.{PlacedName}
use Rattle.abstract_types.specs.declared.patterns.Pattern.{Pattern}
use Rattle.abstract_types.specs.declared.patterns.Signature.{Signature}
use Rattle.abstract_types.specs.declared.types.TypeNode.{TypeNode}
use Rattle.abstract_types.specs.TypeView.{annotation, named}
use Rattle.value_scopes.specs.declared.note.Note.{Note}
use Rattle.value_scopes.specs.Values.{noted}
use Rattle.met_types.specs.States.{State}
use Rattle.judged_parts.proofs.TreeViews.{seen_Class, seen_Evaluate, seen_Func, seen_Let, seen_Method, seen_NamedObject, seen_System, seen_TypeAlias, seen_Var}
use Rattle.desugaring.specs.Expressions.{becomes}
use Rattle.desugaring.specs.Frames.{Frame}
use Rattle.desugaring.specs.Pieces.{AFunction, Becomes, Nothing, function_of}
use Rattle.kernel_types.specs.Numbers.{definitions, number}
use Rattle.kernel_parts.specs.Views.{expression_in}
use Rattle.kernel_functions.specs.Functions.{function_in}
use Rattle.kernel_objects.specs.Objects.{class_in}
use Rattle.kernel_declarations.specs.Becoming.{becomes_of, let_becomes, object_becomes, value_becomes, variable_becomes}

module _ (s : State) (n : Note) where
  abbrev seen_becomes : p.Declaration trees.Note → Becomes
  seen_becomes z = becomes (definitions s) (number s) (noted s.forms n) z

  -- what a form becomes by the form that it is seen as
  by : (x y : DeclarationForm Note) (z : p.Declaration trees.Note) (b : Becomes) → x ≡ y → declaration_form (noted s.forms) y ≡ z → seen_becomes z ≡ b → becomes_of s n x ≡ b
  by x y z b e h k = ap (λ (w : DeclarationForm Note). becomes_of s n w) e ∙ (ap seen_becomes h ∙ k)

  pub let_is : (x : DeclarationForm Note) (q : Pattern Note) (a : Expression Note) → x ≡ d.Let q a → becomes_of s n x ≡ let_becomes s q a
  let_is x q a e = by x (d.Let q a) _ (let_becomes s q a) e (seen_Let (noted s.forms) q a) refl

  variable_seen : (stable : Bool) (x : PlacedName) (t : Option TypeNode) (a : Expression Note) → seen_becomes (p.Var stable (named x) (annotation t) (expression_in s a)) ≡ variable_becomes s stable x.bytes a
  variable_seen false x t a = refl
  variable_seen true x t a = refl

  pub variable_is : (y : DeclarationForm Note) (stable : Bool) (x : PlacedName) (t : Option TypeNode) (a : Expression Note) → y ≡ d.Var stable x t a → becomes_of s n y ≡ variable_becomes s stable x.bytes a
  variable_is y stable x t a e = by y (d.Var stable x t a) _ (variable_becomes s stable x.bytes a) e (seen_Var (noted s.forms) stable x t a) (variable_seen stable x t a)

  pub object_is : (y : DeclarationForm Note) (x : PlacedName) (ds : List (Declaration Note)) → y ≡ d.NamedObject x ds → becomes_of s n y ≡ object_becomes s n x.bytes ds
  object_is y x ds e = by y (d.NamedObject x ds) _ (object_becomes s n x.bytes ds) e (seen_NamedObject (noted s.forms) x ds) refl

  pub value_is : (y : DeclarationForm Note) (a : Expression Note) → y ≡ d.Evaluate a → becomes_of s n y ≡ value_becomes s a
  value_is y a e = by y (d.Evaluate a) _ (value_becomes s a) e (seen_Evaluate (noted s.forms) a) refl

  pub function_is : (y : DeclarationForm Note) (x : PlacedName) (g : Signature Note) (a : Expression Note) → y ≡ d.Func x g a → becomes_of s n y ≡ AFunction x.bytes (λ (f : Frame). function_in s f g a)
  function_is y x g a e = by y (d.Func x g a) _ (AFunction x.bytes (λ (f : Frame). function_in s f g a)) e (seen_Func (noted s.forms) x g a) refl

  pub class_is : (y : DeclarationForm Note) (x : PlacedName) (g : Signature Note) (ds : List (Declaration Note)) → y ≡ d.Class x g ds → becomes_of s n y ≡ AFunction x.bytes (λ (f : Frame). class_in s f n.kind g ds)
  class_is y x g ds e = by y (d.Class x g ds) _ (AFunction x.bytes (λ (f : Frame). class_in s f n.kind g ds)) e (seen_Class (noted s.forms) x g ds) refl

  pub method_is : (y : DeclarationForm Note) (query : Bool) (context : Option (Pattern Note)) (x : PlacedName) (g : Signature Note) (a : Expression Note) → y ≡ d.Method query context x g a → becomes_of s n y ≡ Nothing
  method_is y query context x g a e = by y (d.Method query context x g a) _ Nothing e (seen_Method (noted s.forms) query context x g a) refl

  pub system_is : (y : DeclarationForm Note) (x : PlacedName) (a : Expression Note) → y ≡ d.System x a → becomes_of s n y ≡ Nothing
  system_is y x a e = by y (d.System x a) _ Nothing e (seen_System (noted s.forms) x a) refl

  pub alias_is : (y : DeclarationForm Note) (x : PlacedName) (xs : List PlacedName) (t : TypeNode) → y ≡ d.TypeAlias x xs t → becomes_of s n y ≡ Nothing
  alias_is y x xs t e = by y (d.TypeAlias x xs t) _ Nothing e (seen_TypeAlias (noted s.forms) x xs t) refl

  -- ---- what is no function

  pub let_none : (x : DeclarationForm Note) (q : Pattern Note) (a : Expression Note) → x ≡ d.Let q a → function_of (becomes_of s n x) ≡ []
  let_none x q a e = ap function_of (let_is x q a e)

  pub variable_none : (y : DeclarationForm Note) (stable : Bool) (x : PlacedName) (t : Option TypeNode) (a : Expression Note) → y ≡ d.Var stable x t a → function_of (becomes_of s n y) ≡ []
  variable_none y stable x t a e = ap function_of (variable_is y stable x t a e)

  pub object_none : (y : DeclarationForm Note) (x : PlacedName) (ds : List (Declaration Note)) → y ≡ d.NamedObject x ds → function_of (becomes_of s n y) ≡ []
  object_none y x ds e = ap function_of (object_is y x ds e)

  pub value_none : (y : DeclarationForm Note) (a : Expression Note) → y ≡ d.Evaluate a → function_of (becomes_of s n y) ≡ []
  value_none y a e = ap function_of (value_is y a e)

  pub method_none : (y : DeclarationForm Note) (query : Bool) (context : Option (Pattern Note)) (x : PlacedName) (g : Signature Note) (a : Expression Note) → y ≡ d.Method query context x g a → function_of (becomes_of s n y) ≡ []
  method_none y query context x g a e = ap function_of (method_is y query context x g a e)

  pub system_none : (y : DeclarationForm Note) (x : PlacedName) (a : Expression Note) → y ≡ d.System x a → function_of (becomes_of s n y) ≡ []
  system_none y x a e = ap function_of (system_is y x a e)

  pub alias_none : (y : DeclarationForm Note) (x : PlacedName) (xs : List PlacedName) (t : TypeNode) → y ≡ d.TypeAlias x xs t → function_of (becomes_of s n y) ≡ []
  alias_none y x xs t e = ap function_of (alias_is y x xs t e)
