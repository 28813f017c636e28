-- What declarations become, with the types as they are in the table and in the graph.
use Rattle.std.specs.Prelude.{◌≡◌, Bool, true, false, List, [], ◌∷◌, ◌++◌, map}
use Rattle.typed_tree.specs.declared.expression.Step.{Step, roll-Step}
use Rattle.typed_tree.specs.declared.expression.Form.TheOpen as F
use Rattle.typed_tree.specs.declared.expression.Function.{Function}
use Rattle.typed_tree.specs.declared.pattern.TypedPattern.{TypedPattern}
use Rattle.typing_rules.specs.AbstractSyntax.{Bytes}
use Rattle.typing_rules.specs.AbstractSyntax as syntax
use Rattle.type_terms.specs.declared.form.TermId.{TermId}
use Rattle.type_definitions.specs.Meanings.{term}
use Rattle.abstract_tree.specs.declared.declarations.Declaration.{Declaration}
use Rattle.abstract_tree.specs.declared.declarations.DeclarationForm.{DeclarationForm}
use Rattle.abstract_tree.specs.declared.expressions.Expression.{Expression}
use Rattle.abstract_tree.specs.TreeView.{declaration_form}
use Rattle.abstract_types.specs.declared.patterns.Pattern.{Pattern}
use Rattle.value_scopes.specs.declared.note.Note.{Note}
use Rattle.value_scopes.specs.Values.{noted}
use Rattle.met_types.specs.States.{State}
use Rattle.desugaring.specs.Expressions.{becomes, bound}
use Rattle.desugaring.specs.Frames.{Entry, Frame, cell, kept_at, value, with_entries}
use Rattle.desugaring.specs.Pieces.{AFunction, AStep, AnExpression, Becomes, Named, Nothing}
use Rattle.kernel_types.specs.Numbers.{definitions, number}
use Rattle.kernel_nodes.specs.Made.{evaluate_step}
use Rattle.kernel_patterns.specs.Written.{pattern_of}
use Rattle.kernel_parts.specs.Views.{form_of, list_in, tree_of}
use Rattle.kernel_scopes.specs.Bound.{names_of}

-- ---- what is written of it

-- its steps, where it is not the value of its list
abbrev pub steps_of : Becomes → Frame → List Step
steps_of (AStep binds step) f = step f ∷ []
steps_of (AFunction x g) f = []
steps_of (AnExpression e) f = evaluate_step (e f) ∷ []
steps_of Nothing f = []

abbrev pub binds_of : Becomes → List Entry
binds_of (AStep binds step) = binds
binds_of (AFunction x g) = []
binds_of (AnExpression e) = []
binds_of Nothing = []

-- Its steps, in the frame before its names, were added to these, and then its names.
pub record IsWritten (b : Becomes) (old : List Step) (f : Frame) (new : List Step) (g : Frame) : Type 0 where
  pub steps : new ≡ old ++ steps_of b f
  pub frame : g ≡ with_entries (binds_of b) f

-- a function of a group: its name, and what it is in a frame
abbrev pub name_of : Named → Bytes
name_of g = g.0

abbrev pub made_in : Frame → Named → Function
made_in f g = g.1 f

-- ---- what a declaration becomes

module _ (s : State) where
  abbrev pub becomes_of : Note → DeclarationForm Note → Becomes
  becomes_of n x = becomes (definitions s) (number s) (noted s.forms n) (declaration_form (noted s.forms) x)

  abbrev pub becomes_in : Declaration Note → Becomes
  becomes_in d = becomes_of d.note d.form

  abbrev pub let_in : Frame → Pattern Note → Expression Note → Step
  let_in f q a = roll-Step (F.Let (pattern_of s q) (tree_of s f a))

  abbrev pub let_becomes : Pattern Note → Expression Note → Becomes
  let_becomes q a = AStep (map value (names_of s q)) (λ f. let_in f q a)

  abbrev pub variable_in : Frame → Bool → Bytes → Expression Note → Step
  variable_in f false x a = roll-Step (F.Var (tree_of s f a))
  variable_in f true x a = roll-Step (F.Stable (kept_at f x) (tree_of s f a))

  abbrev pub variable_becomes : Bool → Bytes → Expression Note → Becomes
  variable_becomes stable x a = AStep (cell x ∷ []) (λ f. variable_in f stable x a)

  abbrev pub bound_in : TermId → TypedPattern
  bound_in kind = bound (definitions s) (number s) (term s.forms kind)

  abbrev pub object_step_in : Frame → Note → List (Declaration Note) → Step
  object_step_in f n fields = roll-Step (F.Let (bound_in n.kind) (form_of s f n (syntax.ObjectBlock (list_in s fields))))

  abbrev pub object_becomes : Note → Bytes → List (Declaration Note) → Becomes
  object_becomes n x fields = AStep (value x ∷ []) (λ f. object_step_in f n fields)

  abbrev pub value_becomes : Expression Note → Becomes
  value_becomes a = AnExpression (λ f. tree_of s f a)
