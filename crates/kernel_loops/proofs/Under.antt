-- What stands under a label, by what it is, and cases.
use Rattle.std.proofs.Common.{◌≡◌, ◌∙◌, List, [], ◌∷◌, map, refl, sym, ap}
use Rattle.mo_types.specs.declared.node.TypeId.{TypeId}
use Rattle.typed_tree.specs.declared.expression.Case as typed_case
use Rattle.typed_tree.specs.declared.expression.Form.TheOpen as F
use Rattle.typed_tree.specs.declared.expression.TypedExpression.{TypedExpression}
use Rattle.typing_rules.specs.AbstractSyntax.{Bytes}
use Rattle.typing_rules.specs.AbstractSyntax as p
use Rattle.typing_rules.specs.Definitions.{Definitions}
use Rattle.typing_rules.specs.Terms.{Term, unit}
use Rattle.typing_rules.specs.TypedTrees.{Note}
use Rattle.abstract_tree.specs.declared.expressions.Case.{Case}
use Rattle.abstract_tree.specs.declared.expressions.Expression.{Expression}
use Rattle.abstract_tree.specs.declared.expressions.ExpressionForm.{ExpressionForm}
use Rattle.abstract_tree.specs.TreeView.{case, cases, expression_form}
use Rattle.value_scopes.specs.declared.note.Note as value_note
use Rattle.value_scopes.specs.Values.{noted}
use Rattle.met_types.specs.States.{State}
use Rattle.judged_parts.proofs.TreeViews.{case_is, expression_is}
use Rattle.desugaring.specs.Expressions.{case_trees, form, looped, tree}
use Rattle.desugaring.specs.FreeNames.{names_in}
use Rattle.desugaring.specs.Frames.{Continued, Frame, with_exit, with_names}
use Rattle.desugaring.specs.Nodes.{at}
use Rattle.desugaring.specs.Patterns.{pattern}
use Rattle.kernel_types.specs.Numbers.{definitions, number}
use Rattle.kernel_shapes.specs.Kinds as k
use Rattle.kernel_parts.specs.Views.{expression_in, tree_of}
use Rattle.kernel_loops.specs.Loops.{case_of}

module _ (defs : Definitions) (number : Term → TypeId) (f : Frame) (n : Note) (x : Bytes) where
  abbrev continued : Frame → p.Expression Note → TypedExpression
  continued g a = at defs number unit (F.Label (tree defs number (with_exit (Continued x) g) a))

  abbrev pub by_looped : p.Form Note → k.Looped → TypedExpression
  by_looped y (k.While c a) = at defs number n.type (F.While (tree defs number f c) (continued f a))
  by_looped y (k.Loop a) = at defs number n.type (F.Loop (continued f a))
  by_looped y (k.LoopWhile a c) = at defs number n.type (F.Repeat (continued f a) (tree defs number f c))
  by_looped y (k.For q a b) = at defs number n.type (F.For (pattern defs number q) (tree defs number f a) (continued (with_names (names_in q) f) b))
  by_looped y k.NoLoop = form defs number f n y

  looped_as : (y : p.Form Note) → by_looped y (k.looped_of y) ≡ looped defs number f x (p.exp n y)
  looped_as (p.Constant (p.Number m)) = refl
  looped_as (p.While c a) = refl
  looped_as (p.Loop a) = refl
  looped_as (p.LoopWhile a c) = refl
  looped_as (p.For q a b) = refl
  looped_as _ = refl

module _ (s : State) (f : Frame) (x : Bytes) (q : Expression value_note.Note) (g : ExpressionForm value_note.Note) (h : g ≡ q.form) where
  abbrev seen_form : p.Form Note
  seen_form = expression_form (noted s.forms) q.form

  pub looped_is : (z : k.Looped) → z ≡ k.looped_of (expression_form (noted s.forms) g) → by_looped (definitions s) (number s) f (noted s.forms q.note) x seen_form z ≡ looped (definitions s) (number s) f x (expression_in s q)
  looped_is z e =
      ap (by_looped (definitions s) (number s) f (noted s.forms q.note) x seen_form) (e ∙ ap (λ (y : ExpressionForm value_note.Note). k.looped_of (expression_form (noted s.forms) y)) h)
      ∙ (looped_as (definitions s) (number s) f (noted s.forms q.note) x seen_form ∙ ap (looped (definitions s) (number s) f x) (sym (expression_is (noted s.forms) q)))

  -- what is no loop is written out as it is
  pub tree_is : tree_of s f q ≡ form (definitions s) (number s) f (noted s.forms q.note) seen_form
  tree_is = ap (tree (definitions s) (number s) f) (expression_is (noted s.forms) q)

pub cases_are : (s : State) (f : Frame) (xs : List (Case value_note.Note)) → map (case_of s f) xs ≡ case_trees (definitions s) (number s) f (cases (map (case (noted s.forms)) xs))
cases_are s f [] = refl
cases_are s f (x ∷ xs) =
    ap (λ (l : List typed_case.Case). case_of s f x ∷ l) (cases_are s f xs)
    ∙ ap (λ (g : p.Cases Note → p.Cases Note). case_trees (definitions s) (number s) f (g (cases (map (case (noted s.forms)) xs)))) (sym (case_is (noted s.forms) x))
