-- What is assigned to, by what it is, and numbers with their signs.
use Rattle.std.proofs.Common.{◌≡◌, ◌∙◌, ℕ, true, List, [], ◌∷◌, Option, Some, None, refl, sym, ap}
use Rattle.mo_types.specs.declared.node.TypeId.{TypeId}
use Rattle.mo_values.specs.declared.operation.Operation.TheVariants as op
use Rattle.typed_tree.specs.declared.action.Action.TheVariants as action
use Rattle.typed_tree.specs.declared.expression.Form.TheOpen as F
use Rattle.typed_tree.specs.declared.expression.TypedExpression.{TypedExpression}
use Rattle.typing_rules.specs.AbstractSyntax as p
use Rattle.typing_rules.specs.Definitions.{Definitions}
use Rattle.typing_rules.specs.Heads.{head}
use Rattle.typing_rules.specs.Terms.{Term}
use Rattle.typing_rules.specs.TypedTrees.{Note}
use Rattle.abstract_tree.specs.declared.expressions.Expression.{Expression}
use Rattle.abstract_tree.specs.declared.expressions.ExpressionForm.{ExpressionForm}
use Rattle.abstract_tree.specs.TreeView.{expression_form}
use Rattle.value_scopes.specs.declared.note.Note as value_note
use Rattle.value_scopes.specs.Values.{noted}
use Rattle.met_types.specs.States.{State}
use Rattle.judged_parts.proofs.TreeViews.{expression_is}
use Rattle.desugaring.specs.Expressions.{assigned, cell_tree, form, negative_of, tree}
use Rattle.desugaring.specs.Frames.{Frame, found}
use Rattle.desugaring.specs.Nodes.{acts, at, constant, kind_of, literal_at, operates}
use Rattle.kernel_types.specs.Numbers.{definitions, number}
use Rattle.kernel_shapes.specs.Kinds as k
use Rattle.kernel_parts.specs.Views.{expression_in, tree_of}

module _ (defs : Definitions) (number : Term → TypeId) (f : Frame) (n : Note) where
  abbrev pub by_place : p.Form Note → k.Place → TypedExpression
  by_place x (k.Name y) = at defs number n.type (F.Name (found f y).index)
  by_place x (k.Member a y) = operates defs number n.type (op.Field y) (tree defs number f a ∷ [])
  by_place x (k.Element a i) = operates defs number n.type op.Element (tree defs number f a ∷ tree defs number f i ∷ [])
  by_place x k.Other = form defs number f n x

  cell_as : (x : p.Form Note) → by_place x (k.place_of x) ≡ cell_tree defs number f (p.exp n x)
  cell_as (p.Constant (p.Number m)) = refl
  cell_as (p.Name y) = refl
  cell_as (p.Member a y) = refl
  cell_as (p.Index a i) = refl
  cell_as _ = refl

  abbrev pub by_assigned : Term → p.Form Note → TypedExpression → k.Place → TypedExpression
  by_assigned u x e (k.Element a i) = acts defs number u action.WriteElement (tree defs number f a ∷ tree defs number f i ∷ e ∷ [])
  by_assigned u x e z = acts defs number u action.Write (by_place x z ∷ e ∷ [])

  assigned_as : (u : Term) (x : p.Form Note) (e : TypedExpression) → by_assigned u x e (k.place_of x) ≡ assigned defs number f u (p.exp n x) e
  assigned_as u (p.Constant (p.Number m)) e = refl
  assigned_as u (p.Name y) e = refl
  assigned_as u (p.Member a y) e = refl
  assigned_as u (p.Index a i) e = refl
  assigned_as u _ e = refl

  abbrev pub by_number : Term → TypedExpression → Option ℕ → TypedExpression
  by_number u e (Some m) = constant defs number u (literal_at true (p.Number m) (head defs u))
  by_number u e None = operates defs number u (op.Negate (kind_of defs number u)) (e ∷ [])

  negative_as : (u : Term) (x : p.Form Note) (e : TypedExpression) → by_number u e (k.number_of x) ≡ negative_of defs number u (p.exp n x) e
  negative_as u (p.Constant (p.Number m)) e = refl
  negative_as u _ e = refl

module _ (s : State) (f : Frame) (q : Expression value_note.Note) (g : ExpressionForm value_note.Note) (h : g ≡ q.form) where
  abbrev seen_form : p.Form Note
  seen_form = expression_form (noted s.forms) q.form

  -- the place that is found
  placed : (z : k.Place) → z ≡ k.place_of (expression_form (noted s.forms) g) → z ≡ k.place_of seen_form
  placed z e = e ∙ ap (λ (x : ExpressionForm value_note.Note). k.place_of (expression_form (noted s.forms) x)) h

  pub cell_is : (z : k.Place) → z ≡ k.place_of (expression_form (noted s.forms) g) → by_place (definitions s) (number s) f (noted s.forms q.note) seen_form z ≡ cell_tree (definitions s) (number s) f (expression_in s q)
  cell_is z e =
      ap (by_place (definitions s) (number s) f (noted s.forms q.note) seen_form) (placed z e)
      ∙ (cell_as (definitions s) (number s) f (noted s.forms q.note) seen_form ∙ ap (cell_tree (definitions s) (number s) f) (sym (expression_is (noted s.forms) q)))

  -- what is at no place is written out as it is
  pub tree_is : tree_of s f q ≡ form (definitions s) (number s) f (noted s.forms q.note) seen_form
  tree_is = ap (tree (definitions s) (number s) f) (expression_is (noted s.forms) q)

  pub assigned_is : (u : Term) (t : TypedExpression) (z : k.Place) → z ≡ k.place_of (expression_form (noted s.forms) g) → by_assigned (definitions s) (number s) f (noted s.forms q.note) u seen_form t z ≡ assigned (definitions s) (number s) f u (expression_in s q) t
  assigned_is u t z e =
      ap (by_assigned (definitions s) (number s) f (noted s.forms q.note) u seen_form t) (placed z e)
      ∙ (assigned_as (definitions s) (number s) f (noted s.forms q.note) u seen_form t ∙ ap (λ (y : p.Expression Note). assigned (definitions s) (number s) f u y t) (sym (expression_is (noted s.forms) q)))

  pub assigned_name : (u : Term) (t : TypedExpression) (y : List ℕ) → k.Name y ≡ k.place_of (expression_form (noted s.forms) g) → acts (definitions s) (number s) u action.Write (cell_tree (definitions s) (number s) f (expression_in s q) ∷ t ∷ []) ≡ assigned (definitions s) (number s) f u (expression_in s q) t
  assigned_name u t y e = ap (λ (w : TypedExpression). acts (definitions s) (number s) u action.Write (w ∷ t ∷ [])) (sym (cell_is (k.Name y) e)) ∙ assigned_is u t (k.Name y) e

  pub assigned_member : (u : Term) (t : TypedExpression) (a : p.Expression Note) (y : List ℕ) → k.Member a y ≡ k.place_of (expression_form (noted s.forms) g) → acts (definitions s) (number s) u action.Write (cell_tree (definitions s) (number s) f (expression_in s q) ∷ t ∷ []) ≡ assigned (definitions s) (number s) f u (expression_in s q) t
  assigned_member u t a y e = ap (λ (w : TypedExpression). acts (definitions s) (number s) u action.Write (w ∷ t ∷ [])) (sym (cell_is (k.Member a y) e)) ∙ assigned_is u t (k.Member a y) e

  pub assigned_other : (u : Term) (t : TypedExpression) → k.Other ≡ k.place_of (expression_form (noted s.forms) g) → acts (definitions s) (number s) u action.Write (cell_tree (definitions s) (number s) f (expression_in s q) ∷ t ∷ []) ≡ assigned (definitions s) (number s) f u (expression_in s q) t
  assigned_other u t e = ap (λ (w : TypedExpression). acts (definitions s) (number s) u action.Write (w ∷ t ∷ [])) (sym (cell_is k.Other e)) ∙ assigned_is u t k.Other e

  pub negative_is : (u : Term) (t : TypedExpression) (z : Option ℕ) → z ≡ k.number_of (expression_form (noted s.forms) g) → by_number (definitions s) (number s) f (noted s.forms q.note) u t z ≡ negative_of (definitions s) (number s) u (expression_in s q) t
  negative_is u t z e =
      ap (by_number (definitions s) (number s) f (noted s.forms q.note) u t) (e ∙ ap (λ (x : ExpressionForm value_note.Note). k.number_of (expression_form (noted s.forms) x)) h)
      ∙ (negative_as (definitions s) (number s) f (noted s.forms q.note) u seen_form t ∙ ap (λ (y : p.Expression Note). negative_of (definitions s) (number s) u y t) (sym (expression_is (noted s.forms) q)))
