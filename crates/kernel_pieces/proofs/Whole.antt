-- Whole lists.
use Rattle.std.proofs.Common.{◌≡◌, ◌∙◌, ℕ, ◌+◌, ◌-◌, ◌<◌, ◌≤◌, inl, inr, true, false, List, [], length, Option, Some, None, refl, sym, ap, arith}
use Rattle.std.specs.Prelude.{slice_index_or}
use Rattle.typed_tree.specs.declared.expression.Step.{Step}
use Rattle.typed_tree.specs.declared.expression.TypedExpression.{TypedExpression}
use Rattle.abstract_tree.specs.declared.declarations.Declaration.{Declaration}
use Rattle.abstract_tree.specs.declared.expressions.Expression.{Expression}
use Rattle.value_scopes.specs.declared.note.Note.{Note}
use Rattle.met_types.specs.States.{State}
use Rattle.desugaring.specs.Frames.{Frame}
use Rattle.kernel_parts.specs.declared.lists.Arranged as value
use Rattle.kernel_parts.specs.Views.{list_of, tree_of}
use Rattle.kernel_pieces.specs.Ordered.{AreGroups, EndsIn, GoesOn, IsArranged, IsGroup, from_here, group_in}
use Rattle.kernel_pieces.proofs.Grouped.{list_is}
use Rattle.kernel_pieces.proofs.Ordering.{arranged_as, begun, ended_by, valued_by, whole_of}
use Rattle.kernel_pieces.proofs.Valued.{last_at, some_last}

module _ (s : State) (ds : List (Declaration Note)) (groups : List (List ℕ)) (are : AreGroups s ds groups) (indexes : List ℕ) (start mid new : List Step) (f g h : Frame) (begins : start ≡ []) where
  pub whole_is : (made : value.Arranged) → made.steps ≡ new → made.last ≡ None → (GoesOn false (length ds) ds → from_here s false ds 0 start f ≡ from_here s false ds (length ds) mid g)
      → indexes ≡ slice_index_or groups (length ds) [] → IsGroup (group_in s ds indexes) mid g new h → IsArranged (list_of s f false ds) made h
  whole_is made m l k i group =
      let n : length ds ≤ length ds = omega arith in
      arranged_as (list_of s f false ds) (from_here s false ds (length ds) mid g) made h (list_is s f false ds ∙ (sym (begun s ds false f start begins) ∙ k (inl refl)))
      (ended_by s ds false (group_in s ds indexes) mid new g h (ap (group_in s ds) i ∙ are (length ds) n) group
      ∙ (ap (λ (z : List Step). whole_of z None h) (sym m) ∙ ap (λ (z : Option TypedExpression). whole_of made.steps z h) (sym l)))

  pub valued_is : (made : value.Arranged) (a : Expression Note) (e : TypedExpression) (out : Frame) → EndsIn s ds a → made.steps ≡ new → made.last ≡ Some e → e ≡ tree_of s h a → out ≡ h
      → (GoesOn true (length ds - 1) ds → from_here s true ds 0 start f ≡ from_here s true ds (length ds - 1) mid g)
      → indexes ≡ slice_index_or groups (length ds - 1) [] → IsGroup (group_in s ds indexes) mid g new h → IsArranged (list_of s f true ds) made out
  valued_is made a e out ends m l x o k i group =
      let last : length ds - 1 + 1 ≡ length ds = some_last s ds a ends in
      let below : length ds - 1 < length ds = omega (arith, last) in
      let n : length ds - 1 ≤ length ds = omega (arith, last) in
      arranged_as (list_of s f true ds) (from_here s true ds (length ds - 1) mid g) made out (list_is s f true ds ∙ (sym (begun s ds true f start begins) ∙ k (inr below)))
      (valued_by s ds (length ds - 1) ends.last a e (group_in s ds indexes) mid new g h last (last_at s ds a ends) ends.is x (ap (group_in s ds) i ∙ are (length ds - 1) n) group
      ∙ (ap (λ (z : List Step). whole_of z (Some e) h) (sym m) ∙ (ap (λ (z : Option TypedExpression). whole_of made.steps z h) (sym l) ∙ ap (λ (z : Frame). whole_of made.steps made.last z) (sym o))))
