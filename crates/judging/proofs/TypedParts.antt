-- Rules by the expressions that are their parts.
use Rattle.std.proofs.Common.{◌≡◌, Ok, Err}
use Rattle.std.specs.Prelude.{Result}
use Rattle.std.specs.Result.{IsErr, IsErrAnd}
use Rattle.typing_rules.specs.Judgements.{Judgement, Part}
use Rattle.typing_rules.specs.TypedTrees.{Typed}
use Rattle.type_judgements.specs.declared.refusal.Refusal.{Refusal}
use Rattle.abstract_tree.specs.declared.expressions.Expression as value
use Rattle.value_scopes.specs.declared.note.Note as value_note
use Rattle.value_scopes.specs.declared.scopes.Scopes.{Scopes}
use Rattle.judging.specs.declared.checker.Checker.{Checker}
use Rattle.judging.specs.Views.{View, typed_in, kind_reached}
use Rattle.judging.specs.Answers.{Answers}
use Rattle.judging.proofs.Chains.{goes_on, stops}

abbrev pub Given : Type 0
Given = value.Expression value_note.Note

abbrev pub Comes : (View → Judgement Typed) → Scopes → Checker → Scopes → Checker → Result Given Refusal → Type 0
Comes j c k d l r = Answers typed_in kind_reached j c k d l r

module _ (j : View → Judgement Typed) (i : View → Typed → Judgement Typed) where
  -- the part is given, and then what follows
  pub part_given : (c d e : Scopes) (k l m : Checker) (b : Given) (r : Result Given Refusal) → Comes j c k d l (Ok b) → Comes (λ v. i v (typed_in b v.later)) d l e m r → Comes (λ v. Part (j v) (i v)) c k e m r
  part_given c d e k l m b r f h = goes_on typed_in kind_reached typed_in kind_reached j i c d e k l m b r f h

  -- the part is refused
  pub part_refused : (c d : Scopes) (k l : Checker) (x : Refusal) (r : Result Given Refusal) → IsErr r × IsErrAnd r (λ e. e ≡ x) → Comes j c k d l (Err x) → Comes (λ v. Part (j v) (i v)) c k d l r
  part_refused c d k l x r g h = stops typed_in kind_reached typed_in kind_reached j i c d k l x r g h

-- ---- two parts, and then what follows

module _ (j i : View → Judgement Typed) (n : View → Typed → Typed → Judgement Typed) where
  abbrev pub both : View → Judgement Typed
  both v = Part (j v) (λ a. Part (i v) (n v a))

  pub first_refused : (c d : Scopes) (k l : Checker) (x : Refusal) (r : Result Given Refusal) → IsErr r × IsErrAnd r (λ e. e ≡ x) → Comes j c k d l (Err x) → Comes both c k d l r
  first_refused c d k l x r g h = part_refused j (λ v a. Part (i v) (n v a)) c d k l x r g h

  module _ (c d : Scopes) (k l : Checker) (a : Given) (f : Comes j c k d l (Ok a)) where
    pub second_refused : (e : Scopes) (m : Checker) (x : Refusal) (r : Result Given Refusal) → IsErr r × IsErrAnd r (λ y. y ≡ x) → Comes i d l e m (Err x) → Comes both c k e m r
    second_refused e m x r g h = part_given j (λ v a. Part (i v) (n v a)) c d e k l m a r f (part_refused i (λ v. n v (typed_in a v.later)) d e l m x r g h)

    pub both_given : (e : Scopes) (m o : Checker) (b : Given) (r : Result Given Refusal) → Comes i d l e m (Ok b) → Comes (λ v. n v (typed_in a v.later) (typed_in b v.later)) e m e o r → Comes both c k e o r
    both_given e m o b r h g = part_given j (λ v a. Part (i v) (n v a)) c d e k l o a r f (part_given i (λ v. n v (typed_in a v.later)) d e e l m o b r h g)
