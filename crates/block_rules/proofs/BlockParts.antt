-- Blocks by their lists.
use Rattle.std.proofs.Common.{◌≡◌, true, List, Ok, Err}
use Rattle.std.specs.Prelude.{ℕ, Result}
use Rattle.std.specs.Result.{IsErr, IsErrAnd}
use Rattle.typing_rules.specs.AbstractSyntax as p
use Rattle.typing_rules.specs.Judgements.{Gives, Judgement}
use Rattle.typing_rules.specs.Terms.{Term}
use Rattle.typing_rules.specs.TypedTrees.{Note, Typed, typed}
use Rattle.type_judgements.specs.declared.refusal.Refusal.{Refusal}
use Rattle.abstract_tree.specs.declared.declarations.Declaration as value
use Rattle.value_scopes.specs.declared.scopes.Scopes.{Scopes}
use Rattle.judging.specs.declared.checker.Checker.{Checker}
use Rattle.judging.specs.declared.site.Site.{Site}
use Rattle.judging.specs.Views.{View, kind_reached, rule, typed_in}
use Rattle.judging.specs.Answers.{Answers}
use Rattle.judging.proofs.Chains.{goes_on, stops}
use Rattle.judging.proofs.TypedParts.{Comes, Given}
use Rattle.list_judging.specs.declared.part.MadeList.{MadeList}
use Rattle.list_judging.specs.Lists.{judge_list, list_in, list_reached, seen_list}

module _ (x : Site) (xs : List (value.Declaration ℕ)) where
  abbrev pub block : View → Judgement Typed
  block = rule x (p.Block (seen_list xs))

  abbrev list : View → Judgement (Term × p.Declarations Note)
  list = judge_list x true xs

  abbrev closes : View → Term × p.Declarations Note → Judgement Typed
  closes v q = Gives (typed x.at q.0 (p.Block q.1))

  pub no_list : (c d : Scopes) (k l : Checker) (e : Refusal) (r : Result Given Refusal) → IsErr r × IsErrAnd r (λ y. y ≡ e) → Answers list_in list_reached list c k d l (Err e) → Comes block c k d l r
  no_list c d k l e r h j = stops typed_in kind_reached list_in list_reached list closes c d k l e r h j

  pub block_given : (c d e : Scopes) (k l m : Checker) (made : MadeList) (r : Result Given Refusal) → Answers list_in list_reached list c k d l (Ok made) → Comes (λ v. closes v (list_in made v.later)) d l e m r → Comes block c k e m r
  block_given c d e k l m made r j h = goes_on typed_in kind_reached list_in list_reached list closes c d e k l m made r j h
