-- Types without parts that are met one after the other.
use Rattle.std.proofs.Common.{◌≡◌, List, [], ◌∷◌, Ok, Err, refl}
use Rattle.std.specs.Prelude.{Result}
use Rattle.std.specs.Result.{IsErr, IsErrAnd}
use Rattle.type_terms.specs.declared.form.TermId.{TermId}
use Rattle.typing_rules.specs.Judgements.{Fine, Gives, Judgement, Meets, MeetsEach}
use Rattle.typing_rules.specs.Terms.{Term}
use Rattle.met_types.specs.States.{IsReached}
use Rattle.type_judgements.specs.declared.refusal.Refusal.{Refusal}
use Rattle.value_scopes.specs.declared.scopes.Scopes.{Scopes}
use Rattle.judging.specs.declared.checker.Checker.{Checker}
use Rattle.judging.specs.Answers.{Answers}
use Rattle.judging.specs.Parts.{Sound}
use Rattle.judging.specs.Views.{View, no_more, nothing, term_in}
use Rattle.judging.proofs.Chains.{given, goes_on, stops}

abbrev pub AreMet : List Term → Scopes → Checker → Checker → Result (Unit {0}) Refusal → Type 0
AreMet ts c k l r = Answers nothing no_more (λ v. MeetsEach ts Fine) c k c l r

pub none_left : (c : Scopes) (k : Checker) → Sound k c → AreMet [] c k k (Ok tt)
none_left c k s = given nothing no_more (λ v. Fine) c k tt s tt (λ later w. refl)

module _ (t : Term) (ts : List Term) (c : Scopes) (k l : Checker) where
  abbrev first : View → Judgement Term
  first v = Meets t (Gives t)

  -- the first is, and then the others
  pub then_met : (m : Checker) (id : TermId) (r : Result (Unit {0}) Refusal) → Answers term_in IsReached first c k c l (Ok id) → AreMet ts c l m r → AreMet (t ∷ ts) c k m r
  then_met m id r h g = goes_on nothing no_more term_in IsReached first (λ v u. MeetsEach ts Fine) c c c k l m id r h g

  -- the first is not
  pub not_met : (e : Refusal) (r : Result (Unit {0}) Refusal) → IsErr r × IsErrAnd r (λ y. y ≡ e) → Answers term_in IsReached first c k c l (Err e) → AreMet (t ∷ ts) c k l r
  not_met e r g h = stops nothing no_more term_in IsReached first (λ v u. MeetsEach ts Fine) c c k l e r g h
