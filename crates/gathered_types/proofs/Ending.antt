-- The definitions of a whole program.
use Rattle.std.proofs.Common.{◌≡◌, List, [], ap, refl, subst, sym, ◌∙◌}
use Rattle.type_terms.specs.declared.form.Form.{Form}
use Rattle.typing_rules.specs.Definitions.{Definitions}
use Rattle.type_definitions.specs.Definitions.{Listed, Stand, listed, rules_in}
use Rattle.type_definitions.specs.Tables.{Later}
use Rattle.met_types.specs.States.{State}
use Rattle.gathered_types.specs.Finding.{Finds, joined}

pub none_stand : (forms : List Form) (l : Listed) → l ≡ listed [] [] [] [] → Stand forms l
none_stand forms l e = subst (λ (k : Listed). Stand forms k) (sym e) (record { as_many = refl; as_many_bounds = refl; types = tt; bounds = tt })

module _ (old new : State) (c : Definitions) (x y l : Listed) (forms : List Form) (none : x ≡ listed [] [] [] []) (f : Finds old new c x y) (all : forms ≡ new.forms) (same : l ≡ y) where
  they_are : l ≡ f.more
  they_are = same ∙ (f.found ∙ ap (λ (z : Listed). joined z f.more) none)

  pub all_stand : Stand forms l
  all_stand = subst (λ (fs : List Form). Stand fs l) (sym all) (subst (λ (k : Listed). Stand new.forms k) (sym they_are) f.stand)

  pub are_gathered : (later : List Form) → Later forms later → rules_in later l ≡ c
  are_gathered later h = ap (rules_in later) they_are ∙ f.is later (subst (λ (fs : List Form). Later fs later) all h)
