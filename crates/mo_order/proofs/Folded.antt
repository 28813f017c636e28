-- What occurs in cases and lists, by their parts.
use Rattle.std.proofs.Common.{◌≡◌, List, ◌++◌, ap, Result, Ok, Err, OnOk}
use Rattle.std.specs.List.{flat_map}
use Rattle.std.proofs.lemmas.List.Folds.{flat_map-map}
use Rattle.mo_syntax.specs.declared.expressions.Case.{Case, fold_out-Case}
use Rattle.mo_scopes.specs.Findings.{Names}
use Rattle.mo_names.specs.Order.{Step, Found, FoundStep, declaration_step, expression_step, declaration_field_step, case_step, expression_field_step, found, found_step, without, pattern_names, names_of_steps}
use Rattle.mo_order.specs.Parts.{found_member, found_case, found_field, steps_of, occurring}

pub case_free : (x : Case) → (found_case x).free ≡ without (pattern_names x.pattern) (found x.body).free
unfolding found found_step found_member found_case found_field
case_free x = ap (λ b. b.free) (fold_out-Case FoundStep Found FoundStep Found Found declaration_step expression_step declaration_field_step case_step expression_field_step x)

pub case_lists : (x : Case) → (found_case x).lists ≡ (found x.body).lists
unfolding found found_step found_member found_case found_field
case_lists x = ap (λ b. b.lists) (fold_out-Case FoundStep Found FoundStep Found Found declaration_step expression_step declaration_field_step case_step expression_field_step x)

pub occurring_of : (ds : List FoundStep) → occurring (steps_of ds) ≡ flat_map (λ d. d.step.occurs) ds
occurring_of ds = flat_map-map (λ s. s.occurs) (λ d. d.step) ds

-- what a list leaves free, where its steps are those of its declarations
pub list_free : {A E : Type 0} (r : Result A E) (new old : Names) (steps : List Step) (ds : List FoundStep) → steps_of ds ≡ steps
    → OnOk r (new ≡ old ++ without (names_of_steps steps) (occurring steps))
    → OnOk r (new ≡ old ++ without (names_of_steps (steps_of ds)) (flat_map (λ d. d.step.occurs) ds))
list_free (Ok x) new old steps ds e h = rw (← occurring_of ds, e) h
list_free (Err x) new old steps ds e h = tt
