use Rattle.std.proofs.Common.{◌∙◌, List, subst, sym}
use Rattle.mo_types.specs.Sub.{Each}
use Rattle.type_terms.specs.declared.form.TermId.{TermId}
use Rattle.typing_rules.specs.declared.condition.Condition.TheVariants as condition
use Rattle.met_types.specs.States.{IsReached}
use Rattle.judging.specs.Views.{term_in}
use Rattle.judging.proofs.Chains.{no_memory}
use Rattle.data_parts.proofs.TypesOf.{kinds_reached}
use Rattle.array_rules.specs.Within.{is_within}
use Rattle.array_rules.proofs.AllElements.{all_within, greatest_are, ok_within}
use Rattle.array_rules.proofs.elements.mutable_element_kind.Goals as goal

pub greatest-requires-clause-kinds : goal.greatest-requires-clause-kinds
greatest-requires-clause-kinds c =
    subst (λ (ids : List TermId). Each (IsReached c.args.checker.now.types) ids) (sym c.as_slice.ensures)
    (subst (λ (ids : List TermId). Each (IsReached c.args.checker.now.types) ids) (sym c.in_ok-kinds.ensures) (kinds_reached c.args.checker.now c.args.elements.now c.requires.elements))

pub returns-in_err-kinds-clause-answer : goal.returns-in_err-kinds-clause-answer
returns-in_err-kinds-clause-answer c = λ s q. no_memory term_in is_within _ s s c.args.checker.now _ c.from_residual.result c.from_residual.ensures

pub returns-clause-within : goal.returns-clause-within
returns-clause-within c = all_within c.args.checker.now c.greatest.result c.requires.kept c.greatest.ensures.reached

pub returns-clause-answer : goal.returns-clause-answer
returns-clause-answer c = λ s q.
    greatest_are c.args.elements.now c.as_slice.result.now (c.as_slice.ensures ∙ c.in_ok-kinds.ensures) condition.NeedsType c.args.place s c.args.checker.now c.greatest.result q
    (ok_within c.args.checker.now c.greatest.result c.requires.kept c.greatest.ensures.reached) c.greatest.ensures.judged
