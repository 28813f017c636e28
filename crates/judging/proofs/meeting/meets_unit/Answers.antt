use Rattle.std.proofs.Common.{◌≡◌, [], sym, subst}
use Rattle.type_terms.specs.declared.form.Form.{Form}
use Rattle.type_terms.specs.Layouts.{parts}
use Rattle.typing_rules.specs.Judgements.{Gives, Meets}
use Rattle.type_definitions.specs.Meanings.{term, term_of}
use Rattle.met_types.specs.States.{IsReached}
use Rattle.judging.specs.Views.{term_in}
use Rattle.judging.specs.Answers.{Answers}
use Rattle.judging.proofs.Steps.{unit_plain}
use Rattle.judging.proofs.meeting.meets_unit.Goals as goal

pub meets_plain-requires-clause-plain : goal.meets_plain-requires-clause-plain
meets_plain-requires-clause-plain c = subst (λ (f : Form). parts f ≡ []) (sym c.unit-kind.ensures) unit_plain

pub returns-clause-answer : goal.returns-clause-answer
returns-clause-answer c = λ s q.
    subst (λ (f : Form). Answers term_in IsReached (λ v. Meets (term_of (term v.later) f) (Gives (term_of (term v.later) f))) s c.args.checker.now s c.meets_plain.new.checker c.meets_plain.result) c.unit-kind.ensures
    (c.meets_plain.ensures.answer s q)
