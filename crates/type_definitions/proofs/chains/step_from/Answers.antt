use Rattle.std.proofs.Common.{◌∙◌, ap, sym, Option}
use Rattle.mo_types.specs.Heads.{map_option}
use Rattle.type_definitions.specs.Outcomes.{outcome_at, argument_in}
use Rattle.type_definitions.proofs.Leading.{done_form, done_parameter, done_endless, done_use, done_missing, leads_on}
use Rattle.type_definitions.specs.declared.definitions.Definition.{Definition}
use Rattle.type_definitions.proofs.chains.step_from.Goals as goal

pub returns-in-Endless : goal.returns-in-Endless
returns-in-Endless c =
    done_endless c.args.terms.now c.args.definitions.now c.args.outcomes.now c.args.id c.form.result.now c.form.ensures.there c.in-Use.at c.in-Use.arguments c.in-Use.is
    (sym (c.in-Endless.ensures ∙ ap (λ ns. outcome_at ns c.args.outcomes.now c.in-Use.at) c.names.ensures))

pub returns-in-Form : goal.returns-in-Form
returns-in-Form c =
    done_use c.args.terms.now c.args.definitions.now c.args.outcomes.now c.args.id c.form.result.now c.form.ensures.there c.in-Use.at c.in-Use.arguments c.in-Use.is
    (sym (c.in-Form.ensures ∙ ap (λ ns. outcome_at ns c.args.outcomes.now c.in-Use.at) c.names.ensures))

pub returns-in-Some : goal.returns-in-Some
returns-in-Some c =
    leads_on c.args.terms.now c.args.definitions.now c.args.outcomes.now c.args.id c.form.result.now c.form.ensures.there c.in-Use.at c.in-Use.arguments c.in-Use.is
    c.in-Parameter-outcome_at.parameter
    (sym (c.in-Parameter-outcome_at.ensures ∙ ap (λ ns. outcome_at ns c.args.outcomes.now c.in-Use.at) c.names.ensures))
    c.in-Some.next
    (sym (c.in-Some.ensures ∙ (ap (λ xs. argument_in (map_option (λ d. d.now) c.find.result) xs c.in-Parameter-outcome_at.parameter) c.as_slice.ensures ∙ ap (λ (d : Option Definition). argument_in d c.in-Use.arguments c.in-Parameter-outcome_at.parameter) c.find.ensures)))
    c.form.ensures.below

pub returns-in-None : goal.returns-in-None
returns-in-None c =
    done_missing c.args.terms.now c.args.definitions.now c.args.outcomes.now c.args.id c.form.result.now c.form.ensures.there c.in-Use.at c.in-Use.arguments c.in-Use.is
    c.in-Parameter-outcome_at.parameter
    (sym (c.in-Parameter-outcome_at.ensures ∙ ap (λ ns. outcome_at ns c.args.outcomes.now c.in-Use.at) c.names.ensures))
    (sym (c.in-None.ensures ∙ (ap (λ xs. argument_in (map_option (λ d. d.now) c.find.result) xs c.in-Parameter-outcome_at.parameter) c.as_slice.ensures ∙ ap (λ (d : Option Definition). argument_in d c.in-Use.arguments c.in-Parameter-outcome_at.parameter) c.find.ensures)))

pub returns-in-Parameter : goal.returns-in-Parameter
returns-in-Parameter c =
    done_parameter c.args.terms.now c.args.definitions.now c.args.outcomes.now c.args.id c.form.result.now c.form.ensures.there c.in-Parameter.at c.in-Parameter.is

pub returns-in_default : goal.returns-in_default
returns-in_default c =
    done_form c.args.terms.now c.args.definitions.now c.args.outcomes.now c.args.id c.form.result.now c.form.ensures.there (λ n ids. c.in_default.not-Use n ids) (λ n. c.in_default.not-Parameter n)
