use Rattle.std.proofs.Common.{◌∙◌, sym, ap, Option}
use Rattle.type_definitions.specs.declared.definitions.Definition.{Definition}
use Rattle.type_definitions.specs.Outcomes.{outcome_at, argument_in}
use Rattle.type_definitions.proofs.PutIn.{bottom_below, if_ok}
use Rattle.type_definitions.proofs.Unfolded.{to_bottom, to_found, to_missing, to_right_side}
use Rattle.type_definitions.proofs.unfolding.unfold_use.Goals as goal

pub intern-requires : goal.intern-requires
intern-requires c = bottom_below _

pub intern-requires-in-None : goal.intern-requires-in-None
intern-requires-in-None c = bottom_below _

pub returns-in-Endless : goal.returns-in-Endless
returns-in-Endless c = if_ok c.intern.result _ _ c.intern.ensures.ok
    (λ r i. to_bottom c.args.terms.now c.args.definitions.now c.args.outcomes.now c.args.at c.args.arguments.now c.requires.outcomes c.intern.new.self r
    (sym (c.in-Endless.ensures ∙ ap (λ ns. outcome_at ns c.args.outcomes.now c.args.at) c.names.ensures)) i)

pub returns-in-Some : goal.returns-in-Some
returns-in-Some c =
    to_found c.args.terms.now c.args.definitions.now c.args.outcomes.now c.args.at c.args.arguments.now c.requires.outcomes c.in-Parameter.parameter
    (sym (c.in-Parameter.ensures ∙ ap (λ ns. outcome_at ns c.args.outcomes.now c.args.at) c.names.ensures)) c.in-Some.next c.requires.within
    (sym (c.in-Some.ensures ∙ ap (λ (d : Option Definition). argument_in d c.args.arguments.now c.in-Parameter.parameter) c.find.ensures))

pub returns-in-None : goal.returns-in-None
returns-in-None c = if_ok c.intern-in-None.result _ _ c.intern-in-None.ensures.ok
    (λ r i. to_missing c.args.terms.now c.args.definitions.now c.args.outcomes.now c.args.at c.args.arguments.now c.requires.outcomes c.in-Parameter.parameter
    (sym (c.in-Parameter.ensures ∙ ap (λ ns. outcome_at ns c.args.outcomes.now c.args.at) c.names.ensures)) c.intern-in-None.new.self r
    (sym (c.in-None.ensures ∙ ap (λ (d : Option Definition). argument_in d c.args.arguments.now c.in-Parameter.parameter) c.find.ensures)) i)

pub returns-in-Form : goal.returns-in-Form
returns-in-Form c = if_ok c.unfold_right.result _ _ c.unfold_right.ensures
    (λ r m. to_right_side c.args.terms.now c.args.definitions.now c.args.outcomes.now c.args.at c.args.arguments.now c.requires.outcomes c.unfold_right.new.terms r
    (sym (c.in-Form.ensures ∙ ap (λ ns. outcome_at ns c.args.outcomes.now c.args.at) c.names.ensures)) m)
