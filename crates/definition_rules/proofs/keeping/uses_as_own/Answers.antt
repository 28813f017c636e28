use Rattle.std.proofs.Common.{◌∙◌, ap, sym, subst}
use Rattle.mo_types.specs.Heads.{map_option}
use Rattle.definition_rules.specs.Uses.{AreOwn}
use Rattle.definition_rules.proofs.OwnUses.{led_use, no_definition_used}
use Rattle.definition_rules.proofs.keeping.uses_as_own.Goals as goal

pub returns-in_ok-leads_to-in-Some : goal.returns-in_ok-leads_to-in-Some
returns-in_ok-leads_to-in-Some c =
    led_use c.args.definitions.now c.args.terms.now c.args.name c.args.own.now c.args.at c.args.arguments.now c.in-Some.used.now c.in_ok-leads_to-in-Some.field-0
    (sym c.find.ensures ∙ ap (map_option (λ d. d.now)) c.in-Some.is) (subst (AreOwn c.args.terms.now c.args.own.now c.args.arguments.now) c.if-are_own.false c.are_own.ensures) c.in_ok-leads_to-in-Some.ensures

pub returns-in-None : goal.returns-in-None
returns-in-None c = no_definition_used c.args.definitions.now c.args.terms.now c.args.name c.args.own.now c.args.at c.args.arguments.now (sym c.find.ensures ∙ ap (map_option (λ d. d.now)) c.in-None.is)
