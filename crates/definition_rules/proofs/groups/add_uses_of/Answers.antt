use Rattle.std.proofs.Common.{◌∙◌, sym, ap}
use Rattle.mo_types.specs.Heads.{map_option}
use Rattle.definition_rules.proofs.Grouping.{uses_added, no_uses_added, on_ok}
use Rattle.definition_rules.proofs.groups.add_uses_of.Goals as goal

pub returns-in-Some : goal.returns-in-Some
returns-in-Some c = on_ok c.add_used.result _ _ c.add_used.ensures
    (uses_added c.args.definitions.now c.args.terms.now c.args.name c.in-Some.definition.now c.args.names.now.keys c.add_used.new.names.keys (sym c.find.ensures ∙ ap (map_option (λ d. d.now)) c.in-Some.is))

pub returns-in-None : goal.returns-in-None
returns-in-None c = no_uses_added c.args.definitions.now c.args.terms.now c.args.name c.args.names.now.keys (sym c.find.ensures ∙ ap (map_option (λ d. d.now)) c.in-None.is)
