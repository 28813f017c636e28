use Rattle.std.proofs.Common.{◌∙◌, sym}
use Rattle.definition_rules.proofs.Grouping.{at_some, at_none, on_ok}
use Rattle.definition_rules.proofs.groups.add_uses_at.Goals as goal

pub returns-in-Some : goal.returns-in-Some
returns-in-Some c = on_ok c.add_uses_of.result _ _ c.add_uses_of.ensures
    (at_some c.args.definitions.now c.args.terms.now c.args.place c.in-Some.name c.args.names.now.keys c.add_uses_of.new.names.keys (sym c.name_at.ensures ∙ c.in-Some.is))

pub returns-in-None : goal.returns-in-None
returns-in-None c = at_none c.args.definitions.now c.args.terms.now c.args.place c.args.names.now.keys c.args.names.now.keys (sym c.name_at.ensures ∙ c.in-None.is)
