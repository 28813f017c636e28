use Rattle.std.proofs.Common.{◌∙◌, sym, ap}
use Rattle.typing_rules.specs.Contexts.{module_member}
use Rattle.value_scopes.specs.Places.{context_in}
use Rattle.name_rules.proofs.NoNames.{of_name, of_none}
use Rattle.name_rules.proofs.modules.built_in.Goals as goal

pub returns-in-Name : goal.returns-in-Name
returns-in-Name c = λ later place.
    of_name (context_in later c.args.scopes.now place) c.args.of.now c.args.name.now c.in-Name.module_name c.module_member.result (sym c.get.ensures ∙ c.in-Name.is)
    (ap (λ m. module_member (context_in later c.args.scopes.now place) m c.args.name.now) (sym c.as_slice.ensures) ∙ c.module_member.ensures later place)

pub returns-in_default : goal.returns-in_default
returns-in_default c = λ later place. of_none (context_in later c.args.scopes.now place) c.args.of.now c.args.name.now (λ m q. c.in_default.not-Name m (c.get.ensures ∙ q))
