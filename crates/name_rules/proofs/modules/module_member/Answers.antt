use Rattle.name_rules.proofs.NoNames.{of_module, value_hides}
use Rattle.name_rules.proofs.modules.module_member.Goals as goal

pub returns-in-Some : goal.returns-in-Some
returns-in-Some c = λ later place. value_hides later c.args.scopes.now place c.args.module_name.now c.args.name.now _ c.in-Some.ensures

pub returns-in-Some-imported : goal.returns-in-Some-imported
returns-in-Some-imported c = λ later place.
    of_module later c.args.scopes.now place c.args.module_name.now c.args.name.now c.in-Some-imported.library c.member_of.result c.in-None.ensures c.in-Some-imported.ensures c.member_of.ensures
