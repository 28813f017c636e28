use Rattle.std.proofs.Common.{◌∙◌, sym}
use Rattle.instance_rules.proofs.CalleeParts.{name_found, no_parameters, not_there}
use Rattle.instance_rules.proofs.callees.of_name.Goals as goal

pub returns-then-is_empty : goal.returns-then-is_empty
returns-then-is_empty c = no_parameters c.args.types.now c.requires.kept c.args.scopes.now c.args.name.now c.in-Some.bound.now c.in-Some.ensures (sym c.is_empty.ensures ∙ c.if-is_empty.true)

pub returns-in_ok-named-in-Some : goal.returns-in_ok-named-in-Some
returns-in_ok-named-in-Some c =
    name_found c.args.types.now c.requires.kept c.args.scopes.now c.args.name.now c.in-Some.bound.now c.in-Some.ensures (sym c.is_empty.ensures ∙ c.if-is_empty.false) c.requires.hold c.in_ok-named-in-Some.field-0
    c.in_ok-named-in-Some.ensures.bound c.in_ok-named-in-Some.ensures.form

pub returns-in-None : goal.returns-in-None
returns-in-None c = not_there c.args.types.now c.requires.kept c.args.scopes.now c.args.name.now c.in-None.ensures
