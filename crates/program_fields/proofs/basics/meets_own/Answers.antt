use Rattle.std.proofs.Common.{◌∙◌, Some, None, sym}
use Rattle.program_fields.proofs.Own.{no_own, own_met, own_within}
use Rattle.program_fields.proofs.basics.meets_own.Goals as goal

pub returns-in-None : goal.returns-in-None
returns-in-None c = no_own c.args.name.now c.args.scopes.now c.args.checker.now (sym c.in-None.is ∙ c.own_type.ensures) c.requires

pub meets_kind-requires-clause-within : goal.meets_kind-requires-clause-within
meets_kind-requires-clause-within c =
    own_within c.args.checker.now.types.forms c.args.scopes.now.values c.args.name.now c.in-Some.kind (sym c.in-Some.is ∙ c.own_type.ensures) c.requires.values

pub returns-in-Some : goal.returns-in-Some
returns-in-Some c =
    own_met c.args.name.now c.args.scopes.now c.args.checker.now c.meets_kind.new.checker c.in-Some.kind c.meets_kind.result (sym c.in-Some.is ∙ c.own_type.ensures)
    (c.meets_kind.ensures.answer c.args.scopes.now c.requires)
