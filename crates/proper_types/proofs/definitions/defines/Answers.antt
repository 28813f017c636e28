use Rattle.std.proofs.Common.{true, false, refl}
use Rattle.abstract_types.specs.TypeView.{named}
use Rattle.proper_types.proofs.Readings.{has_no_type, has_type_in, keeps_both, keeps_in, keeps_not}
use Rattle.proper_types.proofs.definitions.defines.Goals as goal

pub returns-then-not-has_type : goal.returns-then-not-has_type
returns-then-not-has_type c =
    has_no_type (named c.args.name.now) c.args.types.now c.requires false
    (has_type_in c.args.types.now c.definitions.result.now c.outcomes.result.now c.args.name.now.at false c.definitions.ensures c.outcomes.ensures c.if-not-has_type.ensures) refl

pub returns-then-branch : goal.returns-then-branch
returns-then-branch c =
    keeps_both (named c.args.name.now) c.args.types.now c.requires true c.in_ok-keeps_parameters.field-0
    (has_type_in c.args.types.now c.definitions.result.now c.outcomes.result.now c.args.name.now.at true c.definitions.ensures c.outcomes.ensures c.if-not-has_type.ensures)
    (keeps_in c.args.types.now c.definitions-2.result.now c.terms.result.now c.args.name.now.at c.in_ok-keeps_parameters.field-0 c.definitions-2.ensures c.terms.ensures c.in_ok-keeps_parameters.ensures) refl c.if-branch.true

pub returns-else-branch : goal.returns-else-branch
returns-else-branch c =
    keeps_not (named c.args.name.now) c.args.types.now c.requires true c.in_ok-keeps_parameters.field-0
    (has_type_in c.args.types.now c.definitions.result.now c.outcomes.result.now c.args.name.now.at true c.definitions.ensures c.outcomes.ensures c.if-not-has_type.ensures)
    (keeps_in c.args.types.now c.definitions-2.result.now c.terms.result.now c.args.name.now.at c.in_ok-keeps_parameters.field-0 c.definitions-2.ensures c.terms.ensures c.in_ok-keeps_parameters.ensures) refl c.if-branch.false
