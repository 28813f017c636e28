use Rattle.typing_rules.specs.Terms.{unit}
use Rattle.kernel_types.specs.Numbers.{number}
use Rattle.kernel_nodes.proofs.Rolling.{if_same}
use Rattle.kernel_objects.specs.Objects.{name_number_of}
use Rattle.kernel_objects.proofs.Made.{number_found, unit_found}
use Rattle.kernel_objects.proofs.operands.name_number.Goals as goal

pub returns-in-Some : goal.returns-in-Some
returns-in-Some c = number_found c.args.types.now c.args.kind c.args.name.now c.in_ok-found.found c.in-Some.of_type c.in_ok-found.ensures c.in-Some.is

pub returns-in-None : goal.returns-in-None
returns-in-None c =
    if_same c.unit.result (number c.args.types.now unit) (name_number_of c.args.types.now c.args.kind c.args.name.now) (unit_found c.args.types.now c.args.kind c.args.name.now c.in_ok-found.found c.in_ok-found.ensures c.in-None.is) c.unit.ensures
