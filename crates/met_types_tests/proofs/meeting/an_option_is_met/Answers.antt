use Rattle.mo_num.specs.declared.kind.Kind.TheVariants as kind
use Rattle.met_types_tests.proofs.Below.{number_below}
use Rattle.met_types_tests.proofs.meeting.an_option_is_met.Goals as goal

pub intern-requires-clause-below : goal.intern-requires-clause-below
intern-requires-clause-below g c = number_below _ kind.Nat
