use Rattle.mo_num.specs.declared.kind.Kind.TheVariants as kind
use Rattle.type_definitions.proofs.Meanings.{within_on}
use Rattle.met_types_tests.proofs.Below.{number_below, variable_below}
use Rattle.met_types_tests.proofs.sharing.an_array_may_be_sent_where_it_is_no_variable_one.Goals as goal

pub intern-requires-clause-below : goal.intern-requires-clause-below
intern-requires-clause-below g c = number_below _ kind.Nat

pub intern-requires-3-clause-below : goal.intern-requires-3-clause-below
intern-requires-3-clause-below g c = variable_below _ c.in_ok-number.number
    (within_on c.intern.new.self.forms c.intern-2.new.self.forms c.in_ok-number.number c.in_ok-array.ensures.goes.forms c.in_ok-number.ensures.made.within)
