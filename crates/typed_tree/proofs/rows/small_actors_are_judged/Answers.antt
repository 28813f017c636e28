use Rattle.typed_tree.proofs.Examples.{five_is_well_typed, text_is_refused, waiting_is_refused, local_is_refused}
use Rattle.typed_tree.proofs.Counter.{counter_is_well_typed}
use Rattle.typed_tree.proofs.Generic.{generic_is_well_typed}
use Rattle.typed_tree.proofs.rows.small_actors_are_judged.Goals as goal

pub returns-clause-accepted : goal.returns-clause-accepted
returns-clause-accepted c = five_is_well_typed

pub returns-clause-text : goal.returns-clause-text
returns-clause-text c = λ w. text_is_refused w

pub returns-clause-waiting : goal.returns-clause-waiting
returns-clause-waiting c = λ e w. waiting_is_refused e w

pub returns-clause-local : goal.returns-clause-local
returns-clause-local c = λ w. local_is_refused w

pub returns-clause-counter : goal.returns-clause-counter
returns-clause-counter c = counter_is_well_typed

pub returns-clause-generic : goal.returns-clause-generic
returns-clause-generic c = generic_is_well_typed
