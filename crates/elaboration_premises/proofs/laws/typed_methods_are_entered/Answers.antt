use Rattle.elaboration_premises.proofs.Methods.{methods_meet, methods_are_typed, methods_serve}
use Rattle.elaboration_premises.proofs.laws.typed_methods_are_entered.Goals as goal

pub returns-clause-meets : goal.returns-clause-meets
returns-clause-meets c = methods_meet

pub returns-clause-typed : goal.returns-clause-typed
returns-clause-typed c = methods_are_typed

pub returns-clause-serve : goal.returns-clause-serve
returns-clause-serve c = methods_serve
