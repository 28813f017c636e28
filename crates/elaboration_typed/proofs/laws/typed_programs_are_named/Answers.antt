use Rattle.elaboration_typed.proofs.Names.{code_is_named, methods_are_named}
use Rattle.elaboration_typed.proofs.laws.typed_programs_are_named.Goals as goal

pub returns-clause-methods : goal.returns-clause-methods
returns-clause-methods c = methods_are_named

pub returns-clause-code : goal.returns-clause-code
returns-clause-code c = code_is_named
