use Rattle.std.proofs.Common.{length, subst}
use Rattle.elaboration.specs.Members.{Elaborated}
use Rattle.core_parts.specs.Making.{IsMade}
use Rattle.core_parts.proofs.Going.{on_ok}
use Rattle.core_cases.proofs.Choosing.{not_one}
use Rattle.core_cases.proofs.cases.under_value_of.Goals as goal

pub returns-else-cases-eq1-clause-made : goal.returns-else-cases-eq1-clause-made
returns-else-cases-eq1-clause-made g c =
    on_ok c.each_case.result c.each_case.ensures.made (λ made one.
    let Of : Elaborated → Type 0 = λ d. IsMade d c.args.groups.now c.each_case.new.groups made in
    subst Of (not_one c.args.cases.now c.args.scope.now (length c.args.groups.now) c.if-cases-eq1.false) one)
