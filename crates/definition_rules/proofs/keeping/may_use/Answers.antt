use Rattle.definition_rules.proofs.OwnUses.{use_arguments}
use Rattle.definition_rules.proofs.keeping.may_use.Goals as goal

pub uses_as_own-requires-clause-within : goal.uses_as_own-requires-clause-within
uses_as_own-requires-clause-within c =
    use_arguments c.args.terms.now c.args.id c.form.result.now c.in-Use.at c.in-Use.arguments c.as_slice.result.now c.form.ensures.below c.requires.within c.in-Use.is c.as_slice.ensures
