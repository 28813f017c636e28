use Rattle.typing_rules.specs.Judgements.{Fine, IsBelow, Needs}
use Rattle.type_definitions.specs.Meanings.{term}
use Rattle.judging.specs.Views.{no_more, nothing}
use Rattle.judging.proofs.Steps.{judged_as}
use Rattle.type_steps.proofs.asking.needs_one.Goals as goal

pub returns : goal.returns
returns c = λ s q.
    judged_as nothing no_more (λ later. Needs c.args.condition c.args.place (IsBelow (term later c.args.low) (term later c.args.high)) Fine) s c.args.checker.now c.needs_below.result q (λ m e. tt) c.needs_below.ensures
