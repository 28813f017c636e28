use Rattle.typing_rules.specs.Judgements.{Fine, Meets}
use Rattle.type_definitions.specs.Meanings.{term}
use Rattle.judging.specs.Views.{no_more, nothing}
use Rattle.type_steps.proofs.Changed.{changed}
use Rattle.type_steps.proofs.meeting.meets_kind.Goals as goal

pub returns-clause-answer : goal.returns-clause-answer
returns-clause-answer c = λ s q.
    changed nothing no_more (λ later. Meets (term later c.args.kind) Fine) s c.args.checker.now c.meets.new.types c.meets.result q c.meets.ensures.kept c.meets.ensures.goes c.meets.ensures.left (λ m e. tt) c.meets.ensures.judged
