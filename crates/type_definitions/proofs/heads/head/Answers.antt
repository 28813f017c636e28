use Rattle.type_definitions.proofs.PutIn.{if_ok}
use Rattle.type_definitions.proofs.Unfolded.{outcomes_on}
use Rattle.type_definitions.proofs.Shapes.{head_made}
use Rattle.type_definitions.proofs.heads.head.Goals as goal

pub shape-requires-clause-outcomes : goal.shape-requires-clause-outcomes
shape-requires-clause-outcomes c = outcomes_on c.args.terms.now c.unfold.new.terms c.args.definitions.now c.args.outcomes.now c.in_ok-itself.ensures.grows c.requires.outcomes

pub returns : goal.returns
returns c = if_ok c.shape.result _ _ c.shape.ensures
    (λ n m. head_made c.args.definitions.now c.args.terms.now c.unfold.new.terms c.shape.new.terms c.args.id c.in_ok-itself.itself n c.in_ok-itself.ensures m)
