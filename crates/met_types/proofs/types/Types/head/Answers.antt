use Rattle.met_types.proofs.Staying.{grown, if_ok_on, outcomes_kept}
use Rattle.met_types.proofs.types.Types.head.Goals as goal

pub head-requires-clause-outcomes : goal.head-requires-clause-outcomes
head-requires-clause-outcomes c =
    outcomes_kept c.self.inside.terms c.self.inside.definitions c.self.inside.outcomes.items c.self.inside.reached c.self.inside.graph c.args.id c.args.self.now c.self.view_is c.requires.kept c.as_slice.result.now c.as_slice.ensures.value

pub returns-clause-kept : goal.returns-clause-kept
returns-clause-kept c = if_ok_on c.head.result _ _ c.head.ensures
    (λ made m. (grown c.self.inside.terms c.head.new.terms c.self.inside.definitions c.self.inside.outcomes.items c.self.inside.reached c.self.inside.graph c.args.self.now c.self.view_is c.requires.kept m.grows).kept)
