use Rattle.met_types.proofs.Staying.{grown, if_ok_on}
use Rattle.met_types.proofs.types.Types.put_in.Goals as goal

pub returns-clause-kept : goal.returns-clause-kept
returns-clause-kept c = if_ok_on c.put_in.result _ _ c.put_in.ensures
    (λ made m. (grown c.self.inside.terms c.put_in.new.terms c.self.inside.definitions c.self.inside.outcomes.items c.self.inside.reached c.self.inside.graph c.args.self.now c.self.view_is c.requires.kept m.grows).kept)
