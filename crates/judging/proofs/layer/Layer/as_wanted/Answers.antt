use Rattle.judging.proofs.Steps.{wanted_within}
use Rattle.judging.proofs.layer.Layer.as_wanted.Goals as goal

pub part-requires-clause-wanted : goal.part-requires-clause-wanted
part-requires-clause-wanted g c = wanted_within c.args.checker.now c.args.scopes.now c.args.self.now.site c.requires.ready
