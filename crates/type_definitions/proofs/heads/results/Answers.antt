use Rattle.type_definitions.proofs.PutIn.{if_ok}
use Rattle.type_definitions.proofs.Shapes.{results_made}
use Rattle.type_definitions.proofs.heads.results.Goals as goal

pub returns : goal.returns
returns c = if_ok c.parts_or_itself.result _ _ c.parts_or_itself.ensures
    (λ ids e. results_made c.args.definitions.now c.args.terms.now c.unfold.new.terms c.args.part c.in_ok-tuple.tuple c.form.result.now ids c.requires.within c.in_ok-tuple.ensures c.form.ensures.there c.form.ensures.below e)
