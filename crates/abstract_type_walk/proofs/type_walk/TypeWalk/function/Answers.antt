use Rattle.abstract_type_walk.proofs.TypeMaking.{function_made}
use Rattle.abstract_type_walk.proofs.type_walk.TypeWalk.function.Goals as goal

pub returns : goal.returns
returns g c = function_made c.args.sharing c.args.a.now c.args.b.now c.args.at _ _ _ _ _ _ c.finish.result c.sharing_words.ensures c.in_ok-number_behind.ensures c.in_ok-parameters.ensures c.in_ok-of.ensures c.finish.ensures
