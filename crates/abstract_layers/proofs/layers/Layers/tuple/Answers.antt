use Rattle.abstract_layers.proofs.ShapeMaking.{tuple_made}
use Rattle.abstract_layers.proofs.layers.Layers.tuple.Goals as goal

pub returns : goal.returns
returns g c = tuple_made c.args.items.now c.args.at _ _ c.finish.result c.requires.several c.in_ok-items.ensures c.finish.ensures
