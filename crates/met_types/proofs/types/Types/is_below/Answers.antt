use Rattle.met_types.proofs.Staying.{below, if_ok}
use Rattle.met_types.proofs.types.Types.is_below.Goals as goal

pub returns-in-Some-Some : goal.returns-in-Some-Some
returns-in-Some-Some c = if_ok c.is_subtype.result _ _ c.is_subtype.ensures
    (λ is h. below c.self.inside.terms c.self.inside.definitions c.self.inside.outcomes.items c.self.inside.reached c.self.inside.graph c.args.self.now c.self.view_is c.requires.kept
    c.args.low c.args.high c.in-Some-Some.a c.in-Some-Some.b c.in-Some-Some.ensures.there c.in-Some-Some.ensures'.there is h)
