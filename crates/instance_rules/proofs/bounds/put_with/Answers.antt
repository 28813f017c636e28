use Rattle.instance_rules.proofs.Bounding.{with_put}
use Rattle.instance_rules.proofs.bounds.put_with.Goals as goal

pub returns : goal.returns
returns c =
    with_put c.args.arguments.now.parameters.now c.args.arguments.now.arguments.now c.args.arguments.now.others_stay c.requires.stay c.args.types.now c.put_in.new.self c.args.id c.put_in.result c.put_in.ensures.kept c.put_in.ensures.goes
    c.put_in.ensures.stands c.put_in.ensures.made
