use Rattle.std.specs.Vec.Iter.{into_iter_items}
use Rattle.body_rules.proofs.Others.{none_left, none_taken, one_comes, one_taken}
use Rattle.body_rules.proofs.declarations.take.Goals as goal

pub returns-in-Some : goal.returns-in-Some
returns-in-Some c = λ s k q.
    one_taken (into_iter_items c.args.rest.now) (into_iter_items c.next.new.self) s k q c.in-Some.one (one_comes c.args.rest.now c.next.result c.next.new.self c.next.ensures.cases c.in-Some.one c.in-Some.is)

pub returns-in-None : goal.returns-in-None
returns-in-None c = λ s k q.
    none_taken (into_iter_items c.args.rest.now) (into_iter_items c.next.new.self) s k q (none_left c.args.rest.now c.next.result c.next.new.self c.next.ensures.cases c.in-None.is)
