use Rattle.met_types.proofs.Indexing.{pushed_at}
use Rattle.met_types.proofs.reached.Reached.push.Goals as goal

pub invariant_of-self-2 : goal.invariant_of-self-2
invariant_of-self-2 c =
    pushed_at c.self.inside.numbers.items c.make_room.new.numbers.items c.keep.new.numbers.items c.self.inside.list.items c.args.self.now c.push.new.self.items c.args.term c.args.id c.index-index.result
    c.index-index.ensures c.self.view_is c.self.invariant c.make_room.ensures.same c.in_ok-make_room.ensures.room c.requires.next c.requires.missing c.keep.ensures c.in_ok-push.ensures.items
