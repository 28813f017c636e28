use Rattle.std.proofs.Common.{◌∷◌, []}
use Rattle.std.proofs.lemmas.List.{reverse-append}
use Rattle.arena_reading.proofs.Lists.{takes_last}
use Rattle.arena_reading.proofs.opening.take_one.Goals as goal

pub returns : goal.returns
returns c = λ n all h k.
    takes_last n all c.args.inside.now c.push.new.self c.pop.new.self.items c.args.values.now.items c.in-Some.value c.in-Some.ensures.items c.in_ok-push.ensures.ok (reverse-append c.pop.new.self.items (c.in-Some.value ∷ [])) h k
