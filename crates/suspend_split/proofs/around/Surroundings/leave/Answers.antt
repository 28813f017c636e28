use Rattle.std.proofs.Common.{◌∙◌, ap, arith}
use Rattle.suspend_split.specs.Kinds.{inner}
use Rattle.suspend_split.proofs.Stacks.{stacked_pop}
use Rattle.suspend_split.proofs.around.Surroundings.leave.Goals as goal

pub returns : goal.returns
returns c =
    let v = c.self.inside.kinds in
    stacked_pop v.items c.pop.new.self.items v.len c.pop.result (let o = v.ok.0 in omega (arith, o)) c.pop.ensures.items c.pop.ensures.rest ∙ ap inner c.self.view_is
