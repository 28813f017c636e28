use Rattle.std.proofs.Common.{Err, ◌∙◌, sym}
use Rattle.ic0_world.specs.Act as act
use Rattle.ic0_world.proofs.Prepared.{refused, cleaned_before}
use Rattle.ic0_world.proofs.world.World.set_cleanup.Goals as goal

pub returns-then-is_some : goal.returns-then-is_some
returns-then-is_some c memory =
    refused c.args.self.now c.in-Some.call (λ call. act.set_cleanup c.args.callback call memory c.args.self.now) (Err c.misuse-then-is_some.result) memory c.misuse-then-is_some.new.self c.in-Some.is
    (cleaned_before c.args.callback c.in-Some.call memory c.args.self.now (sym c.is_some.ensures ∙ c.if-is_some.true)) (c.misuse-then-is_some.ensures memory)
