use Rattle.std.proofs.Common.{Err, ◌+◌, length, nat_le, ap, ◌∙◌, sym}
use Rattle.ic0_world.specs.Act as act
use Rattle.ic0_world.proofs.Prepared.{refused, too_long}
use Rattle.ic0_world.proofs.world.World.append_argument.Goals as goal

pub returns-then-not-fits : goal.returns-then-not-fits
returns-then-not-fits c memory =
    refused c.args.self.now c.in-Some.call (λ call. act.append_argument c.args.more.now call memory c.args.self.now) (Err c.misuse-then-not-fits.result) memory c.misuse-then-not-fits.new.self c.in-Some.is
    (too_long c.args.more.now c.in-Some.call memory c.args.self.now (ap (λ n. nat_le (n + length c.args.more.now) act.longest_message) (sym c.len.ensures) ∙ (sym c.fits.ensures ∙ c.if-not-fits.true))) (c.misuse-then-not-fits.ensures memory)
