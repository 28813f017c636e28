use Rattle.std.proofs.Common.{subst, sym}
use Rattle.mo_command.specs.Replays.{Gives}
use Rattle.mo_command.proofs.Files.{source_gives}
use Rattle.mo_command.proofs.replay.module_of.Goals as goal

pub returns-in-Ok-judge-clause-ok : goal.returns-in-Ok-judge-clause-ok
returns-in-Ok-judge-clause-ok c =
    subst (λ i. Gives i c.args.bytes.now c.in-Ok-judge.valid) (sym c.in-Sources.is)
    (source_gives c.args.bytes.now c.in-Ok-compile.module c.in-Ok-judge.valid c.as_slice.result.now (rw c.in-Ok-compile.module-is at c.in-Ok-compile.ensures.module) c.as_slice.ensures c.in-Ok-judge.ensures.ok)
