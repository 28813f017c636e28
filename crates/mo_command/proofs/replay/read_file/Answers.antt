use Rattle.mo_command.proofs.Files.{file_long}
use Rattle.mo_command.proofs.replay.read_file.Goals as goal

pub returns-in-Ok-TooLong-clause-err : goal.returns-in-Ok-TooLong-clause-err
returns-in-Ok-TooLong-clause-err g c =
    rw c.too_long.ensures
    (file_long c.args.input c.args.number (g.F.Files.names c.args.files.now) c.args.name.now (g.F.Files.read_faults c.args.files.now) (g.F.Files.read_faults c.read.new.self) (rw c.limit_of.ensures at (rw c.in-Ok-TooLong.field-0-is at c.in-Ok-TooLong.ensures.content)))
