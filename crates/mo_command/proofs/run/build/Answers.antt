use Rattle.outer.specs.Names.{KeepsOthers}
use Rattle.mo_command.proofs.Builds.{built_when}
use Rattle.mo_command.proofs.run.build.Goals as goal

pub returns-in-Ok-write : goal.returns-in-Ok-write
returns-in-Ok-write g c =
    let others : KeepsOthers (g.F.Files.names c.args.files.now) (g.F.Files.names c.write.new.self) c.args.out.now = rw c.read.ensures.same at c.in-Ok-write.ensures.others in (
      built_when (g.F.Files.names c.args.files.now) (g.F.Files.names c.write.new.self) c.args.source.now c.args.out.now c.in-Ok-Whole.text c.in-Ok.bytes c.as_slice.result.now c.as_slice-in-Ok.result.now
          (rw c.in-Ok-Whole.field-0-is at c.in-Ok-Whole.ensures.content) c.as_slice.ensures (rw c.in-Ok.bytes-is at c.in-Ok.ensures.module) c.as_slice-in-Ok.ensures c.in-Ok-write.ensures.written others,
      others,
    )
