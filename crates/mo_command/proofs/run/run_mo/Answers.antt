use Rattle.std.proofs.Common.{refl, string_bytes, Global, map}
use Rattle.mo_command.specs.Held.{outside}
use Rattle.mo_command.proofs.Asked.{ends_as_asked, ends_told}
use Rattle.mo_command.proofs.run.run_mo.Goals as goal

pub returns-clause-ends : goal.returns-clause-ends
returns-clause-ends g c = ends_told _ _ _ c.work-status.result c.tell.result c.work-status.ensures c.tell.ensures.same

pub returns-clause-as_asked : goal.returns-clause-as_asked
returns-clause-as_asked g c =
    ends_as_asked (map (string_bytes {Z = Global}) c.args.words.now) (g.F.Files.names c.args.files.now)
    (outside (g.F.Files.names c.args.files.now) (g.F.Files.read_faults c.args.files.now) (g.F.Files.write_faults c.args.files.now) (g.O.Sink.shown c.args.out.now) (g.O.Sink.faults c.args.out.now))
    (outside (g.F.Files.names c.work-status.new.files) (g.F.Files.read_faults c.work-status.new.files) (g.F.Files.write_faults c.work-status.new.files) (g.O.Sink.shown c.work-status.new.out) (g.O.Sink.faults c.work-status.new.out))
    c.tell.result refl (ends_told _ _ _ c.work-status.result c.tell.result c.work-status.ensures c.tell.ensures.same)
