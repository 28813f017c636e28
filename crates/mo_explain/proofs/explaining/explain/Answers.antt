use Rattle.std.proofs.Common.{IfSome, subst}
use Rattle.outer.specs.Names.{IsContent}
use Rattle.mo_explain.proofs.Endings.{whole_ends}
use Rattle.mo_explain.proofs.explaining.explain.Goals as goal

pub returns-in-Ok-Whole-clause-ends : goal.returns-in-Ok-Whole-clause-ends
returns-in-Ok-Whole-clause-ends g c =
    whole_ends c.args.source.now (g.F.Files.names c.args.files.now) (g.F.Files.names c.read.new.self) (g.F.Files.read_faults c.args.files.now) (g.F.Files.read_faults c.read.new.self) (g.F.Files.write_faults c.args.files.now)
    (g.F.Files.write_faults c.read.new.self) (g.O.Sink.shown c.args.out.now) (g.O.Sink.shown c.explain_text.new.out) (g.O.Sink.faults c.args.out.now) (g.O.Sink.faults c.explain_text.new.out) c.in-Ok-Whole.text c.as_slice.result.now
    (subst (λ read. IfSome (g.F.Files.names c.args.files.now) (λ held. IsContent 1048576 (held c.args.source.now) read)) c.in-Ok-Whole.field-0-is c.in-Ok-Whole.ensures.content) c.as_slice.ensures c.explain_text.result c.explain_text.ensures
