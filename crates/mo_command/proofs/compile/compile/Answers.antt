use Rattle.std.proofs.Common.{subst, sym, refl}
use Rattle.query_module.specs.Answers.{AreQueries}
use Rattle.mo_command.proofs.Builds.{are_queries}
use Rattle.mo_command.proofs.compile.compile.Goals as goal

pub build_queries-requires : goal.build_queries-requires
build_queries-requires c = subst AreQueries (sym c.as_slice.ensures) (are_queries c.in-Ok.methods c.args.source.now (rw c.in-Ok.methods-is at c.in-Ok.ensures.found))

pub returns-in-Err-NotYet-clause-not_yet : goal.returns-in-Err-NotYet-clause-not_yet
returns-in-Err-NotYet-clause-not_yet c = λ _ a. c.in-Err-NotYet.ensures.not_yet (rw c.in-Err-NotYet.field-0-is refl) a.0 a.1
