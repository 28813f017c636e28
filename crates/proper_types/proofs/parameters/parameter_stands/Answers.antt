use Rattle.std.proofs.Common.{[], ◌∷◌}
use Rattle.abstract_types.specs.TypeView.{parameter}
use Rattle.type_scopes.specs.Scopes.{seen}
use Rattle.proper_types.specs.Rules.{done, generics}
use Rattle.proper_types.proofs.Judging.{handed}
use Rattle.proper_types.proofs.Readings.{bound_read, bound_refused, none_bounds}
use Rattle.proper_types.proofs.parameters.parameter_stands.Goals as goal

pub returns-in_err-reads-in-Some : goal.returns-in_err-reads-in-Some
returns-in_err-reads-in-Some c =
    handed (generics (seen c.args.scope.now) (parameter c.args.one.now ∷ [])) c.args.types.now c.reads.new.types c.reads.new.sharing c.reads.new.sharing done done c.in_err-reads-in-Some.field-0.0 c.from_residual.result c.from_residual.ensures
    (bound_refused (seen c.args.scope.now) c.args.one.now c.in-Some.bound c.args.types.now c.reads.new.types c.reads.new.sharing c.reads.new.sharing c.in_err-reads-in-Some.field-0.0 c.in-Some.is c.in_err-reads-in-Some.ensures.judged)

pub returns-in_ok-reads-in-Some : goal.returns-in_ok-reads-in-Some
returns-in_ok-reads-in-Some c =
    bound_read (seen c.args.scope.now) c.args.one.now c.in-Some.bound c.in_ok-reads-in-Some.field-0 c.args.types.now c.reads.new.types c.stands.new.types c.reads.new.sharing c.reads.new.sharing c.stands.result c.in-Some.is
    c.in_ok-reads-in-Some.ensures.judged c.stands.ensures

pub returns-in-None : goal.returns-in-None
returns-in-None c = none_bounds (seen c.args.scope.now) c.args.one.now c.args.types.now c.stands-in-None.new.types c.args.sharing.now c.stands-in-None.result c.in-None.is c.stands-in-None.ensures
