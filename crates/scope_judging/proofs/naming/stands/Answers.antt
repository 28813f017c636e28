use Rattle.std.proofs.Common.{refl}
use Rattle.abstract_types.specs.PatternView.{plain}
use Rattle.typed_patterns.specs.Making.{pattern_in}
use Rattle.scope_judging.specs.Rules.{stands}
use Rattle.scope_judging.proofs.Answered.{binds}
use Rattle.scope_judging.proofs.Under.{ready_bound}
use Rattle.scope_judging.proofs.naming.stands.Goals as goal

pub returns-clause-binds : goal.returns-clause-binds
returns-clause-binds c =
    binds pattern_in (stands (plain c.args.pattern.now) c.args.kind) c.args.scopes.now c.args.checker.now (record c.args.checker.now { types = c.stands.new.types; messages = c.stands.new.sharing }) c.stands.new.names c.stands.result c.requires.sound
    refl c.stands.ensures

pub returns-clause-ready : goal.returns-clause-ready
returns-clause-ready c = λ x q.
    ready_bound pattern_in (stands (plain c.args.pattern.now) c.args.kind) c.args.scopes.now (record c.args.scopes.now { values = c.stands.new.names }) c.args.checker.now
    (record c.args.checker.now { types = c.stands.new.types; messages = c.stands.new.sharing }) c.stands.result x
    (binds pattern_in (stands (plain c.args.pattern.now) c.args.kind) c.args.scopes.now c.args.checker.now (record c.args.checker.now { types = c.stands.new.types; messages = c.stands.new.sharing }) c.stands.new.names c.stands.result c.requires.sound
    refl c.stands.ensures) q
