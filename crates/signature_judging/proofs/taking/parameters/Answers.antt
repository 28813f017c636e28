use Rattle.std.proofs.Common.{map, refl}
use Rattle.abstract_types.specs.PatternView.{plain}
use Rattle.signatures.specs.Taking.{taken_in}
use Rattle.scope_judging.proofs.Answered.{binds}
use Rattle.scope_judging.proofs.Under.{ready_bound}
use Rattle.signature_judging.specs.Rules.{parameters}
use Rattle.signature_judging.proofs.taking.parameters.Goals as goal

pub returns-clause-binds : goal.returns-clause-binds
returns-clause-binds c =
    binds taken_in (parameters (map plain c.args.patterns.now) c.args.wanted.now) c.args.scopes.now c.args.checker.now (record c.args.checker.now { types = c.parameters.new.types; messages = c.parameters.new.sharing }) c.parameters.new.names c.parameters.result
    c.requires.sound refl c.parameters.ensures.judged

pub returns-clause-ready : goal.returns-clause-ready
returns-clause-ready c = λ x q.
    ready_bound taken_in (parameters (map plain c.args.patterns.now) c.args.wanted.now) c.args.scopes.now (record c.args.scopes.now { values = c.parameters.new.names }) c.args.checker.now
    (record c.args.checker.now { types = c.parameters.new.types; messages = c.parameters.new.sharing }) c.parameters.result x
    (binds taken_in (parameters (map plain c.args.patterns.now) c.args.wanted.now) c.args.scopes.now c.args.checker.now (record c.args.checker.now { types = c.parameters.new.types; messages = c.parameters.new.sharing }) c.parameters.new.names c.parameters.result
    c.requires.sound refl c.parameters.ensures.judged) q
