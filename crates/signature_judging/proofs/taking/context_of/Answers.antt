use Rattle.std.proofs.Common.{option_map, refl}
use Rattle.abstract_types.specs.PatternView.{plain}
use Rattle.signatures.specs.Taking.{context_in}
use Rattle.scope_judging.proofs.Answered.{binds}
use Rattle.scope_judging.proofs.Under.{ready_bound}
use Rattle.signature_judging.specs.Rules.{context_of}
use Rattle.signature_judging.proofs.taking.context_of.Goals as goal

pub returns-clause-binds : goal.returns-clause-binds
returns-clause-binds c =
    binds context_in (context_of (option_map plain c.args.pattern.now)) c.args.scopes.now c.args.checker.now (record c.args.checker.now { types = c.context_of.new.types; messages = c.context_of.new.sharing }) c.context_of.new.names c.context_of.result
    c.requires refl c.context_of.ensures

pub returns-clause-ready : goal.returns-clause-ready
returns-clause-ready c = λ x q.
    ready_bound context_in (context_of (option_map plain c.args.pattern.now)) c.args.scopes.now (record c.args.scopes.now { values = c.context_of.new.names }) c.args.checker.now
    (record c.args.checker.now { types = c.context_of.new.types; messages = c.context_of.new.sharing }) c.context_of.result x
    (binds context_in (context_of (option_map plain c.args.pattern.now)) c.args.scopes.now c.args.checker.now (record c.args.checker.now { types = c.context_of.new.types; messages = c.context_of.new.sharing }) c.context_of.new.names c.context_of.result
    c.requires refl c.context_of.ensures) q
