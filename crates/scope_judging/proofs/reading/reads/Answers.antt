use Rattle.std.proofs.Common.{refl}
use Rattle.std.proofs.lemmas.Result.{IfOk-at_ok}
use Rattle.met_types.specs.States.{IsReached}
use Rattle.abstract_types.specs.TypeView.{type_node}
use Rattle.judging.specs.Views.{term_in}
use Rattle.scope_judging.specs.Rules.{reads}
use Rattle.scope_judging.proofs.Answered.{answered, ready_after}
use Rattle.scope_judging.proofs.reading.reads.Goals as goal

pub returns-clause-answer : goal.returns-clause-answer
returns-clause-answer c =
    answered term_in IsReached (reads (type_node c.args.written.now)) c.args.scopes.now c.args.checker.now (record c.args.checker.now { types = c.reads.new.types; messages = c.reads.new.sharing }) c.reads.result c.requires refl
    (λ m e. IfOk-at_ok (IsReached c.reads.new.types) e c.reads.ensures.reached) c.reads.ensures.judged

pub returns-clause-ready : goal.returns-clause-ready
returns-clause-ready c = λ x q.
    ready_after term_in IsReached (reads (type_node c.args.written.now)) c.args.scopes.now c.args.checker.now (record c.args.checker.now { types = c.reads.new.types; messages = c.reads.new.sharing }) c.reads.result x
    (answered term_in IsReached (reads (type_node c.args.written.now)) c.args.scopes.now c.args.checker.now (record c.args.checker.now { types = c.reads.new.types; messages = c.reads.new.sharing }) c.reads.result c.requires refl
    (λ m e. IfOk-at_ok (IsReached c.reads.new.types) e c.reads.ensures.reached) c.reads.ensures.judged) q
