use Rattle.std.proofs.Common.{map, refl}
use Rattle.abstract_tree.specs.TreeView.{declarations, plain_declaration}
use Rattle.judging.specs.Views.{no_more, nothing}
use Rattle.scope_judging.proofs.Answered.{answered}
use Rattle.signature_judging.specs.Rules.{definitions_of}
use Rattle.signature_judging.proofs.Kept.{answers_kept, ready_there}
use Rattle.signature_judging.proofs.listing.definitions_of.Goals as goal

pub returns-clause-answer : goal.returns-clause-answer
returns-clause-answer c =
    answers_kept nothing no_more (definitions_of (declarations (map plain_declaration c.args.list.now))) c.args.scopes.now c.args.checker.now (record c.args.checker.now { types = c.definitions_of.new.types; messages = c.definitions_of.new.sharing }) c.definitions_of.new.scope
    c.definitions_of.result c.definitions_of.ensures.scope
    (answered nothing no_more (definitions_of (declarations (map plain_declaration c.args.list.now))) c.args.scopes.now c.args.checker.now (record c.args.checker.now { types = c.definitions_of.new.types; messages = c.definitions_of.new.sharing }) c.definitions_of.result
    c.requires refl (λ m e. tt) c.definitions_of.ensures.judged)

pub returns-clause-ready : goal.returns-clause-ready
returns-clause-ready c = λ x q.
    ready_there nothing no_more (definitions_of (declarations (map plain_declaration c.args.list.now))) c.args.scopes.now (record c.args.scopes.now { types = c.definitions_of.new.scope }) c.args.checker.now
    (record c.args.checker.now { types = c.definitions_of.new.types; messages = c.definitions_of.new.sharing }) c.definitions_of.result x
    (answers_kept nothing no_more (definitions_of (declarations (map plain_declaration c.args.list.now))) c.args.scopes.now c.args.checker.now (record c.args.checker.now { types = c.definitions_of.new.types; messages = c.definitions_of.new.sharing }) c.definitions_of.new.scope
    c.definitions_of.result c.definitions_of.ensures.scope
    (answered nothing no_more (definitions_of (declarations (map plain_declaration c.args.list.now))) c.args.scopes.now c.args.checker.now (record c.args.checker.now { types = c.definitions_of.new.types; messages = c.definitions_of.new.sharing }) c.definitions_of.result
    c.requires refl (λ m e. tt) c.definitions_of.ensures.judged)) q
