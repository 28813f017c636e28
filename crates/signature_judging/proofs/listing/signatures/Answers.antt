use Rattle.std.proofs.Common.{map, refl}
use Rattle.abstract_tree.specs.TreeView.{declarations, plain_declaration}
use Rattle.signatures.specs.Naming.{no_more as none_besides}
use Rattle.scope_judging.proofs.Answered.{binds}
use Rattle.scope_judging.proofs.Under.{ready_bound}
use Rattle.signature_judging.specs.Rules.{signatures_of}
use Rattle.signature_judging.proofs.Kept.{binds_kept}
use Rattle.signature_judging.proofs.listing.signatures.Goals as goal

pub returns-clause-binds : goal.returns-clause-binds
returns-clause-binds c =
    binds_kept none_besides (signatures_of (declarations (map plain_declaration c.args.list.now))) c.args.scopes.now c.args.checker.now (record c.args.checker.now { types = c.signatures.new.types; messages = c.signatures.new.sharing }) c.signatures.new.names c.signatures.new.scope
    c.signatures.result c.signatures.ensures.scope
    (binds none_besides (signatures_of (declarations (map plain_declaration c.args.list.now))) c.args.scopes.now c.args.checker.now (record c.args.checker.now { types = c.signatures.new.types; messages = c.signatures.new.sharing }) c.signatures.new.names c.signatures.result
    c.requires refl c.signatures.ensures.judged)

pub returns-clause-ready : goal.returns-clause-ready
returns-clause-ready c = λ x q.
    ready_bound none_besides (signatures_of (declarations (map plain_declaration c.args.list.now))) c.args.scopes.now (record c.args.scopes.now { values = c.signatures.new.names; types = c.signatures.new.scope }) c.args.checker.now
    (record c.args.checker.now { types = c.signatures.new.types; messages = c.signatures.new.sharing }) c.signatures.result x
    (binds_kept none_besides (signatures_of (declarations (map plain_declaration c.args.list.now))) c.args.scopes.now c.args.checker.now (record c.args.checker.now { types = c.signatures.new.types; messages = c.signatures.new.sharing }) c.signatures.new.names c.signatures.new.scope
    c.signatures.result c.signatures.ensures.scope
    (binds none_besides (signatures_of (declarations (map plain_declaration c.args.list.now))) c.args.scopes.now c.args.checker.now (record c.args.checker.now { types = c.signatures.new.types; messages = c.signatures.new.sharing }) c.signatures.new.names c.signatures.result
    c.requires refl c.signatures.ensures.judged)) q
