use Rattle.std.proofs.Common.{sym}
use Rattle.abstract_types.specs.PatternView.{plain}
use Rattle.abstract_types.specs.TypeView.{type_node}
use Rattle.type_scopes.specs.Scopes.{seen}
use Rattle.signatures.proofs.Annotations.{no_kind, place_is, wanted_kind, written_kind}
use Rattle.signatures.proofs.written.kind_of.Goals as goal

pub returns-in-Some-clause-judged : goal.returns-in-Some-clause-judged
returns-in-Some-clause-judged c = written_kind (seen c.args.scope.now) (plain c.args.pattern.now) c.args.wanted (type_node c.in-Some.written.now) c.args.types.now c.reads.new.types c.reads.new.sharing c.reads.result (sym c.in-Some.ensures) c.reads.ensures.judged

pub returns-in-Some-wanted-clause-judged : goal.returns-in-Some-wanted-clause-judged
returns-in-Some-wanted-clause-judged c = wanted_kind (seen c.args.scope.now) (plain c.args.pattern.now) c.args.wanted c.in-Some-wanted.kind c.args.types.now c.args.sharing.now (sym c.in-None.ensures) c.in-Some-wanted.is c.requires.ready

pub returns-in-None-wanted-clause-judged : goal.returns-in-None-wanted-clause-judged
returns-in-None-wanted-clause-judged c = no_kind (seen c.args.scope.now) (plain c.args.pattern.now) c.args.wanted c.args.pattern.now.note c.args.types.now (sym c.in-None.ensures) c.in-None-wanted.is (place_is c.args.pattern.now)
