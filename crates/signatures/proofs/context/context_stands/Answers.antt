use Rattle.abstract_types.specs.PatternView.{plain}
use Rattle.type_scopes.specs.Scopes.{seen}
use Rattle.proper_types.proofs.Judging.{ready_on}
use Rattle.typed_patterns.specs.Making.{pattern_in}
use Rattle.typed_patterns.proofs.Joining.{handed_on}
use Rattle.signatures.specs.Taking.{context_stands}
use Rattle.signatures.proofs.Steps.{caller_met, caller_not_met, met, not_met}
use Rattle.signatures.proofs.context.context_stands.Goals as goal

pub returns-in_err-meets : goal.returns-in_err-meets
returns-in_err-meets c =
    handed_on (context_stands (seen c.args.scope.now) (plain c.args.pattern.now)) c.args.types.now c.meets.new.types c.args.sharing.now c.args.names.now c.args.names.now pattern_in c.in_err-meets.field-0.0 c.from_residual-in_err-meets.result c.from_residual-in_err-meets.ensures
    (caller_not_met (seen c.args.scope.now) (plain c.args.pattern.now) c.args.types.now c.context.new.types c.in_ok-kind.kind c.in_ok-kind.ensures c.meets.new.types c.args.sharing.now c.args.sharing.now c.args.names.now c.args.names.now pattern_in c.in_err-meets.field-0.0 (not_met c.context.new.types c.meets.new.types c.args.sharing.now c.in_ok-kind.kind c.in_err-meets.field-0.0 c.in_err-meets.ensures.left c.in_err-meets.ensures.judged))

pub returns : goal.returns
returns c =
    caller_met (seen c.args.scope.now) (plain c.args.pattern.now) c.args.types.now c.context.new.types c.in_ok-kind.kind c.in_ok-kind.ensures c.meets.new.types c.stands.new.types c.args.sharing.now c.stands.new.sharing c.args.names.now c.stands.new.names pattern_in c.stands.result
    (met c.context.new.types c.meets.new.types c.args.sharing.now c.in_ok-kind.kind (ready_on c.args.types.now c.context.new.types c.args.sharing.now c.requires c.in_ok-kind.ensures.same.kept c.in_ok-kind.ensures.same.goes) c.in_ok-meets.ensures.kept c.in_ok-meets.ensures.goes c.in_ok-meets.ensures.judged) c.stands.ensures
