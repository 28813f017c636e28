use Rattle.program_fields.proofs.Coming.{all_there, no_list, own_not_met}
use Rattle.program_fields.proofs.fields.judge_all.Goals as goal

pub returns-in_err-_kind : goal.returns-in_err-_kind
returns-in_err-_kind c =
    no_list c.args.program.now c.as_slice.result.now c.as_slice.ensures c.args.scopes.now c.judge_listed.new.scopes c.args.checker.now c.judge_listed.new.checker c.in_err-_kind.field-0.0 c.from_residual.result c.from_residual.ensures
    c.in_err-_kind.ensures

pub meets_own-requires : goal.meets_own-requires
meets_own-requires c = c.in_ok-_kind.ensures.outcome.sound

pub returns-in_err-meets_own : goal.returns-in_err-meets_own
returns-in_err-meets_own c =
    own_not_met c.args.program.now c.as_slice.result.now c.as_slice.ensures c.args.scopes.now c.judge_listed.new.scopes c.args.checker.now c.judge_listed.new.checker c.in_ok-_kind.field-0 c.in_ok-_kind.ensures c.meets_own.new.checker
    c.in_err-meets_own.field-0.0 c.from_residual-in_err-meets_own.result c.from_residual-in_err-meets_own.ensures c.in_err-meets_own.ensures

pub returns : goal.returns
returns c =
    all_there c.args.program.now c.as_slice.result.now c.as_slice.ensures c.args.scopes.now c.judge_listed.new.scopes c.args.checker.now c.judge_listed.new.checker c.in_ok-_kind.field-0 c.in_ok-_kind.ensures c.meets_own.new.checker
    c.in_ok-meets_own.ensures
