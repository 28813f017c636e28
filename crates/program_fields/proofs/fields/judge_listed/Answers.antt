use Rattle.program_fields.proofs.Coming.{listed_then, not_listed, ready_first}
use Rattle.program_fields.proofs.fields.judge_listed.Goals as goal

pub judge_list-requires : goal.judge_list-requires
judge_list-requires c =
    ready_first c.args.scopes.now c.args.scopes.now c.args.checker.now c.meets_basics.new.checker c.args.fields.now c.first_site.result c.first_site.ensures (c.in_ok-meets_basics.ensures c.args.scopes.now c.requires)

pub returns-in_err-meets_basics : goal.returns-in_err-meets_basics
returns-in_err-meets_basics c =
    not_listed c.args.scopes.now c.args.scopes.now c.args.checker.now c.meets_basics.new.checker c.args.fields.now c.in_err-meets_basics.field-0.0 c.from_residual.result c.from_residual.ensures
    (c.in_err-meets_basics.ensures c.args.scopes.now c.requires)

pub returns : goal.returns
returns c =
    listed_then c.args.scopes.now c.judge_list.new.scopes c.args.checker.now c.meets_basics.new.checker c.args.fields.now c.judge_list.new.checker c.first_site.result c.judge_list.result c.first_site.ensures
    (c.in_ok-meets_basics.ensures c.args.scopes.now c.requires) c.judge_list.ensures
