use Rattle.program_rules.proofs.Deciding.{refused, typed, typed_in}
use Rattle.program_rules.proofs.programs.typed_fields.Goals as goal

pub returns-in_err-fields-clause-decided : goal.returns-in_err-fields-clause-decided
returns-in_err-fields-clause-decided c =
    refused c.args.program.now c.in_ok-has_few_nodes.ensures c.judge_fields.new.checker.types c.in_err-fields.field-0.0 c.from_residual-in_err-fields.result c.from_residual-in_err-fields.ensures c.in_err-fields.ensures.come

pub returns-clause-decided : goal.returns-clause-decided
returns-clause-decided c =
    typed c.args.program.now c.in_ok-has_few_nodes.ensures c.judge_fields.new.checker.types c.in_ok-fields.fields c.replace-types.result c.replace-types.ensures.value c.in_ok-fields.ensures.come

pub returns-clause-types : goal.returns-clause-types
returns-clause-types c =
    typed_in c.args.program.now c.in_ok-has_few_nodes.ensures c.judge_fields.new.checker.types c.in_ok-fields.fields c.replace-types.result c.replace-types.ensures.value c.in_ok-fields.ensures.come
