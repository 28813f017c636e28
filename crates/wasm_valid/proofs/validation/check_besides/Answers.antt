use Rattle.std.proofs.Common.{rules}
use Rattle.wasm_valid.specs.Verdict.{Passes}
use Rattle.wasm_valid.proofs.Besides.{besides_kept, besides_broken}
use Rattle.wasm_valid.proofs.validation.check_besides.Goals as goal

pub returns-in_err-check_parts : goal.returns-in_err-check_parts
returns-in_err-check_parts c =
    besides_broken c.args.tree.now c.args.indices.now c.check_parts.result c.in_err-check_parts.field-0.0 c.from_residual.result c.requires (c.check_parts.ensures Passes) (search rules) (search rules)

pub returns : goal.returns
returns c = besides_kept c.args.tree.now c.args.indices.now c.requires (c.in_ok-check_parts.ensures Passes) c.as_slice.result.now c.as_slice.ensures (c.in_ok-have_distinct_names.ensures.0 c.if-not-branch.false)
