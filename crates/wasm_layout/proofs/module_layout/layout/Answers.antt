use Rattle.std.proofs.Common.{subst}
use Rattle.wasm_layout.specs.Sizes.{IsSmall, IsTooLarge}
use Rattle.wasm_layout.proofs.Functions.{laid_out}
use Rattle.wasm_layout.proofs.module_layout.layout.Goals as goal

pub returns-in_ok-lay_module-in-Some-clause-laid : goal.returns-in_ok-lay_module-in-Some-clause-laid
returns-in_ok-lay_module-in-Some-clause-laid c =
    let small = subst IsSmall c.as_slice.ensures c.in-Some.ensures.1 in
    let l = c.in_ok-lay_module-in-Some in
    laid_out c.args.module.now c.requires l.field-0 small l.ensures.steps l.ensures.facts l.ensures.few

pub returns-in-None-clause-large : goal.returns-in-None-clause-large
returns-in-None-clause-large c = λ e. subst IsTooLarge c.as_slice.ensures c.in-None.ensures
