use Rattle.std.proofs.Common.{◌∙◌, ap, sym}
use Rattle.std.proofs.lemmas.List.{drop_all}
use Rattle.core_ir.specs.Code.{Code}
use Rattle.core_ir.specs.CodeView.{Names, exit_code}
use Rattle.core_ir.specs.ScopeNames.{scope_names}
use Rattle.core_ir.proofs.CodeViews.{begun, code_is}
use Rattle.core_laws.specs.Uses.{uses}
use Rattle.closure_conv.proofs.using.+using.Goals as goal

pub use_code-returns : goal.use_code-returns
use_code-returns t c =
    let names : Names = scope_names c.args.scopes.now c.args.outermost.now in
    let last : Code = exit_code c.args.code.now.exit in
    let needs = c.args.needs.now in
    let d = drop_all c.loop-instruction.instruction-index c.as_slice-instruction-items.result.now c.loop-instruction-test.false in
    c.in_ok-use_exit.ensures needs
    ∙ sym (ap (λ is. uses needs (begun is names last) c.loop-instruction.used) d)
    ∙ c.loop-instruction.invariant
    ∙ ap (λ is. uses needs (begun is names last) c.args.used.now) c.as_slice-instruction-items.ensures
    ∙ ap (λ code. uses needs code c.args.used.now) (sym (code_is c.args.code.now names))
