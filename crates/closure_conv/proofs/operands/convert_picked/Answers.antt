use Rattle.std.proofs.Common.{◌∙◌, ◌++◌, ◌∷◌, [], ap, sym, map, take}
use Rattle.core_ir.specs.CodeView.{seen_names}
use Rattle.core_ir.specs.ScopeNames.{scope_names}
use Rattle.core_laws.specs.Conversion.{seen_as}
use Rattle.core_laws.specs.Uses.{picked}
use Rattle.closure_conv.proofs.UseSets.{picked_more}
use Rattle.closure_conv.proofs.operands.convert_picked.Goals as goal

pub loop-place-preserved : goal.loop-place-preserved
loop-place-preserved c =
    let used = c.args.used.now in
    let seen = seen_names (scope_names c.args.scopes.now c.args.outermost.now) c.args.seen.now in
    c.in_ok-push.ensures.ok ∙ ap (λ ys. ys ++ c.in_ok-convert_operand.field-0 ∷ []) c.loop-place.invariant
    ∙ ap (λ x. map (seen_as used) (picked seen (take c.loop-place.place-index c.args.needs.now)) ++ x ∷ []) (c.in_ok-convert_operand.ensures ∙ ap (seen_as used) c.in_ok-operand.ensures)
    ∙ sym (picked_more used seen c.args.needs.now c.loop-place.place-index 0 c.loop-place-test.true)
