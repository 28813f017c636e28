use Rattle.std.proofs.Common.{◌∙◌, ap, map, take, sym, ◌++◌, ◌∷◌, []}
use Rattle.std.proofs.lemmas.List.{take_all, map_push, map_more}
use Rattle.core_ir.specs.declared.code.CodeBody.{CodeBody}
use Rattle.core_ir.specs.declared.program.Method.{Method as MethodTree}
use Rattle.core_ir.specs.CodeView.{code_body}
use Rattle.core_laws.specs.Conversion.{convert_method, convert_body}
use Rattle.closure_conv.specs.Parts.{method_view}
use Rattle.closure_conv.proofs.Programs.{map_twice, method_is}
use Rattle.closure_conv.proofs.program.convert_methods.Goals as goal

pub loop-method-preserved : goal.loop-method-preserved
loop-method-preserved c =
    let needs = c.args.needs.now in
    let ms = c.args.methods.now in
    let m = c.method-item.result in
    let b = c.in_ok-convert_body.field-0 in
    let is = method_is needs c.in_ok-share.field-0 c.in_ok-share-2.field-0 b m c.in_ok-share.ensures c.in_ok-share-2.ensures (c.in_ok-convert_body.ensures 0 0 ∙ ap (λ used. convert_body needs used (code_body 0 0 m.body)) c.new-none.ensures) in
    let x : MethodTree CodeBody = record { name = c.in_ok-share.field-0; query = m.query; signature = c.in_ok-share-2.field-0; body = b } in
    ap (map method_view) c.in_ok-push.ensures.ok ∙ map_push method_view c.loop-method.made x ∙ ap (λ ys. ys ++ method_view x ∷ []) c.loop-method.invariant
    ∙ ap (λ y. map (λ m. convert_method needs (method_view m)) (take c.loop-method.method-index ms) ++ y ∷ []) (is ∙ ap (λ m. convert_method needs (method_view m)) c.method-item.is)
    ∙ sym (map_more (λ m. convert_method needs (method_view m)) ms c.loop-method.method-index _ c.loop-method-test.true)

pub returns : goal.returns
returns c =
    let needs = c.args.needs.now in
    c.loop-method.invariant
    ∙ ap (map (λ m. convert_method needs (method_view m))) (take_all c.loop-method.method-index c.args.methods.now c.loop-method-test.false)
    ∙ map_twice method_view (convert_method needs) c.args.methods.now
