use Rattle.std.proofs.Common.{◌≤◌, ◌∙◌, ◌++◌, length, map, ap, arith}
use Rattle.std.specs.Prelude.{reverse}
use Rattle.std.proofs.lemmas.List.{reverse-reverse}
use Rattle.core_ir.specs.View.{core_body}
use Rattle.typed_tree.specs.ProgramView as source
use Rattle.elaboration.specs.Programs.{methods_of}
use Rattle.mo_elab.proofs.Serving.{method_view, more_methods, no_more_methods}
use Rattle.mo_elab.proofs.methods.methods_of.Goals as goal

pub loop-method-init : goal.loop-method-init
loop-method-init c =
    let ms = map source.method c.args.methods.now in
    ap (λ m. map method_view m ++ methods_of ms (map core_body (reverse c.reverse.new.self.items))) c.new-made.ensures
    ∙ ap (λ bs. methods_of ms (map core_body bs)) (ap reverse (c.reverse.ensures.items ∙ ap reverse c.into_vec-rest.ensures) ∙ reverse-reverse c.args.bodies)

pub loop-method-preserved : goal.loop-method-preserved
loop-method-preserved c =
    more_methods c.args.methods.now c.loop-method.method-index c.method-item.result (methods_of (map source.method c.args.methods.now) (map core_body c.args.bodies)) (map core_body (reverse c.loop-method.rest.items))
    (map core_body (reverse c.next_body.new.rest.items)) c.loop-method.made c.push.new.self c.in_ok-body.body c.in_ok-with.with c.loop-method-test.true c.method-item.is c.in_ok-body.ensures c.in_ok-with.ensures c.in_ok-push.ensures.ok
    c.loop-method.invariant

pub returns : goal.returns
returns c =
    let past : length c.args.methods.now ≤ c.loop-method.method-index = omega arith in
    no_more_methods c.args.methods.now c.loop-method.method-index (methods_of (map source.method c.args.methods.now) (map core_body c.args.bodies)) (map core_body (reverse c.loop-method.rest.items)) c.loop-method.made c.push-2.new.self
    c.in_ok-resume.resume past c.in_ok-resume.ensures c.in_ok-push-2.ensures.ok c.loop-method.invariant
