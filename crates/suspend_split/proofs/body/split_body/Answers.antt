use Rattle.std.proofs.Common.{◌∙◌, ◌++◌, ◌∷◌, [], ap, map, length, None, arith}
use Rattle.core_laws.specs.Split.{code_or_stop}
use Rattle.suspend_split.specs.declared.draft.State.{State}
use Rattle.suspend_split.specs.Drafts.{segment_code}
use Rattle.suspend_split.proofs.Bodies.{body_is}
use Rattle.suspend_split.proofs.body.split_body.Goals as goal

pub returns : goal.returns
returns c =
    let sizes = c.args.sizes.now in
    let a : State = record { draft = c.new-5.result; segments = c.add.new.self; scopes = c.new-3.result; around = c.new-4.result } in
    body_is sizes c.args.functions c.args.sees c.args.body.now a c.split_expression.new.state c.fill.new.self c.in_ok-finish.field-0 c.in_ok-segments.segments c.in_ok-operand.operand c.place_of-target.result c.in_ok-free.free c.in_ok-first.first
    c.in_ok-slots.slots c.new-5.ensures (c.in_ok-first.ensures.added ∙ ap (λ xs. xs ++ None ∷ []) c.new-2.ensures) c.new-3.ensures c.new-4.ensures c.in_ok-operand.ensures c.place_of-target.ensures c.in_ok-free.ensures c.in_ok-split_expression.ensures
    (c.in_ok-first.ensures.number ∙ ap length c.new-2.ensures) c.fill.ensures c.in_ok-finish.ensures
    (λ names. c.in_ok-segments.ensures names ∙ ap (λ xs. map code_or_stop (map (segment_code names) xs)) c.into_vec.ensures)
    (let x = c.in_ok-slots.ensures in let y = c.in_ok-after.ensures in let z = c.in_ok-width.ensures in omega (arith, x, y, z))
