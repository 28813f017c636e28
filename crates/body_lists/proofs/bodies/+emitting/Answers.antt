use Rattle.std.proofs.Common.{◌≡◌, ◌∙◌, ◌++◌, ◌∷◌, [], ◌+◌, ap, sym, drop}
use Rattle.std.proofs.lemmas.List.{drop_all}
use Rattle.wasm_tree.specs.declared.op.Conversion.TheVariants.{Wrap}
use Rattle.wasm_tree.specs.declared.op.LoadKind.TheVariants as load
use Rattle.core_ir.specs.declared.code.Instruction.{Instruction}
use Rattle.core_ir.specs.declared.primitive.Constructor.TheVariants.{Present, Tagged}
use Rattle.core_ir.specs.Code as code
use Rattle.core_ir.specs.Code.{Code}
use Rattle.core_ir.specs.CodeView.{code_of, exit_code, instruction}
use Rattle.core_ir.proofs.CodeViews.{begun, begun_more, code_is}
use Rattle.low_ir.specs.declared.op.LowOp.TheVariants as op
use Rattle.low_ir.specs.declared.op.Operand.TheVariants.{Local}
use Rattle.low_ir.specs.declared.op.Operation.TheVariants.{Convert, Load}
use Rattle.low_ir.specs.Flat.{flat}
use Rattle.flat_emission.specs.Emission as emission
use Rattle.body_lists.specs.Known.{here_of, link_of, plan_of}
use Rattle.body_lists.proofs.Emitting.{construct, two_sides, opened_side}
use Rattle.body_lists.proofs.Views.{match_is, loop_is, label_is}
use Rattle.body_lists.proofs.bodies.+emitting.Goals as goal

pub push_code-loop-instruction-preserved : goal.push_code-loop-instruction-preserved
push_code-loop-instruction-preserved t c = λ names.
    let last : Code = exit_code c.args.code.now.exit in
    let is = c.as_slice-instruction-items.result.now in
    let n = c.loop-instruction.instruction-index in
    let rest : Code = begun (drop (n + 1) is) names last in
    c.in_ok-push_instruction.ensures names rest
    ∙ ap (λ (i : Instruction). c.loop-instruction.list ++ flat (emission.emit (plan_of c.args.known.now) (link_of c.args.known.now) (here_of c.args.here) (instruction i names rest))) c.instruction-item.is
    ∙ sym (ap (λ k. c.loop-instruction.list ++ flat (emission.emit (plan_of c.args.known.now) (link_of c.args.known.now) (here_of c.args.here) k)) (begun_more is n _ names last c.loop-instruction-test.true))
    ∙ c.loop-instruction.invariant names

pub push_code-returns : goal.push_code-returns
push_code-returns t c = λ names.
    let last : Code = exit_code c.args.code.now.exit in
    let d = drop_all c.loop-instruction.instruction-index c.as_slice-instruction-items.result.now c.loop-instruction-test.false in
    c.in_ok-push_exit.ensures
    ∙ sym (ap (λ is. c.loop-instruction.list ++ flat (emission.emit (plan_of c.args.known.now) (link_of c.args.known.now) (here_of c.args.here) (begun is names last))) d)
    ∙ c.loop-instruction.invariant names
    ∙ ap (λ is. c.args.list.now ++ flat (emission.emit (plan_of c.args.known.now) (link_of c.args.known.now) (here_of c.args.here) (begun is names last))) c.as_slice-instruction-items.ensures
    ∙ ap (λ k. c.args.list.now ++ flat (emission.emit (plan_of c.args.known.now) (link_of c.args.known.now) (here_of c.args.here) k)) (sym (code_is c.args.code.now names))

pub push_instruction-returns-in_ok-push_op-in-Present-2 : goal.push_instruction-returns-in_ok-push_op-in-Present-2
push_instruction-returns-in_ok-push_op-in-Present-2 t c = λ names k.
    let x = c.in-Match.operand in
    let y : Code = code_of c.in-Match.yes names in
    let n : Code = code_of c.in-Match.no names in
    let whole : instruction c.args.instruction.now names k ≡ code.Match c.in-Match.to Present x y n k =
    ap (λ i. instruction i names k) c.in-Match.is ∙ match_is c.in-Match.to c.in-Match.constructor x c.in-Match.yes c.in-Match.no names k
    ∙ ap (λ q. code.Match c.in-Match.to q x y n k) (sym c.get-in-Match.ensures ∙ c.in-Present.is) in
    opened_side c.push_present.new.list c.push_code-in-Present.new.list c.push_op-in-Present.new.list c.push_inside.new.list c.push_code-in-Present-2.new.list c.push_op-in-Present-2.new.list
    (flat (emission.emit (plan_of c.args.known.now) (link_of c.args.known.now) (here_of c.args.here) n)) (op.Set (emission.first_word (here_of c.args.here)) (Convert Wrap (emission.place (plan_of c.args.known.now) (link_of c.args.known.now) (here_of c.args.here) 0 x)) ∷ op.Set (emission.slot c.in-Match.to) (Load load.I64 (Local (emission.first_word (here_of c.args.here))) 0) ∷ []) (flat (emission.emit (plan_of c.args.known.now) (link_of c.args.known.now) (here_of c.args.here) y)) (flat (emission.emit (plan_of c.args.known.now) (link_of c.args.known.now) (here_of c.args.here) k))
    (c.in_ok-push_code-in-Present.ensures names) c.in_ok-push_op-in-Present.ensures c.in_ok-push_inside-in-Present.ensures (c.in_ok-push_code-in-Present-2.ensures names) c.in_ok-push_op-in-Present-2.ensures
    ∙ c.in_ok-push_present-in-Present.ensures c.in-Match.to (emission.emit (plan_of c.args.known.now) (link_of c.args.known.now) (here_of c.args.here) y) (emission.emit (plan_of c.args.known.now) (link_of c.args.known.now) (here_of c.args.here) n) (emission.emit (plan_of c.args.known.now) (link_of c.args.known.now) (here_of c.args.here) k)
    ∙ ap (λ i. c.args.list.now ++ flat (emission.emit (plan_of c.args.known.now) (link_of c.args.known.now) (here_of c.args.here) i)) (sym whole)

pub push_instruction-returns-in_ok-push_op-in-Tagged-2 : goal.push_instruction-returns-in_ok-push_op-in-Tagged-2
push_instruction-returns-in_ok-push_op-in-Tagged-2 t c = λ names k.
    let x = c.in-Match.operand in
    let y : Code = code_of c.in-Match.yes names in
    let n : Code = code_of c.in-Match.no names in
    let whole : instruction c.args.instruction.now names k ≡ code.Match c.in-Match.to (Tagged c.in-Tagged.label) x y n k =
    ap (λ i. instruction i names k) c.in-Match.is ∙ match_is c.in-Match.to c.in-Match.constructor x c.in-Match.yes c.in-Match.no names k
    ∙ ap (λ q. code.Match c.in-Match.to q x y n k) (sym c.get-in-Match.ensures ∙ c.in-Tagged.is) in
    two_sides c.push_tagged.new.list c.push_code-in-Tagged.new.list c.push_op-in-Tagged.new.list c.push_code-in-Tagged-2.new.list c.push_op-in-Tagged-2.new.list
    (flat (emission.emit (plan_of c.args.known.now) (link_of c.args.known.now) (here_of c.args.here) y)) (flat (emission.emit (plan_of c.args.known.now) (link_of c.args.known.now) (here_of c.args.here) n)) (flat (emission.emit (plan_of c.args.known.now) (link_of c.args.known.now) (here_of c.args.here) k))
    (c.in_ok-push_code-in-Tagged.ensures names) c.in_ok-push_op-in-Tagged.ensures (c.in_ok-push_code-in-Tagged-2.ensures names) c.in_ok-push_op-in-Tagged-2.ensures
    ∙ c.in_ok-push_tagged-in-Tagged.ensures (emission.emit (plan_of c.args.known.now) (link_of c.args.known.now) (here_of c.args.here) y) (emission.emit (plan_of c.args.known.now) (link_of c.args.known.now) (here_of c.args.here) n) (emission.emit (plan_of c.args.known.now) (link_of c.args.known.now) (here_of c.args.here) k)
    ∙ ap (λ l. c.args.list.now ++ flat (emission.emit (plan_of c.args.known.now) (link_of c.args.known.now) (here_of c.args.here) (code.Match c.in-Match.to (Tagged l) x y n k))) c.as_slice-in-Tagged.ensures
    ∙ ap (λ i. c.args.list.now ++ flat (emission.emit (plan_of c.args.known.now) (link_of c.args.known.now) (here_of c.args.here) i)) (sym whole)

pub push_instruction-returns-in_ok-push_op-in-Loop-2 : goal.push_instruction-returns-in_ok-push_op-in-Loop-2
push_instruction-returns-in_ok-push_op-in-Loop-2 t c = λ names k.
    let b : Code = code_of c.in-Loop.body names in
    construct c.push_op-in-Loop.new.list c.push_code-in-Loop.new.list c.push_op-in-Loop-2.new.list c.args.list.now op.Loop (flat (emission.emit (plan_of c.args.known.now) (link_of c.args.known.now) (here_of c.args.here) b)) (flat (emission.emit (plan_of c.args.known.now) (link_of c.args.known.now) (here_of c.args.here) k))
    c.in_ok-push_op-in-Loop.ensures (c.in_ok-push_code-in-Loop.ensures names) c.in_ok-push_op-in-Loop-2.ensures
    ∙ ap (λ i. c.args.list.now ++ flat (emission.emit (plan_of c.args.known.now) (link_of c.args.known.now) (here_of c.args.here) i)) (sym (ap (λ i. instruction i names k) c.in-Loop.is ∙ loop_is c.in-Loop.body names k))

pub push_instruction-returns-in_ok-push_op-in-Label-2 : goal.push_instruction-returns-in_ok-push_op-in-Label-2
push_instruction-returns-in_ok-push_op-in-Label-2 t c = λ names k.
    let b : Code = code_of c.in-Label.body names in
    construct c.push_op-in-Label.new.list c.push_code-in-Label.new.list c.push_op-in-Label-2.new.list c.args.list.now op.Block (flat (emission.emit (plan_of c.args.known.now) (link_of c.args.known.now) (here_of c.args.here) b)) (flat (emission.emit (plan_of c.args.known.now) (link_of c.args.known.now) (here_of c.args.here) k))
    c.in_ok-push_op-in-Label.ensures (c.in_ok-push_code-in-Label.ensures names) c.in_ok-push_op-in-Label-2.ensures
    ∙ ap (λ i. c.args.list.now ++ flat (emission.emit (plan_of c.args.known.now) (link_of c.args.known.now) (here_of c.args.here) i)) (sym (ap (λ i. instruction i names k) c.in-Label.is ∙ label_is c.in-Label.body names k))
