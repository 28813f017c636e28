use Rattle.std.proofs.Common.{◌≡◌, ◌∙◌, ◌++◌, ◌∷◌, [], ◌+◌, ◌-◌, ◌*◌, suc, ap, sym, drop, pos, Some, length, map, take, subst, arith, List, ℕ, refl}
use Rattle.core_ir.specs.declared.code.Operand.{Operand}
use Rattle.low_ir.specs.Flat.{flat}
use Rattle.low_ir.specs.Tree.{Code}
use Rattle.flat_emission.specs.Emission as emission
use Rattle.body_lists.specs.Known.{here_of, link_of, plan_of}
use Rattle.wasm_tree.specs.declared.types.ValueType.TheVariants.{I64}
use Rattle.wasm_tree.specs.declared.op.BinaryOperator.TheVariants.{Add}
use Rattle.low_ir.specs.declared.op.LowOp.TheVariants as op
use Rattle.low_ir.specs.declared.op.Operand.TheVariants.{Local, Long}
use Rattle.low_ir.specs.declared.op.Operation.TheVariants.{Binary}
use Rattle.body_lists.proofs.Emitting.{none, behind, handle_more}
use Rattle.body_lists.proofs.code.push_handles.Goals as goal

pub loop-k-preserved : goal.loop-k-preserved
loop-k-preserved c =
    let k = c.loop-k.k in
    let t = c.args.to in
    behind c.push_handle.new.list c.loop-k.list (op.Set (emission.slot (t + k)) (Binary I64 Add (Local (emission.value_word (here_of c.args.here))) (Long (pos (8 * (2 * k))))) ∷ []) (flat (emission.handles (plan_of c.args.known.now) (link_of c.args.known.now) (here_of c.args.here) (t + (k + 1)) (k + 1) (c.args.count - (k + 1)))) c.in_ok-push_handle.ensures
    ∙ sym (ap (λ z. c.loop-k.list ++ flat z) (handle_more (plan_of c.args.known.now) (link_of c.args.known.now) (here_of c.args.here) t k c.args.count c.loop-k-test.true))
    ∙ c.loop-k.invariant

pub returns : goal.returns
returns c =
    let l = c.loop-k-test.false in
    none c.loop-k.list ∙ ap (λ n. c.loop-k.list ++ flat (emission.handles (plan_of c.args.known.now) (link_of c.args.known.now) (here_of c.args.here) (c.args.to + c.loop-k.k) c.loop-k.k n)) (let e : 0 ≡ c.args.count - c.loop-k.k = omega (arith, l) in e) ∙ c.loop-k.invariant
