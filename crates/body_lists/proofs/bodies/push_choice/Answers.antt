use Rattle.std.proofs.Common.{◌≡◌, ◌∙◌, ◌++◌, ◌∷◌, [], ◌+◌, ◌-◌, ◌*◌, suc, ap, sym, drop, pos, Some, length, map, take, subst, arith, List, ℕ, refl}
use Rattle.core_ir.specs.declared.code.Operand.{Operand}
use Rattle.low_ir.specs.Flat.{flat}
use Rattle.low_ir.specs.Tree.{Code}
use Rattle.flat_emission.specs.Emission as emission
use Rattle.body_lists.specs.Known.{here_of, link_of, plan_of}
use Rattle.wasm_tree.specs.declared.types.ValueType.TheVariants.{I64}
use Rattle.wasm_tree.specs.declared.op.Comparison.TheVariants.{Eq}
use Rattle.wasm_tree.specs.declared.op.Conversion.TheVariants.{Wrap}
use Rattle.wasm_tree.specs.declared.op.LoadKind.TheVariants as load
use Rattle.core_ir.specs.declared.primitive.Constructor.TheVariants.{Present, Tagged}
use Rattle.mo_types.specs.Label.{label_id}
use Rattle.low_ir.specs.declared.op.LowOp.TheVariants as op
use Rattle.low_ir.specs.declared.op.Operand.TheVariants.{Local, Long}
use Rattle.low_ir.specs.declared.op.Operation.TheVariants.{Compare, Convert, IsZero, Load}
use Rattle.low_ir.specs.Tree.{If, Set}
use Rattle.body_lists.proofs.Emitting.{behind, readied_is}
use Rattle.body_lists.proofs.bodies.push_choice.Goals as goal

pub returns : goal.returns
returns c = λ y n k.
    let chosen : Code = Set (emission.first_word (here_of c.args.here)) (Convert Wrap (Local (emission.value_word (here_of c.args.here)))) (If (Local (emission.first_word (here_of c.args.here))) y n k) in
    behind c.push_branch.new.list c.push_operated.new.list (op.Set (emission.first_word (here_of c.args.here)) (Convert Wrap (Local (emission.value_word (here_of c.args.here)))) ∷ op.If (Local (emission.first_word (here_of c.args.here))) ∷ []) (flat y ++ op.Else ∷ (flat n ++ op.End ∷ flat k)) c.in_ok-push_branch.ensures
    ∙ c.in_ok-push_operated.ensures chosen
    ∙ ap (λ v. c.args.list.now ++ flat (emission.operated (plan_of c.args.known.now) (link_of c.args.known.now) (here_of c.args.here) v c.args.primitive.now c.args.operands.now chosen)) c.in_ok-value.ensures
