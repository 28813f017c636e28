use Rattle.std.proofs.Common.{ℕ, ◌++◌, ◌∷◌, [], ◌∙◌, length, Some, arith}
use Rattle.std.specs.Int.{w32}
use Rattle.std.proofs.lemmas.Int.{to_z_pos}
use Rattle.wasm_tree.specs.declared.types.ValueType.TheVariants.{I32}
use Rattle.wasm_tree.specs.declared.op.BinaryOperator.TheVariants.{Add}
use Rattle.low_ir.specs.declared.op.LowOp.TheVariants as op
use Rattle.low_ir.specs.declared.op.Operand.TheVariants.{Local, Word}
use Rattle.low_ir.specs.declared.op.Operation.TheVariants.{Binary}
use Rattle.wire_messages.proofs.Flats.{reply_flat}
use Rattle.wire_messages.proofs.replies.reply.Goals as goal

pub returns : goal.returns
returns c =
    let n : ℕ = length c.args.header.now in
    let size = to_z_pos w32 n (omega (arith, c.requires.header)) in
    let stepped = c.in_ok-push.ensures.ok ∙ (λ i. c.push_header.new.ops ++ op.Set 0 (Binary I32 Add (Local 0) (Word (size i))) ∷ []) in
    let body = reply_flat c.args.first c.args.header.now c.args.types.now _ _ _ _ _ c.new-body.ensures c.in_ok-push_header.ensures stepped c.in_ok-push_values.ensures c.in_ok-push-2.ensures.ok in
    λ i. record { line = c.args.line; params = c.in_ok-copied.ensures i; locals = c.in_ok-copied-2.ensures i; result = Some I32; body = body i }
