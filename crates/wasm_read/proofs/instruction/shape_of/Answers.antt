use Rattle.std.proofs.Common.{arith, sym, ap}
use Rattle.std.proofs.lemmas.Option.{slice_get-get_or}
use Rattle.wasm_tree.specs.declared.op.Op.TheVariants as op
use Rattle.wasm_tree.specs.declared.op.Plain.TheVariants as plain
use Rattle.wasm_read.specs.Shapes.{shapes, shape_at, shape_of}
use Rattle.wasm_read.specs.declared.shape.Shape.TheVariants as shape
use Rattle.wasm_read.proofs.instruction.shape_of.Goals as goal

pub returns : goal.returns
unfolding shape_at
returns c = sym (ap shape_of (slice_get-get_or shapes c.args.byte (shape.Whole (op.Plain plain.Nop)) (omega arith)))
