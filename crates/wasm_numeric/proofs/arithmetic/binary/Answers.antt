use Rattle.std.proofs.Common.{◌∙◌}
use Rattle.wasm_numeric.proofs.Low.{binary-low}
use Rattle.wasm_numeric.proofs.arithmetic.binary.Goals as goal

pub returns-in-I32 : goal.returns-in-I32
returns-in-I32 c = c.binary32.ensures ∙ (rw (c.in-I32.is, c.low32.ensures, c.low32-in-I32.ensures) (binary-low c.args.operator c.args.x c.args.y))
