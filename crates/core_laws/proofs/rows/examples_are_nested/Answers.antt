use Rattle.std.proofs.Common.{arith as arithmetic}
use Rattle.core_laws.proofs.rows.examples_are_nested.Goals as goal

pub returns : goal.returns
returns c = record { methods = (omega arithmetic, (omega arithmetic, (omega arithmetic, (omega arithmetic, (omega arithmetic, (omega arithmetic, (omega arithmetic, (omega arithmetic, (omega arithmetic, (omega arithmetic, (omega arithmetic, (omega arithmetic, (omega arithmetic, tt))))))))))))); save = omega arithmetic; start = omega arithmetic }
