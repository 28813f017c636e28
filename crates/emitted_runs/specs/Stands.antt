-- How a run stands that had a weight, a depth and prints before.
use Rattle.std.specs.Prelude.{ℕ, ◌+◌, List, ◌++◌, max}
use Rattle.mo_values.specs.Shapes.{Bytes}
use Rattle.core_ir.specs.Executions.{Stand, Still, Over}

abbrev pub behind : {S W : Type 0} → (weight depth : ℕ) → List Bytes → Stand S W → Stand S W
behind weight depth prints (Still w d out world s) = Still (weight + w) (max depth d) (prints ++ out) world s
behind weight depth prints (Over w d out world end) = Over (weight + w) (max depth d) (prints ++ out) world end
