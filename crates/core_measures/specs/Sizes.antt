-- How many functions groups have.
use Rattle.std.specs.Prelude.{ℕ, List, length, map}
use Rattle.core_ir.specs.Choices.{nth}
use Rattle.core_ir.specs.declared.expression.CoreBody.{CoreBody}
use Rattle.core_ir.specs.declared.program.Group.{Group}

abbrev pub size_of : List ℕ → ℕ → ℕ
size_of sizes k = nth 0 sizes k

abbrev pub sizes_of : List (Group CoreBody) → List ℕ
sizes_of groups = map (λ (g : Group CoreBody). length g.bodies) groups
