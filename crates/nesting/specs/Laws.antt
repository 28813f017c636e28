-- Where ends and labels count for one or for nothing, no more stands open than where both count.
use Rattle.std.specs.Prelude.{ℕ, ◌≤◌}
use Rattle.typed_tree.specs.Language.{Exp}
use Rattle.nesting.specs.Shapes.{pile}

abbrev pub PartsPileLess : Type 0
PartsPileLess = (ending opening : ℕ) → ending ≤ 1 → opening ≤ 1 → (e : Exp) → pile ending opening e ≤ pile 1 1 e
