-- Split programs that are formed.
use Rattle.std.specs.Prelude.{ℕ, ◌+◌, ◌*◌, ◌≤◌, ⊤, List, [], ◌∷◌, length}
use Rattle.core_ir.specs.Programs.{Group}
use Rattle.core_ir.specs.Code.{Body, CodeProgram, nodes_of}
use Rattle.core_ir.specs.Formed.{FormedCode}
use Rattle.core_laws.specs.Uses.{needs_of}

-- a group that is made pays for its functions and what they use of what it sees
abbrev pub PaidUses : List (List ℕ) → List (Group Body) → Type 0
PaidUses needs [] = ⊤
PaidUses [] (g ∷ gs) = (2 * length g.bodies ≤ 4 * (1 + nodes_of g.bodies)) × PaidUses [] gs
PaidUses (used ∷ needs) (g ∷ gs) = (2 * length g.bodies + length used ≤ 4 * (1 + nodes_of g.bodies)) × PaidUses needs gs

-- of an actor with so many own names
pub record FormedSplit (own : ℕ) (p : CodeProgram) : Type 0 where
  pub code : FormedCode own p
  pub paid : PaidUses (needs_of [] p.groups) p.groups
