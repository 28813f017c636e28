-- The worlds of converted programs, and programs whose groups use what groups before them use.
use Rattle.std.specs.Prelude.{◌≡◌, ℕ, List, [], map, Some, slice_get}
use Rattle.mo_values.specs.Shapes.{unit}
use Rattle.core_ir.specs.Choices.{nth}
use Rattle.core_ir.specs.Programs.{Method}
use Rattle.core_ir.specs.Worlds.{MadeGroup, World}
use Rattle.core_ir.specs.Code.{Body, CodeProgram}
use Rattle.core_laws.specs.Uses.{uses_segments, needs_of}
use Rattle.core_laws.specs.Earlier.{EarlierGroups}

-- needs tells of each group which of the values that it sees are used
module _ (needs : List (List ℕ)) where
  abbrev pub need : ℕ → List ℕ
  need k = nth [] needs k

  -- a group sees what it uses alone
  abbrev pub made_as : MadeGroup → MadeGroup
  made_as m = record { code = m.code; seen = map (nth unit m.seen) (need m.code) }

  abbrev pub world_as : World → World
  world_as w = record { store = w.store; groups = map made_as w.groups; requests = w.requests }

-- the bodies that are entered use nothing that a group sees
pub record Ordered (p : CodeProgram) : Type 0 where
  pub groups : EarlierGroups 0 p.groups
  pub methods : (m : ℕ) (x : Method Body) → slice_get p.methods m ≡ Some x → uses_segments (needs_of [] p.groups) x.body.segments [] ≡ []
  pub save : uses_segments (needs_of [] p.groups) p.save.segments [] ≡ []
  pub start : uses_segments (needs_of [] p.groups) p.start.segments [] ≡ []
