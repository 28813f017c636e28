-- The routines of a run time, by their lines.
use Rattle.std.specs.Prelude.{◌≢◌, ℕ, List}
use Rattle.std.specs.List.{AllByRecursion}
use Rattle.low_ir.specs.declared.routines.Routine.{Routine}

-- No routine has this line.
abbrev pub IsNew : ℕ → List Routine → Type 0
IsNew line routines = AllByRecursion (λ r. r.line ≢ line) routines

-- No routine has the line of one of the others.
abbrev pub AreNew : List Routine → List Routine → Type 0
AreNew more routines = AllByRecursion (λ r. IsNew r.line routines) more
