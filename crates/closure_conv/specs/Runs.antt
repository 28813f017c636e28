-- What a converted program does.
use Rattle.std.specs.Prelude.{ℕ, []}
use Rattle.core_ir.specs.Worlds.{Context}
use Rattle.core_ir.specs.Executions.{Entry}
use Rattle.core_ir.specs.Code.{CodeProgram}
use Rattle.core_ir.specs.CodeMachine.{Waiting, code_machine}
use Rattle.core_ir.specs.Formed.{FormedFlat}
use Rattle.core_laws.specs.Carried.{Anew, Carries}
use Rattle.core_laws.specs.Converted.{Ordered, world_as}
use Rattle.core_laws.specs.FormedSplits.{FormedSplit}
use Rattle.core_laws.specs.Uses.{needs_of}

-- in an execution, and in each one behind it, it does what the program does, at its weight and depth
abbrev pub DoesTheSame : CodeProgram → CodeProgram → Type 0
DoesTheSame p q =
    Ordered p → (executions : ℕ) (c : Context) (e e' : Entry Waiting) → Anew e e' → Carries 1 (world_as (needs_of [] p.groups)) (code_machine p) (code_machine q) executions c e e'

-- of a formed program, of an actor with so many own names, it is a formed one whose groups pay for what they see, and does the same
abbrev pub KeepsFormed : CodeProgram → CodeProgram → Type 0
KeepsFormed p q =
    (own : ℕ) → FormedSplit own p
    → FormedFlat own q
    × ((executions : ℕ) (c : Context) (e e' : Entry Waiting) → Anew e e' → Carries 1 (world_as (needs_of [] p.groups)) (code_machine p) (code_machine q) executions c e e')
