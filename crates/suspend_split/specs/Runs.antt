-- What a split program does.
use Rattle.std.specs.Prelude.{ℕ}
use Rattle.core_ir.specs.Worlds.{Context}
use Rattle.core_ir.specs.Executions.{Entry}
use Rattle.core_ir.specs.Expressions.{Core}
use Rattle.core_ir.specs.CoreMachine as tree
use Rattle.core_ir.specs.CoreMachine.{core_machine}
use Rattle.core_ir.specs.Code.{CodeProgram}
use Rattle.core_ir.specs.CodeMachine as code
use Rattle.core_ir.specs.CodeMachine.{code_machine}
use Rattle.core_ir.specs.Formed.{FormedCore}
use Rattle.core_laws.specs.Carried.{Anew, Carries}
use Rattle.core_laws.specs.FormedSplits.{FormedSplit}
use Rattle.core_ir.specs.Nested.{Nested}

-- in an execution, and in each one behind it, it does what the program does, at no more than twice the weight and no greater depth
abbrev pub DoesWithinTwice : Core → CodeProgram → Type 0
DoesWithinTwice p q =
    Nested p → (executions : ℕ) (c : Context) (e : Entry tree.Waiting) (e' : Entry code.Waiting) → Anew e e' → Carries 2 (λ world. world) (core_machine p) (code_machine q) executions c e e'

-- of a formed program, of an actor with so many own names, it is a formed one, which does so
abbrev pub KeepsFormed : Core → CodeProgram → Type 0
KeepsFormed p q =
    (own : ℕ) → FormedCore own p
    → FormedSplit own q
    × ((executions : ℕ) (c : Context) (e : Entry tree.Waiting) (e' : Entry code.Waiting) → Anew e e' → Carries 2 (λ world. world) (core_machine p) (code_machine q) executions c e e')
