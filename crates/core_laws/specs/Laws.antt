-- What the passes between these languages keep.
use Rattle.std.specs.Prelude.{ℕ, List, []}
use Rattle.mo_values.specs.Shapes.{Bytes}
use Rattle.mo_actor.specs.Programs.{IsSettled}
use Rattle.core_ir.specs.Programs.{Program}
use Rattle.core_ir.specs.Worlds.{Context}
use Rattle.core_ir.specs.Executions.{Entry, Machine}
use Rattle.core_ir.specs.Expressions.{Core}
use Rattle.core_ir.specs.CoreMachine as tree
use Rattle.core_ir.specs.CoreMachine.{core_machine}
use Rattle.core_ir.specs.Code.{CodeProgram}
use Rattle.core_ir.specs.CodeMachine as code
use Rattle.core_ir.specs.CodeMachine.{code_machine}
use Rattle.core_ir.specs.Formed.{FormedCore, FormedFlat}
use Rattle.core_ir.specs.Messages.{Messages}
use Rattle.core_ir.specs.Actor.{actor_program}
use Rattle.core_laws.specs.Carried.{Anew, Carries}
use Rattle.core_laws.specs.Conversion.{convert_program}
use Rattle.core_laws.specs.Converted.{world_as, Ordered}
use Rattle.core_laws.specs.Followed.{Followed}
use Rattle.core_laws.specs.FormedSplits.{FormedSplit}
use Rattle.core_laws.specs.Makes.{MakesEarlier}
use Rattle.core_ir.specs.Nested.{Nested}
use Rattle.core_laws.specs.Split.{split_program}
use Rattle.core_laws.specs.Uses.{needs_of}

-- A split program does what the program does, at no more than twice the weight and no greater depth.
abbrev pub SplittingCarries : Type 0
SplittingCarries =
    (p : Core) → Nested p → (executions : ℕ) (c : Context) (e : Entry tree.Waiting) (e' : Entry code.Waiting) → Anew e e'
    → Carries 2 (λ world. world) (core_machine p) (code_machine (split_program p)) executions c e e'

-- A converted program does what the program does, at its weight and depth.
abbrev pub ConversionCarries : Type 0
ConversionCarries =
    (p : CodeProgram) → Ordered p → (executions : ℕ) (c : Context) (e e' : Entry code.Waiting) → Anew e e'
    → Carries 1 (world_as (needs_of [] p.groups)) (code_machine p) (code_machine (convert_program p)) executions c e e'

-- The actor of a split program follows that of the program: Kept is what an upgrade hands on.
abbrev pub SplittingFollows : Type 0 → Type 0
SplittingFollows Kept =
    (p : Core) → Nested p → (messages : Messages Kept) (own : Bytes) → Followed 2 (λ world. world) (core_machine p) (code_machine (split_program p)) messages p (split_program p) own

-- The actor of a converted program follows that of the program.
abbrev pub ConversionFollows : Type 0 → Type 0
ConversionFollows Kept =
    (p : CodeProgram) → Ordered p → (messages : Messages Kept) (own : Bytes)
    → Followed 1 (world_as (needs_of [] p.groups)) (code_machine p) (code_machine (convert_program p)) messages p (convert_program p) own

-- ---- both passes together

abbrev pub flattened : Core → CodeProgram
flattened p = convert_program (split_program p)

abbrev pub needed : Core → List (List ℕ)
needed p = needs_of [] (split_program p).groups

-- Nothing is asked but that methods, the save and the start nest no more than they have nodes, and that groups make groups before them
-- alone.
abbrev pub PassesCarry : Type 0
PassesCarry =
    (p : Core) → Nested p → MakesEarlier p → (executions : ℕ) (c : Context) (e : Entry tree.Waiting) (e' : Entry code.Waiting) → Anew e e'
    → Carries 2 (world_as (needed p)) (core_machine p) (code_machine (flattened p)) executions c e e'

abbrev pub PassesFollow : Type 0 → Type 0
PassesFollow Kept =
    (p : Core) → Nested p → MakesEarlier p → (messages : Messages Kept) (own : Bytes)
    → Followed 2 (world_as (needed p)) (core_machine p) (code_machine (flattened p)) messages p (flattened p) own

-- Formed programs, of actors with so many own names, are such programs.
abbrev pub FormedQualify : Type 0
FormedQualify = (own : ℕ) (p : Core) → FormedCore own p → Nested p × MakesEarlier p

-- ---- forms

-- Of a formed program splitting makes one, and of a formed split program conversion.
abbrev pub SplittingForms : Type 0
SplittingForms = (own : ℕ) (p : Core) → FormedCore own p → FormedSplit own (split_program p)

abbrev pub ConversionForms : Type 0
ConversionForms = (own : ℕ) (p : CodeProgram) → FormedSplit own p → FormedFlat own (convert_program p)

-- In formed split programs groups make groups before them alone, and the bodies that are entered use nothing that a group sees.
abbrev pub FormedOrder : Type 0
FormedOrder = (own : ℕ) (p : CodeProgram) → FormedSplit own p → Ordered p

-- Executions that have ended stay as they are, by any machine.
abbrev pub ProgramsSettle : (State Waiting Kept Body : Type 0) → Type 0
ProgramsSettle State Waiting Kept Body = (m : Machine State Waiting) (messages : Messages Kept) (p : Program Body) (first : ℕ) → IsSettled (actor_program m messages p first)
