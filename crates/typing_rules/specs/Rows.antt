-- Rows: programs with the answers that are wanted. Each stands as its abstract syntax, below its source; a fault's place is the number of a token there.
use Rattle.std.specs.Prelude.{ℕ, List, [], Option, Some, None, Ok, Err}
use Rattle.mo_types.specs.Sub.{Each}
use Rattle.typing_rules.specs.declared.condition.Condition.{Condition}
use Rattle.typing_rules.specs.AbstractSyntax.{Bytes, Named, Declarations, Program}
use Rattle.typing_rules.specs.Answers.{Fault, fault}
use Rattle.typing_rules.specs.TypedTrees.{Note}
use Rattle.typing_rules.specs.Programs.{Checks}

pub record Row : Type 0 where
  pub program : Program ℕ
  -- the condition that is false and its place; none where the program is typed
  pub fault : Option Fault

abbrev pub accepted : Program ℕ → Row
accepted program = record { program = program; fault = None }

abbrev pub refused : Condition → ℕ → Program ℕ → Row
refused c place program = record { program = program; fault = Some (fault c place) }

abbrev pub token : ℕ → Bytes → Named
token at x = record { at = at; bytes = x }

abbrev pub program : List (Bytes × Bytes) → Option Bytes → Declarations ℕ → Program ℕ
program imports name fields = record { imports = imports; name = name; fields = fields }

abbrev pub actor : Declarations ℕ → Program ℕ
actor fields = program [] None fields

-- it is typed, or this is its fault
abbrev pub IsAnswer : Program ℕ → Option Fault → Type 0
IsAnswer program None = (made : Program Note) × Checks program (Ok made)
IsAnswer program (Some f) = Checks program (Err f)

abbrev pub AreAnswered : List Row → Type 0
AreAnswered rows = Each (λ r. IsAnswer r.program r.fault) rows
