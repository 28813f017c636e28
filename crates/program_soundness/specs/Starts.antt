-- Starts of programs, and what they are typed with: no calls are under way, and none may be made (Motoko language manual, sections "Actors" and "Stable
-- variables").
use Rattle.std.specs.Prelude.{false, Option, Some, None}
use Rattle.mo_types.specs.Graph.{Slot}
use Rattle.std.specs.Prelude.{List}
use Rattle.typed_tree.specs.declared.program.Program.{Program}
use Rattle.typed_tree.specs.Language.{Exp}
use Rattle.mo_meaning.specs.Kernel.{Kept}
use Rattle.mo_soundness.specs.Running.{AnswerTypes}
use Rattle.program_soundness.specs.Runs.{Fitting}
use Rattle.program_soundness.specs.Starting.{IsInstalling, IsUpgrading}

abbrev pub quiet : AnswerTypes
quiet = record { types = λ n. None; may_call = false }

-- a start that is an installation, or one behind an upgrade
abbrev pub IsStarting : List Slot → Program → Option Kept → Fitting Exp
IsStarting types p None = IsInstalling types p
IsStarting types p (Some kept) = IsUpgrading types p
