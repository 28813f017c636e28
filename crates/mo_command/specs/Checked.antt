-- What `check` says of a source.
use Rattle.std.specs.Prelude.{◌≡◌, ◌≢◌, ◌⊎◌, ℕ, List, Option}
use Rattle.std.specs.Io.KnownBytes.{Appends}
use Rattle.outer.specs.Causes.{Rose}
use Rattle.outer.specs.Sinks.{AppendsPrefix}
use Rattle.typed_tree.specs.declared.program.Program.{Program}
use Rattle.typed_tree.specs.WellTyped.{WellTyped}
use Rattle.mo_command.specs.declared.status.Status.{Status}
use Rattle.mo_command.specs.declared.status.Status.TheVariants.{Done, Refused, Usage, ReadFault, WriteFault, NoMemory, BadScript, NotYet, BadModule, NoFile, NotAccepted}
use Rattle.mo_front.specs.declared.fault.FrontFault.{FrontFault}
use Rattle.mo_front.specs.declared.fault.FrontFault.TheVariants as fault
use Rattle.mo_front.specs.Fronts.{Accepted, RefusedBy}
use Rattle.mo_front.specs.Places.{IsAt, place_of}
use Rattle.mo_command.specs.Uncovered.{IsChecked}

-- it is accepted, and the program that it is written out to is well typed
abbrev pub IsTyped : List ℕ → Type 0
IsTyped source = (made : Program) × Accepted source made × WellTyped made

-- It is refused by this fault, which is on this line and in this column.
pub record IsFaultAt (f : FrontFault) (line column : ℕ) (source : List ℕ) : Type 0 where
  pub cause : f ≢ fault.Memory
  pub refused : RefusedBy source f
  pub at : IsAt source (place_of f) (line, column)

-- A prefix of the text of the lines was put, where the output tells what it holds.
abbrev pub HasBegun : List ℕ → Option (List ℕ) → Option (List ℕ) → Type 0
HasBegun source old new = (text : List ℕ) × IsChecked source text × AppendsPrefix old new text

-- how a check of a source's bytes ends, by what was on the output and the faults of it, before and after
abbrev pub Judges : List ℕ → Option (List ℕ) → Option (List ℕ) → ℕ → ℕ → Status → Type 0
Judges source old new before now Done = (text : List ℕ) × IsChecked source text × Appends old new text
Judges source old new before now (Refused number) = ⊥
Judges source old new before now Usage = ⊥
Judges source old new before now ReadFault = ⊥
Judges source old new before now WriteFault = HasBegun source old new × Rose before now
Judges source old new before now NoMemory = (new ≡ old) ⊎ HasBegun source old new
Judges source old new before now (BadScript fault) = ⊥
Judges source old new before now (NotYet line) = ⊥
Judges source old new before now (BadModule number fault) = ⊥
Judges source old new before now (NoFile place) = ⊥
Judges source old new before now (NotAccepted fault line column) = (new ≡ old) × IsFaultAt fault line column source
