-- That the cases in which a run ends exclude each other.
use Rattle.std.specs.Prelude.{◌≡◌, ◌⊎◌, ℕ, List, Some}
use Rattle.outer.specs.Causes.{Rose}
use Rattle.outer.specs.Names.{NameMap}
use Rattle.wasm_tree.specs.declared.rule.Rule.{Rule}
use Rattle.mo_play.specs.declared.judging.ModuleFault.TheVariants.{Valid}
use Rattle.mo_front.specs.declared.fault.FrontFault.{FrontFault}
use Rattle.mo_front.specs.Fronts.{Alike}
use Rattle.mo_command.specs.declared.status.Status.{Status}
use Rattle.mo_command.specs.declared.status.Status.TheVariants.{NoMemory, BadModule, NotAccepted}
use Rattle.mo_command.specs.Held.{Outside}
use Rattle.mo_command.specs.Ends.{Ends}

-- The words end so where names hold this, and no read, no write and no put fails.
pub record EndsUnfailed (words : List (List ℕ)) (held : NameMap) (status : Status) : Type 0 where
  pub old : Outside
  pub new : Outside
  pub told : old.names ≡ Some held
  pub reads : Rose old.reads new.reads → ⊥
  pub writes : Rose old.writes new.writes → ⊥
  pub puts : Rose old.puts new.puts → ⊥
  pub ends : Ends words old new status

-- The faults of one source: where its tokens have no tree, reading may stop at several places.
pub record AreFaults (status other : Status) : Type 0 where
  pub fault : FrontFault
  pub line : ℕ
  pub column : ℕ
  pub second : FrontFault
  pub row : ℕ
  pub place : ℕ
  pub alike : Alike fault second
  pub status_is : status ≡ NotAccepted fault line column
  pub other_is : other ≡ NotAccepted second row place

-- The two are one status, or say of one file that its module breaks a rule: where it breaks several, each may be named. Or they refuse one source.
abbrev pub AreAlike : Status → Status → Type 0
AreAlike status other =
    (status ≡ other) ⊎ ((number : ℕ) × (rule : Rule) × (second : Rule) × (status ≡ BadModule number (Valid rule)) × (other ≡ BadModule number (Valid second)))
    ⊎ AreFaults status other

-- The same words over the same files end with one status, where nothing fails and there is memory.
abbrev pub HasOneStatus : Type 0
HasOneStatus =
    (words : List (List ℕ)) → (held : NameMap) → (status other : Status) → EndsUnfailed words held status → EndsUnfailed words held other
    → (status ≡ NoMemory) ⊎ (other ≡ NoMemory) ⊎ AreAlike status other
