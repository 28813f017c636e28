-- What is put of events, where the sink tells what it holds.
use Rattle.std.specs.Prelude.{◌≡◌, ℕ, List, [], ◌∷◌, Bool, true, false, Option}
use Rattle.std.specs.Io.KnownBytes.{Appends}
use Rattle.play_script.specs.declared.event.Event.{Event}
use Rattle.play_script.specs.declared.item.Item.{Item}
use Rattle.play_script.specs.Items.{ItemsText}
use Rattle.typed_tree.specs.declared.program.Program.{Program as Written}
use Rattle.stepper.specs.declared.state.State.TheVariants as state
use Rattle.stepper.specs.declared.state.Stepped.TheVariants as stepped
use Rattle.stepper.specs.declared.state.Stepper.{Stepper}
use Rattle.stepper.specs.Stepping.{IsStep}
use Rattle.stepper.specs.Runs.{Steps}

-- the principal of the actor that is played
abbrev pub own_principal : List ℕ
own_principal = 0 ∷ 0 ∷ 0 ∷ 0 ∷ 0 ∷ 0 ∷ 0 ∷ 1 ∷ 1 ∷ 1 ∷ []

-- the lines of these items were put
abbrev pub ArePut : List Item → Option (List ℕ) → Option (List ℕ) → Type 0
ArePut items old new = (text : List ℕ) × ItemsText items text × Appends old new text

-- an event within so many turns; where others may come, the lines of its items were put
abbrev pub IsPlayed : Event → (turns : ℕ) → (x y : Stepper) → (goes_on : Bool) → Option (List ℕ) → Option (List ℕ) → Type 0
IsPlayed e n x y true old new = (items : List Item) × IsStep e n x y (stepped.Items items) × ArePut items old new
IsPlayed e n x y false old new = Unit {0}

-- no actor yet, and no calls
pub record IsFirst (ps : List Written) (x : Stepper) : Type 0 where
  pub programs : x.programs.now ≡ ps
  pub own : x.own.now ≡ own_principal
  pub state : x.state ≡ state.NoActor 0

-- all events: the lines of the items of a stepper that begins so
abbrev pub ArePlayed : List Written → List Event → (whole : Bool) → Option (List ℕ) → Option (List ℕ) → Type 0
ArePlayed ps es true old new = (x : Stepper) × IsFirst ps x × (items : List Item) × Steps x es items × ArePut items old new
ArePlayed ps es false old new = Unit {0}
