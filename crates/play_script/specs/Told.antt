-- What is told of one line.
use Rattle.std.specs.Prelude.{◌≡◌, ⊤, ℕ, ◌<◌, List, [], ◌∷◌, ◌++◌, Bool, true, false, Result, Ok, Err}
use Rattle.play_script.specs.Events.{message_limit, message_length, IsFit, NamesModuleBelow, IsNoInstall}
use Rattle.play_script.specs.Scripts.{verb_of, HasWords, IsInstall, AreGood, IsBad, IsTooLong, NamesNoModule, IsBeforeInstall}
use Rattle.play_script.specs.declared.event.Event.{Event}
use Rattle.play_script.specs.declared.verb.Verb.{Verb}
use Rattle.play_script.specs.declared.verb.Verb.TheVariants as verb
use Rattle.play_script.specs.declared.line.LineFault.{LineFault}
use Rattle.play_script.specs.declared.line.LineFault.TheVariants.{Bad, TooLong, NoModule, NotInstalled, Memory}

-- the event has this verb and these words
pub record IsSaid (v : Verb) (words : List (List ℕ)) (event : Event) : Type 0 where
  pub named : verb_of event ≡ v
  pub said : HasWords event words

-- the event that the words say, or that they say none
abbrev pub Said : Verb → List (List ℕ) → Result Event LineFault → Type 0
Said v words (Ok event) = IsSaid v words event
Said v words (Err Bad) = (event : Event) → IsSaid v words event → ⊥
Said v words (Err TooLong) = ⊥
Said v words (Err NoModule) = ⊥
Said v words (Err NotInstalled) = ⊥
Said v words (Err Memory) = ⊤

-- an install comes first, and no other event does
abbrev pub FitsPlace : Bool → Event → Type 0
FitsPlace true event = IsNoInstall event
FitsPlace false event = IsInstall event

pub record IsAdmitted (modules : ℕ) (begun : Bool) (event : Event) : Type 0 where
  pub fit : IsFit event
  pub below : NamesModuleBelow modules event
  pub place : FitsPlace begun event

pub record IsHomeless (modules : ℕ) (begun : Bool) (event : Event) : Type 0 where
  pub fit : IsFit event
  pub above : NamesModuleBelow modules event → ⊥
  pub once : IsInstall event → begun ≡ false

pub record IsEarly (modules : ℕ) (begun : Bool) (event : Event) : Type 0 where
  pub fit : IsFit event
  pub below : NamesModuleBelow modules event
  pub other : IsNoInstall event
  pub first : begun ≡ false

-- Says: how the line says an event
abbrev pub Told : (Event → Type 0) → ℕ → Bool → Result Event LineFault → Type 0
Told Says modules begun (Ok event) = Says event × IsAdmitted modules begun event
Told Says modules begun (Err Bad) = (event : Event) → Says event → IsInstall event × (begun ≡ true)
Told Says modules begun (Err TooLong) = (event : Event) × Says event × (message_limit < message_length event)
Told Says modules begun (Err NoModule) = (event : Event) × Says event × IsHomeless modules begun event
Told Says modules begun (Err NotInstalled) = (event : Event) × Says event × IsEarly modules begun event
Told Says modules begun (Err Memory) = ⊤

-- the verbs of events that name no module
abbrev pub NamesNone : Verb → Type 0
NamesNone verb.Install = ⊥
NamesNone verb.Call = ⊤
NamesNone verb.Query = ⊤
NamesNone verb.Reply = ⊤
NamesNone verb.Reject = ⊤
NamesNone verb.Upgrade = ⊥

-- What is told of a line behind good lines, whose events are old: how it offends, or that all are good now.
abbrev pub LineTold : {A : Type 0} → ℕ → List (List ℕ) → List ℕ → List Event → List Event → Result A LineFault → Type 0
LineTold modules lines line old new (Ok done) = AreGood modules (lines ++ line ∷ []) new
LineTold modules lines line old new (Err Bad) = IsBad old line
LineTold modules lines line old new (Err TooLong) = IsTooLong old line
LineTold modules lines line old new (Err NoModule) = NamesNoModule modules old line
LineTold modules lines line old new (Err NotInstalled) = IsBeforeInstall modules old line
LineTold modules lines line old new (Err Memory) = ⊤
