-- Which events a canister or an actor may be given.
use Rattle.std.specs.Prelude.{⊤, ℕ, ◌<◌, ◌≤◌, List, length, drop, All, IsUtf8}
use Rattle.play_script.specs.declared.event.Event.{Event}
use Rattle.play_script.specs.declared.event.Event.TheVariants.{Install, Call, Reply, Reject, Upgrade}

-- the most bytes of an argument, of a reply or of a reject's text
abbrev pub message_limit : ℕ
message_limit = 2097152

-- the event's bytes or its reject's text are not too long, and a reject's text is UTF-8
abbrev pub IsFit : Event → Type 0
IsFit (Install number) = ⊤
IsFit (Call query method caller bytes) = length bytes ≤ message_limit
IsFit (Reply number bytes) = length bytes ≤ message_limit
IsFit (Reject number code text) = (length text ≤ message_limit) × IsUtf8 text
IsFit (Upgrade number) = ⊤

-- how many bytes the event's message has
abbrev pub message_length : Event → ℕ
message_length (Install number) = 0
message_length (Call query method caller bytes) = length bytes
message_length (Reply number bytes) = length bytes
message_length (Reject number code text) = length text
message_length (Upgrade number) = 0

-- the module that the event names, if it names one, is among so many
abbrev pub NamesModuleBelow : ℕ → Event → Type 0
NamesModuleBelow count (Install number) = number < count
NamesModuleBelow count (Call query method caller bytes) = ⊤
NamesModuleBelow count (Reply number bytes) = ⊤
NamesModuleBelow count (Reject number code text) = ⊤
NamesModuleBelow count (Upgrade number) = number < count

abbrev pub IsNoInstall : Event → Type 0
IsNoInstall (Install number) = ⊥
IsNoInstall (Call query method caller bytes) = ⊤
IsNoInstall (Reply number bytes) = ⊤
IsNoInstall (Reject number code text) = ⊤
IsNoInstall (Upgrade number) = ⊤

-- the events suit a list of so many modules: each number of a module is below that count, and an install
-- stands only as the first event
pub record Suits (count : ℕ) (events : List Event) : Type 0 where
  pub below : All (NamesModuleBelow count) events
  pub first : All IsNoInstall (drop 1 events)
