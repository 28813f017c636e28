-- Events that a host can hand to a module: IC interface specification, sections Principals, Call initiation and Reject codes.
use Rattle.std.specs.Prelude.{⊤, ℕ, ◌^◌, ◌<◌, ◌≤◌, List, length, IsUtf8}
use Rattle.std.specs.List.{AllByRecursion}
use Rattle.mo_num.specs.PrincipalText.{IsPrincipal}
use Rattle.play_script.specs.Events.{message_limit}
use Rattle.play_script.specs.declared.event.Event.{Event}
use Rattle.play_script.specs.declared.event.Event.TheVariants as event

abbrev pub AreBytes : List ℕ → Type 0
AreBytes bytes = AllByRecursion (λ b. b < 256) bytes

-- Bytes, and not too many.
pub record IsMessage (bytes : List ℕ) : Type 0 where
  pub short : length bytes ≤ message_limit
  pub bytewise : AreBytes bytes

-- The caller is a principal, messages are messages, and a reject has a code of 32 bits and a text.
abbrev pub IsSound : Event → Type 0
IsSound (event.Install number) = ⊤
IsSound (event.Call query name caller bytes) = IsPrincipal caller × IsMessage bytes
IsSound (event.Reply number bytes) = IsMessage bytes
IsSound (event.Reject number code text) = (code < 2 ^ 32) × IsMessage text × IsUtf8 text
IsSound (event.Upgrade number) = ⊤

-- The event comes in the life of a program, between its start and the next one's.
abbrev pub IsInLife : Event → Type 0
IsInLife (event.Install number) = ⊥
IsInLife (event.Call query name caller bytes) = ⊤
IsInLife (event.Reply number bytes) = ⊤
IsInLife (event.Reject number code text) = ⊤
IsInLife (event.Upgrade number) = ⊥
