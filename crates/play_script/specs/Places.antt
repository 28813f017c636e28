-- Where a script spells an event.
use Rattle.std.specs.Prelude.{◌≡◌, ℕ, ◌+◌, List, take, slice_get, Some}
use Rattle.play_script.specs.declared.event.Event.{Event}
use Rattle.play_script.specs.Words.{lines_of}
use Rattle.play_script.specs.Scripts.{Spells, Spell}

-- The event with this index, counted from 0, stands on the line with this number, counted from 1; the lines before it
-- spell the events before it.
pub record IsLineOf (text : List ℕ) (events : List Event) (index number : ℕ) : Type 0 where
  pub place : ℕ
  pub counted : number ≡ place + 1
  pub line : List ℕ
  pub there : slice_get (lines_of text) place ≡ Some line
  pub event : Event
  pub is : slice_get events index ≡ Some event
  pub spelled : Spells event line
  pub before : Spell (take place (lines_of text)) (take index events)
