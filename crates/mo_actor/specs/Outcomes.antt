-- What an event comes to: the items that it gives, and the state behind it.
use Rattle.std.specs.Prelude.{ℕ, ◌+◌, List, [], ◌∷◌, ◌++◌, map, cond, codes}
use Rattle.play_script.specs.declared.item.Item.{Item}
use Rattle.play_script.specs.declared.item.Item.TheVariants as item
use Rattle.play_script.specs.declared.item.Word.{Word}
use Rattle.mo_actor.specs.Languages.{Language}
use Rattle.mo_actor.specs.Programs.{Replies, Rejects, OutgoingCall, Ending, Answers, Awaits, AwaitsNothing, Unchanged}
use Rattle.mo_actor.specs.States.{Actor, IsAnswered, with_activation, is_starved}

pub record Outcome (S : Type 0) : Type 0 where
  pub items : List Item
  pub next : S

abbrev pub outcome : {S : Type 0} → List Item → S → Outcome S
outcome items next = record { items = items; next = next }

-- The items of one event stand in this order: prints, calls, the answer or the trap, the rejection of a starved call.

abbrev pub print_items : List (List ℕ) → List Item
print_items prints = map item.Print prints

-- Prints stay, though what a trapped execution changed is undone.
abbrev pub trap_items : List (List ℕ) → Word → List Item
trap_items prints cause = print_items prints ++ item.Trapped cause ∷ []

module _ {L : Language} where
  -- The calls of an execution take the numbers from the table's next one on.
  abbrev pub call_items : (next : ℕ) → List (OutgoingCall L) → List Item
  call_items next [] = []
  call_items next (c ∷ calls) = item.Call next c.callee c.method c.argument ∷ call_items (next + 1) calls

  abbrev pub answer_items : (owner : ℕ) → Ending L → List Item
  answer_items owner (Answers (Replies bytes)) = item.Replied owner bytes ∷ []
  answer_items owner (Answers (Rejects code text)) = item.Rejected owner code text ∷ []
  answer_items owner (Awaits number waiting) = []
  answer_items owner AwaitsNothing = []
  answer_items owner Unchanged = []

  -- The incoming call is rejected, and counts as answered.
  abbrev pub rejected : (owner code : ℕ) → (text : List ℕ) → List Item → Actor L → Outcome (Actor L)
  rejected owner code text items a = outcome (items ++ item.Rejected owner code text ∷ []) (with_activation owner IsAnswered a)

  -- At the end of each execution its incoming call is rejected if it is starved: IC interface specification, section Call
  -- context starvation.
  abbrev pub close : (owner : ℕ) → List Item → Actor L → Outcome (Actor L)
  close owner items a = cond (is_starved owner a) (rejected owner 5 (codes "no answer") items a) (outcome items a)
