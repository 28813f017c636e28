-- The examples as an actor, over events: messages are lists of numbers.
use Rattle.std.specs.Prelude.{ℕ, List, [], ◌∷◌, length, map, false, Option, Some, None, codes}
use Rattle.play_script.specs.declared.event.Event.{Event}
use Rattle.play_script.specs.declared.event.Event.TheVariants as event
use Rattle.play_script.specs.declared.item.Item.{Item}
use Rattle.play_script.specs.declared.item.Item.TheVariants as item
use Rattle.mo_values.specs.Shapes.{Bytes}
use Rattle.mo_values.specs.Views.{natural_of}
use Rattle.mo_actor.specs.Computed.{Followed, ToItsEnd, followed}
use Rattle.mo_actor.specs.Languages.{Language}
use Rattle.mo_actor.specs.Programs as actor
use Rattle.mo_actor.specs.States.{ActorState, NoActor}
use Rattle.mo_actor.specs.Steps.{event_course}
use Rattle.core_ir.specs.Choices.{on_some}
use Rattle.core_ir.specs.Values.{Value, number}
use Rattle.core_ir.specs.Programs.{Program}
use Rattle.core_ir.specs.Executions.{Machine}
use Rattle.core_ir.specs.Messages.{Messages}
use Rattle.core_ir.specs.Actor.{actor_program}
use Rattle.core_ir.specs.Examples.{other}
use Rattle.core_ir.specs.Rows.{own}

-- ---- messages

abbrev pub numbers_in : List Value → Bytes
numbers_in [] = []
numbers_in (v ∷ vs) = on_some 0 (natural_of v) (λ n. n) ∷ numbers_in vs

abbrev pub lists : Messages (List Value)
lists = record {
  spell = λ types vs. Some (numbers_in vs);
  read = λ types bytes. Some (map number bytes);
  reading_cost = λ types bytes. record { weight = length bytes; depth = 0 };
  save = λ vs. Some (record { kept = vs; size = length vs });
  restore = λ vs. Some (map (λ v. Some v) vs);
  restoring_cost = λ vs. record { weight = length vs; depth = 0 };
}

-- ---- the items of each event, whose executions take at most so many turns

abbrev pub with_items : List Item → Option (List (List Item)) → Option (List (List Item))
with_items items None = None
with_items items (Some others) = Some (items ∷ others)

module _ {L : Language} where
  abbrev pub behind_event : (ActorState L → Option (List (List Item))) → Option (Followed (ActorState L)) → Option (List (List Item))
  behind_event go None = None
  behind_event go (Some f) = with_items f.reached.items (go f.reached.next)

  abbrev pub plays_from : ℕ → List (actor.Program L) → List Event → ActorState L → Option (List (List Item))
  plays_from n programs [] state = Some []
  plays_from n programs (e ∷ events) state = behind_event (plays_from n programs events) (followed (event_course programs own e state) (ToItsEnd n ∷ ToItsEnd n ∷ []))

abbrev pub plays : {S W B : Type 0} → Machine S W → Program B → List Event → Option (List (List Item))
plays m p events = plays_from 300 (actor_program m lists p 0 ∷ []) events (NoActor 0 [])

-- ---- the events

abbrev calls : Bytes → Bytes → Event
calls name bytes = event.Call false name (4 ∷ []) bytes

abbrev called : ℕ → Item
called n = item.Call n other (codes "g") []

abbrev pub day : List Event
day =
    event.Install 0 ∷ calls (codes "awaiting") [] ∷ event.Reply 0 (5 ∷ []) ∷ event.Reject 1 4 (codes "no") ∷ event.Reply 2 (30 ∷ [])
    ∷ calls (codes "again") [] ∷ event.Reply 3 (5 ∷ []) ∷ event.Reply 4 []
    ∷ event.Upgrade 0 ∷ calls (codes "sharing") (4 ∷ []) ∷ calls (codes "absent") [] ∷ []

-- a future that is awaited twice gives what it was filled with
abbrev pub wanted_day : Option (List (List Item))
wanted_day = Some (
    (item.Installed ∷ [])
    ∷ (called 0 ∷ [])
    ∷ (called 1 ∷ [])
    ∷ (item.Print (codes "no") ∷ called 2 ∷ [])
    ∷ (item.Print (codes "63") ∷ item.Replied 0 (63 ∷ []) ∷ [])
    ∷ (called 3 ∷ [])
    ∷ (item.Call 4 own (codes "__resume") [] ∷ [])
    ∷ (item.Replied 1 (10 ∷ []) ∷ [])
    ∷ (item.Upgraded ∷ [])
    ∷ (item.Print (codes "18") ∷ item.Replied 2 (103 ∷ []) ∷ [])
    ∷ (item.Rejected 3 5 (codes "no method") ∷ [])
    ∷ [])
