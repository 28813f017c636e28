-- What events come to, computed: the items of each event, where each execution takes at most so many turns.
use Rattle.std.specs.Prelude.{ℕ, List, [], ◌∷◌, length, map, true, false, Option, Some, None, codes}
use Rattle.play_script.specs.declared.event.Event.{Event}
use Rattle.play_script.specs.declared.event.Event.TheVariants as event
use Rattle.play_script.specs.declared.item.Item.{Item}
use Rattle.play_script.specs.declared.item.Item.TheVariants as item
use Rattle.play_script.specs.declared.item.Word.TheVariants as word
use Rattle.mo_values.specs.Shapes.{Bytes}
use Rattle.mo_actor.specs.Computed.{Followed, ToItsEnd, followed}
use Rattle.mo_actor.specs.Measures.{first_memory}
use Rattle.mo_actor.specs.Programs as actor
use Rattle.mo_actor.specs.States.{ActorState, NoActor}
use Rattle.mo_actor.specs.Steps.{event_course}
use Rattle.typed_tree.specs.Programs.{Program}
use Rattle.mo_meaning.specs.Actor.{meaning}
use Rattle.mo_meaning.specs.ExampleTypes.{graph}
use Rattle.mo_meaning.specs.ExampleWeights.{example}
use Rattle.mo_meaning.specs.Kernel.{kernel}

-- the items of each event
abbrev pub Items : Type 0
Items = List (List Item)

-- the principal of the actor
abbrev pub own : Bytes
own = 0 ∷ 0 ∷ 0 ∷ 0 ∷ 0 ∷ 0 ∷ 0 ∷ 1 ∷ 1 ∷ 1 ∷ []

abbrev pub meant : Program → actor.Program kernel
meant p = meaning example (first_memory 1000 100) graph p

abbrev pub with_items : List Item → Option Items → Option Items
with_items items None = None
with_items items (Some others) = Some (items ∷ others)

abbrev pub behind_event : (ActorState kernel → Option Items) → Option (Followed (ActorState kernel)) → Option Items
behind_event go None = None
behind_event go (Some f) = with_items f.reached.items (go f.reached.next)

abbrev pub plays_from : ℕ → List (actor.Program kernel) → List Event → ActorState kernel → Option Items
plays_from n programs [] state = Some []
plays_from n programs (e ∷ events) state =
    behind_event (plays_from n programs events) (followed (event_course programs own e state) (ToItsEnd n ∷ ToItsEnd n ∷ []))

-- the first program is installed; then come the events
abbrev pub plays : ℕ → List Program → List Event → Option Items
plays n programs events = plays_from n (map meant programs) (event.Install 0 ∷ events) (NoActor 0 [])

-- ---- events

-- `DIDL`, and what follows
abbrev pub didl : Bytes → Bytes
didl bytes = 0x44 ∷ 0x49 ∷ 0x44 ∷ 0x4c ∷ bytes

abbrev pub empty : Bytes
empty = didl (0 ∷ 0 ∷ [])

abbrev pub caller : Bytes
caller = 4 ∷ []

abbrev pub calls_with : Bytes → Bytes → Event
calls_with name bytes = event.Call false name caller bytes

abbrev pub queries_with : Bytes → Bytes → Event
queries_with name bytes = event.Call true name caller bytes

abbrev pub calls : Bytes → Event
calls name = calls_with name empty

abbrev pub queries : Bytes → Event
queries name = queries_with name empty

-- a number below 128, and a text shorter than that
abbrev pub nat_message : ℕ → Bytes
nat_message n = didl (0 ∷ 1 ∷ 0x7d ∷ n ∷ [])

abbrev pub text_message : Bytes → Bytes
text_message t = didl (0 ∷ 1 ∷ 0x71 ∷ length t ∷ t)

-- ---- items

abbrev pub installed : List Item
installed = item.Installed ∷ []

abbrev pub trapped : Bytes → Item
trapped text = item.Trapped (word.Text text)

abbrev pub no_answer : ℕ → Item
no_answer n = item.Rejected n 5 (codes "no answer")

-- a trap in the execution of an incoming call that has no open call
abbrev pub trapped_call : ℕ → Bytes → List Item
trapped_call n text = trapped text ∷ no_answer n ∷ []

abbrev pub replied : ℕ → Bytes → List Item
replied n bytes = item.Replied n bytes ∷ []

-- a call to the management canister, whose principal is empty
abbrev pub called : ℕ → Bytes → List Item
called n name = item.Call n [] name empty ∷ []

-- a call to the actor itself, by which it goes on at an answered future
abbrev pub resumes : ℕ → List Item
resumes n = item.Call n own (codes "__resume") empty ∷ []
