-- One event of an actor, and a list of them.
use Rattle.std.specs.Prelude.{◌≡◌, ℕ, List, [], ◌∷◌, ◌++◌, length, slice_get, codes}
use Rattle.play_script.specs.declared.event.Event.{Event}
use Rattle.play_script.specs.declared.event.Event.TheVariants as event
use Rattle.play_script.specs.declared.item.Item.{Item}
use Rattle.play_script.specs.declared.item.Item.TheVariants as item
use Rattle.mo_types.specs.Calls.{call_at}
use Rattle.mo_actor.specs.Languages.{Language}
use Rattle.mo_actor.specs.Programs.{Program}
use Rattle.mo_actor.specs.Measures.{Measure}
use Rattle.mo_actor.specs.States.{IsAnswered, Actor, ActorState, NoActor, Running}
use Rattle.mo_actor.specs.Outcomes.{Outcome, outcome}
use Rattle.mo_actor.specs.Courses.{Course, Over, NoCourse, over_states, ComesTo}
use Rattle.mo_actor.specs.IncomingCalls.{call_course}
use Rattle.mo_actor.specs.CallAnswers.{Reply, Reject, answer_course}
use Rattle.mo_actor.specs.Upgrades.{install_course, upgrade_course}

module _ {L : Language} where
  -- An event in the life of one program: a call, or the answer to a call.
  abbrev pub life_course : Program L → (own : List ℕ) → Event → Actor L → Course (Actor L)
  life_course p own (event.Install number) a = NoCourse
  life_course p own (event.Call query name caller bytes) a = call_course p own a query name caller bytes
  life_course p own (event.Reply number bytes) a = answer_course p own a number (Reply bytes) (call_at a.table number)
  life_course p own (event.Reject number code text) a = answer_course p own a number (Reject code text) (call_at a.table number)
  life_course p own (event.Upgrade number) a = NoCourse

  abbrev pub in_life : Program L → (own : List ℕ) → Event → Actor L → Course (ActorState L)
  in_life p own e a = over_states (Running p) (life_course p own e a)

  -- The course of any event. Events name programs by their numbers. Of an installation over an actor nothing is said.
  abbrev pub event_course : List (Program L) → (own : List ℕ) → Event → ActorState L → Course (ActorState L)
  event_course programs own (event.Install number) (NoActor made activations) = install_course own made activations (slice_get programs number)
  event_course programs own (event.Call query name caller bytes) (NoActor made activations) =
      Over (outcome (item.Rejected (length activations) 3 (codes "no canister") ∷ []) (NoActor made (activations ++ IsAnswered ∷ [])))
  event_course programs own (event.Reply number bytes) (NoActor made activations) = Over (outcome (item.Ignored ∷ []) (NoActor made activations))
  event_course programs own (event.Reject number code text) (NoActor made activations) = Over (outcome (item.Ignored ∷ []) (NoActor made activations))
  event_course programs own (event.Upgrade number) (NoActor made activations) = Over (outcome (item.Ignored ∷ []) (NoActor made activations))
  event_course programs own (event.Install number) (Running p a) = NoCourse
  event_course programs own (event.Call query name caller bytes) (Running p a) = in_life p own (event.Call query name caller bytes) a
  event_course programs own (event.Reply number bytes) (Running p a) = in_life p own (event.Reply number bytes) a
  event_course programs own (event.Reject number code text) (Running p a) = in_life p own (event.Reject number code text) a
  event_course programs own (event.Upgrade number) (Running p a) = upgrade_course own p a (slice_get programs number)

  module _ (pays : Measure) where
    -- One event of an actor with this program.
    abbrev pub LifeStep : Program L → (own : List ℕ) → Event → Actor L → Outcome (Actor L) → Type 0
    LifeStep p own e a reached = ComesTo pays (life_course p own e a) reached

    -- One event: these are its items, and the state behind it.
    abbrev pub Step : List (Program L) → (own : List ℕ) → Event → ActorState L → Outcome (ActorState L) → Type 0
    Step programs own e state reached = ComesTo pays (event_course programs own e state) reached

    -- The items of the events in turn, from this state on.
    abbrev pub RunsFrom : List (Program L) → (own : List ℕ) → ActorState L → List Event → List Item → Type 0
    RunsFrom programs own state [] items = items ≡ []
    RunsFrom programs own state (e ∷ events) items =
        (reached : Outcome (ActorState L)) × Step programs own e state reached
        × (others : List Item) × (items ≡ reached.items ++ others) × RunsFrom programs own reached.next events others

    -- The whole run: from no actor and no calls.
    abbrev pub ActorRun : List (Program L) → (own : List ℕ) → List Event → List Item → Type 0
    ActorRun programs own events items = RunsFrom programs own (NoActor 0 []) events items
