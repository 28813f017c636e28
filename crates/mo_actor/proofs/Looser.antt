-- A run by a stricter measure is one by a looser one.
use Rattle.std.proofs.Common.{ℕ, List, [], ◌∷◌}
use Rattle.play_script.specs.declared.event.Event.{Event}
use Rattle.play_script.specs.declared.item.Item.{Item}
use Rattle.mo_actor.specs.Languages.{Language}
use Rattle.mo_actor.specs.Executions.{Execution}
use Rattle.mo_actor.specs.Programs.{Program}
use Rattle.mo_actor.specs.Measures.{Exhaustion, Measure}
use Rattle.mo_actor.specs.Results.{Result, Completed, Trapped, Exhausted, HasResult, exhaustion}
use Rattle.mo_actor.specs.States.{ActorState, NoActor}
use Rattle.mo_actor.specs.Outcomes.{Outcome}
use Rattle.mo_actor.specs.Courses.{Course, Over, Runs, NoCourse, ComesTo}
use Rattle.mo_actor.specs.Steps.{event_course, RunsFrom, ActorRun}

module _ (strict loose : Measure) (weaker : (e : Exhaustion) → strict e → loose e) where
  pub looser_result : {A : Type 0} (first_memory charged : ℕ) (x : Execution A) (r : Result A) → HasResult strict first_memory charged x r → HasResult loose first_memory charged x r
  looser_result first_memory charged x (Completed prints weight a) h = h
  looser_result first_memory charged x (Trapped prints text) h = h
  looser_result first_memory charged x (Exhausted prints cause) h = (h.0, h.1, h.2, weaker (exhaustion first_memory charged cause (x h.0)) h.3)

  pub looser_course : {S : Type 0} (c : Course S) (o : Outcome S) → ComesTo strict c o → ComesTo loose c o
  looser_course (Over q) o h = h
  looser_course (Runs A first_memory charged x behind) o h = (h.0, looser_result first_memory charged x h.0 h.1, looser_course (behind h.0) o h.2)
  looser_course NoCourse o h = h

  module _ {L : Language} (programs : List (Program L)) (own : List ℕ) where
    looser_from : (events : List Event) (state : ActorState L) (items : List Item) → RunsFrom strict programs own state events items → RunsFrom loose programs own state events items
    looser_from [] state items h = h
    looser_from (e ∷ events) state items h =
        (h.0, looser_course (event_course programs own e state) h.0 h.1, h.2, h.3, looser_from events (h.0).next h.2 h.4)

    pub looser_run : (events : List Event) (items : List Item) → ActorRun strict programs own events items → ActorRun loose programs own events items
    looser_run events items h = looser_from events (NoActor 0 []) items h
