-- Runs, computed: it is told how far each execution is followed, and then the items are a function of the events.
use Rattle.std.specs.Prelude.{ℕ, List, [], ◌∷◌, ◌++◌, take, Option, Some, None, cond}
use Rattle.play_script.specs.declared.event.Event.{Event}
use Rattle.play_script.specs.declared.item.Item.{Item}
use Rattle.play_script.specs.declared.item.Word.{Word}
use Rattle.mo_actor.specs.Languages.{Language}
use Rattle.mo_actor.specs.Executions.{Completion, Completes, Traps, Progress, Execution}
use Rattle.mo_actor.specs.Programs.{Program}
use Rattle.mo_actor.specs.Measures.{Exhaustion, is_limit}
use Rattle.mo_actor.specs.Results.{Result, Completed, Trapped, Exhausted, exhaustion}
use Rattle.mo_actor.specs.States.{ActorState, NoActor}
use Rattle.mo_actor.specs.Outcomes.{Outcome}
use Rattle.mo_actor.specs.Courses.{Course, Over, Runs, NoCourse}
use Rattle.mo_actor.specs.Steps.{event_course}

-- How far an execution is followed: to its end, which it comes to within so many turns; or to an exhaustion after so many
-- turns, with so many of its prints shown.
pub data Extent : Type 0 where
  ToItsEnd : (turns : ℕ) → Extent
  ToALimit : (turns : ℕ) → (cause : Word) → (shown : ℕ) → Extent

-- What a course came to, the exhaustions on the way, and the extents that are left for later executions.
pub record Followed (S : Type 0) : Type 0 where
  pub reached : Outcome S
  pub exhaustions : List Exhaustion
  pub extents : List Extent

module _ {A : Type 0} where
  abbrev pub result_by : Progress A → Option (Completion A) → Option (Result A)
  result_by p None = None
  result_by p (Some (Completes result)) = Some (Completed p.prints p.weight result)
  result_by p (Some (Traps text)) = Some (Trapped p.prints text)

  -- The result of an execution that is followed so far; none where it has not ended then.
  abbrev pub result_within : Extent → Execution A → Option (Result A)
  result_within (ToItsEnd turns) x = result_by (x turns) (x turns).completion
  result_within (ToALimit turns cause shown) x = cond (is_limit cause) (Some (Exhausted (take shown (x turns).prints) cause)) None

  abbrev pub exhaustions_within : Extent → (first_memory charged : ℕ) → Execution A → List Exhaustion
  exhaustions_within (ToItsEnd turns) first_memory charged x = []
  exhaustions_within (ToALimit turns cause shown) first_memory charged x = exhaustion first_memory charged cause (x turns) ∷ []

module _ {S : Type 0} where
  abbrev pub followed_to : Outcome S → List Exhaustion → List Extent → Followed S
  followed_to reached exhaustions extents = record { reached = reached; exhaustions = exhaustions; extents = extents }

  abbrev pub behind_exhaustions : List Exhaustion → Option (Followed S) → Option (Followed S)
  behind_exhaustions before None = None
  behind_exhaustions before (Some f) = Some (followed_to f.reached (before ++ f.exhaustions) f.extents)

  abbrev pub behind_result : {A : Type 0} → List Exhaustion → (Result A → Option (Followed S)) → Option (Result A) → Option (Followed S)
  behind_result before f None = None
  behind_result before f (Some r) = behind_exhaustions before (f r)

  -- A course, with its executions followed in turn.
  abbrev pub followed : Course S → List Extent → Option (Followed S)
  followed (Over reached) extents = Some (followed_to reached [] extents)
  followed (Runs A first_memory charged x behind) [] = None
  followed (Runs A first_memory charged x behind) (extent ∷ extents) =
      behind_result (exhaustions_within extent first_memory charged x) (λ r. followed (behind r) extents) (result_within extent x)
  followed NoCourse extents = None

-- The items of a run, and its exhaustions.
pub record Transcript : Type 0 where
  pub items : List Item
  pub exhaustions : List Exhaustion

abbrev pub transcript : List Item → List Exhaustion → Transcript
transcript items exhaustions = record { items = items; exhaustions = exhaustions }

abbrev pub behind_items : List Item → List Exhaustion → Option Transcript → Option Transcript
behind_items items exhaustions None = None
behind_items items exhaustions (Some t) = Some (transcript (items ++ t.items) (exhaustions ++ t.exhaustions))

abbrev pub items_in : Option Transcript → Option (List Item)
items_in None = None
items_in (Some t) = Some t.items

module _ {L : Language} where
  abbrev pub behind_event : (ActorState L → List Extent → Option Transcript) → Option (Followed (ActorState L)) → Option Transcript
  behind_event go None = None
  behind_event go (Some f) = behind_items f.reached.items f.exhaustions (go f.reached.next f.extents)

  abbrev pub transcript_from : List (Program L) → (own : List ℕ) → List Event → ActorState L → List Extent → Option Transcript
  transcript_from programs own [] state extents = Some (transcript [] [])
  transcript_from programs own (e ∷ events) state extents =
      behind_event (transcript_from programs own events) (followed (event_course programs own e state) extents)

  -- The run over the events, whose executions are followed so far.
  abbrev pub transcript_after : List Extent → List (Program L) → (own : List ℕ) → List Event → Option Transcript
  transcript_after extents programs own events = transcript_from programs own events (NoActor 0 []) extents

  -- Its items.
  abbrev pub items_after : List Extent → List (Program L) → (own : List ℕ) → List Event → Option (List Item)
  items_after extents programs own events = items_in (transcript_after extents programs own events)
