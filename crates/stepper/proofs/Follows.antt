-- Courses with other states behind them, and which events have one.
use Rattle.std.proofs.Common.{◌≡◌, ℕ, List, [], ◌∷◌, Bool, true, false, Option, Some, None, refl, ap, ◌∙◌}
use Rattle.mo_types.specs.Calls.{Call, is_open_state}
use Rattle.mo_values.specs.Shapes.{Bytes}
use Rattle.mo_actor.specs.CallAnswers.{Received, answer_course, open_course}
use Rattle.mo_actor.specs.Computed.{Extent, Followed, behind_exhaustions, behind_result, exhaustions_within, followed, followed_to, result_within}
use Rattle.mo_actor.specs.Courses.{Course, NoCourse, Over, Runs, over_states}
use Rattle.mo_actor.specs.IncomingCalls.{call_course, query_course, update_course}
use Rattle.mo_actor.specs.Languages.{Language}
use Rattle.mo_actor.specs.Measures.{Exhaustion}
use Rattle.mo_actor.specs.Outcomes.{outcome}
use Rattle.mo_actor.specs.Programs.{Program}
use Rattle.mo_actor.specs.Results.{Result}
use Rattle.mo_actor.specs.States.{Actor}
use Rattle.stepper.specs.Stepping.{HasCourse}

abbrev pub over_followed : {S T : Type 0} → (S → T) → Option (Followed S) → Option (Followed T)
over_followed f None = None
over_followed f (Some g) = Some (followed_to (outcome g.reached.items (f g.reached.next)) g.exhaustions g.extents)

exhausted : {S T : Type 0} (f : S → T) (before : List Exhaustion) (o : Option (Followed S))
    → behind_exhaustions before (over_followed f o) ≡ over_followed f (behind_exhaustions before o)
exhausted f before None = refl
exhausted f before (Some g) = refl

pub followed_over : {S T : Type 0} (f : S → T) (c : Course S) (es : List Extent) → followed (over_states f c) es ≡ over_followed f (followed c es)
followed_over f (Over o) es = refl
followed_over f (Runs A first charged x behind) [] = refl
followed_over {S = S} {T = T} f (Runs A first charged x behind) (e ∷ es) = by (result_within e x) (λ r. followed_over f (behind r) es)
  where
    by : (o : Option (Result A)) → ((r : Result A) → followed (over_states f (behind r)) es ≡ over_followed f (followed (behind r) es))
        → behind_result (exhaustions_within e first charged x) (λ r. followed (over_states f (behind r)) es) o
        ≡ over_followed f (behind_result (exhaustions_within e first charged x) (λ r. followed (behind r) es) o)
    by None next = refl
    by (Some r) next =
        ap (λ (o : Option (Followed T)). behind_exhaustions (exhaustions_within e first charged x) o) (next r)
        ∙ exhausted f (exhaustions_within e first charged x) (followed (behind r) es)
followed_over f NoCourse es = refl

pub has_over : {S T : Type 0} (f : S → T) (c : Course S) → HasCourse c → HasCourse (over_states f c)
has_over f (Over o) h = tt
has_over f (Runs A first charged x behind) h = tt
has_over f NoCourse h = h

-- calls and answers have courses
module _ {L : Language} (p : Program L) (own : Bytes) (a : Actor L) where
  query_has : (o : Option L.method) (caller argument : Bytes) → HasCourse (query_course p own a o caller argument)
  query_has None caller argument = tt
  query_has (Some method) caller argument = tt

  update_has : (o q : Option L.method) (caller argument : Bytes) → HasCourse (update_course p own a o q caller argument)
  update_has None q caller argument = query_has q caller argument
  update_has (Some method) q caller argument = tt

  pub call_has : (query : Bool) (name caller argument : Bytes) → HasCourse (call_course p own a query name caller argument)
  call_has true name caller argument = query_has (p.query name) caller argument
  call_has false name caller argument = update_has (p.update name) (p.query name) caller argument

  open_has : (b : Bool) (number : ℕ) (call : Call L.results L.value) (received : Received) → HasCourse (open_course p own a b number call received)
  open_has false number call received = tt
  open_has true number call received = tt

  pub answer_has : (number : ℕ) (received : Received) (o : Option (Call L.results L.value)) → HasCourse (answer_course p own a number received o)
  answer_has number received None = tt
  answer_has number received (Some call) = open_has (is_open_state call.state) number call received
