-- Incoming calls: IC interface specification, sections Call initiation and Query call; Motoko language manual, section
-- "Shared functions".
use Rattle.std.specs.Prelude.{ℕ, List, [], ◌∷◌, ◌++◌, length, Option, Some, None, Bool, true, false, codes}
use Rattle.mo_actor.specs.Languages.{Language}
use Rattle.mo_actor.specs.Executions.{Execution, trapping, after_reading}
use Rattle.mo_actor.specs.Programs.{Effects, Program}
use Rattle.mo_actor.specs.States.{IsDead, Actor}
use Rattle.mo_actor.specs.Outcomes.{rejected}
use Rattle.mo_actor.specs.Courses.{Course, Over, Runs}
use Rattle.mo_actor.specs.Completions.{update_outcome, query_outcome}

-- The actor with one more incoming call. Until its execution has completed, its activation is as good as dead.
abbrev pub arrived : {L : Language} → Actor L → Actor L
arrived a = record a { activations = a.activations ++ IsDead ∷ [] }

module _ {L : Language} (p : Program L) (own : List ℕ) (a : Actor L) where
  -- A body that runs, or a trap where the argument did not read.
  abbrev pub entered_body : Option L.body → Execution (Effects L)
  entered_body None = trapping (codes "bad argument")
  entered_body (Some body) = p.run own a.table a.store body

  -- The argument is read first.
  abbrev pub entered : L.method → (caller argument : List ℕ) → Execution (Effects L)
  entered method caller argument = after_reading (p.argument_cost method argument) (entered_body (p.enter method caller argument))

  abbrev pub query_course : Option L.method → (caller argument : List ℕ) → Course (Actor L)
  query_course None caller argument = Over (rejected (length a.activations) 5 (codes "no method") [] (arrived a))
  query_course (Some method) caller argument =
      Runs (Effects L) p.first_memory a.charged (entered method caller argument) (λ r. Over (query_outcome (length a.activations) (arrived a) r))

  -- A call runs the update method of the name, or else the query method.
  abbrev pub update_course : Option L.method → Option L.method → (caller argument : List ℕ) → Course (Actor L)
  update_course None query caller argument = query_course query caller argument
  update_course (Some method) query caller argument =
      Runs (Effects L) p.first_memory a.charged (entered method caller argument) (λ r. Over (update_outcome (length a.activations) (arrived a) r))

  abbrev pub call_course : (query : Bool) → (name caller argument : List ℕ) → Course (Actor L)
  call_course true name caller argument = query_course (p.query name) caller argument
  call_course false name caller argument = update_course (p.update name) (p.query name) caller argument
