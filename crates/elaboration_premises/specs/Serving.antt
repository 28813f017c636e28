-- What elaboration asks of states, and that those of typed executions are so (Motoko language manual, section "Type soundness").
use Rattle.std.specs.Prelude.{◌≡◌, ℕ, true, List, [], ◌∷◌}
use Rattle.mo_types.specs.declared.node.TypeId.{TypeId}
use Rattle.mo_types.specs.Graph.{Slot, head_at}
use Rattle.core_ir.specs.Values as core
use Rattle.typed_tree.specs.Basics.{HasBasics}
use Rattle.typed_tree.specs.declared.action.Action.TheVariants as action
use Rattle.typed_tree.specs.Language as language
use Rattle.typed_tree.specs.Patterns.{Pat}
use Rattle.typed_tree.specs.Types.{AreLawful}
use Rattle.typed_tree.specs.Wants.{Want}
use Rattle.mo_meaning.specs.Acts.{Given}
use Rattle.mo_meaning.specs.Configurations.{Surroundings}
use Rattle.mo_meaning.specs.Reduce.{reduce}
use Rattle.mo_soundness.specs.Answered.{IsAsking}
use Rattle.mo_soundness.specs.Keeps as soundness
use Rattle.mo_soundness.specs.Running.{AnswerTypes, IsErrorValue, HasValue}
use Rattle.mo_soundness.specs.RunningPatterns.{BindsAt}
use Rattle.program_soundness.specs.Results.{GivesResults, AreResults}
use Rattle.program_soundness.specs.Runs.{Stands}
use Rattle.program_soundness.specs.Worlds.{running}
use Rattle.std.specs.Prelude.{Some, None}
use Rattle.mo_machine.specs.Configurations.{Configuration, Breaks, Run, Still, Ended}
use Rattle.mo_machine.specs.Frames.{Ready}
use Rattle.mo_machine.specs.Runs.{unload_configuration}
use Rattle.mo_machine.specs.Turns.{steps, steps_given}
use Rattle.mo_machine.specs.Unload.{unload, unload_list, unload_state}
use Rattle.mo_machine.specs.Values as machine
use Rattle.elaboration.specs.Meeting.{Meets}
use Rattle.elaboration_values.specs.Belonging.{Known, Belongs}
use Rattle.elaboration_runs.specs.Whole.{Serves}

-- where a typed pattern meets a value of its type, Core's pattern may stand on what belongs to that
abbrev pub PatternsMeet : Type 0
PatternsMeet =
    (types : List Slot) → AreLawful types → HasBasics types → (answers : AnswerTypes) (kinds : List TypeId) (known : List Known) (p : Pat) (a : Want TypeId) (ns : List (Want TypeId)) (v : machine.Value) (w : core.Value)
    → BindsAt (running types).head p a ns → HasValue (running types) answers kinds a (unload v) → Belongs known v w → Meets p w

-- each state on the way is as elaboration asks, and the execution does not break
pub record Served (go : ℕ → Run) : Type 0 where
  pub serves : (j : ℕ) (c : Configuration) → go j ≡ Still c → Serves c
  pub whole : (j : ℕ) (c : Configuration) → go j ≡ Ended c Breaks → ⊥

module _ (s : Surroundings) (results : List TypeId) where
  -- an execution whose body gives these results, at a state that is typed
  abbrev pub IsTyped : AnswerTypes → List TypeId → Configuration → Type 0
  IsTyped answers kinds c = Stands s (GivesResults (running s.types) results) (AreResults (running s.types) results) (unload_configuration c) answers kinds

abbrev pub ExecutionsServe : Type 0
ExecutionsServe =
    (s : Surroundings) → AreLawful s.types → HasBasics s.types → (results : List TypeId) (answers : AnswerTypes) (kinds : List TypeId) (c : Configuration) → IsTyped s results answers kinds c → Served (λ j. steps s j c)

-- also where it waited, and is given what it waits for
abbrev pub ResumptionsServe : Type 0
ResumptionsServe =
    (s : Surroundings) → AreLawful s.types → HasBasics s.types → (results : List TypeId) (answers : AnswerTypes) (kinds : List TypeId) (c : Configuration) → IsTyped s results answers kinds c
    → (g : Given) → IsAsking (reduce (head_at s.types) None (unload_list c.store) (unload_state c.focus c.stack))
    → soundness.Suits (running s.types) answers kinds (Some g) (reduce (head_at s.types) None (unload_list c.store) (unload_state c.focus c.stack)) → Served (λ j. steps_given s g j c)

-- what stands at an `await` is typed, too, where an error is thrown in its place
abbrev pub ErrorsAreTyped : Type 0
ErrorsAreTyped =
    (s : Surroundings) (results : List TypeId) (answers : AnswerTypes) (kinds : List TypeId) (c : Configuration) (v : machine.Value) (error : language.Value) → IsTyped s results answers kinds c
    → c.focus ≡ Ready action.Await (v ∷ []) → IsErrorValue error → answers.may_call ≡ true → IsTyped s results answers kinds (record c { focus = Ready action.Throw (machine.load error ∷ []) })
