-- Incoming calls: IC interface specification, sections "Call initiation" and "Query call"; Motoko language manual, section "Shared
-- functions".
use Rattle.std.specs.Prelude.{◌≡◌, ℕ, zero, suc, List, [], ◌∷◌, ◌++◌, length, map, Bool, true, false, codes}
use Rattle.std.specs.Global.{Vec}
use Rattle.play_script.specs.declared.event.Event.TheVariants as event
use Rattle.play_script.specs.declared.item.Item.TheVariants as item
use Rattle.play_script.specs.declared.item.Word.TheVariants as word
use Rattle.mo_types.specs.Graph.{Slot}
use Rattle.mo_values.specs.Shapes.{Bytes}
use Rattle.mo_actor.specs.Completions.{query_outcome, update_outcome}
use Rattle.mo_actor.specs.Courses.{Course, Over, Runs}
use Rattle.mo_actor.specs.IncomingCalls.{arrived, entered}
use Rattle.mo_actor.specs.Outcomes.{Outcome, rejected}
use Rattle.mo_actor.specs.Programs as Programs
use Rattle.mo_actor.specs.Programs.{Effects}
use Rattle.mo_actor.specs.Results.{Result}
use Rattle.mo_actor.specs.States as actor
use Rattle.mo_actor.specs.States.{IsDead}
use Rattle.mo_actor.specs.Steps.{life_course}
use Rattle.typed_tree.specs.declared.program.Program.{Program as Written}
use Rattle.typed_tree.specs.Language.{Functions}
use Rattle.typed_tree.specs.ProgramView.{program}
use Rattle.typed_tree.specs.Programs.{Program}
use Rattle.mo_meaning.specs.Coding.{Coding, IsFaithful, Types}
use Rattle.mo_meaning.specs.Kernel.{Entry}
use Rattle.mo_machine.specs.ActorLanguage.{machine}
use Rattle.mo_machine.specs.States.{with_states}
use Rattle.arena_states.specs.declared.group.GroupOf.{GroupOf}
use Rattle.arena_states.specs.Groups.{HasGroups}
use Rattle.arena_reductions.specs.Reduced.{Longer}
use Rattle.arena_actors.specs.declared.actor.Activation.{Activation}
use Rattle.arena_actors.specs.declared.actor.Activation.TheVariants as activation
use Rattle.arena_actors.specs.declared.actor.Actor.{Actor}
use Rattle.arena_actors.specs.States.{actor_of, came_of, IsSound}
use Rattle.arena_outcomes.specs.declared.ran.Done.{Done}
use Rattle.arena_outcomes.specs.declared.ran.Ending.{Ending}
use Rattle.arena_outcomes.specs.declared.ran.Ending.TheVariants as ending
use Rattle.arena_outcomes.specs.declared.ran.Lived.{Lived}
use Rattle.arena_outcomes.specs.declared.ran.Lived.TheVariants as lived
use Rattle.arena_outcomes.specs.declared.ran.Over.{Over as Came}
use Rattle.arena_outcomes.specs.declared.ran.Ran.{Ran}
use Rattle.arena_outcomes.specs.declared.ran.Ran.TheVariants as ran
use Rattle.arena_outcomes.specs.Books.{answer_items, completed}
use Rattle.arena_outcomes.specs.Ends.{table_in, Ends, IsEndingWithin, RestingIn}
use Rattle.arena_outcomes.specs.Leaving.{IsLeftWith}
use Rattle.arena_events.specs.Lives.{Lives}

-- an execution of one turn, that traps with this text
abbrev pub trapping : Vec GroupOf → Bytes → ℕ → Ran
trapping table text zero = ran.Still table
trapping table text (suc turns) = ran.Traps table [] text

-- ---- the execution of a method

-- the actor with one more incoming call, which is as good as dead, and beside its store as it was
pub record IsArrived (x : Actor) (d : Done) : Type 0 where
  pub sound : IsSound d.actor
  pub first : d.actor.first ≡ x.first
  pub made : d.actor.made ≡ x.made
  pub came : (groups : ℕ → Functions) → came_of groups d.actor.arena d.actor.came ≡ came_of groups x.arena x.came ++ IsDead ∷ []
  pub within : IsEndingWithin d.actor.arena d.ending

abbrev pub IsArrivedKept : Actor → Ran → Type 0
IsArrivedKept x (ran.Completes d) = IsArrived x d
IsArrivedKept x _ = Unit {0}

pub record IsEntered (types : List Slot) (own : Bytes) (entry : Entry) (caller argument : Bytes) (n : ℕ) (x : Actor) (r : Ran) : Type 0 where
  pub tables : Longer x.table.items (table_in r)
  pub kept : IsArrivedKept x r
  pub rests : (groups : ℕ → Functions) → HasGroups groups (table_in r) → RestingIn groups r
  pub means : (coding : Coding) → IsFaithful coding → (groups : ℕ → Functions) → HasGroups groups (table_in r) → (first charged : ℕ) (p : Program)
      → Ends groups n r (entered (with_states coding first types p) own (actor_of coding types groups x charged) entry caller argument)

-- ---- what comes of it

-- a query that gives no answer is as good as dead
abbrev pub after_query : Ending → Activation
after_query (ending.Replies bytes) = activation.Answered
after_query (ending.Rejects text) = activation.Answered
after_query (ending.Waits number b) = activation.Dead
after_query ending.Sleeps = activation.Dead
after_query ending.Unchanged = activation.Dead

abbrev pub IsQueried : Actor → Done → Came → Type 0
IsQueried x d o = IsLeftWith x d.actor.table.items (after_query d.ending) (map item.Print d.prints ++ answer_items (length x.came) d.ending) o

abbrev pub IsCompletedBy : Bool → Actor → Done → Came → Type 0
IsCompletedBy true x d o = IsQueried x d o
IsCompletedBy false x d o = o ≡ completed (length x.came) d

abbrev pub IsTrapped : Actor → List GroupOf → List Bytes → Bytes → Came → Type 0
IsTrapped x table prints text o = IsLeftWith x table activation.Dead (map item.Print prints ++ item.Trapped (word.Text text) ∷ []) o

-- what comes of the execution of a query method, or of an update method
abbrev pub IsTold : Actor → (query : Bool) → Ran → Lived → Type 0
IsTold x query (ran.Still table) l = l ≡ lived.Still table
IsTold x query (ran.Traps table prints text) l = (o : Came) × (l ≡ lived.Over o) × IsTrapped x table.items prints text o
IsTold x query (ran.Completes d) l = (o : Came) × (l ≡ lived.Over o) × IsCompletedBy query x d o

-- ---- calls

abbrev pub outcome_by : (query : Bool) → (owner : ℕ) → actor.Actor machine → Result (Effects machine) → Outcome (actor.Actor machine)
outcome_by true owner a r = query_outcome owner a r
outcome_by false owner a r = update_outcome owner a r

abbrev pub found_course : Programs.Program machine → Bytes → (query : Bool) → Entry → (caller argument : Bytes) → actor.Actor machine → Course (actor.Actor machine)
found_course p own query entry caller argument a =
    Runs (Effects machine) p.first_memory a.charged (entered p own a entry caller argument) (λ r. Over (outcome_by query (length a.activations) (arrived a) r))

abbrev pub missing_course : actor.Actor machine → Course (actor.Actor machine)
missing_course a = Over (rejected (length a.activations) 5 (codes "no method") [] (arrived a))

abbrev pub IsCalled : Written → Bytes → (query : Bool) → Entry → (caller argument : Bytes) → ℕ → Actor → Lived → Type 0
IsCalled p own query entry caller argument n x l =
    Lives p.types (λ coding first a. found_course (with_states coding first p.types (program p)) own query entry caller argument a) n x l

abbrev pub IsMissing : Actor → Lived → Type 0
IsMissing x l = (types : Types) (n : ℕ) → Lives types (λ coding first a. missing_course a) n x l

-- the event is this call
abbrev pub IsReceived : Written → Bytes → (query : Bool) → (name caller argument : Bytes) → ℕ → Actor → Lived → Type 0
IsReceived p own query name caller argument n x l =
    Lives p.types (λ coding first a. life_course (with_states coding first p.types (program p)) own (event.Call query name caller argument) a) n x l
