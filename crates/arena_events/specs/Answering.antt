-- Answers to outgoing calls: IC interface specification, section "Callback invocation"; Motoko language manual, section "Await".
use Rattle.std.specs.Prelude.{◌≡◌, ℕ, List, [], ◌∷◌, ◌++◌, map, true, cond, nat_eq, Option, Some, None, slice_get, slice_set}
use Rattle.play_script.specs.declared.item.Item.TheVariants as item
use Rattle.play_script.specs.declared.item.Word.TheVariants as word
use Rattle.mo_types.specs.Graph.{Slot}
use Rattle.mo_values.specs.Shapes.{Bytes}
use Rattle.mo_actor.specs.CallAnswers as answers
use Rattle.mo_actor.specs.CallAnswers.{answer_course, open_course, resumed}
use Rattle.mo_actor.specs.States as actor
use Rattle.mo_actor.specs.States.{IsDead, activation_at, waiting_on}
use Rattle.mo_types.specs.Calls.{Answered, call_at, set_state}
use Rattle.typed_tree.specs.declared.program.Program.{Program as Written}
use Rattle.typed_tree.specs.Language.{Functions}
use Rattle.typed_tree.specs.ProgramView.{program}
use Rattle.typed_tree.specs.Programs.{Program}
use Rattle.mo_meaning.specs.Acts as meaning
use Rattle.mo_meaning.specs.Coding.{Coding, IsFaithful}
use Rattle.mo_machine.specs.ActorLanguage.{machine, Waiting}
use Rattle.mo_machine.specs.States.{with_states}
use Rattle.arena_states.specs.declared.group.GroupOf.{GroupOf}
use Rattle.arena_states.specs.Groups.{HasGroups}
use Rattle.arena_reductions.specs.Reduced.{Longer}
use Rattle.arena_executions.specs.declared.giving.Given.{Given}
use Rattle.arena_executions.specs.Giving.{IsThis}
use Rattle.arena_actors.specs.declared.actor.Activation.{Activation}
use Rattle.arena_actors.specs.declared.actor.Activation.TheVariants as activation
use Rattle.arena_actors.specs.declared.actor.Actor.{Actor}
use Rattle.arena_actors.specs.declared.actor.Body.{Body}
use Rattle.arena_actors.specs.declared.actor.Filled.{Filled}
use Rattle.arena_actors.specs.declared.actor.Filled.TheVariants as filled
use Rattle.arena_actors.specs.declared.actor.Made.{Made}
use Rattle.arena_actors.specs.Copied.{IsActorCopy}
use Rattle.arena_actors.specs.States.{actor_of, answer_of, call_of, came_of, IsSound, Rests}
use Rattle.arena_events.specs.declared.answering.Taken.{Taken}
use Rattle.arena_events.specs.declared.filling.Received.{Received}
use Rattle.arena_events.specs.declared.filling.Received.TheVariants as receives
use Rattle.arena_outcomes.specs.declared.ran.Done.{Done}
use Rattle.arena_outcomes.specs.declared.ran.Ending.TheVariants as ending
use Rattle.arena_outcomes.specs.declared.ran.Lived.{Lived}
use Rattle.arena_outcomes.specs.declared.ran.Over.{Over}
use Rattle.arena_outcomes.specs.declared.ran.Ran.{Ran}
use Rattle.arena_outcomes.specs.declared.ran.Ran.TheVariants as ran
use Rattle.arena_outcomes.specs.Books.{closed, is_open, state_set}
use Rattle.arena_outcomes.specs.Ends.{table_in, Ends, IsChange, IsEndingWithin, RestingIn}
use Rattle.arena_events.specs.Filling.{place_of}
use Rattle.arena_events.specs.Lives.{Lives}

-- ---- what waits on a call

abbrev pub waiting_in : (number : ℕ) → Option Activation → Option Body
waiting_in number (Some (activation.WaitsFor other b)) = cond (nat_eq other number) (Some b) None
waiting_in number _ = None

abbrev pub body_of : Activation → Option Body
body_of (activation.WaitsFor number b) = Some b
body_of _ = None

abbrev pub taken_by : ℕ → Actor → Option Body → Taken
taken_by owner x None = record { actor = x; body = None }
taken_by owner x (Some b) = record { actor = record x { came = slice_set x.came owner activation.Dead }; body = Some b }

abbrev pub taken : (owner number : ℕ) → Actor → Taken
taken owner number x = taken_by owner x (waiting_in number (slice_get x.came owner))

-- nothing is done
abbrev pub no_effects : Actor → Done
no_effects x = record { actor = x; calls = []; prints = []; ending = ending.Unchanged }

abbrev pub broken_by : (place owner : ℕ) → Actor → Option Body → Actor
broken_by place owner x None = record x { made = state_set x.made place filled.Lost }
broken_by place owner x (Some b) = record x { made = state_set x.made place filled.Neither; came = slice_set x.came owner activation.Dead }

abbrev pub broken : (number place owner : ℕ) → Actor → Actor
broken number place owner x = broken_by place owner x (waiting_in number (slice_get x.came owner))

-- what a trap on the answer leaves
pub record IsBroken (x : Actor) (table : List GroupOf) (number place owner : ℕ) (prints : List Bytes) (text : Bytes) (o : Over) : Type 0 where
  pub copy : Actor
  pub copied : IsActorCopy x copy
  pub known : Actor
  pub tabled : known.table.items ≡ table
  pub grown : known ≡ record copy { table = known.table }
  pub over : o ≡ closed owner (record { items = map item.Print prints ++ item.Trapped (word.Text text) ∷ []; actor = broken number place owner known })

-- ---- an open call

-- an outgoing call with its place
pub record Placed : Type 0 where
  pub place : ℕ
  pub call : Made

abbrev pub placed : ℕ → Made → Placed
placed place m = record { place = place; call = m }

abbrev pub if_open : ℕ → Option Made → Option Placed
if_open place None = None
if_open place (Some m) = cond (is_open m.state) (Some (placed place m)) None

abbrev pub call_of_place : List Made → Option ℕ → Option Placed
call_of_place ms None = None
call_of_place ms (Some place) = if_open place (slice_get ms place)

abbrev pub open_at : ℕ → List Made → ℕ → Option Placed
open_at first ms number = call_of_place ms (place_of first number)

-- ---- the execution on an answer

-- the incoming calls, where the one that waited on this call is as good as dead
abbrev pub came_by : ℕ → List (actor.Activation machine) → Option Waiting → List (actor.Activation machine)
came_by owner xs None = xs
came_by owner xs (Some w) = slice_set xs owner IsDead

abbrev pub came_taken : (owner number : ℕ) → List (actor.Activation machine) → List (actor.Activation machine)
came_taken owner number xs = came_by owner xs (waiting_on number (activation_at xs owner))

-- beside its store and the body that waited, the actor is as it was
pub record IsGoneOn (owner number : ℕ) (x : Actor) (d : Done) : Type 0 where
  pub sound : IsSound d.actor
  pub first : d.actor.first ≡ x.first
  pub made : d.actor.made ≡ x.made
  pub came : (groups : ℕ → Functions) → came_of groups d.actor.arena d.actor.came ≡ came_taken owner number (came_of groups x.arena x.came)
  pub within : IsEndingWithin d.actor.arena d.ending
  -- where nothing waited, nothing is done
  pub idle : (groups : ℕ → Functions) → waiting_on number (activation_at (came_of groups x.arena x.came) owner) ≡ None → d.ending ≡ ending.Unchanged
  pub changes : (groups : ℕ → Functions) (w : Waiting) → waiting_on number (activation_at (came_of groups x.arena x.came) owner) ≡ Some w → IsChange d.ending

abbrev pub IsGoneOnKept : (owner number : ℕ) → Actor → Ran → Type 0
IsGoneOnKept owner number x (ran.Completes d) = IsGoneOn owner number x d
IsGoneOnKept owner number x _ = Unit {0}

-- the future is filled already
pub record IsGoingWith (types : List Slot) (own : Bytes) (number owner : ℕ) (given : Given) (n : ℕ) (x : Actor) (r : Ran) : Type 0 where
  pub tables : Longer x.table.items (table_in r)
  pub kept : IsGoneOnKept owner number x r
  pub rests : (groups : ℕ → Functions) → HasGroups groups (table_in r) → Rests groups x → RestingIn groups r
  pub means : (coding : Coding) → IsFaithful coding → (groups : ℕ → Functions) → HasGroups groups (table_in r) → Rests groups x → (g : meaning.Given) → IsThis groups x.arena given g
      → (first charged : ℕ) (p : Program) (a : actor.Actor machine) → a.store ≡ (actor_of coding types groups x charged).store
      → set_state a.table number (Answered (Some g)) ≡ (actor_of coding types groups x charged).table
      → waiting_on number (activation_at a.activations owner) ≡ waiting_on number (activation_at (actor_of coding types groups x charged).activations owner)
      → Ends groups n r (resumed (with_states coding first types p) own a number (Some g) (waiting_on number (activation_at a.activations owner)))

pub record IsGoingOn (types : List Slot) (own : Bytes) (number place : ℕ) (m : Made) (f : Filled) (n : ℕ) (x : Actor) (r : Ran) : Type 0 where
  pub tables : Longer x.table.items (table_in r)
  pub kept : IsGoneOnKept m.owner number (record x { made = state_set x.made place f }) r
  pub rests : (groups : ℕ → Functions) → HasGroups groups (table_in r) → Rests groups x → RestingIn groups r
  pub means : (coding : Coding) → IsFaithful coding → (groups : ℕ → Functions) → HasGroups groups (table_in r) → Rests groups x → (first charged : ℕ) (p : Program)
      → set_state (actor_of coding types groups x charged).table number (Answered (answer_of coding types f)) ≡ (actor_of coding types groups (record x { made = state_set x.made place f }) charged).table
      → Ends groups n r (resumed (with_states coding first types p) own (actor_of coding types groups x charged) number (answer_of coding types f) (waiting_on number (activation_at (came_of groups x.arena x.came) m.owner)))

-- ---- answers

abbrev pub received_of : Received → answers.Received
received_of (receives.Reply bytes) = answers.Reply bytes.now
received_of (receives.Reject code text) = answers.Reject code text.now

-- the answer to an open call, which stands at this place
abbrev pub IsAnsweredAt : Written → Bytes → (number place : ℕ) → Made → Received → ℕ → Actor → Lived → Type 0
IsAnsweredAt p own number place m received n x l =
    open_at x.first x.made number ≡ Some (placed place m)
    → Lives p.types (λ coding first a. open_course (with_states coding first p.types (program p)) own a true number (call_of coding p.types m) (received_of received)) n x l

-- the event is this answer
abbrev pub IsAnswered : Written → Bytes → (number : ℕ) → Received → ℕ → Actor → Lived → Type 0
IsAnswered p own number received n x l =
    Lives p.types (λ coding first a. answer_course (with_states coding first p.types (program p)) own a number (received_of received) (call_at a.table number)) n x l
