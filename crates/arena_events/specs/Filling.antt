-- What a future is filled with: Motoko language manual, section "Await".
use Rattle.std.specs.Prelude.{ℕ, ◌-◌, List, [], ◌∷◌, nat_lt, cond, Option, Some, None, slice_get}
use Rattle.mo_types.specs.Graph.{Slot}
use Rattle.mo_values.specs.Shapes.{Tuple}
use Rattle.typed_tree.specs.Language.{Functions}
use Rattle.mo_meaning.specs.Acts as meaning
use Rattle.mo_meaning.specs.Coding.{Coding, IsFaithful}
use Rattle.mo_machine.specs.Values.{Value, Made as MadeOf, gathered}
use Rattle.value_arena.specs.declared.node.Node.{Node}
use Rattle.value_arena.specs.Growth.{Grows}
use Rattle.arena_executions.specs.declared.giving.Given.{Given}
use Rattle.arena_executions.specs.Giving.{IsGivenWithin, IsThis}
use Rattle.arena_actors.specs.declared.actor.Filled.{Filled}
use Rattle.arena_actors.specs.declared.actor.Filled.TheVariants as filled
use Rattle.arena_actors.specs.declared.actor.Made.{Made}
use Rattle.arena_actors.specs.States.{answer_of}
use Rattle.arena_events.specs.declared.filling.Received.{Received}
use Rattle.arena_events.specs.declared.filling.Received.TheVariants as receives

-- the place of the call of a number
abbrev pub place_of : (first number : ℕ) → Option ℕ
place_of first number = cond (nat_lt number first) None (Some (number - first))

abbrev pub call_in : List Made → Option ℕ → Option Made
call_in ms None = None
call_in ms (Some i) = slice_get ms i

-- neither a value nor an error, where it is open or lost, or is none
abbrev pub as_answer : Filled → Filled
as_answer filled.Open = filled.Neither
as_answer (filled.Replied ts bytes) = filled.Replied ts bytes
as_answer (filled.Rejected code text) = filled.Rejected code text
as_answer filled.Neither = filled.Neither
as_answer filled.Lost = filled.Neither

abbrev pub filled_in : Option Made → Filled
filled_in None = filled.Neither
filled_in (Some m) = as_answer m.state

abbrev pub filled_at : ℕ → List Made → ℕ → Filled
filled_at first ms future = filled_in (call_in ms (place_of first future))

abbrev pub reply_as : ℕ → List Made → Made → Option ℕ → List ℕ → Filled
reply_as first ms m None bytes = filled.Replied m.results bytes
reply_as first ms m (Some future) bytes = filled_at first ms future

abbrev pub received_as : ℕ → List Made → Made → Received → Filled
received_as first ms m (receives.Reply bytes) = reply_as first ms m m.resumes bytes.now
received_as first ms m (receives.Reject code text) = filled.Rejected code text.now

-- one value, or the tuple of several
abbrev pub packed : List Value → Value
packed (v ∷ []) = v
packed vs = MadeOf Tuple (gathered vs)

-- what is given is what it was filled with
abbrev pub IsGivenAs : (ℕ → Functions) → List Node → Option meaning.Given → Option Given → Type 0
IsGivenAs groups ns None None = Unit {0}
IsGivenAs groups ns (Some g) (Some v) = IsThis groups ns v g
IsGivenAs groups ns _ _ = ⊥

abbrev pub AreGivenWithin : List Node → Option Given → Type 0
AreGivenWithin ns None = Unit {0}
AreGivenWithin ns (Some v) = IsGivenWithin ns v

pub record AreGiven (types : List Slot) (f : Filled) (old : List Node) (o : Option Given) (new : List Node) : Type 0 where
  pub grows : Grows old new
  pub within : AreGivenWithin new o
  pub means : (coding : Coding) → IsFaithful coding → (groups : ℕ → Functions) → IsGivenAs groups new (answer_of coding types f) o
