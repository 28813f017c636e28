-- What is done with the calls of an actor over an arena, and the items of events: IC interface specification, sections "Call
-- context", "Call context starvation" and "Query call"; Motoko language manual, sections "Await" and "Async".
use Rattle.std.specs.Prelude.{ℕ, zero, suc, ◌+◌, List, [], ◌∷◌, ◌++◌, length, map, Bool, true, false, not, ◌&&◌, cond, nat_eq, Option, Some, None, slice_get, slice_set, codes}
use Rattle.std.specs.List.{list_any}
use Rattle.play_script.specs.declared.item.Item.{Item}
use Rattle.play_script.specs.declared.item.Item.TheVariants as item
use Rattle.mo_actor.specs.Programs as actor
use Rattle.mo_actor.specs.Programs.{Answers, Awaits, AwaitsNothing, Effects, Replies, Rejects}
use Rattle.typed_tree.specs.Language.{Functions}
use Rattle.mo_machine.specs.ActorLanguage.{call_of_machine, machine}
use Rattle.value_arena.specs.declared.node.Node.{Node}
use Rattle.arena_executions.specs.declared.execution.Outgoing.{Outgoing}
use Rattle.arena_executions.specs.Reaching.{calls_of}
use Rattle.arena_actors.specs.declared.actor.Activation.{Activation}
use Rattle.arena_actors.specs.declared.actor.Activation.TheVariants as activation
use Rattle.arena_actors.specs.declared.actor.Actor.{Actor}
use Rattle.arena_actors.specs.declared.actor.Filled.{Filled}
use Rattle.arena_actors.specs.declared.actor.Filled.TheVariants as filled
use Rattle.arena_actors.specs.declared.actor.Made.{Made}
use Rattle.arena_actors.specs.States.{fields_of, waiting_of}
use Rattle.arena_outcomes.specs.declared.ran.Done.{Done}
use Rattle.arena_outcomes.specs.declared.ran.Ending.{Ending}
use Rattle.arena_outcomes.specs.declared.ran.Ending.TheVariants as ending
use Rattle.arena_outcomes.specs.declared.ran.Over.{Over}

-- ---- an incoming call that lacks its answer

-- one that never came counts as answered
abbrev pub is_answered : Option Activation → Bool
is_answered None = true
is_answered (Some activation.Answered) = true
is_answered (Some activation.Dead) = false
is_answered (Some (activation.WaitsFor number b)) = false
is_answered (Some activation.WaitsForNothing) = false

abbrev pub is_open : Filled → Bool
is_open filled.Open = true
is_open (filled.Replied ts bytes) = false
is_open (filled.Rejected code text) = false
is_open filled.Neither = false
is_open filled.Lost = false

-- an outgoing call of this owner is open
abbrev pub is_owned : ℕ → Made → Bool
is_owned owner m = is_open m.state && nat_eq m.owner owner

abbrev pub starved : ℕ → List Made → List Activation → Bool
starved owner ms xs = not (is_answered (slice_get xs owner)) && not (list_any (λ m. is_owned owner m) ms)

abbrev pub rejected : ℕ → Over → Over
rejected owner o = record {
  items = o.items ++ item.Rejected owner 5 (codes "no answer") ∷ [];
  actor = record o.actor { came = slice_set o.actor.came owner activation.Answered };
}

abbrev pub closed : ℕ → Over → Over
closed owner o = cond (starved owner o.actor.made o.actor.came) (rejected owner o) o

-- ---- outgoing calls

abbrev pub opened : ℕ → Outgoing → Made
opened owner c = record { owner = owner; results = c.results; resumes = c.resumes; state = filled.Open }

-- the call at a place in another state
abbrev pub state_set : List Made → ℕ → Filled → List Made
state_set [] i s = []
state_set (m ∷ ms) zero s = record m { state = s } ∷ ms
state_set (m ∷ ms) (suc i) s = m ∷ state_set ms i s

-- ---- the items of an execution

abbrev pub call_items : ℕ → List Outgoing → List Item
call_items next [] = []
call_items next (c ∷ calls) = item.Call next c.callee c.method c.argument ∷ call_items (next + 1) calls

abbrev pub answer_items : ℕ → Ending → List Item
answer_items owner (ending.Replies bytes) = item.Replied owner bytes ∷ []
answer_items owner (ending.Rejects text) = item.Rejected owner 4 text ∷ []
answer_items owner (ending.Waits number b) = []
answer_items owner ending.Sleeps = []
answer_items owner ending.Unchanged = []

abbrev pub completed_items : ℕ → Done → List Item
completed_items owner d = map item.Print d.prints ++ (call_items (d.actor.first + length d.actor.made) d.calls ++ answer_items owner d.ending)

-- ---- what a completed execution leaves

abbrev pub came_after : ℕ → Ending → List Activation → List Activation
came_after owner (ending.Replies bytes) xs = slice_set xs owner activation.Answered
came_after owner (ending.Rejects text) xs = slice_set xs owner activation.Answered
came_after owner (ending.Waits number b) xs = slice_set xs owner (activation.WaitsFor number b)
came_after owner ending.Sleeps xs = slice_set xs owner activation.WaitsForNothing
came_after owner ending.Unchanged xs = xs

abbrev pub committed : ℕ → Done → Actor
committed owner d = record d.actor { made = d.actor.made ++ map (λ c. opened owner c) d.calls; came = came_after owner d.ending d.actor.came }

abbrev pub completed : ℕ → Done → Over
completed owner d = closed owner (record { items = completed_items owner d; actor = committed owner d })

-- ---- what it stands for

module _ (groups : ℕ → Functions) (ns : List Node) where
  abbrev pub ending_of : Ending → actor.Ending machine
  ending_of (ending.Replies bytes) = Answers (Replies bytes)
  ending_of (ending.Rejects text) = Answers (Rejects 4 text)
  ending_of (ending.Waits number b) = Awaits number (waiting_of groups ns b)
  ending_of ending.Sleeps = AwaitsNothing
  ending_of ending.Unchanged = actor.Unchanged

abbrev pub outgoing_of : List Outgoing → List (actor.OutgoingCall machine)
outgoing_of cs = map call_of_machine (calls_of cs)

abbrev pub effects_of : (ℕ → Functions) → Done → Effects machine
effects_of groups d = record {
  store = fields_of groups d.actor.arena d.actor.store.items d.actor.exports;
  calls = outgoing_of d.calls;
  ending = ending_of groups d.actor.arena d.ending;
}
