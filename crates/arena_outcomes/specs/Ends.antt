-- How executions end, and what they come to for their actor: Motoko language manual, sections "Await", "Return" and "Traps".
use Rattle.std.specs.Prelude.{◌≡◌, ℕ, List, [], Some, None}
use Rattle.std.specs.Global.{Vec}
use Rattle.mo_types.specs.declared.node.TypeId.{TypeId}
use Rattle.mo_actor.specs.Executions.{Completes, Execution as Executes, Traps}
use Rattle.mo_actor.specs.Programs.{Effects}
use Rattle.typed_tree.specs.Language.{Functions}
use Rattle.mo_machine.specs.ActorLanguage.{machine}
use Rattle.value_arena.specs.declared.node.Node.{Node}
use Rattle.arena_states.specs.declared.frame.Frame.{Frame}
use Rattle.arena_states.specs.declared.group.GroupOf.{GroupOf}
use Rattle.arena_executions.specs.declared.execution.Execution.{Execution}
use Rattle.arena_executions.specs.declared.reached.End.{End}
use Rattle.arena_executions.specs.declared.reached.End.TheVariants as end
use Rattle.arena_executions.specs.declared.reached.Reached.{Reached}
use Rattle.arena_executions.specs.declared.reached.Reached.TheVariants as reached
use Rattle.arena_actors.specs.declared.actor.Actor.{Actor}
use Rattle.arena_actors.specs.States.{came_of, waiting_of, IsBodyWithin, IsResting, IsSound}
use Rattle.arena_outcomes.specs.declared.concluding.Ended.{Ended}
use Rattle.arena_outcomes.specs.declared.concluding.Ended.TheVariants as ended_as
use Rattle.arena_outcomes.specs.declared.ran.Begun.{Begun}
use Rattle.arena_outcomes.specs.declared.ran.Done.{Done}
use Rattle.arena_outcomes.specs.declared.ran.Ending.{Ending}
use Rattle.arena_outcomes.specs.declared.ran.Ending.TheVariants as ending
use Rattle.arena_outcomes.specs.declared.ran.Ran.{Ran}
use Rattle.arena_outcomes.specs.declared.ran.Ran.TheVariants as ran
use Rattle.arena_outcomes.specs.declared.ran.Rest.{Rest}
use Rattle.arena_outcomes.specs.Books.{effects_of}

-- ---- where an execution begins, and how it ends

abbrev pub begun : Actor → Vec Frame → Begun
begun x fs = record {
  rest = record { exports = x.exports; first = x.first; made = x.made; came = x.came };
  execution = record { machine = record { arena = x.arena; table = x.table; store = x.store; frames = fs; prints = [] }; calls = [] };
}

abbrev pub ended : End → List TypeId → Vec Frame → Ended
ended (end.Returns v) results fs = ended_as.Never
ended (end.Replies bytes) results fs = ended_as.Completes (ending.Replies bytes)
ended (end.Rejects text) results fs = ended_as.Completes (ending.Rejects text)
ended (end.Suspends call nodes f) results fs = ended_as.Completes (ending.Waits call (record { nodes = nodes; results = results; focus = f; frames = fs }))
ended end.Sleeps results fs = ended_as.Completes ending.Sleeps
ended (end.Traps text) results fs = ended_as.Traps text
ended end.Breaks results fs = ended_as.Never

abbrev pub reached_end : Reached → List TypeId → Vec Frame → Ended
reached_end (reached.Still f) results fs = ended_as.Never
reached_end (reached.Ended e) results fs = ended e results fs

abbrev pub done_of : Rest → Execution → Ending → Done
done_of rest x e = record {
  actor = record { arena = x.machine.arena; table = x.machine.table; store = x.machine.store; exports = rest.exports; first = rest.first; made = rest.made; came = rest.came };
  calls = x.calls;
  prints = x.machine.prints;
  ending = e;
}

abbrev pub ran_as : Rest → Execution → Ended → Ran
ran_as rest x ended_as.Never = ran.Still x.machine.table
ran_as rest x (ended_as.Traps text) = ran.Traps x.machine.table x.machine.prints text
ran_as rest x (ended_as.Completes e) = ran.Completes (done_of rest x e)

abbrev pub ran_of : List TypeId → Rest → Execution → Reached → Ran
ran_of results rest x r = ran_as rest x (reached_end r results x.machine.frames)

-- ---- what an execution comes to

abbrev pub table_in : Ran → List GroupOf
table_in (ran.Still table) = table.items
table_in (ran.Traps table prints text) = table.items
table_in (ran.Completes d) = d.actor.table.items

-- after so many turns
abbrev pub Ends : (ℕ → Functions) → ℕ → Ran → Executes (Effects machine) → Type 0
Ends groups n (ran.Still table) x = (x n).completion ≡ None
Ends groups n (ran.Traps table prints text) x = ((x n).prints ≡ prints) × ((x n).completion ≡ Some (Traps text))
Ends groups n (ran.Completes d) x = ((x n).prints ≡ d.prints) × ((x n).completion ≡ Some (Completes (effects_of groups d)))

-- ---- what is kept of an actor

abbrev pub IsEndingWithin : List Node → Ending → Type 0
IsEndingWithin ns (ending.Waits number b) = IsBodyWithin ns b
IsEndingWithin ns _ = Unit {0}

abbrev pub IsRestingEnd : (ℕ → Functions) → List Node → Ending → Type 0
IsRestingEnd groups ns (ending.Waits number b) = IsResting (waiting_of groups ns b)
IsRestingEnd groups ns _ = Unit {0}

-- the activation is another one then
abbrev pub IsChange : Ending → Type 0
IsChange ending.Unchanged = ⊥
IsChange _ = Unit {0}

-- beside its store, it is as it was
pub record IsDone (x : Actor) (d : Done) : Type 0 where
  pub sound : IsSound d.actor
  pub first : d.actor.first ≡ x.first
  pub made : d.actor.made ≡ x.made
  pub came : (groups : ℕ → Functions) → came_of groups d.actor.arena d.actor.came ≡ came_of groups x.arena x.came
  pub within : IsEndingWithin d.actor.arena d.ending
  pub changes : IsChange d.ending

-- where it waits, it rests
abbrev pub RestingIn : (ℕ → Functions) → Ran → Type 0
RestingIn groups (ran.Completes d) = IsRestingEnd groups d.actor.arena d.ending
RestingIn groups _ = Unit {0}

abbrev pub IsKept : Actor → Ran → Type 0
IsKept x (ran.Completes d) = IsDone x d
IsKept x _ = Unit {0}
