-- Executions without their costs, and what they come to for an actor.
use Rattle.std.proofs.Common.{◌≡◌, ℕ, List, Option, Some, Vec, Global, refl, sym, ap, ap₂, ◌∙◌, subst, arith}
use Rattle.mo_types.specs.declared.node.TypeId.{TypeId}
use Rattle.mo_types.specs.Graph.{Slot}
use Rattle.mo_values.specs.Shapes.{Bytes}
use Rattle.mo_actor.specs.Executions.{Completes, Completion, Execution as Executes}
use Rattle.mo_actor.specs.Programs.{Effects}
use Rattle.typed_tree.specs.Language.{Functions}
use Rattle.mo_meaning.specs.Actor.{surroundings}
use Rattle.mo_meaning.specs.Coding.{Coding, IsFaithful}
use Rattle.mo_meaning.specs.Configurations.{Surroundings}
use Rattle.mo_machine.specs.ActorLanguage.{machine, Enters, Fields, Resumes, Waiting}
use Rattle.mo_machine.specs.Bodies.{execution_of, run_of, shared_progress}
use Rattle.mo_machine.specs.Configurations.{Returns, Responds, Suspends, Sleeps, Breaks, Run, Still, Ended}
use Rattle.mo_machine.specs.Configurations as configuration
use Rattle.mo_machine.specs.Values.{Value}
use Rattle.value_arena.specs.declared.node.ValueId.{ValueId}
use Rattle.value_arena.specs.Growth.{IsWithin}
use Rattle.value_arena.specs.Meaning.{value_of}
use Rattle.arena_states.specs.declared.frame.Frame.{Frame}
use Rattle.arena_states.specs.declared.group.GroupOf.{GroupOf}
use Rattle.arena_states.specs.Groups.{HasGroups}
use Rattle.arena_states.specs.Standing.{list_of}
use Rattle.arena_machine.specs.Costless.{free_run}
use Rattle.arena_machine.specs.Turns.{Follows}
use Rattle.arena_executions.specs.declared.around.Around.{Around}
use Rattle.arena_executions.specs.declared.execution.Execution.{Execution}
use Rattle.arena_executions.specs.declared.giving.Given.{Given}
use Rattle.arena_executions.specs.declared.reached.End.TheVariants as end
use Rattle.arena_executions.specs.declared.reached.Reached.{Reached}
use Rattle.arena_executions.specs.declared.reached.Reached.TheVariants as reached
use Rattle.arena_executions.specs.Reaching.{reached_run, IsReachedWithin, IsWaiting, IsWaitingAt}
use Rattle.arena_executions.specs.Surrounding.{IsAround}
use Rattle.arena_bodies.specs.Bodies.{IsMethodRun, IsResumedRun}
use Rattle.arena_actors.specs.declared.actor.Actor.{Actor}
use Rattle.arena_actors.specs.declared.actor.Body.{Body}
use Rattle.arena_actors.specs.States.{fields_of, table_of, waiting_of, IsSound}
use Rattle.arena_actors.proofs.Resting.{rests_so, waits_so}
use Rattle.arena_actors.proofs.States.{came_stays, came_there}
use Rattle.arena_outcomes.specs.declared.ran.Begun.{Begun}
use Rattle.arena_outcomes.specs.declared.ran.Done.{Done}
use Rattle.arena_outcomes.specs.declared.ran.Ending.{Ending}
use Rattle.arena_outcomes.specs.declared.ran.Ending.TheVariants as ending
use Rattle.arena_outcomes.specs.declared.ran.Ran.{Ran}
use Rattle.arena_outcomes.specs.declared.ran.Rest.{Rest}
use Rattle.arena_outcomes.specs.Books.{effects_of, ending_of, outgoing_of}
use Rattle.arena_outcomes.specs.Ends.{begun, done_of, ran_of, table_in, Ends, IsChange, IsDone, IsEndingWithin, IsKept, RestingIn}
use Rattle.arena_outcomes.specs.Running.{IsMethod, IsResumed}

-- ---- costs show in nothing but weight and depth

module _ (fields : Fields) (results : List TypeId) where
  pub completion_free : (r : Run) → (shared_progress fields results r).completion ≡ (shared_progress fields results (free_run r)).completion
  completion_free (Still c) = refl
  completion_free (Ended c (Returns v)) = refl
  completion_free (Ended c (Responds answer)) = refl
  completion_free (Ended c (Suspends call nodes)) = refl
  completion_free (Ended c Sleeps) = refl
  completion_free (Ended c (configuration.Traps text)) = refl
  completion_free (Ended c Breaks) = refl

  pub prints_free : (r : Run) → (shared_progress fields results r).prints ≡ (shared_progress fields results (free_run r)).prints
  prints_free (Still c) = refl
  prints_free (Ended c (Returns v)) = refl
  prints_free (Ended c (Responds answer)) = refl
  prints_free (Ended c (Suspends call nodes)) = refl
  prints_free (Ended c Sleeps) = refl
  prints_free (Ended c (configuration.Traps text)) = refl
  prints_free (Ended c Breaks) = refl

-- ---- what was laid aside, with the execution behind it

abbrev left_as : (ℕ → Functions) → Execution → Value → Ending → Effects machine
left_as groups y v e = record { store = record { cells = list_of groups y.machine.arena y.machine.store.items; exports = v }; calls = outgoing_of y.calls; ending = ending_of groups y.machine.arena e }

module _ (x : Actor) (fs : Vec Frame Global) (y : Execution) (follows : Follows (begun x fs).execution.machine y.machine) (sound : IsSound x) where
  abbrev rest : Rest
  rest = (begun x fs).rest

  abbrev laid : Ending → Done
  laid e = done_of rest y e

  pub laid_done : (e : Ending) → IsEndingWithin y.machine.arena e → IsChange e → IsDone x (laid e)
  laid_done e within changes = record {
    sound = record {
      stores = follows.sound.stores;
      exports = exports_there;
      came = came_there x.arena y.machine.arena follows.grows x.came sound.came;
    };
    first = refl;
    made = refl;
    came = λ groups. came_stays x.arena y.machine.arena follows.grows groups x.came sound.came;
    within = within;
    changes = changes;
  }
    where
      exports_there : IsWithin y.machine.arena x.exports
      exports_there = omega (arith, sound.exports, follows.grows.more)

  module _ (groups : ℕ → Functions) (results : List TypeId) where
    abbrev fields : Fields
    fields = fields_of groups x.arena x.store.items x.exports

    abbrev leaves : Ending → Option (Completion (Effects machine))
    leaves e = Some (Completes (effects_of groups (laid e)))

    -- what was exported stays
    exports_stay : (e : Ending) → Some (Completes (left_as groups y (value_of groups x.arena x.exports) e)) ≡ leaves e
    exports_stay e = ap (λ (v : Value). Some (Completes (left_as groups y v e))) (sym (follows.grows.kept groups x.exports sound.exports))

    -- what it comes to
    pub ends_so : (r : Reached) (n : ℕ) (e : Executes (Effects machine))
        → (e n).completion ≡ (shared_progress fields results (reached_run groups y r)).completion → (e n).prints ≡ (shared_progress fields results (reached_run groups y r)).prints
        → Ends groups n (ran_of results rest y r) e
    ends_so (reached.Still f) n e c p = c
    ends_so (reached.Ended (end.Returns v)) n e c p = c
    ends_so (reached.Ended (end.Replies bytes)) n e c p = (p, c ∙ exports_stay (ending.Replies bytes))
    ends_so (reached.Ended (end.Rejects text)) n e c p = (p, c ∙ exports_stay (ending.Rejects text))
    ends_so (reached.Ended (end.Suspends call nodes f)) n e c p = (p, c ∙ exports_stay (ending.Waits call (record { nodes = nodes; results = results; focus = f; frames = y.machine.frames })))
    ends_so (reached.Ended end.Sleeps) n e c p = (p, c ∙ exports_stay ending.Sleeps)
    ends_so (reached.Ended (end.Traps text)) n e c p = (p, c)
    ends_so (reached.Ended end.Breaks) n e c p = c

  module _ (types : List Slot) (results : List TypeId) where
    pub kept_so : (r : Reached) → IsReachedWithin y.machine.arena r → IsKept x (ran_of results rest y r)
    kept_so (reached.Still f) within = tt
    kept_so (reached.Ended (end.Returns v)) within = tt
    kept_so (reached.Ended (end.Replies bytes)) within = laid_done (ending.Replies bytes) tt tt
    kept_so (reached.Ended (end.Rejects text)) within = laid_done (ending.Rejects text) tt tt
    kept_so (reached.Ended (end.Suspends call nodes f)) within =
        laid_done (ending.Waits call (record { nodes = nodes; results = results; focus = f; frames = y.machine.frames })) (within, follows.sound.frames) tt
    kept_so (reached.Ended end.Sleeps) within = laid_done ending.Sleeps tt tt
    kept_so (reached.Ended (end.Traps text)) within = tt
    kept_so (reached.Ended end.Breaks) within = tt

    pub resting_so : (groups : ℕ → Functions) (r : Reached) → IsWaiting types groups y.machine r → RestingIn groups (ran_of results rest y r)
    resting_so groups (reached.Still f) waits = tt
    resting_so groups (reached.Ended (end.Returns v)) waits = tt
    resting_so groups (reached.Ended (end.Replies bytes)) waits = tt
    resting_so groups (reached.Ended (end.Rejects text)) waits = tt
    resting_so groups (reached.Ended (end.Suspends call nodes f)) waits = rests_so types groups y.machine f waits
    resting_so groups (reached.Ended end.Sleeps) waits = tt
    resting_so groups (reached.Ended (end.Traps text)) waits = tt
    resting_so groups (reached.Ended end.Breaks) waits = tt

    pub tables_so : (r : Reached) → table_in (ran_of results rest y r) ≡ y.machine.table.items
    tables_so (reached.Still f) = refl
    tables_so (reached.Ended (end.Returns v)) = refl
    tables_so (reached.Ended (end.Replies bytes)) = refl
    tables_so (reached.Ended (end.Rejects text)) = refl
    tables_so (reached.Ended (end.Suspends call nodes f)) = refl
    tables_so (reached.Ended end.Sleeps) = refl
    tables_so (reached.Ended (end.Traps text)) = refl
    tables_so (reached.Ended end.Breaks) = refl

-- ---- methods, and what waited

-- what surrounds an execution of the actor
abbrev pub Surrounds : List Slot → Bytes → Actor → Around → Type 0
Surrounds types own x a = (coding : Coding) → IsFaithful coding → IsAround types a (surroundings coding types own (table_of coding types x.first x.made))

module _ (types : List Slot) (own : Bytes) (results : List TypeId) (n : ℕ) (x : Actor) (sound : IsSound x) (a : Around) (around : Surrounds types own x a) (y : Execution) (r : Reached) where
  groups_there : (fs : Vec Frame Global) (follows : Follows (begun x fs).execution.machine y.machine) (groups : ℕ → Functions)
      → HasGroups groups (table_in (ran_of results (begun x fs).rest y r)) → HasGroups groups y.machine.table.items
  groups_there fs follows groups has = let Of : List GroupOf → Type 0 = λ l. HasGroups groups l in subst Of (tables_so x fs y follows sound types results r) has

  method_run : (fs : Vec Frame Global) (place : Option ℕ) (caller : Bytes) (arguments : List ValueId) → IsMethodRun types a results x.exports place caller arguments n (begun x fs).execution r y
      → IsMethod types own results place caller arguments n x (ran_of results (begun x fs).rest y r)
  method_run fs place caller arguments h = record {
    tables = λ groups has. h.follows.tables groups (groups_there fs h.follows groups has);
    kept = kept_so x fs y h.follows sound types results r h.within;
    rests = λ groups has. let there : HasGroups groups y.machine.table.items = groups_there fs h.follows groups has in resting_so x fs y h.follows sound types results groups r (h.waits groups there);
    means = λ coding faithful groups has entry vs at gives are.
        let there : HasGroups groups y.machine.table.items = groups_there fs h.follows groups has in
        let s : Surroundings = surroundings coding types own (table_of coding types x.first x.made) in
        let these : Fields = fields_of groups x.arena x.store.items x.exports in
        let run : Run = run_of s these (Enters entry caller vs) n in
        let same : free_run run ≡ reached_run groups y r = h.means groups there s entry vs (around coding faithful) at gives are in
        ends_so x fs y h.follows sound groups results r n (execution_of s these (Enters entry caller vs))
        (completion_free these entry.results run ∙ ap₂ (λ (ts : List TypeId) (k : Run). (shared_progress these ts k).completion) gives same)
        (prints_free these entry.results run ∙ ap₂ (λ (ts : List TypeId) (k : Run). (shared_progress these ts k).prints) gives same);
  }

  pub method_so : (fs : Vec Frame Global) (b : Begun) (place : Option ℕ) (caller : Bytes) (arguments : List ValueId) (ran : Ran) → b ≡ begun x fs
      → IsMethodRun types a results x.exports place caller arguments n b.execution r y → ran ≡ ran_of results b.rest y r → IsMethod types own results place caller arguments n x ran
  method_so fs b place caller arguments ran is h same =
      let Of : Begun → Type 0 = λ z. IsMethodRun types a results x.exports place caller arguments n z.execution r y in
      let To : Ran → Type 0 = λ z. IsMethod types own results place caller arguments n x z in
      subst To (sym (same ∙ ap (λ (z : Begun). ran_of results z.rest y r) is)) (method_run fs place caller arguments (subst Of is h))

  resumed_run : (b : Body) (given : Given) → results ≡ b.results → IsResumedRun types a results given b.focus n (begun x b.frames).execution r y
      → IsResumed types own given b n x (ran_of results (begun x b.frames).rest y r)
  resumed_run b given typed h = record {
    tables = λ groups has. h.follows.tables groups (groups_there b.frames h.follows groups has);
    kept = kept_so x b.frames y h.follows sound types results r h.within;
    rests = λ groups has rests.
        let there : HasGroups groups y.machine.table.items = groups_there b.frames h.follows groups has in
        let waits : IsWaitingAt types groups (begun x b.frames).execution.machine b.focus = waits_so types groups (begun x b.frames).execution.machine b.focus rests in
        resting_so x b.frames y h.follows sound types results groups r (h.waits groups there waits);
    means = λ coding faithful groups has g rests gives.
        let there : HasGroups groups y.machine.table.items = groups_there b.frames h.follows groups has in
        let s : Surroundings = surroundings coding types own (table_of coding types x.first x.made) in
        let these : Fields = fields_of groups x.arena x.store.items x.exports in
        let w : Waiting = waiting_of groups x.arena b in
        let run : Run = run_of s these (Resumes w g) n in
        let other : Waiting = record { nodes = b.nodes; results = results; focus = w.focus; stack = w.stack } in
        let waits : IsWaitingAt types groups (begun x b.frames).execution.machine b.focus = waits_so types groups (begun x b.frames).execution.machine b.focus rests in
        let same : free_run run ≡ reached_run groups y r =
        ap (λ (ts : List TypeId). free_run (run_of s these (Resumes (record { nodes = b.nodes; results = ts; focus = w.focus; stack = w.stack }) g) n)) (sym typed)
        ∙ h.means groups there s g b.nodes (value_of groups x.arena x.exports) (around coding faithful) waits gives in
        ends_so x b.frames y h.follows sound groups results r n (execution_of s these (Resumes w g))
        (completion_free these b.results run ∙ ap₂ (λ (ts : List TypeId) (k : Run). (shared_progress these ts k).completion) (sym typed) same)
        (prints_free these b.results run ∙ ap₂ (λ (ts : List TypeId) (k : Run). (shared_progress these ts k).prints) (sym typed) same);
  }

  pub resumed_so : (b : Body) (given : Given) (start : Begun) (ran : Ran) → results ≡ b.results → start ≡ begun x b.frames
      → IsResumedRun types a results given b.focus n start.execution r y → ran ≡ ran_of results start.rest y r → IsResumed types own given b n x ran
  resumed_so b given start ran typed is h same =
      let Of : Begun → Type 0 = λ z. IsResumedRun types a results given b.focus n z.execution r y in
      let To : Ran → Type 0 = λ z. IsResumed types own given b n x z in
      subst To (sym (same ∙ ap (λ (z : Begun). ran_of results z.rest y r) is)) (resumed_run b given typed (subst Of is h))
