-- The execution in which an actor saves, without its cost.
use Rattle.std.proofs.Common.{◌≡◌, ℕ, List, [], ◌∷◌, length, map, Option, Some, None, Vec, Global, refl, sym, ap, ap₂, ◌∙◌, subst}
use Rattle.std.proofs.lemmas.List.{length-map}
use Rattle.mo_types.specs.declared.datum.Datum.{Datum}
use Rattle.mo_types.specs.declared.node.TypeId.{TypeId}
use Rattle.mo_types.specs.Code.{Variable}
use Rattle.mo_types.specs.Heads.{map_option}
use Rattle.mo_values.specs.Shapes.{Bytes}
use Rattle.mo_actor.specs.Executions.{Completes, Execution as Executes, Progress}
use Rattle.typed_tree.specs.declared.program.Program.{Program}
use Rattle.typed_tree.specs.declared.program.StableVariable.{StableVariable as Written}
use Rattle.typed_tree.specs.Language.{Functions}
use Rattle.typed_tree.specs.Language as typed
use Rattle.typed_tree.specs.ProgramView.{program, stable_variable}
use Rattle.typed_tree.specs.Programs as typed_programs
use Rattle.mo_meaning.specs.Coding.{Coding, IsFaithful, Types}
use Rattle.mo_meaning.specs.Configurations as meaning
use Rattle.mo_meaning.specs.Configurations.{Surroundings}
use Rattle.mo_meaning.specs.Exports as exports
use Rattle.mo_meaning.specs.Kernel.{Kept, Outgoing}
use Rattle.mo_meaning.specs.Saving as saving
use Rattle.mo_meaning.specs.Saving.{alone, kept_progress, saved_progress, variables_of}
use Rattle.mo_machine.specs.Acts.{Store}
use Rattle.mo_machine.specs.Configurations.{Breaks, Configuration, Ended, Responds, Returns, Run, Sleeps, Still, Suspends}
use Rattle.mo_machine.specs.Configurations as configuration
use Rattle.mo_machine.specs.Exports.{before_upgrade}
use Rattle.mo_machine.specs.Frames.{Focus, Returning, Stack}
use Rattle.mo_machine.specs.Runs.{unload_configuration, unload_run}
use Rattle.mo_machine.specs.Starting.{hook, save_of, saving_from}
use Rattle.mo_machine.specs.Turns.{turns}
use Rattle.mo_machine.specs.Unload.{unload, unload_list}
use Rattle.mo_machine.specs.Values.{Value}
use Rattle.value_arena.specs.declared.node.Node.{Node}
use Rattle.value_arena.specs.declared.node.ValueId.{ValueId}
use Rattle.value_arena.specs.Growth.{AreWithin, Grows, IsWithin}
use Rattle.value_arena.specs.Meaning.{value_of}
use Rattle.value_arena.proofs.Growing.{composes, values_there}
use Rattle.arena_states.specs.declared.frame.Focus.{Focus as Place}
use Rattle.arena_states.specs.declared.frame.Frame.{Frame}
use Rattle.arena_states.specs.declared.group.GroupOf.{GroupOf}
use Rattle.arena_states.specs.Groups.{HasGroups}
use Rattle.arena_states.specs.Standing.{focus_of, list_of, stack_of, AreFramesWithin}
use Rattle.arena_equality.specs.Own.{AreOwnLabels}
use Rattle.arena_reductions.proofs.Reducing.{list_stays}
use Rattle.arena_machine.specs.declared.machine.Machine.{Machine}
use Rattle.arena_machine.specs.Costless.{at_end, free_run}
use Rattle.arena_machine.specs.Machines as machines
use Rattle.arena_machine.proofs.Costless.{free_turns}
use Rattle.arena_executions.specs.declared.around.Around.{Around}
use Rattle.arena_executions.specs.declared.execution.Execution.{Execution}
use Rattle.arena_executions.specs.declared.execution.Outgoing.{Outgoing as Call}
use Rattle.arena_executions.specs.declared.reached.End.{End}
use Rattle.arena_executions.specs.declared.reached.End.TheVariants as end
use Rattle.arena_executions.specs.declared.reached.Reached.{Reached}
use Rattle.arena_executions.specs.declared.reached.Reached.TheVariants as reached
use Rattle.arena_executions.specs.Reaching.{calls_of, over, reached_run, standing}
use Rattle.arena_executions.specs.Runs.{IsExecuted}
use Rattle.arena_executions.specs.Surrounding.{IsAround}
use Rattle.arena_actors.specs.declared.actor.Actor.{Actor}
use Rattle.arena_actors.specs.States.{fields_of, IsSound}
use Rattle.arena_saving.specs.declared.saved.Saved.{Saved}
use Rattle.arena_saving.specs.declared.saved.Saved.TheVariants as saved
use Rattle.arena_saving.specs.Saving.{held_in, keeping_as, parts_in, stable_cells, saving_frames, table_in, IsEnding, IsHooked, IsKeeping, IsReaching, IsSaved, IsSavingFrom, Saves}
use Rattle.arena_saving.proofs.Unloads.{cells_same, found, held_in_same, missing}

-- ---- ends

pub ending_other : (types : Types) (stable : List _) (m : Machine) (exports : ValueId) (e : End) → ((v : ValueId) → e ≡ end.Returns v → ⊥) → ((text : Bytes) → e ≡ end.Traps text → ⊥) → IsEnding types stable m exports e (saved.Still m.table)
ending_other types stable m exports (end.Returns v) a b = absurd (a v refl)
ending_other types stable m exports (end.Traps text) a b = absurd (b text refl)
ending_other types stable m exports (end.Replies bytes) a b = refl
ending_other types stable m exports (end.Rejects text) a b = refl
ending_other types stable m exports (end.Suspends call nodes f) a b = refl
ending_other types stable m exports end.Sleeps a b = refl
ending_other types stable m exports end.Breaks a b = refl

-- ---- the progress without its cost

module _ (coding : Coding) (types : Types) (p : typed_programs.Program) (e : typed.Value) where
  abbrev comes : Run → Progress Kept
  comes r = kept_progress coding types p e (unload_run r)

  saved_alike : (vs : List typed.Value) (c d : meaning.Configuration) (o : Option (List (Variable TypeId))) → (saved_progress coding types p vs c o).completion ≡ (saved_progress coding types p vs d o).completion
  saved_alike vs c d None = refl
  saved_alike vs c d (Some ws) = refl

  saved_prints : (vs : List typed.Value) (c : meaning.Configuration) (o : Option (List (Variable TypeId))) → (saved_progress coding types p vs c o).prints ≡ c.prints
  saved_prints vs c None = refl
  saved_prints vs c (Some ws) = refl

  completion_free : (r : Run) → (comes r).completion ≡ (comes (free_run r)).completion
  completion_free (Still c) = refl
  completion_free (Ended c (Returns v)) =
      let vs : List typed.Value = saving.held_in (unload_list c.store) (exports.stable_cells e) in
      saved_alike vs (unload_configuration c) (unload_configuration (at_end c)) (variables_of types p.stable vs)
  completion_free (Ended c (Responds answer)) = refl
  completion_free (Ended c (Suspends call nodes)) = refl
  completion_free (Ended c Sleeps) = refl
  completion_free (Ended c (configuration.Traps text)) = refl
  completion_free (Ended c Breaks) = refl

  prints_free : (r : Run) → (comes r).prints ≡ (comes (free_run r)).prints
  prints_free (Still c) = refl
  prints_free (Ended c (Returns v)) =
      let vs : List typed.Value = saving.held_in (unload_list c.store) (exports.stable_cells e) in
      saved_prints vs (unload_configuration c) (variables_of types p.stable vs) ∙ sym (saved_prints vs (unload_configuration (at_end c)) (variables_of types p.stable vs))
  prints_free (Ended c (Responds answer)) = refl
  prints_free (Ended c (Suspends call nodes)) = refl
  prints_free (Ended c Sleeps) = refl
  prints_free (Ended c (configuration.Traps text)) = refl
  prints_free (Ended c Breaks) = refl

  -- where the hook returns
  module _ (vs : List typed.Value) (c : meaning.Configuration) where
    pub saved_some : (ws : List (Variable TypeId)) → variables_of types p.stable vs ≡ Some ws
        → (saved_progress coding types p vs c (variables_of types p.stable vs)).completion ≡ Some (Completes (record { types = types; variables = ws }))
    saved_some ws is = ap (λ (o : Option (List (Variable TypeId))). (saved_progress coding types p vs c o).completion) is

    pub saved_none : variables_of types p.stable vs ≡ None → (saved_progress coding types p vs c (variables_of types p.stable vs)).completion ≡ None
    saved_none is = ap (λ (o : Option (List (Variable TypeId))). (saved_progress coding types p vs c o).completion) is

-- ---- where the hook begins

module _ (stable : List Written) (x : Actor) (m : Machine) (from : IsSavingFrom x (saving_frames stable) m) (sound : IsSound x) where
  stored : AreWithin m.arena m.store.items
  stored =
      let Of : List Node → Type 0 = λ l. AreWithin l m.store.items in
      let At : List ValueId → Type 0 = λ l. AreWithin x.arena l in
      subst Of (sym from.arena) (subst At (sym from.store) sound.stores)

  pub machine_sound : (ns : List Node) → Grows m.arena ns → machines.IsSound (record m { arena = ns })
  machine_sound ns grows =
      let Of : List Frame → Type 0 = λ l. AreFramesWithin ns l in
      record { stores = values_there m.arena ns grows m.store.items stored; frames = subst Of (sym from.frames) (tt, tt) }

  pub exports_there : IsWithin m.arena x.exports
  exports_there = let Of : List Node → Type 0 = λ l. IsWithin l x.exports in subst Of (sym from.arena) sound.exports

-- the frame is that of as many variables as the program has
pub saving_here : (x : Actor) (m : Machine) (fs : List Frame) (seen stable : List Written) → fs ≡ saving_frames seen → seen ≡ stable → IsSavingFrom x fs m → IsSavingFrom x (saving_frames stable) m
saving_here x m fs seen stable is same from = let Of : List Frame → Type 0 = λ l. IsSavingFrom x l m in subst Of (is ∙ ap (λ l. saving_frames l) same) from

-- ---- the whole

-- a machine that has cost nothing, printed nothing and called nothing
abbrev clean : List Bytes → List Outgoing → Store → Focus → Stack → Configuration
clean ts calls vs f k = record { weight = 0; depth = 0; prints = ts; calls = calls; store = vs; focus = f; stack = k }

tables_ended : (types : Types) (stable : List _) (m : Machine) (exports : ValueId) (e : End) (s : Saved) → IsEnding types stable m exports e s → table_in s ≡ m.table.items
tables_ended types stable m exports (end.Returns v) s h = ap (λ (z : Saved). table_in z) h.is ∙ by h.parts
  where
    by : (o : Option (Vec (Vec Datum Global) Global)) → table_in (keeping_as m o) ≡ m.table.items
    by None = refl
    by (Some ps) = refl
tables_ended types stable m exports (end.Traps text) s h = ap (λ (z : Saved). table_in z) h
tables_ended types stable m exports (end.Replies bytes) s h = ap (λ (z : Saved). table_in z) h
tables_ended types stable m exports (end.Rejects text) s h = ap (λ (z : Saved). table_in z) h
tables_ended types stable m exports (end.Suspends call nodes f) s h = ap (λ (z : Saved). table_in z) h
tables_ended types stable m exports end.Sleeps s h = ap (λ (z : Saved). table_in z) h
tables_ended types stable m exports end.Breaks s h = ap (λ (z : Saved). table_in z) h

tables_so : (types : Types) (stable : List _) (m : Machine) (exports : ValueId) (r : Reached) (s : Saved) → IsReaching types stable m exports r s → table_in s ≡ m.table.items
tables_so types stable m exports (reached.Still f) s h = ap (λ (z : Saved). table_in z) h
tables_so types stable m exports (reached.Ended e) s h = tables_ended types stable m exports e s h

module _ (p : Program) (own : Bytes) (n : ℕ) (a : Around) (x : Actor) (m : Machine) (mid y : Execution) (ns : List Node) (f : Place) (r : Reached) (s : Saved) (labels : AreOwnLabels p.types)
    (around : (coding : Coding) (types : Types) → IsFaithful coding → IsAround types a (alone coding types own)) (from : IsSavingFrom x (saving_frames p.stable) m) (sound : IsSound x) (machine : mid.machine ≡ record m { arena = ns }) (calls : mid.calls ≡ [])
    (hooked : IsHooked m.arena x.exports f ns) (run : IsExecuted p.types a n mid f r y) (reaching : IsReaching p.types p.stable y.machine x.exports r s) where
  abbrev exported : (ℕ → Functions) → Value
  exported groups = value_of groups x.arena x.exports

  -- what the actor has in the arena of the machine
  exports_same : (groups : ℕ → Functions) → value_of groups m.arena x.exports ≡ exported groups
  exports_same groups = ap (λ (l : List Node). value_of groups l x.exports) from.arena

  within_there : IsWithin m.arena x.exports
  within_there = exports_there p.stable x m from sound

  store_same : (groups : ℕ → Functions) → list_of groups ns m.store.items ≡ list_of groups x.arena x.store.items
  store_same groups =
      list_stays m.arena ns m.store.items hooked.grows (stored p.stable x m from sound) groups
      ∙ ap₂ (λ (l : List Node) (ids : List ValueId). list_of groups l ids) from.arena from.store

  -- it stands where the hook begins
  stands : (groups : ℕ → Functions) → clean [] [] (list_of groups x.arena x.store.items) (hook (before_upgrade (exported groups))) (Returning (length (program p).stable) ∷ []) ≡ standing groups mid f
  stands groups =
      ap₂ (λ (ts : List Bytes) (os : List Outgoing). clean ts os (list_of groups x.arena x.store.items) (hook (before_upgrade (exported groups))) (Returning (length (program p).stable) ∷ [])) (sym from.prints)
      (sym (ap (λ (l : List Call). calls_of l) calls))
      ∙ ap (λ (nodes : ℕ). clean m.prints (calls_of mid.calls) (list_of groups x.arena x.store.items) (hook (before_upgrade (exported groups))) (Returning nodes ∷ [])) (length-map p.stable stable_variable)
      ∙ ap₂ (λ (vs : Store) (k : Stack). clean m.prints (calls_of mid.calls) vs (hook (before_upgrade (exported groups))) k) (sym (store_same groups)) (sym (ap (λ (fs : List Frame). stack_of groups ns fs) from.frames))
      ∙ ap (λ (g : Focus). clean m.prints (calls_of mid.calls) (list_of groups ns m.store.items) g (stack_of groups ns m.frames.items))
      (ap (λ (v : Value). hook (before_upgrade v)) (sym (exports_same groups)) ∙ sym (hooked.means groups))
      ∙ ap (λ (z : Machine). clean z.prints (calls_of mid.calls) (list_of groups z.arena z.store.items) (focus_of groups z.arena f) (stack_of groups z.arena z.frames.items)) (sym machine)

  grown : Grows m.arena y.machine.arena
  grown =
      let Of : List Node → Type 0 = λ l. Grows l y.machine.arena in
      composes m.arena ns y.machine.arena hooked.grows (subst Of (ap (λ (z : Machine). z.arena) machine) run.follows.grows)

  module _ (coding : Coding) (faithful : IsFaithful coding) (groups : ℕ → Functions) (has : HasGroups groups y.machine.table.items) where
    abbrev e : typed.Value
    e = unload (exported groups)

    abbrev saves : Executes Kept
    saves = save_of coding p.types (program p) own (fields_of groups x.arena x.store.items x.exports)

    abbrev begins : Configuration
    begins = saving_from (program p) (fields_of groups x.arena x.store.items x.exports)

    so : free_run (turns (alone coding p.types own) n begins) ≡ reached_run groups y r
    so =
        let here : Surroundings = alone coding p.types own in
        let c : Configuration = begins in
        free_turns here n c ∙ ap (λ (d : Configuration). free_run (turns here n d)) (stands groups) ∙ run.means groups has here (around coding p.types faithful)

    completes : (saves n).completion ≡ (comes coding p.types (program p) e (reached_run groups y r)).completion
    completes =
        completion_free coding p.types (program p) e (turns (alone coding p.types own) n begins)
        ∙ ap (λ (k : Run). (comes coding p.types (program p) e k).completion) so

    printed : (saves n).prints ≡ (comes coding p.types (program p) e (reached_run groups y r)).prints
    printed =
        prints_free coding p.types (program p) e (turns (alone coding p.types own) n begins)
        ∙ ap (λ (k : Run). (comes coding p.types (program p) e k).prints) so

    -- what the cells hold, as values of the machine
    abbrev held : List Value
    held = held_in (list_of groups y.machine.arena y.machine.store.items) (stable_cells (value_of groups y.machine.arena x.exports))

    held_same : saving.held_in (unload_list (list_of groups y.machine.arena y.machine.store.items)) (exports.stable_cells e) ≡ unload_list held
    held_same =
        ap (λ vs. saving.held_in (unload_list (list_of groups y.machine.arena y.machine.store.items)) vs)
        (cells_same (exported groups) ∙ ap (λ (v : Value). unload_list (stable_cells v)) (sym (grown.kept groups x.exports within_there ∙ exports_same groups)))
        ∙ held_in_same (list_of groups y.machine.arena y.machine.store.items) (stable_cells (value_of groups y.machine.arena x.exports))

    abbrev at_return : meaning.Configuration
    at_return = unload_configuration (over groups y.machine (calls_of y.calls))

    -- where the hook returns
    returns_so : (v : ValueId) → IsKeeping p.types p.stable y.machine x.exports s → (saves n).completion ≡ (comes coding p.types (program p) e (reached_run groups y (reached.Ended (end.Returns v)))).completion
        → (saves n).prints ≡ (comes coding p.types (program p) e (reached_run groups y (reached.Ended (end.Returns v)))).prints → Saves p.types (program p).stable n s saves
    returns_so v keep done said = by keep.parts keep.is (keep.means groups)
      where
        vs : List typed.Value
        vs = saving.held_in (unload_list (list_of groups y.machine.arena y.machine.store.items)) (exports.stable_cells e)

        by : (o : Option (Vec (Vec Datum Global) Global)) → s ≡ keeping_as y.machine o → map_option (λ ps. map (λ q. q.items) ps.items) o ≡ parts_in p.types (program p).stable held → Saves p.types (program p).stable n s saves
        by None is parts =
            let Of : Saved → Type 0 = λ z. Saves p.types (program p).stable n z saves in
            subst Of (sym is) (done ∙ saved_none coding p.types (program p) e vs at_return
            (ap (λ (l : List typed.Value). variables_of p.types (program p).stable l) held_same ∙ missing p.types (program p).stable held parts))
        by (Some ps) is parts =
            let Of : Saved → Type 0 = λ z. Saves p.types (program p).stable n z saves in
            let all = found p.types labels (program p).stable held (map (λ q. q.items) ps.items) parts in
            subst Of (sym is) (
              said ∙ saved_prints coding p.types (program p) e vs at_return (variables_of p.types (program p).stable vs),
              all.0,
              all.2,
              done ∙ saved_some coding p.types (program p) e vs at_return all.0 (ap (λ (l : List typed.Value). variables_of p.types (program p).stable l) held_same ∙ all.1),
            )

    comes_so : (q : Reached) → IsReaching p.types p.stable y.machine x.exports q s → (saves n).completion ≡ (comes coding p.types (program p) e (reached_run groups y q)).completion
        → (saves n).prints ≡ (comes coding p.types (program p) e (reached_run groups y q)).prints → Saves p.types (program p).stable n s saves
    comes_so (reached.Ended (end.Returns v)) h done said = returns_so v h done said
    comes_so (reached.Ended (end.Traps text)) h done said = let Of : Saved → Type 0 = λ z. Saves p.types (program p).stable n z saves in subst Of (sym h) (said, done)
    comes_so (reached.Still g) h done said = let Of : Saved → Type 0 = λ z. Saves p.types (program p).stable n z saves in subst Of (sym h) done
    comes_so (reached.Ended (end.Replies bytes)) h done said = let Of : Saved → Type 0 = λ z. Saves p.types (program p).stable n z saves in subst Of (sym h) done
    comes_so (reached.Ended (end.Rejects text)) h done said = let Of : Saved → Type 0 = λ z. Saves p.types (program p).stable n z saves in subst Of (sym h) done
    comes_so (reached.Ended (end.Suspends call nodes g)) h done said = let Of : Saved → Type 0 = λ z. Saves p.types (program p).stable n z saves in subst Of (sym h) done
    comes_so (reached.Ended end.Sleeps) h done said = let Of : Saved → Type 0 = λ z. Saves p.types (program p).stable n z saves in subst Of (sym h) done
    comes_so (reached.Ended end.Breaks) h done said = let Of : Saved → Type 0 = λ z. Saves p.types (program p).stable n z saves in subst Of (sym h) done

  pub saves_so : IsSaved p own n x s
  saves_so = record {
    tables = λ groups has.
        let Of : List GroupOf → Type 0 = λ l. HasGroups groups l in
        let there : HasGroups groups y.machine.table.items = subst Of (tables_so p.types p.stable y.machine x.exports r s reaching) has in
        subst Of (ap (λ (z : Machine). z.table.items) machine ∙ from.table) (run.follows.tables groups there);
    means = λ coding faithful groups has.
        let Of : List GroupOf → Type 0 = λ l. HasGroups groups l in
        let there : HasGroups groups y.machine.table.items = subst Of (tables_so p.types p.stable y.machine x.exports r s reaching) has in
        comes_so coding faithful groups there r reaching (completes coding faithful groups there) (printed coding faithful groups there);
  }
