-- The executions of an actor that keeps the machine's states stand for those of the meaning.
use Rattle.std.proofs.Common.{◌≡◌, ℕ, ◌+◌, List, [], ◌∷◌, ◌++◌, length, Option, Some, None, refl, sym, ap, ap₂, ◌∙◌, slice_get}
use Rattle.std.specs.Prelude.{map}
use Rattle.mo_types.specs.declared.datum.Datum.TheVariants as part
use Rattle.mo_types.specs.declared.node.TypeId.{TypeId}
use Rattle.mo_types.specs.Heads.{map_option}
use Rattle.mo_values.specs.Shapes.{Bytes, Present}
use Rattle.mo_actor.specs.Programs.{OutgoingCall}
use Rattle.typed_tree.specs.declared.action.Action.TheVariants as action
use Rattle.typed_tree.specs.Language as typed
use Rattle.typed_tree.specs.Language.{Exp, Exps, Val, Do, AnExp}
use Rattle.typed_tree.specs.Programs.{Program, Method}
use Rattle.typed_tree.specs.Substitution.{put}
use Rattle.mo_meaning.specs.Actor as actor
use Rattle.mo_meaning.specs.Actor.{surroundings}
use Rattle.mo_meaning.specs.Bodies as bodies
use Rattle.mo_meaning.specs.Bodies.{called, context, resume_function}
use Rattle.mo_meaning.specs.Coding.{Types, Coding}
use Rattle.mo_meaning.specs.Configurations as meaning
use Rattle.mo_meaning.specs.Configurations.{Surroundings}
use Rattle.mo_meaning.specs.Exports as exports
use Rattle.mo_meaning.specs.Kernel.{kernel, Entry, Kept}
use Rattle.mo_meaning.specs.Messages.{read_values}
use Rattle.mo_meaning.specs.Places.{operands}
use Rattle.mo_meaning.specs.Saving as saving
use Rattle.mo_meaning.specs.Saving.{alone, kept_progress}
use Rattle.mo_meaning.specs.Starting as starting
use Rattle.mo_meaning.specs.Starting.{Taken, all_taken, all_kept, values_of_taken, kept_cost, nothing_kept, method_slot, kept_slot, then_hook}
use Rattle.mo_meaning.specs.Turns as reductions
use Rattle.mo_machine.specs.Values.{Value, Made, NoValue, AValue, load, load_list}
use Rattle.mo_machine.specs.Environments.{extended}
use Rattle.mo_machine.specs.Acts.{Store}
use Rattle.mo_machine.specs.Frames.{Returning, Stack, Focus, Ready}
use Rattle.mo_machine.specs.Configurations.{Returns, Responds, Suspends, Sleeps, Traps, Breaks, Run, Still, Ended, weighed}
use Rattle.mo_machine.specs.Turns.{turns, turns_given}
use Rattle.mo_machine.specs.Unload.{unload, unload_list, slots, focused, unload_state}
use Rattle.mo_machine.specs.Runs.{unload_configuration, unload_run}
use Rattle.mo_machine.specs.ActorLanguage.{Fields, Body, Enters, Resumes, unload_fields, unload_body, unload_effects, call_of_machine, call_of_meaning, on_progress}
use Rattle.mo_machine.specs.Exports.{value_or_unit, values_in, part_at, option_value, function_or, function_at, before_upgrade}
use Rattle.mo_machine.specs.Bodies.{beginning, entering, run_of, shared_progress, results_of, execution_of}
use Rattle.mo_machine.specs.Starting.{kept_value, method_value, outer_values, declared, upgraded_from, fields_progress, hook, saving_from, start_from, start_of, save_of}
use Rattle.mo_machine.specs.States.{entered, EntersAlike, ResumesAlike, RunsAlike, StartsAlike, SavesAlike}
use Rattle.mo_machine.proofs.Depth.{depth_same}
use Rattle.mo_machine.proofs.Runs.{turns_same, turns_given_same}
use Rattle.mo_machine.proofs.Turns.{weighed_same, reply_same}
use Rattle.mo_machine.proofs.Unloaded.{unload_load, unload_load_list, list_unloaded, list_get, before_operands}

-- ---- where executions begin

beginning_same : (weight : ℕ) (store : Store) (f : Focus) (k : Stack) → unload_configuration (beginning weight store f k) ≡ meaning.beginning weight (unload_list store) (unload_state f k)
beginning_same weight store f k =
    ap (λ d. record { weight = weight; depth = d; prints = []; calls = []; store = unload_list store; at = unload_state f k }) (sym (depth_same f k))

value_or_same : (o : Option Value) → exports.value_or_unit (map_option unload o) ≡ unload (value_or_unit o)
value_or_same None = refl
value_or_same (Some v) = refl

values_in_same : (v : Value) → exports.values_in (unload v) ≡ unload_list (values_in v)
values_in_same (Made head inside) = list_unloaded inside
values_in_same _ = refl

part_same : (i : ℕ) (v : Value) → exports.part_at i (unload v) ≡ unload (part_at i v)
part_same i v = ap (λ vs. exports.value_or_unit (slice_get vs i)) (values_in_same v) ∙ ap exports.value_or_unit (list_get (values_in v) i) ∙ value_or_same (slice_get (values_in v) i)

option_value_same : (v : Value) → exports.option_value (unload v) ≡ map_option unload (option_value v)
option_value_same (Made Present (AValue v NoValue)) = refl
option_value_same _ = refl

function_or_same : (o : Option Value) → bodies.function_or (map_option unload o) ≡ unload (function_or o)
function_or_same None = sym (unload_load resume_function)
function_or_same (Some f) = refl

function_same : (fields : Fields) (place : Option ℕ) → bodies.function_at (unload_fields fields) place ≡ unload (function_at fields.exports place)
function_same fields None = sym (unload_load resume_function)
function_same fields (Some place) =
    ap (λ v. bodies.function_or (slice_get (exports.values_in v) place)) (part_same 0 fields.exports)
    ∙ ap (λ vs. bodies.function_or (slice_get vs place)) (values_in_same (part_at 0 fields.exports))
    ∙ ap bodies.function_or (list_get (values_in (part_at 0 fields.exports)) place)
    ∙ function_or_same (slice_get (values_in (part_at 0 fields.exports)) place)

entering_same : (fields : Fields) (entry : Entry) (caller : Bytes) (vs : List typed.Value)
    → unload_configuration (entering fields entry caller vs) ≡ meaning.beginning (2 + length caller) (unload_list fields.cells) (called (bodies.function_at (unload_fields fields) entry.place) caller vs)
entering_same fields entry caller vs =
    let f = function_at fields.exports entry.place in
    let there = λ (e : Exp). meaning.beginning (2 + length caller) (unload_list fields.cells) e in
    beginning_same (2 + length caller) fields.cells (Ready action.Call (f ∷ load (context caller) ∷ load_list vs)) []
    ∙ ap (λ es. there (Do action.Call (AnExp (Val (unload f)) (AnExp (Val (unload (load (context caller)))) es)))) (before_operands (load_list vs) ∙ ap operands (unload_load_list vs))
    ∙ ap₂ (λ g c. there (Do action.Call (AnExp (Val g) (AnExp (Val c) (operands vs))))) (sym (function_same fields entry.place)) (unload_load (context caller))

-- ---- what executions leave

calls_same : (calls : List (OutgoingCall kernel)) → map call_of_meaning (map call_of_machine calls) ≡ calls
calls_same [] = refl
calls_same (c ∷ calls) = ap (λ rest. c ∷ rest) (calls_same calls)

progress_same : (fields : Fields) (results : List TypeId) (r : Run)
    → on_progress unload_effects (shared_progress fields results r) ≡ bodies.shared_progress (unload_fields fields) results (unload_run r)
progress_same fields results (Still c) = refl
progress_same fields results (Ended c (Returns v)) = refl
progress_same fields results (Ended c (Responds answer)) = ap (λ calls. bodies.shared_progress (unload_fields fields) results (meaning.Ended (record (unload_configuration c) { calls = calls }) (meaning.Responds answer))) (calls_same c.calls)
progress_same fields results (Ended c (Suspends call nodes)) =
    ap (λ calls. bodies.shared_progress (unload_fields fields) results (meaning.Ended (record (unload_configuration c) { calls = calls }) (meaning.Suspends call nodes))) (calls_same c.calls)
progress_same fields results (Ended c Sleeps) = ap (λ calls. bodies.shared_progress (unload_fields fields) results (meaning.Ended (record (unload_configuration c) { calls = calls }) meaning.Sleeps)) (calls_same c.calls)
progress_same fields results (Ended c (Traps text)) = refl
progress_same fields results (Ended c Breaks) = refl

fields_same : (r : Run) → on_progress unload_fields (fields_progress r) ≡ starting.fields_progress (unload_run r)
fields_same (Still c) = refl
fields_same (Ended c (Returns v)) = refl
fields_same (Ended c (Responds answer)) = refl
fields_same (Ended c (Suspends call nodes)) = refl
fields_same (Ended c Sleeps) = refl
fields_same (Ended c (Traps text)) = refl
fields_same (Ended c Breaks) = refl

-- ---- bodies

module _ (s : Surroundings) where
  run_of_same : (fields : Fields) (body : Body) (n : ℕ) → unload_run (run_of s fields body n) ≡ bodies.body_run s (unload_fields fields) (unload_body body) n
  run_of_same fields (Enters entry caller vs) n =
      reply_same s entry.results (turns s n (entering fields entry caller vs))
      ∙ ap (reductions.as_reply s entry.results) (sym (turns_same s n (entering fields entry caller vs)) ∙ ap (reductions.turns s n) (entering_same fields entry caller vs))
  run_of_same fields (Resumes w g) n =
      let c = beginning w.nodes fields.cells w.focus w.stack in
      reply_same s w.results (turns_given s g n c)
      ∙ ap (reductions.as_reply s w.results) (sym (turns_given_same s g n c) ∙ ap (reductions.turns_given s g n) (beginning_same w.nodes fields.cells w.focus w.stack))

  results_same : (body : Body) → results_of body ≡ bodies.results_of (unload_body body)
  results_same (Enters entry caller vs) = refl
  results_same (Resumes w g) = refl

  execution_same : (fields : Fields) (body : Body) (n : ℕ) → on_progress unload_effects (execution_of s fields body n) ≡ bodies.body_execution s (unload_fields fields) (unload_body body) n
  execution_same fields body n =
      progress_same fields (results_of body) (run_of s fields body n)
      ∙ ap₂ (λ results r. bodies.shared_progress (unload_fields fields) results r) (results_same body) (run_of_same fields body n)

-- ---- start and saving

kept_same : (o : Option typed.Value) → Some (unload (kept_value o)) ≡ kept_slot o
kept_same None = refl
kept_same (Some v) = ap (λ w. Some (typed.Made Present (typed.AValue w typed.NoValue))) (unload_load v)

outer_kept : (kept : List (Option typed.Value)) → slots (extended (map kept_value kept) NoValue) ≡ map kept_slot kept
outer_kept [] = refl
outer_kept (o ∷ kept) = ap₂ (λ x r. x ∷ r) (kept_same o) (outer_kept kept)

outer_methods : (own : Bytes) (methods : List Method) (kept : List (Option typed.Value))
    → slots (extended (map (method_value own) methods ++ map kept_value kept) NoValue) ≡ map (method_slot own) methods ++ map kept_slot kept
outer_methods own [] kept = outer_kept kept
outer_methods own (m ∷ methods) kept = ap (λ r. method_slot own m ∷ r) (outer_methods own methods kept)

outer_same : (own : Bytes) (methods : List Method) (kept : List (Option typed.Value)) → slots (outer_values own methods kept) ≡ starting.outer_slots own methods kept
outer_same own methods kept = ap (λ r. Some (typed.leaf (part.Actor own)) ∷ r) (outer_methods own methods kept)

module _ (coding : Coding) (types : Types) (p : Program) where
  upgraded_same : (own : Bytes) (o : Option (List (Option typed.Value))) → focused (upgraded_from own p o) ≡ starting.upgraded_from own p o
  upgraded_same own None = refl
  upgraded_same own (Some kept) = ap (λ s. typed.Frame p.nodes (then_hook (put s p.body))) (outer_same own p.methods kept)

  start_upgraded_same : (own : Bytes) (kept : Kept) (ts : List Taken)
      → unload_configuration (weighed (kept_cost coding types p kept (values_of_taken ts)) (beginning p.nodes [] (upgraded_from own p (all_kept ts)) [])) ≡ starting.start_upgraded coding types p own kept ts
  start_upgraded_same own kept ts =
      let cost = kept_cost coding types p kept (values_of_taken ts) in
      let f = upgraded_from own p (all_kept ts) in
      weighed_same cost (beginning p.nodes [] f [])
      ∙ ap (meaning.weighed cost) (beginning_same p.nodes [] f [] ∙ ap (meaning.beginning p.nodes []) (upgraded_same own (all_kept ts)))

  start_from_same : (own : Bytes) (kept : Option Kept) → unload_configuration (start_from coding types p own kept) ≡ starting.start_from coding types p own kept
  start_from_same own None =
      beginning_same p.nodes [] (declared own p (nothing_kept p.stable)) []
      ∙ ap (λ s. meaning.beginning p.nodes [] (typed.Frame p.nodes (put s p.body))) (outer_same own p.methods (nothing_kept p.stable))
  start_from_same own (Some kept) = start_upgraded_same own kept (all_taken coding kept.types types kept.variables p.stable)

  start_same : (own : Bytes) (kept : Option Kept) (n : ℕ) → on_progress unload_fields (start_of coding types p own kept n) ≡ starting.start coding types p own kept n
  start_same own kept n =
      let s = alone coding types own in
      fields_same (turns s n (start_from coding types p own kept))
      ∙ ap starting.fields_progress (sym (turns_same s n (start_from coding types p own kept)) ∙ ap (reductions.turns s n) (start_from_same own kept))

  hook_same : (nodes : ℕ) (o : Option Value) → unload_state (hook o) (Returning nodes ∷ []) ≡ saving.hook nodes (map_option unload o)
  hook_same nodes None = refl
  hook_same nodes (Some f) = refl

  save_same : (own : Bytes) (fields : Fields) (n : ℕ) → save_of coding types p own fields n ≡ saving.save coding types p own (unload_fields fields) n
  save_same own fields n =
      let s = alone coding types own in
      let nodes = length p.stable in
      let c = saving_from p fields in
      ap (kept_progress coding types p (unload fields.exports))
      (sym (turns_same s n c)
      ∙ ap (reductions.turns s n) (beginning_same nodes fields.cells (hook (before_upgrade fields.exports)) (Returning nodes ∷ [])
      ∙ ap (λ e. meaning.beginning nodes (unload_list fields.cells) e) (hook_same nodes (before_upgrade fields.exports)
      ∙ ap (saving.hook nodes) (sym (ap exports.option_value (part_same 1 fields.exports) ∙ option_value_same (part_at 1 fields.exports))))))

entered_same : (entry : Entry) (caller : Bytes) (o : Option (List typed.Value)) → map_option unload_body (entered entry caller o) ≡ actor.entered entry caller o
entered_same entry caller None = refl
entered_same entry caller (Some vs) = refl

module _ (coding : Coding) (first : ℕ) (types : Types) (p : Program) where
  pub enters_alike : EntersAlike coding first types p
  enters_alike entry caller argument = entered_same entry caller (read_values coding types entry.parameters argument)

  pub resumes_alike : ResumesAlike coding first types p
  resumes_alike w g = refl

  pub runs_alike : RunsAlike coding first types p
  runs_alike own table fields body n = execution_same (surroundings coding types own table) fields body n

  pub starts_alike : StartsAlike coding first types p
  starts_alike own kept n = start_same coding types p own kept n

  pub saves_alike : SavesAlike coding first types p
  saves_alike own fields n = save_same coding types p own fields n
