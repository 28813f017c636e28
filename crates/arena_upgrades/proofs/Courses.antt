-- The two executions of an upgrade, followed to their ends.
use Rattle.std.proofs.Common.{◌≡◌, ℕ, suc, List, [], ◌∷◌, ◌++◌, Bool, true, cond, nat_eq, Option, Some, None, refl, ap, ◌∙◌}
use Rattle.std.specs.Prelude.{codes}
use Rattle.play_script.specs.declared.item.Item.TheVariants as item
use Rattle.play_script.specs.declared.item.Word.TheVariants as word
use Rattle.mo_types.specs.declared.node.TypeId.{TypeId}
use Rattle.mo_types.specs.Calls.{next_number, open_count}
use Rattle.mo_types.specs.Code.{Variable}
use Rattle.mo_values.specs.Costs.{Cost}
use Rattle.mo_values.specs.Shapes.{Bytes}
use Rattle.mo_actor.specs.Computed.{behind_exhaustions, behind_result, Followed, ToItsEnd, followed, followed_to, result_by}
use Rattle.mo_actor.specs.Courses.{Runs}
use Rattle.mo_actor.specs.Executions.{Completes, Completion, Execution as Executes, Traps, trapping}
use Rattle.mo_actor.specs.Outcomes.{outcome, print_items, trap_items}
use Rattle.mo_actor.specs.Programs as Programs
use Rattle.mo_actor.specs.States as actor
use Rattle.mo_actor.specs.States.{ActorState}
use Rattle.mo_actor.specs.Upgrades.{saved, started, upgrade_course, upgraded}
use Rattle.typed_tree.specs.declared.program.Program.{Program as Written}
use Rattle.typed_tree.specs.Language.{Functions}
use Rattle.typed_tree.specs.Language as typed
use Rattle.typed_tree.specs.ProgramView.{program}
use Rattle.mo_meaning.specs.Coding.{Coding}
use Rattle.mo_meaning.specs.Kernel.{Kept}
use Rattle.mo_meaning.specs.Saving.{alone}
use Rattle.mo_meaning.specs.Starting as starting
use Rattle.mo_meaning.specs.Starting.{all_kept, all_taken, kept_cost, values_of_taken}
use Rattle.mo_machine.specs.ActorLanguage.{machine, Fields}
use Rattle.mo_machine.specs.Bodies.{beginning}
use Rattle.mo_machine.specs.Configurations.{weighed}
use Rattle.mo_machine.specs.Starting.{fields_progress, save_of, start_of, upgraded_from}
use Rattle.mo_machine.specs.States.{with_states}
use Rattle.mo_machine.specs.Turns.{turns}
use Rattle.arena_actors.specs.declared.actor.Actor.{Actor}
use Rattle.arena_actors.specs.States.{actor_of}
use Rattle.arena_starts.specs.Restarts.{started_over}
use Rattle.arena_upgrades.specs.Restarting.{course_behind}

module _ (old new : Written) (own : Bytes) (n : ℕ) (x : Actor) (coding : Coding) (groups : ℕ → Functions) (first again charged : ℕ) where
  abbrev pub before_p : Programs.Program machine
  before_p = with_states coding first old.types (program old)

  abbrev pub after_p : Programs.Program machine
  after_p = with_states coding again new.types (program new)

  abbrev pub was : actor.Actor machine
  was = actor_of coding old.types groups x charged

  abbrev pub Ended : Type 0
  Ended = Option (Followed (ActorState machine))

  -- ---- the old program saves

  abbrev pub saves : Executes Kept
  saves = save_of coding old.types (program old) own was.store

  abbrev pub whole : Executes Kept → Ended
  whole e = followed (Runs Kept first charged e (λ r. saved own before_p was after_p r)) (ToItsEnd n ∷ ToItsEnd n ∷ [])

  pub is_whole : nat_eq (open_count was.table) 0 ≡ true → followed (upgrade_course own before_p was (Some after_p)) (ToItsEnd n ∷ ToItsEnd n ∷ []) ≡ whole saves
  is_whole none = ap (λ (b : Bool). whole (cond b saves (trapping (codes "outstanding calls")))) none

  module _ (e : Executes Kept) where
    abbrev by_first : Option (Completion Kept) → Ended
    by_first c = behind_result [] (λ r. followed (saved own before_p was after_p r) (ToItsEnd n ∷ [])) (result_by (e n) c)

    pub whole_still : (e n).completion ≡ None → whole e ≡ None
    whole_still is = ap by_first is

    pub whole_traps : (prints : List Bytes) (text : Bytes) → (e n).prints ≡ prints → (e n).completion ≡ Some (Traps text)
        → whole e ≡ Some (followed_to (outcome (trap_items prints (word.Text text)) (actor.Running before_p was)) [] (ToItsEnd n ∷ []))
    whole_traps prints text said is =
        ap by_first is ∙ ap (λ (ps : List Bytes). Some (followed_to (outcome (trap_items ps (word.Text text)) (actor.Running before_p was)) [] (ToItsEnd n ∷ []))) said

    same_behind : (f : Ended) → behind_exhaustions [] f ≡ f
    same_behind None = refl
    same_behind (Some f) = refl

    pub whole_keeps : (prints : List Bytes) (variables : List (Variable TypeId)) → (e n).prints ≡ prints → (e n).completion ≡ Some (Completes (record { types = old.types; variables = variables }))
        → whole e ≡ followed (course_behind coding groups old new own x prints first again charged variables) (ToItsEnd n ∷ [])
    whole_keeps prints variables said is =
        ap by_first is
        ∙ same_behind (followed (course_behind coding groups old new own x (e n).prints first again charged variables) (ToItsEnd n ∷ []))
        ∙ ap (λ (ps : List Bytes). followed (course_behind coding groups old new own x ps first again charged variables) (ToItsEnd n ∷ [])) said

  -- ---- the new program starts

  module _ (prints : List Bytes) (variables : List (Variable TypeId)) where
    abbrev pub kept : Kept
    kept = record { types = old.types; variables = variables }

    abbrev pub starts : Executes Fields
    starts = start_of coding new.types (program new) own (Some kept)

    abbrev pub second : Ended
    second = followed (course_behind coding groups old new own x prints first again charged variables) (ToItsEnd n ∷ [])

    abbrev by_second : Option (Completion Fields) → Ended
    by_second c = behind_result [] (λ r. Some (followed_to (upgraded before_p was after_p prints r) [] [])) (result_by (starts n) c)

    pub second_still : (starts n).completion ≡ None → second ≡ None
    second_still is = ap by_second is

    pub second_traps : (more : List Bytes) (text : Bytes) → (starts n).prints ≡ more → (starts n).completion ≡ Some (Traps text)
        → second ≡ Some (followed_to (outcome (print_items prints ++ trap_items more (word.Text text)) (actor.Running before_p was)) [] [])
    second_traps more text said is =
        ap by_second is ∙ ap (λ (ps : List Bytes). Some (followed_to (outcome (print_items prints ++ trap_items ps (word.Text text)) (actor.Running before_p was)) [] [])) said

    pub second_starts : (more : List Bytes) (fields : Fields) → (starts n).prints ≡ more → (starts n).completion ≡ Some (Completes fields)
        → second ≡ Some (followed_to (outcome (print_items prints ++ (print_items more ++ item.Upgraded ∷ [])) (actor.Running after_p (started (next_number was.table) was.activations fields (starts n).weight))) [] [])
    second_starts more fields said is =
        ap by_second is
        ∙ ap (λ (ps : List Bytes). Some (followed_to (outcome (print_items prints ++ (print_items ps ++ item.Upgraded ∷ [])) (actor.Running after_p (started (next_number was.table) was.activations fields (starts n).weight))) [] [])) said

    -- ---- what it starts over

    abbrev taken : List starting.Taken
    taken = all_taken coding old.types new.types variables (program new).stable

    abbrev pub cost : Cost
    cost = kept_cost coding new.types (program new) kept (values_of_taken taken)

    abbrev over : Option (List (Option typed.Value)) → Executes Fields
    over o m = fields_progress (turns (alone coding new.types own) m (weighed cost (beginning (program new).nodes [] (upgraded_from own (program new) o) [])))

    pub starts_over : (ks : List (Option typed.Value)) → all_kept taken ≡ Some ks → starts ≡ started_over coding new own ks cost
    starts_over ks is = ap over is

    trap_done : (m : ℕ) → (over None (suc m)).completion ≡ Some (Traps starting.incompatible)
    trap_done m = refl

    trap_silent : (m : ℕ) → (over None (suc m)).prints ≡ []
    trap_silent m = refl

    pub starts_not : all_kept taken ≡ None → n ≡ 0 → second ≡ None
    starts_not is none = second_still (ap (λ (o : Option (List (Option typed.Value))). (over o n).completion) is ∙ ap (λ (m : ℕ). (over None m).completion) none)

    pub starts_trap : (m : ℕ) → all_kept taken ≡ None → n ≡ suc m → second ≡ Some (followed_to (outcome (print_items prints ++ trap_items [] (word.Text starting.incompatible)) (actor.Running before_p was)) [] [])
    starts_trap m is some =
        second_traps [] starting.incompatible
        (ap (λ (o : Option (List (Option typed.Value))). (over o n).prints) is ∙ ap (λ (k : ℕ). (over None k).prints) some ∙ trap_silent m)
        (ap (λ (o : Option (List (Option typed.Value))). (over o n).completion) is ∙ ap (λ (k : ℕ). (over None k).completion) some ∙ trap_done m)
