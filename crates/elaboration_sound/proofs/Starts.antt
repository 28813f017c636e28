-- Starts of well-typed programs, and saves of their actors, stay inside.
use Rattle.std.proofs.Common.{◌≡◌, inl, inr, ℕ, zero, suc, ◌≤◌, List, [], ◌∷◌, ◌++◌, length, true, false, true≢false, Option, Some, None, refl, sym, ap, ◌∙◌, subst, arith}
use Rattle.mo_types.specs.declared.node.TypeId.{TypeId}
use Rattle.mo_types.specs.Code.{Variable}
use Rattle.mo_types.specs.Graph.{head_at}
use Rattle.mo_types.specs.Heads.{map_option}
use Rattle.mo_types.specs.Sub.{IsSomething}
use Rattle.mo_types.specs.Values as message
use Rattle.mo_values.specs.Shapes.{Bytes, Present}
use Rattle.typed_tree.specs.declared.action.Action.TheVariants as action
use Rattle.typed_tree.specs.declared.program.Program.{Program as TypedProgram}
use Rattle.typed_tree.specs.Language as language
use Rattle.typed_tree.specs.Language.{Exp, Val, Do}
use Rattle.typed_tree.specs.Programs as programs
use Rattle.typed_tree.specs.ProgramView.{program}
use Rattle.typed_tree.specs.Types.{AreLawful}
use Rattle.typed_tree.specs.Wants.{Of}
use Rattle.typed_tree.specs.WellTyped.{WellTyped}
use Rattle.mo_meaning.specs.Cells as meaning_cells
use Rattle.mo_meaning.specs.Coding.{Coding, IsFaithful}
use Rattle.mo_meaning.specs.Configurations as meaning
use Rattle.mo_meaning.specs.Configurations.{Surroundings}
use Rattle.mo_meaning.specs.Exports as exports
use Rattle.mo_meaning.specs.Exports.{stable_cells}
use Rattle.mo_meaning.specs.Kernel.{Kept}
use Rattle.mo_meaning.specs.Messages.{plain_values}
use Rattle.mo_meaning.specs.Places.{value_list}
use Rattle.mo_meaning.specs.Saving as saving
use Rattle.mo_meaning.specs.Saving.{alone, held_in, and_held, and_variable, variables_of, saved_progress, kept_progress}
use Rattle.mo_meaning.specs.Turns as reductions
use Rattle.mo_soundness.specs.Keeps.{IsLonger, KnowsMore}
use Rattle.mo_soundness.specs.Lawful.{IsLawful}
use Rattle.mo_soundness.specs.Running.{AnswerTypes, still}
use Rattle.mo_soundness.specs.Worlds.{World}
use Rattle.mo_soundness.proofs.Found.{unit_fits}
use Rattle.mo_soundness.proofs.More.{has_grow}
use Rattle.program_soundness.specs.Bodies.{FieldsTyped}
use Rattle.program_soundness.specs.Exports.{CellsTyped}
use Rattle.program_soundness.specs.Results.{GivesResults, AreResults}
use Rattle.program_soundness.specs.Roles.{AHook, IsFunctionAs}
use Rattle.program_soundness.specs.Runs.{Fitting, Further, IsKept, Begins, RunFits, Stands}
use Rattle.program_soundness.specs.Starting.{IsFramed, IsExporting, IsInstalling, AreExports, IsHooking, IsUpgrading}
use Rattle.program_soundness.specs.Starts.{quiet}
use Rattle.program_soundness.specs.Worlds.{running}
use Rattle.program_soundness.proofs.Entering.{hook_called_begins}
use Rattle.program_soundness.proofs.Given.{lawful_types, program_shares}
use Rattle.program_soundness.proofs.Saves.{hook_saves}
use Rattle.program_soundness.proofs.Starts.{exporting_kept, framed_kept, installing_kept}
use Rattle.program_soundness.proofs.Turns.{turns_fit}
use Rattle.program_soundness.proofs.Typed.{results_kept}
use Rattle.program_soundness.proofs.Upgrading.{hooking_kept, upgrading_kept}
use Rattle.mo_machine.specs.ActorLanguage.{Fields, unload_fields}
use Rattle.mo_machine.specs.Acts.{Store, Act, Goes, Prints, Asks, Awaits, Leaves, Throws, Traps, Stuck}
use Rattle.mo_machine.specs.Actions.{act}
use Rattle.mo_machine.specs.Agrees.{unload_act}
use Rattle.mo_machine.specs.Bodies.{beginning}
use Rattle.mo_machine.specs.Cells.{cell_of, held}
use Rattle.mo_machine.specs.Configurations.{Configuration, Returns, Still, Ended, moved, weighed}
use Rattle.mo_machine.specs.Configurations as machine
use Rattle.mo_machine.specs.Exports.{part_at, values_in, option_value, before_upgrade}
use Rattle.mo_machine.specs.Frames.{Returning, Stack, Ready}
use Rattle.mo_machine.specs.Jumps.{on_stack}
use Rattle.mo_machine.specs.Runs.{unload_configuration, unload_run}
use Rattle.mo_machine.specs.Starting.{hook, saving_from, start_from}
use Rattle.mo_machine.specs.Turns.{steps, then_steps, turn}
use Rattle.mo_machine.specs.Unload.{unload, unload_list, plug, focused, unload_state}
use Rattle.mo_machine.specs.Values.{Value, Made, NoValue, AValue}
use Rattle.mo_machine.proofs.Cells.{cell_same, held_same}
use Rattle.mo_machine.proofs.Depth.{depth_same}
use Rattle.mo_machine.proofs.Simulation.{agrees}
use Rattle.mo_machine.proofs.Steps.{reaches}
use Rattle.elaboration_premises.specs.Places.{Placed, Done, Framed}
use Rattle.elaboration_premises.proofs.Executions.{results_placed}
use Rattle.elaboration_premises.proofs.Starts.{OptionTyped, hook_there, installing_placed, upgrading_placed, install_stands, upgrade_stands, state, store_still}
use Rattle.elaboration_starts.specs.Saves.{HoldEach}
use Rattle.elaboration_starts.specs.Staying.{StaysAt}
use Rattle.elaboration_sound.specs.Starts.{IsInside, StartsStayInside, Saved, SaveHolds, SavesHold}
use Rattle.elaboration_sound.proofs.Functions.{part_same, values_in_same}
use Rattle.elaboration_sound.proofs.Inside.{plug_append, stays, act_inside}

-- ---- executions in a frame

module _ (s : Surroundings) (lawful : IsLawful (running s.types).head) (graph : AreLawful s.types) where
  abbrev W : World
  W = running s.types

  -- what is in the frame
  framed_inner : (P : Fitting Exp) (Q : Fitting language.Value) (answers : AnswerTypes) (kinds : List TypeId) (n : ℕ) (e : Exp) → IsFramed P Q answers kinds (language.Frame n e) → P answers kinds e
  framed_inner P Q answers kinds n e (inl h) = let same : h.1 ≡ e = (let z : language.Frame n e ≡ language.Frame h.0 h.1 = h.2 in cc) in subst (λ e. P answers kinds e) same h.3
  framed_inner P Q answers kinds n e (inr h) = absurd (let z : language.Frame n e ≡ Val h.0 = h.1 in cc)

  module _ (Q : Fitting language.Value) (P I : Fitting Exp) (kept : IsKept W P Q) (whole : IsKept W I Q) (places : (answers : AnswerTypes) (kinds : List TypeId) (e : Exp) → I answers kinds e → Placed s.types answers kinds e)
      (inner : (answers : AnswerTypes) (kinds : List TypeId) (n : ℕ) (e : Exp) → I answers kinds (language.Frame n e) → P answers kinds e) (answers : AnswerTypes) (kinds : List TypeId) (none : answers.may_call ≡ false) where
    state_at : (c : Configuration) → Stands s I Q (unload_configuration c) answers kinds → (j : ℕ) (c' : Configuration) → steps s j c ≡ Still c' → Further answers kinds (Stands s I Q (unload_configuration c'))
    state_at c typed j c' q =
        let r = reaches s j c in
        subst (RunFits s I Q answers kinds) (sym r.2 ∙ ap unload_run q) (turns_fit s lawful graph I Q whole r.0 (unload_configuration c) answers kinds typed)

    all_inside : (c : Configuration) → Stands s I Q (unload_configuration c) answers kinds → IsInside s c
    all_inside c typed j c' q =
        let k = state_at c typed j c' q in
        let quiet_still : k.0.may_call ≡ false = ap (λ (a : AnswerTypes). a.may_call) (k.2.1 none) ∙ none in
        stays s.types k.0 k.1 quiet_still c'.store k.4.0.0 Q P I kept whole (places k.0 k.1) (inner k.0 k.1) c'.focus c'.stack k.4.1

-- ---- starts

module _ (coding : Coding) (faithful : IsFaithful coding) (p : TypedProgram) (w : WellTyped p) (own : Bytes) (short : length own ≤ 29) where
  abbrev s : Surroundings
  s = alone coding p.types own

  law : IsLawful (running p.types).head
  law = lawful_types p.types w.types w.basics

  upgrading_inner : (answers : AnswerTypes) (kinds : List TypeId) (n : ℕ) (e : Exp) → IsUpgrading p.types p answers kinds (language.Frame n e) → IsHooking p.types p answers kinds e
  upgrading_inner answers kinds n e (inl q) = absurd (let z : language.Frame n e ≡ Do _ language.NoExp = q in cc)
  upgrading_inner answers kinds n e (inr h) = framed_inner s law w.types (λ answers kinds e. IsHooking p.types p answers kinds e) (AreExports p.types p) answers kinds n e h

  start_inside : (kept : Option Kept) → IsInside s (start_from coding p.types (program p) own kept)
  start_inside None =
      all_inside s law w.types (AreExports p.types p) (IsExporting p.types p) (IsInstalling p.types p) (exporting_kept p law) (installing_kept p law) (λ answers kinds. installing_placed p.types p answers kinds)
      (framed_inner s law w.types (IsExporting p.types p) (AreExports p.types p)) quiet [] refl (start_from coding p.types (program p) own None) (install_stands coding faithful p w own short)
  start_inside (Some kept) =
      all_inside s law w.types (AreExports p.types p) (λ answers kinds e. IsHooking p.types p answers kinds e) (IsUpgrading p.types p) (hooking_kept p law) (upgrading_kept p law) (λ answers kinds. upgrading_placed p.types p answers kinds)
      upgrading_inner quiet [] refl (start_from coding p.types (program p) own (Some kept)) (upgrade_stands coding faithful p w own short kept)

pub starts_stay_inside : StartsStayInside
starts_stay_inside coding faithful p w own short kept = start_inside coding faithful p w own short kept

-- ---- saves

module _ (coding : Coding) (p : TypedProgram) (w : WellTyped p) (own : Bytes) (answers : AnswerTypes) (kinds : List TypeId) (fields : Fields) (fit : FieldsTyped p.types (program p) answers kinds (unload_fields fields)) where
  abbrev around : Surroundings
  around = alone coding p.types own

  sound : IsLawful (running p.types).head
  sound = lawful_types p.types w.types w.basics

  abbrev World' : World
  World' = running p.types

  abbrev P : Fitting Exp
  P = GivesResults World' []

  abbrev Q : Fitting language.Value
  Q = AreResults World' []

  abbrev I : Fitting Exp
  I = IsFramed P Q

  results_grow : (answers more : AnswerTypes) (kinds longer : List TypeId) (v : language.Value) → KnowsMore answers more → IsLonger kinds longer → Q answers kinds v → Q more longer v
  results_grow answers more kinds longer v k l h = (h.0, h.1, has_grow World' answers more k kinds longer l v (Of h.0) h.2)

  whole_kept : IsKept World' I Q
  whole_kept = framed_kept p.types sound P Q (results_kept World' [] sound) results_grow

  framed_placed : (answers : AnswerTypes) (kinds : List TypeId) (e : Exp) → I answers kinds e → Placed p.types answers kinds e
  framed_placed answers kinds e (inl h) = Framed h.0 h.1 h.2 (results_placed p.types [] answers kinds h.1 h.3)
  framed_placed answers kinds e (inr h) = Done h.0 h.1

  inside_from : (kinds : List TypeId) (c : Configuration) → Stands around I Q (unload_configuration c) (still answers) kinds → IsInside around c
  inside_from kinds c typed = all_inside around sound w.types Q P I (results_kept World' [] sound) whole_kept framed_placed (framed_inner around sound w.types P Q) (still answers) kinds refl c typed

  abbrev many : ℕ
  many = length (program p).stable

  abbrev end : Stack
  end = Returning many ∷ []

  abbrev begin : Option Value → Configuration
  begin o = beginning many fields.cells (hook o) end

  -- behind the call of the hook
  module _ (f : Value) where
    abbrev called : Act
    called = act (head_at p.types) None fields.cells action.Call (f ∷ [])

    behind_call : (a : Act) → Begins World' P (still answers) kinds (unload_act (on_stack fields.cells a [])) → (n : ℕ) (c' : Configuration) → then_steps around (steps around n) (turn around (begin (Some f)) (on_stack fields.cells a end)) ≡ Still c'
        → StaysAt (head_at p.types) c'.store c'.focus c'.stack
    behind_call (Goes cost store g k) b n c' q =
        let inner : plug (k ++ []) (focused g) ≡ plug k (focused g) = plug_append k [] (focused g) in
        inside_from b.0 (moved cost store g (k ++ end) (begin (Some f)))
        ((b.2, (λ m. absurd (true≢false (sym m))), λ m. refl), inl (many, plug k (focused g), plug_append k end (focused g), subst (λ e. P (still answers) b.0 e) inner b.3)) n c' q
    behind_call (Traps cost text) b n c' q = absurd (let z : Ended (weighed cost (begin (Some f))) (machine.Traps text) ≡ Still c' = q in cc)
    behind_call (Prints cost text g k) b n c' q = absurd b
    behind_call (Asks r) b n c' q = absurd b
    behind_call (Awaits m c) b n c' q = absurd b
    behind_call (Leaves zero v) b n c' q = absurd b
    behind_call (Leaves (suc m) v) b n c' q = absurd b
    behind_call (Throws cost v) b n c' q = absurd b
    behind_call Stuck b n c' q = absurd b

    hook_inside : IsFunctionAs p.types answers kinds AHook (unload f) → IsInside around (begin (Some f))
    hook_inside h zero c' q = subst (λ (c : Configuration). StaysAt (head_at p.types) c.store c.focus c.stack) (let z : Still (begin (Some f)) ≡ Still c' = q in let same : begin (Some f) ≡ c' = cc in same)
        (act_inside (head_at p.types) fields.cells action.Call (f ∷ []) end tt)
    hook_inside h (suc n) c' q =
        behind_call called
        (subst (Begins World' P (still answers) kinds) ((agrees (head_at p.types) None fields.cells (Ready action.Call (f ∷ [])) []).1)
        (hook_called_begins p.types sound (still answers) kinds None (unload_list fields.cells) (unload f) (store_still coding p w own answers kinds fields fit (unload_list fields.cells) kinds fit.cells) h)) n c' q

  saved_inside : (o : Option Value) → OptionTyped p.types answers kinds o → IsInside around (begin o)
  saved_inside None h =
      inside_from kinds (begin None) (
        state coding p w own answers kinds fields fit (begin None) refl refl,
        inl (many, Val language.unit, refl, (sound.unit, sound.is_unit, unit_fits World' (still answers) kinds sound.unit sound.is_unit)),
      )
  saved_inside (Some f) h = hook_inside f h

  -- ---- where it has ended

  hook_same : (o : Option Value) → unload_state (hook o) end ≡ saving.hook many (map_option unload o)
  hook_same None = refl
  hook_same (Some f) = refl

  option_same : (v : Value) → exports.option_value (unload v) ≡ map_option unload (option_value v)
  option_same (Made Present (AValue v NoValue)) = refl
  option_same _ = refl

  begin_same : unload_configuration (saving_from (program p) fields) ≡ saving.saving_from (program p) (unload_fields fields)
  begin_same =
      let o = before_upgrade fields.exports in
      let same : exports.before_upgrade (unload fields.exports) ≡ map_option unload o = ap exports.option_value (part_same 1 fields.exports) ∙ option_same (part_at 1 fields.exports) in
      ap (λ d. record { weight = many; depth = d; prints = []; calls = []; store = unload_list fields.cells; at = unload_state (hook o) end }) (sym (depth_same (hook o) end))
      ∙ ap (λ e. meaning.beginning many (unload_list fields.cells) e) (hook_same o ∙ ap (saving.hook many) (sym same))

  -- as many as there are variables
  enough : (vs : List programs.StableVariable) (xs : List language.Value) (variables : List (Variable TypeId)) → variables_of p.types vs xs ≡ Some variables → length vs ≤ length xs
  enough [] xs variables q = omega arith
  enough (v ∷ vs) [] variables q = absurd (let z : None ≡ Some variables = q in cc)
  enough (v ∷ vs) (x ∷ xs) variables q = by (plain_values p.types (v.of_type ∷ []) (x ∷ [])) (variables_of p.types vs xs) refl q (enough vs xs)
    where
      by : (o : Option message.Values) (r : Option (List (Variable TypeId))) → variables_of p.types vs xs ≡ r → and_variable v o r ≡ Some variables
          → ((others : List (Variable TypeId)) → variables_of p.types vs xs ≡ Some others → length vs ≤ length xs) → suc (length vs) ≤ suc (length xs)
      by None r e z later = absurd (let y : None ≡ Some variables = z in cc)
      by (Some values) None e z later = absurd (let y : None ≡ Some variables = z in cc)
      by (Some values) (Some others) e z later = let y : length vs ≤ length xs = later others e in omega (arith, y)

  no_more : (store : List language.Value) (cs : List language.Value) → length (held_in store cs) ≤ length cs
  no_more store [] = omega arith
  no_more store (c ∷ cs) = by (meaning_cells.held store (meaning_cells.cell_of c)) (no_more store cs)
    where
      by : (o : Option language.Value) → length (held_in store cs) ≤ length cs → length (and_held o (held_in store cs)) ≤ suc (length cs)
      by None h = omega (arith, h)
      by (Some v) h = omega (arith, h)

  -- so each cell holds one
  all_hold : (store : Store) (cs : List Value) → length cs ≤ length (held_in (unload_list store) (unload_list cs)) → (vs : List Value) × HoldEach store cs vs
  all_hold store [] h = ([], tt)
  all_hold store (c ∷ cs) h =
      by (held store (cell_of c)) refl
      (subst (λ o. suc (length cs) ≤ length (and_held o (held_in (unload_list store) (unload_list cs)))) (ap (meaning_cells.held (unload_list store)) (cell_same c) ∙ held_same store (cell_of c)) h) (all_hold store cs)
    where
      same_length : (vs : List Value) → length (unload_list vs) ≡ length vs
      same_length [] = refl
      same_length (v ∷ vs) = ap suc (same_length vs)

      by : (o : Option Value) → held store (cell_of c) ≡ o → suc (length cs) ≤ length (and_held (map_option unload o) (held_in (unload_list store) (unload_list cs)))
          → (length cs ≤ length (held_in (unload_list store) (unload_list cs)) → (vs : List Value) × HoldEach store cs vs) → (vs : List Value) × HoldEach store (c ∷ cs) vs
      by None e k later =
          let y : length (held_in (unload_list store) (unload_list cs)) ≤ length (unload_list cs) = no_more (unload_list store) (unload_list cs) in
          let z : length (unload_list cs) ≡ length cs = same_length cs in
          absurd (omega (arith, k, y, z))
      by (Some v) e k later = let r = later (omega (arith, k)) in (v ∷ r.0, (e, r.1))

  cells_counted : (vs : List programs.StableVariable) (cs : language.Values) → CellsTyped p.types answers kinds vs cs → length (value_list cs) ≡ length vs
  cells_counted [] language.NoValue h = refl
  cells_counted [] (language.AValue c cs) h = absurd h
  cells_counted (v ∷ vs) language.NoValue h = absurd h
  cells_counted (v ∷ vs) (language.AValue c cs) h = ap suc (cells_counted vs cs h.1)

  unloaded_length : (vs : List Value) → length (unload_list vs) ≡ length vs
  unloaded_length [] = refl
  unloaded_length (v ∷ vs) = ap suc (unloaded_length vs)

  cells_same : stable_cells (unload fields.exports) ≡ unload_list (values_in (part_at 3 fields.exports))
  cells_same = ap exports.values_in (part_same 3 fields.exports) ∙ values_in_same (part_at 3 fields.exports)

  as_many : length (values_in (part_at 3 fields.exports)) ≡ many
  as_many = sym (unloaded_length (values_in (part_at 3 fields.exports))) ∙ ap length (sym cells_same) ∙ ap (λ x. length (stable_cells x)) fit.exports.is ∙ cells_counted (program p).stable fit.exports.cells fit.exports.stable

  module _ (j : ℕ) (c : Configuration) (v : Value) (ends : Saved coding p.types p own fields j c v) where
    turned : reductions.turns around (reaches around j (saving_from (program p) fields)).0 (saving.saving_from (program p) (unload_fields fields)) ≡ meaning.Ended (unload_configuration c) (meaning.Returns (unload v))
    turned = ap (reductions.turns around (reaches around j (saving_from (program p) fields)).0) (sym begin_same) ∙ sym ((reaches around j (saving_from (program p) fields)).2) ∙ ap unload_run ends

    abbrev values : List language.Value
    values = held_in (unload_list c.store) (stable_cells (unload fields.exports))

    kept_variables : (variables : List (Variable TypeId)) × (variables_of p.types (program p).stable values ≡ Some variables)
    kept_variables = by (variables_of p.types (program p).stable values) refl
        (subst (λ run. IsSomething (kept_progress coding p.types (program p) (unload fields.exports) run).completion) turned
        (hook_saves coding p.types (program p) sound w.types (program_shares p w).stable own answers kinds (unload_fields fields) fit (reaches around j (saving_from (program p) fields)).0 (unload_configuration c) (unload v) turned))
      where
        by : (o : Option (List (Variable TypeId))) → variables_of p.types (program p).stable values ≡ o → IsSomething (saved_progress coding p.types (program p) values (unload_configuration c) o).completion
            → (variables : List (Variable TypeId)) × (variables_of p.types (program p).stable values ≡ Some variables)
        by None e h = absurd h
        by (Some variables) e h = (variables, e)

    cells_hold : (vs : List Value) × HoldEach c.store (values_in (part_at 3 fields.exports)) vs
    cells_hold =
        let cs = values_in (part_at 3 fields.exports) in
        let h : length (program p).stable ≤ length (held_in (unload_list c.store) (unload_list cs)) = subst (λ xs. length (program p).stable ≤ length (held_in (unload_list c.store) xs)) cells_same (enough (program p).stable values kept_variables.0 kept_variables.1) in
        all_hold c.store cs (let z : length cs ≡ many = as_many in omega (arith, z, h))

  save_holds : SaveHolds coding p.types p own fields
  save_holds = record {
    inside = saved_inside (before_upgrade fields.exports) (hook_there p.types answers kinds fields.exports (program p) fit.exports);
    holds = λ j c v q. cells_hold j c v q;
    saves = λ j c v q. kept_variables j c v q;
  }

pub saves_hold : SavesHold
saves_hold coding p w own answers kinds fields fit = save_holds coding p w own answers kinds fields fit
