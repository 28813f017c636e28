-- What an upgrade saves of a well-typed program: the hook before it never breaks, and each stable variable has a value of its type.
use Rattle.std.proofs.Common.{◌≡◌, inl, inr, ℕ, List, [], ◌∷◌, length, true≢false, Some, None, refl, sym, ap, ap₂, subst}
use Rattle.mo_types.specs.declared.node.TypeId.{TypeId}
use Rattle.mo_types.specs.Code.{Variable}
use Rattle.mo_types.specs.Graph.{head_at}
use Rattle.mo_types.specs.Sub.{IsSomething, Each}
use Rattle.mo_values.specs.Messages.{joined}
use Rattle.mo_values.specs.Shapes.{Bytes, Cell}
use Rattle.typed_tree.specs.Language.{Value, Values, Made, Function, BuiltIn, NoValue, AValue}
use Rattle.typed_tree.specs.Programs.{Program, StableVariable}
use Rattle.typed_tree.specs.Shareable.{IsShareable}
use Rattle.typed_tree.specs.Wants.{Of, CellOf, Equal}
use Rattle.mo_meaning.specs.Acts.{Store}
use Rattle.mo_meaning.specs.Cells.{cell_of, held}
use Rattle.mo_meaning.specs.Coding.{Types, Coding}
use Rattle.mo_meaning.specs.Configurations.{Configuration, Returns, Run, Ended, Surroundings, beginning}
use Rattle.mo_meaning.specs.Exports.{option_value, part_at}
use Rattle.mo_meaning.specs.Kernel.{Fields}
use Rattle.mo_meaning.specs.Messages.{joined_values}
use Rattle.mo_meaning.specs.Places.{value_list}
use Rattle.mo_meaning.specs.Saving.{alone, hook, saving_from, and_variable, variables_of, and_held, held_in, kept_progress, saved_progress, save}
use Rattle.mo_meaning.specs.Turns.{turns}
use Rattle.mo_soundness.specs.Lawful.{IsLawful}
use Rattle.mo_soundness.specs.Running.{AnswerTypes, still, HasValue, StoreTyped}
use Rattle.mo_soundness.proofs.Cells.{store_at}
use Rattle.mo_soundness.proofs.Found.{unit_fits}
use Rattle.mo_soundness.proofs.Less.{has_sub}
use Rattle.mo_soundness.proofs.Put.{has_still}
use Rattle.mo_soundness.proofs.Wanted.{reflexive}
use Rattle.program_soundness.specs.Bodies.{FieldsTyped}
use Rattle.program_soundness.specs.Exports.{HookTyped, CellsTyped}
use Rattle.program_soundness.specs.Results.{GivesResults, AreResults}
use Rattle.program_soundness.specs.Runs.{EndsFit}
use Rattle.program_soundness.proofs.Entering.{hook_framed_begins}
use Rattle.program_soundness.proofs.Exported.{cells_grow}
use Rattle.program_soundness.proofs.Messages.{goes_out}
use Rattle.program_soundness.proofs.Turns.{begun_ends, run_ends, turns_fit}
use Rattle.program_soundness.proofs.Typed.{results_kept}
use Rattle.program_soundness.specs.Worlds.{running, kept_type}
use Rattle.program_soundness.proofs.Carried.{kept_out}
use Rattle.typed_tree.specs.Types.{AreLawful}

-- ---- the hook

module _ (coding : Coding) (types : Types) (p : Program) (lawful : IsLawful (running types).head) (shared : AreLawful types) (own : Bytes) (answers : AnswerTypes) (kinds : List TypeId) (fields : Fields) (typed : FieldsTyped types p answers kinds fields) where
  abbrev s : Surroundings
  s = alone coding types own

  abbrev Ends : Run → Type 0
  Ends run = EndsFit s (GivesResults (running types) []) (AreResults (running types) []) (still answers) kinds run

  store_still : (vs : List Value) (ts : List TypeId) → StoreTyped (running types) answers kinds vs ts → StoreTyped (running types) (still answers) kinds vs ts
  store_still [] [] h = tt
  store_still [] (t ∷ ts) h = absurd h
  store_still (v ∷ vs) [] h = absurd h
  store_still (v ∷ vs) (t ∷ ts) h = (has_still (running types) answers kinds v (Of t) h.0, store_still vs ts h.1)

  -- where the hook is x
  abbrev begin : Value → Configuration
  begin x = beginning (length p.stable) fields.cells (hook (length p.stable) (option_value x))

  hook_ends : (x : Value) (n : ℕ) → HookTyped types answers kinds x → Ends (turns s n (begin x))
  hook_ends x n (inl q) =
      let c = beginning (length p.stable) fields.cells (hook (length p.stable) None) in
      subst (λ x. Ends (turns s n (begin x))) (sym q)
      (run_ends s lawful shared (GivesResults (running types) []) (AreResults (running types) []) (results_kept (running types) [] lawful) (turns s n c) (still answers) kinds
      (turns_fit s lawful shared (GivesResults (running types) []) (AreResults (running types) []) (results_kept (running types) [] lawful) n c (still answers) kinds (
        (store_still fields.cells kinds typed.cells, λ e. absurd (true≢false (sym e)), λ e. refl),
        (lawful.unit, lawful.is_unit, (lawful.unit, unit_fits (running types) (still answers) kinds lawful.unit lawful.is_unit, reflexive (running types).head lawful lawful.unit)),
      )))
  hook_ends x n (inr h) =
      subst (λ x. Ends (turns s n (begin x))) (sym h.1)
      (begun_ends s lawful shared (GivesResults (running types) []) (AreResults (running types) []) (results_kept (running types) [] lawful) n (beginning (length p.stable) fields.cells (hook (length p.stable) (Some h.0))) (still answers) kinds
      (store_still fields.cells kinds typed.cells, λ e. absurd (true≢false (sym e)), λ e. refl) tt
      (hook_framed_begins types lawful (still answers) kinds None fields.cells (length p.stable) h.0 (store_still fields.cells kinds typed.cells) h.2))

  pub hook_run_ends : (n : ℕ) → Ends (turns s n (saving_from p fields))
  hook_run_ends n = subst (λ x. Ends (turns s n (begin x))) (sym (ap (part_at 1) typed.exports.is)) (hook_ends typed.exports.before n typed.exports.before_upgrade)

  cells_still : (vs : List StableVariable) (cells : Values) → CellsTyped types answers kinds vs cells → CellsTyped types (still answers) kinds vs cells
  cells_still [] NoValue h = tt
  cells_still [] (AValue c cells) h = absurd h
  cells_still (v ∷ vs) NoValue h = absurd h
  cells_still (v ∷ vs) (AValue c cells) h = (has_still (running types) answers kinds c (CellOf (kept_type types v.of_type)) h.0, cells_still vs cells h.1)

-- ---- the stable variables

module _ (types : Types) (lawful : IsLawful (running types).head) (graph : AreLawful types) (answers : AnswerTypes) (kinds : List TypeId) where
  -- what the cells of these variables hold
  abbrev HoldsEach : List StableVariable → List Value → Type 0
  HoldsEach [] [] = Unit {0}
  HoldsEach (v ∷ vs) (x ∷ xs) = HasValue (running types) answers kinds (Of (kept_type types v.of_type)) x × HoldsEach vs xs
  HoldsEach _ _ = ⊥

  -- a cell of this type holds a value of it
  held_there : (store : Store) (t : TypeId) (c : Value) → StoreTyped (running types) answers kinds store kinds → HasValue (running types) answers kinds (CellOf t) c
      → (x : Value) × (held store (cell_of c) ≡ Some x) × HasValue (running types) answers kinds (Of t) x
  held_there store t (Made (Cell at) NoValue) st h =
      let r = store_at (running types) lawful answers kinds store kinds at (λ u. Equal (running types).head t u) st h in
      (r.v, r.is, has_sub (running types) lawful answers kinds r.v (Of r.kind) (Of t) r.has r.holds.1)
  held_there store t (Made (Cell at) (AValue v vs)) st h = absurd h
  held_there store t (Made k inner) st h = absurd h
  held_there store t (Function group which) st h = absurd h
  held_there store t (BuiltIn m holds) st h = absurd h

  held_each : (store : Store) (vs : List StableVariable) (cells : Values) → StoreTyped (running types) answers kinds store kinds → CellsTyped types answers kinds vs cells → HoldsEach vs (held_in store (value_list cells))
  held_each store [] NoValue st h = tt
  held_each store [] (AValue c cells) st h = absurd h
  held_each store (v ∷ vs) NoValue st h = absurd h
  held_each store (v ∷ vs) (AValue c cells) st h =
      let r = held_there store (kept_type types v.of_type) c st h.0 in
      subst (λ o. HoldsEach (v ∷ vs) (and_held o (held_in store (value_list cells)))) (sym r.1) (r.2, held_each store vs cells st h.1)

  variables_there : (vs : List StableVariable) (xs : List Value) → Each (λ (v : StableVariable). IsShareable (head_at types) v.of_type) vs → HoldsEach vs xs
      → (variables : List (Variable TypeId)) × (variables_of types vs xs ≡ Some variables)
  variables_there [] xs s h = ([], refl)
  variables_there (v ∷ vs) [] s h = absurd h
  variables_there (v ∷ vs) (x ∷ xs) s h =
      let m = goes_out (head_at types) answers kinds (v.of_type ∷ []) (x ∷ []) (s.0, tt) (kept_out types graph answers kinds v.of_type x s.0 h.0, tt) in
      let rest = variables_there vs xs s.1 h.1 in
      (record { name = v.name; type = v.of_type; value = joined m.0 } ∷ rest.0, ap₂ (λ o r. and_variable v (joined_values o) r) m.1 rest.1)

-- ---- what is kept

module _ (coding : Coding) (types : Types) (p : Program) (lawful : IsLawful (running types).head) (shared : AreLawful types) (shares : Each (λ (v : StableVariable). IsShareable (head_at types) v.of_type) p.stable) (own : Bytes) (answers : AnswerTypes) (kinds : List TypeId) (fields : Fields) (typed : FieldsTyped types p answers kinds fields) where
  kept_there : (c : Configuration) (v : Value) → Ends coding types p lawful shared own answers kinds fields typed (Ended c (Returns v)) → IsSomething (kept_progress coding types p fields.exports (Ended c (Returns v))).completion
  kept_there c v e =
      let cells = cells_grow types (still answers) e.0 e.2.0 kinds e.1 e.3 p.stable typed.exports.cells (cells_still coding types p lawful shared own answers kinds fields typed p.stable typed.exports.cells typed.exports.stable) in
      let there = variables_there types lawful shared e.0 e.1 p.stable (held_in c.store (value_list typed.exports.cells)) shares (held_each types lawful shared e.0 e.1 c.store p.stable typed.exports.cells e.4.0.0 cells) in
      subst (λ x. IsSomething (kept_progress coding types p x (Ended c (Returns v))).completion) (sym typed.exports.is)
      (subst (λ o. IsSomething (saved_progress coding types p (held_in c.store (value_list typed.exports.cells)) c o).completion) (sym there.1) tt)

  pub hook_saves : (n : ℕ) (c : Configuration) (v : Value) → turns (alone coding types own) n (saving_from p fields) ≡ Ended c (Returns v) → IsSomething (save coding types p own fields n).completion
  hook_saves n c v q =
      subst (λ run. IsSomething (kept_progress coding types p fields.exports run).completion) (sym q)
      (kept_there c v (subst (λ run. Ends coding types p lawful shared own answers kinds fields typed run) q (hook_run_ends coding types p lawful shared own answers kinds fields typed n)))
