-- What single steps come to.
use Rattle.std.proofs.Common.{◌≡◌, ℕ, suc, ◌+◌, ◌-◌, ◌≤◌, true, false, List, ◌∷◌, length, Some, None, refl, sym, ap, ◌∙◌, subst, arith, cond}
use Rattle.std.specs.Prelude.{slice_get, slice_index, nat_eq, nat_le, min, Result, Ok, Err}
use Rattle.std.specs.Option.{unwrap_or}
use Rattle.std.proofs.Math.Nat.{min-le_right}
use Rattle.wasm_tree.specs.declared.trap.Trap.{Trap}
use Rattle.wasm_tree.specs.declared.trap.Trap.TheVariants as trap
use Rattle.wasm_tree.specs.declared.types.ValueType.{ValueType}
use Rattle.wasm_tree.specs.declared.types.ValueType.TheVariants.{I32}
use Rattle.wasm_tree.specs.declared.op.LoadKind.{LoadKind}
use Rattle.wasm_tree.specs.declared.op.StoreKind.{StoreKind}
use Rattle.wasm_tree.specs.declared.op.Comparison.{Comparison}
use Rattle.wasm_tree.specs.declared.op.BinaryOperator.{BinaryOperator}
use Rattle.wasm_tree.specs.Numeric.{low, compare, binary}
use Rattle.wasm_tree.specs.Exec.{State, Goes, Fails, load_at, store_at, store_size, or_fails, binary_did, store_did, select_did, with_top}
use Rattle.wasm_numeric.specs.Memory.{loaded, stored}
use Rattle.wasm_numeric.proofs.Access.{load_at-loaded, store_at-stored}
use Rattle.wasm_numeric.proofs.Access as access
use Rattle.wasm_steps.specs.declared.step.Label.{Label}
use Rattle.wasm_steps.specs.declared.step.Step.{Step}
use Rattle.wasm_steps.specs.declared.step.Step.TheVariants as step
use Rattle.wasm_steps.specs.Moves.{Trapped, Next, On, Over, onward, entry_label, move_by, ReadyLabel, Ready}
use Rattle.wasm_machine.specs.Operands.{tops}
use Rattle.wasm_machine.specs.Hosts.{Play}
use Rattle.wasm_machine.specs.Acts.{Given, Parts, parts, store_of, state_of}
use Rattle.wasm_machine.proofs.Tops.{tops_one, tops_two, tops_three}

module _ (g : Given) (steps : List Step) (place left held : ℕ) (locals : List ℕ) (p : Parts) (cells : List ℕ) where
  -- what a step does at this place
  abbrev moved : Step → Next Play
  moved d = move_by g.limits g.within steps (Some d) place (state_of g (suc left) locals p) (tops cells held)

  abbrev s : State Play
  s = state_of g left locals p

  pub load_on : (d : Step) (kind : LoadKind) (offset address value next : ℕ) (written : List ℕ) → d ≡ step.Load kind offset → 1 ≤ held → address ≡ low I32 (slice_index cells (held - 1)) + offset → loaded kind p.memory address ≡ Some value → next ≡ held - 1 + 1 → tops written (held - 1 + 1) ≡ value ∷ tops cells (held - 1) → moved d ≡ On (place + 1) s (tops written next)
  load_on d kind offset address value next written is some at got up top =
      let one : load_at s kind (low I32 (slice_index cells (held - 1)) + offset) (tops cells (held - 1)) ≡ Goes s (value ∷ tops cells (held - 1)) =
      ap (λ a. load_at s kind a (tops cells (held - 1))) (sym at) ∙ load_at-loaded s kind address (tops cells (held - 1)) ∙ ap (λ o. access.load_did s o (tops cells (held - 1))) got in
      ap moved is ∙ ap (λ t. onward (place + 1) s (with_top t (λ x rest. load_at s kind (low I32 x + offset) rest))) (tops_one cells held some) ∙ ap (onward (place + 1) s) one ∙ ap (λ t. On (place + 1) s t) (sym top ∙ ap (tops written) (sym up))

  pub load_past : (d : Step) (kind : LoadKind) (offset address : ℕ) → d ≡ step.Load kind offset → 1 ≤ held → address ≡ low I32 (slice_index cells (held - 1)) + offset → loaded kind p.memory address ≡ None → moved d ≡ Over (Trapped trap.Bounds (store_of g p))
  load_past d kind offset address is some at got =
      let one : load_at s kind (low I32 (slice_index cells (held - 1)) + offset) (tops cells (held - 1)) ≡ Fails trap.Bounds =
      ap (λ a. load_at s kind a (tops cells (held - 1))) (sym at) ∙ load_at-loaded s kind address (tops cells (held - 1)) ∙ ap (λ o. access.load_did s o (tops cells (held - 1))) got in
      ap moved is ∙ ap (λ t. onward (place + 1) s (with_top t (λ x rest. load_at s kind (low I32 x + offset) rest))) (tops_one cells held some) ∙ ap (onward (place + 1) s) one

  pub store_on : (d : Step) (kind : StoreKind) (offset address value : ℕ) (memory : List ℕ) → d ≡ step.Store kind offset → 2 ≤ held → address ≡ low I32 (slice_index cells (held - 2)) + offset → value ≡ slice_index cells (held - 1) → true ≡ nat_le (address + store_size kind) (length p.memory) → memory ≡ stored kind p.memory address value → moved d ≡ On (place + 1) (state_of g left locals (parts memory p.globals p.refused)) (tops cells (held - 2))
  store_on d kind offset address value memory is some at top inside written =
      let one : store_at s kind (low I32 (slice_index cells (held - 2)) + offset) (slice_index cells (held - 1)) (tops cells (held - 2)) ≡ Goes (state_of g left locals (parts memory p.globals p.refused)) (tops cells (held - 2)) =
      ap (λ a. store_at s kind a (slice_index cells (held - 1)) (tops cells (held - 2))) (sym at) ∙ ap (λ v. store_at s kind address v (tops cells (held - 2))) (sym top) ∙ store_at-stored s kind address value (tops cells (held - 2)) ∙ ap (λ b. access.store_did s b (stored kind p.memory address value) (tops cells (held - 2))) (sym inside) ∙ ap (λ w. access.store_did s true w (tops cells (held - 2))) (sym written) in
      ap moved is ∙ ap (λ t. onward (place + 1) s (store_did s kind offset t)) (tops_two cells held some) ∙ ap (onward (place + 1) s) one

  pub store_past : (d : Step) (kind : StoreKind) (offset address value : ℕ) (memory : List ℕ) → d ≡ step.Store kind offset → 2 ≤ held → address ≡ low I32 (slice_index cells (held - 2)) + offset → value ≡ slice_index cells (held - 1) → false ≡ nat_le (address + store_size kind) (length p.memory) → memory ≡ p.memory → moved d ≡ Over (Trapped trap.Bounds (store_of g (parts memory p.globals p.refused)))
  store_past d kind offset address value memory is some at top inside same =
      let one : store_at s kind (low I32 (slice_index cells (held - 2)) + offset) (slice_index cells (held - 1)) (tops cells (held - 2)) ≡ Fails trap.Bounds =
      ap (λ a. store_at s kind a (slice_index cells (held - 1)) (tops cells (held - 2))) (sym at) ∙ ap (λ v. store_at s kind address v (tops cells (held - 2))) (sym top) ∙ store_at-stored s kind address value (tops cells (held - 2)) ∙ ap (λ b. access.store_did s b (stored kind p.memory address value) (tops cells (held - 2))) (sym inside) in
      ap moved is ∙ ap (λ t. onward (place + 1) s (store_did s kind offset t)) (tops_two cells held some) ∙ ap (onward (place + 1) s) one ∙ ap (λ w. Over (Trapped trap.Bounds (store_of g (parts w p.globals p.refused)))) (sym same)

  pub select_on : (d : Step) (c x y value next : ℕ) (written : List ℕ) → d ≡ step.Select → 3 ≤ held → c ≡ slice_index cells (held - 1) → x ≡ slice_index cells (held - 3) → y ≡ slice_index cells (held - 2) → value ≡ cond (nat_eq (low I32 c) 0) y x → next ≡ held - 3 + 1 → tops written (held - 3 + 1) ≡ value ∷ tops cells (held - 3) → moved d ≡ On (place + 1) s (tops written next)
  select_on d c x y value next written is some at_c at_x at_y got up top =
      let one : cond (nat_eq (low I32 (slice_index cells (held - 1))) 0) (slice_index cells (held - 2)) (slice_index cells (held - 3)) ≡ value = rw (← at_c, ← at_x, ← at_y) (sym got) in
      ap moved is ∙ ap (λ t. onward (place + 1) s (select_did s t)) (tops_three cells held some) ∙ ap (λ v. On (place + 1) s (v ∷ tops cells (held - 3))) one ∙ ap (λ t. On (place + 1) s t) (sym top ∙ ap (tops written) (sym up))

  -- an operator on two operands
  two_on : (f : ℕ → ℕ → Result ℕ Trap) (value next : ℕ) (written : List ℕ) → 2 ≤ held → f (slice_index cells (held - 2)) (slice_index cells (held - 1)) ≡ Ok value → next ≡ held - 2 + 1 → tops written (held - 2 + 1) ≡ value ∷ tops cells (held - 2) → onward (place + 1) s (binary_did f s (tops cells held)) ≡ On (place + 1) s (tops written next)
  two_on f value next written some got up top =
      ap (λ t. onward (place + 1) s (binary_did f s t)) (tops_two cells held some) ∙ ap (λ r. onward (place + 1) s (or_fails s r (tops cells (held - 2)))) got ∙ ap (λ t. On (place + 1) s t) (sym top ∙ ap (tops written) (sym up))

  pub compare_on : (d : Step) (kind : ValueType) (o : Comparison) (value next : ℕ) (written : List ℕ) → d ≡ step.Compare kind o → 2 ≤ held → value ≡ compare kind o (slice_index cells (held - 2)) (slice_index cells (held - 1)) → next ≡ held - 2 + 1 → tops written (held - 2 + 1) ≡ value ∷ tops cells (held - 2) → moved d ≡ On (place + 1) s (tops written next)
  compare_on d kind o value next written is some got up top = ap moved is ∙ two_on (λ x y. Ok (compare kind o x y)) value next written some (ap Ok (sym got)) up top

  pub binary_on : (d : Step) (kind : ValueType) (o : BinaryOperator) (value next : ℕ) (written : List ℕ) → d ≡ step.Binary kind o → 2 ≤ held → binary kind o (slice_index cells (held - 2)) (slice_index cells (held - 1)) ≡ Ok value → next ≡ held - 2 + 1 → tops written (held - 2 + 1) ≡ value ∷ tops cells (held - 2) → moved d ≡ On (place + 1) s (tops written next)
  binary_on d kind o value next written is some got up top = ap moved is ∙ two_on (binary kind o) value next written some got up top

  pub binary_fails : (d : Step) (kind : ValueType) (o : BinaryOperator) (cause : Trap) → d ≡ step.Binary kind o → 2 ≤ held → binary kind o (slice_index cells (held - 2)) (slice_index cells (held - 1)) ≡ Err cause → moved d ≡ Over (Trapped cause (store_of g p))
  binary_fails d kind o cause is some got =
      ap moved is ∙ ap (λ t. onward (place + 1) s (binary_did (binary kind o) s t)) (tops_two cells held some) ∙ ap (λ r. onward (place + 1) s (or_fails s r (tops cells (held - 2)))) got

-- the label that a table gives is one of those that it asks for
pub table_ready : (steps : List Step) (locals globals room place held count v : ℕ) (x : Label) → Ready steps locals globals room (Some (step.BrTable count)) place held → slice_get steps (place + 1 + min v count) ≡ Some (step.Entry x) → ReadyLabel (held - 1) x
table_ready steps locals globals room place held count v x r got =
    let at = r.2 (min v count) (min-le_right v count) in
    let same : at.0 ≡ x = ap (λ o. unwrap_or (entry_label o) x) (sym at.1 ∙ got) in
    let below : r.0 ≡ held - 1 = let h : held ≡ suc r.0 = r.1 in omega arith in
    subst (λ n. ReadyLabel n x) below (subst (λ y. ReadyLabel r.0 y) same at.2)

-- the effective address
pub address_is : (a b offset t v : ℕ) → a ≡ low I32 t → b ≡ offset → t ≡ v → a + b ≡ low I32 v + offset
address_is a b offset t v ha hb ht = rw (ha, hb, ht) refl
