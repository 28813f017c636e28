use Rattle.std.proofs.Common.{◌≡◌, ◌+◌, ◌≤◌, min, slice_index_or, ℕ, Some, subst, sym, ap, ◌∙◌}
use Rattle.std.specs.Prelude.{slice_get, List}
use Rattle.std.proofs.Math.Nat.{min-le_right}
use Rattle.std.proofs.lemmas.Option.{get_or_from_slice_get}
use Rattle.wasm_tree.specs.declared.types.ValueType.TheVariants.{I32}
use Rattle.wasm_tree.specs.Numeric.{low}
use Rattle.wasm_steps.specs.declared.step.Label.{Label}
use Rattle.wasm_steps.specs.declared.step.Step.{Step}
use Rattle.wasm_steps.specs.declared.step.Step.TheVariants.{Entry}
use Rattle.wasm_machine.proofs.operands.table_label.Goals as goal

-- the entry at a place that is the least of two
entry_there : (steps : List Step) (place v count index : ℕ) (d : Step) → ((i : ℕ) → i ≤ count → (x : Label) × (slice_get steps (place + 1 + i) ≡ Some (Entry x))) → index ≡ min v count → (x : Label) × (slice_index_or steps (place + 1 + index) d ≡ Entry x)
entry_there steps place v count index d entries e =
    let at = entries index (subst (λ i. i ≤ count) (sym e) (min-le_right v count)) in
    (at.0, get_or_from_slice_get steps (place + 1 + index) (Entry at.0) d at.1)

entry_found : (steps : List Step) (place v count index : ℕ) (d : Step) (x : Label) → ((i : ℕ) → i ≤ count → (x : Label) × (slice_get steps (place + 1 + i) ≡ Some (Entry x))) → index ≡ min v count → slice_index_or steps (place + 1 + index) d ≡ Entry x → slice_get steps (place + 1 + min v count) ≡ Some (Entry x)
entry_found steps place v count index d x entries e is =
    let at = entries (min v count) (min-le_right v count) in
    let got : slice_index_or steps (place + 1 + index) d ≡ Entry at.0 = get_or_from_slice_get steps (place + 1 + index) (Entry at.0) d (subst (λ i. slice_get steps (place + 1 + i) ≡ Some (Entry at.0)) (sym e) at.1) in
    at.1 ∙ ap Some (sym got ∙ is)

pub label_of-requires : goal.label_of-requires
label_of-requires c =
    let e : c.min-index.result ≡ min (low I32 c.args.operand) c.args.count = rw (← c.low32.ensures, ← c.from.ensures) c.min-index.ensures in
    entry_there c.args.steps.now c.args.place _ _ _ _ c.requires.entries e

pub returns : goal.returns
returns c =
    let e : c.min-index.result ≡ min (low I32 c.args.operand) c.args.count = rw (← c.low32.ensures, ← c.from.ensures) c.min-index.ensures in
    entry_found c.args.steps.now c.args.place _ _ _ _ _ c.requires.entries e c.label_of.ensures
