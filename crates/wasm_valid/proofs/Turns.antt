-- The check of the rest of a body begins with its first instruction.
use Rattle.std.proofs.Common.{◌≡◌, ℕ, ◌+◌, ◌<◌, List, length, get_or, drop, drop-cons, add-one, Option, refl, ◌∙◌, Result, Err}
use Rattle.wasm_tree.specs.declared.types.ValueType.{ValueType}
use Rattle.wasm_tree.specs.declared.op.Op.{Op}
use Rattle.wasm_tree.specs.declared.module_parts.Module.{Module}
use Rattle.wasm_valid.specs.declared.blocks.Opened.{Opened}
use Rattle.wasm_valid.specs.declared.body.Table.{Table}
use Rattle.wasm_valid.specs.Operands.{Stack}
use Rattle.wasm_valid.specs.declared.fault.Fault.{Fault}
use Rattle.wasm_valid.specs.declared.fault.Fault.TheVariants as fault
use Rattle.wasm_valid.specs.Verdict.{Verdict, Passes, Sees}
use Rattle.wasm_valid.specs.Body.{step, run}

pub turn : (m : Module) (signatures : List ℕ) (locals : List ValueType) (result : Option ValueType) (table : Option Table) (blocks : List Opened) (s : Stack) (ops : List Op) (i : ℕ) (d : Op) → i < length ops
    → run m signatures locals result (drop i ops) table blocks s ≡ step m signatures locals result table (get_or ops i d) blocks s (run m signatures locals result (drop (i + 1) ops))
turn m signatures locals result table blocks s ops i d h = rw (add-one, drop-cons ops i d) refl

-- A fault of a step is one of the whole.
pub carry : {A : Type 0} (whole mid : Verdict) (rest : A → Verdict) (result : Result A Fault) (e : Fault) (final : Result (Unit {0}) Fault) → whole ≡ mid → Sees result mid rest → result ≡ Err e → final ≡ Err e → Sees final whole (λ _. Passes)
carry whole mid rest result (fault.Broken r) final same sees was is = rw is (same ∙ (rw was at sees))
carry whole mid rest result fault.Memory final same sees was is = rw is tt
