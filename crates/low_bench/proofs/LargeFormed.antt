-- The large module is formed.
use Rattle.std.proofs.Common.{◌≡◌, ◌+◌, ◌*◌, ◌<◌, ◌≤◌, ◌^◌, ℕ, zero, suc, [], ◌∷◌, length, refl, ap, ◌∙◌, arith, pos, FitsSigned, Result, Ok, Err, subst, List}
use Rattle.std.specs.Prelude.{IfOk}
use Rattle.std.specs.Int.{w32}
use Rattle.wasm_tree.specs.declared.types.ValueType.TheVariants.{I32}
use Rattle.low_ir.specs.declared.module_parts.LowModule.{LowModule}
use Rattle.low_ir.specs.Numbering.{host_types, host_signatures}
use Rattle.low_ir.specs.Flat.{flat, flat_module}
use Rattle.low_ir.specs.Formed.{IsFormed, ModuleIsFormed, IsFormedModule}
use Rattle.low_ir.specs.Rows.{number_type}
use Rattle.wasm_tree.specs.Spelling.{IsLeast}
use Rattle.wasm_tree.specs.Binary.{Written}
use Rattle.wasm_tree.specs.declared.module_parts.Module.{Module as WasmModule}
use Rattle.wasm_emit.specs.Emit.{emitted}
use Rattle.first_run_time.specs.RunTime.{run_time}
use Rattle.low_bench.specs.Large.{parts, large}

word : (n : ℕ) → n < 2 ^ 31 → FitsSigned w32 (pos n)
word n h = record { sfits = h }

parts_formed : (all n : ℕ) → IsFormed (large all) (I32 ∷ I32 ∷ []) (I32 ∷ []) 0 (I32 ∷ []) (parts n)
unfolding host_types host_signatures
parts_formed all zero = (I32, refl, refl)
parts_formed all (suc n) = (
  I32,
  refl,
  (refl, omega arith, refl),
  (
    I32,
    refl,
    (refl, (refl, word 12345 (omega arith)), refl),
    (
      refl,
      omega arith,
      refl,
      (record { type = number_type; is = refl; kinds = (refl, tt); gives = (I32, refl, refl) }, parts_formed all n),
    ),
  ),
)

counted : (n : ℕ) → length (flat (parts n)) ≡ 5 * n + 1
counted zero = refl
counted (suc n) = ap (λ k. suc (suc (suc (suc (suc k))))) (counted n) ∙ omega arith

large_formed : (n : ℕ) → n ≤ 200000 → ModuleIsFormed (large n)
unfolding host_types host_signatures
large_formed n few = record {
  types = (record { results = omega arith; params = omega arith }, tt);
  functions = (record { type = number_type; is = refl; few = omega arith; body = parts_formed n n }, tt);
  table = tt;
  globals = tt;
  exports = tt;
  names = λ i j d p q e. absurd (omega (arith, q));
  few_types = omega arith;
  few_functions = omega arith;
  few_entries = omega arith;
  few_globals = omega arith;
  few_pages = omega arith;
  fits = omega arith;
  short = omega (arith, counted n, few);
}

pub formed : (n : ℕ) → n ≤ 200000 → (low : LowModule) → low ≡ flat_module (large n) → IsFormedModule low
formed n few low e = record { tree = large n; is = e; formed = large_formed n few }

pub made_formed : {E : Type 0} (n : ℕ) → n ≤ 200000 → (r : Result LowModule E) → IfOk r (λ low. low ≡ flat_module (large n)) → IfOk r (λ low. IsFormedModule low)
made_formed n few (Ok low) e = formed n few low e
made_formed n few (Err fault) e = tt

-- What is written of the run time's module spells it.
pub made_written : {E : Type 0} (tree : WasmModule) → tree ≡ emitted (flat_module run_time) → (r : Result (List ℕ) E) → IfOk r (λ bytes. IsLeast (Written tree) bytes) → IfOk r (λ bytes. Written (emitted (flat_module run_time)) bytes)
made_written tree e (Ok bytes) c = subst (λ t. Written t bytes) e c.spells
made_written tree e (Err fault) c = tt
