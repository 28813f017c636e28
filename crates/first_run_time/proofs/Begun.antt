-- What the module begins with.
use Rattle.std.proofs.Common.{◌≡◌, ◌+◌, ℕ, zero, suc, List, [], ◌∷◌, ◌++◌, length, replicate, Bool, true, false, cond, nat_lt, ◌&&◌, refl, ap, ◌∙◌, arith, length-append, Result, Ok, Err}
use Rattle.std.proofs.lemmas.List.{length-replicate}
use Rattle.wasm_tree.specs.Load.{Loaded, AboveLimit}
use Rattle.ic0_world.specs.declared.world.World.{World}
use Rattle.canister_host.specs.Execution.{store_of}
use Rattle.low_execution.specs.Loading.{first_instance}
use Rattle.low_rules.proofs.Steps.{le_test, lt_true}
use Rattle.std.specs.Prelude.{IfOk}
use Rattle.wasm_tree.specs.Spelling.{HasSpelling}
use Rattle.wasm_tree.specs.Binary.{Written}
use Rattle.wasm_tree.specs.declared.module_parts.Module.{Module as WasmModule}
use Rattle.low_ir.specs.declared.module_parts.LowModule.{LowModule}
use Rattle.low_ir.specs.Flat.{flat_module}
use Rattle.wasm_emit.specs.Emit.{emitted}
use Rattle.wasm_emit.specs.Compiled.{Compiles}
use Rattle.wasm_emit.proofs.Compile.{emitted_keep}
use Rattle.memory_routines.specs.Heaps.{HoldsBytes}
use Rattle.memory_routines.proofs.Placing.{grown_bytes}
use Rattle.routine_lines.specs.Roles.{HasHeap}
use Rattle.first_run_time.specs.RunTime.{run_time, short_text}
use Rattle.first_run_time.specs.Laws.{RunTimeBeginsWithAHeap}
use Rattle.first_run_time.proofs.Formed.{run_time_formed}

abbrev are_bytes : List ℕ → Bool
are_bytes [] = true
are_bytes (b ∷ bs) = nat_lt b 256 && are_bytes bs

first_true : (a b : Bool) → (a && b) ≡ true → a ≡ true
first_true true b e = refl
first_true false b e = absurd (cc)

second_true : (a b : Bool) → (a && b) ≡ true → b ≡ true
second_true true b e = e
second_true false b e = absurd (cc)

hold : (bs : List ℕ) → are_bytes bs ≡ true → HoldsBytes bs
hold [] e k = omega arith
hold (b ∷ bs) e zero = lt_true b 256 (first_true (nat_lt b 256) (are_bytes bs) e)
hold (b ∷ bs) e (suc k) = hold bs (second_true (nat_lt b 256) (are_bytes bs) e) k

-- So many zeros behind the text.
long : (more : ℕ) → length (short_text ++ replicate more 0) ≡ 18 + more
long more = length-append short_text (replicate more 0) ∙ ap (λ n. 18 + n) (length-replicate {A = ℕ} more 0)

first_heap : (w : World) → HasHeap (store_of (first_instance run_time) w)
first_heap w = let whole : length (first_instance run_time).memory ≡ 65536 = long 65518 in record { global = refl; is = record { whole = omega (arith, whole); few = omega (arith, whole); inside = omega (arith, whole) } }

pub run_time_begins : RunTimeBeginsWithAHeap
run_time_begins = record {
  heap = first_heap;
  bytes = grown_bytes short_text 65518 (hold short_text refl);
  table = refl;
  text = refl;
  far = λ w. omega arith;
  loads = λ limits enough. (emitted_keep run_time run_time_formed).loads limits ∙ ap (λ t. cond t (Loaded (first_instance run_time)) AboveLimit) (le_test 1 limits.pages enough);
}

-- What the translation of the run time gives.
pub module_is : {E : Type 0} (low : LowModule) → low ≡ flat_module run_time → (r : Result WasmModule E) → IfOk r (λ w. Compiles low w) → IfOk r (λ w. w ≡ emitted (flat_module run_time))
module_is low e (Ok w) c = c.is ∙ ap emitted e
module_is low e (Err fault) c = tt

pub module_spelled : {E : Type 0} (low : LowModule) → low ≡ flat_module run_time → (r : Result WasmModule E) → IfOk r (λ w. Compiles low w) → IfOk r (λ w. HasSpelling (Written w))
module_spelled low e (Ok w) c = let keeps = c.keeps run_time e run_time_formed in record { bytes = keeps.spelled.bytes; spells = keeps.spelled.spells }
module_spelled low e (Err fault) c = tt
