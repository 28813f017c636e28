-- The emitted module begins with what the low module begins with.
use Rattle.std.proofs.Common.{◌≡◌, ◌≤◌, ℕ, ◌+◌, ◌-◌, ◌*◌, List, [], ◌∷◌, ◌++◌, length, map, drop, replicate, nat_le, cond, true, Some, None, refl, ap, ◌∙◌, arith}
use Rattle.std.proofs.lemmas.Bool.Decides.{nat_tests}
use Rattle.std.proofs.lemmas.List.{append-nil, length-replicate, drop-replicate, length-map}
use Rattle.wasm_tree.specs.Exec.{ExecutionLimits}
use Rattle.wasm_tree.specs.Load.{blank, constant, put_at, then_put, with_segments, with_elements, filled, AboveLimit, load}
use Rattle.low_ir.specs.declared.module_parts.LowGlobal.{LowGlobal}
use Rattle.low_ir.specs.declared.module_parts.LowGlobal.TheVariants as global
use Rattle.low_ir.specs.Tree.{Module}
use Rattle.low_execution.specs.Loading.{first_value, low_load}
use Rattle.wasm_emit.specs.Emit.{emitted_global}
use Rattle.wasm_emit.proofs.Calls.{to_wasm}

-- Items at the begin of a list of blanks.
put_first : {A : Type 0} (items : List A) (n : ℕ) (item : A) → length items ≤ n → put_at 0 items (blank n item) ≡ Some (items ++ replicate (n - length items) item)
unfolding blank
put_first {A = A} items n item h =
    let inside : nat_le (0 + length items) (length (replicate n item)) ≡ true = within (length items) (length (replicate n item)) (omega (arith, h, length-replicate {A = A} n item)) in
    let none : 0 + length items ≡ length items = omega arith in
    ap (λ t. cond t (Some (items ++ drop (0 + length items) (replicate n item))) None) inside
    ∙ ap (λ k. Some (items ++ drop k (replicate n item))) none ∙ ap (λ l. Some (items ++ l)) (drop-replicate (length items) n item)
  where
    within : (a b : ℕ) → a ≤ b → nat_le (0 + a) b ≡ true
    within a b h = grind (arith, nat_tests)

globals_are : (gs : List LowGlobal) → map (λ g. constant g.init) (map emitted_global gs) ≡ map first_value gs
globals_are [] = refl
globals_are (global.Word z ∷ gs) = ap (λ l. first_value (global.Word z) ∷ l) (globals_are gs)
globals_are (global.Long z ∷ gs) = ap (λ l. first_value (global.Long z) ∷ l) (globals_are gs)

full_table : (table : List ℕ) → put_at 0 (map Some table) (blank (length table) None) ≡ Some (map Some table)
full_table table =
    let many : length (map Some table) ≡ length table = length-map table Some in
    let none : length table - length (map Some table) ≡ 0 = omega (arith, many) in
    put_first (map Some table) (length table) None (omega (arith, many)) ∙ ap (λ n. Some (map Some table ++ replicate n None)) none ∙ ap (λ l. Some l) (append-nil (map Some table))

pub loads : (limits : ExecutionLimits) (m : Module) → length m.bytes ≤ 65536 * m.pages → load limits (to_wasm m) ≡ low_load limits m
loads limits m fits =
    let globals = globals_are m.globals in
    let memory = put_first m.bytes (65536 * m.pages) 0 fits in
    let table = full_table m.table in
    λ i. cond (nat_le m.pages limits.pages) (filled (globals i) (then_put (memory i) (with_segments [])) (then_put (table i) (with_elements []))) AboveLimit
