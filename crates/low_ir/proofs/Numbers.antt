-- The types of the two functions of the host that code calls by itself, and what has a type is there.
use Rattle.std.proofs.Common.{◌≡◌, ◌<◌, ℕ, zero, suc, List, [], ◌∷◌, length, Option, Some, None, slice_get, refl, arith}
use Rattle.wasm_tree.specs.declared.types.ValueType.TheVariants.{I64}
use Rattle.wasm_tree.specs.declared.types.FunctionType.{FunctionType}
use Rattle.wasm_tree.specs.Imports.{function_type, bytes_type}
use Rattle.wasm_tree.specs.Rules.{or_no}
use Rattle.low_ir.specs.Tree.{Module}
use Rattle.low_ir.specs.Numbering.{host_count, host_types, host_signatures, stable_grow, host_trap, all_types, all_signatures, type_of}

abbrev pub stable_grow_type : FunctionType
stable_grow_type = function_type (I64 ∷ []) (I64 ∷ [])

pub stable_grow_typed : (m : Module) → type_of m stable_grow ≡ Some stable_grow_type
unfolding host_types host_signatures
stable_grow_typed m = refl

pub host_trap_typed : (m : Module) → type_of m host_trap ≡ Some bytes_type
unfolding host_types host_signatures
host_trap_typed m = refl

pub host_types_counted : length host_types ≡ host_count
unfolding host_types
host_types_counted = refl

pub host_signatures_counted : length host_signatures ≡ host_count
unfolding host_signatures
host_signatures_counted = refl

pub past : {A : Type 0} (xs : List A) (k : ℕ) (x : A) → slice_get xs k ≡ Some x → k < length xs
past [] k x e = absurd (cc)
past (y ∷ xs) zero x e = omega arith
past (y ∷ xs) (suc k) x e = let less : k < length xs = past xs k x e in omega arith

pub type_inside : (m : Module) (f : ℕ) (t : FunctionType) → type_of m f ≡ Some t → f < length (all_signatures m)
type_inside m f t e = by (slice_get (all_signatures m) f) refl e
  where
    by : (o : Option ℕ) → slice_get (all_signatures m) f ≡ o → or_no o (slice_get (all_types m)) ≡ Some t → f < length (all_signatures m)
    by None is e = absurd (cc)
    by (Some n) is e = past (all_signatures m) f n is
