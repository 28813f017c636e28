-- Instructions of i32 look at no more than the low bits of their operands.
use Rattle.std.proofs.Common.{◌≡◌, ℕ, ◌%◌, ◌^◌, Ok, ap, ◌∙◌}
use Rattle.std.proofs.Math.Nat.{mod-mod, mod-add-mod, add-mod-mod}
use Rattle.std.proofs.lemmas.Nat.{mul-mod_first, mul-mod_second}
use Rattle.wasm_tree.specs.declared.types.ValueType.TheVariants.{I32}
use Rattle.wasm_tree.specs.declared.op.BinaryOperator.{BinaryOperator}
use Rattle.wasm_tree.specs.declared.op.BinaryOperator.TheVariants.{Add, Sub, Mul, DivS, DivU, RemS, RemU, And, Or, Xor, Shl, ShrS, ShrU, Rotl, Rotr}
use Rattle.wasm_tree.specs.Numeric.{low, binary}

low_low : (x : ℕ) → low I32 (low I32 x) ≡ low I32 x
low_low x = mod-mod x (2 ^ 32)

pub binary-low : (operator : BinaryOperator) (x y : ℕ) → binary I32 operator (low I32 x) (low I32 y) ≡ binary I32 operator x y
binary-low Add x y = ap Ok (mod-add-mod x (2 ^ 32) (y % 2 ^ 32) ∙ add-mod-mod x y (2 ^ 32))
binary-low Sub x y = simp low_low
binary-low Mul x y = ap Ok (mul-mod_first x (y % 2 ^ 32) (2 ^ 32) ∙ mul-mod_second x y (2 ^ 32))
binary-low DivS x y = simp low_low
binary-low DivU x y = simp low_low
binary-low RemS x y = simp low_low
binary-low RemU x y = simp low_low
binary-low And x y = simp low_low
binary-low Or x y = simp low_low
binary-low Xor x y = simp low_low
binary-low Shl x y = simp (low_low, mul-mod_first)
binary-low ShrS x y = simp low_low
binary-low ShrU x y = simp low_low
binary-low Rotl x y = simp low_low
binary-low Rotr x y = simp low_low
