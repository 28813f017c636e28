-- The number of results.
use Rattle.std.proofs.Common.{◌≡◌, ℕ, suc, List, [], ◌∷◌, length, Option, Some, None, refl, sym, ap}
use Rattle.wasm_tree.specs.declared.types.ValueType.{ValueType}
use Rattle.wasm_tree.specs.declared.types.ValueType.TheVariants.{I32, I64}
use Rattle.wasm_tree.specs.Frames.{optional}
use Rattle.wasm_machine.specs.Asked.{FitsKinds}

pub fits_many : (kinds : List ValueType) (r : Option ℕ) → FitsKinds kinds r → length (optional r) ≡ length kinds
fits_many [] None h = refl
fits_many [] (Some value) h = absurd h
fits_many (kind ∷ kinds) None h = absurd h
fits_many (I32 ∷ kinds) (Some value) h = ap (λ (l : List ValueType). suc (length l)) (sym h.0)
fits_many (I64 ∷ kinds) (Some value) h = ap (λ (l : List ValueType). suc (length l)) (sym h)
