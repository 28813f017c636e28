-- The module of the rows is formed.
use Rattle.std.proofs.Common.{◌<◌, ◌^◌, ℕ, pos, List, [], ◌∷◌, refl, arith, FitsSigned}
use Rattle.std.specs.Int.{w32}
use Rattle.wasm_tree.specs.declared.types.ValueType.{ValueType}
use Rattle.wasm_tree.specs.declared.types.ValueType.TheVariants.{I32}
use Rattle.low_ir.specs.Numbering.{host_types, host_signatures}
use Rattle.low_ir.specs.Formed.{IsFormed, ModuleIsFormed}
use Rattle.low_ir.specs.Rows.{number_type, sum_below, two_sums, grow_and_write, choose, without_end, example}

fits : (n : ℕ) → n < 2 ^ 31 → FitsSigned w32 (pos n)
fits n h = record { sfits = h }

abbrev locals : List ValueType
locals = I32 ∷ I32 ∷ I32 ∷ []

sum_formed : IsFormed example locals (I32 ∷ []) 0 (I32 ∷ []) sum_below
sum_formed = (
  (
    (I32, refl, (refl, refl), (refl, omega arith, (I32, refl, (refl, refl, refl), (I32, refl, (refl, (refl, fits 1 (omega arith)), refl), omega arith)))),
    refl,
  ),
  (I32, refl, refl),
)

two_formed : IsFormed example locals (I32 ∷ []) 0 (I32 ∷ []) two_sums
unfolding host_types host_signatures
two_formed = (
  record { type = number_type; is = refl; kinds = (refl, tt); gives = (I32, refl, refl) },
  (
    record { type = number_type; is = refl; kinds = (refl, tt); gives = (I32, refl, refl) },
    (refl, fits 0 (omega arith)),
    (I32, refl, (refl, refl, refl), (I32, refl, refl)),
  ),
)

grow_formed : IsFormed example locals (I32 ∷ []) 0 (I32 ∷ []) grow_and_write
grow_formed = (
  refl,
  (
    (refl, fits 65532 (omega arith)),
    omega arith,
    refl,
    (I32, refl, ((refl, fits 65532 (omega arith)), omega arith, refl), (I32, refl, refl)),
  ),
)

choose_formed : IsFormed example locals (I32 ∷ []) 0 (I32 ∷ []) choose
choose_formed = (
  refl,
  (I32, refl, ((refl, fits 100 (omega arith)), refl, refl), refl),
  (I32, refl, (refl, refl, refl), refl),
  (I32, refl, refl),
)

endless_formed : IsFormed example locals (I32 ∷ []) 0 (I32 ∷ []) without_end
unfolding host_types host_signatures
endless_formed = (record { type = number_type; is = refl; kinds = (refl, tt); gives = (I32, refl, refl) }, (I32, refl, refl))

pub example_formed : ModuleIsFormed example
unfolding host_types host_signatures
example_formed = record {
  types = (record { results = omega arith; params = omega arith }, tt);
  functions = (
    record { type = number_type; is = refl; few = omega arith; body = sum_formed },
    (
      record { type = number_type; is = refl; few = omega arith; body = two_formed },
      (
        record { type = number_type; is = refl; few = omega arith; body = grow_formed },
        (
          record { type = number_type; is = refl; few = omega arith; body = choose_formed },
          (record { type = number_type; is = refl; few = omega arith; body = endless_formed }, tt),
        ),
      ),
    ),
  );
  table = (omega arith, tt);
  globals = tt;
  exports = tt;
  names = λ i j d p q e. absurd (omega (arith, q));
  few_types = omega arith;
  few_functions = omega arith;
  few_entries = omega arith;
  few_globals = omega arith;
  few_pages = omega arith;
  fits = omega arith;
  short = omega arith;
}
