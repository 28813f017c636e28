-- The routines are formed in a module that has their types.
use Rattle.std.proofs.Common.{◌<◌, ◌^◌, ℕ, pos, [], ◌∷◌, refl, arith, FitsSigned}
use Rattle.std.specs.Int.{w32, w64}
use Rattle.wasm_tree.specs.declared.types.ValueType.TheVariants.{I32, I64}
use Rattle.memory_routines.specs.Laws.{word_of, RoutinesAreFormed}

word : (n : ℕ) → n < 2 ^ 31 → FitsSigned w32 (pos n)
word n h = record { sfits = h }

long : (n : ℕ) → n < 2 ^ 63 → FitsSigned w64 (pos n)
long n h = record { sfits = h }

pub routines_formed : RoutinesAreFormed
routines_formed m signature = (
  λ typed is_word. record { type = word_of (I32 ∷ []); is = typed; few = omega arith; body = (I32, refl, is_word, (I32, refl, ((refl, record { sfits = omega arith }), refl, refl), (I32, refl, (refl, refl, refl), (refl, ((refl, word 65537 (omega arith)), refl), refl, (I32, refl, is_word, (I32, refl, (refl, refl, refl), (I32, refl, (refl, (refl, word 65535 (omega arith)), refl), (I32, refl, (refl, (refl, word 16 (omega arith)), refl), (I32, refl, refl, (I32, refl, (refl, refl, refl), (refl, (I32, refl, (refl, refl, refl), (refl, refl)), refl, (I32, refl, is_word, (I32, is_word, refl, (I32, refl, refl)))))))))))))) },
  λ f typed there. record { type = word_of (I32 ∷ I32 ∷ []); is = typed; few = omega arith; body = (record { type = word_of (I32 ∷ []); is = there; kinds = (refl, tt); gives = (I32, refl, refl) }, (I32, refl, refl, (((I32, refl, (refl, refl), (refl, omega arith, (I32, refl, (refl, omega arith, refl), (refl, omega arith, refl, (I32, refl, (refl, (refl, word 1 (omega arith)), refl), (I32, refl, (refl, (refl, word 1 (omega arith)), refl), (I32, refl, (refl, (refl, word 1 (omega arith)), refl), omega arith))))))), refl), (I32, refl, refl)))) },
  λ typed. record { type = word_of (I32 ∷ I32 ∷ I32 ∷ []); is = typed; few = omega arith; body = (((I32, refl, (refl, refl), (refl, omega arith, (I32, refl, (refl, omega arith, refl), (I32, refl, (refl, omega arith, refl), (I32, refl, (refl, refl, refl), (refl, (I32, (refl, word 0 (omega arith)), refl), refl, (I32, refl, (refl, (refl, word 1 (omega arith)), refl), (I32, refl, (refl, (refl, word 1 (omega arith)), refl), (I32, refl, (refl, (refl, word 1 (omega arith)), refl), omega arith))))))))), refl), (I32, (refl, word 1 (omega arith)), refl)) },
  λ typed. record { type = word_of (I32 ∷ I32 ∷ I32 ∷ I32 ∷ []); is = typed; few = omega arith; body = ((I32, refl, (refl, refl), (refl, (I32, refl, (refl, refl), (I32, refl, refl)), refl, (I32, refl, (refl, refl), (refl, (I32, (refl, word 2 (omega arith)), refl), refl, (I32, refl, (refl, omega arith, refl), (I32, refl, (refl, omega arith, refl), (I32, refl, (refl, refl, refl), (refl, (I32, (refl, word 0 (omega arith)), refl), refl, (I32, refl, (refl, refl, refl), (refl, (I32, (refl, word 2 (omega arith)), refl), refl, (I32, refl, (refl, (refl, word 1 (omega arith)), refl), (I32, refl, (refl, (refl, word 1 (omega arith)), refl), (I32, refl, (refl, (refl, word 1 (omega arith)), refl), (I32, refl, (refl, (refl, word 1 (omega arith)), refl), omega arith)))))))))))))), (I32, (refl, word 1 (omega arith)), refl)) },
  λ typed. record { type = word_of (I32 ∷ I64 ∷ []); is = typed; few = omega arith; body = ((I64, refl, (refl, (refl, long 10 (omega arith)), refl), (I64, refl, (refl, (refl, long 48 (omega arith)), refl), (I32, refl, (refl, (refl, word 1 (omega arith)), refl), (refl, omega arith, refl, (I64, refl, (refl, (refl, long 10 (omega arith)), refl), (I32, refl, (refl, refl), (refl, (I32, refl, refl), refl, omega arith))))))), (I32, refl, refl)) },
)
