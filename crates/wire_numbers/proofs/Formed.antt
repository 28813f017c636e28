-- The routines are formed in a module that has their types.
use Rattle.std.proofs.Common.{◌≡◌, ◌<◌, ◌^◌, ℕ, pos, [], ◌∷◌, Some, slice_get, refl, arith, FitsSigned}
use Rattle.std.specs.Int.{w32, w64}
use Rattle.mo_num.specs.declared.kind.Kind.{Kind}
use Rattle.mo_num.specs.declared.kind.Kind.TheVariants as kind
use Rattle.wasm_tree.specs.declared.types.ValueType.TheVariants.{I32, I64}
use Rattle.low_ir.specs.Tree.{Module}
use Rattle.low_ir.specs.Numbering.{all_types}
use Rattle.low_ir.specs.Formed.{FunctionIsFormed}
use Rattle.memory_routines.specs.Laws.{word_of}
use Rattle.wire_numbers.specs.Readers.{reader, read_kind}
use Rattle.wire_numbers.specs.Writers.{writer, write_kind}
use Rattle.wire_numbers.specs.Laws.{RoutinesAreFormed}

word : (n : ℕ) → n < 2 ^ 31 → FitsSigned w32 (pos n)
word n h = record { sfits = h }

long : (n : ℕ) → n < 2 ^ 63 → FitsSigned w64 (pos n)
long n h = record { sfits = h }

reads : (m : Module) (signature : ℕ) (k : Kind) → slice_get (all_types m) signature ≡ Some (word_of (I32 ∷ I32 ∷ I32 ∷ [])) → FunctionIsFormed m (reader (read_kind k) signature)
reads m signature kind.Nat typed = record { type = word_of (I32 ∷ I32 ∷ I32 ∷ []); is = typed; few = omega arith; body = (I64, refl, (refl, long 0 (omega arith)), (I64, refl, (refl, long 1 (omega arith)), (((I32, refl, (refl, refl, refl), (refl, (I32, (refl, word 0 (omega arith)), refl), refl, (I64, refl, (refl, omega arith, refl), (I32, refl, (refl, (refl, word 1 (omega arith)), refl), (I64, refl, (refl, (refl, long 128 (omega arith)), refl), (I64, refl, (refl, refl, refl), (I64, refl, (refl, refl, refl), (I64, refl, (refl, (refl, long 128 (omega arith)), refl), (I32, refl, (refl, (refl, long 128 (omega arith)), refl), (refl, omega arith, (I32, refl, (refl, (refl, record { sfits = omega arith }), refl), (refl, omega arith, omega arith)))))))))))), refl), (I32, refl, (refl, (refl, long 128 (omega arith)), refl), (refl, (I32, refl, (refl, refl, refl), (refl, (I32, (refl, word 0 (omega arith)), refl), refl, (I64, refl, (refl, omega arith, refl), (I32, refl, (refl, (refl, word 1 (omega arith)), refl), (I32, refl, (refl, (refl, long 0 (omega arith)), refl), (refl, (I32, (refl, word 0 (omega arith)), refl), refl, refl)))))), refl, (refl, omega arith, refl, (I32, refl, refl))))))) }
reads m signature kind.Int typed = record { type = word_of (I32 ∷ I32 ∷ I32 ∷ []); is = typed; few = omega arith; body = (I64, refl, (refl, long 0 (omega arith)), (I64, refl, (refl, long 1 (omega arith)), (((I32, refl, (refl, refl, refl), (refl, (I32, (refl, word 0 (omega arith)), refl), refl, (I64, refl, (refl, omega arith, refl), (I32, refl, (refl, (refl, word 1 (omega arith)), refl), (I64, refl, (refl, (refl, long 128 (omega arith)), refl), (I64, refl, (refl, refl, refl), (I64, refl, (refl, refl, refl), (I64, refl, (refl, (refl, long 128 (omega arith)), refl), (I32, refl, (refl, (refl, long 128 (omega arith)), refl), (refl, omega arith, (I32, refl, (refl, (refl, record { sfits = omega arith }), refl), (refl, omega arith, omega arith)))))))))))), refl), (I32, refl, (refl, (refl, long 128 (omega arith)), refl), (refl, (I32, refl, (refl, refl, refl), (refl, (I32, (refl, word 0 (omega arith)), refl), refl, (I64, refl, (refl, omega arith, refl), (I32, refl, (refl, (refl, word 1 (omega arith)), refl), (I32, refl, (refl, (refl, long 0 (omega arith)), refl), (refl, (I32, refl, (refl, (refl, long 127 (omega arith)), refl), (refl, (I32, (refl, word 0 (omega arith)), refl), refl, (I64, refl, (refl, refl, refl), refl))), refl, refl)))))), (I32, refl, (refl, (refl, long 64 (omega arith)), refl), (refl, (I64, refl, (refl, refl, refl), refl), refl, refl)), (refl, omega arith, refl, (I32, refl, refl))))))) }
reads m signature kind.Nat8 typed = record { type = word_of (I32 ∷ I32 ∷ I32 ∷ []); is = typed; few = omega arith; body = (I32, refl, (refl, refl, refl), (I32, refl, (refl, (refl, word 1 (omega arith)), refl), (refl, (I32, (refl, word 0 (omega arith)), refl), refl, (I64, refl, (refl, omega arith, refl), (I32, refl, (refl, (refl, word 1 (omega arith)), refl), (refl, omega arith, refl, (I32, refl, refl))))))) }
reads m signature kind.Nat16 typed = record { type = word_of (I32 ∷ I32 ∷ I32 ∷ []); is = typed; few = omega arith; body = (I32, refl, (refl, refl, refl), (I32, refl, (refl, (refl, word 2 (omega arith)), refl), (refl, (I32, (refl, word 0 (omega arith)), refl), refl, (I64, refl, (refl, omega arith, refl), (I32, refl, (refl, (refl, word 2 (omega arith)), refl), (refl, omega arith, refl, (I32, refl, refl))))))) }
reads m signature kind.Nat32 typed = record { type = word_of (I32 ∷ I32 ∷ I32 ∷ []); is = typed; few = omega arith; body = (I32, refl, (refl, refl, refl), (I32, refl, (refl, (refl, word 4 (omega arith)), refl), (refl, (I32, (refl, word 0 (omega arith)), refl), refl, (I64, refl, (refl, omega arith, refl), (I32, refl, (refl, (refl, word 4 (omega arith)), refl), (refl, omega arith, refl, (I32, refl, refl))))))) }
reads m signature kind.Nat64 typed = record { type = word_of (I32 ∷ I32 ∷ I32 ∷ []); is = typed; few = omega arith; body = (I32, refl, (refl, refl, refl), (I32, refl, (refl, (refl, word 8 (omega arith)), refl), (refl, (I32, (refl, word 0 (omega arith)), refl), refl, (I64, refl, (refl, omega arith, refl), (I32, refl, (refl, (refl, word 8 (omega arith)), refl), (refl, omega arith, refl, (I32, refl, refl))))))) }
reads m signature kind.Int8 typed = record { type = word_of (I32 ∷ I32 ∷ I32 ∷ []); is = typed; few = omega arith; body = (I32, refl, (refl, refl, refl), (I32, refl, (refl, (refl, word 1 (omega arith)), refl), (refl, (I32, (refl, word 0 (omega arith)), refl), refl, (I64, refl, (refl, omega arith, refl), (I32, refl, (refl, (refl, word 1 (omega arith)), refl), (refl, omega arith, refl, (I32, refl, refl))))))) }
reads m signature kind.Int16 typed = record { type = word_of (I32 ∷ I32 ∷ I32 ∷ []); is = typed; few = omega arith; body = (I32, refl, (refl, refl, refl), (I32, refl, (refl, (refl, word 2 (omega arith)), refl), (refl, (I32, (refl, word 0 (omega arith)), refl), refl, (I64, refl, (refl, omega arith, refl), (I32, refl, (refl, (refl, word 2 (omega arith)), refl), (refl, omega arith, refl, (I32, refl, refl))))))) }
reads m signature kind.Int32 typed = record { type = word_of (I32 ∷ I32 ∷ I32 ∷ []); is = typed; few = omega arith; body = (I32, refl, (refl, refl, refl), (I32, refl, (refl, (refl, word 4 (omega arith)), refl), (refl, (I32, (refl, word 0 (omega arith)), refl), refl, (I64, refl, (refl, omega arith, refl), (I32, refl, (refl, (refl, word 4 (omega arith)), refl), (refl, omega arith, refl, (I32, refl, refl))))))) }
reads m signature kind.Int64 typed = record { type = word_of (I32 ∷ I32 ∷ I32 ∷ []); is = typed; few = omega arith; body = (I32, refl, (refl, refl, refl), (I32, refl, (refl, (refl, word 8 (omega arith)), refl), (refl, (I32, (refl, word 0 (omega arith)), refl), refl, (I64, refl, (refl, omega arith, refl), (I32, refl, (refl, (refl, word 8 (omega arith)), refl), (refl, omega arith, refl, (I32, refl, refl))))))) }

writes : (m : Module) (signature : ℕ) (k : Kind) → slice_get (all_types m) signature ≡ Some (word_of (I32 ∷ I64 ∷ [])) → FunctionIsFormed m (writer (write_kind k) signature)
writes m signature kind.Nat typed = record { type = word_of (I32 ∷ I64 ∷ []); is = typed; few = omega arith; body = ((I32, refl, (refl, (refl, long 128 (omega arith)), refl), (refl, (I64, refl, refl, (refl, omega arith, refl, (I32, refl, (refl, (refl, word 1 (omega arith)), refl), (I32, refl, refl)))), refl, (I64, refl, (refl, (refl, long 128 (omega arith)), refl), (I64, refl, (refl, (refl, long 128 (omega arith)), refl), (refl, omega arith, refl, (I32, refl, (refl, (refl, word 1 (omega arith)), refl), (I64, refl, (refl, (refl, long 128 (omega arith)), refl), omega arith))))))), (I32, refl, refl)) }
writes m signature kind.Int typed = record { type = word_of (I32 ∷ I64 ∷ []); is = typed; few = omega arith; body = (I32, refl, (refl, (refl, long 0 (omega arith)), refl), (refl, (I64, refl, ((refl, record { sfits = omega arith }), refl, refl), ((I32, refl, (refl, (refl, long 64 (omega arith)), refl), (refl, (I64, refl, ((refl, long 127 (omega arith)), refl, refl), (refl, omega arith, refl, (I32, refl, (refl, (refl, word 1 (omega arith)), refl), (I32, refl, refl)))), refl, (I64, refl, (refl, (refl, long 128 (omega arith)), refl), (I64, refl, ((refl, long 255 (omega arith)), refl, refl), (refl, omega arith, refl, (I32, refl, (refl, (refl, word 1 (omega arith)), refl), (I64, refl, (refl, (refl, long 128 (omega arith)), refl), omega arith))))))), refl)), refl, ((I32, refl, (refl, (refl, long 64 (omega arith)), refl), (refl, (I64, refl, refl, (refl, omega arith, refl, (I32, refl, (refl, (refl, word 1 (omega arith)), refl), (I32, refl, refl)))), refl, (I64, refl, (refl, (refl, long 128 (omega arith)), refl), (I64, refl, (refl, (refl, long 128 (omega arith)), refl), (refl, omega arith, refl, (I32, refl, (refl, (refl, word 1 (omega arith)), refl), (I64, refl, (refl, (refl, long 128 (omega arith)), refl), omega arith))))))), (I32, refl, refl)))) }
writes m signature kind.Nat8 typed = record { type = word_of (I32 ∷ I64 ∷ []); is = typed; few = omega arith; body = (refl, omega arith, refl, (I32, refl, (refl, (refl, word 1 (omega arith)), refl), (I32, refl, refl))) }
writes m signature kind.Nat16 typed = record { type = word_of (I32 ∷ I64 ∷ []); is = typed; few = omega arith; body = (refl, omega arith, refl, (I32, refl, (refl, (refl, word 2 (omega arith)), refl), (I32, refl, refl))) }
writes m signature kind.Nat32 typed = record { type = word_of (I32 ∷ I64 ∷ []); is = typed; few = omega arith; body = (refl, omega arith, refl, (I32, refl, (refl, (refl, word 4 (omega arith)), refl), (I32, refl, refl))) }
writes m signature kind.Nat64 typed = record { type = word_of (I32 ∷ I64 ∷ []); is = typed; few = omega arith; body = (refl, omega arith, refl, (I32, refl, (refl, (refl, word 8 (omega arith)), refl), (I32, refl, refl))) }
writes m signature kind.Int8 typed = record { type = word_of (I32 ∷ I64 ∷ []); is = typed; few = omega arith; body = (refl, omega arith, refl, (I32, refl, (refl, (refl, word 1 (omega arith)), refl), (I32, refl, refl))) }
writes m signature kind.Int16 typed = record { type = word_of (I32 ∷ I64 ∷ []); is = typed; few = omega arith; body = (refl, omega arith, refl, (I32, refl, (refl, (refl, word 2 (omega arith)), refl), (I32, refl, refl))) }
writes m signature kind.Int32 typed = record { type = word_of (I32 ∷ I64 ∷ []); is = typed; few = omega arith; body = (refl, omega arith, refl, (I32, refl, (refl, (refl, word 4 (omega arith)), refl), (I32, refl, refl))) }
writes m signature kind.Int64 typed = record { type = word_of (I32 ∷ I64 ∷ []); is = typed; few = omega arith; body = (refl, omega arith, refl, (I32, refl, (refl, (refl, word 8 (omega arith)), refl), (I32, refl, refl))) }

pub routines_formed : RoutinesAreFormed
routines_formed m signature = (
  λ typed k. reads m signature k typed,
  λ typed. record { type = word_of (I32 ∷ I32 ∷ I32 ∷ []); is = typed; few = omega arith; body = (I32, refl, (refl, refl, refl), (refl, (I32, (refl, word 0 (omega arith)), refl), refl, (I64, refl, (refl, omega arith, refl), (I32, refl, (refl, (refl, word 1 (omega arith)), refl), (I32, refl, (refl, (refl, long 1 (omega arith)), refl), (refl, (I32, (refl, word 0 (omega arith)), refl), refl, (I64, refl, refl, (refl, omega arith, refl, (I32, refl, refl))))))))) },
  λ typed k. writes m signature k typed,
  λ typed. record { type = word_of (I32 ∷ I64 ∷ []); is = typed; few = omega arith; body = (refl, omega arith, refl, (I32, refl, (refl, (refl, word 1 (omega arith)), refl), (I32, refl, refl))) },
)
