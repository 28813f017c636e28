-- The functions are formed in a module that has their types and those of the functions that they call.
use Rattle.std.proofs.Common.{◌≡◌, ◌+◌, ◌<◌, ◌≤◌, ◌^◌, ℕ, suc, pos, List, [], ◌∷◌, length, Some, refl, arith, FitsSigned}
use Rattle.std.specs.Int.{w32, w64}
use Rattle.std.specs.List.{AllByRecursion}
use Rattle.mo_num.specs.declared.kind.Kind.{Kind}
use Rattle.mo_types.specs.declared.wire.Plain.TheVariants as plain
use Rattle.mo_types.specs.Wire.{plain_code, plain_number}
use Rattle.candid_header.proofs.Refs.{code_range}
use Rattle.wasm_tree.specs.declared.types.ValueType.{ValueType}
use Rattle.wasm_tree.specs.declared.types.ValueType.TheVariants.{I32, I64}
use Rattle.low_ir.specs.Tree.{Code, Module}
use Rattle.low_ir.specs.Numbering.{type_of}
use Rattle.low_ir.specs.Formed.{IsFormed}
use Rattle.memory_routines.specs.Laws.{word_of}
use Rattle.wire_tables.specs.References.{u32, ref}
use Rattle.wire_messages.specs.declared.column.Wired.{Wired}
use Rattle.wire_messages.specs.declared.column.Wired.TheVariants.{Number, Truth, Unit as Nothing}
use Rattle.wire_messages.specs.Arguments.{reads_kind, reads_truth, is_code, is_marked, refs_are, take_value, take_nothing, at_end, take_values, behind_count}
use Rattle.wire_messages.specs.Replies.{writes_kind, writes_truth, put_bytes, put_values}
use Rattle.wire_messages.specs.Laws.{MessagesAreFormed}

word : (n : ℕ) → n < 2 ^ 31 → FitsSigned w32 (pos n)
word n h = record { sfits = h }

long : (n : ℕ) → n < 2 ^ 63 → FitsSigned w64 (pos n)
long n h = record { sfits = h }

-- ---- replies

module _ (m : Module) (first : ℕ) (kinds : (k : Kind) → type_of m (writes_kind first k) ≡ Some (word_of (I32 ∷ I64 ∷ []))) (truths : type_of m (writes_truth first) ≡ Some (word_of (I32 ∷ I64 ∷ []))) where
  abbrev Writes : Code → Type 0
  Writes c = IsFormed m (I32 ∷ I32 ∷ I64 ∷ []) (I32 ∷ []) 0 (I32 ∷ []) c

  values_formed : (ws : List Wired) → Writes (put_values first ws)
  values_formed [] = (I32, refl, refl)
  values_formed (Number k ∷ ws) = (I64, refl, (refl, omega arith, refl), (record { type = word_of (I32 ∷ I64 ∷ []); is = kinds k; kinds = (refl, (refl, tt)); gives = (I32, refl, refl) }, (I32, refl, (refl, (refl, word 8 (omega arith)), refl), values_formed ws)))
  values_formed (Truth ∷ ws) = (I64, refl, (refl, omega arith, refl), (record { type = word_of (I32 ∷ I64 ∷ []); is = truths; kinds = (refl, (refl, tt)); gives = (I32, refl, refl) }, (I32, refl, (refl, (refl, word 8 (omega arith)), refl), values_formed ws)))
  values_formed (Nothing ∷ ws) = (I32, refl, (refl, (refl, word 8 (omega arith)), refl), values_formed ws)

  bytes_formed : (bs : List ℕ) (i : ℕ) (rest : Code) → i + length bs ≤ 65536 → AllByRecursion (λ b. b < 256) bs → Writes rest → Writes (put_bytes bs i rest)
  bytes_formed [] i rest few all h = h
  bytes_formed (b ∷ bs) i rest few all h = (refl, omega (arith, few), (refl, word b (omega (arith, all.0))), bytes_formed bs (suc i) rest (omega (arith, few)) all.1 h)

-- ---- arguments

abbrev locals : List ValueType
locals = I32 ∷ I32 ∷ I32 ∷ I64 ∷ I64 ∷ I64 ∷ I32 ∷ I64 ∷ I64 ∷ I32 ∷ []

module _ (m : Module) where
  abbrev Reads : Code → Type 0
  Reads c = IsFormed m locals (I32 ∷ []) 0 (I32 ∷ []) c

  code_formed : (c : ℕ) (next : Code) → c < 128 → Reads next → Reads (is_code c next)
  code_formed c next few rest = (I32, refl, (refl, (refl, long (4096 + c) (omega (arith, few))), refl), (refl, (I32, (refl, word 0 (omega arith)), refl), refl, rest))

  marked_formed : (next : Code) → Reads next → Reads (is_marked next)
  marked_formed next rest = (I32, refl, (refl, (refl, long 4096 (omega arith)), refl), (refl, (I32, (refl, word 0 (omega arith)), refl), refl, (I32, refl, (refl, refl), (I32, refl, (refl, refl, refl), (I64, refl, (refl, omega arith, refl), (I32, refl, (refl, (refl, long 2 (omega arith)), refl), (refl, (I32, (refl, word 0 (omega arith)), refl), refl, rest)))))))

  ref_formed : (next : Code) → Reads next → Reads (ref next)
  ref_formed next rest = (I64, refl, (refl, long 0 (omega arith)), (I64, refl, (refl, long 1 (omega arith)), (((I32, refl, (refl, refl, refl), (refl, (I32, (refl, word 0 (omega arith)), refl), refl, (I64, refl, (refl, omega arith, refl), (I32, refl, (refl, (refl, word 1 (omega arith)), refl), (I64, refl, (refl, (refl, long 128 (omega arith)), refl), (I64, refl, (refl, refl, refl), (I64, refl, (refl, refl, refl), (I64, refl, (refl, (refl, long 128 (omega arith)), refl), (I32, refl, (refl, (refl, long 128 (omega arith)), refl), (refl, omega arith, (I32, refl, (refl, (refl, long 34359738368 (omega arith)), refl), (refl, omega arith, omega arith)))))))))))), refl), (I32, refl, (refl, (refl, long 64 (omega arith)), refl), (refl, (I32, refl, (refl, refl, refl), (refl, (I32, (refl, word 0 (omega arith)), refl), refl, refl)), (I32, refl, (refl, (refl, long 128 (omega arith)), refl), (refl, (I32, (refl, word 0 (omega arith)), refl), refl, (I32, refl, (refl, (refl, long 104 (omega arith)), refl), (refl, refl, (I32, refl, (refl, (refl, long 111 (omega arith)), refl), (refl, (I32, (refl, word 0 (omega arith)), refl), refl, refl)), (I64, refl, (refl, (refl, long 4096 (omega arith)), refl), refl))))), rest)))))

  u32_formed : (next : Code) → Reads next → Reads (u32 next)
  u32_formed next rest = (I64, refl, (refl, long 0 (omega arith)), (I64, refl, (refl, long 1 (omega arith)), (((I32, refl, (refl, refl, refl), (refl, (I32, (refl, word 0 (omega arith)), refl), refl, (I64, refl, (refl, omega arith, refl), (I32, refl, (refl, (refl, word 1 (omega arith)), refl), (I64, refl, (refl, (refl, long 128 (omega arith)), refl), (I64, refl, (refl, refl, refl), (I64, refl, (refl, refl, refl), (I64, refl, (refl, (refl, long 128 (omega arith)), refl), (I32, refl, (refl, (refl, long 128 (omega arith)), refl), (refl, omega arith, (I32, refl, (refl, (refl, long 34359738368 (omega arith)), refl), (refl, omega arith, omega arith)))))))))))), refl), (I32, refl, (refl, (refl, long 128 (omega arith)), refl), (refl, (I32, (refl, word 0 (omega arith)), refl), refl, (I32, refl, (refl, (refl, long 4294967296 (omega arith)), refl), (refl, (I32, (refl, word 0 (omega arith)), refl), refl, rest)))))))

  refs_formed : (ws : List Wired) (next : Code) → Reads next → Reads (refs_are ws next)
  refs_formed [] next rest = rest
  refs_formed (Number k ∷ ws) next rest = ref_formed (is_code (plain_code (plain_number k)) (refs_are ws next)) (code_formed (plain_code (plain_number k)) (refs_are ws next) (let range = code_range (plain_number k) in range.1) (refs_formed ws next rest))
  refs_formed (Truth ∷ ws) next rest = ref_formed (is_code (plain_code plain.Bool) (refs_are ws next)) (code_formed (plain_code plain.Bool) (refs_are ws next) (omega arith) (refs_formed ws next rest))
  refs_formed (Nothing ∷ ws) next rest = ref_formed (is_marked (refs_are ws next)) (marked_formed (refs_are ws next) (refs_formed ws next rest))

  take_formed : (reads : ℕ) (next : Code) → type_of m reads ≡ Some (word_of (I32 ∷ I32 ∷ I32 ∷ [])) → Reads next → Reads (take_value reads next)
  take_formed reads next typed rest = (record { type = word_of (I32 ∷ I32 ∷ I32 ∷ []); is = typed; kinds = (refl, (refl, (refl, tt))); gives = (I32, refl, refl) }, (I32, refl, (refl, refl), (refl, (I32, (refl, word 0 (omega arith)), refl), refl, (I32, refl, (refl, (refl, word 8 (omega arith)), refl), rest))))

  nothing_formed : (next : Code) → Reads next → Reads (take_nothing next)
  nothing_formed next rest = (refl, omega arith, (refl, long 0 (omega arith)), (I32, refl, (refl, (refl, word 8 (omega arith)), refl), rest))

  end_formed : Reads at_end
  end_formed = (I32, refl, (refl, refl, refl), (refl, (I32, (refl, word 0 (omega arith)), refl), refl, (I32, (refl, word 1 (omega arith)), refl)))

  module _ (first : ℕ) (kinds : (k : Kind) → type_of m (reads_kind first k) ≡ Some (word_of (I32 ∷ I32 ∷ I32 ∷ []))) (truths : type_of m (reads_truth first) ≡ Some (word_of (I32 ∷ I32 ∷ I32 ∷ []))) where
    takes_formed : (ws : List Wired) → Reads (take_values first ws)
    takes_formed [] = end_formed
    takes_formed (Number k ∷ ws) = take_formed (reads_kind first k) (take_values first ws) (kinds k) (takes_formed ws)
    takes_formed (Truth ∷ ws) = take_formed (reads_truth first) (take_values first ws) truths (takes_formed ws)
    takes_formed (Nothing ∷ ws) = nothing_formed (take_values first ws) (takes_formed ws)

    count_formed : (ws : List Wired) → length ws ≤ 65536 → Reads (behind_count first ws)
    count_formed ws few = let rest = refs_formed ws (take_values first ws) (takes_formed ws) in (I32, refl, (refl, (refl, long (length ws) (omega (arith, few))), refl), (refl, (I32, (refl, word 0 (omega arith)), refl), refl, rest))

pub messages_formed : MessagesAreFormed
messages_formed m signature = (
  λ typed first header ws few all kinds truths.
      record { type = word_of (I32 ∷ I32 ∷ []); is = typed; few = omega arith; body = bytes_formed m first kinds truths header 0 _ (omega (arith, few)) all (I32, refl, (refl, (refl, word (length header) (omega (arith, few))), refl), values_formed m first kinds truths ws) },
  λ own table first ws few typed kinds truths.
      let rest = u32_formed m (behind_count first ws) (count_formed m first kinds truths ws few) in
      record { type = word_of (I32 ∷ I32 ∷ I32 ∷ []); is = own; few = omega arith; body = (record { type = word_of (I32 ∷ I32 ∷ I32 ∷ []); is = typed; kinds = (refl, (refl, (refl, tt))); gives = (I32, refl, refl) }, (I32, refl, (refl, refl), (refl, (I32, (refl, word 0 (omega arith)), refl), refl, (I64, refl, (refl, omega arith, refl), rest)))) },
)
