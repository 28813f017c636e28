-- Queries under the host.
use Rattle.std.proofs.Common.{◌+◌, ◌*◌, ◌/◌, [], ◌∷◌, length, refl, arith}
use Rattle.std.specs.Prelude.{decimal}
use Rattle.wasm_tree.specs.Numeric.{flag}
use Rattle.canister_host.specs.Execution.{store_of}
use Rattle.low_ir.specs.Numbering.{host_types, host_signatures}
use Rattle.first_run_time.specs.Entries.{digits_entry, copy_entry, same_entry, order_entry}
use Rattle.first_run_time.specs.Laws.{asked_number, halves_are_same, DigitsAreReplied, CopiesAreReplied, SameAreReplied, first_size, asked_order, OrdersAreReplied, ShortArgumentsTrap}
use Rattle.first_run_time.proofs.Digits.{replies_with_digits}
use Rattle.first_run_time.proofs.Copies.{replies_with_copy}
use Rattle.first_run_time.proofs.Same.{replies_with_same}
use Rattle.first_run_time.proofs.Order.{replies_with_order}
use Rattle.first_run_time.proofs.Short.{traps_with_text}
use Rattle.first_run_time.proofs.Executed.{executes, executes_to_trap}

pub digits_replied : DigitsAreReplied
unfolding host_types host_signatures
digits_replied limits enough deep i w heaped asked long =
    executes limits i w asked 600 28 (decimal (asked_number w)) enough 27 1 digits_entry refl refl (omega (arith, deep)) (omega (arith, deep))
    (replies_with_digits limits.pages (store_of i w) w heaped long asked.bytes)

pub copies_replied : CopiesAreReplied
unfolding host_types host_signatures
copies_replied limits i w enough deep heaped holds asked =
    executes limits i w asked (25 * length w.argument + 130) (2 * length w.argument) w.argument enough 28 2 copy_entry refl refl (omega (arith, deep)) (omega (arith, deep))
    (replies_with_copy limits.pages (store_of i w) w heaped holds asked.bytes asked.short)

pub same_replied : SameAreReplied
unfolding host_types host_signatures
same_replied limits i w enough deep heaped holds slot asked =
    executes limits i w asked (31 * (length w.argument / 2) + 140) (length w.argument + 1) (flag (halves_are_same w.argument) ∷ []) enough 29 1 same_entry refl refl (omega (arith, deep)) (omega (arith, deep))
    (replies_with_same limits.pages (store_of i w) w heaped holds asked.bytes asked.short slot)

pub orders_replied : OrdersAreReplied
unfolding host_types host_signatures
orders_replied limits i w enough deep heaped holds asked fits =
    executes limits i w asked (46 * first_size w.argument + 120) (length w.argument) (asked_order w.argument ∷ []) enough 30 1 order_entry refl refl (omega (arith, deep)) (omega (arith, deep))
    (replies_with_order limits.pages (store_of i w) w heaped holds asked.bytes asked.short fits)

pub short_trapped : ShortArgumentsTrap
unfolding host_types host_signatures
short_trapped limits i w enough deep heaped holds far text asked lacks =
    executes_to_trap limits i w asked 120 (length w.argument) enough 30 1 order_entry refl refl (omega (arith, deep)) (omega (arith, deep))
    (traps_with_text limits.pages (store_of i w) w heaped holds asked.bytes asked.short far text lacks)
