use Rattle.std.proofs.Common.{ℕ, length, Some, arith}
use Rattle.std.specs.Int.{w64}
use Rattle.std.proofs.lemmas.Int.{to_z_pos}
use Rattle.wasm_tree.specs.declared.types.ValueType.TheVariants.{I32}
use Rattle.wire_messages.proofs.ArgumentFlats.{arguments_flat}
use Rattle.wire_messages.proofs.reading.arguments.Goals as goal

pub returns : goal.returns
returns c =
    let n : ℕ = length c.args.types.now in
    let size = to_z_pos w64 n (omega (arith, c.requires.types)) in
    let body = arguments_flat c.args.table c.args.first c.args.types.now _ _ _ _ _ _ _ _ _ size c.new-body.ensures c.in_ok-push_table.ensures c.in_ok-push_digits.ensures c.in_ok-push_count_tests.ensures c.in_ok-push_count_test.ensures c.in_ok-push_types.ensures c.in_ok-push_values.ensures c.in_ok-push_end.ensures in
    λ i. record { line = c.args.line; params = c.in_ok-copied.ensures i; locals = c.in_ok-copied-2.ensures i; result = Some I32; body = body i }
