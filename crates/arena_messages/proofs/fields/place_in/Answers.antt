use Rattle.std.proofs.Common.{◌≡◌, ◌<◌, [], true, false, length, get_or, map, sym, ap, ◌∙◌, add-one, arith}
use Rattle.std.specs.Str.{bytes_eq}
use Rattle.mo_values.specs.Messages.{labels}
use Rattle.mo_values.specs.Shapes.{Bytes}
use Rattle.arena_messages.proofs.Labels.{place_met, place_passed}
use Rattle.arena_messages.proofs.Orders.{label_at, labels_length}
use Rattle.arena_messages.proofs.fields.place_in.Goals as goal

pub returns-then-same_bytes : goal.returns-then-same_bytes
returns-then-same_bytes c =
    let names = labels (map (λ f. f.now) c.args.order.now) in
    let there : c.loop-place.place < length names = omega (arith, c.loop-place-test.true, labels_length c.args.order.now) in
    let same : bytes_eq c.args.label.now (get_or names c.loop-place.place []) ≡ true =
    ap (λ (m : Bytes). bytes_eq c.args.label.now m) (label_at c.args.order.now c.loop-place.place c.index-order-place.result [] c.loop-place-test.true c.index-order-place.is ∙ sym c.as_slice.ensures) ∙ sym c.if-same_bytes.ensures in
    sym (place_met c.args.label.now names c.loop-place.place c.loop-place.place [] there same) ∙ c.loop-place.invariant

pub loop-place-preserved : goal.loop-place-preserved
loop-place-preserved c =
    let names = labels (map (λ f. f.now) c.args.order.now) in
    let there : c.loop-place.place < length names = omega (arith, c.loop-place-test.true, labels_length c.args.order.now) in
    let other : bytes_eq c.args.label.now (get_or names c.loop-place.place []) ≡ false =
    ap (λ (m : Bytes). bytes_eq c.args.label.now m) (label_at c.args.order.now c.loop-place.place c.index-order-place.result [] c.loop-place-test.true c.index-order-place.is ∙ sym c.as_slice.ensures) ∙ sym c.if-same_bytes.ensures in
    rw add-one (sym (place_passed c.args.label.now names c.loop-place.place c.loop-place.place [] there other) ∙ c.loop-place.invariant)
