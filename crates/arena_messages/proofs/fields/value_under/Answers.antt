use Rattle.std.proofs.Common.{◌≡◌, true, false, get_or, sym, ap, ◌∙◌, add-one}
use Rattle.std.specs.Str.{bytes_eq}
use Rattle.mo_values.specs.Shapes.{Bytes}
use Rattle.arena_messages.proofs.Labels.{value_met, value_none, value_passed, value_short}
use Rattle.arena_messages.proofs.fields.value_under.Goals as goal

pub returns-then-place-values : goal.returns-then-place-values
returns-then-place-values c = sym (value_short c.args.label.now c.args.labels.now c.args.values.now c.loop-place.place c.if-place-values.true) ∙ c.loop-place.invariant

pub returns-then-same_bytes : goal.returns-then-same_bytes
returns-then-same_bytes c =
    let same : bytes_eq c.args.label.now (get_or c.args.labels.now c.loop-place.place c.index-labels-place.result) ≡ true =
    ap (λ (m : Bytes). bytes_eq c.args.label.now m) (sym (c.as_slice.ensures ∙ c.index-labels-place.is)) ∙ sym c.if-same_bytes.ensures in
    sym (value_met c.args.label.now c.args.labels.now c.args.values.now c.loop-place.place c.index-labels-place.result (record { index = 0 }) c.loop-place-test.true c.if-place-values.false same) ∙ c.loop-place.invariant

pub loop-place-preserved : goal.loop-place-preserved
loop-place-preserved c =
    let other : bytes_eq c.args.label.now (get_or c.args.labels.now c.loop-place.place c.index-labels-place.result) ≡ false =
    ap (λ (m : Bytes). bytes_eq c.args.label.now m) (sym (c.as_slice.ensures ∙ c.index-labels-place.is)) ∙ sym c.if-same_bytes.ensures in
    rw add-one
    (sym (value_passed c.args.label.now c.args.labels.now c.args.values.now c.loop-place.place c.index-labels-place.result (record { index = 0 }) c.loop-place-test.true c.if-place-values.false other) ∙ c.loop-place.invariant)

pub returns : goal.returns
returns c = sym (value_none c.args.label.now c.args.labels.now c.args.values.now c.loop-place.place c.loop-place-test.false) ∙ c.loop-place.invariant
