use Rattle.std.proofs.Common.{◌≡◌, suc, true, false, drop, get_or, sym, ap, ◌∙◌, add-one}
use Rattle.std.specs.Prelude.{is_some}
use Rattle.std.specs.Str.{bytes_eq}
use Rattle.mo_values.specs.Shapes.{Bytes}
use Rattle.arena_messages.proofs.Labels.{place_first, place_met, place_none, place_passed}
use Rattle.arena_messages.proofs.fields.has_label.Goals as goal

pub returns-then-same_bytes : goal.returns-then-same_bytes
returns-then-same_bytes c = λ first.
    let same : bytes_eq c.args.label.now (get_or c.args.labels.now c.loop-name.name-index c.name-item.result) ≡ true =
    ap (λ (m : Bytes). bytes_eq c.args.label.now m) (sym (c.as_slice.ensures ∙ c.name-item.is)) ∙ sym c.if-same_bytes.ensures in
    sym (ap is_some (place_met c.args.label.now c.args.labels.now c.loop-name.name-index first c.name-item.result c.loop-name-test.true same)) ∙ c.loop-name.invariant first

pub loop-name-preserved : goal.loop-name-preserved
loop-name-preserved c = λ first.
    let other : bytes_eq c.args.label.now (get_or c.args.labels.now c.loop-name.name-index c.name-item.result) ≡ false =
    ap (λ (m : Bytes). bytes_eq c.args.label.now m) (sym (c.as_slice.ensures ∙ c.name-item.is)) ∙ sym c.if-same_bytes.ensures in
    rw add-one
    (place_first c.args.label.now (drop (suc c.loop-name.name-index) c.args.labels.now) first (suc first)
    ∙ sym (ap is_some (place_passed c.args.label.now c.args.labels.now c.loop-name.name-index first c.name-item.result c.loop-name-test.true other)) ∙ c.loop-name.invariant first)

pub returns : goal.returns
returns c = λ first. sym (ap is_some (place_none c.args.label.now c.args.labels.now c.loop-name.name-index first c.loop-name-test.false)) ∙ c.loop-name.invariant first
