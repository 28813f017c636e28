use Rattle.std.proofs.Common.{ℕ, ◌+◌, drop, refl, sym, subst, ◌∙◌, arith}
use Rattle.typed_tree.specs.PatternView.{patterns}
use Rattle.elaboration.specs.Checks.{check_parts}
use Rattle.core_layers.specs.Layers.{Adds}
use Rattle.core_layers.proofs.Literals.{either_adds}
use Rattle.core_layers.proofs.Rests.{fields_all, fields_next, parts_all, parts_next}
use Rattle.core_layers.proofs.patterns.+pattern.Goals as goal

pub add_fields-loop-field-preserved : goal.add_fields-loop-field-preserved
add_fields-loop-field-preserved t c = λ last others.
    c.loop-field.invariant last
    (fields_next c.args.fields.now c.loop-field.field-index c.args.level c.field-item.result c.loop-field.checked c.add_pattern.new.checked last c.loop-field-test.true c.field-item.is c.in_ok-add_pattern.ensures others)

pub add_fields-returns : goal.add_fields-returns
add_fields-returns t c =
    c.loop-field.invariant c.loop-field.checked (fields_all c.args.fields.now c.loop-field.field-index c.args.level c.loop-field.checked (omega (arith, c.loop-field-test.false)))

pub add_parts-loop-part-preserved : goal.add_parts-loop-part-preserved
add_parts-loop-part-preserved t c = λ last others.
    let Of : ℕ → Type 0 = λ n. Adds (check_parts (patterns (drop (c.loop-part.part-index + 1) c.args.parts.now)) n c.args.level c.add_pattern.new.checked.names) c.add_pattern.new.checked last in
    c.loop-part.invariant last
    (parts_next c.args.parts.now c.loop-part.part-index c.loop-part.number c.args.level c.part-item.result c.loop-part.checked c.add_pattern.new.checked last c.loop-part-test.true c.part-item.is c.in_ok-add_pattern.ensures
    (subst Of c.in_ok-number.ensures others))

pub add_parts-returns : goal.add_parts-returns
add_parts-returns t c =
    c.loop-part.invariant c.loop-part.checked (parts_all c.args.parts.now c.loop-part.part-index c.loop-part.number c.args.level c.loop-part.checked (omega (arith, c.loop-part-test.false)))

pub add_pattern-returns-in_ok-push-in-Either : goal.add_pattern-returns-in_ok-push-in-Either
add_pattern-returns-in_ok-push-in-Either t c =
    either_adds c.args.typed.now c.in-Either.first c.in-Either.second c.args.source c.args.checked.now c.load-in-Either.new.checked _ c.in_ok-level-in-Either.level c.in_ok-first-in-Either.first c.in_ok-second-in-Either.second
    c.in_ok-either-in-Either.field-0 (sym c.get.ensures ∙ c.in-Either.is) c.in_ok-level-in-Either.ensures.level c.in_ok-level-in-Either.ensures.checks c.in_ok-first-in-Either.ensures c.in_ok-second-in-Either.ensures
    c.in_ok-either-in-Either.ensures c.in_ok-push-in-Either.ensures.items refl refl
