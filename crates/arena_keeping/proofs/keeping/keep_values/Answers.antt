use Rattle.std.proofs.Common.{◌<◌, ◌≤◌, List, Bool, length, get_or, map, ap, subst, ◌∙◌}
use Rattle.typed_tree.specs.declared.program.StableVariable.{StableVariable}
use Rattle.arena_keeping.specs.Keeping.{IsPut}
use Rattle.arena_keeping.proofs.Takes.{taken_all, taken_first, taken_none, taken_on}
use Rattle.arena_keeping.proofs.keeping.keep_values.Goals as goal

pub loop-variable-init : goal.loop-variable-init
loop-variable-init c = taken_first c.args.old.now c.args.new.now (map (λ p. p.items) c.args.parts.now) c.args.arena.now c.new-found.result.items c.new-found.ensures.items

pub returns-then-not-fits : goal.returns-then-not-fits
returns-then-not-fits c =
    let Below : List StableVariable → Type 0 = λ l. c.loop-variable.variable-index < length l in
    let Of : Bool → Type 0 = λ b. IsPut c.in_ok-taken.taken b c.loop-variable.found.items c.put_taken.new.found.items in
    taken_none c.args.old.now c.args.new.now (map (λ p. p.items) c.args.parts.now) c.args.arena.now c.loop-variable.arena c.take.new.arena c.loop-variable.variable-index c.variable-item.result c.in_ok-taken.taken
    c.loop-variable.found.items c.put_taken.new.found.items (subst Below c.as_slice-variable-items.ensures c.loop-variable-test.true)
    (c.variable-item.is ∙ ap (λ (l : List StableVariable). get_or l c.loop-variable.variable-index c.variable-item.result) c.as_slice-variable-items.ensures) c.loop-variable.invariant c.in_ok-taken.ensures (subst Of c.if-not-fits.true c.in_ok-fits.ensures)

pub loop-variable-preserved : goal.loop-variable-preserved
loop-variable-preserved c =
    let Below : List StableVariable → Type 0 = λ l. c.loop-variable.variable-index < length l in
    let Of : Bool → Type 0 = λ b. IsPut c.in_ok-taken.taken b c.loop-variable.found.items c.put_taken.new.found.items in
    taken_on c.args.old.now c.args.new.now (map (λ p. p.items) c.args.parts.now) c.args.arena.now c.loop-variable.arena c.take.new.arena c.loop-variable.variable-index c.variable-item.result c.in_ok-taken.taken
    c.loop-variable.found.items c.put_taken.new.found.items (subst Below c.as_slice-variable-items.ensures c.loop-variable-test.true)
    (c.variable-item.is ∙ ap (λ (l : List StableVariable). get_or l c.loop-variable.variable-index c.variable-item.result) c.as_slice-variable-items.ensures) c.loop-variable.invariant c.in_ok-taken.ensures (subst Of c.if-not-fits.false c.in_ok-fits.ensures)

pub returns : goal.returns
returns c =
    let Beyond : List StableVariable → Type 0 = λ l. length l ≤ c.loop-variable.variable-index in
    taken_all c.args.old.now c.args.new.now (map (λ p. p.items) c.args.parts.now) c.args.arena.now c.loop-variable.arena c.loop-variable.variable-index c.loop-variable.found.items
    (subst Beyond c.as_slice-variable-items.ensures c.loop-variable-test.false) c.loop-variable.invariant
