use Rattle.std.proofs.Common.{[], ◌∷◌}
use Rattle.typing_rules.specs.Members.{element, function}
use Rattle.typing_rules.specs.Terms.{nat}
use Rattle.typing_rules.specs.Terms as t
use Rattle.built_in_members.proofs.Interned.{added_on, then_ok, written_on}
use Rattle.built_in_members.proofs.module_members.tabulating.Goals as goal

pub function-requires-clause-parameters : goal.function-requires-clause-parameters
function-requires-clause-parameters c = (c.in_ok-nat.ensures.written.within, tt)

pub function-requires-clause-given : goal.function-requires-clause-given
function-requires-clause-given c = (written_on c.arrays.new.types c.plain.new.types c.in_ok-made.made.element element c.in_ok-nat.ensures.added c.in_ok-made.ensures.own).within

pub function-requires-2-clause-parameters : goal.function-requires-2-clause-parameters
function-requires-2-clause-parameters c =
    let e2 = written_on c.arrays.new.types c.plain.new.types c.in_ok-made.made.element element c.in_ok-nat.ensures.added c.in_ok-made.ensures.own in
    let w3 = c.in_ok-step.ensures (nat ∷ []) element (c.in_ok-nat.ensures.written, tt) e2 in
    ((written_on c.plain.new.types c.function.new.types c.in_ok-nat.nat nat w3.added c.in_ok-nat.ensures.written).within, (w3.written.within, tt))

pub function-requires-2-clause-given : goal.function-requires-2-clause-given
function-requires-2-clause-given c =
    let e2 = written_on c.arrays.new.types c.plain.new.types c.in_ok-made.made.element element c.in_ok-nat.ensures.added c.in_ok-made.ensures.own in
    let w3 = c.in_ok-step.ensures (nat ∷ []) element (c.in_ok-nat.ensures.written, tt) e2 in
    (written_on c.arrays.new.types c.function.new.types c.in_ok-made.made.array (t.Array element) (added_on c.arrays.new.types c.plain.new.types c.function.new.types c.in_ok-nat.ensures.added w3.added) c.in_ok-made.ensures.array).within

pub returns : goal.returns
returns c =
    let e2 = written_on c.arrays.new.types c.plain.new.types c.in_ok-made.made.element element c.in_ok-nat.ensures.added c.in_ok-made.ensures.own in
    let w3 = c.in_ok-step.ensures (nat ∷ []) element (c.in_ok-nat.ensures.written, tt) e2 in
    let later = added_on c.arrays.new.types c.plain.new.types c.function.new.types c.in_ok-nat.ensures.added w3.added in
    then_ok c.args.types.now c.function.new.types c.function-2.new.types (function (nat ∷ function (nat ∷ []) element ∷ []) (t.Array element)) c.function-2.result
    (added_on c.args.types.now c.arrays.new.types c.function.new.types c.in_ok-made.ensures.added later)
    (c.function-2.ensures (nat ∷ function (nat ∷ []) element ∷ []) (t.Array element)
    (written_on c.plain.new.types c.function.new.types c.in_ok-nat.nat nat w3.added c.in_ok-nat.ensures.written, (w3.written, tt))
    (written_on c.arrays.new.types c.function.new.types c.in_ok-made.made.array (t.Array element) later c.in_ok-made.ensures.array))

pub plain-requires-clause-kept : goal.plain-requires-clause-kept
plain-requires-clause-kept c = c.in_ok-made.ensures.added.kept

pub function-requires-clause-kept : goal.function-requires-clause-kept
function-requires-clause-kept c = c.in_ok-nat.ensures.added.kept

pub function-requires-2-clause-kept : goal.function-requires-2-clause-kept
function-requires-2-clause-kept c = (c.in_ok-step.ensures (nat ∷ []) element (c.in_ok-nat.ensures.written, tt) (written_on c.arrays.new.types c.plain.new.types c.in_ok-made.made.element element c.in_ok-nat.ensures.added c.in_ok-made.ensures.own)).added.kept
