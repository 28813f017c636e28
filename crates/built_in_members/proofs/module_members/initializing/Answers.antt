use Rattle.std.proofs.Common.{[], ◌∷◌}
use Rattle.typing_rules.specs.Members.{element, function}
use Rattle.typing_rules.specs.Terms.{nat}
use Rattle.typing_rules.specs.Terms as t
use Rattle.built_in_members.proofs.Interned.{added_on, then_ok, written_on}
use Rattle.built_in_members.proofs.module_members.initializing.Goals as goal

pub function-requires-clause-parameters : goal.function-requires-clause-parameters
function-requires-clause-parameters c =
    (c.in_ok-nat.ensures.written.within, ((written_on c.arrays.new.types c.plain.new.types c.in_ok-made.made.element element c.in_ok-nat.ensures.added c.in_ok-made.ensures.own).within, tt))

pub function-requires-clause-given : goal.function-requires-clause-given
function-requires-clause-given c = (written_on c.arrays.new.types c.plain.new.types c.in_ok-made.made.mutable (t.MutableArray element) c.in_ok-nat.ensures.added c.in_ok-made.ensures.mutable).within

pub returns : goal.returns
returns c =
    then_ok c.args.types.now c.plain.new.types c.function.new.types (function (nat ∷ element ∷ []) (t.MutableArray element)) c.function.result
    (added_on c.args.types.now c.arrays.new.types c.plain.new.types c.in_ok-made.ensures.added c.in_ok-nat.ensures.added)
    (c.function.ensures (nat ∷ element ∷ []) (t.MutableArray element)
    (c.in_ok-nat.ensures.written, (written_on c.arrays.new.types c.plain.new.types c.in_ok-made.made.element element c.in_ok-nat.ensures.added c.in_ok-made.ensures.own, tt))
    (written_on c.arrays.new.types c.plain.new.types c.in_ok-made.made.mutable (t.MutableArray element) c.in_ok-nat.ensures.added c.in_ok-made.ensures.mutable))

pub plain-requires-clause-kept : goal.plain-requires-clause-kept
plain-requires-clause-kept c = c.in_ok-made.ensures.added.kept

pub function-requires-clause-kept : goal.function-requires-clause-kept
function-requires-clause-kept c = c.in_ok-nat.ensures.added.kept
