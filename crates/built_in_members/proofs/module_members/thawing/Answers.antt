use Rattle.std.proofs.Common.{[], ◌∷◌}
use Rattle.typing_rules.specs.Members.{element, function}
use Rattle.typing_rules.specs.Terms as t
use Rattle.built_in_members.proofs.Interned.{then_ok}
use Rattle.built_in_members.proofs.module_members.thawing.Goals as goal

pub function-requires-clause-parameters : goal.function-requires-clause-parameters
function-requires-clause-parameters c = (c.in_ok-made.ensures.array.within, tt)

pub function-requires-clause-given : goal.function-requires-clause-given
function-requires-clause-given c = c.in_ok-made.ensures.mutable.within

pub returns : goal.returns
returns c =
    then_ok c.args.types.now c.arrays.new.types c.function.new.types (function (t.Array element ∷ []) (t.MutableArray element)) c.function.result c.in_ok-made.ensures.added
    (c.function.ensures (t.Array element ∷ []) (t.MutableArray element) (c.in_ok-made.ensures.array, tt) c.in_ok-made.ensures.mutable)

pub function-requires-clause-kept : goal.function-requires-clause-kept
function-requires-clause-kept c = c.in_ok-made.ensures.added.kept
