use Rattle.std.proofs.Common.{[], ◌∷◌}
use Rattle.typing_rules.specs.Members.{function}
use Rattle.built_in_members.specs.Written.{plain_term}
use Rattle.built_in_members.proofs.Interned.{added_on, then_ok, written_on}
use Rattle.built_in_members.proofs.module_members.plain_function.Goals as goal

pub function-requires-clause-parameters : goal.function-requires-clause-parameters
function-requires-clause-parameters c = ((written_on c.plain.new.types c.plain-2.new.types c.in_ok-from.from (plain_term c.args.parameter) c.in_ok-to.ensures.added c.in_ok-from.ensures.written).within, tt)

pub function-requires-clause-given : goal.function-requires-clause-given
function-requires-clause-given c = c.in_ok-to.ensures.written.within

pub returns : goal.returns
returns c =
    then_ok c.args.types.now c.plain-2.new.types c.function.new.types (function (plain_term c.args.parameter ∷ []) (plain_term c.args.given)) c.function.result
    (added_on c.args.types.now c.plain.new.types c.plain-2.new.types c.in_ok-from.ensures.added c.in_ok-to.ensures.added)
    (c.function.ensures (plain_term c.args.parameter ∷ []) (plain_term c.args.given)
    (written_on c.plain.new.types c.plain-2.new.types c.in_ok-from.from (plain_term c.args.parameter) c.in_ok-to.ensures.added c.in_ok-from.ensures.written, tt) c.in_ok-to.ensures.written)

pub plain-requires-2-clause-kept : goal.plain-requires-2-clause-kept
plain-requires-2-clause-kept c = c.in_ok-from.ensures.added.kept

pub function-requires-clause-kept : goal.function-requires-clause-kept
function-requires-clause-kept c = c.in_ok-to.ensures.added.kept
