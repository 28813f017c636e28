use Rattle.std.proofs.Common.{[], ◌∷◌}
use Rattle.typing_rules.specs.Members.{error_code, function}
use Rattle.typing_rules.specs.Terms as t
use Rattle.built_in_members.proofs.Interned.{added_on, then_ok, written_on}
use Rattle.built_in_members.proofs.module_members.coding.Goals as goal

pub function-requires-clause-parameters : goal.function-requires-clause-parameters
function-requires-clause-parameters c = (c.in_ok-error.ensures.written.within, tt)

pub function-requires-clause-given : goal.function-requires-clause-given
function-requires-clause-given c = (written_on c.error_code.new.types c.plain.new.types c.in_ok-code.code error_code c.in_ok-error.ensures.added c.in_ok-code.ensures.written).within

pub returns : goal.returns
returns c =
    then_ok c.args.types.now c.plain.new.types c.function.new.types (function (t.Error ∷ []) error_code) c.function.result (added_on c.args.types.now c.error_code.new.types c.plain.new.types c.in_ok-code.ensures.added c.in_ok-error.ensures.added)
    (c.function.ensures (t.Error ∷ []) error_code (c.in_ok-error.ensures.written, tt)
    (written_on c.error_code.new.types c.plain.new.types c.in_ok-code.code error_code c.in_ok-error.ensures.added c.in_ok-code.ensures.written))

pub plain-requires-clause-kept : goal.plain-requires-clause-kept
plain-requires-clause-kept c = c.in_ok-code.ensures.added.kept

pub function-requires-clause-kept : goal.function-requires-clause-kept
function-requires-clause-kept c = c.in_ok-error.ensures.added.kept
