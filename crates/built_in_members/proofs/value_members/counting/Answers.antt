use Rattle.std.proofs.Common.{[]}
use Rattle.typing_rules.specs.Members.{function}
use Rattle.typing_rules.specs.Terms.{nat}
use Rattle.built_in_members.proofs.Interned.{then_ok}
use Rattle.built_in_members.proofs.value_members.counting.Goals as goal

pub function-requires-clause-given : goal.function-requires-clause-given
function-requires-clause-given c = c.in_ok-nat.ensures.written.within

pub returns : goal.returns
returns c = then_ok c.args.types.now c.plain.new.types c.function.new.types (function [] nat) c.function.result c.in_ok-nat.ensures.added (c.function.ensures [] nat tt c.in_ok-nat.ensures.written)

pub function-requires-clause-kept : goal.function-requires-clause-kept
function-requires-clause-kept c = c.in_ok-nat.ensures.added.kept
