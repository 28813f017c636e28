use Rattle.std.proofs.Common.{[]}
use Rattle.typing_rules.specs.Members.{function, iterator}
use Rattle.typing_rules.specs.Terms.{nat}
use Rattle.built_in_members.proofs.Interned.{then_ok}
use Rattle.built_in_members.proofs.value_members.iterating_numbers.Goals as goal

pub iterating-requires-clause-item : goal.iterating-requires-clause-item
iterating-requires-clause-item c = c.in_ok-item.ensures.written.within

pub returns : goal.returns
returns c = then_ok c.args.types.now c.plain.new.types c.iterating.new.types (function [] (iterator nat)) c.iterating.result c.in_ok-item.ensures.added (c.iterating.ensures nat c.in_ok-item.ensures.written)

pub iterating-requires-clause-kept : goal.iterating-requires-clause-kept
iterating-requires-clause-kept c = c.in_ok-item.ensures.added.kept
