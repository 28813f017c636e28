use Rattle.std.proofs.Common.{[]}
use Rattle.typing_rules.specs.Members.{function, iterator}
use Rattle.typing_rules.specs.Terms as t
use Rattle.built_in_members.proofs.Interned.{added_on, itself, then_ok}
use Rattle.type_definitions.specs.Meanings.{term}
use Rattle.built_in_members.proofs.value_members.iterating.Goals as goal

pub returns : goal.returns
returns c = λ u w.
    let w1 = c.in_ok-found.ensures u w in
    let w2 = c.in_ok-next.ensures [] (t.Optional u) tt w1.written in
    let w3 = c.in_ok-iterator.ensures (function [] (t.Optional u)) w2.written in
    then_ok c.args.types.now c.object.new.types c.function-2.new.types (function [] (iterator u)) c.function-2.result
    (added_on c.args.types.now c.optional.new.types c.object.new.types w1.added (added_on c.optional.new.types c.function.new.types c.object.new.types w2.added w3.added))
    (c.function-2.ensures [] (iterator u) tt w3.written)

pub function-requires-clause-kept : goal.function-requires-clause-kept
function-requires-clause-kept c = (c.in_ok-found.ensures (term c.args.types.now.forms c.args.item) (itself c.args.types.now c.args.item c.requires.item)).added.kept

pub function-requires-clause-given : goal.function-requires-clause-given
function-requires-clause-given c = (c.in_ok-found.ensures (term c.args.types.now.forms c.args.item) (itself c.args.types.now c.args.item c.requires.item)).written.within

pub object-requires-clause-kept : goal.object-requires-clause-kept
object-requires-clause-kept c = (c.in_ok-next.ensures [] (t.Optional (term c.args.types.now.forms c.args.item)) tt (c.in_ok-found.ensures (term c.args.types.now.forms c.args.item) (itself c.args.types.now c.args.item c.requires.item)).written).added.kept

pub object-requires-clause-part : goal.object-requires-clause-part
object-requires-clause-part c = (c.in_ok-next.ensures [] (t.Optional (term c.args.types.now.forms c.args.item)) tt (c.in_ok-found.ensures (term c.args.types.now.forms c.args.item) (itself c.args.types.now c.args.item c.requires.item)).written).written.within

pub function-requires-2-clause-kept : goal.function-requires-2-clause-kept
function-requires-2-clause-kept c = (c.in_ok-iterator.ensures (function [] (t.Optional (term c.args.types.now.forms c.args.item))) (c.in_ok-next.ensures [] (t.Optional (term c.args.types.now.forms c.args.item)) tt (c.in_ok-found.ensures (term c.args.types.now.forms c.args.item) (itself c.args.types.now c.args.item c.requires.item)).written).written).added.kept

pub function-requires-2-clause-given : goal.function-requires-2-clause-given
function-requires-2-clause-given c = (c.in_ok-iterator.ensures (function [] (t.Optional (term c.args.types.now.forms c.args.item))) (c.in_ok-next.ensures [] (t.Optional (term c.args.types.now.forms c.args.item)) tt (c.in_ok-found.ensures (term c.args.types.now.forms c.args.item) (itself c.args.types.now c.args.item c.requires.item)).written).written).written.within
