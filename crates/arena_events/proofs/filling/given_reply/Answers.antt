use Rattle.std.proofs.Common.{List, sym, subst}
use Rattle.value_arena.specs.declared.node.ValueId.{ValueId}
use Rattle.value_arena.specs.Growth.{AreWithin}
use Rattle.arena_events.proofs.Assembled.{read_within}
use Rattle.arena_events.proofs.Givens.{reply_given, reply_unread}
use Rattle.arena_events.proofs.filling.given_reply.Goals as goal

pub packed-requires : goal.packed-requires
packed-requires c =
    let Of : List ValueId → Type 0 = λ ids. AreWithin c.read_values.new.arena ids in
    subst Of (sym c.as_slice-in-Some.ensures.value)
    (read_within c.args.types.now c.as_slice.result.now c.as_slice-2.result.now c.args.arena.now c.in-Some.values.items c.read_values.new.arena (rw c.in-Some.is at c.in_ok-read.ensures))

pub returns-in_ok-value-in-Some : goal.returns-in_ok-value-in-Some
returns-in_ok-value-in-Some c =
    reply_given c.args.types.now c.args.ids.now c.as_slice.result.now c.args.bytes.now c.as_slice-2.result.now c.args.arena.now c.read_values.new.arena c.as_slice.ensures c.as_slice-2.ensures
    c.packed.new.arena c.in-Some.values.items c.as_slice-in-Some.result.now c.in_ok-value-in-Some.value c.as_slice-in-Some.ensures.value (rw c.in-Some.is at c.in_ok-read.ensures) c.in_ok-value-in-Some.ensures

pub returns-in-None : goal.returns-in-None
returns-in-None c =
    reply_unread c.args.types.now c.args.ids.now c.as_slice.result.now c.args.bytes.now c.as_slice-2.result.now c.args.arena.now c.read_values.new.arena c.as_slice.ensures c.as_slice-2.ensures
    (rw c.in-None.is at c.in_ok-read.ensures)
