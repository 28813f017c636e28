use Rattle.std.proofs.Common.{◌∙◌, ap, sym, arith, slice_get}
use Rattle.shareable_types.proofs.Answered.{answered, at_index, knows_at}
use Rattle.shareable_types.proofs.sharing.Sharing.is_so.Goals as goal

pub returns-clause-answer : goal.returns-clause-answer
returns-clause-answer c =
    answered c.args.self.now.any c.args.types.now.listed c.args.self.now.needed.items c.args.types.now.forms c.know.new.known.items c.requires.stands.settled
    (knows_at c.args.self.now.any c.definitions.result.now c.args.types.now.listed c.as_slice.result.now c.args.self.now.needed.items c.terms.result.now c.args.types.now.forms c.know.new.known.items
    c.definitions.ensures c.as_slice.ensures.value c.terms.ensures c.in_ok-know.ensures.knows)
    c.args.id c.index.result.now
    (ap (slice_get c.know.new.known.items) (sym c.index-number.ensures) ∙ at_index c.know.new.known.items c.index-number.result c.index.result.now (omega (arith, c.in_ok-know.ensures.many)) c.index.ensures)
    c.is_nothing.result c.is_nothing.ensures
