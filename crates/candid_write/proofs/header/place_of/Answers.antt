use Rattle.std.proofs.Common.{◌∙◌, ap, sym}
use Rattle.candid_write.specs.Classes.{class_at}
use Rattle.candid_write.proofs.Refs.{is_at}
use Rattle.candid_write.proofs.Closing.{has_place}
use Rattle.candid_write.proofs.header.place_of.Goals as goal

pub unreachable-requires : goal.unreachable-requires
unreachable-requires c = has_place c.args.table.now c.args.number c.class_at-class.result c.get_index_of.result c.requires.ready (c.class_at-class.ensures ∙ ap (λ l. class_at l c.args.number) c.as_slice.ensures.value) c.get_index_of.ensures.index c.requires.known c.in-None.is

pub returns : goal.returns
returns c = is_at c.args.table.now c.args.number c.class_at-class.result c.in-Some.place c.requires.ready (c.class_at-class.ensures ∙ ap (λ l. class_at l c.args.number) c.as_slice.ensures.value) (sym c.in-Some.ensures.index)
