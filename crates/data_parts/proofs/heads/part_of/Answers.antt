use Rattle.std.proofs.Common.{Option, ap, option_map, sym}
use Rattle.mo_types.specs.declared.node.Field.{Field}
use Rattle.mo_types.specs.declared.node.TypeId.{TypeId}
use Rattle.data_parts.specs.Tags.{own_part, part_among}
use Rattle.data_parts.proofs.HeadParts.{no_part, some_part}
use Rattle.data_parts.proofs.heads.part_of.Goals as goal

pub returns-in_ok-term_of-in-Some : goal.returns-in_ok-term_of-in-Some
returns-in_ok-term_of-in-Some c =
    some_part c.args.types.now (part_among c.args.name.now c.args.tags.now) c.in-Some.tag.now.part c.in_ok-term_of-in-Some.field-0 (sym (ap (λ (o : Option (Field TypeId)). option_map own_part o) c.in-Some.ensures)) c.in_ok-term_of-in-Some.ensures

pub returns-in-None : goal.returns-in-None
returns-in-None c = no_part c.args.types.now (part_among c.args.name.now c.args.tags.now) (sym (ap (λ (o : Option (Field TypeId)). option_map own_part o) c.in-None.ensures))
