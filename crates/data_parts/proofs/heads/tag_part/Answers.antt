use Rattle.data_parts.specs.Tags.{part_among}
use Rattle.data_parts.proofs.HeadParts.{no_variant, tag_is, tag_reached}
use Rattle.data_parts.proofs.heads.tag_part.Goals as goal

pub returns-in_ok-part_of-in-Some-variant_of-clause-is : goal.returns-in_ok-part_of-in-Some-variant_of-clause-is
returns-in_ok-part_of-in-Some-variant_of-clause-is c =
    tag_is c.args.types.now c.args.id c.in-Some.node.now c.in-Some.ensures.there c.args.name.now c.in-Some-variant_of.tags.now c.in_ok-part_of-in-Some-variant_of.field-0 c.in-Some-variant_of.ensures
    c.in_ok-part_of-in-Some-variant_of.ensures

pub returns-in_ok-part_of-in-Some-variant_of-clause-reached : goal.returns-in_ok-part_of-in-Some-variant_of-clause-reached
returns-in_ok-part_of-in-Some-variant_of-clause-reached c =
    tag_reached c.args.types.now (part_among c.args.name.now c.in-Some-variant_of.tags.now) c.in_ok-part_of-in-Some-variant_of.field-0 c.in_ok-part_of-in-Some-variant_of.ensures

pub returns-in-None-variant_of-clause-is : goal.returns-in-None-variant_of-clause-is
returns-in-None-variant_of-clause-is c = no_variant c.args.types.now c.args.id c.in-Some.node.now c.in-Some.ensures.there c.args.name.now c.in-None-variant_of.ensures

pub returns-in-None-clause-is : goal.returns-in-None-clause-is
returns-in-None-clause-is c = absurd (c.in-None.ensures.missing c.requires.reached)
