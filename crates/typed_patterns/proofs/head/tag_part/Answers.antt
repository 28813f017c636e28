use Rattle.typed_patterns.proofs.Parts.{no_tag, no_variant, some_tag}
use Rattle.typed_patterns.proofs.head.tag_part.Goals as goal

pub returns-in_ok-term_of-in-Some-field_of-clause-judged : goal.returns-in_ok-term_of-in-Some-field_of-clause-judged
returns-in_ok-term_of-in-Some-field_of-clause-judged c =
    some_tag c.args.types.now c.args.kind c.in_ok-head.head.now c.in_ok-head.ensures c.args.at c.args.name.now c.in-Some.tags.now c.in-Some.ensures c.in-Some-field_of.tag.now c.in_ok-term_of-in-Some-field_of.field-0 c.in-Some-field_of.ensures c.in_ok-term_of-in-Some-field_of.ensures

pub returns-in-None-field_of-clause-judged : goal.returns-in-None-field_of-clause-judged
returns-in-None-field_of-clause-judged c = no_tag c.args.types.now c.args.kind c.in_ok-head.head.now c.in_ok-head.ensures c.args.at c.args.name.now c.in-Some.tags.now c.in-Some.ensures c.in-None-field_of.ensures

pub returns-in-None-clause-judged : goal.returns-in-None-clause-judged
returns-in-None-clause-judged c = no_variant c.args.types.now c.args.kind c.in_ok-head.head.now c.in_ok-head.ensures c.args.at c.args.name.now c.in-None.ensures
