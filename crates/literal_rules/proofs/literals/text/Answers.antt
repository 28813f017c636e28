use Rattle.judging.proofs.Steps.{plain_text}
use Rattle.literal_rules.proofs.ByWanted.{text_fits, text_has, text_has_not}
use Rattle.literal_rules.proofs.literals.text.Goals as goal

pub returns-in-Some : goal.returns-in-Some
returns-in-Some c = λ s q f e.
    text_fits c.args.site.now c.args.bytes.now f s c.args.checker.now c.wanted_blob.result c.wanted_blob.ensures.is c.in-Some.wanted c.args.checker.now c.gives.result c.in-Some.is (c.gives.ensures s q f e)

pub has_plain-requires-clause-plain : goal.has_plain-requires-clause-plain
has_plain-requires-clause-plain c = plain_text

pub returns-then-is_text : goal.returns-then-is_text
returns-then-is_text c = λ s q f e.
    text_has c.args.site.now c.args.bytes.now f s c.args.checker.now c.wanted_blob.result c.wanted_blob.ensures.is c.is_text.result c.has_plain.new.checker c.has_plain.result c.in-None.is c.is_text.ensures c.if-is_text.true
    (c.has_plain.ensures s q f e)

pub returns-else-is_text : goal.returns-else-is_text
returns-else-is_text c = λ s q f e.
    text_has_not c.args.site.now c.args.bytes.now f s c.args.checker.now c.wanted_blob.result c.wanted_blob.ensures.is c.is_text.result c.in-None.is c.is_text.ensures c.if-is_text.false
