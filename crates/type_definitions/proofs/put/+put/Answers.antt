use Rattle.std.proofs.lemmas.List.{take_more}
use Rattle.std.proofs.Common.{rules, ◌∙◌, ap, length}
use Rattle.type_definitions.proofs.PutIn.{parts_within, put_listed, more_listed, if_ok}
use Rattle.type_definitions.proofs.put.+put.Goals as goal

pub put_in_part-put_in_parts-requires : goal.put_in_part-put_in_parts-requires
put_in_part-put_in_parts-requires t c =
    (search rules, (parts_within c.args.terms.now c.args.id c.form.result.now c.in_ok-form.form c.as_slice.result.now c.requires.within c.form.ensures.below c.in_ok-form.ensures (c.as_slice.ensures ∙ c.in_ok-parts.ensures), c.requires.arguments))

pub put_in_part-put_back-requires : goal.put_in_part-put_back-requires
put_in_part-put_back-requires t c = record {
  number = ap length c.as_slice-2.ensures ∙ (c.in_ok-others.ensures.many ∙ ap length (c.as_slice.ensures ∙ c.in_ok-parts.ensures));
  within = search rules;
}

pub put_in_part-returns : goal.put_in_part-returns
put_in_part-returns t c = if_ok c.put_back.result _ _ c.put_back.ensures
    (λ r h. put_listed c.args.arguments.now.parameters.now c.args.arguments.now.arguments.now c.args.arguments.now.others_stay c.args.terms.now c.put_in_parts.new.terms c.put_back.new.terms c.args.id r
    c.form.result.now c.in_ok-form.form c.as_slice.result.now c.in_ok-others.others c.as_slice-2.result.now c.form.ensures.there c.in_ok-form.ensures (λ n. c.in_default.not-Parameter n) (c.as_slice.ensures ∙ c.in_ok-parts.ensures) c.as_slice-2.ensures
    c.in_ok-others.ensures h)

pub put_in_parts-loop-part-preserved : goal.put_in_parts-loop-part-preserved
put_in_parts-loop-part-preserved t c =
    more_listed c.args.arguments.now.parameters.now c.args.arguments.now.arguments.now c.args.arguments.now.others_stay c.args.terms.now c.loop-part.terms c.put_in_part.new.terms
    c.args.parts.now c.loop-part.made.items _ c.in_ok-put_in_part.field-0 c.loop-part.part-index (take_more c.args.parts.now c.loop-part.part-index _ c.loop-part-test.true) c.push.new.self.items c.in_ok-push.ensures.items
    c.loop-part.invariant c.in_ok-put_in_part.ensures
