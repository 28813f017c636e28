use Rattle.std.proofs.Common.{◌∙◌, List, [], ◌∷◌, ◌++◌, ap, sym, take}
use Rattle.std.proofs.lemmas.List.{take_more}
use Rattle.abstract_types.specs.declared.names.PlacedName.{PlacedName}
use Rattle.definition_rules.proofs.Adding.{take_all}
use Rattle.body_rules.proofs.declarations.copied_names.Goals as goal

pub loop-one-preserved : goal.loop-one-preserved
loop-one-preserved c =
    c.in_ok-push.ensures.ok
    ∙ (ap (λ (xs : List PlacedName). xs ++ c.in_ok-copied_name.field-0 ∷ []) c.loop-one.invariant
    ∙ (ap (λ (x : PlacedName). take c.loop-one.one-index c.args.names.now ++ x ∷ []) (c.in_ok-copied_name.ensures ∙ c.one-item.is)
    ∙ sym (take_more c.args.names.now c.loop-one.one-index c.one-item.result c.loop-one-test.true)))

pub returns : goal.returns
returns c = c.loop-one.invariant ∙ take_all c.args.names.now c.loop-one.one-index c.loop-one-test.false
