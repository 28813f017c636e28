use Rattle.std.proofs.lemmas.List.{take_more}
use Rattle.std.proofs.Common.{◌∙◌, ◌++◌, [], ◌∷◌, List, get_or, sym, subst, take}
use Rattle.mo_types.specs.declared.node.TypeId.{TypeId}
use Rattle.type_terms.specs.declared.form.TermId.{TermId}
use Rattle.judging.specs.Heads.{PartsFound}
use Rattle.judging.proofs.NodeParts.{one_more_found, take_all}
use Rattle.function_rules.proofs.heads.terms_at.Goals as goal

pub loop-part-preserved : goal.loop-part-preserved
loop-part-preserved c =
    let p : TypeId = get_or c.args.parts.now c.loop-part.part-index (record { index = 0 }) in
    subst (λ (ps : List TypeId). PartsFound c.args.types.now ps c.push.new.self.items) (sym (take_more c.args.parts.now c.loop-part.part-index (record { index = 0 }) c.loop-part-test.true))
    (subst (λ (ids : List TermId). PartsFound c.args.types.now (take c.loop-part.part-index c.args.parts.now ++ p ∷ []) ids) (sym c.in_ok-push-in-Some.ensures.items)
    (one_more_found c.args.types.now (take c.loop-part.part-index c.args.parts.now) c.loop-part.made.items p c.in-Some.id c.loop-part.invariant (sym c.term_at.ensures ∙ c.in-Some.is)))

pub returns : goal.returns
returns c = subst (λ (ps : List TypeId). PartsFound c.args.types.now ps c.loop-part.made.items) (take_all c.args.parts.now c.loop-part.part-index c.loop-part-test.false) c.loop-part.invariant
