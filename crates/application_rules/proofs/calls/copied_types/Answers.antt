use Rattle.std.proofs.Common.{◌∙◌, ◌++◌, [], ◌∷◌, List, ap, map, sym, take}
use Rattle.std.proofs.lemmas.List.{map-append, take_more}
use Rattle.abstract_types.specs.TypeView.{type_node}
use Rattle.typing_rules.specs.AbstractSyntax as p
use Rattle.judging.proofs.NodeParts.{take_all}
use Rattle.application_rules.proofs.calls.copied_types.Goals as goal

pub loop-i-preserved : goal.loop-i-preserved
loop-i-preserved c =
    let e = take_more c.args.written.now c.loop-i.i c.index-written-i.result c.loop-i-test.true in
    ap (map type_node) c.in_ok-push.ensures.ok
    ∙ (map-append type_node c.loop-i.made (c.in_ok-one.one ∷ [])
    ∙ (ap (λ (ns : List p.TypeNode). ns ++ type_node c.in_ok-one.one ∷ []) c.loop-i.invariant
    ∙ (ap (λ (n : p.TypeNode). map type_node (take c.loop-i.i c.args.written.now) ++ n ∷ []) (c.in_ok-one.ensures ∙ ap type_node c.index-written-i.is)
    ∙ (sym (map-append type_node (take c.loop-i.i c.args.written.now) _) ∙ sym (ap (map type_node) e)))))

pub returns : goal.returns
returns c = c.loop-i.invariant ∙ ap (map type_node) (take_all c.args.written.now c.loop-i.i c.loop-i-test.false)
