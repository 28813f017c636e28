use Rattle.std.proofs.Common.{◌≡◌, ◌∙◌, ◌<◌, ◌+◌, [], ap, sym, subst, length, get_or, slice_get, Some, List, ℕ}
use Rattle.std.proofs.lemmas.Option.{slice_get-get_or}
use Rattle.mo_types.specs.declared.node.Node.{Node}
use Rattle.mo_types.specs.declared.node.TypeId.{TypeId}
use Rattle.mo_types.specs.Graph.{total}
use Rattle.mo_types.specs.Layout.{entries}
use Rattle.typed_tree.specs.Instances.{types_in}
use Rattle.type_terms.specs.declared.form.TermId.{TermId}
use Rattle.met_types.specs.Nodes.{typed_node}
use Rattle.met_types.specs.Overflowing.{Given}
use Rattle.met_types.proofs.Failing.{same_err, if_too_many, err_too_many, on_ok}
use Rattle.met_types.proofs.Expanding.{as_many_parts, no_room_overflows, waits, formed_new, covers_new, parts_overflow}
use Rattle.met_types.proofs.closing.expand.Goals as goal

first : TermId
first = record { index = 0 }

at_own : (xs ys : List TermId) (i : ℕ) → xs ≡ ys → i < length ys → slice_get ys i ≡ Some (get_or xs i (record { index = 0 }))
at_own xs ys i e h = ap (λ zs. slice_get zs i) (sym e) ∙ slice_get-get_or xs i (record { index = 0 }) (subst (λ zs. i < length zs) (sym e) h)

pub returns-in_err-ids-clause-full : goal.returns-in_err-ids-clause-full
returns-in_err-ids-clause-full c =
    same_err c.from_residual-in_err-ids.result c.in_err-ids.field-0.0 _ c.from_residual-in_err-ids.ensures
    (if_too_many c.in_err-ids.field-0.0 _ _ c.in_err-ids.ensures.full
    (λ r met k. no_room_overflows c.args.definitions.now c.args.terms.now c.head.new.terms c.args.graph.now c.number_parts.new.graph c.args.reached.now c.number_parts.new.reached c.args.place _ c.in_ok-node.node
    [] c.as_slice-2.result.now c.requires.formed (at_own c.as_slice.result.now c.args.reached.now c.args.place c.as_slice.ensures c.requires.there) c.in_ok-node.ensures (c.as_slice-2.ensures.value ∙ c.in_ok-parts.ensures) r.1 met k r.0))

pub returns-in_err-ids-clause-left : goal.returns-in_err-ids-clause-left
returns-in_err-ids-clause-left c =
    same_err c.from_residual-in_err-ids.result c.in_err-ids.field-0.0 _ c.from_residual-in_err-ids.ensures
    (if_too_many c.in_err-ids.field-0.0 _ _ c.in_err-ids.ensures.full (λ r. c.in_ok-node.ensures.grows))

pub typed_node-requires : goal.typed_node-requires
typed_node-requires c =
    ap length c.as_slice-3.ensures.value
    ∙ as_many_parts c.number_parts.new.reached c.as_slice-2.result.now c.in_ok-node.node c.in_ok-ids.ids.items (c.as_slice-2.ensures.value ∙ c.in_ok-parts.ensures) c.in_ok-ids.ensures.there

pub give-requires : goal.give-requires
give-requires c =
    waits c.args.definitions.now c.args.terms.now c.head.new.terms c.args.graph.now c.number_parts.new.graph c.args.reached.now c.number_parts.new.reached c.args.place _ c.in_ok-node.node
    c.in_ok-ids.ids.items c.as_slice-2.result.now c.requires.formed (at_own c.as_slice.result.now c.args.reached.now c.args.place c.as_slice.ensures c.requires.there) c.in_ok-node.ensures (c.as_slice-2.ensures.value ∙ c.in_ok-parts.ensures)
    c.in_ok-ids.ensures.ok c.in_ok-ids.ensures.there

pub returns : goal.returns
returns c =
    let made_is : c.in_ok-made.made ≡ typed_node c.in_ok-node.node c.in_ok-ids.ids.items = c.in_ok-made.ensures ∙ ap (typed_node c.in_ok-node.node) c.as_slice-3.ensures.value in
    let at = at_own c.as_slice.result.now c.args.reached.now c.args.place c.as_slice.ensures c.requires.there in
    let parts : c.as_slice-2.result.now ≡ types_in c.in_ok-node.node = c.as_slice-2.ensures.value ∙ c.in_ok-parts.ensures in
    record {
      grows = on_ok c.give.result _ _ c.give.ensures.ok (λ g. c.in_ok-node.ensures.grows);
      left = err_too_many c.give.result _ _ c.give.ensures.full (λ h. c.in_ok-node.ensures.grows);
      keeps = on_ok c.give.result _ _ c.give.ensures.ok (λ g. c.in_ok-ids.ensures.ok.keeps);
      formed = on_ok c.give.result _ _ c.give.ensures.ok
          (λ g. formed_new c.args.definitions.now c.args.terms.now c.head.new.terms c.args.graph.now c.number_parts.new.graph c.args.reached.now c.number_parts.new.reached c.args.place _ c.in_ok-node.node
          c.in_ok-ids.ids.items c.as_slice-2.result.now c.requires.formed at c.in_ok-node.ensures parts c.in_ok-ids.ensures.ok c.in_ok-ids.ensures.there c.give.new.graph
          (subst (λ (n : Node TypeId). Given c.number_parts.new.reached c.number_parts.new.graph (get_or c.as_slice.result.now c.args.place (record { index = 0 })) n c.give.new.graph) made_is g));
      covers = on_ok c.give.result _ _ c.give.ensures.ok
          (λ g met k. covers_new c.args.definitions.now c.args.terms.now c.head.new.terms c.args.graph.now c.number_parts.new.graph c.args.reached.now c.number_parts.new.reached c.args.place _ c.in_ok-node.node
          c.in_ok-ids.ids.items c.as_slice-2.result.now c.requires.formed at c.in_ok-node.ensures parts c.in_ok-ids.ensures.ok met k);
      full = err_too_many c.give.result _ _ c.give.ensures.full
          (λ h met k. parts_overflow c.args.definitions.now c.args.terms.now c.head.new.terms c.args.graph.now c.number_parts.new.graph c.args.reached.now c.number_parts.new.reached c.args.place _ c.in_ok-node.node
          c.in_ok-ids.ids.items c.as_slice-2.result.now c.requires.formed at c.in_ok-node.ensures parts c.in_ok-ids.ensures.ok c.in_ok-ids.ensures.there met k
          (subst (λ (n : Node TypeId). 65536 < total c.number_parts.new.graph + entries n) made_is h));
    }
