use Rattle.std.proofs.Common.{rules}
use Rattle.std.proofs.lemmas.List.Sorted.{answers_always}
use Rattle.mo_types.specs.Label.{label_id}
use Rattle.part_types.proofs.Orders.{sorted_fields}
use Rattle.part_types.proofs.fields.sorted.Goals as goal

pub returns : goal.returns
returns c =
    sorted_fields c.args.unsorted.items _ _ c.reversed-order.ensures (c.in_ok-sort_by_key.ensures.sorted (λ f. label_id f.now.label) (answers_always _ _ _ (λ f a r g h. search rules)))
    (c.in_ok-sort_by_key.ensures.stable (λ f. label_id f.now.label) (answers_always _ _ _ (λ f a r g h. search rules)))
