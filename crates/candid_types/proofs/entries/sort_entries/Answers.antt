use Rattle.std.proofs.Common.{◌∙◌, rules}
use Rattle.std.proofs.lemmas.List.Sorted.{answers_always}
use Rattle.candid_types.proofs.Orders.{sorted_entries}
use Rattle.candid_types.proofs.entries.sort_entries.Goals as goal

pub returns : goal.returns
returns c = c.from_vec.ensures ∙ sorted_entries c.args.unsorted.items _ _ c.reversed-entries.ensures (c.in_ok-sort_by_key.ensures.sorted (λ e. e.id) (answers_always _ _ _ (λ f a r g h. search rules)))
    (c.in_ok-sort_by_key.ensures.stable (λ e. e.id) (answers_always _ _ _ (λ f a r g h. search rules)))
