use Rattle.std.proofs.Common.{◌∙◌, rules}
use Rattle.std.specs.Ordering.{is_lt, nat_cmp}
use Rattle.std.specs.Cmp.Lexicographic.{slice_cmp}
use Rattle.std.proofs.lemmas.List.Sorted.{answers_always}
use Rattle.candid_types.proofs.Orders.{sorted_methods, names_rank}
use Rattle.candid_types.proofs.entries.sort_methods.Goals as goal

pub returns : goal.returns
returns c = c.from_vec.ensures ∙ sorted_methods c.args.unsorted.items _ _ c.reversed-methods.ensures (c.in_ok-sort_by.ensures.sorted (λ m n. is_lt (slice_cmp nat_cmp m.name n.name)) names_rank (answers_always _ _ _ (λ f a r g h. search rules)))
    (c.in_ok-sort_by.ensures.stable (λ m n. is_lt (slice_cmp nat_cmp m.name n.name)) names_rank (answers_always _ _ _ (λ f a r g h. search rules)))
