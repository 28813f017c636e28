use Rattle.std.proofs.Common.{◌≡◌, ◌+◌, ◌++◌, List, drop, length, take, true, sym, ap, ◌∙◌, subst, rules}
use denote.Bor.{Bor}
use Rattle.typed_tree.specs.declared.pattern.TypedPattern.{TypedPattern}
use Rattle.typed_tree.specs.PatternView.{pattern}
use Rattle.tag_coverage.specs.Payloads.{IsSorted}
use Rattle.tag_coverage.proofs.Each.{front}
use Rattle.tag_coverage.proofs.Sorting.{SoFar, next_so_far}
use Rattle.tag_coverage.proofs.payloads.payloads.Goals as goal

pub loop-typed-preserved : goal.loop-typed-preserved
loop-typed-preserved c =
    let same : take c.loop-typed.lists.len (c.sort_in.new.lists ++ drop (length c.sort_in.new.lists) c.loop-typed.lists.items) ≡ c.sort_in.new.lists = front c.loop-typed.lists.len c.sort_in.new.lists _ (c.sort_in.auto.lists ∙ c.deref_mut.ensures.len) in
    let is : c.in_ok-sort_in.field-0 ≡ true = search rules in
    let sorted : IsSorted c.args.tags.now (pattern c.typed-item.result.now) c.loop-typed.lists.items c.sort_in.new.lists =
    subst (λ (old : List (List (Bor TypedPattern))). IsSorted c.args.tags.now (pattern c.typed-item.result.now) old c.sort_in.new.lists) c.deref_mut.ensures.value (c.in_ok-sort_in.ensures is) in
    subst (λ (lists : List (List (Bor TypedPattern))). SoFar c.args.tags.now (take (c.loop-typed.typed-index + 1) c.args.patterns.now) lists) (sym same)
    (next_so_far c.args.tags.now c.args.patterns.now c.loop-typed.typed-index c.typed-item.result c.loop-typed.lists.items c.sort_in.new.lists c.requires.differ c.loop-typed-test.true c.typed-item.is c.loop-typed.invariant
    (c.sort_in.auto.lists ∙ ap length c.deref_mut.ensures.value) sorted)
