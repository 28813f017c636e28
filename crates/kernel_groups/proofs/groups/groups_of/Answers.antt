use Rattle.std.proofs.Common.{◌≡◌, ◌∙◌, ◌<◌, ℕ, List, [], ◌∷◌, ◌++◌, length, get_or, ap, arith, cond, nat_eq}
use Rattle.kernel_groups.proofs.Grouping.{front, grown}
use Rattle.kernel_groups.proofs.groups.groups_of.Goals as goal

pub loop-index-preserved : goal.loop-index-preserved
loop-index-preserved c =
    let same = front c.loop-index.groups.len c.put.new.groups _ (c.put.auto.groups ∙ c.deref_mut.ensures.len) in
    let long : length c.deref_mut.result.now ≡ length c.loop-index.groups.items = ap length c.deref_mut.ensures.value in
    record {
      all = ap length same ∙ (c.put.auto.groups ∙ (long ∙ c.loop-index.invariant.all));
      each = λ n h.
          let within : n < length c.deref_mut.result.now = omega (arith, h, long, c.loop-index.invariant.all) in
          ap (λ (l : List (List ℕ)). get_or l n []) same
          ∙ grown c.args.numbers.now c.loop-index.index n (get_or c.loop-index.groups.items n []) (get_or c.put.new.groups n []) c.loop-index-test.true (c.loop-index.invariant.each n h)
          (c.in_ok-put.ensures n within ∙ ap (λ (l : List (List ℕ)). get_or l n [] ++ cond (nat_eq (get_or c.args.numbers.now c.loop-index.index 0) n) (c.loop-index.index ∷ []) []) c.deref_mut.ensures.value);
    }
