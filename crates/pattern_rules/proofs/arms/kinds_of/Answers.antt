use Rattle.std.proofs.Common.{◌≡◌, ◌∙◌, ◌+◌, ◌++◌, ◌∷◌, [], ℕ, suc, ap, arith, drop, subst, sym}
use Rattle.std.proofs.lemmas.List.{drop_all}
use Rattle.judging.proofs.ListParts.{one_at}
use Rattle.pattern_rules.proofs.Cases.{Made}
use Rattle.pattern_rules.proofs.SwitchParts.{all_kinds, kinds, next_kind}
use Rattle.pattern_rules.proofs.arms.kinds_of.Goals as goal

pub loop-i-preserved : goal.loop-i-preserved
loop-i-preserved c =
    let one_more : suc c.loop-i.i ≡ c.loop-i.i + 1 = omega arith in
    subst (λ (n : ℕ). c.push.new.self.items ++ kinds (drop n c.args.cases.now) ≡ kinds c.args.cases.now) one_more
    (next_kind c.args.cases.now c.loop-i.i c.loop-i.made.items c.loop-i.invariant c.index-cases-i.result c.push.new.self.items (one_at c.args.cases.now c.loop-i.i c.index-cases-i.result c.loop-i-test.true c.index-cases-i.is) (c.in_ok-push.ensures.items ∙ ap (λ (y : Made). c.loop-i.made.items ++ y.body.note.kind ∷ []) (sym c.index-cases-i.is)))

pub returns : goal.returns
returns c = all_kinds c.args.cases.now c.loop-i.i c.loop-i.made.items c.loop-i.invariant (drop_all c.loop-i.i c.args.cases.now c.loop-i-test.false)
