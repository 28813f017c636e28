use Rattle.std.proofs.Common.{◌≡◌, ◌∙◌, ◌++◌, ◌∷◌, [], ◌+◌, ◌-◌, ◌*◌, suc, ap, sym, drop, pos, Some, length, map, take, subst, arith, List, ℕ, refl}
use Rattle.core_ir.specs.declared.code.Operand.{Operand}
use Rattle.low_ir.specs.Flat.{flat}
use Rattle.low_ir.specs.Tree.{Code}
use Rattle.flat_emission.specs.Emission as emission
use Rattle.body_lists.specs.Known.{here_of, link_of, plan_of}
use Rattle.std.proofs.lemmas.List.{drop_all, drop_more}
use Rattle.body_lists.proofs.operands.push_fetches.Goals as goal

pub loop-operand-preserved : goal.loop-operand-preserved
loop-operand-preserved c = λ rest.
    let xs = c.args.operands.now in
    let n = c.loop-operand.operand-index in
    let at = c.loop-operand.at in
    let old = c.loop-operand.list in
    let behind : Code = emission.fetches (plan_of c.args.known.now) (link_of c.args.known.now) (here_of c.args.here) (suc at) (drop (n + 1) xs) rest in
    ap (λ k. c.push_fetch.new.list ++ flat (emission.fetches (plan_of c.args.known.now) (link_of c.args.known.now) (here_of c.args.here) k (drop (n + 1) xs) rest)) c.in_ok-at.ensures
    ∙ c.in_ok-push_fetch.ensures behind
    ∙ ap (λ (x : Operand). old ++ flat (emission.fetch (plan_of c.args.known.now) (link_of c.args.known.now) (here_of c.args.here) at x behind)) c.operand-item.is
    ∙ sym (ap (λ ys. old ++ flat (emission.fetches (plan_of c.args.known.now) (link_of c.args.known.now) (here_of c.args.here) at ys rest)) (drop_more xs n _ c.loop-operand-test.true))
    ∙ c.loop-operand.invariant rest

pub returns : goal.returns
returns c = λ rest.
    sym (ap (λ ys. c.loop-operand.list ++ flat (emission.fetches (plan_of c.args.known.now) (link_of c.args.known.now) (here_of c.args.here) c.loop-operand.at ys rest)) (drop_all c.loop-operand.operand-index c.args.operands.now c.loop-operand-test.false)) ∙ c.loop-operand.invariant rest
