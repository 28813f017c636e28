use Rattle.std.proofs.Common.{◌≡◌, ◌∙◌, ◌++◌, ◌∷◌, [], ◌+◌, ◌-◌, ◌*◌, suc, ap, sym, drop, pos, Some, length, map, take, subst, arith, List, ℕ, refl}
use Rattle.core_ir.specs.declared.code.Operand.{Operand}
use Rattle.low_ir.specs.Flat.{flat}
use Rattle.low_ir.specs.Tree.{Code}
use Rattle.flat_emission.specs.Emission as emission
use Rattle.body_lists.specs.Known.{here_of, link_of, plan_of}
use Rattle.std.proofs.lemmas.List.{drop_all, drop_more}
use Rattle.wasm_tree.specs.declared.op.StoreKind.TheVariants as store
use Rattle.low_ir.specs.declared.op.Operand.TheVariants.{Local}
use Rattle.low_ir.specs.Tree.{Store}
use Rattle.body_lists.proofs.code.push_captures.Goals as goal

pub loop-operand-preserved : goal.loop-operand-preserved
loop-operand-preserved c = λ rest.
    let xs = c.args.seen.now in
    let n = c.loop-operand.operand-index in
    let at = c.loop-operand.word in
    let old = c.loop-operand.list in
    let behind : Code = emission.captures (plan_of c.args.known.now) (link_of c.args.known.now) (here_of c.args.here) (suc at) (drop (n + 1) xs) rest in
    ap (λ k. c.push_capture.new.list ++ flat (emission.captures (plan_of c.args.known.now) (link_of c.args.known.now) (here_of c.args.here) k (drop (n + 1) xs) rest)) c.in_ok-word.ensures
    ∙ c.in_ok-push_capture.ensures behind
    ∙ ap (λ (x : Operand). old ++ flat (emission.fetch (plan_of c.args.known.now) (link_of c.args.known.now) (here_of c.args.here) 0 x (Store store.I64 (Local (emission.first_word (here_of c.args.here))) (8 * at) (emission.place (plan_of c.args.known.now) (link_of c.args.known.now) (here_of c.args.here) 0 x) behind))) c.operand-item.is
    ∙ sym (ap (λ ys. old ++ flat (emission.captures (plan_of c.args.known.now) (link_of c.args.known.now) (here_of c.args.here) at ys rest)) (drop_more xs n _ c.loop-operand-test.true))
    ∙ c.loop-operand.invariant rest

pub returns : goal.returns
returns c = λ rest.
    sym (ap (λ ys. c.loop-operand.list ++ flat (emission.captures (plan_of c.args.known.now) (link_of c.args.known.now) (here_of c.args.here) c.loop-operand.word ys rest)) (drop_all c.loop-operand.operand-index c.args.seen.now c.loop-operand-test.false)) ∙ c.loop-operand.invariant rest
