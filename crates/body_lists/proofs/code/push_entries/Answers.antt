use Rattle.std.proofs.Common.{◌≡◌, ◌∙◌, ◌++◌, ◌∷◌, [], ◌+◌, ◌-◌, ◌*◌, suc, ap, sym, drop, pos, Some, length, map, take, subst, arith, List, ℕ, refl}
use Rattle.core_ir.specs.declared.code.Operand.{Operand}
use Rattle.low_ir.specs.Flat.{flat}
use Rattle.low_ir.specs.Tree.{Code}
use Rattle.flat_emission.specs.Emission as emission
use Rattle.body_lists.specs.Known.{here_of, link_of, plan_of}
use Rattle.body_lists.proofs.Emitting.{entry_more}
use Rattle.body_lists.proofs.code.push_entries.Goals as goal

pub loop-k-preserved : goal.loop-k-preserved
loop-k-preserved c = λ rest.
    let k = c.loop-k.k in
    c.in_ok-push_entry.ensures (emission.entries (plan_of c.args.known.now) (link_of c.args.known.now) (here_of c.args.here) c.args.group (k + 1) (c.args.count - (k + 1)) rest)
    ∙ sym (ap (λ z. c.loop-k.list ++ flat z) (entry_more (plan_of c.args.known.now) (link_of c.args.known.now) (here_of c.args.here) c.args.group k c.args.count rest c.loop-k-test.true))
    ∙ c.loop-k.invariant rest

pub returns : goal.returns
returns c = λ rest.
    let l = c.loop-k-test.false in
    ap (λ n. c.loop-k.list ++ flat (emission.entries (plan_of c.args.known.now) (link_of c.args.known.now) (here_of c.args.here) c.args.group c.loop-k.k n rest)) (let e : 0 ≡ c.args.count - c.loop-k.k = omega (arith, l) in e) ∙ c.loop-k.invariant rest
