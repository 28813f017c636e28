use Rattle.std.proofs.Common.{◌≡◌, ◌∙◌, ◌++◌, ◌∷◌, [], ◌+◌, ◌-◌, ◌*◌, suc, ap, sym, drop, pos, Some, length, map, take, subst, arith, List, ℕ, refl}
use Rattle.core_ir.specs.declared.code.Operand.{Operand}
use Rattle.low_ir.specs.Flat.{flat}
use Rattle.low_ir.specs.Tree.{Code}
use Rattle.flat_emission.specs.Emission as emission
use Rattle.body_lists.specs.Known.{here_of, link_of, plan_of}
use Rattle.low_ir.specs.Tree.{Return}
use Rattle.body_lists.proofs.Emitting.{readied_is}
use Rattle.body_lists.proofs.code.push_return.Goals as goal

pub returns : goal.returns
returns c =
    let x = c.args.operand.now in
    let made : Code = Return (Some (emission.place (plan_of c.args.known.now) (link_of c.args.known.now) (here_of c.args.here) 0 x)) in
    c.in_ok-push_returned.ensures ∙ c.in_ok-push_fetch.ensures made ∙ ap (λ z. c.args.list.now ++ flat z) (sym (readied_is (plan_of c.args.known.now) (link_of c.args.known.now) (here_of c.args.here) (x ∷ []) made))
