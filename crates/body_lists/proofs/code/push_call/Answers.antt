use Rattle.std.proofs.Common.{◌≡◌, ◌∙◌, ◌++◌, ◌∷◌, [], ◌+◌, ◌-◌, ◌*◌, suc, ap, sym, drop, pos, Some, length, map, take, subst, arith, List, ℕ, refl}
use Rattle.core_ir.specs.declared.code.Operand.{Operand}
use Rattle.low_ir.specs.Flat.{flat}
use Rattle.low_ir.specs.Tree.{Code}
use Rattle.flat_emission.specs.Emission as emission
use Rattle.body_lists.specs.Known.{here_of, link_of, plan_of}
use Rattle.low_ir.specs.declared.op.Operand.TheVariants.{Local}
use Rattle.low_ir.specs.Tree.{CallIndirect}
use Rattle.body_lists.proofs.Emitting.{readied_is}
use Rattle.body_lists.proofs.code.push_call.Goals as goal

pub returns : goal.returns
returns c = λ rest.
    let m = c.args.known.now in
    let h = here_of c.args.here in
    let f = c.args.function.now in
    let xs = c.args.operands.now in
    let call : Code = CallIndirect (Some (emission.slot c.args.to)) ((link_of m).type_of (length xs)) (Local (emission.first_word h) ∷ emission.places (plan_of c.args.known.now) (link_of c.args.known.now) (here_of c.args.here) 1 xs) (Local (emission.second_word h)) rest in
    let found : Code = emission.finds (plan_of c.args.known.now) (link_of c.args.known.now) (here_of c.args.here) f call in
    c.in_ok-push_indirect.ensures rest ∙ c.in_ok-push_finds.ensures call ∙ c.in_ok-push_fetches.ensures found ∙ c.in_ok-push_fetch.ensures (emission.fetches (plan_of c.args.known.now) (link_of c.args.known.now) (here_of c.args.here) 1 xs found)
    ∙ ap (λ z. c.args.list.now ++ flat z) (sym (readied_is (plan_of c.args.known.now) (link_of c.args.known.now) (here_of c.args.here) (f ∷ xs) found))
