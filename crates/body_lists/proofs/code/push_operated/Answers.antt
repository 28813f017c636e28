use Rattle.std.proofs.Common.{◌≡◌, ◌∙◌, ◌++◌, ◌∷◌, [], ◌+◌, ◌-◌, ◌*◌, suc, ap, sym, drop, pos, Some, length, map, take, subst, arith, List, ℕ, refl}
use Rattle.core_ir.specs.declared.code.Operand.{Operand}
use Rattle.low_ir.specs.Flat.{flat}
use Rattle.low_ir.specs.Tree.{Code}
use Rattle.flat_emission.specs.Emission as emission
use Rattle.body_lists.specs.Known.{here_of, link_of, plan_of}
use Rattle.code_sequences.specs.Sequences.{seq}
use Rattle.operation_codes.specs.Codes.{code_of}
use Rattle.operation_lists.specs.Linked.{links_of}
use Rattle.body_lists.proofs.Emitting.{performed, operated_is}
use Rattle.body_lists.proofs.code.push_operated.Goals as goal

pub returns : goal.returns
returns c = λ more.
    let m = c.args.known.now in
    let h = here_of c.args.here in
    let p = c.args.primitive.now in
    let xs = c.args.operands.now in
    let made : Code = seq (code_of (links_of m.links) p c.args.to (emission.first_word h) (emission.places (plan_of c.args.known.now) (link_of c.args.known.now) (here_of c.args.here) 0 xs)) more in
    performed m h c.args.to p xs more c.push_performed.new.list c.push_fetches.new.list c.in_ok-push_performed.ensures
    ∙ c.in_ok-push_fetches.ensures made
    ∙ ap (λ z. c.args.list.now ++ flat z) (sym (operated_is m h c.args.to p xs more))
