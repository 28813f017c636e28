use Rattle.std.proofs.Common.{◌≡◌, ◌∙◌, ◌++◌, ◌∷◌, [], ◌+◌, ◌-◌, ◌*◌, suc, ap, sym, drop, pos, Some, length, map, take, subst, arith, List, ℕ, refl}
use Rattle.core_ir.specs.declared.code.Operand.{Operand}
use Rattle.low_ir.specs.Flat.{flat}
use Rattle.low_ir.specs.Tree.{Code}
use Rattle.flat_emission.specs.Emission as emission
use Rattle.body_lists.specs.Known.{here_of, link_of, plan_of}
use Rattle.wasm_tree.specs.declared.op.Conversion.TheVariants.{ExtendU}
use Rattle.low_ir.specs.declared.op.Operand.TheVariants.{Local}
use Rattle.low_ir.specs.declared.op.Operation.TheVariants.{Convert}
use Rattle.body_lists.proofs.Emitting.{made_with}
use Rattle.body_lists.proofs.code.push_makes.Goals as goal

pub returns : goal.returns
returns c =
    let h = here_of c.args.here in
    let n = c.size-count.result in
    let ends : Code = emission.handles (plan_of c.args.known.now) (link_of c.args.known.now) (here_of c.args.here) c.args.to 0 n in
    let seen : Code = emission.captures (plan_of c.args.known.now) (link_of c.args.known.now) (here_of c.args.here) (2 * n) c.args.seen.now ends in
    let all : Code = emission.entries (plan_of c.args.known.now) (link_of c.args.known.now) (here_of c.args.here) c.args.group 0 n seen in
    let z : n ≡ (plan_of c.args.known.now).sizes c.args.group = c.size-count.ensures in
    c.in_ok-push_handles.ensures ∙ c.in_ok-push_captures.ensures ends ∙ c.in_ok-push_entries.ensures seen ∙ c.in_ok-push_block.ensures all
    ∙ ap (λ k. c.args.list.now ++ flat (made_with c.args.known.now h c.args.to c.args.group c.args.seen.now k)) z
