use Rattle.std.proofs.Common.{◌≡◌, ◌∙◌, ◌++◌, ◌∷◌, [], ◌+◌, ◌-◌, ◌*◌, suc, ap, sym, drop, pos, Some, length, map, take, subst, arith, List, ℕ, refl}
use Rattle.core_ir.specs.declared.code.Operand.{Operand}
use Rattle.low_ir.specs.Flat.{flat}
use Rattle.low_ir.specs.Tree.{Code}
use Rattle.flat_emission.specs.Emission as emission
use Rattle.body_lists.specs.Known.{here_of, link_of, plan_of}
use Rattle.core_ir.specs.declared.code.Seen.{Seen}
use Rattle.core_ir.specs.CodeView.{seen_names}
use Rattle.code_sequences.specs.Sequences.{seq}
use Rattle.body_lists.proofs.Emitting.{behind, made}
use Rattle.body_lists.proofs.code.push_make.Goals as goal

pub returns-in_ok-push_makes-in-Listed : goal.returns-in_ok-push_makes-in-Listed
returns-in_ok-push_makes-in-Listed c = λ names rest.
    let xs = c.as_slice.result.now in
    behind c.push_makes.new.list c.args.list.now (flat (emission.makes (plan_of c.args.known.now) (link_of c.args.known.now) (here_of c.args.here) c.args.to xs c.args.group)) (flat rest) c.in_ok-push_makes-in-Listed.ensures
    ∙ ap (λ l. c.args.list.now ++ l) (sym (made (plan_of c.args.known.now) (link_of c.args.known.now) (here_of c.args.here) c.args.to c.args.group xs rest))
    ∙ ap (λ ys. c.args.list.now ++ flat (seq (emission.makes (plan_of c.args.known.now) (link_of c.args.known.now) (here_of c.args.here) c.args.to ys c.args.group) rest)) c.as_slice.ensures
    ∙ ap (λ (s : Seen). c.args.list.now ++ flat (seq (emission.makes (plan_of c.args.known.now) (link_of c.args.known.now) (here_of c.args.here) c.args.to (seen_names names s) c.args.group) rest)) (sym c.in-Listed.is)
