use Rattle.std.proofs.Common.{◌≡◌, ◌∙◌, ◌++◌, ◌∷◌, [], ◌+◌, ℕ, List, length, map, drop, ap, sym}
use Rattle.std.proofs.lemmas.List.{drop_all, drop_more}
use Rattle.core_ir.specs.declared.code.CodeBody.{CodeBody}
use Rattle.core_ir.specs.declared.program.Group.{Group}
use Rattle.core_ir.specs.declared.program.Method.{Method}
use Rattle.body_lists.specs.Known.{link_of, plan_of}
use Rattle.module_bodies.specs.Bodies.{listed, listed_groups, listed_methods}
use Rattle.module_bodies.proofs.Listing.{behind, none}
use Rattle.module_bodies.proofs.functions.push_methods.Goals as goal

pub loop-method-preserved : goal.loop-method-preserved
loop-method-preserved c =
    let xs = c.args.methods.now in
    let n = c.loop-method.method-index in
    let old = c.loop-method.list in
    behind c.push_body.new.list old (listed (plan_of c.args.known.now) (link_of c.args.known.now) 0 0 0 (c.method-item.result).body ∷ []) (listed_methods (plan_of c.args.known.now) (link_of c.args.known.now) (drop (n + 1) xs)) (c.in_ok-push_body.ensures 0 0)
    ∙ ap (λ (x : Method CodeBody). old ++ (listed (plan_of c.args.known.now) (link_of c.args.known.now) 0 0 0 (x).body ∷ [] ++ listed_methods (plan_of c.args.known.now) (link_of c.args.known.now) (drop (n + 1) xs))) c.method-item.is
    ∙ sym (ap (λ ys. old ++ listed_methods (plan_of c.args.known.now) (link_of c.args.known.now) ys) (drop_more xs n _ c.loop-method-test.true))
    ∙ c.loop-method.invariant

pub returns : goal.returns
returns c =
    none c.loop-method.list ∙ sym (ap (λ ys. c.loop-method.list ++ listed_methods (plan_of c.args.known.now) (link_of c.args.known.now) ys) (drop_all c.loop-method.method-index c.args.methods.now c.loop-method-test.false)) ∙ c.loop-method.invariant
