use Rattle.std.proofs.Common.{◌≡◌, ◌∙◌, ◌++◌, ◌∷◌, [], ◌+◌, ℕ, List, length, map, drop, ap, sym}
use Rattle.std.proofs.lemmas.List.{drop_all, drop_more}
use Rattle.core_ir.specs.declared.code.CodeBody.{CodeBody}
use Rattle.core_ir.specs.declared.program.Group.{Group}
use Rattle.core_ir.specs.declared.program.Method.{Method}
use Rattle.body_lists.specs.Known.{link_of, plan_of}
use Rattle.module_bodies.specs.Bodies.{listed, listed_groups, listed_methods}
use Rattle.module_bodies.proofs.Listing.{behind, none}
use Rattle.module_bodies.proofs.functions.push_bodies.Goals as goal

pub loop-body-preserved : goal.loop-body-preserved
loop-body-preserved c = λ functions sees.
    let xs = c.args.bodies.now in
    let n = c.loop-body.body-index in
    let old = c.loop-body.list in
    behind c.push_body.new.list old (listed (plan_of c.args.known.now) (link_of c.args.known.now) c.args.members functions sees c.body-item.result ∷ []) (map (listed (plan_of c.args.known.now) (link_of c.args.known.now) c.args.members functions sees) (drop (n + 1) xs)) (c.in_ok-push_body.ensures functions sees)
    ∙ ap (λ (x : CodeBody). old ++ (listed (plan_of c.args.known.now) (link_of c.args.known.now) c.args.members functions sees x ∷ [] ++ map (listed (plan_of c.args.known.now) (link_of c.args.known.now) c.args.members functions sees) (drop (n + 1) xs))) c.body-item.is
    ∙ sym (ap (λ ys. old ++ map (listed (plan_of c.args.known.now) (link_of c.args.known.now) c.args.members functions sees) ys) (drop_more xs n _ c.loop-body-test.true))
    ∙ c.loop-body.invariant functions sees

pub returns : goal.returns
returns c = λ functions sees.
    none c.loop-body.list ∙ sym (ap (λ ys. c.loop-body.list ++ map (listed (plan_of c.args.known.now) (link_of c.args.known.now) c.args.members functions sees) ys) (drop_all c.loop-body.body-index c.args.bodies.now c.loop-body-test.false)) ∙ c.loop-body.invariant functions sees
