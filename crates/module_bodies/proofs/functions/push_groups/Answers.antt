use Rattle.std.proofs.Common.{◌≡◌, ◌∙◌, ◌++◌, ◌∷◌, [], ◌+◌, ℕ, List, length, map, drop, ap, sym}
use Rattle.std.proofs.lemmas.List.{drop_all, drop_more}
use Rattle.core_ir.specs.declared.code.CodeBody.{CodeBody}
use Rattle.core_ir.specs.declared.program.Group.{Group}
use Rattle.core_ir.specs.declared.program.Method.{Method}
use Rattle.body_lists.specs.Known.{link_of, plan_of}
use Rattle.module_bodies.specs.Bodies.{listed, listed_groups, listed_methods}
use Rattle.module_bodies.proofs.Listing.{behind, none}
use Rattle.module_bodies.proofs.functions.push_groups.Goals as goal

pub loop-group-preserved : goal.loop-group-preserved
loop-group-preserved c =
    let xs = c.args.groups.now in
    let n = c.loop-group.group-index in
    let old = c.loop-group.list in
    behind c.push_group.new.list old (map (listed (plan_of c.args.known.now) (link_of c.args.known.now) (length (c.group-item.result).bodies) (length (c.group-item.result).bodies) (c.group-item.result).sees) (c.group-item.result).bodies) (listed_groups (plan_of c.args.known.now) (link_of c.args.known.now) (drop (n + 1) xs)) (c.in_ok-push_group.ensures)
    ∙ ap (λ (x : Group CodeBody). old ++ (map (listed (plan_of c.args.known.now) (link_of c.args.known.now) (length (x).bodies) (length (x).bodies) (x).sees) (x).bodies ++ listed_groups (plan_of c.args.known.now) (link_of c.args.known.now) (drop (n + 1) xs))) c.group-item.is
    ∙ sym (ap (λ ys. old ++ listed_groups (plan_of c.args.known.now) (link_of c.args.known.now) ys) (drop_more xs n _ c.loop-group-test.true))
    ∙ c.loop-group.invariant

pub returns : goal.returns
returns c =
    none c.loop-group.list ∙ sym (ap (λ ys. c.loop-group.list ++ listed_groups (plan_of c.args.known.now) (link_of c.args.known.now) ys) (drop_all c.loop-group.group-index c.args.groups.now c.loop-group-test.false)) ∙ c.loop-group.invariant
