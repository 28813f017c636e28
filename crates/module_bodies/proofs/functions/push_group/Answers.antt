use Rattle.std.proofs.Common.{◌≡◌, ◌∙◌, ◌++◌, length, map, ap}
use Rattle.body_lists.specs.Known.{link_of, plan_of}
use Rattle.module_bodies.specs.Bodies.{listed}
use Rattle.module_bodies.proofs.functions.push_group.Goals as goal

pub returns : goal.returns
returns c =
    let g = c.args.group.now in
    let of = plan_of c.args.known.now in
    let by = link_of c.args.known.now in
    let s : c.as_slice-bodies.result.now ≡ g.bodies = c.as_slice-bodies.ensures in
    let n : c.in-Ok.members ≡ length g.bodies = c.in-Ok.ensures.1 ∙ ap length s in
    c.in_ok-push_bodies.ensures (length g.bodies) g.sees
    ∙ ap (λ k. c.args.list.now ++ map (listed of by k (length g.bodies) g.sees) c.as_slice-bodies.result.now) n
    ∙ ap (λ bs. c.args.list.now ++ map (listed of by (length g.bodies) (length g.bodies) g.sees) bs) s
