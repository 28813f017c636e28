use Rattle.std.proofs.Common.{◌≡◌, refl, ap, length, length-append, arith}
use Rattle.wasm_layout.specs.declared.body.Extent.{Extent}
use Rattle.wasm_layout.specs.declared.pass.Pass.{Pass}
use Rattle.wasm_layout.specs.Bodies.{body_steps}
use Rattle.wasm_layout.proofs.Bounds.{body_finish, body_laid, body_ended, ends_within, body_few}
use Rattle.wasm_layout.proofs.body.lay_body.Goals as goal

-- What a machine takes from the end of a pass.
abbrev extent : Pass → Extent
extent p = record { height = p.peak; nesting = p.nesting }

pub lay_ops-requires-clause-finish : goal.lay_ops-requires-clause-finish
lay_ops-requires-clause-finish c =
    let place = c.len.result in
    let f = body_finish c.args.arities.now place c.args.leaves c.args.ops.now place c.in_ok-body.body c.in_ok-body.pass refl c.in_ok-body.ensures.0 c.in_ok-body.ensures.1 in
    omega arith

pub returns-clause-steps : goal.returns-clause-steps
returns-clause-steps c =
    let n : c.len.result ≡ length c.args.steps.now.items = omega arith in
    body_laid c.args.arities.now (length c.args.steps.now.items) c.args.leaves c.args.ops.now c.len.result c.in_ok-body.body c.in_ok-body.pass n c.in_ok-body.ensures.0 c.in_ok-body.ensures.1
    c.args.steps.now.items c.lay_ops.new.steps.items c.push.new.self.items c.in_ok-lay_ops.ensures.steps c.in_ok-push.ensures.items

pub returns-clause-extent : goal.returns-clause-extent
returns-clause-extent c =
    let n : c.len.result ≡ length c.args.steps.now.items = omega arith in
    let e = body_ended c.args.arities.now (length c.args.steps.now.items) c.args.leaves c.args.ops.now c.len.result c.in_ok-body.body c.in_ok-body.pass n c.in_ok-body.ensures.0 c.in_ok-body.ensures.1
    c.lay_ops.new.pass c.in_ok-lay_ops.ensures.pass in
    ap extent e

pub returns-clause-few : goal.returns-clause-few
returns-clause-few c =
    let n : c.len.result ≡ length c.args.steps.now.items = omega arith in
    let e = body_ended c.args.arities.now (length c.args.steps.now.items) c.args.leaves c.args.ops.now c.len.result c.in_ok-body.body c.in_ok-body.pass n c.in_ok-body.ensures.0 c.in_ok-body.ensures.1
    c.lay_ops.new.pass c.in_ok-lay_ops.ensures.pass in
    let w = ends_within c.args.arities.now (length c.args.steps.now.items) c.args.leaves c.args.ops.now in
    let p = ap (λ (p : Pass). p.peak) e in
    let q = ap (λ (p : Pass). p.nesting) e in
    (omega arith, omega arith)

pub returns-clause-longer : goal.returns-clause-longer
returns-clause-longer c =
    let e = returns-clause-steps c in
    let steps = body_steps c.args.arities.now (length c.args.steps.now.items) c.args.leaves c.args.ops.now in
    let f = ap length e in
    omega (arith, f, length-append c.args.steps.now.items steps, body_few c.args.arities.now (length c.args.steps.now.items) c.args.leaves c.args.ops.now)
