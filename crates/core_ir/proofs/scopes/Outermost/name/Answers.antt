use Rattle.std.proofs.Common.{◌-◌, arith}
use Rattle.core_ir.proofs.Scoping.{reads_slot, reads_member, reads_captured, reads_unit}
use Rattle.core_ir.proofs.scopes.Outermost.name.Goals as goal

pub returns-then-place-parameters : goal.returns-then-place-parameters
returns-then-place-parameters c = reads_slot c.args.self.now c.args.place c.if-place-parameters.true

pub returns-then-place-functions : goal.returns-then-place-functions
returns-then-place-functions c = reads_member c.args.self.now c.args.place (c.args.place - c.args.self.now.parameters) (omega arith) (omega arith)

pub returns-then-place-self : goal.returns-then-place-self
returns-then-place-self c = reads_captured c.args.self.now c.args.place (c.args.place - c.args.self.now.parameters - c.args.self.now.functions) (omega arith) (omega arith)

pub returns : goal.returns
returns c =
    let e = c.in_ok-new.ensures in
    let u = reads_unit c.args.self.now c.args.place (c.args.place - c.args.self.now.parameters - c.args.self.now.functions) (omega arith) (omega arith) in
    rw e u
