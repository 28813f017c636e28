use Rattle.std.proofs.Common.{◌∙◌, ap, sym}
use Rattle.std.specs.Prelude.{None, Some}
use Rattle.typing_rules.specs.AbstractSyntax.{Bytes}
use Rattle.kernel_outside.proofs.FramesBehind.{own_as}
use Rattle.kernel_outside.proofs.first_frame.push_own.Goals as goal

pub returns-in-None : goal.returns-in-None
returns-in-None c = own_as c.push_unnamed.result c.args.methods.now c.args.name.now None c.args.frames.now c.push_unnamed.new.self (sym c.in-None.is) c.push_unnamed.ensures

pub returns-in-Some : goal.returns-in-Some
returns-in-Some c = own_as c.push_hidden.result c.args.methods.now c.args.name.now (Some c.as_slice.result.now) c.args.frames.now c.push_hidden.new.frames (ap (λ (x : Bytes). Some x) c.as_slice.ensures ∙ sym c.in-Some.is) c.push_hidden.ensures
