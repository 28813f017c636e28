use Rattle.kernel_outside.proofs.FramesBehind.{hidden, shown}
use Rattle.kernel_outside.proofs.hiding.push_hidden.Goals as goal

pub returns-then-is_among : goal.returns-then-is_among
returns-then-is_among c = hidden c.push_unnamed.result c.is_among.result c.args.hiding.now c.args.name.now c.args.frames.now c.push_unnamed.new.self c.is_among.ensures c.if-is_among.true c.push_unnamed.ensures

pub returns-else-is_among : goal.returns-else-is_among
returns-else-is_among c = shown c.push_value.result c.is_among.result c.args.hiding.now c.args.name.now c.args.frames.now c.push_value.new.self c.is_among.ensures c.if-is_among.false c.push_value.ensures
