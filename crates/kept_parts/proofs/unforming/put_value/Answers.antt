use Rattle.kept_parts.proofs.UnformSteps.{value_opened}
use Rattle.kept_parts.proofs.unforming.put_value.Goals as goal

pub returns : goal.returns
returns c =
    let s = c.args.state.now in
    value_opened s (record s { waiting = c.put_asked.new.waiting; found = c.push.new.self }) c.args.node.now c.args.under c.args.part.now c.in_ok-made.made c.requires.value c.in_ok-made.ensures c.requires.none c.in_ok-push.ensures.items c.in_ok-put_asked.ensures
