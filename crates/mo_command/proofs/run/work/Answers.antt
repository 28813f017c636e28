use Rattle.std.proofs.Common.{string_bytes, Global, map}
use Rattle.mo_words.specs.Commands.{IsPlay, IsRun}
use Rattle.mo_command.proofs.Ending.{ordered}
use Rattle.mo_command.proofs.run.work.Goals as goal

pub replay-requires : goal.replay-requires
replay-requires g c =
    let p : IsPlay (map (string_bytes {Z = Global}) c.args.words.now) c.in-Some-Play.order.options c.in-Some-Play.order.script.now (map (string_bytes {Z = Global}) c.in-Some-Play.order.files.now) =
    rw c.in-Some-Play.field-0-is at c.in-Some-Play.ensures.found in
    ordered (string_bytes {Z = Global}) p.others c.in-Some-Play.order.options c.in-Some-Play.order.script.now c.in-Some-Play.order.files.now p.replay

pub replay-requires-in-Some-Run : goal.replay-requires-in-Some-Run
replay-requires-in-Some-Run g c =
    let p : IsRun (map (string_bytes {Z = Global}) c.args.words.now) c.in-Some-Run.order.options c.in-Some-Run.order.script.now (map (string_bytes {Z = Global}) c.in-Some-Run.order.files.now) =
    rw c.in-Some-Run.field-0-is at c.in-Some-Run.ensures.found in
    ordered (string_bytes {Z = Global}) p.others c.in-Some-Run.order.options c.in-Some-Run.order.script.now c.in-Some-Run.order.files.now p.replay
