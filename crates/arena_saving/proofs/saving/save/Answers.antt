use Rattle.std.proofs.Common.{List, refl, subst, arith}
use Rattle.typed_tree.specs.declared.program.StableVariable.{StableVariable}
use Rattle.value_arena.specs.Growth.{IsWithin}
use Rattle.arena_coding.proofs.Written.{ok_more}
use Rattle.arena_saving.specs.Saving.{saving_frames, IsReaching, IsSavingFrom}
use Rattle.arena_saving.proofs.Runs.{exports_there, machine_sound, saves_so, saving_here}
use Rattle.arena_saving.proofs.saving.save.Goals as goal

pub begin-requires : goal.begin-requires
begin-requires c =
    let from : IsSavingFrom c.args.actor (saving_frames c.args.program.now.stable) c.machine_of.result =
    saving_here c.args.actor c.machine_of.result c.in_ok-frames.frames.items _ c.args.program.now.stable c.in_ok-frames.ensures c.as_slice.ensures c.machine_of.ensures in
    exports_there c.args.program.now.stable c.args.actor c.machine_of.result from c.requires.sound

pub run-requires-clause-sound : goal.run-requires-clause-sound
run-requires-clause-sound c =
    let from : IsSavingFrom c.args.actor (saving_frames c.args.program.now.stable) c.machine_of.result =
    saving_here c.args.actor c.machine_of.result c.in_ok-frames.frames.items _ c.args.program.now.stable c.in_ok-frames.ensures c.as_slice.ensures c.machine_of.ensures in
    machine_sound c.args.program.now.stable c.args.actor c.machine_of.result from c.requires.sound c.begin.new.arena c.in_ok-focus.ensures.grows

pub run-requires-clause-focus : goal.run-requires-clause-focus
run-requires-clause-focus c = c.in_ok-focus.ensures.within

pub saved_as-requires-clause-sound : goal.saved_as-requires-clause-sound
saved_as-requires-clause-sound c = c.in_ok-reached.ensures.follows.sound

pub saved_as-requires-clause-exports : goal.saved_as-requires-clause-exports
saved_as-requires-clause-exports c =
    let from : IsSavingFrom c.args.actor (saving_frames c.args.program.now.stable) c.machine_of.result =
    saving_here c.args.actor c.machine_of.result c.in_ok-frames.frames.items _ c.args.program.now.stable c.in_ok-frames.ensures c.as_slice.ensures c.machine_of.ensures in
    let there : IsWithin c.machine_of.result.arena c.args.actor.exports = exports_there c.args.program.now.stable c.args.actor c.machine_of.result from c.requires.sound in
    omega (arith, there, c.in_ok-focus.ensures.grows.more, c.in_ok-reached.ensures.follows.grows.more)

pub returns : goal.returns
returns c =
    let from : IsSavingFrom c.args.actor (saving_frames c.args.program.now.stable) c.machine_of.result =
    saving_here c.args.actor c.machine_of.result c.in_ok-frames.frames.items _ c.args.program.now.stable c.in_ok-frames.ensures c.as_slice.ensures c.machine_of.ensures in
    ok_more _ _ c.saved_as.result c.saved_as.ensures
    (λ s h.
    let Of : List StableVariable → Type 0 = λ l. IsReaching c.args.program.now.types l c.run.new.execution.machine c.args.actor.exports c.in_ok-reached.reached s in
    saves_so c.args.program.now c.args.own.now c.args.turns c.in_ok-around.around c.args.actor c.machine_of.result (record { machine = record c.machine_of.result { arena = c.begin.new.arena }; calls = c.new.result })
    c.run.new.execution c.begin.new.arena c.in_ok-focus.focus c.in_ok-reached.reached s c.requires.labels c.in_ok-around.ensures from c.requires.sound refl c.new.ensures c.in_ok-focus.ensures c.in_ok-reached.ensures
    (subst Of c.as_slice-2.ensures h))
