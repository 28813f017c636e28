use Rattle.std.proofs.Common.{◌≡◌, ◌∙◌, List, length, map, string_bytes, Global, subst, sym, Option, IfSome}
use Rattle.std.proofs.lemmas.List.{length-map}
use Rattle.outer.specs.Names.{NameMap}
use Rattle.play_script.specs.declared.event.Event.{Event}
use Rattle.wasm_tree.specs.declared.module_parts.Module.{Module}
use Rattle.wasm_tree.specs.Exec.{ExecutionLimits}
use Rattle.canister.specs.Executed.{execution_limits}
use Rattle.mo_play.specs.Transcripts.{IsTranscript, IsPut}
use Rattle.mo_command.specs.Held.{Holds}
use Rattle.mo_command.specs.Replays.{limits_of, IsScript}
use Rattle.mo_command.specs.Stopped.{AreGiven}
use Rattle.mo_command.proofs.Ending.{files_end, put_end}
use Rattle.mo_command.proofs.replay.replay.Goals as goal

pub returns-in-Err-read_files-clause-ends : goal.returns-in-Err-read_files-clause-ends
returns-in-Err-read_files-clause-ends g c =
    files_end c.args.input c.args.order.options c.args.order.script.now (map (string_bytes {Z = Global}) c.args.order.files.now) c.in-Ok.events (length c.args.order.files.now) (g.F.Files.names c.args.files.now)
    (g.F.Files.names c.read_events.new.files) (g.F.Files.names c.read_files.new.files) (g.F.Files.read_faults c.args.files.now) (g.F.Files.read_faults c.read_events.new.files) (g.F.Files.read_faults c.read_files.new.files)
    (g.F.Files.write_faults c.args.files.now) (g.F.Files.write_faults c.read_files.new.files) (g.O.Sink.shown c.args.out.now) (g.O.Sink.faults c.args.out.now) c.in-Err-read_files.status
    (sym (length-map c.args.order.files.now (string_bytes {Z = Global}))) c.read_events.ensures.names c.read_events.ensures.reads c.in-Ok.ensures.ok c.in-Err-read_files.ensures.err

pub returns-clause-ends : goal.returns-clause-ends
returns-clause-ends g c =
    let files = map (string_bytes {Z = Global}) c.args.order.files.now in
    let count : length files ≡ length c.args.order.files.now = length-map c.args.order.files.now (string_bytes {Z = Global}) in
    let put : IsPut (IsTranscript c.in-Ok-read_files.modules (limits_of c.args.order.options) c.in-Ok.events) (g.O.Sink.shown c.args.out.now) (g.O.Sink.shown c.play.new.out) c.play.result =
    subst (λ (ms : List Module). IsPut (IsTranscript ms (limits_of c.args.order.options) c.in-Ok.events) (g.O.Sink.shown c.args.out.now) (g.O.Sink.shown c.play.new.out) c.play.result) c.as_slice.ensures
    (subst (λ (l : ExecutionLimits). IsPut (IsTranscript c.as_slice.result.now l c.in-Ok.events) (g.O.Sink.shown c.args.out.now) (g.O.Sink.shown c.play.new.out) c.play.result) c.limits.ensures.limits
    (subst (λ (es : List Event). IsPut (IsTranscript c.as_slice.result.now (execution_limits c.limits.result) es) (g.O.Sink.shown c.args.out.now) (g.O.Sink.shown c.play.new.out) c.play.result) c.as_slice-2.ensures c.play.ensures.put)) in
    rw c.end_of.ensures
    (put_end c.args.input c.args.order.options c.args.order.script.now files c.in-Ok.events c.in-Ok-read_files.modules (g.F.Files.names c.args.files.now) (g.F.Files.names c.read_files.new.files) (g.F.Files.read_faults c.args.files.now)
    (g.F.Files.read_faults c.read_files.new.files) (g.F.Files.write_faults c.args.files.now) (g.F.Files.write_faults c.read_files.new.files) (g.O.Sink.faults c.args.out.now) (g.O.Sink.faults c.play.new.out) (g.O.Sink.shown c.args.out.now)
    (g.O.Sink.shown c.play.new.out) c.play.result
    (subst (λ k. Holds (g.F.Files.names c.args.files.now) c.args.order.script.now (IsScript c.args.input k c.in-Ok.events)) (sym count) c.in-Ok.ensures.ok)
    (subst (λ (n : Option NameMap). IfSome n (λ held. AreGiven c.args.input held files c.in-Ok-read_files.modules)) c.read_events.ensures.names c.in-Ok-read_files.ensures.ok)
    (c.in-Ok-read_files.ensures.count ∙ sym count) c.requires.within put c.play.ensures.cause)
