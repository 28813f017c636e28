use Rattle.std.proofs.Common.{◌∙◌, [], ◌∷◌, length, map, string_bytes, Global, subst, ap, arith, Option}
use Rattle.std.proofs.lemmas.List.{length-append}
use Rattle.outer.specs.Names.{NameMap}
use Rattle.mo_command.specs.Held.{Holds}
use Rattle.mo_command.specs.Replays.{Gives}
use Rattle.mo_command.specs.Stopped.{FileStops}
use Rattle.mo_command.proofs.Files.{files_stopped, given_more, word_at}
use Rattle.mo_command.proofs.replay.read_files.Goals as goal

pub returns-in-Err-clause-err : goal.returns-in-Err-clause-err
returns-in-Err-clause-err g c =
    let w = word_at (string_bytes {Z = Global}) c.args.names.now c.loop-number.number c.index-names-number.result c.as_str.result.now c.loop-number-test.true c.index-names-number.is c.as_str.ensures.value in
    files_stopped c.args.input (g.F.Files.names c.args.files.now) (map (string_bytes {Z = Global}) c.args.names.now) c.loop-number.modules c.loop-number.number c.as_str.result.now (g.F.Files.read_faults c.args.files.now)
    (g.F.Files.read_faults c.loop-number.files) (g.F.Files.read_faults c.read_file.new.files) c.in-Err.status w.0 w.1 c.loop-number.invariant.reads c.loop-number.invariant.given
    (subst (λ (n : Option NameMap). FileStops c.args.input c.loop-number.number n c.as_str.result.now (g.F.Files.read_faults c.loop-number.files) (g.F.Files.read_faults c.read_file.new.files) c.in-Err.status) c.loop-number.invariant.names c.in-Err.ensures.err)

pub loop-number-preserved : goal.loop-number-preserved
loop-number-preserved g c =
    let w = word_at (string_bytes {Z = Global}) c.args.names.now c.loop-number.number c.index-names-number.result c.as_str.result.now c.loop-number-test.true c.index-names-number.is c.as_str.ensures.value in
    record {
      given =
          given_more c.args.input (g.F.Files.names c.args.files.now) (map (string_bytes {Z = Global}) c.args.names.now) c.loop-number.modules c.push.new.self c.loop-number.number c.as_str.result.now c.in-Ok.module w.0 w.1
          c.loop-number.invariant.given
          (subst (λ (n : Option NameMap). Holds n c.as_str.result.now (λ bytes. Gives c.args.input bytes c.in-Ok.module)) c.loop-number.invariant.names c.in-Ok.ensures.ok) c.in-Ok-push.ensures.ok;
      count = ap length c.in-Ok-push.ensures.ok ∙ omega (arith, length-append c.loop-number.modules (c.in-Ok.module ∷ []), c.loop-number.invariant.count);
      names = c.read_file.ensures.names ∙ c.loop-number.invariant.names;
      reads = omega (arith, c.loop-number.invariant.reads, c.read_file.ensures.reads);
      writes = c.read_file.ensures.writes ∙ c.loop-number.invariant.writes;
    }
