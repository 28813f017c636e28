use Rattle.std.proofs.Common.{Some, inl, inr, ap, ◌∙◌}
use Rattle.play_script.proofs.HexReading.{read_value, read_nothing}
use Rattle.play_script.proofs.reading.read_hex.Goals as goal

pub returns-in-Ok : goal.returns-in-Ok
returns-in-Ok c = ap Some c.from_vec.ensures ∙ read_value c.args.word.now c.in-Ok.bytes.items c.in-Ok.ensures.ok

pub returns-in_default : goal.returns-in_default
returns-in_default c =
    elim c.in-Err.ensures.err [
      | inl memory ↦ absurd (c.in_default.not-OutOfMemory memory)
      | inr bad ↦ read_nothing c.args.word.now _ bad
    ]
