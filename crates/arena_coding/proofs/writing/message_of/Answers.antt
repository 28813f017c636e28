use Rattle.std.proofs.Common.{List, Option, Some, sym, ap, ◌∙◌, subst}
use Rattle.mo_types.specs.declared.datum.Datum.{Datum}
use Rattle.mo_values.specs.Shapes.{Bytes}
use Rattle.mo_machine.specs.Values.{listed}
use Rattle.value_arena.specs.Meaning.{values_of}
use Rattle.arena_coding.specs.Coded.{IsMessage}
use Rattle.arena_coding.proofs.Written.{is_long, is_missing, is_written}
use Rattle.arena_coding.proofs.writing.message_of.Goals as goal

pub returns-in-None : goal.returns-in-None
returns-in-None c = λ groups coding faithful.
    is_missing c.args.types.now c.requires.labels coding c.args.ids.now (listed (values_of groups c.args.arena.now c.args.values.now)) ((rw c.in-None.is at c.in_ok-all_parts.ensures) groups)

pub returns-in-Ok : goal.returns-in-Ok
returns-in-Ok c = λ groups coding faithful.
    let Of : Option Bytes → Type 0 = λ o. IsMessage o c.if_short.result in
    subst Of
    (sym (is_written c.args.types.now c.requires.labels c.args.ids.now (listed (values_of groups c.args.arena.now c.args.values.now)) c.as_slice.result.now coding faithful c.in-Ok.bytes
    (ap (λ (l : List Datum). Some l) c.as_slice.ensures.value ∙ (rw c.in-Some.is at c.in_ok-all_parts.ensures) groups) c.in-Ok.ensures.written))
    c.if_short.ensures

pub returns-in-Err-OtherValues : goal.returns-in-Err-OtherValues
returns-in-Err-OtherValues c = λ groups coding faithful.
    is_long c.args.types.now c.requires.labels c.args.ids.now (listed (values_of groups c.args.arena.now c.args.values.now)) c.as_slice.result.now coding faithful
    (ap (λ (l : List Datum). Some l) c.as_slice.ensures.value ∙ (rw c.in-Some.is at c.in_ok-all_parts.ensures) groups) (rw c.in-Err-OtherValues.field-0-is at c.in-Err-OtherValues.ensures.refused)
