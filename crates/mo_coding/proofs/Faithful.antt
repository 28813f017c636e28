-- The coding is that of the definitions.
use Rattle.mo_meaning.specs.Coding.{IsFaithful}
use Rattle.mo_coding.specs.Faithful.{faithful}
use Rattle.mo_coding.proofs.Extents as extents
use Rattle.mo_coding.proofs.Headers as headers
use Rattle.mo_coding.proofs.Keeping as keeping
use Rattle.mo_coding.proofs.Messages as messages
use Rattle.mo_coding.proofs.Reading as reading

pub is_faithful : IsFaithful faithful
is_faithful = record {
  codes = messages.codes;
  long = messages.long;
  sound = reading.sound;
  complete = reading.complete;
  keeps = keeping.keeps;
  kept = keeping.kept;
  saves = messages.saves;
  begins = headers.begins;
  no_begin = headers.no_begin;
  extends = extents.extends;
}
