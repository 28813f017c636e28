-- The coding of the definitions of messages (Candid specification; Motoko language manual, section "Candid serialization").
use Rattle.mo_meaning.specs.Coding.{Coding}
use Rattle.mo_coding.specs.Extents.{extent}
use Rattle.mo_coding.specs.Headers.{header_length}
use Rattle.mo_coding.specs.Keeping as keeping
use Rattle.mo_coding.specs.Messages as messages
use Rattle.mo_coding.specs.Reading as reading

abbrev pub faithful : Coding
faithful = record {
  code = λ slots types values. messages.code slots types values;
  read = λ slots types bytes. reading.read slots types bytes;
  keep = λ old new t u v. keeping.keep old new t u v;
  save = λ slots variables. messages.save slots variables;
  header = λ bytes. header_length bytes;
  extent = λ slots types. extent slots types;
}
