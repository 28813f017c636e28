-- Headers, extents, and stable values: Candid specification, section "Type definition table"; Motoko language manual, section
-- "Stable variables". The headers' bytes and whether they are well formed were told by other implementations, the numbers of
-- types and entries were counted by hand.
use Rattle.std.specs.Prelude.{ℕ, List, [], ◌∷◌, Option, Some, None, codes, pos}
use Rattle.mo_types.specs.declared.datum.Datum.TheVariants as part
use Rattle.mo_types.specs.Examples.{stable_memory}
use Rattle.mo_types.specs.Values.{Values, Nil, Value}
use Rattle.mo_values.specs.Shapes.{Bytes}
use Rattle.mo_meaning.specs.Coding as coding
use Rattle.mo_coding.specs.Extents.{extent}
use Rattle.mo_coding.specs.Headers.{header_length}
use Rattle.mo_coding.specs.Keeping.{keep}
use Rattle.mo_coding.specs.Messages.{save}
use Rattle.mo_coding.specs.ExampleTypes.{graph, nat, int, char, lists_of_texts, answer, list, other_list, nat32, option}
use Rattle.mo_coding.specs.MessageRows.{didl, number, one_long}

-- no entry and no argument; the greatest number of a field; one argument and then a value. The table's length in six bytes, two
-- tags of one number and a table that ends too early are no headers.
abbrev pub header_lengths : List ℕ
header_lengths =
    header_length (didl (0 ∷ 0 ∷ []))
    ∷ header_length (didl (1 ∷ 0x6c ∷ 1 ∷ 0xff ∷ 0xff ∷ 0xff ∷ 0xff ∷ 0x0f ∷ 0x7d ∷ 0 ∷ []))
    ∷ header_length (didl (0 ∷ 1 ∷ 0x7d ∷ 0x05 ∷ []))
    ∷ header_length (didl (0x80 ∷ 0x80 ∷ 0x80 ∷ 0x80 ∷ 0x80 ∷ 0x00 ∷ []))
    ∷ header_length (didl (1 ∷ 0x6b ∷ 2 ∷ 1 ∷ 0x7d ∷ 0 ∷ 0x7d ∷ 0 ∷ []))
    ∷ header_length (didl (1 ∷ 0 ∷ 0 ∷ []))
    ∷ []

abbrev pub wanted_lengths : List ℕ
wanted_lengths = 6 ∷ 14 ∷ 7 ∷ 10 ∷ 12 ∷ 7 ∷ []

-- a number; a list of lists of texts, each with one part; a record of two fields and their types; an option, a pair and a number;
-- and nothing more where a type is given twice
abbrev pub extents : List ℕ
extents =
    extent graph (nat ∷ []) ∷ extent graph (lists_of_texts ∷ []) ∷ extent graph (answer ∷ []) ∷ extent graph (list ∷ [])
    ∷ extent graph (list ∷ nat ∷ list ∷ []) ∷ []

abbrev pub wanted_extents : List ℕ
wanted_extents = 1 ∷ 5 ∷ 5 ∷ 6 ∷ 6 ∷ []

-- a character and its number; a list at the same type under other numbers; a number at another type; what is no value of its type
abbrev pub kept : List (Option Values)
kept =
    keep graph graph char nat32 (Value (part.Char 97) Nil Nil) ∷ keep graph graph nat32 char (number (pos 97))
    ∷ keep graph graph list other_list (one_long Nil) ∷ keep graph graph nat int (number (pos 1)) ∷ keep graph graph nat option (number (pos 1))
    ∷ keep graph graph nat32 char (number (pos 55296)) ∷ keep graph graph nat nat (Value part.Null Nil Nil) ∷ []

abbrev pub wanted_kept : List (Option Values)
wanted_kept = Some (number (pos 97)) ∷ Some (Value (part.Char 97) Nil Nil) ∷ Some (one_long Nil) ∷ None ∷ None ∷ None ∷ None ∷ []

-- `stable var n : Nat = 42`
abbrev pub saved : Bytes
saved = coding.stable_memory (save graph (record { name = codes "n"; type = nat; value = number (pos 42) } ∷ []))

abbrev pub wanted_saved : Bytes
wanted_saved = stable_memory
