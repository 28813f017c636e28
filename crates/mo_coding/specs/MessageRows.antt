-- Messages of values, and what bytes are read as: Candid specification, sections "Memory" and "Binary Format". What is wanted
-- was told by other implementations.
use Rattle.std.specs.Prelude.{List, [], ◌∷◌, Option, Some, None, map, codes, true, ℤ, pos, negsuc}
use Rattle.mo_types.specs.declared.datum.Datum.TheVariants as part
use Rattle.mo_types.specs.declared.node.TypeId.{TypeId}
use Rattle.mo_types.specs.Values.{Values, Nil, Value}
use Rattle.mo_values.specs.Shapes.{Bytes}
use Rattle.mo_coding.specs.Messages.{code}
use Rattle.mo_coding.specs.Reading.{read}
use Rattle.mo_coding.specs.ExampleTypes.{graph, nat, int, char, text, blob, lists_of_texts, answer, outcome, list, other_list, nulls, option, bool, nat16, nat64, principal, function, service, int8}

-- `DIDL`
abbrev pub didl : Bytes → Bytes
didl bytes = 0x44 ∷ 0x49 ∷ 0x44 ∷ 0x4c ∷ bytes

abbrev pub number : ℤ → Values
number n = Value (part.Number n) Nil Nil

abbrev pub string : Bytes → Values → Values
string t others = Value (part.Text t) Nil others

-- `[[], ["a"], ["b", "c"]]`
abbrev pub some_texts : Values
some_texts =
    Value (part.Many 3)
    (Value (part.Many 0) Nil
    (Value (part.Many 1) (string (codes "a") Nil)
    (Value (part.Many 2) (string (codes "b") (string (codes "c") Nil)) Nil)))
    Nil

-- `{err = 1; ok = "z"}`, whose second field has the smaller number
abbrev pub an_answer : Values
an_answer = Value (part.Record 2) (string (codes "z") (number (pos 1))) Nil

-- `#ok` and `#err "e"`
abbrev pub good : Values
good = Value (part.Tag 0) (Value (part.Record 0) Nil Nil) Nil

abbrev pub bad : Values
bad = Value (part.Tag 1) (string (codes "e") Nil) Nil

-- the list with 1 alone
abbrev pub one_long : Values → Values
one_long others = Value part.Present (Value (part.Record 2) (Value (part.Number (pos 1)) Nil (Value part.Null Nil Nil)) Nil) others

-- a value of one type and its message
pub record Row : Type 0 where
  pub type : TypeId
  pub value : Values
  pub message : Bytes

abbrev pub row : TypeId → Values → Bytes → Row
row t v bytes = record { type = t; value = v; message = didl bytes }

abbrev pub rows : List Row
rows =
    row nat (number (pos 0)) (0 ∷ 1 ∷ 0x7d ∷ 0 ∷ [])
    ∷ row nat (number (pos 127)) (0 ∷ 1 ∷ 0x7d ∷ 0x7f ∷ [])
    ∷ row nat (number (pos 128)) (0 ∷ 1 ∷ 0x7d ∷ 0x80 ∷ 0x01 ∷ [])
    ∷ row nat (number (pos 9223372036854775807)) (0 ∷ 1 ∷ 0x7d ∷ 0xff ∷ 0xff ∷ 0xff ∷ 0xff ∷ 0xff ∷ 0xff ∷ 0xff ∷ 0xff ∷ 0x7f ∷ [])
    ∷ row int (number (negsuc 0)) (0 ∷ 1 ∷ 0x7c ∷ 0x7f ∷ [])
    ∷ row int (number (pos 63)) (0 ∷ 1 ∷ 0x7c ∷ 0x3f ∷ [])
    ∷ row int (number (pos 64)) (0 ∷ 1 ∷ 0x7c ∷ 0xc0 ∷ 0x00 ∷ [])
    ∷ row int (number (negsuc 63)) (0 ∷ 1 ∷ 0x7c ∷ 0x40 ∷ [])
    ∷ row int (number (negsuc 64)) (0 ∷ 1 ∷ 0x7c ∷ 0xbf ∷ 0x7f ∷ [])
    ∷ row int (number (negsuc 9223372036854775807)) (0 ∷ 1 ∷ 0x7c ∷ 0x80 ∷ 0x80 ∷ 0x80 ∷ 0x80 ∷ 0x80 ∷ 0x80 ∷ 0x80 ∷ 0x80 ∷ 0x80 ∷ 0x7f ∷ [])
    ∷ row char (Value (part.Char 97) Nil Nil) (0 ∷ 1 ∷ 0x79 ∷ 0x61 ∷ 0 ∷ 0 ∷ 0 ∷ [])
    ∷ row text (string (codes "abc") Nil) (0 ∷ 1 ∷ 0x71 ∷ 0x03 ∷ 0x61 ∷ 0x62 ∷ 0x63 ∷ [])
    ∷ row blob (Value (part.Blob (0 ∷ 255 ∷ [])) Nil Nil) (1 ∷ 0x6d ∷ 0x7b ∷ 1 ∷ 0 ∷ 2 ∷ 0x00 ∷ 0xff ∷ [])
    ∷ row lists_of_texts some_texts (2 ∷ 0x6d ∷ 0x01 ∷ 0x6d ∷ 0x71 ∷ 1 ∷ 0 ∷ 3 ∷ 0 ∷ 1 ∷ 1 ∷ 0x61 ∷ 2 ∷ 1 ∷ 0x62 ∷ 1 ∷ 0x63 ∷ [])
    ∷ row answer an_answer (1 ∷ 0x6c ∷ 2 ∷ 0x9c ∷ 0xc2 ∷ 0x01 ∷ 0x71 ∷ 0xe5 ∷ 0x8e ∷ 0xb4 ∷ 0x02 ∷ 0x7d ∷ 1 ∷ 0 ∷ 1 ∷ 0x7a ∷ 1 ∷ [])
    ∷ row outcome good (1 ∷ 0x6b ∷ 2 ∷ 0x9c ∷ 0xc2 ∷ 0x01 ∷ 0x7f ∷ 0xe5 ∷ 0x8e ∷ 0xb4 ∷ 0x02 ∷ 0x71 ∷ 1 ∷ 0 ∷ 0 ∷ [])
    ∷ row outcome bad (1 ∷ 0x6b ∷ 2 ∷ 0x9c ∷ 0xc2 ∷ 0x01 ∷ 0x7f ∷ 0xe5 ∷ 0x8e ∷ 0xb4 ∷ 0x02 ∷ 0x71 ∷ 1 ∷ 0 ∷ 1 ∷ 1 ∷ 0x65 ∷ [])
    ∷ row list (one_long Nil) (2 ∷ 0x6e ∷ 0x01 ∷ 0x6c ∷ 2 ∷ 0 ∷ 0x7d ∷ 1 ∷ 0x00 ∷ 1 ∷ 0 ∷ 1 ∷ 1 ∷ 0 ∷ [])
    ∷ row bool (Value (part.Flag true) Nil Nil) (0 ∷ 1 ∷ 0x7e ∷ 1 ∷ [])
    ∷ row nat16 (number (pos 258)) (0 ∷ 1 ∷ 0x7a ∷ 2 ∷ 1 ∷ [])
    ∷ row nat64 (number (pos 72623859790382856)) (0 ∷ 1 ∷ 0x78 ∷ 8 ∷ 7 ∷ 6 ∷ 5 ∷ 4 ∷ 3 ∷ 2 ∷ 1 ∷ [])
    ∷ row int8 (number (negsuc 127)) (0 ∷ 1 ∷ 0x77 ∷ 0x80 ∷ [])
    ∷ row principal (Value (part.Principal (4 ∷ 5 ∷ [])) Nil Nil) (0 ∷ 1 ∷ 0x68 ∷ 1 ∷ 2 ∷ 4 ∷ 5 ∷ [])
    ∷ row function (Value (part.Method (4 ∷ 5 ∷ []) (codes "f")) Nil Nil) (1 ∷ 0x6a ∷ 0 ∷ 0 ∷ 0 ∷ 1 ∷ 0 ∷ 1 ∷ 1 ∷ 2 ∷ 4 ∷ 5 ∷ 1 ∷ 0x66 ∷ [])
    ∷ row service (Value (part.Actor (4 ∷ 5 ∷ [])) Nil Nil) (2 ∷ 0x69 ∷ 1 ∷ 1 ∷ 0x66 ∷ 1 ∷ 0x6a ∷ 0 ∷ 0 ∷ 0 ∷ 1 ∷ 0 ∷ 1 ∷ 2 ∷ 4 ∷ 5 ∷ [])
    ∷ []

abbrev pub written : List Bytes
written = map (λ r. code graph (r.type ∷ []) r.value) rows

abbrev pub wanted : List Bytes
wanted = map (λ r. r.message) rows

-- what is written is read
abbrev pub read_back : List (Option Values)
read_back = map (λ r. read graph (r.type ∷ []) r.message) rows

abbrev pub values : List (Option Values)
values = map (λ r. Some r.value) rows

-- two equal types have one entry
abbrev pub written_twice : Bytes
written_twice = code graph (list ∷ other_list ∷ []) (one_long (one_long Nil))

abbrev pub wanted_twice : Bytes
wanted_twice = didl (2 ∷ 0x6e ∷ 0x01 ∷ 0x6c ∷ 2 ∷ 0 ∷ 0x7d ∷ 1 ∷ 0x00 ∷ 2 ∷ 0 ∷ 0 ∷ 1 ∷ 1 ∷ 0 ∷ 1 ∷ 1 ∷ 0 ∷ [])

-- a padded number is read; bytes behind the values, other types, more or fewer values than types, a text that is cut off, no
-- character, no option, and too many values without bytes are not
abbrev pub others : List (Option Values)
others =
    read graph (nat ∷ []) (didl (0 ∷ 1 ∷ 0x7d ∷ 0x80 ∷ 0x00 ∷ []))
    ∷ read graph (nat ∷ []) (didl (0 ∷ 1 ∷ 0x7d ∷ 0x01 ∷ 0x00 ∷ []))
    ∷ read graph (nat ∷ []) (didl (0 ∷ 1 ∷ 0x7c ∷ 0x05 ∷ []))
    ∷ read graph (nat ∷ []) (didl (0 ∷ 2 ∷ 0x7d ∷ 0x7d ∷ 0x01 ∷ 0x01 ∷ []))
    ∷ read graph (nat ∷ []) (didl (0 ∷ 0 ∷ []))
    ∷ read graph (text ∷ []) (didl (0 ∷ 1 ∷ 0x71 ∷ 0x05 ∷ 0x41 ∷ 0x42 ∷ 0x43 ∷ []))
    ∷ read graph (char ∷ []) (didl (0 ∷ 1 ∷ 0x79 ∷ 0x00 ∷ 0x00 ∷ 0x11 ∷ 0x00 ∷ []))
    ∷ read graph (option ∷ []) (didl (1 ∷ 0x6e ∷ 0x7d ∷ 1 ∷ 0 ∷ 2 ∷ []))
    ∷ read graph (nulls ∷ []) (didl (1 ∷ 0x6d ∷ 0x7f ∷ 1 ∷ 0 ∷ 0xff ∷ 0xff ∷ 0xff ∷ 0xff ∷ 0x0f ∷ []))
    ∷ []

abbrev pub wanted_others : List (Option Values)
wanted_others = Some (number (pos 0)) ∷ None ∷ None ∷ None ∷ None ∷ None ∷ None ∷ None ∷ None ∷ []
