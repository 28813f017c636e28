-- A memory as words of 64 bits: word i has the eight bytes from address 8 * i on, the lowest first.
use Rattle.std.specs.Prelude.{ℕ, ◌+◌, ◌*◌, ◌/◌, ◌%◌, ◌^◌, List, take, drop}
use Rattle.wasm_tree.specs.Exec.{number_of}

abbrev pub word_at : List ℕ → ℕ → ℕ
word_at memory i = number_of (take 8 (drop (8 * i) memory))

-- Byte j of those from word i on.
abbrev pub byte_at : List ℕ → ℕ → ℕ → ℕ
byte_at memory i j = word_at memory (i + j / 8) / 256 ^ (j % 8) % 256

-- How many words have room for so many bytes.
abbrev pub words_for : ℕ → ℕ
words_for bytes = (bytes + 7) / 8
