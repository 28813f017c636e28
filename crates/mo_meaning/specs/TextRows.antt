-- Texts, their characters, and loops that test behind their body: Motoko language manual, sections "Loop-while" and "For"; base
-- library, `Text`, `Nat` and `Int`.
use Rattle.std.specs.Prelude.{ℕ, List, [], ◌∷◌, Option, pos, neg_ℤ, codes}
use Rattle.mo_types.specs.declared.datum.Datum.TheVariants as part
use Rattle.mo_values.specs.declared.operation.Operation.TheVariants as op
use Rattle.mo_values.specs.Shapes.{Bytes}
use Rattle.typed_tree.specs.declared.action.Member.TheVariants as member
use Rattle.typed_tree.specs.Patterns.{Bind}
use Rattle.typed_tree.specs.Language.{Exp, Val, Name, Repeat, For, leaf, let_in, then, var_in}
use Rattle.mo_meaning.specs.ExampleTypes.{nat, char, text}
use Rattle.mo_meaning.specs.BenchRows.{goes, comes}
use Rattle.mo_meaning.specs.Playing.{Items, replied, didl, nat_message, text_message}
use Rattle.mo_meaning.specs.Writing.{number, string, operate, field_of, read, add_to, less, call, built_in, method_of, by_option}

-- `äb` in UTF-8
abbrev pub umlaut : Bytes
umlaut = 0xc3 ∷ 0xa4 ∷ 0x62 ∷ []

abbrev pub chars_of : Exp → Exp
chars_of e = call (method_of member.TextChars e) []

abbrev pub next_of : Exp → Exp
next_of e = call (field_of (codes "next") e) []

-- `let i = t.chars(); ignore i.next(); .. switch (i.next()) { case null 'x'; case (?c) c }`, with none, one and two calls before
abbrev pub next_or_x : Exp
next_or_x = by_option (next_of (Name 0)) (Val (leaf (part.Char 120))) Bind (Name 0)

abbrev pub first_char : Exp
first_char = let_in Bind (chars_of (string umlaut)) next_or_x

abbrev pub second_char : Exp
second_char = let_in Bind (chars_of (string umlaut)) (then (next_of (Name 0)) next_or_x)

abbrev pub third_char : Exp
third_char = let_in Bind (chars_of (string umlaut)) (then (next_of (Name 0)) (then (next_of (Name 0)) next_or_x))

-- `var s = 0; for (c in t.chars()) { s += 1 }; s`, and `t.size()`
abbrev pub counted : Exp
counted = var_in (number 0) (then (For Bind (chars_of (string umlaut)) (add_to (Name 1) (number 1))) (read (Name 0)))

abbrev pub sized : Exp
sized = call (method_of member.TextSize (string umlaut)) []

-- `var i = n; loop { i += 1 } while (i < 3); i`: the body runs once at least
abbrev pub repeated : ℕ → Exp
repeated n = var_in (number n) (then (Repeat (add_to (Name 0) (number 1)) (less (read (Name 0)) (number 3))) (read (Name 0)))

-- `Nat.toText(42) # Int.toText(-7)`
abbrev pub digits : Exp
digits =
    operate op.Concat
    (call (built_in member.NatToText) (number 42 ∷ []) ∷ call (built_in member.IntToText) (Val (leaf (part.Number (neg_ℤ (pos 7)))) ∷ []) ∷ [])

abbrev pub char_is : ℕ → Option Items
char_is c = comes (replied 0 (didl (0 ∷ 1 ∷ 0x79 ∷ c ∷ 0 ∷ 0 ∷ 0 ∷ [])) ∷ [])

abbrev pub texts : List (Option Items)
texts =
    goes (char ∷ []) first_char [] ∷ goes (char ∷ []) second_char [] ∷ goes (char ∷ []) third_char [] ∷ goes (nat ∷ []) counted [] ∷ goes (nat ∷ []) sized []
    ∷ goes (nat ∷ []) (repeated 0) [] ∷ goes (nat ∷ []) (repeated 5) [] ∷ goes (text ∷ []) digits [] ∷ []

abbrev pub wanted_texts : List (Option Items)
wanted_texts =
    char_is 0xe4 ∷ char_is 0x62 ∷ char_is 0x78 ∷ comes (replied 0 (nat_message 2) ∷ []) ∷ comes (replied 0 (nat_message 2) ∷ [])
    ∷ comes (replied 0 (nat_message 3) ∷ []) ∷ comes (replied 0 (nat_message 6) ∷ []) ∷ comes (replied 0 (text_message (codes "42-7")) ∷ []) ∷ []
