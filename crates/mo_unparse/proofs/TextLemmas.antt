-- Texts.
use Rattle.std.proofs.Common.{◌≡◌, ℕ, ◌/◌, ◌%◌, ◌<◌, ◌≤◌, true, false, List, [], ◌∷◌, ◌++◌, refl, sym, ap, ◌∙◌, subst, arith, append_assoc}
use Rattle.std.specs.Prelude.{◌==◌, ◌&&◌, ◌||◌, not, nat_lt, nat_le}
use Rattle.std.specs.List.{flat_map, All}
use Rattle.std.specs.Char.{digit_char, digit_value}
use Rattle.std.proofs.lemmas.Bool.{eqb-true, ltb-true, lt-ltb, leb-true}
use Rattle.std.proofs.lemmas.List.Elements.{All-head, All-tail}
use Rattle.std.proofs.lemmas.Str.{digit_value-digit_char}
use Rattle.mo_syntax.specs.Characters.{is_digit}
use Rattle.mo_syntax.specs.Lexed.{Item, plain, escape, is_plain, item_text, item_bytes, IsItem, AreItems, IsText, byte}
use Rattle.mo_lexer.proofs.Tools.{and_true, and_of, tested, if_true, if_false, not_true}
use Rattle.mo_unparse.specs.Spelling.{is_shown, shown, AddsText}
use Rattle.mo_unparse.proofs.ByteLemmas.{is_low, AreLow, low_append, digit_low}
use Rattle.mo_unparse.proofs.NumeralLemmas.{digit_char_is}

-- the item that a byte is written as
record OneItem (b : ℕ) : Type 0 where
  item : Item
  text : shown b ≡ item_text item
  value : item_bytes item ≡ b ∷ []
  good : IsItem item
  low : AreLow (shown b)

other_byte : (b k : ℕ) → (b ≡ k → ⊥) → (b == k) ≡ false
other_byte b k h = tested (b == k) (λ same. absurd (h (eqb-true b k same))) (λ differs. differs)

plain_byte : (b : ℕ) → is_shown b ≡ true → is_plain b ≡ true
plain_byte b h =
    let outer = and_true ((nat_lt b 127 && nat_le 32 b) && not (b == 34)) (not (b == 92)) h in
    let inner = and_true (nat_lt b 127 && nat_le 32 b) (not (b == 34)) outer.0 in
    let range = and_true (nat_lt b 127) (nat_le 32 b) inner.0 in
    let least : 32 ≤ b = leb-true 32 b range.1 in
    ap (λ t. not (t || (b == 92 || b == 10))) (not_true (b == 34) inner.1) ∙ ap (λ t. not (t || b == 10)) (not_true (b == 92) outer.1) ∙ ap not (other_byte b 10 (λ e. omega arith))

shown_low : (b : ℕ) → is_shown b ≡ true → is_low b ≡ true
shown_low b h =
    let outer = and_true ((nat_lt b 127 && nat_le 32 b) && not (b == 34)) (not (b == 92)) h in
    let inner = and_true (nat_lt b 127 && nat_le 32 b) (not (b == 34)) outer.0 in
    let range = and_true (nat_lt b 127) (nat_le 32 b) inner.0 in
    let most : b < 127 = ltb-true b 127 range.0 in
    lt-ltb b 128 (omega arith)

one_item : (b : ℕ) → b < 256 → OneItem b
unfolding shown
one_item b h = tested (is_shown b)
    (λ is.
    let e : shown b ≡ b ∷ [] = if_true (is_shown b) (b ∷ []) _ is in
    record { item = plain b; text = e; value = refl; good = plain_byte b is; low = subst AreLow (sym e) (and_of (is_low b) true (shown_low b is) refl) })
    (λ no.
    let high : ℕ = digit_char (b / 16) in
    let low_digit : ℕ = digit_char (b % 16) in
    let e : shown b ≡ 92 ∷ high ∷ low_digit ∷ [] = if_false (is_shown b) _ (92 ∷ high ∷ low_digit ∷ []) no in
    let first : is_digit 16 high ≡ true = digit_char_is 16 (b / 16) (omega arith) (omega arith) in
    let second : is_digit 16 low_digit ≡ true = digit_char_is 16 (b % 16) (omega arith) (omega arith) in
    let u : digit_value high ≡ b / 16 = digit_value-digit_char (b / 16) (omega arith) in
    let v : digit_value low_digit ≡ b % 16 = digit_value-digit_char (b % 16) (omega arith) in
    record {
      item = escape (high ∷ low_digit ∷ []) (byte b);
      text = e;
      value = refl;
      good = (high, low_digit, refl, first, second, omega arith);
      low = subst AreLow (sym e) (and_of (is_low high) (is_low low_digit && true) (digit_low 16 high (omega arith) first) (and_of (is_low low_digit) true (digit_low 16 low_digit (omega arith) second) refl));
    })

record Items (bytes : List ℕ) : Type 0 where
  items : List Item
  text : flat_map shown bytes ≡ flat_map item_text items
  value : bytes ≡ flat_map item_bytes items
  good : AreItems items
  low : AreLow (flat_map shown bytes)

items_of : (bytes : List ℕ) → All (λ b. b < 256) bytes → Items bytes
items_of [] h = record { items = []; text = refl; value = refl; good = tt; low = refl }
items_of (b ∷ bytes) h =
    let first = one_item b (All-head (λ x. x < 256) b bytes h) in
    let rest = items_of bytes (All-tail (λ x. x < 256) b bytes h) in
    record {
      items = first.item ∷ rest.items;
      text = ap (λ l. l ++ flat_map shown bytes) first.text ∙ ap (λ l. item_text first.item ++ l) rest.text;
      value = ap (λ l. b ∷ l) rest.value ∙ ap (λ l. l ++ flat_map item_bytes rest.items) (sym first.value);
      good = (first.good, rest.good);
      low = low_append (shown b) (flat_map shown bytes) first.low rest.low;
    }

pub text_is : (text bytes : List ℕ) → All (λ b. b < 256) bytes → text ≡ 34 ∷ flat_map shown bytes ++ 34 ∷ [] → IsText text bytes
text_is text bytes h e = let i = items_of bytes h in (i.items, e ∙ ap (λ l. 34 ∷ l ++ 34 ∷ []) i.text, i.value, i.good)

pub text_low : (text bytes : List ℕ) → All (λ b. b < 256) bytes → text ≡ 34 ∷ flat_map shown bytes ++ 34 ∷ [] → AreLow text
text_low text bytes h e = let i = items_of bytes h in subst AreLow (sym e) (low_append (flat_map shown bytes) (34 ∷ []) i.low refl)

pub adds_text : (bytes old one two new : List ℕ) → All (λ b. b < 256) bytes → one ≡ old ++ 34 ∷ [] → two ≡ one ++ flat_map shown bytes → new ≡ two ++ 34 ∷ [] → AddsText bytes old new
adds_text bytes old one two new fit a b c = record {
  text = 34 ∷ flat_map shown bytes ++ 34 ∷ [];
  added = c ∙ ap (λ l. l ++ 34 ∷ []) (b ∙ ap (λ l. l ++ flat_map shown bytes) a) ∙ ap (λ l. l ++ 34 ∷ []) (append_assoc old (34 ∷ []) (flat_map shown bytes)) ∙ append_assoc old (34 ∷ flat_map shown bytes) (34 ∷ []);
  is = record { fit = fit; whole = refl };
}
