-- Tests of bytes.
use Rattle.std.proofs.Common.{◌≡◌, ℕ, suc, ◌<◌, List, [], ◌∷◌, Bool, true, false, get_or, refl, sym, ap, ◌∙◌}
use Rattle.std.specs.Prelude.{◌&&◌}
use Rattle.std.proofs.lemmas.Bool.{lt-ltb}
use Rattle.candid_read.specs.Parts.{are_bytes}
use Rattle.std.specs.Str.{is_utf8, IsUtf8}
use Rattle.std.proofs.lemmas.Str.{IsUtf8-from_is_utf8, is_utf8-from_IsUtf8}

pub is_so : (bs : List ℕ) → IsUtf8 bs → true ≡ is_utf8 bs
is_so bs h = sym (is_utf8-from_IsUtf8 bs h)

pub is_not : (bs : List ℕ) → ¬ (IsUtf8 bs) → false ≡ is_utf8 bs
is_not bs h = by (is_utf8 bs) refl
  where
    by : (b : Bool) → is_utf8 bs ≡ b → false ≡ is_utf8 bs
    by true e = absurd (h (IsUtf8-from_is_utf8 bs e))
    by false e = sym e

pub all_bytes : (bytes : List ℕ) → ((i : ℕ) → get_or bytes i 0 < 256) → are_bytes bytes ≡ true
all_bytes [] h = refl
all_bytes (b ∷ bs) h = ap (λ t. t && are_bytes bs) (lt-ltb b 256 (h 0)) ∙ all_bytes bs (λ i. h (suc i))
