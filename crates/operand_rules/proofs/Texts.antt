-- Texts in UTF-8.
use Rattle.std.proofs.Common.{◌≡◌, ℕ, Bool, true, false, List, Result, Ok, Err, refl, sym}
use Rattle.std.specs.Prelude.{MatchResult, IsUtf8}
use Rattle.std.specs.Result.{is_ok}
use Rattle.std.specs.Str.{is_utf8}
use Rattle.std.proofs.lemmas.Str.{IsUtf8-from_is_utf8, is_utf8-from_IsUtf8}

-- a test that no text passes
not_text : (bytes : List ℕ) (b : Bool) → is_utf8 bytes ≡ b → (IsUtf8 bytes → ⊥) → false ≡ b
not_text bytes false is none = refl
not_text bytes true is none = absurd (none (IsUtf8-from_is_utf8 bytes is))

pub valid_text : {X Y : Type 0} (P : X → Type 0) (Q : Y → Type 0) (bytes : List ℕ) (r : Result X Y)
    → MatchResult r (λ x. P x × IsUtf8 bytes) (λ y. (IsUtf8 bytes → ⊥) × Q y) → is_ok r ≡ is_utf8 bytes
valid_text P Q bytes (Ok x) h = sym (is_utf8-from_IsUtf8 bytes h.1)
valid_text P Q bytes (Err y) h = not_text bytes (is_utf8 bytes) refl h.0
