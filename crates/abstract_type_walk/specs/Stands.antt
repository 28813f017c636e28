-- What a walk over a syntax tree makes.
use Rattle.std.specs.Prelude.{◌≡◌, ℕ, ◌+◌, List, Option, map, option_map}
use Rattle.typing_rules.specs.Spans.{Span, listed_from, listed_size, led, at_led}

-- The part is this one, and with it stands this number.
pub record Is {A B : Type 0} (see : A → B) (b : B) (n : ℕ) (made : A × ℕ) : Type 0 where
  pub part : see made.0 ≡ b
  pub next : made.1 ≡ n

-- The part is the one that the tree has where its first token has this number, and with it stands the number of the token behind it.
pub record Stands {A B : Type 0} (see : A → B) (span : Span B) (at : ℕ) (made : A × ℕ) : Type 0 where
  pub part : see made.0 ≡ span.from at
  pub next : made.1 ≡ at + span.size

-- the same of parts with a separator between each two
pub record Lists {A B : Type 0} (see : A → B) (spans : List (Span B)) (at : ℕ) (made : List A × ℕ) : Type 0 where
  pub parts : map see made.0 ≡ listed_from spans at
  pub next : made.1 ≡ at + listed_size spans

-- the same of a part that may be missing, behind one token
pub record MayStand {A B : Type 0} (see : A → B) (span : Option (Span B)) (at : ℕ) (made : Option A × ℕ) : Type 0 where
  pub part : option_map see made.0 ≡ at_led span (at + 1)
  pub next : made.1 ≡ at + led 1 span
