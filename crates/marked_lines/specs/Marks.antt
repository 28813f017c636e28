-- The line of a place, and a mark below it.
use Rattle.std.specs.Prelude.{◌≡◌, ◌≢◌, ◌≤◌, ◌<◌, ◌⊎◌, ◌+◌, ◌-◌, ℕ, List, [], ◌∷◌, ◌++◌, Bool, true, false, length, map, not, Some, slice_get, slice_index, slice_range, if◌then◌else◌, ◌==◌, ◌||◌, ◌&&◌, nat_le, nat_lt, codes}
use Rattle.std.specs.List.{flat_map}

-- From the first place to the last one no byte ends a line.
abbrev pub IsUnbroken : List ℕ → ℕ → ℕ → Type 0
IsUnbroken source first last = (i : ℕ) → first ≤ i → i < last → slice_get source i ≢ Some 10

-- where the line of a place begins: at the beginning of the source, or behind the end of a line
pub record IsFirst (source : List ℕ) (place first : ℕ) : Type 0 where
  pub before : first ≤ place
  pub unbroken : IsUnbroken source first place
  pub begins : (first ≡ 0) ⊎ (slice_get source (first - 1) ≡ Some 10)

-- where it ends: at the end of the source, or at the end of a line
pub record IsLast (source : List ℕ) (place last : ℕ) : Type 0 where
  pub behind : place ≤ last
  pub within : last ≤ length source
  pub unbroken : IsUnbroken source place last
  pub ends : (last ≡ length source) ⊎ (slice_get source last ≡ Some 10)

-- ---- what is shown of a long line: at most 100 bytes in front of the place and 100 behind it

-- a byte of a character, but not its first
abbrev pub is_inner : ℕ → Bool
is_inner b = nat_le 128 b && nat_lt b 192

-- From the first place to the last one each byte is one.
abbrev pub AreInner : List ℕ → ℕ → ℕ → Type 0
AreInner source first last = (i : ℕ) → first ≤ i → i < last → is_inner (slice_index source i) ≡ true

-- where the part begins that is shown: at the beginning of a near line, else at the first character within the limit
pub record IsFrom (source : List ℕ) (first place from : ℕ) : Type 0 where
  pub after : first ≤ from
  pub before : from ≤ place
  pub near : place ≤ first + 100 → from ≡ first
  pub far : first + 100 < place → (place ≤ from + 100) × AreInner source (place - 100) from × ((from ≡ place) ⊎ (is_inner (slice_index source from) ≡ false))

-- where it ends: at the end of a near line, else at the last end of a character within the limit
pub record IsTo (source : List ℕ) (place last to : ℕ) : Type 0 where
  pub after : place ≤ to
  pub before : to ≤ last
  pub near : last ≤ place + 100 → to ≡ last
  pub far : place + 100 < last → (to ≤ place + 100) × AreInner source (to + 1) (place + 101) × ((to ≡ place) ⊎ (is_inner (slice_index source to) ≡ false))

-- what stands for a part that is left out
abbrev pub cut : ℕ → ℕ → List ℕ → List ℕ
cut from to text = if from == to then [] else text

-- ---- what is shown of a byte

-- a blank for a control character, but not for a tab
unfoldable pub plain : ℕ → ℕ
plain b = if b == 9 || (nat_le 32 b && not (b == 127)) then b else 32

-- What stands below a byte in front of the mark: a tab below a tab, and one blank below each character, however many bytes it has.
unfoldable pub pad : ℕ → List ℕ
pad b = if b == 9 then 9 ∷ [] else if nat_lt b 128 || nat_le 192 b then 32 ∷ [] else []

-- The text is the line of the place, and below it a mark under the place.
pub record IsMarked (source : List ℕ) (place : ℕ) (text : List ℕ) : Type 0 where
  pub first : ℕ
  pub last : ℕ
  pub from : ℕ
  pub to : ℕ
  pub is_first : IsFirst source place first
  pub is_last : IsLast source place last
  pub is_from : IsFrom source first place from
  pub is_to : IsTo source place last to
  pub is : text ≡ cut first from (codes "...") ++ (map plain (slice_range source from to) ++ (cut to last (codes "...") ++ (10 ∷ (cut first from (codes "   ") ++ (flat_map pad (slice_range source from place) ++ 94 ∷ 10 ∷ [])))))
