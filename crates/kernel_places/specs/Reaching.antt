-- What the functions of a list reach, and what their places are by that.
use Rattle.std.specs.Prelude.{◌≡◌, ◌<◌, ◌⊎◌, ℕ, suc, true, List, [], Some, None, cond, slice_index_or}
use Rattle.typing_rules.specs.AbstractSyntax.{Bytes}
use Rattle.typed_tree.specs.Placing.{Declared, is_among, is_function, place}

-- what stands where no declaration does
abbrev pub nothing : Declared
nothing = record { defines = []; function = None; occurs = [] }

abbrev pub at : List Declared → ℕ → Declared
at ds k = slice_index_or ds k nothing

-- The name is one of these, or it occurs in a function of the list whose name is reached from them.
pub data Reaches (ds : List Declared) (names : List Bytes) : Bytes → Type 0 where
  Occurring : (x : Bytes) → is_among x names ≡ true → Reaches ds names x
  Through : (k : ℕ) (f x : Bytes) → Reaches ds names f → (at ds k).function ≡ Some f → is_among x (at ds k).occurs ≡ true → Reaches ds names x

-- A name that the m-th declaration defines is reached from these.
pub record Hits (ds : List Declared) (names : List Bytes) (m : ℕ) : Type 0 where
  pub name : Bytes
  pub defined : is_among name (at ds m).defines ≡ true
  pub reached : Reaches ds names name

-- The number is one more than that of the last declaration that defines a name which is reached, or 0 where none does.
pub record HasPlace (ds : List Declared) (names : List Bytes) (r : ℕ) : Type 0 where
  pub last : (m : ℕ) → Hits ds names m → m < r
  pub first : (r ≡ 0) ⊎ ((m : ℕ) × (r ≡ suc m) × Hits ds names m)

-- the place of a function; 0 for what is none
abbrev pub function_place : List Declared → Declared → ℕ
function_place ds d = cond (is_function d) (place ds d) 0
