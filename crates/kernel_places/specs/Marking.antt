-- How the functions of a list are marked with their places, from the last declaration to the first. Late names are those through which something is
-- reached that is defined here or later.
use Rattle.std.specs.Prelude.{◌≡◌, ◌≢◌, ◌<◌, ◌≤◌, ◌⊎◌, ℕ, suc, true, List, [], ◌++◌, ◌∷◌, Option, Some, None, length, take, slice_index_or}
use Rattle.typing_rules.specs.AbstractSyntax.{Bytes}
use Rattle.typed_tree.specs.Placing.{Declared, is_among, is_function}
use Rattle.kernel_places.specs.Reaching.{at, Hits}
use Rattle.kernel_places.specs.Using.{is_in, Uses}

abbrev pub mark_of : List ℕ → ℕ → ℕ
mark_of marks k = slice_index_or marks k 0

abbrev pub name_list : Option Bytes → List Bytes
name_list None = []
name_list (Some f) = f ∷ []

-- Of these functions those that had no mark have this one now, and their names are late.
pub record Marks (ds : List Declared) (place : ℕ) (found marks : List ℕ) (late : List Bytes) (marks_after : List ℕ) (late_after : List Bytes) : Type 0 where
  pub len : length marks_after ≡ length marks
  pub kept : (k : ℕ) → mark_of marks k ≢ 0 → mark_of marks_after k ≡ mark_of marks k
  pub fresh : (k : ℕ) → mark_of marks k ≡ 0 → (mark_of marks_after k ≡ 0) ⊎ ((mark_of marks_after k ≡ place) × (is_in k found ≡ true))
  pub every : (k : ℕ) → is_in k found ≡ true → k < length marks → mark_of marks_after k ≢ 0
  pub more : List Bytes
  pub longer : late_after ≡ late ++ more
  pub origin : (x : Bytes) → is_among x more ≡ true → (k : ℕ) × (is_in k found ≡ true) × ((at ds k).function ≡ Some x)
  pub named : (k : ℕ) (x : Bytes) → mark_of marks k ≡ 0 → mark_of marks_after k ≢ 0 → (at ds k).function ≡ Some x → is_among x late_after ≡ true

-- From wherever the name occurs, something is reached that the m-th declaration defines.
abbrev pub Leads : List Declared → Bytes → ℕ → Type 0
Leads ds x m = (names : List Bytes) → is_among x names ≡ true → Hits ds names m

-- What leads to the i-th declaration is being marked, over the names that were late before it: of the first n late names the functions are marked in which they occur.
pub record Closing (ds : List Declared) (i : ℕ) (before : List Bytes) (marks : List ℕ) (late : List Bytes) (n : ℕ) : Type 0 where
  pub len : length marks ≡ length ds
  pub fresh : List Bytes
  pub longer : late ≡ before ++ fresh
  pub leads : (x : Bytes) → is_among x fresh ≡ true → Leads ds x i
  pub sound : (k m : ℕ) → mark_of marks k ≡ suc m → (is_function (at ds k) ≡ true) × Hits ds (at ds k).occurs m
  pub last : (k m : ℕ) → i < m → is_function (at ds k) ≡ true → Hits ds (at ds k).occurs m → m < mark_of marks k
  pub high : (k : ℕ) → mark_of marks k ≢ 0 → i < mark_of marks k
  pub covers : (m : ℕ) (x : Bytes) → i ≤ m → is_among x (at ds m).defines ≡ true → is_among x late ≡ true
  pub closed : (k : ℕ) (x : Bytes) → is_among x (take n late) ≡ true → Uses ds k x → mark_of marks k ≢ 0
  pub named : (k : ℕ) (x : Bytes) → mark_of marks k ≢ 0 → (at ds k).function ≡ Some x → is_among x late ≡ true

-- What leads to declarations from the i-th on is marked.
pub record Round (ds : List Declared) (i : ℕ) (marks : List ℕ) (late : List Bytes) : Type 0 where
  pub len : length marks ≡ length ds
  pub sound : (k m : ℕ) → mark_of marks k ≡ suc m → (is_function (at ds k) ≡ true) × Hits ds (at ds k).occurs m
  pub last : (k m : ℕ) → i ≤ m → is_function (at ds k) ≡ true → Hits ds (at ds k).occurs m → m < mark_of marks k
  pub high : (k : ℕ) → mark_of marks k ≢ 0 → i < mark_of marks k
  pub covers : (m : ℕ) (x : Bytes) → i ≤ m → is_among x (at ds m).defines ≡ true → is_among x late ≡ true
  pub closed : (k : ℕ) (x : Bytes) → is_among x late ≡ true → Uses ds k x → mark_of marks k ≢ 0
  pub named : (k : ℕ) (x : Bytes) → mark_of marks k ≢ 0 → (at ds k).function ≡ Some x → is_among x late ≡ true
