-- Where the functions of a list of declarations stand in the order of evaluation (Motoko language manual, section "Declarations").
--
-- In a list each `func` and `class` is in scope in the whole list. Its value has a place of its own: directly behind the last
-- other declaration whose names it reaches, through functions of the list too. No declaration that uses it stands earlier,
-- since such a one would use a name before it is defined. Functions with one place are one group, in their own order. The
-- public and system functions of an actor are not in the list: they are a group behind it.
use Rattle.std.specs.Prelude.{ℕ, zero, suc, List, [], ◌∷◌, ◌++◌, length, Bool, true, false, ◌&&◌, cond, Option, Some, None, nat_eq, filter}
use Rattle.std.specs.List.{flat_map, list_any}
use Rattle.std.specs.Str.{bytes_eq}
use Rattle.mo_values.specs.Shapes.{Bytes}

-- a declaration: the `let`, `var` and `object` names that it defines, or the `func` or `class` that it is; and the names that occur in it
pub record Declared : Type 0 where
  pub defines : List Bytes
  pub function : Option Bytes
  pub occurs : List Bytes

abbrev pub is_among : Bytes → List Bytes → Bool
is_among x names = list_any (λ y. bytes_eq x y) names

abbrev pub is_some_name : Option Bytes → Bool
is_some_name None = false
is_some_name (Some f) = true

abbrev pub is_function : Declared → Bool
is_function d = is_some_name d.function

abbrev pub is_one_of : List Bytes → Option Bytes → Bool
is_one_of names None = false
is_one_of names (Some f) = is_among f names

-- the names that are reached from these by so many functions of the list
abbrev pub reached : ℕ → List Declared → List Bytes → List Bytes
reached zero ds names = names
reached (suc n) ds names = reached n ds (names ++ flat_map (λ d. d.occurs) (filter (λ d. is_one_of names d.function) ds))

-- A place is how many declarations of the list stand before it.
abbrev pub behind : ℕ → ℕ → List Declared → List Bytes → ℕ
behind last n [] names = last
behind last n (d ∷ ds) names = behind (cond (list_any (λ x. is_among x names) d.defines) (suc n) last) (suc n) ds names

-- directly behind the last declaration that defines a name which the function reaches, or before all
abbrev pub place : List Declared → Declared → ℕ
place ds f = behind 0 0 ds (reached (length ds) ds f.occurs)

-- what is evaluated: a declaration, or a group of functions
pub data Placed : Type 0 where
  Evaluated : (d : Declared) → Placed
  Functions : (fs : List Declared) → Placed

abbrev pub group_at : ℕ → List Declared → List Declared
group_at n ds = filter (λ d. is_function d && nat_eq (place ds d) n) ds

abbrev pub if_any : List Declared → List Placed → List Placed
if_any [] rest = rest
if_any (f ∷ fs) rest = Functions (f ∷ fs) ∷ rest

-- the declarations from the n-th on
abbrev pub placed_from : ℕ → List Declared → List Declared → List Placed
placed_from n ds [] = if_any (group_at n ds) []
placed_from n ds (d ∷ rest) = if_any (group_at n ds) (cond (is_function d) (placed_from (suc n) ds rest) (Evaluated d ∷ placed_from (suc n) ds rest))

-- a list in the order of evaluation, each part standing around those behind it
abbrev pub placed : List Declared → List Placed
placed ds = placed_from 0 ds ds
