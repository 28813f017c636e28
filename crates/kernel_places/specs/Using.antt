-- The functions of a list in which a name occurs.
use Rattle.std.specs.Prelude.{◌≡◌, ℕ, zero, suc, Bool, true, List, [], ◌∷◌, ◌++◌, cond, length, nat_eq, unwrap_or}
use Rattle.std.specs.List.{flat_map, list_any}
use Rattle.std.specs.Global.{Vec}
use Rattle.std.specs.Str.{bytes_eq}
use Rattle.indexmap.specs.IndexMap.{IndexMap, get}
use Rattle.typing_rules.specs.AbstractSyntax.{Bytes}
use Rattle.typed_tree.specs.Placing.{Declared, is_among, is_function}
use Rattle.kernel_places.specs.Reaching.{at}

abbrev pub is_in : ℕ → List ℕ → Bool
is_in k ks = list_any (λ j. nat_eq j k) ks

-- a number, once for each place where the name occurs
abbrev pub once_each : ℕ → List Bytes → Bytes → List ℕ
once_each n occurs x = flat_map (λ o. cond (bytes_eq o x) (n ∷ []) []) occurs

-- the same of a declaration, where it is a function
abbrev pub uses_in : ℕ → Declared → Bytes → List ℕ
uses_in n d x = cond (is_function d) (once_each n d.occurs x) []

-- of the first n declarations
abbrev pub uses_below : ℕ → List Declared → Bytes → List ℕ
uses_below zero ds x = []
uses_below (suc n) ds x = uses_below n ds x ++ uses_in n (at ds n) x

-- what stands at a key
abbrev pub users_at : {S : Type 0} → IndexMap (Vec ℕ) (List ℕ) S → Vec ℕ → List ℕ
users_at m q = unwrap_or (get (λ a b. bytes_eq a.items b.items) m q) []

abbrev pub Used : {S : Type 0} → List Declared → IndexMap (Vec ℕ) (List ℕ) S → Type 0
Used ds m = (q : Vec ℕ) → users_at m q ≡ uses_below (length ds) ds q.items

-- The k-th declaration is a function in which the name occurs.
pub record Uses (ds : List Declared) (k : ℕ) (x : Bytes) : Type 0 where
  pub function : is_function (at ds k) ≡ true
  pub occurs : is_among x (at ds k).occurs ≡ true
