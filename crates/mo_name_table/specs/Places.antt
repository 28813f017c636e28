-- Where the names of a list stand.
use Rattle.std.specs.Prelude.{◌≡◌, ℕ, suc, Bool, List, [], ◌∷◌, ◌++◌, Option, Some, None, cond, unwrap_or, map}
use Rattle.std.specs.Global.{Vec}
use Rattle.std.specs.Str.{bytes_eq}
use Rattle.mo_syntax.specs.declared.name.Name.{Name}
use Rattle.indexmap.specs.IndexMap.{IndexMap, get_by}

-- the names without their places in the source
abbrev pub texts : List Name → List (List ℕ)
texts names = map (λ x. x.bytes) names

-- a place behind the head of a list, or else that of the head
abbrev pub later : Option ℕ → Bool → Option ℕ
later (Some place) here = Some (suc place)
later None here = cond here (Some 0) None

-- the last place at which a name stands
abbrev pub last_place : List (List ℕ) → List ℕ → Option ℕ
last_place [] x = None
last_place (y ∷ ys) x = later (last_place ys x) (bytes_eq x y)

-- For each name of a list that follows these names, the last place before it at which the same name stands.
abbrev pub places_before : List (List ℕ) → List (List ℕ) → List (Option ℕ)
places_before front [] = []
places_before front (x ∷ xs) = last_place front x ∷ places_before (front ++ x ∷ []) xs

-- the place that is kept for a name
abbrev pub place_at : {S : Type 0} → IndexMap (Vec ℕ) (Option ℕ) S → List ℕ → Option ℕ
place_at places x = unwrap_or (get_by (λ k. bytes_eq x k.items) places) None

-- The last place of each name is kept, and for each place the one that it hides.
abbrev pub Kept : (List ℕ → Option ℕ) → List (Option ℕ) → List (List ℕ) → Type 0
Kept place hidden names = ((x : List ℕ) → place x ≡ last_place names x) × (hidden ≡ places_before [] names)
