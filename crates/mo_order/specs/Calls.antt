-- The functions of a list in whose bodies a name occurs.
use Rattle.std.specs.Prelude.{◌≡◌, ℕ, List, [], cond, unwrap_or}
use Rattle.std.specs.List.{flat_map}
use Rattle.std.specs.Global.{Vec}
use Rattle.std.specs.Str.{bytes_eq}
use Rattle.indexmap.specs.IndexMap.{IndexMap, get}
use Rattle.mo_name_table.specs.Places.{texts}
use Rattle.mo_scopes.specs.Findings.{Names, Texts}
use Rattle.mo_names.specs.Order.{Step}

-- the functions of a declaration, once for each place where the name occurs
abbrev pub mentions_of : Step → List ℕ → Texts
mentions_of step x = flat_map (λ o. cond (bytes_eq o.bytes x) step.functions []) step.occurs

abbrev pub mentions : List Step → List ℕ → Texts
mentions steps x = flat_map (λ s. mentions_of s x) steps

-- what stands at a key
abbrev pub functions_at : {S : Type 0} → IndexMap (Vec ℕ) Names S → Vec ℕ → Texts
functions_at m q = texts (unwrap_or (get (λ a b. bytes_eq a.items b.items) m q) [])

abbrev pub Mentioned : {S : Type 0} → List Step → IndexMap (Vec ℕ) Names S → Type 0
Mentioned steps m = (q : Vec ℕ) → functions_at m q ≡ mentions steps q.items
