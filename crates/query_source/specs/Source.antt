-- The sources of constant queries: Motoko language manual, sections Declaration syntax and Declaration fields.
use Rattle.std.specs.Prelude.{◌≡◌, ◌≢◌, ℕ, ◌≤◌, List, [], ◌∷◌, ◌++◌, length, codes, ◌⊎◌}
use Rattle.std.specs.List.{AllPairs}
use Rattle.query_source.specs.declared.query.Method.{Method}
use Rattle.query_source.specs.Tokens.{IsText}
use Rattle.query_source.specs.Words.{IsName, IsNumeral}
use Rattle.query_source.specs.Labels.{label_id}

abbrev pub before_name : List (List ℕ)
before_name = codes "public" ∷ codes "query" ∷ codes "func" ∷ []

abbrev pub before_number : List (List ℕ)
before_number = codes "(" ∷ codes ")" ∷ codes ":" ∷ codes "async" ∷ codes "Nat" ∷ codes "{" ∷ []

-- The tokens are `public query func NAME ( ) : async Nat { NUMBER }`.
pub record IsMethod (method : Method) (tokens : List (List ℕ)) : Type 0 where
  pub is_name : IsName method.name
  pub digits : List ℕ
  pub is_numeral : IsNumeral digits method.number
  pub spelled : tokens ≡ before_name ++ method.name ∷ (before_number ++ digits ∷ codes "}" ∷ [])

-- The tokens are the methods in turn, parted by `;`, with an optional last `;`.
abbrev pub AreMethods : List Method → List (List ℕ) → Type 0
AreMethods [] tokens = tokens ≡ []
AreMethods (m ∷ ms) tokens =
    (first : List (List ℕ)) × (rest : List (List ℕ)) × (tokens ≡ first ++ rest) × IsMethod m first
    × (((ms ≡ []) × (rest ≡ [])) ⊎ ((more : List (List ℕ)) × (rest ≡ codes ";" ∷ more) × AreMethods ms more))

-- The text is `actor { METHODS }`, of at most 4,096 bytes, and the names of the methods differ, and so do their ids.
pub record IsSource (methods : List Method) (text : List ℕ) : Type 0 where
  pub short : length text ≤ 4096
  pub tokens : List (List ℕ)
  pub are_methods : AreMethods methods tokens
  pub spelled : IsText (codes "actor" ∷ codes "{" ∷ tokens ++ codes "}" ∷ []) text
  pub names_differ : AllPairs (λ m n. m.name ≢ n.name) methods
  pub ids_differ : AllPairs (λ m n. label_id m.name ≢ label_id n.name) methods
