-- Whether patterns cover a type: each value of it matches one of them, or there is a shape to show of values that match none (Motoko language
-- manual, sections "Patterns" and "Switch").
use Rattle.std.specs.Prelude.{◌≡◌, List, [], ◌∷◌, ◌++◌, Bool, true, cond, None}
use Rattle.mo_types.specs.declared.node.Node.{Node}
use Rattle.mo_types.specs.Sub.{Each}
use Rattle.mo_values.specs.Shapes.{Shape}
use Rattle.typed_tree.specs.Patterns.{Pat, matches}
use Rattle.pattern_coverage.specs.Cutting.{Piece, cut}
use Rattle.pattern_coverage.specs.Inhabited.{HasValues, IsValue}
use Rattle.pattern_coverage.specs.Known.{Known, Unknown, Describes}

pub data Coverage : Type 0 where
  Whole : Coverage
  Misses : (shape : Known) → Coverage

-- one of the patterns matches
abbrev pub SomeMatches : {F : Type 0} → List Pat → Shape F → Type 0
SomeMatches ps v = Each (λ p. matches p v ≡ None) ps → ⊥

module _ {A : Type 0} (head : A → Node A) (F : Type 0) (t : A) (ps : List Pat) where
  -- what an answer says
  abbrev pub IsExact : Coverage → Type 0
  IsExact Whole = (v : Shape F) → IsValue head t v → SomeMatches ps v
  IsExact (Misses k) = ((v : Shape F) × IsValue head t v × Describes k v) × ((v : Shape F) → IsValue head t v → Describes k v → Each (λ p. matches p v ≡ None) ps)

-- which types have values
abbrev pub Tells : {A : Type 0} → (A → Node A) → (A → Bool) → Type 0
Tells head has = (t : _) → ((has t ≡ true) → HasValues head t) × (HasValues head t → has t ≡ true)

-- what is missed by the first of the patterns, cut by the next
abbrev pub cut_missed : List Piece → (Known → List Known) → List Known
cut_missed [] f = []
cut_missed (c ∷ cs) f = cond c.matched [] (f c.known) ++ cut_missed cs f

abbrev pub first_missed : List Known → Coverage
first_missed [] = Whole
first_missed (k ∷ ks) = Misses k

module _ {A : Type 0} (head : A → Node A) (has : A → Bool) where
  -- the pieces that no pattern matches
  abbrev pub missed : List Pat → A → Known → List Known
  missed [] t k = k ∷ []
  missed (p ∷ ps) t k = cut_missed (cut head has p t k) (λ j. missed ps t j)

  abbrev pub coverage : List Pat → A → Coverage
  coverage ps t = cond (has t) (first_missed (missed ps t Unknown)) Whole
