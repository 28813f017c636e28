-- The switches of a program that miss a value: those for which some value of the type matches no case (Motoko language manual, section
-- "Switch"). A type parameter has the values of its bound.
use Rattle.std.specs.Prelude.{◌≡◌, ◌⊎◌, ℕ, List, [], ◌∷◌, ◌++◌, map}
use Rattle.std.specs.List.Sorted.{IsNonDecreasingBy, IsPermutation}
use Rattle.mo_types.specs.declared.node.TypeId.{TypeId}
use Rattle.mo_types.specs.Graph.{Slot}
use Rattle.mo_types.specs.Sub.{Each}
use Rattle.typed_tree.specs.declared.program.Program.{Program}
use Rattle.typed_tree.specs.Opening.{Code}
use Rattle.pattern_coverage.specs.Cover.{Coverage, IsExact}
use Rattle.pattern_coverage.specs.Cover as cover
use Rattle.pattern_coverage.specs.Followed.{value_head}
use Rattle.pattern_coverage.specs.Known.{Known}
use Rattle.pattern_coverage.specs.Suited.{IsOn}
use Rattle.mo_coverage.specs.Shapes.{known}
use Rattle.switch_coverage.specs.declared.uncovered.Uncovered.{Uncovered}
use Rattle.switch_coverage.specs.Switches.{Switch, switches}

-- the first token of a switch, the type of its value, and what is known of values that it misses
pub record Missing : Type 0 where
  pub token : ℕ
  pub of_type : TypeId
  pub known : Known

abbrev pub missing : ℕ → TypeId → Known → Missing
missing n t k = record { token = n; of_type = t; known = k }

abbrev pub all_missing : List Uncovered → List Missing
all_missing us = map (λ u. missing u.token u.of_type (known u.missed)) us

module _ (types : List Slot) where
  -- each pattern is on the type
  abbrev pub Fits : Switch → Type 0
  Fits s = Each (λ p. IsOn (value_head types) p s.of_type) s.patterns

  -- what coverage says of a switch
  abbrev pub Says : Switch → Coverage → Type 0
  Says s c = IsExact (value_head types) Code s.of_type s.patterns c

  -- each value of the type matches a case
  abbrev pub Covers : Switch → Type 0
  Covers s = Says s cover.Whole

  -- some value of which this is known matches no case, nor does any other of which it is known
  abbrev pub Misses : Switch → Known → Type 0
  Misses s k = Says s (cover.Misses k)

  -- of these switches just those that miss a value, in their order
  abbrev pub Selects : List Switch → List Missing → Type 0
  Selects [] [] = Unit {0}
  Selects [] (m ∷ ms) = ⊥
  Selects (s ∷ ss) [] = Covers s × Selects ss []
  Selects (s ∷ ss) (m ∷ ms) = (Covers s × Selects ss (m ∷ ms)) ⊎ ((m.token ≡ s.token) × (m.of_type ≡ s.of_type) × Misses s m.known × Selects ss ms)

-- what is found of the switches up to one, by what coverage says of it
abbrev pub with_next : ℕ → TypeId → Coverage → List Missing → List Missing
with_next n t cover.Whole ms = ms
with_next n t (cover.Misses k) ms = ms ++ missing n t k ∷ []

-- Just the switches of the program that miss a value, each with what is known of values that it misses, in the order of their first tokens.
pub record AreUncovered (p : Program) (found : List Uncovered) : Type 0 where
  pub selected : List Missing
  pub selects : Selects p.types (switches p) selected
  pub same : IsPermutation selected (all_missing found)
  pub in_order : IsNonDecreasingBy (λ (u : Uncovered). u.token) found
