-- What the tests of a `switch` choose: the first pattern that matches (Motoko language manual, section "Switch").
use Rattle.std.specs.Prelude.{◌≡◌, ℕ, suc, ◌+◌, ◌≤◌, List, [], ◌∷◌, length, Option, Some, None}
use Rattle.mo_values.specs.Shapes.{Shape}
use Rattle.typed_tree.specs.Patterns.{Pat, matches, pattern_nodes}
use Rattle.pattern_elab.specs.declared.decision.Target.{Target}
use Rattle.pattern_elab.specs.declared.decision.Target.TheVariants as to
use Rattle.pattern_elab.specs.declared.decision.Tests.{Tests}
use Rattle.pattern_elab.specs.Deciding.{Leads, IsBelow, AreOrdered}
use Rattle.pattern_elab.specs.Making.{begun, all_made, started}
use Rattle.pattern_elab.specs.Suiting.{Suits}

abbrev pub chosen : {V : Type 0} → ℕ → Option V → Target → Target
chosen n None later = later
chosen n (Some vs) later = to.Chosen n

-- the first of the patterns from number n on that matches
abbrev pub first_match : {F : Type 0} → ℕ → List Pat → Shape F → Target
first_match n [] v = to.Nothing
first_match n (p ∷ ps) v = chosen n (matches p v) (first_match (suc n) ps v)

abbrev pub SuitEach : {F : Type 0} → List Pat → Shape F → Type 0
SuitEach [] v = Unit {0}
SuitEach (p ∷ ps) v = Suits p v × SuitEach ps v

-- the tests that are made of these patterns
abbrev pub IsMade : List Pat → Tests → Type 0
IsMade ps made = begun made.start (record { places = made.places; tests = made.tests }) ≡ all_made ps 0 started

abbrev pub Chooses : (F : Type 0) → List Pat → Tests → Type 0
Chooses F ps made = (v : Shape F) → SuitEach ps v → Leads made.places made.tests v made.start (first_match 0 ps v)

abbrev pub IsOrdered : Tests → Type 0
IsOrdered made = AreOrdered 0 made.tests × IsBelow (length made.tests) made.start

abbrev pub all_nodes : List Pat → ℕ
all_nodes [] = 0
all_nodes (p ∷ ps) = pattern_nodes p + all_nodes ps

-- at most one test for each node
abbrev pub IsSmall : List Pat → Tests → Type 0
IsSmall ps made = length made.tests ≤ all_nodes ps
