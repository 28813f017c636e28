-- The rows of cases and values whose answers are known, as the tests of a `switch` meet them.
use Rattle.std.specs.Prelude.{List, [], ◌∷◌, ◌⊎◌, Option, Some, None, codes}
use Rattle.mo_values.specs.Rows.{nat, null, some, tuple}
use Rattle.mo_values.specs.Shapes.{Shape}
use Rattle.typed_tree.specs.Patterns.{Pat, Bind, Parts}
use Rattle.typed_tree.specs.PatternView.{pats}
use Rattle.typed_tree.specs.PatternRows.{Row, Chosen, options, deep, payloads, people, person, tagged}
use Rattle.pattern_elab.specs.declared.decision.Target.{Target}
use Rattle.pattern_elab.specs.declared.decision.Target.TheVariants as to
use Rattle.pattern_elab.specs.Cases.{first_match, SuitEach}
use Rattle.pattern_elab.specs.Suiting.{Suits}

abbrev pub one_part : Pat
one_part = Parts (pats (Bind ∷ []))

-- cases on a value of their type: an option, a pair, a variant, an object
abbrev pub AllSuit : Type 0
AllSuit =
    SuitEach options (some (some (nat 5))) × SuitEach deep (tuple (null ∷ nat 2 ∷ [])) × SuitEach payloads (tagged (codes "e") (tuple (nat 5 ∷ nat 6 ∷ [])))
    × SuitEach people (person (codes "a") 7)

-- and on no value of it: a tuple of two, and no tuple
abbrev pub SomeSuits : Type 0
SomeSuits = Suits one_part (tuple (nat 1 ∷ nat 2 ∷ [])) ⊎ Suits one_part (nat 1)

abbrev pub targets : List Row → List Target
targets [] = []
targets (r ∷ rs) = first_match 0 r.cases r.value ∷ targets rs

abbrev pub target_of : Option Chosen → Target
target_of None = to.Nothing
target_of (Some c) = to.Chosen c.number

abbrev pub wanted_targets : List Row → List Target
wanted_targets [] = []
wanted_targets (r ∷ rs) = target_of r.answer ∷ wanted_targets rs
