-- The tests that are made of patterns: behind those that stand, and so that what comes next is made before.
use Rattle.std.specs.Prelude.{ℕ, suc, List, [], ◌∷◌, ◌++◌, length}
use Rattle.mo_values.specs.Shapes.{Bytes}
use Rattle.typed_tree.specs.Patterns.{Pat, Pats, Wildcard, Bind, Constant, Present?, Tagged, Parts, Fields, Either, NoPat, APat}
use Rattle.pattern_elab.specs.declared.decision.Place.{Place}
use Rattle.pattern_elab.specs.declared.decision.Place.TheVariants as place
use Rattle.pattern_elab.specs.declared.decision.Question.{Question}
use Rattle.pattern_elab.specs.declared.decision.Question.TheVariants as ask
use Rattle.pattern_elab.specs.declared.decision.Target.{Target}
use Rattle.pattern_elab.specs.declared.decision.Target.TheVariants as to
use Rattle.pattern_elab.specs.declared.making.State.{State}

-- what is made, and where it begins
pub record Begun : Type 0 where
  pub entry : Target
  pub state : State

abbrev pub begun : Target → State → Begun
begun t s = record { entry = t; state = s }

abbrev pub with_place : Place → State → State
with_place p s = record { places = s.places ++ p ∷ []; tests = s.tests }

abbrev pub asked : ℕ → Question → Target → Begun → Begun
asked k q fails b = begun (to.Test (length b.state.tests)) (record { places = b.state.places; tests = b.state.tests ++ (record { place = k; question = q; holds = b.entry; fails = fails }) ∷ [] })

abbrev mutual
  -- of a pattern on the part at place k
  pub made_of : Pat → ℕ → Target → Target → State → Begun
  made_of Wildcard k holds fails s = begun holds s
  made_of Bind k holds fails s = begun holds s
  made_of (Constant c) k holds fails s = asked k (ask.Equals c) fails (begun holds s)
  made_of (Present? p) k holds fails s = asked k ask.Present fails (made_of p (length s.places) holds fails (with_place (place.Inside k) s))
  made_of (Tagged l p) k holds fails s = asked k (ask.Tag l) fails (made_of p (length s.places) holds fails (with_place (place.Payload k) s))
  made_of (Parts ps) k holds fails s = parts_made ps 0 k fails (begun holds s)
  made_of (Fields ls ps) k holds fails s = fields_made ls ps k fails (begun holds s)
  made_of (Either p q) k holds fails s =
      let b : Begun = made_of q k holds fails s in
      made_of p k holds b.entry b.state

  -- the parts from number i on
  pub parts_made : Pats → ℕ → ℕ → Target → Begun → Begun
  parts_made NoPat i k fails b = b
  parts_made (APat p ps) i k fails b = parts_made ps (suc i) k fails (made_of p (length b.state.places) b.entry fails (with_place (place.Part k i) b.state))

  pub fields_made : List Bytes → Pats → ℕ → Target → Begun → Begun
  fields_made [] ps k fails b = b
  fields_made (l ∷ ls) NoPat k fails b = b
  fields_made (l ∷ ls) (APat p ps) k fails b = fields_made ls ps k fails (made_of p (length b.state.places) b.entry fails (with_place (place.Field k l) b.state))

-- of all patterns from number n on, which stand on the whole value
abbrev pub all_made : List Pat → ℕ → State → Begun
all_made [] n s = begun to.Nothing s
all_made (p ∷ ps) n s = before (all_made ps (suc n) s)
  where
    before : Begun → Begun
    before b = made_of p 0 (to.Chosen n) b.entry b.state

abbrev pub started : State
started = record { places = place.Whole ∷ []; tests = [] }
