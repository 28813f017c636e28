-- The steps of a body at a place.
use Rattle.std.specs.Prelude.{ℕ, ◌+◌, List, [], ◌∷◌, ◌++◌, Bool}
use Rattle.wasm_tree.specs.declared.op.Op.{Op}
use Rattle.wasm_steps.specs.declared.step.Step.{Step}
use Rattle.wasm_steps.specs.declared.step.Step.TheVariants as step
use Rattle.wasm_steps.specs.Steps.{label}
use Rattle.wasm_layout.specs.declared.arity.Arities.{Arities}
use Rattle.wasm_layout.specs.declared.pass.Body.{Body}
use Rattle.wasm_layout.specs.declared.pass.Pass.{Pass}
use Rattle.wasm_layout.specs.declared.body.Extent.{Extent}
use Rattle.wasm_layout.specs.Arities.{count_of}
use Rattle.wasm_layout.specs.Ends.{none, backs}
use Rattle.wasm_layout.specs.Passes.{advances, steps_of}

abbrev pub body_of : ℕ → Bool → List Op → Body
body_of place leaves ops = record { finish = place + (backs ops none).behind; result = leaves }

-- Before the first instruction.
abbrev pub begun_at : ℕ → Bool → List Op → Pass
begun_at place leaves ops =
    record {
      place = place;
      exits = (backs ops none).found;
      opens = record { label = label (place + (backs ops none).behind) 0 (count_of leaves); result = leaves } ∷ [];
      top = 0;
      peak = 0;
      nesting = 0;
    }

unfoldable pub ended : Arities → ℕ → Bool → List Op → Pass
ended a place leaves ops = advances a (body_of place leaves ops) ops (begun_at place leaves ops)

unfoldable pub body_steps : Arities → ℕ → Bool → List Op → List Step
body_steps a place leaves ops = steps_of a (body_of place leaves ops) ops (begun_at place leaves ops) ++ step.Finish ∷ []

abbrev pub extent_of : Arities → ℕ → Bool → List Op → Extent
extent_of a place leaves ops = record { height = (ended a place leaves ops).peak; nesting = (ended a place leaves ops).nesting }
