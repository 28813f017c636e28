-- The steps of all bodies, and the facts of the functions.
use Rattle.std.specs.Prelude.{ℕ, ◌+◌, List, [], ◌∷◌, ◌++◌, length, map, Some, None}
use Rattle.std.specs.List.{sum_by}
use Rattle.wasm_tree.specs.declared.module_parts.Function.{Function}
use Rattle.wasm_tree.specs.declared.module_parts.Module.{Module}
use Rattle.wasm_tree.specs.Rules.{imported_signatures}
use Rattle.wasm_steps.specs.declared.step.Step.{Step}
use Rattle.wasm_steps.specs.declared.layout.FunctionLayout.{FunctionLayout}
use Rattle.wasm_layout.specs.declared.arity.Arity.{Arity}
use Rattle.wasm_layout.specs.declared.arity.Arities.{Arities}
use Rattle.wasm_layout.specs.Arities.{count_of, arity_at, of_types, of_functions}
use Rattle.wasm_layout.specs.Bodies.{body_steps, extent_of}

abbrev pub arities_of : Module → Arities
arities_of m = record { types = of_types m; functions = of_functions (of_types m) m }

abbrev pub imported_layout : List Arity → ℕ → FunctionLayout
imported_layout types signature =
    record { signature = signature; params = (arity_at types signature).params; results = count_of (arity_at types signature).result; body = None }

abbrev pub steps_at : Arities → ℕ → Function → List Step
steps_at a place f = body_steps a place (arity_at a.types f.signature).result f.body

-- A function whose steps begin at the place.
abbrev pub defined_layout : Arities → ℕ → Function → FunctionLayout
defined_layout a place f =
    record {
      signature = f.signature;
      params = (arity_at a.types f.signature).params;
      results = count_of (arity_at a.types f.signature).result;
      body = Some (record {
        entry = place;
        locals = sum_by (λ l. l.count) f.locals;
        height = (extent_of a place (arity_at a.types f.signature).result f.body).height;
        words = 8 + (arity_at a.types f.signature).params + sum_by (λ l. l.count) f.locals
            + (extent_of a place (arity_at a.types f.signature).result f.body).height + (extent_of a place (arity_at a.types f.signature).result f.body).nesting;
      });
    }

abbrev pub defined_layouts : Arities → ℕ → List Function → List FunctionLayout
defined_layouts a place [] = []
defined_layouts a place (f ∷ fs) = defined_layout a place f ∷ defined_layouts a (place + length (steps_at a place f)) fs

abbrev pub all_steps : Arities → ℕ → List Function → List Step
all_steps a place [] = []
all_steps a place (f ∷ fs) = steps_at a place f ++ all_steps a (place + length (steps_at a place f)) fs

abbrev pub all_layouts : Module → List FunctionLayout
all_layouts m = map (imported_layout (of_types m)) (imported_signatures m.imports) ++ defined_layouts (arities_of m) 0 m.functions
