-- The law, as a statement.
use Rattle.std.specs.Prelude.{◌≡◌, ℕ, List, length, map, Option, Some, true, slice_get}
use Rattle.core_ir.specs.Values.{Value}
use Rattle.core_ir.specs.Programs.{Method}
use Rattle.core_ir.specs.Code.{Body, CodeProgram}
use Rattle.core_ir.specs.Formed.{FormedFlat, sees_at, global_count}
use Rattle.low_ir.specs.declared.module_parts.LowExport.{LowExport}
use Rattle.low_ir.specs.Tree.{Function, Module}
use Rattle.low_ir.specs.Numbering.{upto}
use Rattle.low_emit.specs.Modules.{Routine, plan, link, first_body, all_bodies, number_of_method, number_of_start, module_with}
use Rattle.low_emit.specs.Emittable.{is_emittable}
use Rattle.emitted_steps.specs.Modules.{FunctionsAre}
use Rattle.emitted_runs.specs.Bodies.{BodyAt}

-- the table as an execution finds it
abbrev pub first_table : CodeProgram → List Routine → ℕ → List (Option ℕ)
first_table p more own = map Some (upto (first_body p more own) (all_bodies p.groups))

-- The functions of what the actor is entered by: its methods and its start.
pub record EntriesStand (p : CodeProgram) (more : List Routine) (own : ℕ) (globals : List Value) (m : Module) : Type 0 where
  pub methods : (i : ℕ) (method : Method Body) → slice_get p.methods i ≡ Some method → BodyAt (plan p more own) (link p more own) (first_table p more own) (sees_at p.groups) globals m 0 0 method.body
  pub start : BodyAt (plan p more own) (link p more own) (first_table p more own) (sees_at p.groups) globals m 0 0 p.start
  pub method_numbers : (i : ℕ) (method : Method Body) (e : slice_get p.methods i ≡ Some method) → (methods i method e).number ≡ number_of_method p more own i
  pub start_number : start.number ≡ number_of_start p more own

abbrev pub FunctionsStand : Type 0
FunctionsStand =
    (p : CodeProgram) (more : List Routine) (own : ℕ) → FormedFlat own p → is_emittable p more own ≡ true → (globals : List Value) → length globals ≡ global_count p own → (entries : List Function) (exports : List LowExport)
    → FunctionsAre (plan p more own) (link p more own) (first_table p more own) (sees_at p.groups) globals (module_with p more own entries exports) p
    × EntriesStand p more own globals (module_with p more own entries exports)
