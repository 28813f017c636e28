-- The laws, as statements.
use Rattle.std.specs.Prelude.{◌≡◌, ℕ, ◌+◌, ◌*◌, ◌≤◌, ◌^◌, List, length, Some, slice_get, true, suc, ◌<◌, ◌≢◌, map, AllPairs}
use Rattle.std.specs.List.{AllByRecursion}
use Rattle.core_ir.specs.Programs.{Group}
use Rattle.core_ir.specs.Code.{Body, CodeProgram}
use Rattle.core_ir.specs.CodeMachine.{first_of}
use Rattle.core_ir.specs.Formed.{FormedFlat}
use Rattle.core_ir.specs.FormedCode.{most_of, most_operands}
use Rattle.low_ir.specs.declared.module_parts.LowExport.{LowExport}
use Rattle.low_ir.specs.Tree.{Function, Module}
use Rattle.low_ir.specs.Numbering.{all_types, all_signatures}
use Rattle.low_ir.specs.Formed.{FunctionIsFormed, TypeIsFormed, ExportIsFormed, most_bytes, ModuleIsFormed}
use Rattle.flat_emission.specs.Emission.{here_of}
use Rattle.operation_forms.specs.Laws.{TrapsFit}
use Rattle.emission_forms.specs.Spelled.{Spelled}
use Rattle.low_emit.specs.Emittable.{is_emittable}
use Rattle.low_emit.specs.Modules.{Routine, plan, link, traps, base, heap_begin, most_arity, module_with}
use Rattle.module_forms.specs.Tests.{is_small}

-- A routine is formed in a module that has its type.
abbrev pub RoutineIsFormed : Module → Routine → Type 0
RoutineIsFormed m r = (signature : ℕ) → slice_get (all_types m) signature ≡ Some r.type → FunctionIsFormed m (r.function signature)

module _ (p : CodeProgram) (more : List Routine) (own : ℕ) where
  -- What is asked of a body, of a group of so many functions.
  pub record BodyIsSpelled (members : ℕ) (b : Body) : Type 0 where
    pub parameters : b.parameters ≤ b.slots
    pub few : b.parameters ≤ most_arity p
    pub short : b.slots + most_of most_operands b.segments ≤ 49000
    pub code : Spelled (plan p more own) (link p more own) (most_arity p) (here_of members b) 0 (first_of b.segments)

  pub record IsSpelled : Type 0 where
    pub traps : TrapsFit (traps p more own)
    pub texts : 8 * base p more own ≤ 2 ^ 31
    pub groups : AllByRecursion (λ (g : Group Body). AllByRecursion (BodyIsSpelled (length g.bodies)) g.bodies) p.groups
    pub methods : AllByRecursion (λ m. BodyIsSpelled 0 m.body) p.methods
    pub start : BodyIsSpelled 0 p.start

-- The functions of the module of a program whose literals and offsets can be spelled are formed, where its further routines and entries
-- are.
abbrev pub FunctionsAreFormed : Type 0
FunctionsAreFormed =
    (p : CodeProgram) (more : List Routine) (own : ℕ) (entries : List Function) (exports : List LowExport) → IsSpelled p more own
    → AllByRecursion (RoutineIsFormed (module_with p more own entries exports)) more → AllByRecursion (FunctionIsFormed (module_with p more own entries exports)) entries
    → AllByRecursion (FunctionIsFormed (module_with p more own entries exports)) (module_with p more own entries exports).functions

-- What is asked of numbers and sizes in it.
pub record IsSmall (p : CodeProgram) (more : List Routine) (own : ℕ) (m : Module) : Type 0 where
  pub memory : 8 * heap_begin p more own < 2 ^ 31
  pub arity : suc (most_arity p) ≤ 50000
  pub types : length m.types ≤ 100000
  pub functions : length (all_signatures m) ≤ 100000
  pub entries : length m.table ≤ 100000
  pub short : most_bytes m ≤ 67108864

-- So the module is formed, where its exports are, by names that differ.
abbrev pub ModulesAreFormed : Type 0
ModulesAreFormed =
    (p : CodeProgram) (more : List Routine) (own : ℕ) (entries : List Function) (exports : List LowExport) → IsSpelled p more own → IsSmall p more own (module_with p more own entries exports)
    → AllByRecursion (RoutineIsFormed (module_with p more own entries exports)) more → AllByRecursion (λ r. TypeIsFormed r.type) more → AllByRecursion (FunctionIsFormed (module_with p more own entries exports)) entries
    → AllByRecursion (ExportIsFormed (module_with p more own entries exports)) exports → AllPairs (λ a b. a ≢ b) (map (λ e. e.name) exports) → ModuleIsFormed (module_with p more own entries exports)

-- A formed program that is treated and small is spelled.
abbrev pub ProgramsAreSpelled : Type 0
ProgramsAreSpelled = (p : CodeProgram) (more : List Routine) (own : ℕ) → FormedFlat own p → is_emittable p more own ≡ true → is_small p more own ≡ true → IsSpelled p more own

-- Its module is small, where its further routines and entries are few, and bytes enough spell it.
abbrev pub ProgramsAreSmall : Type 0
ProgramsAreSmall =
    (p : CodeProgram) (more : List Routine) (own : ℕ) (entries : List Function) (exports : List LowExport) → FormedFlat own p → is_small p more own ≡ true → length more + length entries ≤ 900 → most_bytes (module_with p more own entries exports) ≤ 67108864
    → IsSmall p more own (module_with p more own entries exports)
