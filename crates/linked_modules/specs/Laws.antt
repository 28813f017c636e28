-- The laws, as statements.
use Rattle.std.specs.Prelude.{◌≡◌, ℕ, ◌*◌, ◌<◌, ◌≤◌, List, [], ◌∷◌, true}
use Rattle.core_ir.specs.Code.{CodeProgram}
use Rattle.low_ir.specs.declared.module_parts.LowExport.{LowExport}
use Rattle.low_ir.specs.Tree.{Function}
use Rattle.low_execution.specs.Host.{low_host}
use Rattle.low_execution.specs.Loading.{first_instance}
use Rattle.memory_routines.specs.Heaps.{pages_for, HoldsBytes}
use Rattle.heap_layout.specs.Words.{word_at}
use Rattle.heap_layout.specs.Heaps.{Holds}
use Rattle.operation_lines.specs.Linked.{Linked}
use Rattle.operation_lines.specs.Laws.{operation_steps}
use Rattle.emitted_steps.specs.Operations.{AllKeep, AllocationKeeps}
use Rattle.emitted_modules.specs.Laws.{first_table}
use Rattle.limited_runs.specs.Shown.{told, fell}
use Rattle.low_emit.specs.Texts.{texts_of, memory_of}
use Rattle.low_emit.specs.Modules.{Routine, plan, link, links, base, heap_begin, module_with}
use Rattle.low_emit.specs.Emittable.{is_emittable}
use Rattle.linked_modules.specs.Begun.{begun_ghost, first_world}

abbrev pub ModulesAreLinked : Type 0
ModulesAreLinked =
    (p : CodeProgram) (more : List Routine) (own : ℕ) (entries : List Function) (exports : List LowExport) (pages : ℕ) → pages ≤ 65535
    → Linked (plan p more own) pages (65536 * pages) (module_with p more own entries exports) (links p more own)

abbrev pub PrimitivesAreKept : Type 0
PrimitivesAreKept =
    (p : CodeProgram) (more : List Routine) (own : ℕ) (entries : List Function) (exports : List LowExport) (pages : ℕ) → pages ≤ 65535
    → AllKeep (plan p more own) told fell operation_steps p.head pages (65536 * pages) (module_with p more own entries exports) low_host (link p more own)
    × AllocationKeeps pages (module_with p more own entries exports) low_host (link p more own)

-- What a module begins with: its memory holds a world in which nothing was made, its global is the heap's end, and its table is that of
-- its functions.
pub record Begins (p : CodeProgram) (more : List Routine) (own : ℕ) (entries : List Function) (exports : List LowExport) : Type 0 where
  pub holds : Holds (plan p more own) (begun_ghost p more own) first_world (first_instance (module_with p more own entries exports)).memory (pages_for (8 * heap_begin p more own)) (heap_begin p more own)
  pub globals : (first_instance (module_with p more own entries exports)).globals ≡ 8 * heap_begin p more own ∷ []
  pub table : (first_instance (module_with p more own entries exports)).table ≡ first_table p more own
  pub names : (i : ℕ) → base p more own ≤ i → i < heap_begin p more own → word_at (first_instance (module_with p more own entries exports)).memory i ≡ 0

-- Where the texts are bytes.
abbrev pub MemoriesBegin : Type 0
MemoriesBegin =
    (p : CodeProgram) (more : List Routine) (own : ℕ) → is_emittable p more own ≡ true → HoldsBytes (memory_of (texts_of p)) → (entries : List Function) (exports : List LowExport) → Begins p more own entries exports
