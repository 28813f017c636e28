-- The heap of a module before anything ran.
use Rattle.std.specs.Prelude.{ℕ, List, [], nat_lt, cond}
use Rattle.core_ir.specs.Worlds.{World}
use Rattle.core_ir.specs.Code.{CodeProgram}
use Rattle.heap_layout.specs.Ghosts.{Owner, Free, Fixed, Inner, Ghost, first_ghost}
use Rattle.low_emit.specs.Modules.{Routine, base, heap_begin}

-- Texts never change, and the words of names are the run time's own until these have values.
abbrev pub first_owner : CodeProgram → List Routine → ℕ → ℕ → Owner
first_owner p more own i = cond (nat_lt i (base p more own)) Fixed (cond (nat_lt i (heap_begin p more own)) Inner Free)

abbrev pub begun_ghost : CodeProgram → List Routine → ℕ → Ghost
begun_ghost p more own = first_ghost (first_owner p more own)

abbrev pub first_world : World
first_world = record { store = []; groups = []; requests = [] }
