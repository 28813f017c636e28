-- Methods by their names: Motoko language manual, section "Shared functions".
use Rattle.std.specs.Prelude.{Bool, ◌&&◌, cond, not}
use Rattle.std.specs.Str.{bytes_eq}
use Rattle.mo_values.specs.Shapes.{Bytes}
use Rattle.typed_tree.specs.declared.program.Method.{Method as Written}
use Rattle.typed_tree.specs.ProgramView.{is_query}
use Rattle.typed_tree.specs.Programs.{Method}
use Rattle.mo_meaning.specs.Kernel.{Entry}
use Rattle.arena_events.specs.declared.methods.Found.{Found}

abbrev pub entry_of : Found → Entry
entry_of f = record { place = f.place; parameters = f.parameters.now; results = f.results.now }

abbrev pub query_of : Written → Bool
query_of m = is_query m.function.sort

abbrev pub is_method : (query : Bool) → (name : Bytes) → Method → Bool
is_method query name m = bytes_eq m.name name && cond query m.query (not m.query)
