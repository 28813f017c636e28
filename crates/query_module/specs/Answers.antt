-- What bytes are a module of an actor of constant queries: one that does what the actor does.
use Rattle.std.specs.Prelude.{◌≢◌, ℕ, ◌<◌, ◌≤◌, ◌^◌, List, length}
use Rattle.std.specs.List.{AllByRecursion, AllPairs}
use Rattle.query_source.specs.Words.{IsName}
use Rattle.query_source.specs.declared.query.Method.{Method}
use Rattle.wasm_tree.specs.declared.module_parts.Module.{Module}
use Rattle.wasm_tree.specs.Binary.{Written}
use Rattle.wasm_tree.specs.Valid.{ValidModule}
use Rattle.mo_actor.specs.Programs.{Program}
use Rattle.query_module.specs.Program.{queries, IsProgramOf, QueryRefines}

-- The bytes spell a valid module that does what the actor of the program does, and are no more than a host reads.
pub record IsBuilt (p : Program queries) (bytes : List ℕ) : Type 0 where
  pub short : length bytes ≤ 67108864
  pub tree : Module
  pub written : Written tree bytes
  pub valid : ValidModule tree
  pub refines : QueryRefines p tree

-- They are so for the program of the methods.
abbrev pub IsBuiltOf : List Method → List ℕ → Type 0
IsBuiltOf methods bytes = (p : Program queries) × IsProgramOf methods p × IsBuilt p bytes

-- What a list of methods has that a source spells.
pub record AreQueries (methods : List Method) : Type 0 where
  pub few : length methods ≤ 1000
  pub named : AllByRecursion (λ m. IsName m.name × (m.number < 2 ^ 63)) methods
  pub differ : AllPairs (λ m n. m.name ≢ n.name) methods
