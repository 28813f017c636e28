-- What `build` compiles, and what it writes.
use Rattle.std.specs.Prelude.{◌≡◌, ⊤, ℕ, List, Option, Some, None}
use Rattle.outer.specs.Names.{NameMap}
use Rattle.query_source.specs.declared.query.Method.{Method}
use Rattle.query_source.specs.Source.{IsSource}
use Rattle.mo_actor.specs.Programs.{Program}
use Rattle.query_module.specs.Program.{queries, IsProgramOf}
use Rattle.query_module.specs.Answers.{IsBuiltOf}

-- The source is that of an actor of constant queries.
abbrev pub IsAccepted : List ℕ → Type 0
IsAccepted source = (methods : List Method) × IsSource methods source

-- And this is the program of that actor.
abbrev pub Accepts : List ℕ → Program queries → Type 0
Accepts source p = (methods : List Method) × IsSource methods source × IsProgramOf methods p

-- The bytes are a valid module that does what the actor of the source's program does.
pub record IsModuleOf (source bytes : List ℕ) : Type 0 where
  pub methods : List Method
  pub spelled : IsSource methods source
  pub built : IsBuiltOf methods bytes

-- SRC held a source, and OUT holds its module, where it is told what names hold.
abbrev pub Built : Option NameMap → Option NameMap → List ℕ → List ℕ → Type 0
Built None None src out = ⊤
Built (Some old) (Some new) src out = (source : List ℕ) × (bytes : List ℕ) × (old src ≡ Some source) × (new out ≡ Some bytes) × IsModuleOf source bytes
Built None (Some new) src out = ⊥
Built (Some old) None src out = ⊥
