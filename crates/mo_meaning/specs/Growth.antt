-- An execution only adds to what it printed and what it cost: so what a cut-off execution shows begins what it prints.
use Rattle.std.specs.Prelude.{ℕ, suc, ◌≤◌, List, Option}
use Rattle.mo_types.specs.declared.node.TypeId.{TypeId}
use Rattle.mo_types.specs.Calls.{CallTable}
use Rattle.mo_values.specs.Shapes.{Bytes}
use Rattle.mo_actor.specs.Executions.{Progress, Execution}
use Rattle.mo_actor.specs.Programs as actor
use Rattle.mo_actor.specs.Results.{IsPrefix}
use Rattle.mo_meaning.specs.Kernel.{kernel, Fields, Body, Kept}
use Rattle.mo_meaning.specs.Acts.{Given}

pub record Precedes {A : Type 0} (p q : Progress A) : Type 0 where
  pub weight : p.weight ≤ q.weight
  pub depth : p.depth ≤ q.depth
  pub prints : IsPrefix p.prints q.prints

abbrev pub Grows : {A : Type 0} → Execution A → Type 0
Grows x = (n : ℕ) → Precedes (x n) (x (suc n))

-- each execution of the program
pub record AllGrow (p : actor.Program kernel) : Type 0 where
  pub run : (own : Bytes) (table : CallTable (List TypeId) Given) (fields : Fields) (body : Body) → Grows (p.run own table fields body)
  pub start : (own : Bytes) (kept : Option Kept) → Grows (p.start own kept)
  pub save : (own : Bytes) (fields : Fields) → Grows (p.save own fields)
