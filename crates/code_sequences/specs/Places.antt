-- A place in an execution of low code, as data, and what it stands for: the rest of the execution.
use Rattle.std.specs.Prelude.{ℕ, List, [], ◌∷◌, Option}
use Rattle.wasm_tree.specs.declared.types.FunctionType.{FunctionType}
use Rattle.wasm_tree.specs.Exec.{Host, Store}
use Rattle.low_ir.specs.Tree.{Code, Module}
use Rattle.low_ir.specs.Meaning.{Called, Calls, Outcome, onward, again, turns, on_return, result_to, run}
use Rattle.low_ir.specs.Frames.{finish, enter}

-- What stands around code: a construct after which more comes, and a loop with so many turns that are left.
pub data Around : Type 0 where
  After : (rest : Code) → Around
  Turning : (most : ℕ) → (body rest : Code) → Around

-- What waits for the end of a call. Its calls go so deep and have so much room.
pub record Caller : Type 0 where
  pub deep : ℕ
  pub room : ℕ
  pub type : FunctionType
  pub to : Option ℕ
  pub rest : Code
  pub locals : List ℕ
  pub around : List Around

pub record Place (World : Type 0) : Type 0 where
  pub code : Code
  pub left : ℕ
  pub store : Store World
  pub locals : List ℕ
  pub around : List Around
  pub deep : ℕ
  pub room : ℕ
  pub type : FunctionType
  pub callers : List Caller

module _ {World : Type 0} (pages : ℕ) (m : Module) (host : Host World) where
  abbrev pub calls_of : ℕ → ℕ → Calls World
  calls_of deep room = enter deep pages m host room

  abbrev pub resume : Calls World → List Around → Outcome World → Outcome World
  resume calls [] o = o
  resume calls (After rest ∷ around) o = resume calls around (onward o (run pages m calls rest))
  resume calls (Turning most body rest ∷ around) o = resume calls around (onward (again o (turns most (run pages m calls body))) (run pages m calls rest))

  abbrev pub whole : List Caller → Called World → Called World
  whole [] o = o
  whole (c ∷ callers) o =
      whole callers (finish c.type (resume (calls_of c.deep c.room) c.around (on_return c.locals o (λ s v. result_to c.to s v (run pages m (calls_of c.deep c.room) c.rest)))))

  -- how the execution goes on with what code came to
  abbrev pub closes : Place World → Outcome World → Called World
  closes c o = whole c.callers (finish c.type (resume (calls_of c.deep c.room) c.around o))

  abbrev pub rest_of : Place World → Called World
  rest_of c = closes c (run pages m (calls_of c.deep c.room) c.code (record { left = c.left; store = c.store; locals = c.locals }))
