-- A table of routines: a line for each function says what it asks for and what it does. A routine that is reached through so many
-- calls has lines of that level, which rest on those of the level below.
use Rattle.std.specs.Prelude.{◌≡◌, ◌+◌, ◌≤◌, ℕ, suc, List, Bool, true, Option, Some, None}
use Rattle.wasm_tree.specs.declared.trap.Trap.TheVariants as trap
use Rattle.wasm_tree.specs.declared.types.FunctionType.{FunctionType}
use Rattle.wasm_tree.specs.Exec.{Store, Host, HostAnswer, Answers, Refuses}
use Rattle.low_ir.specs.Tree.{Function, Module}
use Rattle.low_ir.specs.Numbering.{type_of, defined}
use Rattle.low_ir.specs.Frames.{words, enter}
use Rattle.low_rules.specs.Rule.{CallEnd, Comes, Dies, Contracts, Before, ComesTo, begins, ends}

-- What is asked at a level of a function, its store and its arguments; what holds of how it ends; and the stack words that suffice
-- for the calls of a level.
pub record Table (World : Type 0) : Type 1 where
  pub Asks : ℕ → ℕ → Store World → List ℕ → Type 0
  pub Does : ℕ → ℕ → Store World → List ℕ → CallEnd World → Type 0
  pub words : ℕ → ℕ

-- The lines of a level, as what has to hold before a call.
abbrev pub line : {World : Type 0} → Table World → ℕ → Contracts World
line {World = World} table level f store args q = table.Asks level f store args × ((end : CallEnd World) → table.Does level f store args end → q end)

-- How the host's function ends.
abbrev pub host_end : {World : Type 0} → Store World → HostAnswer World → CallEnd World
host_end store (Answers value memory world) = Comes 0 (record { memory = memory; globals = store.globals; table = store.table; refused = store.refused; world = world }) value
host_end store (Refuses world) = Dies trap.Host 0 (record { memory = store.memory; globals = store.globals; table = store.table; refused = store.refused; world = world })

-- A routine's body does what its line says, where those that it calls do what theirs say, and its frame and theirs have room.
pub record KeepsLine {World : Type 0} (pages : ℕ) (m : Module) (table : Table World) (level f : ℕ) (t : FunctionType) (fn : Function) (store : Store World) (args : List ℕ) : Type 0 where
  pub room : words t fn + table.words level ≤ table.words (suc level)
  pub body : Before pages m (line table level) fn.body (ends t (table.Does (suc level) f store args)) (begins fn store args)

-- What is asked of a function, by whether the module defines it.
abbrev pub Keeps : {World : Type 0} → ℕ → Module → Host World → Table World → ℕ → ℕ → Store World → List ℕ → Option FunctionType → Option Function → Type 0
Keeps pages m host table level f store args None found = ⊥
Keeps pages m host table level f store args (Some t) None = table.Does (suc level) f store args (host_end store (host f args store.memory store.world))
Keeps pages m host table level f store args (Some t) (Some fn) = KeepsLine pages m table level f t fn store args

-- Nothing is asked of level 0, and each line of a further level is kept.
pub record TableIsKept {World : Type 0} (pages : ℕ) (m : Module) (host : Host World) (table : Table World) : Type 0 where
  pub none : (f : ℕ) (store : Store World) (args : List ℕ) → table.Asks 0 f store args → ⊥
  pub kept : (level f : ℕ) (store : Store World) (args : List ℕ) → table.Asks (suc level) f store args → Keeps pages m host table level f store args (type_of m f) (defined m f)

-- A table of tests.
abbrev pub tested : {World : Type 0} → (ℕ → ℕ → Store World → List ℕ → Bool) → (ℕ → ℕ → Store World → List ℕ → CallEnd World → Bool) → (ℕ → ℕ) → Table World
tested asks does words = record { Asks = λ level f store args. asks level f store args ≡ true; Does = λ level f store args end. does level f store args end ≡ true; words = words }

-- Each call of a level, with a greater depth and with room for its words, ends with its steps as its line says: with a result or
-- with a trap, and with the store that the line tells.
abbrev pub LinesAreMet : Type 0 → Type 0
LinesAreMet World =
    (asks : ℕ → ℕ → Store World → List ℕ → Bool) (does : ℕ → ℕ → Store World → List ℕ → CallEnd World → Bool) (words : ℕ → ℕ) (pages : ℕ) (m : Module) (host : Host World) → TableIsKept pages m host (tested asks does words)
    → (level deep room : ℕ) → level ≤ deep → words level ≤ room → (f : ℕ) (store : Store World) (args : List ℕ) → asks level f store args ≡ true
    → ComesTo (enter deep pages m host room) f store args (λ end. does level f store args end ≡ true)
