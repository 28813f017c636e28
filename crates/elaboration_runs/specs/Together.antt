-- How far Core's run is where an execution of a typed program stands so, and what it is that it follows a turn of that.
use Rattle.std.specs.Prelude.{◌≡◌, ℕ, suc, ◌+◌, ◌*◌, ◌≤◌, List, [], ◌∷◌, ◌++◌, None}
use Rattle.mo_values.specs.Shapes.{Bytes}
use Rattle.core_ir.specs.Values as core_value
use Rattle.core_ir.specs.Worlds.{World, Context}
use Rattle.core_ir.specs.Executions.{End, Replies, Rejects, Over, run}
use Rattle.core_ir.specs.Executions as execution
use Rattle.core_ir.specs.Expressions.{Core}
use Rattle.core_ir.specs.CoreMachine.{Frame, Focus, Waiting, at, depth_of, core_machine}
use Rattle.mo_machine.specs.Acts.{Act, Goes, Prints, Traps, Throws}
use Rattle.mo_machine.specs.Configurations.{Configuration, live_state, moved, standing, weighed}
use Rattle.mo_machine.specs.Moves.{Move, Moved, Reduces, move}
use Rattle.mo_machine.specs.Moves as moves
use Rattle.mo_machine.specs.Reductions.{reduces}
use Rattle.elaboration_values.specs.Belonging.{Known, Belongs}
use Rattle.elaboration_steps.specs.Stacks.{WorldBelongs, Standing}
use Rattle.elaboration_steps.specs.Follows.{Start, start, rank, owed, Suits}

module _ (program : Core) (context : Context) (nodes : ℕ) where
  pub record Together (held : ℕ) (known : List Known) (c : Configuration) (w d : ℕ) (prints : List Bytes) (world : World) (f : Focus) (k : List Frame) : Type 0 where
    pub prints_are : prints ≡ c.prints
    pub light : w + held ≤ 2 * c.weight + owed c.stack
    pub shallow : d ≤ c.depth
    pub within : live_state c.focus c.stack ≤ c.depth
    pub deep : 16 + nodes + depth_of k ≤ c.depth
    pub stands : Standing program context nodes world known held c.store c.focus c.stack f k

  module _ (before : Start) (known : List Known) (w d : ℕ) (prints : List Bytes) (world : World) (f : Focus) (k : List Frame) where
    -- the run comes to where the execution stands then; it has no further step only where the rank falls
    pub record GoesOn (c : Configuration) : Type 0 where
      pub steps : ℕ
      pub weight' : ℕ
      pub depth' : ℕ
      pub prints' : List Bytes
      pub held' : ℕ
      pub known' : List Known
      pub world' : World
      pub f' : Focus
      pub k' : List Frame
      pub by : (more : ℕ) → run (core_machine program) context (steps + more) w d prints world (at program context nodes f k) ≡ run (core_machine program) context more weight' depth' prints' world' (at program context nodes f' k')
      pub falls : steps ≡ 0 → suc (rank c.focus c.stack) ≤ before.most
      pub grows : (more : List Known) × (known' ≡ known ++ more)
      pub requests : world'.requests ≡ world.requests
      pub together : Together held' known' c weight' depth' prints' world' f' k'

    -- the run is over, with what the execution printed
    pub record IsOver (c : Configuration) (end : End Waiting) : Type 0 where
      pub steps : ℕ
      pub weight' : ℕ
      pub depth' : ℕ
      pub prints' : List Bytes
      pub world' : World
      pub by : (more : ℕ) → run (core_machine program) context (steps + more) w d prints world (at program context nodes f k) ≡ Over weight' depth' prints' world' end
      pub prints_are : prints' ≡ c.prints
      pub light : weight' ≤ 2 * c.weight + owed c.stack
      pub shallow : depth' ≤ c.depth
      pub world_is : world' ≡ world

    -- a move
    abbrev pub MoveTurns : Configuration → Move → Type 0
    MoveTurns c (Moved g l) = GoesOn (standing g l c)
    MoveTurns c (moves.Ends v) = (u : core_value.Value) × Belongs known v u × IsOver c (Replies u) × WorldBelongs program.groups known context.globals c.store world
    MoveTurns c Reduces = Unit {0}

    -- what a reduction comes to; calls and waits are answered from outside
    abbrev pub ActTurns : Configuration → Act → Type 0
    ActTurns c (Goes cost store g l) = GoesOn (moved cost store g l c)
    ActTurns c (Prints cost text g l) = GoesOn (record (moved cost c.store g l c) { prints = c.prints ++ text ∷ [] })
    ActTurns c (Traps cost text) = IsOver (weighed cost c) (execution.Traps text)
    ActTurns c (Throws cost error) = (u : core_value.Value) × Belongs known error u × IsOver (weighed cost c) (Rejects u) × WorldBelongs program.groups known context.globals c.store world
    ActTurns c _ = Unit {0}

  abbrev pub TurnsFollow : Type 0
  TurnsFollow =
      (held : ℕ) (known : List Known) (c : Configuration) (w d : ℕ) (prints : List Bytes) (world : World) (f : Focus) (k : List Frame) → Together held known c w d prints world f k
      → Suits known c.focus c.stack
      → MoveTurns (start c.focus c.stack) known w d prints world f k c (move c.focus c.stack)
      × ActTurns (start c.focus c.stack) known w d prints world f k c (reduces context.head None c.store c.focus c.stack)
