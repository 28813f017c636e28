-- What it is that ways are runs: so many steps of Core's machine lead on with this weight, depth and prints, whatever follows.
use Rattle.std.specs.Prelude.{◌≡◌, ℕ, ◌+◌, ◌*◌, ◌≤◌, max, Bool, true, false, List, ◌++◌}
use Rattle.mo_values.specs.Shapes.{Bytes}
use Rattle.core_ir.specs.Worlds.{World, Context}
use Rattle.core_ir.specs.Executions.{End, Over, run}
use Rattle.core_ir.specs.Expressions.{Core}
use Rattle.core_ir.specs.CoreMachine.{Frame, Focus, Waiting, at, depth_of, core_machine}
use Rattle.elaboration_steps.specs.Follows.{Start, Leads, Stops}

abbrev pub least : Bool → ℕ
least true = 1
least false = 0

module _ (program : Core) (context : Context) (nodes : ℕ) where
  abbrev pub deep : List Frame → ℕ
  deep k = 16 + nodes + depth_of k

  -- from a run with this weight, depth and prints
  pub record Runs (some weight levels : ℕ) (out : List Bytes) (w d : ℕ) (prints : List Bytes) (world : World) (f : Focus) (k : List Frame) (world' : World) (g : Focus) (l : List Frame) : Type 0 where
    pub steps : ℕ
    pub weight' : ℕ
    pub depth' : ℕ
    pub prints' : List Bytes
    pub by : (more : ℕ) → run (core_machine program) context (steps + more) w d prints world (at program context nodes f k) ≡ run (core_machine program) context more weight' depth' prints' world' (at program context nodes g l)
    pub enough : some ≤ steps
    pub heavy : weight' ≤ w + weight
    pub within : depth' ≤ max d (max (deep k + 16 * levels) (deep l))
    pub shown : prints' ≡ prints ++ out

  -- it ends so, where values with so many levels are gone through on the way, and at the end
  pub record Finishes (weight through last_levels : ℕ) (w d : ℕ) (prints : List Bytes) (world : World) (f : Focus) (k last : List Frame) (end : End Waiting) : Type 0 where
    pub steps : ℕ
    pub weight' : ℕ
    pub depth' : ℕ
    pub prints' : List Bytes
    pub by : (more : ℕ) → run (core_machine program) context (steps + more) w d prints world (at program context nodes f k) ≡ Over weight' depth' prints' world end
    pub heavy : weight' ≤ w + weight
    pub within : depth' ≤ max d (max (deep k + 16 * through) (deep last + 16 * last_levels))
    pub shown : prints' ≡ prints

  abbrev pub WaysAreRuns : Type 0
  WaysAreRuns =
      (moved : Bool) (weight levels : ℕ) (out : List Bytes) (world : World) (f : Focus) (k : List Frame) (world' : World) (g : Focus) (l : List Frame) → Leads program context nodes moved weight levels out world f k world' g l
      → (w d : ℕ) (prints : List Bytes) → Runs (least moved) weight levels out w d prints world f k world' g l

  abbrev pub StopsAreRuns : Type 0
  StopsAreRuns =
      (before : Start) (spent total levels : ℕ) (world : World) (f : Focus) (k : List Frame) (end : End Waiting) (r : Stops program context nodes before spent total levels world f k end)
      → (w d : ℕ) (prints : List Bytes) (weight : ℕ) → total ≤ spent + weight → Finishes weight r.through r.cost.levels w d prints world f k r.ck' end
