-- Machines that run step by step, and how an execution of an actor enters them and ends.
use Rattle.std.specs.Prelude.{ℕ, zero, suc, ◌+◌, ◌*◌, Bool, List, [], ◌++◌, max, Option}
use Rattle.mo_values.specs.Costs.{Cost}
use Rattle.mo_values.specs.Shapes.{Bytes}
use Rattle.core_ir.specs.Values.{Value}
use Rattle.core_ir.specs.Worlds.{Given, World, Context}

-- how it enters, where W is what waits
pub data Entry (W : Type 0) : Type 0 where
  -- a method, by its place, with its caller and its arguments
  Begins : (method : ℕ) → (caller : Bytes) → (arguments : List Value) → Entry W
  -- what waited, with what its call was answered with
  Resumes : (waiting : W) → (given : Given) → Entry W
  Saves : Entry W
  -- with what was kept of each stable variable, as an option, and whether this is an upgrade
  Starts : (kept : List Value) → (upgraded : Bool) → Entry W

pub data End (W : Type 0) : Type 0 where
  Replies : (v : Value) → End W
  Rejects : (error : Value) → End W
  -- on the call of this number, or on none
  Waits : (on : Option ℕ) → (waiting : W) → End W
  Traps : (text : Bytes) → End W
  -- an operand had another form than its place asks for
  Breaks : End W

-- a step goes on in a state or ends, with what it costs and prints
pub data Step (S W : Type 0) : Type 0 where
  Go : (cost : Cost) → (prints : List Bytes) → (world : World) → (s : S) → Step S W
  Ends : (cost : Cost) → (prints : List Bytes) → (world : World) → (end : End W) → Step S W

-- so much more in weight
abbrev pub costing : ℕ → Cost → Cost
costing n cost = record { weight = n + cost.weight; levels = cost.levels }

abbrev pub heavier : {S W : Type 0} → ℕ → Step S W → Step S W
heavier n (Go cost prints world s) = Go (costing n cost) prints world s
heavier n (Ends cost prints world end) = Ends (costing n cost) prints world end

-- how a run stands after some steps: its weight and greatest depth, and what it printed so far
pub data Stand (S W : Type 0) : Type 0 where
  Still : (weight depth : ℕ) → (prints : List Bytes) → (world : World) → (s : S) → Stand S W
  Over : (weight depth : ℕ) → (prints : List Bytes) → (world : World) → (end : End W) → Stand S W

-- a language's machine for a program: depth is that of the bodies that were entered and not left
pub record Machine (S W : Type 0) : Type 0 where
  pub enters : Context → World → Entry W → Step S W
  pub step : Context → World → S → Step S W
  pub depth : S → ℕ

-- values that are gone through stand on top of the bodies
abbrev pub deep_with : ℕ → Cost → ℕ
deep_with bodies cost = bodies + 16 * cost.levels

module _ {S W : Type 0} where
  abbrev pub after_step : (ℕ → ℕ → List Bytes → World → S → Stand S W) → (bodies weight depth : ℕ) → List Bytes → Step S W → Stand S W
  after_step more bodies weight depth prints (Go cost out world s) = more (weight + cost.weight) (max depth (deep_with bodies cost)) (prints ++ out) world s
  after_step more bodies weight depth prints (Ends cost out world end) = Over (weight + cost.weight) (max depth (deep_with bodies cost)) (prints ++ out) world end

  module _ (m : Machine S W) (context : Context) where
    -- at most so many steps
    abbrev pub run : ℕ → (weight depth : ℕ) → List Bytes → World → S → Stand S W
    run zero weight depth prints world s = Still weight depth prints world s
    run (suc n) weight depth prints world s = after_step (run n) (m.depth s) weight depth prints (m.step context world s)

    -- an execution: its entry, and then at most so many steps
    abbrev pub execution : ℕ → World → Entry W → Stand S W
    execution n world entry = after_step (run n) 0 0 0 [] (m.enters context world entry)
