-- Executions that lack steps or memory.
use Rattle.std.specs.Prelude.{◌≡◌, ◌⊎◌, ◌<◌, ℕ, true, List, [], ◌∷◌, ◌++◌}
use Rattle.mo_values.specs.Shapes.{Bytes}
use Rattle.wasm_tree.specs.declared.trap.Trap.{Trap}
use Rattle.wasm_tree.specs.declared.trap.Trap.TheVariants as trap
use Rattle.wasm_tree.specs.Exec.{Host, Store}
use Rattle.low_ir.specs.Tree.{Code, Module}
use Rattle.low_ir.specs.Meaning.{Called, Fell, Outcome, Ends, Breaks, run}
use Rattle.low_ir.specs.Frames.{enter}
use Rattle.low_rules.specs.Rule.{At, state}

module _ {W : Type 0} (prints_of : W → List Bytes) where
  -- What one world has printed is a first part of what the other has.
  pub record ShowsMore (part whole : W) : Type 0 where
    pub more : List Bytes
    pub is : prints_of whole ≡ prints_of part ++ more

  -- Code has broken off for want of steps, before this world.
  pub record RunsOut (o : Outcome W) (w : W) : Type 0 where
    pub store : Store W
    pub is : o ≡ Breaks trap.Steps store
    pub part : ShowsMore store.world w

  -- An execution has fallen for want of steps, of which it had fewer than the bound, before this world.
  pub record IsShort (before : Called W) (left bound : ℕ) (w : W) : Type 0 where
    pub store : Store W
    pub same : before ≡ Fell trap.Steps store
    pub few : left < bound
    pub part : ShowsMore store.world w

  -- An execution has fallen for want of memory, before this world, where the heap would be beyond the roof with what is needed.
  pub record IsWanting (before : Called W) (roof needed : ℕ) (w : W) : Type 0 where
    pub store : Store W
    pub same : before ≡ Fell trap.Unreachable store
    pub refused : store.refused ≡ true
    pub lacks : roof < needed
    pub part : ShowsMore store.world w

-- What a world has printed grows by each text that is told, and stays where one is given for a trap. Code that comes to its end with
-- exactly so many steps runs out of them where it has fewer; where it traps, it runs out of them or traps as well.
pub record StepsRunOut {W : Type 0} (pages : ℕ) (m : Module) (host : Host W) (told fell : W → Bytes → W) (prints_of : W → List Bytes) : Type 0 where
  pub tells : (w : W) (text : Bytes) → prints_of (told w text) ≡ prints_of w ++ text ∷ []
  pub fails : (w : W) (text : Bytes) → ShowsMore prints_of w (fell w text)
  pub ends : (deep room : ℕ) (code : Code) (left cost : ℕ) (from to : At W) → left < cost → run pages m (enter deep pages m host room) code (state cost from) ≡ Ends (state 0 to) → RunsOut prints_of (run pages m (enter deep pages m host room) code (state left from)) to.store.world
  pub falls : (deep room : ℕ) (code : Code) (left cost : ℕ) (from : At W) (cause : Trap) (end : Store W) → left < cost → run pages m (enter deep pages m host room) code (state cost from) ≡ Breaks cause end
      → (run pages m (enter deep pages m host room) code (state left from) ≡ Breaks cause end) ⊎ RunsOut prints_of (run pages m (enter deep pages m host room) code (state left from)) end.world
