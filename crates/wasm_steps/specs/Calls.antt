-- An activation among those that wait for it.
use Rattle.std.specs.Prelude.{◌≡◌, ℕ, suc, ◌≤◌, List, [], ◌∷◌, ◌++◌, length, drop, ⊤}
use Rattle.wasm_tree.specs.declared.types.FunctionType.{FunctionType}
use Rattle.wasm_tree.specs.declared.module_parts.Module.{Module}
use Rattle.wasm_tree.specs.Exec.{ExecutionLimits, State, Host, Called, Back, Fell, Lost, Calls}
use Rattle.wasm_tree.specs.Frames.{enter}
use Rattle.wasm_steps.specs.declared.step.Step.{Step}
use Rattle.wasm_steps.specs.Moves.{Final, Done, Trapped, Astray}
use Rattle.wasm_steps.specs.Follow.{Stands, After, resumed}

-- What a caller goes on with: its place, the room for the frames that it calls, how many locals it has, its greatest
-- height of operands, its locals, and its operands below the arguments.
pub record Frame : Type 0 where
  pub place : ℕ
  pub room : ℕ
  pub count : ℕ
  pub height : ℕ
  pub locals : List ℕ
  pub operands : List ℕ

-- What the end of a body is for the caller, over its operands with the arguments on top.
abbrev pub back : {World : Type 0} → FunctionType → List ℕ → Final World → Called World
back t operands (Done left store values) = Back left store (values ++ drop (length t.params) operands)
back t operands (Trapped cause store) = Fell cause store
back t operands Astray = Lost

module _ {World : Type 0} (limits : ExecutionLimits) (m : Module) (host : Host World) where
  -- Each frame takes a word, so that this depth is enough.
  abbrev pub invoke : ℕ → Calls World
  invoke room = enter (suc room) limits m host room

module _ {World : Type 0} (limits : ExecutionLimits) (m : Module) (host : Host World) (steps : List Step) where
  -- An activation that waits for a call of a function of this type.
  pub record Caller : Type 0 where
    pub place : ℕ
    pub room : ℕ
    pub count : ℕ
    pub height : ℕ
    pub keep : ℕ
    pub few : keep ≤ 1
    pub locals : List ℕ
    pub type : FunctionType
    pub operands : List ℕ
    pub after : After limits m (invoke limits m host room) steps count height keep type place operands

  -- Its result, from that of what it called.
  abbrev pub result_of : Caller → Final World → Final World
  result_of c r = resumed limits m (invoke limits m host c.room) steps c.count c.height c.keep c.after c.locals (back c.type c.after.own r)

  -- The result of all, from that of the innermost activation.
  abbrev pub unwind : List Caller → Final World → Final World
  unwind [] r = r
  unwind (c ∷ cs) r = unwind cs (result_of c r)

  abbrev pub frame_of : Caller → Frame
  frame_of c = record { place = c.place; room = c.room; count = c.count; height = c.height; locals = c.locals; operands = drop (length c.type.params) c.operands }

  -- The frames are those of the callers, and each activation keeps as many results as its caller's call gives.
  abbrev pub Linked : List Caller → List Frame → ℕ → Type 0
  Linked [] [] keep = ⊤
  Linked [] (f ∷ frames) keep = ⊥
  Linked (c ∷ cs) [] keep = ⊥
  Linked (c ∷ cs) (f ∷ frames) keep = (f ≡ frame_of c) × (keep ≡ length c.type.results) × Linked cs frames c.keep

  -- An activation with its frames, and the execution that it is a part of.
  pub record Runs (whole : Final World) (frames : List Frame) (room count height place : ℕ) (s : State World) (operands : List ℕ) : Type 0 where
    pub callers : List Caller
    pub here : Final World
    pub means : unwind callers here ≡ whole
    pub keep : ℕ
    pub few : keep ≤ 1
    pub stands : Stands limits m (invoke limits m host room) steps count height keep here place s operands
    pub linked : Linked callers frames keep
