-- How a call of a body's function comes out under limits.
use Rattle.std.specs.Prelude.{⊤, ◌≡◌, ◌⊎◌, ℕ, suc, ◌+◌, ◌*◌, ◌<◌, List, Option, true}
use Rattle.play_script.specs.declared.item.Word.{Word}
use Rattle.mo_actor.specs.Executions.{Execution}
use Rattle.mo_actor.specs.Measures.{Spent}
use Rattle.mo_actor.specs.Results.{Exhausted, HasResult}
use Rattle.wasm_tree.specs.declared.trap.Trap.{Trap}
use Rattle.wasm_tree.specs.declared.trap.Trap.TheVariants as trap
use Rattle.wasm_tree.specs.Exec.{Store}
use Rattle.ic0_world.specs.declared.world.World.{World as HostWorld}
use Rattle.core_ir.specs.Worlds.{Context}
use Rattle.core_ir.specs.Executions.{Replies, Traps, Stand, Still, Over}
use Rattle.core_ir.specs.CodeMachine.{State, Waiting}
use Rattle.low_ir.specs.Tree.{Module}
use Rattle.low_ir.specs.Meaning.{Called, Fell}
use Rattle.canister_host.specs.Execution.{Breaks}
use Rattle.low_execution.specs.Execution.{low_end}
use Rattle.low_execution.specs.Host.{low_host}
use Rattle.heap_layout.specs.Heaps.{Plan}
use Rattle.heap_layout.specs.Table.{bytes_for, words_beside}
use Rattle.flat_emission.specs.Emission.{Linkage}
use Rattle.emitted_steps.specs.Operations.{told_all}
use Rattle.emitted_steps.specs.Shortage.{ShowsMore}
use Rattle.emitted_steps.specs.States.{words_for}
use Rattle.emitted_steps.specs.Steps.{own_steps, Replied, Trapped}
use Rattle.emitted_runs.specs.Runs.{weight_of, deep_of, shown_by}
use Rattle.limited_runs.specs.Shown.{told, fell, prints_of}

-- What was wanting, of so many steps, pages and stack words, for a run of this weight and depth, where the heap ended at this word.
abbrev pub Wants : (unit_steps left pages room top weight deep : ℕ) → Trap → Store HostWorld → Type 0
Wants unit_steps left pages room top weight deep trap.Steps store = left < (own_steps + unit_steps) * weight
Wants unit_steps left pages room top weight deep trap.Stack store = room < words_for deep + words_beside
Wants unit_steps left pages room top weight deep trap.Unreachable store = (store.refused ≡ true) × (65536 * pages < 8 * top + bytes_for weight)
Wants unit_steps left pages room top weight deep trap.Bounds store = ⊥
Wants unit_steps left pages room top weight deep trap.DivideByZero store = ⊥
Wants unit_steps left pages room top weight deep trap.Overflow store = ⊥
Wants unit_steps left pages room top weight deep trap.Indirect store = ⊥
Wants unit_steps left pages room top weight deep trap.Host store = ⊥

-- A call was cut off, after a part of what has been printed in this world.
pub record IsCutOff (unit_steps left pages room top weight deep : ℕ) (called : Called HostWorld) (w : HostWorld) : Type 0 where
  pub cause : Trap
  pub store : Store HostWorld
  pub is : called ≡ Fell cause store
  pub want : Wants unit_steps left pages room top weight deep cause store
  pub part : ShowsMore prints_of store.world w

-- An execution of low code ends at a limit, as the execution of a program does that is exhausted under so many steps, stack words and
-- pages.
pub record IsExhausted {A : Type 0} (steps room pages first_memory charged : ℕ) (called : Called HostWorld) (x : Execution A) : Type 0 where
  pub word : Word
  pub prints : List (List ℕ)
  pub is : low_end called ≡ Breaks word prints
  pub result : HasResult (Spent steps room pages) first_memory charged x (Exhausted prints word)

module _ (plan : Plan) (link : Linkage) (table : List (Option ℕ)) (sees : ℕ → ℕ) (context : Context) (m : Module) (unit_steps : ℕ) where
  abbrev pub CutOff : (called : Called HostWorld) → (left pages room top : ℕ) → HostWorld → Stand State Waiting → Type 0
  CutOff called left pages room top w stand = IsCutOff unit_steps left pages room top (weight_of stand) (deep_of stand) called (shown_by told fell w stand)

  -- What it comes to where the machine stands so after so many turns. Nothing is said of ends that plain functions do not have.
  abbrev pub EndsWithin : (called : Called HostWorld) → (left pages room top : ℕ) → HostWorld → (turns : ℕ) → Stand State Waiting → Type 0
  EndsWithin called left pages room top w turns (Still weight deep prints world s) = suc left < turns → CutOff called left pages room top w (Still weight deep prints world s)
  EndsWithin called left pages room top w turns (Over weight deep prints world (Replies v)) =
      Replied plan link table sees context pages m low_host told fell prints_of unit_steps (words_for deep) (65536 * pages) called left top (told_all told w prints) weight world v
      ⊎ CutOff called left pages room top w (Over weight deep prints world (Replies v))
  EndsWithin called left pages room top w turns (Over weight deep prints world (Traps text)) =
      Trapped plan link table sees context pages m low_host told fell prints_of unit_steps (words_for deep) (65536 * pages) called (told_all told w prints) text
      ⊎ CutOff called left pages room top w (Over weight deep prints world (Traps text))
  EndsWithin called left pages room top w turns (Over weight deep prints world end) = ⊤
