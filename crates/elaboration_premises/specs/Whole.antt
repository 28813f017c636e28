-- Executions of well-typed programs, and how Core's run follows them: nothing is asked of the states on the way (Motoko language manual, section "Type
-- soundness").
use Rattle.std.specs.Prelude.{◌≡◌, ℕ, List}
use Rattle.mo_types.specs.declared.node.TypeId.{TypeId}
use Rattle.mo_types.specs.Graph.{head_at}
use Rattle.mo_values.specs.Shapes.{Bytes}
use Rattle.core_ir.specs.Worlds.{World, Context}
use Rattle.core_ir.specs.Expressions.{Core}
use Rattle.core_ir.specs.CoreMachine.{Frame, Focus}
use Rattle.typed_tree.specs.Basics.{HasBasics}
use Rattle.typed_tree.specs.Types.{AreLawful}
use Rattle.mo_meaning.specs.Configurations.{Surroundings}
use Rattle.mo_soundness.specs.Running.{AnswerTypes}
use Rattle.mo_machine.specs.Configurations.{Configuration, Still}
use Rattle.mo_machine.specs.Turns.{steps}
use Rattle.elaboration_values.specs.Belonging.{Known}
use Rattle.elaboration_runs.specs.Together.{Together}
use Rattle.elaboration_runs.specs.Calling.{Surrounded}
use Rattle.elaboration_runs.specs.Waiting.{Accounted}
use Rattle.elaboration_runs.specs.Whole.{SameCalls, Reaches, HasPassed}
use Rattle.elaboration_premises.specs.Serving.{IsTyped}

module _ (program : Core) (context : Context) (nodes : ℕ) where
  abbrev pub TypedExecutionsFollow : Type 0
  TypedExecutionsFollow =
      (s : Surroundings) → AreLawful s.types → HasBasics s.types → context.head ≡ head_at s.types → Surrounded program context nodes s → Accounted program context nodes s
      → (results : List TypeId) (answers : AnswerTypes) (kinds : List TypeId) (c : Configuration) → IsTyped s results answers kinds c
      → (n held : ℕ) (known : List Known) (w d : ℕ) (prints : List Bytes) (world : World) (f : Focus) (k : List Frame) → Together program context nodes held known c w d prints world f k → SameCalls c.calls world.requests
      → (c' : Configuration) → steps s n c ≡ Still c' → Reaches program context nodes known w d prints world f k c'

  abbrev pub TypedExecutionsGoOn : Type 0
  TypedExecutionsGoOn =
      (s : Surroundings) → AreLawful s.types → HasBasics s.types → context.head ≡ head_at s.types → Surrounded program context nodes s → Accounted program context nodes s
      → (results : List TypeId) (answers : AnswerTypes) (kinds : List TypeId) (c : Configuration) → IsTyped s results answers kinds c
      → (least held : ℕ) (known : List Known) (w d : ℕ) (prints : List Bytes) (world : World) (f : Focus) (k : List Frame) → Together program context nodes held known c w d prints world f k → SameCalls c.calls world.requests
      → (n : ℕ) × HasPassed program context nodes s least known w d prints world f k (steps s n c)
