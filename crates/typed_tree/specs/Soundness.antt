-- That an operation gives values of their types, and is never stuck on operands of theirs.
use Rattle.std.specs.Prelude.{◌≡◌, ℕ, List, [], ◌∷◌, Bool, true}
use Rattle.mo_types.specs.declared.node.Node.{Node}
use Rattle.mo_types.specs.declared.node.TypeId.{TypeId}
use Rattle.mo_values.specs.declared.operation.Operation.{Operation}
use Rattle.mo_values.specs.Operations.{operate}
use Rattle.mo_values.specs.Shapes.{Shape}
use Rattle.mo_values.specs.Views.{Answer, Gives, Traps, Stuck}
use Rattle.typed_tree.specs.Has.{Judgements, Has}
use Rattle.typed_tree.specs.OperationTypes.{OperationTyped}
use Rattle.typed_tree.specs.Wants.{Want}

module _ {F : Type 0} (head : TypeId → Node TypeId) (known : Judgements TypeId F) (kinds : List TypeId) where
  abbrev pub AllHave : List (Want TypeId) → List (Shape F) → Type 0
  AllHave [] [] = Unit {0}
  AllHave (w ∷ ws) (v ∷ vs) = Has head known kinds w v × AllHave ws vs
  AllHave _ _ = ⊥

  -- a trap is an answer of any type
  abbrev pub AnswerHas : Want TypeId → Answer F → Type 0
  AnswerHas w (Gives v) = Has head known kinds w v
  AnswerHas w (Traps text) = Unit {0}
  AnswerHas w Stuck = ⊥

  abbrev pub IsSound : Operation → Type 0
  IsSound o = (ws : List (Want TypeId)) (w : Want TypeId) (vs : List (Shape F)) → OperationTyped head o ws w → AllHave ws vs → AnswerHas w (operate head o vs)

-- judgements that are decided
abbrev pub decided : {F : Type 0} → (F → TypeId → Bool) → (ℕ → TypeId → Bool) → (ℕ → Shape F → Bool) → Judgements TypeId F
decided functions answers parameters = record { FunctionOf = λ f t. functions f t ≡ true; AnswerOf = λ n t. answers n t ≡ true; ParameterOf = λ v s. parameters v s ≡ true }
