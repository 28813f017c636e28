-- That an execution of an actor ends where one of another does.
use Rattle.std.specs.Prelude.{◌≡◌, ℕ, Some}
use Rattle.mo_actor.specs.Executions.{Completion, Execution}

-- after some turns it has ended
abbrev pub HasEnd : {A : Type 0} → Execution A → Type 0
HasEnd {A} x = (n : ℕ) × (end : Completion A) × ((x n).completion ≡ Some end)

abbrev pub EndsToo : {A B : Type 0} → Execution A → Execution B → Type 0
EndsToo x y = HasEnd x → HasEnd y
