-- A call with fewer stack words beside one with more.
use Rattle.std.proofs.Common.{◌≡◌, ◌⊎◌, inl, inr, ℕ, ◌+◌, ◌<◌, ◌≤◌, List, refl, sym, ap, ◌∙◌, subst, arith}
use Rattle.wasm_tree.specs.declared.trap.Trap.{Trap}
use Rattle.wasm_tree.specs.declared.trap.Trap.TheVariants as trap
use Rattle.wasm_tree.specs.Exec.{Store}
use Rattle.ic0_world.specs.declared.world.World.{World}
use Rattle.low_ir.specs.Tree.{Module}
use Rattle.low_ir.specs.Meaning.{Called, Gave, Fell, Lost}
use Rattle.low_ir.specs.Frames.{enter}
use Rattle.low_execution.specs.Host.{low_host}
use Rattle.low_limits.proofs.Later.{CallIsLater}
use Rattle.low_limits.proofs.Fewer.{IsWanting, CallClose, fewer}
use Rattle.low_limits.proofs.Cut.{frames_end}

-- It ends as the other, or lacks stack words, after a part of the other's prints.
pub record LacksStack (room large : ℕ) (o a : Called World) : Type 0 where
  pub store : Store World
  pub is : o ≡ Fell trap.Stack store
  pub less : room < large
  pub later : CallIsLater store.world a

never : (n : ℕ) → n < n → ⊥
never n lt = omega (arith, lt)

only_stack : (W : Type 0) (cause : Trap) (store : Store World) → IsWanting ⊥ W ⊥ cause store → (cause ≡ trap.Stack) × W
only_stack W trap.Steps store (inl h) = absurd h
only_stack W trap.Steps store (inr h) = absurd h.1
only_stack W trap.Stack store h = (refl, h)
only_stack W trap.Unreachable store h = absurd h.1
only_stack W trap.Bounds store h = absurd h
only_stack W trap.DivideByZero store h = absurd h
only_stack W trap.Overflow store h = absurd h
only_stack W trap.Indirect store h = absurd h
only_stack W trap.Host store h = absurd h

module _ (m : Module) (pages room large : ℕ) (le : room ≤ large) where
  beside : (o a : Called World) → CallClose m 0 ⊥ (room < large) ⊥ (never 0) o a → (o ≡ a) ⊎ LacksStack room large o a
  beside (Gave left store value) a e = let n : left + 0 ≡ left = omega arith in inl (ap (λ n. Gave n store value) (sym n) ∙ sym e)
  beside (Fell cause store) a (inl e) = inl (sym e)
  beside (Fell cause store) a (inr e) = let k = only_stack (room < large) cause store e.0 in inr (record { store = store; is = ap (λ c. Fell c store) k.0; less = k.1; later = e.1 })
  beside Lost a e = inl (sym e)

  -- Whatever the depths by which calls are counted, where they are above the words.
  pub beside_calls : (calls deep f left : ℕ) (store : Store World) (args : List ℕ) → room < calls → large < deep
      → (enter calls pages m low_host room f left store args ≡ enter deep pages m low_host large f left store args) ⊎ LacksStack room large (enter calls pages m low_host room f left store args) (enter deep pages m low_host large f left store args)
  beside_calls calls deep f left store args lt more =
      let n : left + 0 ≡ left = omega arith in
      let same = frames_end m pages calls deep room lt (omega (arith, le, more)) in
      subst (λ o. (o f left store args ≡ enter deep pages m low_host large f left store args) ⊎ LacksStack room large (o f left store args) (enter deep pages m low_host large f left store args)) (sym same)
      (beside (enter deep pages m low_host room f left store args) (enter deep pages m low_host large f left store args)
      (subst (λ k. CallClose m 0 ⊥ (room < large) ⊥ (never 0) (enter deep pages m low_host room f left store args) (enter deep pages m low_host large f k store args)) n
      (fewer m 0 ⊥ (room < large) ⊥ (never 0) deep pages pages room large (omega arith) (never pages) le (λ lt. lt) f left store args)))
