-- Bindings: the names that they bind, and the slots that they take.
use Rattle.std.specs.Prelude.{◌≡◌, ℕ, suc, ◌+◌, ◌<◌, ◌≤◌, ◌++◌, List, ◌∷◌, length, map, get_or, slice_get, Option, Some}
use Rattle.core_ir.specs.declared.expression.Binding.{Binding, out-Binding}
use Rattle.core_ir.specs.declared.expression.Binding.TheOpen as E
use Rattle.core_ir.specs.declared.expression.Expression.{Expression}
use Rattle.core_ir.specs.declared.expression.Goal.{Goal}
use Rattle.core_ir.specs.declared.code.Operand.{Operand}
use Rattle.core_ir.specs.declared.scopes.Outermost.{Outermost}
use Rattle.core_ir.specs.CodeView.{Names}
use Rattle.core_ir.specs.ScopeNames.{slots_from}
use Rattle.core_ir.specs.Expressions.{Exp}
use Rattle.core_ir.specs.View.{binding, block, expression}
use Rattle.core_laws.specs.Slots.{operand}
use Rattle.core_laws.specs.Split.{split_exp}
use Rattle.suspend_split.specs.declared.bindings.Opening.{Opening}
use Rattle.suspend_split.specs.declared.draft.State.{State}
use Rattle.suspend_split.specs.Makes.{Agree, Grows, Makes, size_of}

-- what a binding adds to the names in scope
abbrev pub bound : List ℕ → E.Binding-F Binding Expression Goal → ℕ → List Operand → List Operand
bound sizes (E.Value e) h names = operand names (expression e) h ∷ names
bound sizes (E.Functions k) h names = slots_from h (size_of sizes k) ++ names

-- how many slots it takes
abbrev pub taken : List ℕ → E.Binding-F Binding Expression Goal → ℕ
taken sizes (E.Value e) = 1
taken sizes (E.Functions k) = size_of sizes k

-- the inner scope has the names of this one, and before them so many slots
pub record Slots (first count scope inner : ℕ) (old new : List (List Operand)) : Type 0 where
  pub grows : Grows old new
  pub within : inner ≤ length new
  pub holds : (o : Outermost) (names : Names) → Agree o new names → names inner ≡ slots_from first count ++ names scope

pub record Opens (o : Outermost) (sizes : List ℕ) (b : Binding) (at behind : Opening) (old new : List (List Operand)) : Type 0 where
  pub grows : Grows old new
  pub within : behind.scope ≤ length new
  pub free : behind.free ≡ at.free + taken sizes (out-Binding b)
  pub binds : (names : Names) → Agree o new names → names behind.scope ≡ bound sizes (out-Binding b) at.free (names at.scope)

abbrev pub nowhere : Opening
nowhere = record { scope = 0; free = 0 }

-- the places before, between and behind the first bindings, so many of them
pub record OpensFirst (o : Outermost) (sizes : List ℕ) (bs : List Binding) (at : Opening) (i : ℕ) (places : List Opening) (old new : List (List Operand)) : Type 0 where
  pub grows : Grows old new
  pub count : length places ≡ suc i
  pub begins : get_or places 0 nowhere ≡ at
  pub within : (n : ℕ) → n ≤ i → (get_or places n nowhere).scope ≤ length new
  pub frees : (n : ℕ) (b : Binding) → n < i → slice_get bs n ≡ Some b → (get_or places (suc n) nowhere).free ≡ (get_or places n nowhere).free + taken sizes (out-Binding b)
  pub binds : (names : Names) → Agree o new names → (n : ℕ) (b : Binding) → n < i → slice_get bs n ≡ Some b
      → names (get_or places (suc n) nowhere).scope ≡ bound sizes (out-Binding b) (get_or places n nowhere).free (names (get_or places n nowhere).scope)

abbrev pub OpensAll : Outermost → List ℕ → List Binding → Opening → List Opening → List (List Operand) → List (List Operand) → Type 0
OpensAll o sizes bs at places old new = OpensFirst o sizes bs at (length bs) places old new

-- whatever stands behind bindings that were opened at these places: if that was made, they are made around it
abbrev pub MakesBindings : Outermost → List ℕ → List Binding → List Opening → State → State → Type 0
MakesBindings o sizes bs places old new =
    (a : State) (at : Opening) (x y : List (List Operand)) (e : Exp) (t : Option ℕ) → OpensAll o sizes bs at places x y → Grows y old.scopes
    → Makes o a old (λ names ls c segments. split_exp (size_of sizes) e t (get_or places (length bs) nowhere).free (names (get_or places (length bs) nowhere).scope) ls c segments)
    → Makes o a new (λ names ls c segments. split_exp (size_of sizes) (block (map binding bs) e) t at.free (names at.scope) ls c segments)
