-- The law, as a statement.
use Rattle.std.specs.Prelude.{◌≡◌, ◌+◌, ◌<◌, ◌≤◌, ℕ, Bool, true, List, length, Some}
use Rattle.wasm_tree.specs.declared.trap.Trap.{Trap}
use Rattle.wasm_tree.specs.Exec.{Store}
use Rattle.low_ir.specs.declared.op.Operand.{Operand}
use Rattle.low_ir.specs.Meaning.{Calls}
use Rattle.low_ir.specs.Tree.{Code, Module}
use Rattle.low_rules.specs.Rule.{CodeEnd, Yields, Stops, Contracts, ComesTo, Before, value_of}
use Rattle.inlined_code.specs.Inlining.{Places, code_at, goes_inline, arguments, IsOwn, KeepsOthers, Agree}

-- The functions as their calls show them.
abbrev pub shown_by : {World : Type 0} → Calls World → Contracts World
shown_by calls f store args q = ComesTo calls f store args q

-- Where code has what it needs as a routine, it has it in a function too, after so many steps there: where it traps, so that the same is
-- left, and where it gives a value, so that it is in an operand, the function's other locals being as they were. What is to hold of
-- ends is what tests say here; the lemmas have it for any, and for any contracts that fewer ends do no harm to.
abbrev pub CodeGoesInline : Type 0 → Type 0
CodeGoesInline World =
    (pages : ℕ) (m : Module) (calls : Calls World) (at : Places) (first count size : ℕ) → ((x : ℕ) → first ≤ x → x < count → IsOwn at count size x) → (out : Operand → Code) (code : Code) → goes_inline first count code (arguments first) ≡ true
    → (start : List ℕ) (before : ℕ) (p r : CodeEnd World → Bool)
    → ((cause : Trap) (spent : ℕ) (store : Store World) → p (Stops cause spent store) ≡ true → r (Stops cause (before + spent) store) ≡ true)
    → ((a : Operand) (spent v : ℕ) (store : Store World) (locals own : List ℕ) → length own ≡ size → KeepsOthers at first count start own → value_of a own ≡ v → p (Yields (record { spent = spent + 2; store = store; locals = locals }) (Some v)) ≡ true → Before pages m (shown_by calls) (out a) (λ end. r end ≡ true) (record { spent = before + spent; store = store; locals = own }))
    → (spent : ℕ) (store : Store World) (locals own : List ℕ) → Agree at first count size start (arguments first) locals own → Before pages m (shown_by calls) code (λ end. p end ≡ true) (record { spent = spent; store = store; locals = locals })
    → Before pages m (shown_by calls) (code_at at out code) (λ end. r end ≡ true) (record { spent = before + spent; store = store; locals = own })
