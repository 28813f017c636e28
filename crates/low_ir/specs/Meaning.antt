-- The meaning of low code, by recursion on the tree. It charges the steps and the pages of the WebAssembly that it becomes:
-- WebAssembly Core 1.0, section 4.
use Rattle.std.specs.Prelude.{ℕ, zero, suc, ◌+◌, ◌-◌, ◌*◌, ◌^◌, List, [], ◌∷◌, ◌++◌, length, take, drop, reverse, replicate, ◌&&◌, Option, Some, None, nat_le, nat_eq, cond, slice_get, slice_index, Result, Ok, Err}
use Rattle.wasm_tree.specs.declared.trap.Trap.{Trap}
use Rattle.wasm_tree.specs.declared.trap.Trap.TheVariants as trap
use Rattle.wasm_tree.specs.declared.types.ValueType.TheVariants.{I32, I64}
use Rattle.wasm_tree.specs.declared.op.LoadKind.{LoadKind}
use Rattle.wasm_tree.specs.declared.op.StoreKind.{StoreKind}
use Rattle.wasm_tree.specs.Numeric.{low, equals_zero, compare, unary, binary, convert}
use Rattle.wasm_tree.specs.Exec.{Store, State, bits32, bits64, with_memory, with_refusal, with_global, with_local, load_size, extended, number_of, store_size, bytes_of, pages_of, if_zero, same_type, entry}
use Rattle.low_ir.specs.declared.op.Operand.{Operand}
use Rattle.low_ir.specs.declared.op.Operand.TheVariants.{Local, Word, Long}
use Rattle.low_ir.specs.declared.op.Operation.{Operation}
use Rattle.low_ir.specs.declared.op.Operation.TheVariants.{Copy, IsZero, Compare, Unary, Binary, Convert, Load, Global, Size}
use Rattle.low_ir.specs.Tree.{Code, Stop, Return, Branch, Set, SetGlobal, Grow, GrowStable, Block, Loop, If, BranchIf, Call, CallIndirect, Module}
use Rattle.low_ir.specs.Tree as code
use Rattle.low_ir.specs.Numbering.{all_types, type_of, stable_grow, host_trap}

-- How code ends: it reaches its end, jumps outward to a label, gives the function's value, or breaks off. Astray is no outcome
-- of formed code.
pub data Outcome (World : Type 0) : Type 0 where
  Ends : State World → Outcome World
  Jumps : ℕ → State World → Outcome World
  Gives : State World → Option ℕ → Outcome World
  Breaks : Trap → Store World → Outcome World
  Astray : Outcome World

-- How a call ends: with steps left and a value, if the function has one, or with a trap.
pub data Called (World : Type 0) : Type 0 where
  Gave : ℕ → Store World → Option ℕ → Called World
  Fell : Trap → Store World → Called World
  Lost : Called World

-- Functions as their callers see them: function, steps left, store, arguments in order.
abbrev pub Calls : Type 0 → Type 0
Calls World = ℕ → ℕ → Store World → List ℕ → Called World

-- Each instruction of WebAssembly takes a step; the one past the limit traps.
abbrev pub tick_of : {World : Type 0} → ℕ → State World → (State World → Outcome World) → Outcome World
tick_of zero s next = Breaks trap.Steps s.store
tick_of (suc left) s next = next (record { left = left; store = s.store; locals = s.locals })

abbrev pub tick : {World : Type 0} → State World → (State World → Outcome World) → Outcome World
tick s next = tick_of s.left s next

-- After a construct.
abbrev pub onward : {World : Type 0} → Outcome World → (State World → Outcome World) → Outcome World
onward (Ends s) next = next s
onward (Jumps zero s) next = next s
onward (Jumps (suc label) s) next = Jumps label s
onward (Gives s value) next = Gives s value
onward (Breaks cause store) next = Breaks cause store
onward Astray next = Astray

-- A branch to a loop begins it again.
abbrev pub again : {World : Type 0} → Outcome World → (State World → Outcome World) → Outcome World
again (Ends s) next = Ends s
again (Jumps zero s) next = next s
again (Jumps (suc label) s) next = Jumps (suc label) s
again (Gives s value) next = Gives s value
again (Breaks cause store) next = Breaks cause store
again Astray next = Astray

-- At most so many turns of a loop, of which each takes a step.
abbrev pub turns : {World : Type 0} → ℕ → (State World → Outcome World) → State World → Outcome World
turns zero body s = Breaks trap.Steps s.store
turns (suc most) body s = tick s (λ s. again (body s) (turns most body))

-- Each operand takes a step.
abbrev pub operand : {World : Type 0} → Operand → State World → (State World → ℕ → Outcome World) → Outcome World
operand (Local x) s next = tick s (λ s. next s (slice_index s.locals x))
operand (Word z) s next = tick s (λ s. next s (bits32 z))
operand (Long z) s next = tick s (λ s. next s (bits64 z))

-- The values of all, the last one first, over those before.
abbrev pub operands : {World : Type 0} → List Operand → State World → List ℕ → (State World → List ℕ → Outcome World) → Outcome World
operands [] s before next = next s before
operands (a ∷ rest) s before next = operand a s (λ s v. operands rest s (v ∷ before) next)

abbrev pub or_traps : {World : Type 0} → State World → Result ℕ Trap → (ℕ → Outcome World) → Outcome World
or_traps s (Ok value) next = next value
or_traps s (Err cause) next = Breaks cause s.store

abbrev pub loaded : {World : Type 0} → State World → LoadKind → ℕ → (ℕ → Outcome World) → Outcome World
loaded s kind address next =
    cond (nat_le (address + load_size kind) (length s.store.memory))
    (next (extended kind (number_of (take (load_size kind) (drop address s.store.memory)))))
    (Breaks trap.Bounds s.store)

abbrev pub stored : {World : Type 0} → State World → StoreKind → ℕ → ℕ → (State World → Outcome World) → Outcome World
stored s kind address value next =
    cond (nat_le (address + store_size kind) (length s.store.memory))
    (next (with_memory s (take address s.store.memory ++ bytes_of (store_size kind) value ++ drop (address + store_size kind) s.store.memory)))
    (Breaks trap.Bounds s.store)

-- The operands of an operation take their steps, and then it takes its own, unless it is a copy.
abbrev pub computed : {World : Type 0} → Operation → State World → (State World → ℕ → Outcome World) → Outcome World
computed (Copy a) s next = operand a s next
computed (IsZero kind a) s next = operand a s (λ s x. tick s (λ s. next s (equals_zero kind x)))
computed (Compare kind o a b) s next = operand a s (λ s x. operand b s (λ s y. tick s (λ s. next s (compare kind o x y))))
computed (Unary kind o a) s next = operand a s (λ s x. tick s (λ s. next s (unary kind o x)))
computed (Binary kind o a b) s next = operand a s (λ s x. operand b s (λ s y. tick s (λ s. or_traps s (binary kind o x y) (next s))))
computed (Convert o a) s next = operand a s (λ s x. tick s (λ s. next s (convert o x)))
computed (Load kind a offset) s next = operand a s (λ s x. tick s (λ s. loaded s kind (low I32 x + offset) (next s)))
computed (Global x) s next = tick s (λ s. next s (slice_index s.store.globals x))
computed Size s next = tick s (λ s. next s (pages_of s.store.memory))

-- The memory grows by exactly so many pages, or the execution ends. Either takes the steps of the test of what growing gave.
abbrev pub grown : {World : Type 0} → ℕ → State World → ℕ → (State World → Outcome World) → Outcome World
grown pages s by next =
    cond (nat_le (pages_of s.store.memory + by) pages && nat_le (pages_of s.store.memory + by) 65536)
    (tick (with_memory s (s.store.memory ++ replicate (65536 * by) 0)) (λ s. tick s (λ s. tick s next)))
    (tick (with_refusal s) (λ s. tick s (λ s. tick s (λ s. tick s (λ s. Breaks trap.Unreachable s.store)))))

-- After a call, the caller's locals are as they were.
abbrev pub on_return : {World : Type 0} → List ℕ → Called World → (State World → Option ℕ → Outcome World) → Outcome World
on_return locals (Gave left store value) next = next (record { left = left; store = store; locals = locals }) value
on_return locals (Fell cause store) next = Breaks cause store
on_return locals Lost next = Astray

-- The value of a call goes into the local, where it gives one.
abbrev pub result_to : {World : Type 0} → Option ℕ → State World → Option ℕ → (State World → Outcome World) → Outcome World
result_to None s None next = next s
result_to None s (Some value) next = Astray
result_to (Some x) s None next = tick s (λ s. Astray)
result_to (Some x) s (Some value) next = tick s (λ s. next (with_local s x value))

-- Growth of the stable memory gives -1 where it is refused.
abbrev pub unless_refused : {World : Type 0} → State World → Option ℕ → (State World → Outcome World) → Outcome World
unless_refused s None next = tick s (λ s. tick s (λ s. Astray))
unless_refused s (Some value) next =
    tick s (λ s. tick s (λ s. tick s (λ s. cond (nat_eq (low I64 value) (2 ^ 64 - 1)) (tick s (λ s. Breaks trap.Unreachable s.store)) (next s))))

-- An indirect call is one of the table's function at a place, where its type is the one asked for.
abbrev pub chosen : {World : Type 0} → Module → ℕ → Option ℕ → State World → (ℕ → Outcome World) → Outcome World
chosen m x None s next = Breaks trap.Indirect s.store
chosen m x (Some f) s next = cond (same_type (type_of m f) (slice_get (all_types m) x)) (next f) (Breaks trap.Indirect s.store)

-- From a state, under a limit of pages.
abbrev pub run : {World : Type 0} → ℕ → Module → Calls World → Code → State World → Outcome World
run pages m calls Stop s = Ends s
run pages m calls (Return None) s = tick s (λ s. Gives s None)
run pages m calls (Return (Some a)) s = operand a s (λ s v. tick s (λ s. Gives s (Some v)))
run pages m calls (Branch label) s = tick s (λ s. Jumps label s)
run pages m calls (code.Trap a b) s =
    operand a s (λ s x. operand b s (λ s y. tick s (λ s. on_return s.locals (calls host_trap s.left s.store (x ∷ y ∷ [])) (λ s v. tick s (λ s. Breaks trap.Unreachable s.store)))))
run pages m calls (Set x o rest) s = computed o s (λ s v. tick s (λ s. run pages m calls rest (with_local s x v)))
run pages m calls (SetGlobal x a rest) s = operand a s (λ s v. tick s (λ s. run pages m calls rest (with_global s x v)))
run pages m calls (code.Store kind a offset b rest) s =
    operand a s (λ s x. operand b s (λ s v. tick s (λ s. stored s kind (low I32 x + offset) v (run pages m calls rest))))
run pages m calls (Grow a rest) s = operand a s (λ s by. tick s (λ s. grown pages s (low I32 by) (run pages m calls rest)))
run pages m calls (GrowStable a rest) s =
    operand a s (λ s by. tick s (λ s. on_return s.locals (calls stable_grow s.left s.store (by ∷ [])) (λ s v. unless_refused s v (run pages m calls rest))))
run pages m calls (Block body rest) s = tick s (λ s. onward (run pages m calls body s) (run pages m calls rest))
run pages m calls (Loop body rest) s = onward (turns (suc s.left) (run pages m calls body) s) (run pages m calls rest)
run pages m calls (If a first second rest) s =
    operand a s (λ s v. tick s (λ s. onward (if_zero v (run pages m calls second s) (run pages m calls first s)) (run pages m calls rest)))
run pages m calls (BranchIf a label rest) s = operand a s (λ s v. tick s (λ s. if_zero v (run pages m calls rest s) (Jumps label s)))
run pages m calls (Call result f args rest) s =
    operands args s [] (λ s values. tick s (λ s. on_return s.locals (calls f s.left s.store (reverse values)) (λ s v. result_to result s v (run pages m calls rest))))
run pages m calls (CallIndirect result x args a rest) s =
    operands args s [] (λ s values. operand a s (λ s v. tick s (λ s. chosen m x (entry (slice_get s.store.table (low I32 v))) s
    (λ f. on_return s.locals (calls f s.left s.store (reverse values)) (λ s v. result_to result s v (run pages m calls rest))))))
