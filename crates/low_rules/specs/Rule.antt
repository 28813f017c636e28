-- What has to hold before low code, so that it ends, with enough steps, words and pages, and a fact holds of its end. Nothing here
-- lacks anything: the steps that were taken are a part of the state, and a loop says how many turns it has at most.
use Rattle.std.specs.Prelude.{◌≡◌, ℕ, zero, suc, ◌+◌, ◌-◌, ◌*◌, ◌^◌, List, [], ◌∷◌, ◌++◌, length, take, drop, reverse, replicate, Bool, true, false, ◌&&◌, Option, Some, None, nat_le, nat_eq, cond, slice_get, slice_index, slice_set, Result, Ok, Err}
use Rattle.wasm_tree.specs.declared.trap.Trap.{Trap}
use Rattle.wasm_tree.specs.declared.trap.Trap.TheVariants as trap
use Rattle.wasm_tree.specs.declared.types.ValueType.TheVariants.{I32, I64}
use Rattle.wasm_tree.specs.declared.types.FunctionType.{FunctionType}
use Rattle.wasm_tree.specs.declared.op.LoadKind.{LoadKind}
use Rattle.wasm_tree.specs.Numeric.{low, equals_zero, compare, unary, binary, convert}
use Rattle.wasm_tree.specs.Exec.{Store, State, bits32, bits64, load_size, extended, number_of, store_size, pages_of, same_type, entry}
use Rattle.module_laws.specs.Stored.{written}
use Rattle.low_ir.specs.declared.op.Operand.{Operand}
use Rattle.low_ir.specs.declared.op.Operand.TheVariants.{Local, Word, Long}
use Rattle.low_ir.specs.declared.op.Operation.{Operation}
use Rattle.low_ir.specs.declared.op.Operation.TheVariants.{Copy, IsZero, Compare, Unary, Binary, Convert, Load, Global, Size}
use Rattle.low_ir.specs.Tree.{Code, Stop, Return, Branch, Set, SetGlobal, Grow, GrowStable, Block, Loop, If, BranchIf, Call, CallIndirect, Function, Module}
use Rattle.low_ir.specs.Tree as code
use Rattle.low_ir.specs.Numbering.{all_types, type_of, stable_grow, host_trap}
use Rattle.low_ir.specs.Meaning.{Called, Gave, Fell, Calls, Outcome, Ends, Jumps, Gives, Breaks}
use Rattle.low_ir.specs.Frames.{kept}

-- Where code is, after so many steps.
pub record At (World : Type 0) : Type 0 where
  pub spent : ℕ
  pub store : Store World
  pub locals : List ℕ

-- With so many steps left.
abbrev pub state : {World : Type 0} → ℕ → At World → State World
state left h = record { left = left; store = h.store; locals = h.locals }

-- How code ends, where nothing was wanting.
pub data CodeEnd (World : Type 0) : Type 0 where
  Next : At World → CodeEnd World
  Leaps : ℕ → At World → CodeEnd World
  Yields : At World → Option ℕ → CodeEnd World
  Stops : Trap → ℕ → Store World → CodeEnd World

abbrev pub spent_of : {World : Type 0} → CodeEnd World → ℕ
spent_of (Next h) = h.spent
spent_of (Leaps label h) = h.spent
spent_of (Yields h value) = h.spent
spent_of (Stops cause spent store) = spent

abbrev pub outcome_of : {World : Type 0} → ℕ → CodeEnd World → Outcome World
outcome_of left (Next h) = Ends (state left h)
outcome_of left (Leaps label h) = Jumps label (state left h)
outcome_of left (Yields h value) = Gives (state left h) value
outcome_of left (Stops cause spent store) = Breaks cause store

-- How a call ends, where nothing was wanting: with its steps.
pub data CallEnd (World : Type 0) : Type 0 where
  Comes : ℕ → Store World → Option ℕ → CallEnd World
  Dies : Trap → ℕ → Store World → CallEnd World

abbrev pub cost_of : {World : Type 0} → CallEnd World → ℕ
cost_of (Comes cost store value) = cost
cost_of (Dies cause cost store) = cost

abbrev pub called_of : {World : Type 0} → ℕ → CallEnd World → Called World
called_of left (Comes cost store value) = Gave left store value
called_of left (Dies cause cost store) = Fell cause store

-- What has to hold before a call: function, store, arguments, and what is to hold of its end.
abbrev pub Contracts : Type 0 → Type 1
Contracts World = ℕ → Store World → List ℕ → (CallEnd World → Type 0) → Type 0

abbrev pub value_of : Operand → List ℕ → ℕ
value_of (Local x) locals = slice_index locals x
value_of (Word z) locals = bits32 z
value_of (Long z) locals = bits64 z

-- The values of all, the last one first, over those before.
abbrev pub values_of : List Operand → List ℕ → List ℕ → List ℕ
values_of [] locals before = before
values_of (a ∷ args) locals before = values_of args locals (value_of a locals ∷ before)

abbrev pub is_inside : List ℕ → ℕ → ℕ → Bool
is_inside memory address size = nat_le (address + size) (length memory)

abbrev pub loads : List ℕ → LoadKind → ℕ → Result ℕ Trap
loads memory kind address = cond (is_inside memory address (load_size kind)) (Ok (extended kind (number_of (take (load_size kind) (drop address memory))))) (Err trap.Bounds)

abbrev pub cost : Operation → ℕ
cost (Copy a) = 1
cost (IsZero kind a) = 2
cost (Compare kind o a b) = 3
cost (Unary kind o a) = 2
cost (Binary kind o a b) = 3
cost (Convert o a) = 2
cost (Load kind a offset) = 2
cost (Global x) = 1
cost Size = 1

abbrev pub result_of : {World : Type 0} → Operation → At World → Result ℕ Trap
result_of (Copy a) h = Ok (value_of a h.locals)
result_of (IsZero kind a) h = Ok (equals_zero kind (value_of a h.locals))
result_of (Compare kind o a b) h = Ok (compare kind o (value_of a h.locals) (value_of b h.locals))
result_of (Unary kind o a) h = Ok (unary kind o (value_of a h.locals))
result_of (Binary kind o a b) h = binary kind o (value_of a h.locals) (value_of b h.locals)
result_of (Convert o a) h = Ok (convert o (value_of a h.locals))
result_of (Load kind a offset) h = loads h.store.memory kind (low I32 (value_of a h.locals) + offset)
result_of (Global x) h = Ok (slice_index h.store.globals x)
result_of Size h = Ok (pages_of h.store.memory)

-- Changes of a state. Each takes steps.

abbrev pub spend : {World : Type 0} → ℕ → At World → At World
spend n h = record { spent = h.spent + n; store = h.store; locals = h.locals }

abbrev pub set_local : {World : Type 0} → ℕ → ℕ → At World → At World
set_local x v h = record { spent = h.spent; store = h.store; locals = slice_set h.locals x v }

abbrev pub set_global : {World : Type 0} → ℕ → ℕ → At World → At World
set_global x v h =
    record { spent = h.spent; store = record { memory = h.store.memory; globals = slice_set h.store.globals x v; table = h.store.table; refused = h.store.refused; world = h.store.world }; locals = h.locals }

abbrev pub set_memory : {World : Type 0} → List ℕ → At World → At World
set_memory memory h =
    record { spent = h.spent; store = record { memory = memory; globals = h.store.globals; table = h.store.table; refused = h.store.refused; world = h.store.world }; locals = h.locals }

-- The store of an execution in which the memory was refused to grow.
abbrev pub refused : {World : Type 0} → Store World → Store World
refused s = record { memory = s.memory; globals = s.globals; table = s.table; refused = true; world = s.world }

abbrev pub OnTest : Bool → Type 0 → Type 0 → Type 0
OnTest true P Q = P
OnTest false P Q = Q

abbrev pub OnResult : Result ℕ Trap → (ℕ → Type 0) → (Trap → Type 0) → Type 0
OnResult (Ok v) P Q = P v
OnResult (Err cause) P Q = Q cause

abbrev pub is_zero : ℕ → Bool
is_zero v = nat_eq (low I32 v) 0

-- Whether the memory may grow by so many pages.
abbrev pub may_grow : ℕ → List ℕ → ℕ → Bool
may_grow pages memory by = nat_le (pages_of memory + by) pages && nat_le (pages_of memory + by) 65536

abbrev pub after_block : {World : Type 0} → (At World → Type 0) → (CodeEnd World → Type 0) → CodeEnd World → Type 0
after_block r p (Next h) = r h
after_block r p (Leaps zero h) = r h
after_block r p (Leaps (suc label) h) = p (Leaps label h)
after_block r p (Yields h value) = p (Yields h value)
after_block r p (Stops cause spent store) = p (Stops cause spent store)

abbrev pub after_turn : {World : Type 0} → (At World → Type 0) → (CodeEnd World → Type 0) → CodeEnd World → Type 0
after_turn r p (Leaps zero h) = r h
after_turn r p (Leaps (suc label) h) = p (Leaps (suc label) h)
after_turn r p (Next h) = p (Next h)
after_turn r p (Yields h value) = p (Yields h value)
after_turn r p (Stops cause spent store) = p (Stops cause spent store)

-- At most so many turns.
abbrev pub Within : {World : Type 0} → ℕ → ((CodeEnd World → Type 0) → At World → Type 0) → (CodeEnd World → Type 0) → At World → Type 0
Within zero body p h = ⊥
Within (suc most) body p h = body (after_turn (Within most body p) p) (spend 1 h)

-- After a call that ends so, where r is to hold of what it gave.
abbrev pub after_call : {World : Type 0} → At World → (At World → Option ℕ → Type 0) → (CodeEnd World → Type 0) → CallEnd World → Type 0
after_call h r p (Comes cost store value) = r (record { spent = h.spent + cost; store = store; locals = h.locals }) value
after_call h r p (Dies cause cost store) = p (Stops cause (h.spent + cost) store)

-- The value of a call goes into the local, where it gives one.
abbrev pub ResultTo : {World : Type 0} → Option ℕ → (At World → Type 0) → At World → Option ℕ → Type 0
ResultTo None r h None = r h
ResultTo None r h (Some v) = ⊥
ResultTo (Some x) r h None = ⊥
ResultTo (Some x) r h (Some v) = r (spend 1 (set_local x v h))

-- Growth of the stable memory gives -1 where it is refused.
abbrev pub UnlessRefused : {World : Type 0} → (At World → Type 0) → (CodeEnd World → Type 0) → At World → Option ℕ → Type 0
UnlessRefused r p h None = ⊥
UnlessRefused r p h (Some v) = OnTest (nat_eq (low I64 v) (2 ^ 64 - 1)) (p (Stops trap.Unreachable (h.spent + 4) h.store)) (r (spend 3 h))

-- The function that an indirect call finds.
abbrev pub target_of : Module → ℕ → Option ℕ → Option ℕ
target_of m x None = None
target_of m x (Some f) = cond (same_type (type_of m f) (slice_get (all_types m) x)) (Some f) None

abbrev pub target : {World : Type 0} → Module → ℕ → Store World → ℕ → Option ℕ
target m x store v = target_of m x (entry (slice_get store.table (low I32 v)))

abbrev pub OnFound : Option ℕ → (ℕ → Type 0) → Type 0 → Type 0
OnFound None P Q = Q
OnFound (Some f) P Q = P f

module _ {World : Type 0} (pages : ℕ) (m : Module) (does : Contracts World) where
  abbrev pub Before : Code → (CodeEnd World → Type 0) → At World → Type 0
  Before Stop p h = p (Next h)
  Before (Return None) p h = p (Yields (spend 1 h) None)
  Before (Return (Some a)) p h = p (Yields (spend 2 h) (Some (value_of a h.locals)))
  Before (Branch label) p h = p (Leaps label (spend 1 h))
  Before (code.Trap a b) p h =
      does host_trap h.store (value_of a h.locals ∷ value_of b h.locals ∷ []) (after_call (spend 3 h) (λ k value. p (Stops trap.Unreachable (k.spent + 1) k.store)) p)
  Before (Set x o rest) p h = OnResult (result_of o h) (λ v. Before rest p (spend (cost o + 1) (set_local x v h))) (λ cause. p (Stops cause (h.spent + cost o) h.store))
  Before (SetGlobal x a rest) p h = Before rest p (spend 2 (set_global x (value_of a h.locals) h))
  Before (code.Store kind a offset b rest) p h =
      OnTest (is_inside h.store.memory (low I32 (value_of a h.locals) + offset) (store_size kind))
      (Before rest p (spend 3 (set_memory (written h.store.memory (low I32 (value_of a h.locals) + offset) (store_size kind) (value_of b h.locals)) h)))
      (p (Stops trap.Bounds (h.spent + 3) h.store))
  Before (Grow a rest) p h =
      OnTest (may_grow pages h.store.memory (low I32 (value_of a h.locals)))
      (Before rest p (spend 5 (set_memory (h.store.memory ++ replicate (65536 * low I32 (value_of a h.locals)) 0) h)))
      (p (Stops trap.Unreachable (h.spent + 6) (refused h.store)))
  Before (GrowStable a rest) p h = does stable_grow h.store (value_of a h.locals ∷ []) (after_call (spend 2 h) (UnlessRefused (Before rest p) p) p)
  Before (Block body rest) p h = Before body (after_block (Before rest p) p) (spend 1 h)
  Before (Loop body rest) p h = (most : ℕ) × Within most (Before body) (after_block (Before rest p) p) h
  Before (If a first second rest) p h =
      OnTest (is_zero (value_of a h.locals)) (Before second (after_block (Before rest p) p) (spend 2 h)) (Before first (after_block (Before rest p) p) (spend 2 h))
  Before (BranchIf a label rest) p h = OnTest (is_zero (value_of a h.locals)) (Before rest p (spend 2 h)) (p (Leaps label (spend 2 h)))
  Before (Call result f args rest) p h =
      does f h.store (reverse (values_of args h.locals [])) (after_call (spend (length args + 1) h) (ResultTo result (Before rest p)) p)
  Before (CallIndirect result x args a rest) p h =
      OnFound (target m x h.store (value_of a h.locals))
      (λ f. does f h.store (reverse (values_of args h.locals [])) (after_call (spend (length args + 2) h) (ResultTo result (Before rest p)) p))
      (p (Stops trap.Indirect (h.spent + (length args + 2)) h.store))

-- A call that ends so with its steps, and with more.
pub record ComesTo {World : Type 0} (calls : Calls World) (f : ℕ) (store : Store World) (args : List ℕ) (q : CallEnd World → Type 0) : Type 0 where
  pub end : CallEnd World
  pub holds : q end
  pub by : (left n : ℕ) → left ≡ cost_of end + n → calls f left store args ≡ called_of n end

-- The functions are as they are said to be.
abbrev pub Meets : {World : Type 0} → Calls World → Contracts World → Type 1
Meets {World = World} calls does = (f : ℕ) (store : Store World) (args : List ℕ) (q : CallEnd World → Type 0) → does f store args q → ComesTo calls f store args q

-- A routine begins with its arguments, and its other locals are 0.
abbrev pub begins : {World : Type 0} → Function → Store World → List ℕ → At World
begins fn store args = record { spent = 0; store = store; locals = args ++ replicate (length fn.locals) 0 }

-- What its caller sees of an end of its body.
abbrev pub ends : {World : Type 0} → FunctionType → (CallEnd World → Type 0) → CodeEnd World → Type 0
ends t q (Next h) = q (Comes h.spent h.store None)
ends t q (Leaps zero h) = q (Comes h.spent h.store None)
ends t q (Leaps (suc label) h) = ⊥
ends t q (Yields h value) = q (Comes h.spent h.store (kept (length t.results) value))
ends t q (Stops cause spent store) = q (Dies cause spent store)
