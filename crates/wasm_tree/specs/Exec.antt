-- The meaning of code: WebAssembly Core 1.0 section 4, with the steps and the stack words counted that a host
-- hands to an execution. By recursion on the tree; there are no labels, frames or program counters here.
use Rattle.std.specs.Prelude.{ℕ, zero, suc, ◌+◌, ◌-◌, ◌*◌, ◌/◌, ◌%◌, ◌^◌, List, [], ◌∷◌, ◌++◌, length, take, drop, replicate, Bool, true, false, ◌&&◌, Option, Some, None, nat_lt, nat_le, nat_eq, cond, slice_get, slice_index, slice_set, ℤ, pos, negsuc, Result, Ok, Err}
use Rattle.wasm_tree.specs.declared.trap.Trap.{Trap}
use Rattle.wasm_tree.specs.declared.trap.Trap.TheVariants as trap
use Rattle.wasm_tree.specs.declared.types.ValueType.{ValueType}
use Rattle.wasm_tree.specs.declared.types.ValueType.TheVariants.{I32, I64}
use Rattle.wasm_tree.specs.declared.types.FunctionType.{FunctionType}
use Rattle.wasm_tree.specs.declared.types.Limits.{Limits}
use Rattle.wasm_tree.specs.declared.op.LoadKind.{LoadKind}
use Rattle.wasm_tree.specs.declared.op.LoadKind.TheVariants as load
use Rattle.wasm_tree.specs.declared.op.StoreKind.{StoreKind}
use Rattle.wasm_tree.specs.declared.op.StoreKind.TheVariants as store
use Rattle.wasm_tree.specs.declared.op.Plain.{Plain}
use Rattle.wasm_tree.specs.declared.op.Plain.TheVariants as plain
use Rattle.wasm_tree.specs.declared.module_parts.Module.{Module}
use Rattle.wasm_tree.specs.Code.{Code, Stop, Then, Unreachable, Block, Loop, If, IfElse, Br, BrIf, BrTable, Return, Call, CallIndirect}
use Rattle.wasm_tree.specs.Rules.{results_of}
pub use Rattle.wasm_tree.specs.Rules.{type_of}
use Rattle.wasm_tree.specs.Numeric.{low, unsigned, equals_zero, compare, unary, binary, convert}

-- What a host hands to each execution: steps, pages of memory and stack words.
pub record ExecutionLimits : Type 0 where
  pub steps : ℕ
  pub pages : ℕ
  pub stack : ℕ

-- What an execution reads and changes (section 4.2.3), and whether the memory was refused to grow in it. The world is
-- the state of the host.
pub record Store (World : Type 0) : Type 0 where
  pub memory : List ℕ
  pub globals : List ℕ
  pub table : List (Option ℕ)
  pub refused : Bool
  pub world : World

-- What an imported function does: it gives a result, if its type has one, a memory and a world, or it traps.
pub data HostAnswer (World : Type 0) : Type 0 where
  Answers : Option ℕ → List ℕ → World → HostAnswer World
  Refuses : World → HostAnswer World

-- The host: imported function, arguments in order, memory, world.
abbrev pub Host : Type 0 → Type 0
Host World = ℕ → List ℕ → List ℕ → World → HostAnswer World

-- What the parts of an execution change: the steps left, the store, and the locals.
pub record State (World : Type 0) : Type 0 where
  pub left : ℕ
  pub store : Store World
  pub locals : List ℕ

-- How a sequence of instructions ends, with the operands of its block: it reaches its end, branches outward to a
-- label, returns, or traps. Stuck is no outcome of validated code.
pub data Outcome (World : Type 0) : Type 0 where
  Falls : State World → List ℕ → Outcome World
  Branches : ℕ → State World → List ℕ → Outcome World
  Returns : State World → List ℕ → Outcome World
  Traps : Trap → Store World → Outcome World
  Stuck : Outcome World

-- How a call ends: with steps left and the caller's operands, or with a trap.
pub data Called (World : Type 0) : Type 0 where
  Back : ℕ → Store World → List ℕ → Called World
  Fell : Trap → Store World → Called World
  Lost : Called World

-- Functions as their callers see them: function, steps left, store, operands with the arguments on top.
abbrev pub Calls : Type 0 → Type 0
Calls World = ℕ → ℕ → Store World → List ℕ → Called World

-- The bits of a signed number of 32 and of 64 bits.
abbrev pub bits32 : ℤ → ℕ
bits32 (pos n) = n
bits32 (negsuc n) = 2 ^ 32 - 1 - n

abbrev pub bits64 : ℤ → ℕ
bits64 (pos n) = n
bits64 (negsuc n) = 2 ^ 64 - 1 - n

-- Changes of a state.

abbrev pub with_memory : {World : Type 0} → State World → List ℕ → State World
with_memory s memory = record { left = s.left; store = record { memory = memory; globals = s.store.globals; table = s.store.table; refused = s.store.refused; world = s.store.world }; locals = s.locals }

abbrev pub with_refusal : {World : Type 0} → State World → State World
with_refusal s = record { left = s.left; store = record { memory = s.store.memory; globals = s.store.globals; table = s.store.table; refused = true; world = s.store.world }; locals = s.locals }

abbrev pub with_global : {World : Type 0} → State World → ℕ → ℕ → State World
with_global s x value = record { left = s.left; store = record { memory = s.store.memory; globals = slice_set s.store.globals x value; table = s.store.table; refused = s.store.refused; world = s.store.world }; locals = s.locals }

abbrev pub with_local : {World : Type 0} → State World → ℕ → ℕ → State World
with_local s x value = record { left = s.left; store = s.store; locals = slice_set s.locals x value }

-- Memory, sections 4.4.4. Bytes stand in little endian.

abbrev pub number_of : List ℕ → ℕ
number_of [] = 0
number_of (b ∷ bs) = b + 256 * number_of bs

abbrev pub bytes_of : ℕ → ℕ → List ℕ
bytes_of zero n = []
bytes_of (suc count) n = n % 256 ∷ bytes_of count (n / 256)

abbrev pub load_size : LoadKind → ℕ
load_size load.I32 = 4
load_size load.I64 = 8
load_size load.I32From8S = 1
load_size load.I32From8U = 1
load_size load.I32From16S = 2
load_size load.I32From16U = 2
load_size load.I64From8S = 1
load_size load.I64From8U = 1
load_size load.I64From16S = 2
load_size load.I64From16U = 2
load_size load.I64From32S = 4
load_size load.I64From32U = 4

-- the number of so many bits as a signed one
abbrev pub sign : ℕ → ℕ → ℤ
sign bits n = cond (nat_lt n (2 ^ (bits - 1))) (pos n) (negsuc (2 ^ bits - 1 - n))

-- the integer of the bytes that were read
abbrev pub extended : LoadKind → ℕ → ℕ
extended load.I32 n = n
extended load.I64 n = n
extended load.I32From8S n = unsigned I32 (sign 8 n)
extended load.I32From8U n = n
extended load.I32From16S n = unsigned I32 (sign 16 n)
extended load.I32From16U n = n
extended load.I64From8S n = unsigned I64 (sign 8 n)
extended load.I64From8U n = n
extended load.I64From16S n = unsigned I64 (sign 16 n)
extended load.I64From16U n = n
extended load.I64From32S n = unsigned I64 (sign 32 n)
extended load.I64From32U n = n

abbrev pub store_size : StoreKind → ℕ
store_size store.I32 = 4
store_size store.I64 = 8
store_size store.I32To8 = 1
store_size store.I32To16 = 2
store_size store.I64To8 = 1
store_size store.I64To16 = 2
store_size store.I64To32 = 4

-- What a plain instruction does: it goes on with a state and operands, the topmost first, or traps; or it finds no
-- operands.
pub data Did (World : Type 0) : Type 0 where
  Goes : State World → List ℕ → Did World
  Fails : Trap → Did World
  Lacks : Did World

abbrev pub unary_did : {World : Type 0} → (ℕ → ℕ) → State World → List ℕ → Did World
unary_did f s [] = Lacks
unary_did f s (x ∷ operands) = Goes s (f x ∷ operands)

abbrev pub or_fails : {World : Type 0} → State World → Result ℕ Trap → List ℕ → Did World
or_fails s (Ok value) operands = Goes s (value ∷ operands)
or_fails s (Err cause) operands = Fails cause

abbrev pub binary_did : {World : Type 0} → (ℕ → ℕ → Result ℕ Trap) → State World → List ℕ → Did World
binary_did f s [] = Lacks
binary_did f s (y ∷ []) = Lacks
binary_did f s (y ∷ x ∷ operands) = or_fails s (f x y) operands

abbrev pub select_did : {World : Type 0} → State World → List ℕ → Did World
select_did s [] = Lacks
select_did s (c ∷ []) = Lacks
select_did s (c ∷ y ∷ []) = Lacks
select_did s (c ∷ y ∷ x ∷ operands) = Goes s (cond (nat_eq (low I32 c) 0) y x ∷ operands)

abbrev pub with_top : {World : Type 0} → List ℕ → (ℕ → List ℕ → Did World) → Did World
with_top [] next = Lacks
with_top (x ∷ operands) next = next x operands

abbrev pub load_at : {World : Type 0} → State World → LoadKind → ℕ → List ℕ → Did World
load_at s kind address operands =
    cond (nat_le (address + load_size kind) (length s.store.memory))
    (Goes s (extended kind (number_of (take (load_size kind) (drop address s.store.memory))) ∷ operands))
    (Fails trap.Bounds)

abbrev pub store_at : {World : Type 0} → State World → StoreKind → ℕ → ℕ → List ℕ → Did World
store_at s kind address value operands =
    cond (nat_le (address + store_size kind) (length s.store.memory))
    (Goes (with_memory s (take address s.store.memory ++ bytes_of (store_size kind) value ++ drop (address + store_size kind) s.store.memory)) operands)
    (Fails trap.Bounds)

abbrev pub store_did : {World : Type 0} → State World → StoreKind → ℕ → List ℕ → Did World
store_did s kind offset [] = Lacks
store_did s kind offset (value ∷ []) = Lacks
store_did s kind offset (value ∷ x ∷ operands) = store_at s kind (low I32 x + offset) value operands

abbrev pub pages_of : List ℕ → ℕ
pages_of memory = length memory / 65536

-- The most pages of the module's memory.
abbrev pub most_pages : List Limits → ℕ
most_pages [] = 0
most_pages (l ∷ ls) = or_all l.max
  where
    or_all : Option ℕ → ℕ
    or_all None = 65536
    or_all (Some most) = most

-- The memory grows by bytes that are 0, exactly up to the host's limit and the module's own; else the answer is -1.
abbrev pub grow : {World : Type 0} → ExecutionLimits → Module → State World → ℕ → List ℕ → Did World
grow limits m s by operands =
    cond (nat_le (pages_of s.store.memory + by) limits.pages && nat_le (pages_of s.store.memory + by) (most_pages m.memories))
    (Goes (with_memory s (s.store.memory ++ replicate (65536 * by) 0)) (pages_of s.store.memory ∷ operands))
    (Goes (with_refusal s) ((2 ^ 32 - 1) ∷ operands))

abbrev pub act : {World : Type 0} → ExecutionLimits → Module → Plain → State World → List ℕ → Did World
act limits m plain.Nop s operands = Goes s operands
act limits m plain.Drop s operands = with_top operands (λ x rest. Goes s rest)
act limits m plain.Select s operands = select_did s operands
act limits m (plain.LocalGet x) s operands = Goes s (slice_index s.locals x ∷ operands)
act limits m (plain.LocalSet x) s operands = with_top operands (λ v rest. Goes (with_local s x v) rest)
act limits m (plain.LocalTee x) s operands = with_top operands (λ v rest. Goes (with_local s x v) (v ∷ rest))
act limits m (plain.GlobalGet x) s operands = Goes s (slice_index s.store.globals x ∷ operands)
act limits m (plain.GlobalSet x) s operands = with_top operands (λ v rest. Goes (with_global s x v) rest)
act limits m (plain.Load kind a) s operands = with_top operands (λ x rest. load_at s kind (low I32 x + a.offset) rest)
act limits m (plain.Store kind a) s operands = store_did s kind a.offset operands
act limits m plain.MemorySize s operands = Goes s (pages_of s.store.memory ∷ operands)
act limits m plain.MemoryGrow s operands = with_top operands (λ by rest. grow limits m s (low I32 by) rest)
act limits m (plain.I32Const z) s operands = Goes s (bits32 z ∷ operands)
act limits m (plain.I64Const z) s operands = Goes s (bits64 z ∷ operands)
act limits m (plain.EqualsZero kind) s operands = unary_did (equals_zero kind) s operands
act limits m (plain.Compare kind c) s operands = binary_did (λ x y. Ok (compare kind c x y)) s operands
act limits m (plain.Unary kind o) s operands = unary_did (unary kind o) s operands
act limits m (plain.Binary kind o) s operands = binary_did (binary kind o) s operands
act limits m (plain.Convert c) s operands = unary_did (convert c) s operands

-- Each instruction takes a step; the one past the limit traps.
abbrev pub tick_of : {World : Type 0} → ℕ → State World → (State World → Outcome World) → Outcome World
tick_of zero s next = Traps trap.Steps s.store
tick_of (suc left) s next = next (record { left = left; store = s.store; locals = s.locals })

abbrev pub tick : {World : Type 0} → State World → (State World → Outcome World) → Outcome World
tick s next = tick_of s.left s next

abbrev pub then_do : {World : Type 0} → State World → Did World → (State World → List ℕ → Outcome World) → Outcome World
then_do before (Goes s operands) next = next s operands
then_do before (Fails cause) next = Traps cause before.store
then_do before Lacks next = Stuck

-- After a block with so many results, over the operands below it.
abbrev pub leave : {World : Type 0} → ℕ → List ℕ → Outcome World → (State World → List ℕ → Outcome World) → Outcome World
leave keep below (Falls s values) next = next s (values ++ below)
leave keep below (Branches zero s values) next = next s (take keep values ++ below)
leave keep below (Branches (suc label) s values) next = Branches label s values
leave keep below (Returns s values) next = Returns s values
leave keep below (Traps cause store) next = Traps cause store
leave keep below Stuck next = Stuck

-- A branch to a loop begins it again.
abbrev pub again : {World : Type 0} → Outcome World → (State World → Outcome World) → Outcome World
again (Branches zero s values) next = next s
again (Branches (suc label) s values) next = Branches (suc label) s values
again (Falls s values) next = Falls s values
again (Returns s values) next = Returns s values
again (Traps cause store) next = Traps cause store
again Stuck next = Stuck

-- At most so many turns of a loop, of which each takes a step.
abbrev pub turns : {World : Type 0} → ℕ → (State World → Outcome World) → State World → Outcome World
turns zero body s = Traps trap.Steps s.store
turns (suc most) body s = tick s (λ s. again (body s) (turns most body))

abbrev pub on_top : {World : Type 0} → List ℕ → (ℕ → List ℕ → Outcome World) → Outcome World
on_top [] next = Stuck
on_top (v ∷ operands) next = next v operands

-- the first where the bits of an i32 are 0, else the second
abbrev pub if_zero : {A : Type 0} → ℕ → A → A → A
if_zero v first second = cond (nat_eq (low I32 v) 0) first second

-- the label of this place, or the last one
abbrev pub label_at : List ℕ → ℕ → ℕ → ℕ
label_at [] last place = last
label_at (l ∷ labels) last zero = l
label_at (l ∷ labels) last (suc place) = label_at labels last place

abbrev pub after_call : {World : Type 0} → List ℕ → Called World → (State World → List ℕ → Outcome World) → Outcome World
after_call locals (Back left store operands) next = next (record { left = left; store = store; locals = locals }) operands
after_call locals (Fell cause store) next = Traps cause store
after_call locals Lost next = Stuck

-- An indirect call: of the table's function at a place, where its type is the one asked for.
abbrev pub same_kind : ValueType → ValueType → Bool
same_kind I32 I32 = true
same_kind I32 I64 = false
same_kind I64 I32 = false
same_kind I64 I64 = true

abbrev pub same_kinds : List ValueType → List ValueType → Bool
same_kinds [] [] = true
same_kinds [] (k ∷ ks) = false
same_kinds (j ∷ js) [] = false
same_kinds (j ∷ js) (k ∷ ks) = same_kind j k && same_kinds js ks

abbrev pub same_type : Option FunctionType → Option FunctionType → Bool
same_type None t = false
same_type (Some s) None = false
same_type (Some s) (Some t) = same_kinds s.params t.params && same_kinds s.results t.results

abbrev pub entry : Option (Option ℕ) → Option ℕ
entry None = None
entry (Some found) = found

abbrev pub indirect : {World : Type 0} → Module → ℕ → Option ℕ → State World → (ℕ → Outcome World) → Outcome World
indirect m x None s next = Traps trap.Indirect s.store
indirect m x (Some f) s next = cond (same_type (type_of m f) (slice_get m.types x)) (next f) (Traps trap.Indirect s.store)

-- From a state and operands, the topmost first.
abbrev pub exec : {World : Type 0} → ExecutionLimits → Module → Calls World → Code → State World → List ℕ → Outcome World
exec limits m calls Stop s operands = Falls s operands
exec limits m calls (Then p rest) s operands = tick s (λ s. then_do s (act limits m p s operands) (exec limits m calls rest))
exec limits m calls (Unreachable rest) s operands = tick s (λ s. Traps trap.Unreachable s.store)
exec limits m calls (Block kind body rest) s operands =
    tick s (λ s. leave (length (results_of kind)) operands (exec limits m calls body s []) (exec limits m calls rest))
exec limits m calls (Loop kind body rest) s operands =
    leave (length (results_of kind)) operands (turns (suc s.left) (λ s. exec limits m calls body s []) s) (exec limits m calls rest)
exec limits m calls (If kind first rest) s operands =
    tick s (λ s. on_top operands (λ v below. leave (length (results_of kind)) below (if_zero v (Falls s []) (exec limits m calls first s [])) (exec limits m calls rest)))
exec limits m calls (IfElse kind first second rest) s operands =
    tick s (λ s. on_top operands (λ v below. leave (length (results_of kind)) below (if_zero v (exec limits m calls second s []) (exec limits m calls first s [])) (exec limits m calls rest)))
exec limits m calls (Br label rest) s operands = tick s (λ s. Branches label s operands)
exec limits m calls (BrIf label rest) s operands =
    tick s (λ s. on_top operands (λ v below. if_zero v (exec limits m calls rest s below) (Branches label s below)))
exec limits m calls (BrTable labels last rest) s operands =
    tick s (λ s. on_top operands (λ v below. Branches (label_at labels last (low I32 v)) s below))
exec limits m calls (Return rest) s operands = tick s (λ s. Returns s operands)
exec limits m calls (Call f rest) s operands = tick s (λ s. after_call s.locals (calls f s.left s.store operands) (exec limits m calls rest))
exec limits m calls (CallIndirect x rest) s operands =
    tick s (λ s. on_top operands (λ v below. indirect m x (entry (slice_get s.store.table (low I32 v))) s
    (λ f. after_call s.locals (calls f s.left s.store below) (exec limits m calls rest))))
