-- Calls and their frames, with the stack words that each frame takes in WebAssembly.
use Rattle.std.specs.Prelude.{ℕ, zero, suc, ◌+◌, ◌-◌, max, ◌++◌, length, replicate, Option, Some, None, nat_lt, cond}
use Rattle.wasm_tree.specs.declared.trap.Trap.TheVariants as trap
use Rattle.wasm_tree.specs.declared.types.FunctionType.{FunctionType}
use Rattle.wasm_tree.specs.Exec.{Store, HostAnswer, Answers, Refuses, Host}
use Rattle.low_ir.specs.declared.op.Operation.{Operation}
use Rattle.low_ir.specs.declared.op.Operation.TheVariants.{Copy, IsZero, Compare, Unary, Binary, Convert, Load, Global, Size}
use Rattle.low_ir.specs.Tree.{Code, Stop, Return, Branch, Trap, Set, SetGlobal, Store as Stores, Grow, GrowStable, Block, Loop, If, BranchIf, Call, CallIndirect, Function, Module}
use Rattle.low_ir.specs.Numbering.{type_of, defined}
use Rattle.low_ir.specs.Meaning.{Outcome, Ends, Jumps, Gives, Breaks, Astray, Called, Gave, Fell, Lost, Calls, run}

abbrev pub operands_of : Operation → ℕ
operands_of (Copy a) = 1
operands_of (IsZero kind a) = 1
operands_of (Compare kind o a b) = 2
operands_of (Unary kind o a) = 1
operands_of (Binary kind o a b) = 2
operands_of (Convert o a) = 1
operands_of (Load kind a offset) = 1
operands_of (Global x) = 1
operands_of Size = 1

-- how many values go into such a local
abbrev pub value_count : Option ℕ → ℕ
value_count None = 0
value_count (Some x) = 1

-- The most operands that an instruction has.
abbrev pub height : Code → ℕ
height Stop = 0
height (Return None) = 0
height (Return (Some a)) = 1
height (Branch label) = 0
height (Trap a b) = 2
height (Set x o rest) = max (operands_of o) (height rest)
height (SetGlobal x a rest) = max 1 (height rest)
height (Stores kind a offset b rest) = max 2 (height rest)
height (Grow a rest) = max 2 (height rest)
height (GrowStable a rest) = max 2 (height rest)
height (Block body rest) = max (height body) (height rest)
height (Loop body rest) = max (height body) (height rest)
height (If a first second rest) = max 1 (max (height first) (max (height second) (height rest)))
height (BranchIf a label rest) = max 1 (height rest)
height (Call result f args rest) = max (length args) (max (value_count result) (height rest))
height (CallIndirect result x args a rest) = max (1 + length args) (max (value_count result) (height rest))

-- How many constructs stand one in another. Growth tests what it gave inside one of its own.
abbrev pub depth : Code → ℕ
depth Stop = 0
depth (Return a) = 0
depth (Branch label) = 0
depth (Trap a b) = 0
depth (Set x o rest) = depth rest
depth (SetGlobal x a rest) = depth rest
depth (Stores kind a offset b rest) = depth rest
depth (Grow a rest) = max 1 (depth rest)
depth (GrowStable a rest) = max 1 (depth rest)
depth (Block body rest) = max (1 + depth body) (depth rest)
depth (Loop body rest) = max (1 + depth body) (depth rest)
depth (If a first second rest) = max (1 + depth first) (max (1 + depth second) (depth rest))
depth (BranchIf a label rest) = depth rest
depth (Call result f args rest) = depth rest
depth (CallIndirect result x args a rest) = depth rest

-- The stack words of a function's frame: 8, its parameters, its locals, its operands and its constructs.
abbrev pub words : FunctionType → Function → ℕ
words t fn = 8 + length t.params + length fn.locals + height fn.body + depth fn.body

-- The value, where the function has a result.
abbrev pub kept : ℕ → Option ℕ → Option ℕ
kept zero value = None
kept (suc results) value = value

-- What the caller has after a function of the module, and after one of the host.
abbrev pub finish : {World : Type 0} → FunctionType → Outcome World → Called World
finish t (Ends s) = Gave s.left s.store None
finish t (Jumps zero s) = Gave s.left s.store None
finish t (Jumps (suc label) s) = Lost
finish t (Gives s value) = Gave s.left s.store (kept (length t.results) value)
finish t (Breaks cause store) = Fell cause store
finish t Astray = Lost

abbrev pub host_gives : {World : Type 0} → ℕ → Store World → HostAnswer World → Called World
host_gives left store (Answers result memory world) =
    Gave left (record { memory = memory; globals = store.globals; table = store.table; refused = store.refused; world = world }) result
host_gives left store (Refuses world) =
    Fell trap.Host (record { memory = store.memory; globals = store.globals; table = store.table; refused = store.refused; world = world })

-- A call where room words are left for frames; inner are the calls that the function itself makes.
abbrev pub enter_as : {World : Type 0} → ℕ → Module → Host World → ℕ → (ℕ → Calls World) → Option FunctionType → Option Function → Calls World
enter_as pages m host room inner None found f left store args = Lost
enter_as pages m host room inner (Some t) None f left store args = host_gives left store (host f args store.memory store.world)
enter_as pages m host room inner (Some t) (Some fn) f left store args =
    cond (nat_lt room (words t fn)) (Fell trap.Stack store)
    (finish t (run pages m (inner (room - words t fn)) fn.body (record { left = left; store = store; locals = args ++ replicate (length fn.locals) 0 })))

-- Calls one in another to a depth. Each frame takes words, so that the words end before a depth of their number does.
abbrev pub enter : {World : Type 0} → ℕ → ℕ → Module → Host World → ℕ → Calls World
enter zero pages m host room f left store args = Fell trap.Stack store
enter (suc deep) pages m host room f left store args =
    enter_as pages m host room (λ room. enter deep pages m host room) (type_of m f) (defined m f) f left store args
