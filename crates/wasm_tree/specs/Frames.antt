-- Calls and their frames: WebAssembly Core 1.0 section 4.4.7, with the stack words that each frame takes.
use Rattle.std.specs.Prelude.{ℕ, zero, suc, ◌+◌, ◌-◌, max, List, [], ◌∷◌, ◌++◌, length, take, drop, reverse, replicate, Option, Some, None, nat_lt, cond, slice_get, slice_index}
use Rattle.wasm_tree.specs.declared.trap.Trap.TheVariants as trap
use Rattle.wasm_tree.specs.declared.types.FunctionType.{FunctionType}
use Rattle.wasm_tree.specs.declared.op.Plain.{Plain}
use Rattle.wasm_tree.specs.declared.op.Plain.TheVariants as plain
use Rattle.wasm_tree.specs.declared.module_parts.Function.{Function}
use Rattle.wasm_tree.specs.declared.module_parts.Module.{Module}
use Rattle.wasm_tree.specs.Code.{Code, Stop, Then, Unreachable, Block, Loop, If, IfElse, Br, BrIf, BrTable, Return, Call, CallIndirect}
use Rattle.wasm_tree.specs.Tree.{tree_of}
use Rattle.wasm_tree.specs.Rules.{imported_signatures, grouped, results_of, type_of}
use Rattle.wasm_tree.specs.Exec.{ExecutionLimits, Store, HostAnswer, Answers, Refuses, Host, Outcome, Falls, Branches, Returns, Traps, Stuck, Called, Back, Fell, Lost, Calls, exec}

abbrev pub imported_count : Module → ℕ
imported_count m = length (imported_signatures m.imports)

-- The function with this index, where the module defines it.
abbrev pub defined : Module → ℕ → Option Function
defined m f = cond (nat_lt f (imported_count m)) None (slice_get m.functions (f - imported_count m))

abbrev pub params_count : Option FunctionType → ℕ
params_count None = 0
params_count (Some t) = length t.params

abbrev pub results_count : Option FunctionType → ℕ
results_count None = 0
results_count (Some t) = length t.results

-- How many operands a plain instruction takes, and how many it gives.
abbrev pub taken : Plain → ℕ
taken plain.Nop = 0
taken plain.Drop = 1
taken plain.Select = 3
taken (plain.LocalGet x) = 0
taken (plain.LocalSet x) = 1
taken (plain.LocalTee x) = 1
taken (plain.GlobalGet x) = 0
taken (plain.GlobalSet x) = 1
taken (plain.Load kind a) = 1
taken (plain.Store kind a) = 2
taken plain.MemorySize = 0
taken plain.MemoryGrow = 1
taken (plain.I32Const z) = 0
taken (plain.I64Const z) = 0
taken (plain.EqualsZero kind) = 1
taken (plain.Compare kind o) = 2
taken (plain.Unary kind o) = 1
taken (plain.Binary kind o) = 2
taken (plain.Convert c) = 1

abbrev pub given : Plain → ℕ
given plain.Nop = 0
given plain.Drop = 0
given plain.Select = 1
given (plain.LocalGet x) = 1
given (plain.LocalSet x) = 0
given (plain.LocalTee x) = 1
given (plain.GlobalGet x) = 1
given (plain.GlobalSet x) = 0
given (plain.Load kind a) = 1
given (plain.Store kind a) = 0
given plain.MemorySize = 1
given plain.MemoryGrow = 1
given (plain.I32Const z) = 1
given (plain.I64Const z) = 1
given (plain.EqualsZero kind) = 1
given (plain.Compare kind o) = 1
given (plain.Unary kind o) = 1
given (plain.Binary kind o) = 1
given (plain.Convert c) = 1

-- The greatest operand height in the code, whose block begins at base and which begins with height operands of the
-- block. The labels are how many values a branch to each takes, the innermost first. After an instruction that never
-- goes on, the height is that of the block's begin. A pop that would go below it takes nothing, and what an instruction
-- gives still counts: a `br_if` takes an operand and what its label takes, and gives the latter back.
abbrev pub peak : Module → List ℕ → ℕ → ℕ → Code → ℕ
peak m labels base height Stop = base + height
peak m labels base height (Then p rest) = max (base + height) (peak m labels base (height - taken p + given p) rest)
peak m labels base height (Unreachable rest) = max (base + height) (peak m labels base 0 rest)
peak m labels base height (Block kind body rest) =
    max (peak m (length (results_of kind) ∷ labels) (base + height) 0 body) (peak m labels base (height + length (results_of kind)) rest)
peak m labels base height (Loop kind body rest) = max (peak m (0 ∷ labels) (base + height) 0 body) (peak m labels base (height + length (results_of kind)) rest)
peak m labels base height (If kind first rest) =
    max (base + height) (max (peak m (length (results_of kind) ∷ labels) (base + (height - 1)) 0 first) (peak m labels base (height - 1 + length (results_of kind)) rest))
peak m labels base height (IfElse kind first second rest) =
    max (base + height) (max (peak m (length (results_of kind) ∷ labels) (base + (height - 1)) 0 first)
    (max (peak m (length (results_of kind) ∷ labels) (base + (height - 1)) 0 second) (peak m labels base (height - 1 + length (results_of kind)) rest)))
peak m labels base height (Br label rest) = max (base + height) (peak m labels base 0 rest)
peak m labels base height (BrIf label rest) = max (base + height) (peak m labels base (height - (1 + slice_index labels label) + slice_index labels label) rest)
peak m labels base height (BrTable targets last rest) = max (base + height) (peak m labels base 0 rest)
peak m labels base height (Return rest) = max (base + height) (peak m labels base 0 rest)
peak m labels base height (Call f rest) = max (base + height) (peak m labels base (height - params_count (type_of m f) + results_count (type_of m f)) rest)
peak m labels base height (CallIndirect x rest) =
    max (base + height) (peak m labels base (height - 1 - params_count (slice_get m.types x) + results_count (slice_get m.types x)) rest)

-- How many blocks stand one in another.
abbrev pub nesting : Code → ℕ
nesting Stop = 0
nesting (Then p rest) = nesting rest
nesting (Unreachable rest) = nesting rest
nesting (Block kind body rest) = max (1 + nesting body) (nesting rest)
nesting (Loop kind body rest) = max (1 + nesting body) (nesting rest)
nesting (If kind first rest) = max (1 + nesting first) (nesting rest)
nesting (IfElse kind first second rest) = max (1 + nesting first) (max (1 + nesting second) (nesting rest))
nesting (Br label rest) = nesting rest
nesting (BrIf label rest) = nesting rest
nesting (BrTable labels last rest) = nesting rest
nesting (Return rest) = nesting rest
nesting (Call f rest) = nesting rest
nesting (CallIndirect x rest) = nesting rest

-- The stack words of a function's frame: 8, its parameters, its locals, its operands and its blocks. The outermost
-- label takes the function's results.
abbrev pub frame_words : Module → FunctionType → Function → ℕ
frame_words m t f = 8 + length t.params + length (grouped f.locals) + peak m (length t.results ∷ []) 0 0 (tree_of f.body) + nesting (tree_of f.body)

abbrev pub arguments : FunctionType → List ℕ → List ℕ
arguments t operands = reverse (take (length t.params) operands)

abbrev pub optional : Option ℕ → List ℕ
optional None = []
optional (Some value) = value ∷ []

-- What the caller has after a function of the module, and after one of the host.
abbrev pub return_to : {World : Type 0} → FunctionType → List ℕ → Outcome World → Called World
return_to t operands (Falls s values) = Back s.left s.store (take (length t.results) values ++ drop (length t.params) operands)
return_to t operands (Branches zero s values) = Back s.left s.store (take (length t.results) values ++ drop (length t.params) operands)
return_to t operands (Branches (suc label) s values) = Lost
return_to t operands (Returns s values) = Back s.left s.store (take (length t.results) values ++ drop (length t.params) operands)
return_to t operands (Traps cause store) = Fell cause store
return_to t operands Stuck = Lost

abbrev pub host_returns : {World : Type 0} → FunctionType → List ℕ → ℕ → Store World → HostAnswer World → Called World
host_returns t operands left store (Answers result memory world) =
    Back left (record { memory = memory; globals = store.globals; table = store.table; refused = store.refused; world = world }) (optional result ++ drop (length t.params) operands)
host_returns t operands left store (Refuses world) =
    Fell trap.Host (record { memory = store.memory; globals = store.globals; table = store.table; refused = store.refused; world = world })

-- A call where room words are left for frames; inner are the calls that the function itself makes.
abbrev pub enter_as : {World : Type 0} → ExecutionLimits → Module → Host World → ℕ → (ℕ → Calls World) → Option FunctionType → Option Function → Calls World
enter_as limits m host room inner None found f left store operands = Lost
enter_as limits m host room inner (Some t) None f left store operands = host_returns t operands left store (host f (arguments t operands) store.memory store.world)
enter_as limits m host room inner (Some t) (Some fn) f left store operands =
    cond (nat_lt room (frame_words m t fn)) (Fell trap.Stack store)
    (return_to t operands (exec limits m (inner (room - frame_words m t fn)) (tree_of fn.body)
    (record { left = left; store = store; locals = arguments t operands ++ replicate (length (grouped fn.locals)) 0 }) []))

-- Calls one in another to a depth. Each frame takes words, so that the words end before a depth of their number does.
abbrev pub enter : {World : Type 0} → ℕ → ExecutionLimits → Module → Host World → ℕ → Calls World
enter zero limits m host room f left store operands = Fell trap.Stack store
enter (suc depth) limits m host room f left store operands =
    enter_as limits m host room (λ room. enter depth limits m host room) (type_of m f) (defined m f) f left store operands

-- One execution: a function without parameters, in a store, under the limits.
abbrev pub execute : {World : Type 0} → ExecutionLimits → Module → Host World → ℕ → Store World → Called World
execute limits m host f store = enter (suc limits.stack) limits m host limits.stack f limits.steps store []
