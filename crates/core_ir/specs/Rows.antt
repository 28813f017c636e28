-- The activations of the examples, and what they are to show: worked out by hand from the language manual's rules.
use Rattle.std.specs.Prelude.{ℕ, List, [], ◌∷◌, ◌++◌, map, replicate, false, Option, Some, None, codes}
use Rattle.mo_types.specs.declared.datum.Datum.TheVariants as part
use Rattle.mo_types.specs.declared.node.TypeId.{TypeId}
use Rattle.mo_types.specs.Calls.{CallTable, Open, no_calls}
use Rattle.mo_values.specs.declared.error_code.ErrorCode.TheVariants as code
use Rattle.mo_values.specs.Shapes.{Bytes, Error, Tuple, Made, NoShape, shapes, leaf}
use Rattle.core_ir.specs.Values.{Value, number, array}
use Rattle.core_ir.specs.Programs.{Method}
use Rattle.core_ir.specs.Worlds.{Given, Gets, Throws, Request, World, Context}
use Rattle.core_ir.specs.Executions.{Entry, Begins, Saves, Starts, Machine}
use Rattle.core_ir.specs.Expressions.{Body}
use Rattle.core_ir.specs.Examples.{examples, other}
use Rattle.core_ir.specs.Drives.{Shown, Seen, Verdict, Replied, Rejected, Waiting, executions, shown}

-- the principal of the actor
abbrev pub own : Bytes
own = 9 ∷ []

-- `DIDL` and no types; the values of messages play no part here
abbrev pub bytes_of : List TypeId → List Value → Option Bytes
bytes_of types vs = Some (68 ∷ 73 ∷ 68 ∷ 76 ∷ 0 ∷ 0 ∷ [])

abbrev pub names : List Value
names = leaf (part.Actor own) ∷ (map (λ (m : Method Body). leaf (part.Method own m.name)) examples.methods ++ leaf (part.Actor other) ∷ [])

abbrev pub context_with : CallTable (List TypeId) Given → Context
context_with table = record { head = examples.head; message = λ types vs. bytes_of types vs; own = own; table = table; globals = names }

abbrev pub empty : World
empty = record { store = []; groups = []; requests = [] }

-- an activation: the calls that were open before it, how it begins, and the answers that it is given
pub record Row : Type 0 where
  pub opened : ℕ
  pub method : ℕ
  pub arguments : List Value
  pub answers : List Given
  pub wanted : List Shown

abbrev pub table_with : ℕ → CallTable (List TypeId) Given
table_with n = record { first = 0; calls = replicate n (record { owner = 0; results = []; resumes = None; state = Open }) }

-- the row by a machine, whose executions take at most so many steps
abbrev pub played : {S W : Type 0} → Machine S W → ℕ → Row → List Seen
played m steps r = executions m steps r.answers (context_with (table_with r.opened)) empty (Begins r.method (4 ∷ []) r.arguments)

abbrev pub answers : {S W : Type 0} → Machine S W → ℕ → List Row → List (List Shown)
answers m steps [] = []
answers m steps (r ∷ rs) = shown (played m steps r) ∷ answers m steps rs

abbrev pub wanted : List Row → List (List Shown)
wanted [] = []
wanted (r ∷ rs) = r.wanted ∷ wanted rs

-- ---- what is shown

abbrev pub shows : List Bytes → List Request → List Value → Verdict → Shown
shows prints requests cells v = record { prints = prints; requests = requests; cells = cells; verdict = v }

abbrev pub asks : Request
asks = record { callee = other; method = codes "g"; argument = 68 ∷ 73 ∷ 68 ∷ 76 ∷ 0 ∷ 0 ∷ []; results = record { index = 0 } ∷ []; resumes = None }

abbrev pub resumes : ℕ → Request
resumes n = record { callee = own; method = codes "__resume"; argument = 68 ∷ 73 ∷ 68 ∷ 76 ∷ 0 ∷ 0 ∷ []; results = []; resumes = Some n }

-- it waits on the call of this number, which it has just made
abbrev pub waits_on : ℕ → List Bytes → List Value → Shown
waits_on n prints cells = shows prints (asks ∷ []) cells (Waiting (Some n))

abbrev pub replies : List Bytes → List Value → Value → Shown
replies prints cells v = shows prints [] cells (Replied v)

abbrev pub gets : ℕ → Given
gets n = Gets (number n)

abbrev pub fails : Given
fails = Throws (Made (Error code.CanisterReject (codes "no")) NoShape)

abbrev pub text_value : Bytes → Value
text_value t = leaf (part.Text t)

abbrev pub row : ℕ → List Value → List Given → List Shown → Row
row m vs given shown = record { opened = 0; method = m; arguments = vs; answers = given; wanted = shown }

-- ---- awaits

abbrev pub await_rows : List Row
await_rows =
    -- an await in an argument, in a loop, under a handler and a label
    row 0 [] (gets 5 ∷ fails ∷ gets 30 ∷ [])
    (waits_on 0 [] (number 0 ∷ number 0 ∷ [])
    ∷ waits_on 1 [] (number 1 ∷ number 5 ∷ [])
    ∷ waits_on 2 (codes "no" ∷ []) (number 2 ∷ number 12 ∷ [])
    ∷ replies (codes "63" ∷ []) (number 2 ∷ number 62 ∷ []) (number 63) ∷ [])
    -- a future that is awaited twice: the second time the actor calls itself
    ∷ row 1 [] (gets 5 ∷ gets 6 ∷ [])
    (waits_on 0 [] [] ∷ shows [] (resumes 0 ∷ []) [] (Waiting (Some 1)) ∷ replies [] [] (number 11) ∷ [])
    -- awaits in the arguments of calls, from left to right
    ∷ row 3 [] (gets 5 ∷ gets 7 ∷ []) (waits_on 0 [] [] ∷ waits_on 1 [] [] ∷ replies [] [] (number 122) ∷ [])
    -- a loop that goes on before its end, behind an await
    ∷ row 4 [] (gets 4 ∷ gets 5 ∷ gets 6 ∷ [])
    (waits_on 0 [] (number 1 ∷ number 0 ∷ [])
    ∷ waits_on 1 [] (number 2 ∷ number 4 ∷ [])
    ∷ waits_on 2 [] (number 3 ∷ number 4 ∷ [])
    ∷ replies [] (number 4 ∷ number 10 ∷ []) (number 10) ∷ [])
    -- a handler in a loop with an await in both parts; a value leaves the label out of it
    ∷ row 5 [] (fails ∷ gets 3 ∷ fails ∷ gets 4 ∷ gets 9 ∷ [])
    (waits_on 0 [] (number 0 ∷ [])
    ∷ waits_on 1 [] (number 0 ∷ [])
    ∷ waits_on 2 [] (number 3 ∷ [])
    ∷ waits_on 3 [] (number 3 ∷ [])
    ∷ waits_on 4 [] (number 7 ∷ [])
    ∷ replies [] (number 7 ∷ []) (number 907) ∷ [])
    -- and an error in the handler is not its own
    ∷ row 5 [] (fails ∷ fails ∷ []) (waits_on 0 [] (number 0 ∷ []) ∷ waits_on 1 [] (number 0 ∷ []) ∷ shows [] [] (number 0 ∷ []) (Rejected (Made (Error code.CanisterReject (codes "no")) NoShape)) ∷ [])
    -- a function and its maker share a variable over an await
    ∷ row 6 [] (gets 5 ∷ []) (waits_on 0 [] (number 1 ∷ []) ∷ replies [] (number 11 ∷ []) (number 16) ∷ [])
    ∷ []

-- of 501 calls the last one is refused
abbrev pub refused_rows : List Row
refused_rows =
    record { opened = 499; method = 2; arguments = []; answers = []; wanted = shows [] (asks ∷ []) [] (Replied (text_value (codes "call refused"))) ∷ [] } ∷ []

-- ---- labels, handlers, loops and functions

abbrev pub plain_rows : List Row
plain_rows =
    row 7 (number 4 ∷ []) [] (replies [] [] (number 2) ∷ [])
    ∷ row 7 (number 5 ∷ []) [] (replies [] [] (number 11) ∷ [])
    ∷ row 8 [] [] (replies [] [] (number 5) ∷ [])
    ∷ row 9 [] [] (replies [] (number 3 ∷ number 4 ∷ number 2 ∷ number 7 ∷ []) (number 7) ∷ [])
    -- functions that share a variable, that call one another, and one that makes a function
    ∷ row 10 (number 4 ∷ []) [] (replies (codes "18" ∷ []) (number 18 ∷ []) (number 103) ∷ [])
    -- an array by the calls of a function
    ∷ row 11 (number 4 ∷ []) [] (replies [] [] (array (number 0 ∷ number 4 ∷ number 8 ∷ [])) ∷ [])
    ∷ []

-- ---- the start, and what precedes an upgrade

abbrev pub entered : {S W : Type 0} → Machine S W → Entry W → List Seen
entered m entry = executions m 40 [] (context_with (no_calls 0)) empty entry

abbrev pub started : {S W : Type 0} → Machine S W → List Shown
started m = shown (entered m (Starts (number 1 ∷ []) false))

abbrev pub saved : {S W : Type 0} → Machine S W → List Shown
saved m = shown (entered m Saves)

abbrev pub tuple : List Value → Value
tuple vs = Made Tuple (shapes vs)

abbrev pub wanted_started : List Shown
wanted_started = replies [] [] (tuple (leaf (part.Actor other) ∷ [])) ∷ []

abbrev pub wanted_saved : List Shown
wanted_saved = replies [] [] (tuple (number 7 ∷ [])) ∷ []
