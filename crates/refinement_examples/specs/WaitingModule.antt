-- A module by hand that waits for the answers to its calls, beside its program: its method makes a call where there is room, and
-- replies when the answer comes; where there is none, it replies at once. IC interface specification, sections Inter-canister
-- method calls and Callbacks; Motoko language manual, section "Await".
use Rattle.std.specs.Prelude.{ℕ, List, [], ◌∷◌, Some, None, Bool, true, false, cond, nat_lt, codes}
use Rattle.std.specs.Str.{bytes_eq}
use Rattle.mo_types.specs.Calls.{CallTable, open_count, next_number}
use Rattle.wasm_tree.specs.declared.types.ValueType.TheVariants.{I32}
use Rattle.wasm_tree.specs.declared.op.Op.{Op}
use Rattle.wasm_tree.specs.declared.op.Op.TheVariants as op
use Rattle.wasm_tree.specs.declared.module_parts.ExportKind.TheVariants as export
use Rattle.wasm_tree.specs.declared.module_parts.Module.{Module}
use Rattle.wasm_tree.specs.Imports.{function_type, entry_type, size_type, bytes_type}
use Rattle.mo_actor.specs.Languages.{Language, language}
use Rattle.mo_actor.specs.Executions.{Execution, Completes, at_once}
use Rattle.mo_actor.specs.Programs.{Replies, Answers, Awaits, Effects, OutgoingCall, Program}
use Rattle.actor_refinement.specs.Laws.{no_exhaustion}
use Rattle.actor_refinement.specs.Refines.{Refines}
use Rattle.refinement_examples.specs.CallingModule.{const, ic0_import, Nothing, IsNoUpgrade, AnyMemory}

-- ---- the module

-- Calls the method `b` of the empty principal with no argument, and replies with no bytes if the call was refused. The table has
-- the callbacks of a reply and of a reject, which reply, and the cleanup, which does nothing.
abbrev pub waiting_body : List Op
waiting_body =
    const 0 ∷ const 0 ∷ const 0 ∷ const 1 ∷ const 0 ∷ const 0 ∷ const 1 ∷ const 0 ∷ op.Call 0
    ∷ const 2 ∷ const 0 ∷ op.Call 1 ∷ op.Call 2 ∷ op.If None ∷ op.Call 3 ∷ op.End ∷ []

abbrev pub waiting_module : Module
waiting_module = record {
  types =
      function_type (I32 ∷ I32 ∷ I32 ∷ I32 ∷ I32 ∷ I32 ∷ I32 ∷ I32 ∷ []) [] ∷ bytes_type ∷ size_type ∷ entry_type ∷ function_type (I32 ∷ []) [] ∷ [];
  imports = ic0_import (codes "call_new") 0 ∷ ic0_import (codes "call_on_cleanup") 1 ∷ ic0_import (codes "call_perform") 2 ∷ ic0_import (codes "msg_reply") 3 ∷ [];
  functions =
      record { signature = 3; locals = []; body = waiting_body } ∷ record { signature = 4; locals = []; body = op.Call 3 ∷ [] }
      ∷ record { signature = 4; locals = []; body = op.Call 3 ∷ [] } ∷ record { signature = 4; locals = []; body = [] } ∷ [];
  tables = record { min = 3; max = None } ∷ [];
  memories = record { min = 1; max = None } ∷ [];
  globals = [];
  exports = record { name = codes "canister_update go"; kind = export.Function 4 } ∷ [];
  start = None;
  elements = record { table = 0; offset = const 0 ∷ []; functions = 5 ∷ 6 ∷ 7 ∷ [] } ∷ [];
  segments = record { memory = 0; offset = const 0 ∷ []; bytes = codes "b" } ∷ [];
}

-- ---- the program

-- A body is the method, or what goes on behind its `await`.
pub data Body : Type 0 where
  Begins : Body
  GoesOn : Body

abbrev pub waiting_language : Language
waiting_language = language Nothing Body Nothing Nothing Nothing Nothing Nothing

abbrev pub one_call : OutgoingCall waiting_language
one_call = record { callee = []; method = codes "b"; argument = []; results = tt; resumes = None }

-- What the method leaves, where there is room and where there is none, and what the rest of it leaves.
abbrev pub left_by_method : Bool → (next : ℕ) → Effects waiting_language
left_by_method true next = record { store = tt; calls = one_call ∷ []; ending = Awaits next tt }
left_by_method false next = record { store = tt; calls = []; ending = Answers (Replies []) }

abbrev pub left_by_rest : Effects waiting_language
left_by_rest = record { store = tt; calls = []; ending = Answers (Replies []) }

abbrev pub run_body : CallTable Nothing Nothing → Body → Execution (Effects waiting_language)
run_body table Begins = at_once (Completes (left_by_method (nat_lt (open_count table) 500) (next_number table)))
run_body table GoesOn = at_once (Completes left_by_rest)

abbrev pub waiting_program : Program waiting_language
waiting_program = record {
  first_memory = 0;
  update = λ name. cond (bytes_eq (codes "go") name) (Some tt) None;
  query = λ name. None;
  enter = λ method caller argument. Some Begins;
  resume = λ waiting value. GoesOn;
  run = λ own table store body. run_body table body;
  read = λ results bytes. Some tt;
  error_of = λ code text. tt;
  start = λ own kept. at_once (Completes tt);
  save = λ own store. at_once (Completes tt);
  argument_cost = λ method argument. record { weight = 0; depth = 0 };
  reply_cost = λ results bytes. record { weight = 0; depth = 0 };
  reject_cost = λ text. record { weight = 0; depth = 0 };
}

abbrev pub WaitingModuleRefines : Type 0
WaitingModuleRefines = Refines {L = waiting_language} AnyMemory IsNoUpgrade no_exhaustion waiting_program waiting_module
