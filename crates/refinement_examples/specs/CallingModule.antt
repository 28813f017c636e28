-- A module by hand that makes calls, beside its program: its method makes a call where there is room, and replies. A reply to
-- the call traps, and a reject is taken. IC interface specification, sections Inter-canister method calls and Callbacks.
use Rattle.std.specs.Prelude.{⊤, ℕ, List, [], ◌∷◌, Some, None, cond, nat_lt, codes, pos}
use Rattle.std.specs.Str.{bytes_eq}
use Rattle.mo_types.specs.Calls.{open_count}
use Rattle.play_script.specs.declared.event.Event.{Event}
use Rattle.play_script.specs.declared.event.Event.TheVariants as event
use Rattle.wasm_tree.specs.declared.types.ValueType.TheVariants.{I32}
use Rattle.wasm_tree.specs.declared.op.Plain.TheVariants as plain
use Rattle.wasm_tree.specs.declared.op.Op.{Op}
use Rattle.wasm_tree.specs.declared.op.Op.TheVariants as op
use Rattle.wasm_tree.specs.declared.module_parts.ImportKind.TheVariants as «import»
use Rattle.wasm_tree.specs.declared.module_parts.Import.{Import}
use Rattle.wasm_tree.specs.declared.module_parts.ExportKind.TheVariants as export
use Rattle.wasm_tree.specs.declared.module_parts.Module.{Module}
use Rattle.wasm_tree.specs.Imports.{function_type, entry_type, size_type, bytes_type}
use Rattle.mo_actor.specs.Languages.{Language, language}
use Rattle.mo_actor.specs.Executions.{Completes, at_once}
use Rattle.mo_actor.specs.Programs.{Replies, Answers, OutgoingCall, Program}
use Rattle.actor_refinement.specs.Laws.{no_exhaustion}
use Rattle.actor_refinement.specs.Refines.{Refines}

-- ---- the module

abbrev pub const : ℕ → Op
const n = op.Plain (plain.I32Const (pos n))

-- a function of `ic0`, whose type has this index
abbrev pub ic0_import : List ℕ → ℕ → Import
ic0_import name signature = record { «module» = codes "ic0"; name = name; kind = «import».Function signature }

-- Calls the method `b` of the empty principal with no argument, and replies with no bytes. Function 6 of the table's first place
-- is the callback of a reply, function 7 of the second that of a reject, and the cleanup.
abbrev pub calling_body : List Op
calling_body =
    const 0 ∷ const 0 ∷ const 0 ∷ const 1 ∷ const 0 ∷ const 0 ∷ const 1 ∷ const 0 ∷ op.Call 0
    ∷ const 1 ∷ const 0 ∷ op.Call 1 ∷ op.Call 2 ∷ op.Plain plain.Drop ∷ op.Call 3 ∷ []

abbrev pub calling_module : Module
calling_module = record {
  types =
      function_type (I32 ∷ I32 ∷ I32 ∷ I32 ∷ I32 ∷ I32 ∷ I32 ∷ I32 ∷ []) [] ∷ bytes_type ∷ size_type ∷ entry_type ∷ function_type (I32 ∷ []) [] ∷ [];
  imports =
      ic0_import (codes "call_new") 0 ∷ ic0_import (codes "call_on_cleanup") 1 ∷ ic0_import (codes "call_perform") 2 ∷ ic0_import (codes "msg_reply") 3 ∷ ic0_import (codes "trap") 1 ∷ [];
  functions =
      record { signature = 3; locals = []; body = calling_body } ∷ record { signature = 4; locals = []; body = const 0 ∷ const 9 ∷ op.Call 4 ∷ [] }
      ∷ record { signature = 4; locals = []; body = [] } ∷ [];
  tables = record { min = 2; max = None } ∷ [];
  memories = record { min = 1; max = None } ∷ [];
  globals = [];
  exports = record { name = codes "canister_update go"; kind = export.Function 5 } ∷ [];
  start = None;
  elements = record { table = 0; offset = const 0 ∷ []; functions = 6 ∷ 7 ∷ [] } ∷ [];
  segments = record { memory = 0; offset = const 0 ∷ []; bytes = codes "bad reply" } ∷ [];
}

-- ---- the program

abbrev pub Nothing : Type 0
Nothing = Unit {0}

abbrev pub calling : Language
calling = language Nothing Nothing ⊥ Nothing Nothing Nothing Nothing

abbrev pub one_call : OutgoingCall calling
one_call = record { callee = []; method = codes "b"; argument = []; results = tt; resumes = None }

-- No reply reads at the result types, and no one waits.
abbrev pub calling_program : Program calling
calling_program = record {
  first_memory = 0;
  update = λ name. cond (bytes_eq (codes "go") name) (Some tt) None;
  query = λ name. None;
  enter = λ method caller argument. Some tt;
  resume = λ waiting value. absurd waiting;
  run = λ own table store body. at_once (Completes (record { store = tt; calls = cond (nat_lt (open_count table) 500) (one_call ∷ []) []; ending = Answers (Replies []) }));
  read = λ results bytes. None;
  error_of = λ code text. tt;
  start = λ own kept. at_once (Completes tt);
  save = λ own store. at_once (Completes tt);
  argument_cost = λ method argument. record { weight = 0; depth = 0 };
  reply_cost = λ results bytes. record { weight = 0; depth = 0 };
  reject_cost = λ text. record { weight = 0; depth = 0 };
}

-- The module does not test for open calls before an upgrade.
abbrev pub IsNoUpgrade : Event → Type 0
IsNoUpgrade (event.Upgrade number) = ⊥
IsNoUpgrade e = ⊤

abbrev pub AnyMemory : Nothing → List ℕ → Type 0
AnyMemory kept memory = ⊤

abbrev pub CallingModuleRefines : Type 0
CallingModuleRefines = Refines {L = calling} AnyMemory IsNoUpgrade no_exhaustion calling_program calling_module
