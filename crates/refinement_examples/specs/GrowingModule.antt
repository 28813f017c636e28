-- A module by hand that keeps something over upgrades, beside its program: its method adds a page to stable memory, and the
-- program counts the pages. Where a page is refused the execution is exhausted. IC interface specification, section Stable memory;
-- Motoko language manual, section "Stable variables".
use Rattle.std.specs.Prelude.{◌≡◌, ⊤, ℕ, ◌+◌, ◌*◌, List, [], ◌∷◌, length, Option, Some, None, cond, codes, pos, negsuc}
use Rattle.std.specs.Str.{bytes_eq}
use Rattle.play_script.specs.declared.event.Event.{Event}
use Rattle.wasm_tree.specs.declared.types.ValueType.TheVariants.{I64}
use Rattle.wasm_tree.specs.declared.op.Comparison.TheVariants.{Eq}
use Rattle.wasm_tree.specs.declared.op.Plain.TheVariants as plain
use Rattle.wasm_tree.specs.declared.op.Op.{Op}
use Rattle.wasm_tree.specs.declared.op.Op.TheVariants as op
use Rattle.wasm_tree.specs.declared.module_parts.ExportKind.TheVariants as export
use Rattle.wasm_tree.specs.declared.module_parts.Module.{Module}
use Rattle.wasm_tree.specs.Imports.{function_type, entry_type}
use Rattle.mo_actor.specs.Languages.{Language, language}
use Rattle.mo_actor.specs.Executions.{Execution, Completes, at_once}
use Rattle.mo_actor.specs.Programs.{Replies, Answers, Program}
use Rattle.actor_refinement.specs.Laws.{any_exhaustion}
use Rattle.actor_refinement.specs.Refines.{Refines}
use Rattle.refinement_examples.specs.CallingModule.{ic0_import, Nothing}

-- ---- the module

-- Asks for one page, goes no further where the answer is -1, and replies with no bytes.
abbrev pub growing_body : List Op
growing_body =
    op.Plain (plain.I64Const (pos 1)) ∷ op.Call 0 ∷ op.Plain (plain.I64Const (negsuc 0)) ∷ op.Plain (plain.Compare I64 Eq)
    ∷ op.If None ∷ op.Unreachable ∷ op.End ∷ op.Call 1 ∷ []

abbrev pub growing_module : Module
growing_module = record {
  types = function_type (I64 ∷ []) (I64 ∷ []) ∷ entry_type ∷ [];
  imports = ic0_import (codes "stable64_grow") 0 ∷ ic0_import (codes "msg_reply") 1 ∷ [];
  functions = record { signature = 1; locals = []; body = growing_body } ∷ [];
  tables = [];
  memories = [];
  globals = [];
  exports = record { name = codes "canister_update grow"; kind = export.Function 2 } ∷ [];
  start = None;
  elements = [];
  segments = [];
}

-- ---- the program

abbrev pub growing : Language
growing = language ℕ Nothing ⊥ Nothing Nothing Nothing ℕ

-- It starts with the pages that were kept.
abbrev pub start_with : Option ℕ → Execution ℕ
start_with None = at_once (Completes 0)
start_with (Some pages) = at_once (Completes pages)

abbrev pub growing_program : Program growing
growing_program = record {
  first_memory = 0;
  update = λ name. cond (bytes_eq (codes "grow") name) (Some tt) None;
  query = λ name. None;
  enter = λ method caller argument. Some tt;
  resume = λ waiting value. absurd waiting;
  run = λ own table pages body. at_once (Completes (record { store = pages + 1; calls = []; ending = Answers (Replies []) }));
  read = λ results bytes. Some tt;
  error_of = λ code text. tt;
  start = λ own kept. start_with kept;
  save = λ own pages. at_once (Completes pages);
  argument_cost = λ method argument. record { weight = 0; depth = 0 };
  reply_cost = λ results bytes. record { weight = 0; depth = 0 };
  reject_cost = λ text. record { weight = 0; depth = 0 };
}

-- A memory of so many pages.
abbrev pub HasPages : ℕ → List ℕ → Type 0
HasPages pages memory = length memory ≡ 65536 * pages

abbrev pub AnyEvent : Event → Type 0
AnyEvent e = ⊤

abbrev pub GrowingModuleRefines : Type 0
GrowingModuleRefines = Refines {L = growing} HasPages AnyEvent any_exhaustion growing_program growing_module
