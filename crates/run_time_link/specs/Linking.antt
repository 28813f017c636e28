-- Routines and the functions that the host enters as one low module.
use Rattle.std.specs.Prelude.{⊤, ◌≡◌, ◌+◌, ◌≤◌, ◌<◌, ℕ, suc, List, [], ◌∷◌, ◌++◌, length, map, Option, Some, None, slice_get}
use Rattle.std.specs.List.{AllByRecursion}
use Rattle.wasm_tree.specs.declared.types.ValueType.{ValueType}
use Rattle.wasm_tree.specs.declared.types.FunctionType.{FunctionType}
use Rattle.wasm_tree.specs.Imports.{entry_type}
use Rattle.low_ir.specs.declared.routines.Routine.{Routine}
use Rattle.low_ir.specs.declared.module_parts.LowFunction.{LowFunction}
use Rattle.low_ir.specs.declared.module_parts.LowExport.{LowExport}
use Rattle.low_ir.specs.declared.module_parts.LowModule.{LowModule}
use Rattle.low_ir.specs.Tree.{Code}
use Rattle.low_ir.specs.Flat.{flat}
use Rattle.low_ir.specs.Frames.{height, depth}
use Rattle.run_time_link.specs.declared.linking.Entry.{Entry}
use Rattle.run_time_link.specs.declared.linking.Surroundings.{Surroundings}
use Rattle.run_time_link.specs.declared.linking.LinkFault.{LinkFault}
use Rattle.run_time_link.specs.declared.linking.LinkFault.TheVariants as fault

abbrev pub results_of : Option ValueType → List ValueType
results_of None = []
results_of (Some kind) = kind ∷ []

abbrev pub type_of_routine : Routine → FunctionType
type_of_routine r = record { params = r.params; results = results_of r.result }

-- The numbers of the types behind the host's: that of the entries, and then those of the routines in turn.
abbrev pub entry_signature : ℕ
entry_signature = 22

abbrev pub first_signature : ℕ
first_signature = 23

abbrev pub function_of : ℕ → Routine → LowFunction
function_of signature r = record { signature = signature; locals = r.locals; body = r.body }

abbrev pub functions_from : ℕ → List Routine → List LowFunction
functions_from signature [] = []
functions_from signature (r ∷ rs) = function_of signature r ∷ functions_from (suc signature) rs

abbrev pub entry_function : Entry → LowFunction
entry_function e = record { signature = entry_signature; locals = e.locals; body = e.body }

abbrev pub exports_from : ℕ → List Entry → List LowExport
exports_from function [] = []
exports_from function (e ∷ es) = record { name = e.name; function = function } ∷ exports_from (suc function) es

-- The routines come first behind the host's functions, each with a type of its own; then the entries, which take nothing and give
-- nothing, and are exported by their names.
abbrev pub linked : List Routine → List Entry → Surroundings → LowModule
linked routines entries around = record {
  types = entry_type ∷ map type_of_routine routines;
  functions = functions_from first_signature routines ++ map entry_function entries;
  table = around.table;
  globals = around.globals;
  pages = around.pages;
  bytes = around.bytes;
  exports = exports_from (22 + length routines) entries;
}

-- The most stack words that the frame of a linked routine may take, so that the frames of calls one in another are bounded by their
-- number.
abbrev pub most_frame_words : ℕ
most_frame_words = 64

-- The frame of a routine takes so many stack words, whichever tree its body is the list of.
abbrev pub FrameTakes : (ℕ → Type 0) → Routine → Type 0
FrameTakes Holds r = (code : Code) → r.body ≡ flat code → Holds (8 + length r.params + length r.locals + height code + depth code)

abbrev pub FrameFits : Routine → Type 0
FrameFits r = FrameTakes (λ words. words ≤ most_frame_words) r

abbrev pub FrameIsWide : Routine → Type 0
FrameIsWide r = FrameTakes (λ words. most_frame_words < words) r

-- The routine of this line has too large a frame.
abbrev pub IsTooWide : List Routine → ℕ → Type 0
IsTooWide routines line = (k : ℕ) × ((r : Routine) × ((slice_get routines k ≡ Some r) × ((r.line ≡ line) × FrameIsWide r)))

-- What is found of the frames.
abbrev pub Widens : List Routine → Option ℕ → Type 0
Widens routines None = AllByRecursion FrameFits routines
Widens routines (Some line) = IsTooWide routines line

-- Why nothing is linked: there was no memory, or the routine of this line has too large a frame.
abbrev pub Refuses : List Routine → LinkFault → Type 0
Refuses routines fault.Memory = ⊤
Refuses routines (fault.Frame line) = IsTooWide routines line
