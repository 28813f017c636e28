-- The first run time: the routines over memory, and functions by which the host enters them.
use Rattle.std.specs.Prelude.{ℕ, List, [], ◌∷◌, pos, codes}
use Rattle.wasm_tree.specs.declared.types.ValueType.TheVariants.{I32, I64}
use Rattle.wasm_tree.specs.Imports.{entry_type}
use Rattle.low_ir.specs.declared.module_parts.LowGlobal.TheVariants as global
use Rattle.low_ir.specs.Tree.{Function, Module}
use Rattle.low_ir.specs.declared.routines.Routine.{Routine}
use Rattle.memory_routines.specs.Allocation.{allocation}
use Rattle.memory_routines.specs.Copying.{copying}
use Rattle.memory_routines.specs.Numerals.{numeral}
use Rattle.memory_routines.specs.Order.{ordering}
use Rattle.memory_routines.specs.Texts.{comparison}
use Rattle.memory_routines.specs.Built.{built}
use Rattle.memory_routines.specs.Laws.{word_of}
use Rattle.run_time_link.specs.declared.linking.Entry.{Entry}
use Rattle.run_time_link.specs.declared.linking.Surroundings.{Surroundings}
use Rattle.routine_lines.specs.Roles.{Role, Allocating, Copying, Comparing, Ordering, Numbering, function_of}
use Rattle.first_run_time.specs.Entries.{flat_entry, digits_entry, copy_entry, same_entry, order_entry, digits_name, copy_name, same_name, order_name}

-- The type of each routine.
abbrev pub signature_of : Role → ℕ
signature_of Allocating = 23
signature_of Copying = 24
signature_of Comparing = 25
signature_of Ordering = 26
signature_of Numbering = 27

-- What stands in the memory at first, and where its heap begins.
abbrev pub short_text : List ℕ
short_text = codes "argument too short"

abbrev pub heap_begin : ℕ
heap_begin = 64

abbrev pub linked_function : Role → Function
linked_function r = function_of (signature_of r) r

abbrev pub run_time : Module
run_time = record {
  types = entry_type ∷ word_of (I32 ∷ []) ∷ word_of (I32 ∷ I32 ∷ []) ∷ word_of (I32 ∷ I32 ∷ I32 ∷ []) ∷ word_of (I32 ∷ I32 ∷ I32 ∷ I32 ∷ []) ∷ word_of (I32 ∷ I64 ∷ []) ∷ [];
  functions = linked_function Allocating ∷ linked_function Copying ∷ linked_function Comparing ∷ linked_function Ordering ∷ linked_function Numbering ∷ digits_entry ∷ copy_entry ∷ same_entry ∷ order_entry ∷ [];
  table = 22 ∷ 23 ∷ 24 ∷ 25 ∷ 26 ∷ [];
  globals = global.Word (pos heap_begin) ∷ [];
  pages = 1;
  bytes = short_text;
  exports =
      record { name = digits_name; function = 27 }
      ∷ record { name = copy_name; function = 28 }
      ∷ record { name = same_name; function = 29 }
      ∷ record { name = order_name; function = 30 }
      ∷ [];
}

-- What is linked to it: the routines with their lines, the entries, and what surrounds them.
abbrev pub routines : List Routine
routines =
    built 0 (I32 ∷ []) (allocation 0)
    ∷ built 1 (I32 ∷ I32 ∷ []) (copying 0 22)
    ∷ built 2 (I32 ∷ I32 ∷ I32 ∷ []) (comparison 0)
    ∷ built 3 (I32 ∷ I32 ∷ I32 ∷ I32 ∷ []) (ordering 0)
    ∷ built 4 (I32 ∷ I64 ∷ []) (numeral 0)
    ∷ []

abbrev pub entries : List Entry
entries = flat_entry digits_name digits_entry ∷ flat_entry copy_name copy_entry ∷ flat_entry same_name same_entry ∷ flat_entry order_name order_entry ∷ []

abbrev pub around : Surroundings
around = record { table = run_time.table; globals = run_time.globals; pages = run_time.pages; bytes = run_time.bytes }
