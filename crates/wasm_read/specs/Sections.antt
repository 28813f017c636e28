-- Reading a module: WebAssembly Core 1.0 section 5.5.
use Rattle.std.specs.Prelude.{◌≡◌, ℕ, zero, suc, List, [], ◌∷◌, length, Option, Some, None, Result, Ok, Err, nat_eq, nat_lt, if◌then◌else◌}
use Rattle.std.specs.Borrow.{Bor}
use Rattle.wasm_tree.specs.declared.types.FunctionType.{FunctionType}
use Rattle.wasm_tree.specs.declared.types.Limits.{Limits}
use Rattle.wasm_tree.specs.declared.module_parts.Import.{Import}
use Rattle.wasm_tree.specs.declared.module_parts.Function.{Function}
use Rattle.wasm_tree.specs.declared.module_parts.Global.{Global}
use Rattle.wasm_tree.specs.declared.module_parts.Export.{Export}
use Rattle.wasm_tree.specs.declared.module_parts.ElementSegment.{ElementSegment}
use Rattle.wasm_tree.specs.declared.module_parts.DataSegment.{DataSegment}
use Rattle.wasm_tree.specs.declared.module_parts.Module.{Module}
use Rattle.wasm_tree.specs.Binary.{header}
use Rattle.wasm_read.specs.declared.fault.Fault.{Fault}
use Rattle.wasm_read.specs.declared.fault.Fault.TheVariants.{TooLarge, NotWasm, Malformed, Floats}
use Rattle.wasm_read.specs.declared.fault.ReadFault.{ReadFault}
use Rattle.wasm_read.specs.declared.fault.ReadFault.TheVariants as «fault»
use Rattle.exact_reading.specs.Reading.{◌>>=◌, made}
use Rattle.exact_reading.specs.Prefix.{prefix_at}
use Rattle.wasm_read.specs.Fields.{Reading, whole, vector_at, byte_vector_at, name_at, u32_at}
use Rattle.wasm_read.specs.Parts.{function_type_at, import_at, table_at, limits_at, global_at, export_at, element_at, code_vector_at, data_at}

-- A custom section has a name and any bytes (section 5.5.3). What comes after the one of which the number was read.
abbrev pub after_custom : List ℕ → Result (List ℕ) Fault
after_custom bytes = byte_vector_at bytes >>= λ c. name_at c.0 >>= λ n. Ok c.1

abbrev pub made_some : {X : Type 0} → Result X Fault → Result (Option X) Fault
made_some r = r >>= λ x. Ok (Some x)

-- What comes after the custom section at the front, if there is one.
abbrev pub skip_by : ℕ → List ℕ → Result (Option (List ℕ)) Fault
skip_by b rest = if nat_eq b 0 then made_some (after_custom rest) else Ok None

abbrev pub skip_at : List ℕ → Result (Option (List ℕ)) Fault
skip_at [] = Ok None
skip_at (b ∷ rest) = skip_by b rest

abbrev pub skipped : (List ℕ → Result (List ℕ) Fault) → List ℕ → Option (List ℕ) → Result (List ℕ) Fault
skipped next bytes None = Ok bytes
skipped next bytes (Some rest) = next rest

-- What comes after the custom sections at the front, of which there are at most n.
abbrev pub customs_at : ℕ → List ℕ → Result (List ℕ) Fault
customs_at zero bytes = Ok bytes
customs_at (suc n) bytes = skip_at bytes >>= λ o. skipped (customs_at n) bytes o

unfoldable pub customs : List ℕ → Result (List ℕ) Fault
customs bytes = customs_at (length bytes) bytes

-- The contents of the section with this number, if it stands at the front, and what comes after it.
abbrev pub opened_by : ℕ → ℕ → List ℕ → Result (Option (List ℕ × List ℕ)) Fault
opened_by number b rest = if nat_eq b number then made_some (byte_vector_at rest) else Ok None

unfoldable pub opened : ℕ → List ℕ → Result (Option (List ℕ × List ℕ)) Fault
opened number [] = Ok None
opened number (b ∷ rest) = opened_by number b rest

abbrev pub seen_one : Option (Bor (List ℕ)) → Option (List ℕ)
seen_one None = None
seen_one (Some c) = Some c.now

abbrev pub seen : Option (Bor (List ℕ) × Bor (List ℕ)) → Option (List ℕ × List ℕ)
seen None = None
seen (Some c) = Some (c.0.now, c.1.now)

-- Its contents are what p reads. Where it is left out, it stands for this value.
abbrev pub inside : {X : Type 0} → Result X Fault → Reading X → List ℕ → Option (List ℕ × List ℕ) → Result (X × List ℕ) Fault
inside absent p bytes None = absent >>= λ x. Ok (x, bytes)
inside absent p bytes (Some c) = whole p c.0 >>= λ x. Ok (x, c.1)

-- A section behind custom sections.
abbrev pub section_at : {X : Type 0} → ℕ → Result X Fault → Reading X → Reading X
section_at number absent p bytes = customs bytes >>= λ rest. opened number rest >>= λ o. inside absent p rest o

abbrev pub vectors_at : {X : Type 0} → ℕ → Reading X → Reading (List X)
vectors_at number p = section_at number (Ok []) (vector_at p)

unfoldable pub start_at : Reading (Option ℕ)
start_at = section_at 8 (Ok None) (made Some u32_at)

-- Without a code section there are no functions.
abbrev pub no_codes : List ℕ → Result (List Function) Fault
no_codes ss = if nat_eq (length ss) 0 then Ok [] else Err Malformed

unfoldable pub code_section_at : List ℕ → Reading (List Function)
code_section_at ss = section_at 10 (no_codes ss) (code_vector_at ss)

-- Nothing but custom sections is left.
abbrev pub finished : List ℕ → Result (Unit {0}) Fault
finished rest = if nat_eq (length rest) 0 then Ok tt else Err Malformed

unfoldable pub ends : List ℕ → Result (Unit {0}) Fault
ends bytes = customs bytes >>= finished

-- One section, and then those after it.
abbrev pub then_at : {X Y : Type 0} → Reading X → (X → List ℕ → Result Y Fault) → List ℕ → Result (X × Y) Fault
then_at p next bytes = p bytes >>= λ x. next x.0 x.1 >>= λ y. Ok (x.0, y)

abbrev pub Contents : Type 0
Contents = Option ℕ × (List ElementSegment × (List Function × (List DataSegment × Unit {0})))

-- sections 8 to 11
unfoldable pub contents_at : List ℕ → List ℕ → Result Contents Fault
contents_at signatures =
    then_at start_at (λ _. then_at (vectors_at 9 element_at) (λ _. then_at (code_section_at signatures) (λ _. then_at (vectors_at 11 data_at) (λ _. ends))))

abbrev pub Stores : Type 0
Stores = List Limits × (List Limits × (List Global × (List Export × Contents)))

-- sections 4 to 11
unfoldable pub stores_at : List ℕ → List ℕ → Result Stores Fault
stores_at signatures =
    then_at (vectors_at 4 table_at) (λ _. then_at (vectors_at 5 limits_at) (λ _. then_at (vectors_at 6 global_at) (λ _. then_at (vectors_at 7 export_at) (λ _. contents_at signatures))))

-- all sections
unfoldable pub sections_at : List ℕ → Result (List FunctionType × (List Import × (List ℕ × Stores))) Fault
sections_at = then_at (vectors_at 1 function_type_at) (λ _. then_at (vectors_at 2 import_at) (λ _. then_at (vectors_at 3 u32_at) stores_at))

abbrev pub module_of : List FunctionType × (List Import × (List ℕ × Stores)) → Module
module_of s = record {
  types = s.0;
  imports = s.1.0;
  functions = s.1.1.1.1.1.1.1.1.1.0;
  tables = s.1.1.1.0;
  memories = s.1.1.1.1.0;
  globals = s.1.1.1.1.1.0;
  exports = s.1.1.1.1.1.1.0;
  start = s.1.1.1.1.1.1.1.0;
  elements = s.1.1.1.1.1.1.1.1.0;
  segments = s.1.1.1.1.1.1.1.1.1.1.0;
}

abbrev pub parts_at : List ℕ → Result Module Fault
parts_at bytes = sections_at bytes >>= λ s. Ok (module_of s)

abbrev pub largest : ℕ
largest = 67108864

-- The module that the bytes spell, or the first fault.
unfoldable pub module_at : List ℕ → Result Module Fault
module_at bytes =
    if nat_lt largest (length bytes) then Err TooLarge else (prefix_at NotWasm NotWasm header bytes >>= parts_at)

-- What `read` answers is what reading gives, unless memory ran out.
abbrev pub Answers : Result Module ReadFault → Result Module Fault → Type 0
Answers (Ok m) reading = reading ≡ Ok m
Answers (Err «fault».Memory) reading = Unit {0}
Answers (Err «fault».TooLarge) reading = reading ≡ Err TooLarge
Answers (Err «fault».NotWasm) reading = reading ≡ Err NotWasm
Answers (Err «fault».Malformed) reading = reading ≡ Err Malformed
Answers (Err «fault».Floats) reading = reading ≡ Err Floats
