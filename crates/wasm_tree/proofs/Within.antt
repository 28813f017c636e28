-- What has a spelling of at most so many bytes: for whoever builds a module and owes that it has a spelling.
use Rattle.std.proofs.Common.{ℕ, ◌+◌, ◌*◌, ◌<◌, ◌≤◌, ◌^◌, List, [], ◌∷◌, ◌++◌, length, arith, refl, inl, inr, ℤ, length-append, FitsSigned, Option, Some, None, get_or, zero, suc}
use Rattle.std.proofs.lemmas.List.Sums.{sum_by-cons}
use Rattle.std.proofs.lemmas.Int.{ints}
use Rattle.std.proofs.lemmas.Str.{IsUtf8-from_ascii}
use Rattle.std.specs.Int.{w32, w64}
use Rattle.std.specs.List.{AllByRecursion, sum_by}
use Rattle.std.specs.Prelude.{IsUtf8, IfSome}
use Rattle.mo_num.specs.Leb.{IsLeb, IsSleb}
use Rattle.mo_num.proofs.Bounds.{leb_within, sleb_within}
use Rattle.wasm_tree.specs.declared.types.ValueType.{ValueType}
use Rattle.wasm_tree.specs.declared.types.FunctionType.{FunctionType}
use Rattle.wasm_tree.specs.declared.types.Limits.{Limits}
use Rattle.wasm_tree.specs.declared.types.GlobalType.{GlobalType}
use Rattle.wasm_tree.specs.declared.op.MemoryArgument.{MemoryArgument}
use Rattle.wasm_tree.specs.declared.op.Plain.{Plain}
use Rattle.wasm_tree.specs.declared.op.Plain.TheVariants as plain
use Rattle.wasm_tree.specs.declared.op.Op.{Op}
use Rattle.wasm_tree.specs.declared.op.Op.TheVariants as op
use Rattle.wasm_tree.specs.declared.module_parts.ImportKind.{ImportKind}
use Rattle.wasm_tree.specs.declared.module_parts.ImportKind.TheVariants as «import»
use Rattle.wasm_tree.specs.declared.module_parts.Import.{Import}
use Rattle.wasm_tree.specs.declared.module_parts.Locals.{Locals}
use Rattle.wasm_tree.specs.declared.module_parts.Function.{Function}
use Rattle.wasm_tree.specs.declared.module_parts.Global.{Global}
use Rattle.wasm_tree.specs.declared.module_parts.ExportKind.{ExportKind}
use Rattle.wasm_tree.specs.declared.module_parts.ExportKind.TheVariants as export
use Rattle.wasm_tree.specs.declared.module_parts.Export.{Export}
use Rattle.wasm_tree.specs.declared.module_parts.ElementSegment.{ElementSegment}
use Rattle.wasm_tree.specs.declared.module_parts.DataSegment.{DataSegment}
use Rattle.wasm_tree.specs.declared.module_parts.Module.{Module}
use Rattle.wasm_tree.specs.Code.{Code, IsFlat}
use Rattle.wasm_tree.specs.Opcodes.{load_code, store_code, equals_zero_code, first_comparison, comparison_place, first_unary, unary_place, first_binary, binary_place, conversion_code}
use Rattle.wasm_tree.specs.Spelling.{Exactly, IsByte, Then, IsU32, IsS32, IsS64, IsEach, IsVector, IsSized, IsSection, IsVectorSection, IsByteVector, IsMany, HasSpelling}
pub use Rattle.wasm_tree.specs.Bounded.{Within, IsSmallPlain, IsSmallOp, IsSmallImport, exported, IsShort, HasShortParts}
use Rattle.wasm_tree.specs.Binary.{value_type_code, IsValueType, IsFunctionType, IsMinMax, IsLimits, IsTable, IsGlobalType, mutability_code, IsName, IsBlockType, IsAccess, IsIndexed, IsPlain, IsOp, IsExpression, IsImportKind, IsImport, IsSignature, IsGlobal, IsExportKind, IsExport, IsElement, IsLocals, IsBody, IsCode, IsData, IsStart, IsCustom, After, header, Written}

pub within_has : {P : List ℕ → Type 0} {bound : ℕ} → Within P bound → HasSpelling P
within_has w = record { bytes = w.bytes; spells = w.spells }

-- A larger bound holds too.
pub within_raised : (P : List ℕ → Type 0) (m n : ℕ) → m ≤ n → Within P m → Within P n
within_raised P m n le w = record { bytes = w.bytes; spells = w.spells; short = omega (arith, w.short) }

pub exactly_within : (these : List ℕ) → Within (Exactly these) (length these)
exactly_within these = record { bytes = these; spells = refl; short = omega arith }

pub byte_within : (byte : ℕ) → Within (IsByte byte) 1
byte_within byte = record { bytes = byte ∷ []; spells = refl; short = omega arith }

pub u32_within : (n : ℕ) → n < 2 ^ 32 → Within (IsU32 n) 5
u32_within n small =
    let some : (bytes : List ℕ) × IsLeb bytes n × (length bytes ≤ 5) = leb_within 4 n (omega arith) in
    record { bytes = some.0; spells = record { small = small; short = some.2; spells = some.1 }; short = some.2 }

pub s32_within : (z : ℤ) → FitsSigned w32 z → Within (IsS32 z) 5
s32_within z small =
    let some : (bytes : List ℕ) × IsSleb bytes z × (length bytes ≤ 5) = sleb_within 4 z (omega (arith, ints), omega (arith, ints)) in
    record { bytes = some.0; spells = record { small = small; short = some.2; spells = some.1 }; short = some.2 }

pub s64_within : (z : ℤ) → FitsSigned w64 z → Within (IsS64 z) 10
s64_within z small =
    let some : (bytes : List ℕ) × IsSleb bytes z × (length bytes ≤ 10) = sleb_within 9 z (omega (arith, ints), omega (arith, ints)) in
    record { bytes = some.0; spells = record { small = small; short = some.2; spells = some.1 }; short = some.2 }

pub then_within : (P Q : List ℕ → Type 0) (m n : ℕ) → Within P m → Within Q n → Within (Then P Q) (m + n)
then_within P Q m n p q = record {
  bytes = p.bytes ++ q.bytes;
  spells = record { front = p.bytes; back = q.bytes; whole = refl; first = p.spells; second = q.spells };
  short = omega (arith, length-append p.bytes q.bytes, p.short, q.short);
}

-- Lists.

pub none_within : {X : Type 0} (P : X → List ℕ → Type 0) → Within (IsEach P []) 0
none_within P = record { bytes = []; spells = refl; short = omega arith }

pub more_within : {X : Type 0} (P : X → List ℕ → Type 0) (x : X) (xs : List X) (m n : ℕ) → Within (P x) m → Within (IsEach P xs) n → Within (IsEach P (x ∷ xs)) (m + n)
more_within P x xs m n p q = then_within (P x) (IsEach P xs) m n p q

-- Each item takes at most so many bytes.
pub each_within : {X : Type 0} (P : X → List ℕ → Type 0) (xs : List X) (bound : ℕ) → AllByRecursion (λ x. Within (P x) bound) xs → Within (IsEach P xs) (bound * length xs)
each_within P [] bound all = within_raised (IsEach P []) 0 (bound * 0) (omega arith) (none_within P)
each_within P (x ∷ xs) bound all =
    within_raised (IsEach P (x ∷ xs)) (bound + bound * length xs) (bound * length (x ∷ xs)) (omega arith)
    (more_within P x xs bound (bound * length xs) all.0 (each_within P xs bound all.1))

-- Each item takes at most what it counts.
pub each_within_sum : {X : Type 0} (P : X → List ℕ → Type 0) (count : X → ℕ) (xs : List X) → AllByRecursion (λ x. Within (P x) (count x)) xs → Within (IsEach P xs) (sum_by count xs)
each_within_sum P count [] all = none_within P
each_within_sum P count (x ∷ xs) all =
    within_raised (IsEach P (x ∷ xs)) (count x + sum_by count xs) (sum_by count (x ∷ xs)) (omega (arith, sum_by-cons count x xs))
    (more_within P x xs (count x) (sum_by count xs) all.0 (each_within_sum P count xs all.1))

pub vector_within : {X : Type 0} (P : X → List ℕ → Type 0) (xs : List X) (n : ℕ) → length xs < 2 ^ 32 → Within (IsEach P xs) n → Within (IsVector P xs) (5 + n)
vector_within P xs n few q = then_within (IsU32 (length xs)) (IsEach P xs) 5 n (u32_within (length xs) few) q

pub byte_vector_within : (these : List ℕ) → length these < 2 ^ 32 → Within (IsByteVector these) (5 + length these)
byte_vector_within these few = then_within (IsU32 (length these)) (Exactly these) 5 (length these) (u32_within (length these) few) (exactly_within these)

-- Names.

ascii_at : (name : List ℕ) → AllByRecursion (λ b. b < 128) name → (i : ℕ) → get_or name i 0 < 128
ascii_at [] all i = omega arith
ascii_at (b ∷ bs) all zero = all.0
ascii_at (b ∷ bs) all (suc i) = ascii_at bs all.1 i

-- Of a literal the premise is found by `search rules`.
pub ascii_text : (name : List ℕ) → AllByRecursion (λ b. b < 128) name → IsUtf8 name
ascii_text name all = IsUtf8-from_ascii name (ascii_at name all)

visible_ascii : (name : List ℕ) → AllByRecursion (λ b. (33 ≤ b) × (b ≤ 126)) name → AllByRecursion (λ b. b < 128) name
visible_ascii [] all = tt
visible_ascii (b ∷ bs) all = (omega (arith, all.0), visible_ascii bs all.1)

-- Bytes from 33 to 126 are text.
pub visible_text : (name : List ℕ) → AllByRecursion (λ b. (33 ≤ b) × (b ≤ 126)) name → IsUtf8 name
visible_text name all = ascii_text name (visible_ascii name all)

pub name_within : (name : List ℕ) → IsUtf8 name → length name < 2 ^ 32 → Within (IsName name) (5 + length name)
name_within name text few =
    let w : Within (IsByteVector name) (5 + length name) = byte_vector_within name few in
    record { bytes = w.bytes; spells = record { text = text; spells = w.spells }; short = w.short }

-- Sections.

pub sized_within : (P : List ℕ → Type 0) (n : ℕ) → n < 2 ^ 32 → Within P n → Within (IsSized P) (5 + n)
sized_within P n few p =
    let small : length p.bytes < 2 ^ 32 = omega (arith, p.short) in
    let size : Within (IsU32 (length p.bytes)) 5 = u32_within (length p.bytes) small in
    record {
      bytes = size.bytes ++ p.bytes;
      spells = record { size = size.bytes; contents = p.bytes; whole = refl; count = size.spells; inner = p.spells };
      short = omega (arith, length-append size.bytes p.bytes, size.short, p.short);
    }

pub section_within : (number : ℕ) (P : List ℕ → Type 0) (n : ℕ) → n < 2 ^ 32 → Within P n → Within (IsSection number P) (6 + n)
section_within number P n few p =
    within_raised (IsSection number P) (1 + (5 + n)) (6 + n) (omega arith)
    (then_within (IsByte number) (IsSized P) 1 (5 + n) (byte_within number) (sized_within P n few p))

pub vector_section_within : {X : Type 0} (number : ℕ) (P : X → List ℕ → Type 0) (xs : List X) (n : ℕ) → length xs < 2 ^ 32 → 5 + n < 2 ^ 32 → Within (IsEach P xs) n → Within (IsVectorSection number P xs) (11 + n)
vector_section_within number P xs n few small q =
    let w : Within (IsSection number (IsVector P xs)) (6 + (5 + n)) = section_within number (IsVector P xs) (5 + n) small (vector_within P xs n few q) in
    record { bytes = w.bytes; spells = inr w.spells; short = omega (arith, w.short) }

pub no_section_within : {X : Type 0} (number : ℕ) (P : X → List ℕ → Type 0) → Within (IsVectorSection number P []) 0
no_section_within number P = record { bytes = []; spells = inl (refl, refl); short = omega arith }

no_customs_within : Within (IsMany IsCustom) 0
no_customs_within = record { bytes = []; spells = ([], refl); short = omega arith }

pub after_within : (P : List ℕ → Type 0) (n : ℕ) → Within P n → Within (After P) n
after_within P n p = within_raised (After P) (0 + n) n (omega arith) (then_within (IsMany IsCustom) P 0 n no_customs_within p)

-- Types.

value_types_within : (kinds : List ValueType) → Within (IsEach IsValueType kinds) (length kinds)
value_types_within [] = none_within IsValueType
value_types_within (k ∷ ks) = within_raised (IsEach IsValueType (k ∷ ks)) (1 + length ks) (length (k ∷ ks)) (omega arith) (more_within IsValueType k ks 1 (length ks) (byte_within (value_type_code k)) (value_types_within ks))

pub function_type_within : (t : FunctionType) → length t.params < 2 ^ 32 → length t.results < 2 ^ 32 → Within (IsFunctionType t) (11 + (length t.params + length t.results))
function_type_within t few_params few_results =
    let params : Within (IsVector IsValueType t.params) (5 + length t.params) = vector_within IsValueType t.params (length t.params) few_params (value_types_within t.params) in
    let results : Within (IsVector IsValueType t.results) (5 + length t.results) = vector_within IsValueType t.results (length t.results) few_results (value_types_within t.results) in
    within_raised (IsFunctionType t) (1 + ((5 + length t.params) + (5 + length t.results))) (11 + (length t.params + length t.results)) (omega arith)
    (then_within (IsByte 0x60) (Then (IsVector IsValueType t.params) (IsVector IsValueType t.results)) 1 ((5 + length t.params) + (5 + length t.results)) (byte_within 0x60)
    (then_within (IsVector IsValueType t.params) (IsVector IsValueType t.results) (5 + length t.params) (5 + length t.results) params results))

min_max_within : (min : ℕ) (max : Option ℕ) → min < 2 ^ 32 → IfSome max (λ m. m < 2 ^ 32) → Within (IsMinMax min max) 11
min_max_within min None small fits = within_raised (IsMinMax min None) 6 11 (omega arith) (then_within (IsByte 0x00) (IsU32 min) 1 5 (byte_within 0x00) (u32_within min small))
min_max_within min (Some max) small fits = then_within (IsByte 0x01) (Then (IsU32 min) (IsU32 max)) 1 10 (byte_within 0x01) (then_within (IsU32 min) (IsU32 max) 5 5 (u32_within min small) (u32_within max fits))

pub limits_within : (l : Limits) → l.min < 2 ^ 32 → IfSome l.max (λ m. m < 2 ^ 32) → Within (IsLimits l) 11
limits_within l small fits = min_max_within l.min l.max small fits

pub table_within : (l : Limits) → l.min < 2 ^ 32 → IfSome l.max (λ m. m < 2 ^ 32) → Within (IsTable l) 12
table_within l small fits = then_within (IsByte 0x70) (IsLimits l) 1 11 (byte_within 0x70) (limits_within l small fits)

pub global_type_within : (g : GlobalType) → Within (IsGlobalType g) 2
global_type_within g = then_within (IsValueType g.kind) (IsByte (mutability_code g.mutable)) 1 1 (byte_within (value_type_code g.kind)) (byte_within (mutability_code g.mutable))

-- Instructions.

-- a code and an index take at most six bytes
indexed_within : (code index : ℕ) → index < 2 ^ 32 → Within (IsIndexed code index) 11
indexed_within code index small = within_raised (IsIndexed code index) 6 11 (omega arith) (then_within (IsByte code) (IsU32 index) 1 5 (byte_within code) (u32_within index small))

one_byte_within : (code : ℕ) → Within (IsByte code) 11
one_byte_within code = within_raised (IsByte code) 1 11 (omega arith) (byte_within code)

access_within : (code : ℕ) (a : MemoryArgument) → (a.align < 2 ^ 32) × (a.offset < 2 ^ 32) → Within (IsAccess code a) 11
access_within code a small =
    then_within (IsByte code) (Then (IsU32 a.align) (IsU32 a.offset)) 1 10 (byte_within code)
    (then_within (IsU32 a.align) (IsU32 a.offset) 5 5 (u32_within a.align small.0) (u32_within a.offset small.1))

plain_within : (p : Plain) → IsSmallPlain p → Within (IsPlain p) 11
plain_within plain.Nop small = one_byte_within 0x01
plain_within plain.Drop small = one_byte_within 0x1a
plain_within plain.Select small = one_byte_within 0x1b
plain_within (plain.LocalGet x) small = indexed_within 0x20 x small
plain_within (plain.LocalSet x) small = indexed_within 0x21 x small
plain_within (plain.LocalTee x) small = indexed_within 0x22 x small
plain_within (plain.GlobalGet x) small = indexed_within 0x23 x small
plain_within (plain.GlobalSet x) small = indexed_within 0x24 x small
plain_within (plain.Load kind a) small = access_within (load_code kind) a small
plain_within (plain.Store kind a) small = access_within (store_code kind) a small
plain_within plain.MemorySize small = within_raised (Exactly (0x3f ∷ 0x00 ∷ [])) 2 11 (omega arith) (exactly_within (0x3f ∷ 0x00 ∷ []))
plain_within plain.MemoryGrow small = within_raised (Exactly (0x40 ∷ 0x00 ∷ [])) 2 11 (omega arith) (exactly_within (0x40 ∷ 0x00 ∷ []))
plain_within (plain.I32Const z) small = within_raised (IsPlain (plain.I32Const z)) 6 11 (omega arith) (then_within (IsByte 0x41) (IsS32 z) 1 5 (byte_within 0x41) (s32_within z small))
plain_within (plain.I64Const z) small = then_within (IsByte 0x42) (IsS64 z) 1 10 (byte_within 0x42) (s64_within z small)
plain_within (plain.EqualsZero kind) small = one_byte_within (equals_zero_code kind)
plain_within (plain.Compare kind c) small = one_byte_within (first_comparison kind + comparison_place c)
plain_within (plain.Unary kind o) small = one_byte_within (first_unary kind + unary_place o)
plain_within (plain.Binary kind o) small = one_byte_within (first_binary kind + binary_place o)
plain_within (plain.Convert c) small = one_byte_within (conversion_code c)

block_within : (code : ℕ) (kind : Option ValueType) → Within (Then (IsByte code) (IsBlockType kind)) 11
block_within code None = within_raised (Then (IsByte code) (IsBlockType None)) 2 11 (omega arith) (then_within (IsByte code) (IsBlockType None) 1 1 (byte_within code) (byte_within 0x40))
block_within code (Some kind) = within_raised (Then (IsByte code) (IsBlockType (Some kind))) 2 11 (omega arith) (then_within (IsByte code) (IsBlockType (Some kind)) 1 1 (byte_within code) (byte_within (value_type_code kind)))

-- An instruction takes at most eleven bytes.
pub op_within : (o : Op) → IsSmallOp o → Within (IsOp o) 11
op_within (op.Plain p) small = plain_within p small
op_within op.Unreachable small = one_byte_within 0x00
op_within (op.Block kind) small = block_within 0x02 kind
op_within (op.Loop kind) small = block_within 0x03 kind
op_within (op.If kind) small = block_within 0x04 kind
op_within op.Else small = one_byte_within 0x05
op_within op.End small = one_byte_within 0x0b
op_within (op.Br l) small = indexed_within 0x0c l small
op_within (op.BrIf l) small = indexed_within 0x0d l small
op_within (op.BrTable count) small = indexed_within 0x0e count small
op_within (op.Target l) small = within_raised (IsU32 l) 5 11 (omega arith) (u32_within l small)
op_within op.Return small = one_byte_within 0x0f
op_within (op.Call f) small = indexed_within 0x10 f small
op_within (op.CallIndirect t) small =
    within_raised (IsOp (op.CallIndirect t)) 7 11 (omega arith)
    (then_within (IsByte 0x11) (Then (IsU32 t) (IsByte 0x00)) 1 6 (byte_within 0x11) (then_within (IsU32 t) (IsByte 0x00) 5 1 (u32_within t small) (byte_within 0x00)))

all_ops_within : (ops : List Op) → AllByRecursion IsSmallOp ops → AllByRecursion (λ o. Within (IsOp o) 11) ops
all_ops_within [] all = tt
all_ops_within (o ∷ ops) all = (op_within o all.0, all_ops_within ops all.1)

pub expression_within : (ops : List Op) (tree : Code) → IsFlat ops tree → AllByRecursion IsSmallOp ops → Within (IsExpression ops) (11 * length ops + 1)
expression_within ops tree nested all =
    let w : Within (Then (IsEach IsOp ops) (IsByte 0x0b)) (11 * length ops + 1) = then_within (IsEach IsOp ops) (IsByte 0x0b) (11 * length ops) 1 (each_within IsOp ops 11 (all_ops_within ops all)) (byte_within 0x0b) in
    record { bytes = w.bytes; spells = record { tree = tree; nested = nested; spells = w.spells }; short = w.short }

-- Parts of a module.

import_kind_within : (k : ImportKind) → IsSmallImport k → Within (IsImportKind k) 13
import_kind_within («import».Function signature) small = within_raised (IsImportKind («import».Function signature)) 6 13 (omega arith) (then_within (IsByte 0x00) (IsU32 signature) 1 5 (byte_within 0x00) (u32_within signature small))
import_kind_within («import».Table l) small = then_within (IsByte 0x01) (IsTable l) 1 12 (byte_within 0x01) (table_within l small.0 small.1)
import_kind_within («import».Memory l) small = within_raised (IsImportKind («import».Memory l)) 12 13 (omega arith) (then_within (IsByte 0x02) (IsLimits l) 1 11 (byte_within 0x02) (limits_within l small.0 small.1))
import_kind_within («import».Global g) small = within_raised (IsImportKind («import».Global g)) 3 13 (omega arith) (then_within (IsByte 0x03) (IsGlobalType g) 1 2 (byte_within 0x03) (global_type_within g))

pub import_within : (i : Import) (m n : ℕ) → Within (IsName i.«module») m → Within (IsName i.name) n → IsSmallImport i.kind → Within (IsImport i) (m + (n + 13))
import_within i m n first second small =
    then_within (IsName i.«module») (Then (IsName i.name) (IsImportKind i.kind)) m (n + 13) first
    (then_within (IsName i.name) (IsImportKind i.kind) n 13 second (import_kind_within i.kind small))

pub signature_within : (f : Function) → f.signature < 2 ^ 32 → Within (IsSignature f) 5
signature_within f small = u32_within f.signature small

pub global_within : (g : Global) (n : ℕ) → Within (IsExpression g.init) n → Within (IsGlobal g) (2 + n)
global_within g n init = then_within (IsGlobalType g.kind) (IsExpression g.init) 2 n (global_type_within g.kind) init

export_kind_within : (k : ExportKind) → exported k < 2 ^ 32 → Within (IsExportKind k) 6
export_kind_within (export.Function f) small = then_within (IsByte 0x00) (IsU32 f) 1 5 (byte_within 0x00) (u32_within f small)
export_kind_within (export.Table t) small = then_within (IsByte 0x01) (IsU32 t) 1 5 (byte_within 0x01) (u32_within t small)
export_kind_within (export.Memory m) small = then_within (IsByte 0x02) (IsU32 m) 1 5 (byte_within 0x02) (u32_within m small)
export_kind_within (export.Global g) small = then_within (IsByte 0x03) (IsU32 g) 1 5 (byte_within 0x03) (u32_within g small)

pub export_within : (e : Export) (n : ℕ) → Within (IsName e.name) n → exported e.kind < 2 ^ 32 → Within (IsExport e) (n + 6)
export_within e n name small = then_within (IsName e.name) (IsExportKind e.kind) n 6 name (export_kind_within e.kind small)

indices_within : (fs : List ℕ) → AllByRecursion (λ f. f < 2 ^ 32) fs → AllByRecursion (λ f. Within (IsU32 f) 5) fs
indices_within [] all = tt
indices_within (f ∷ fs) all = (u32_within f all.0, indices_within fs all.1)

pub element_within : (s : ElementSegment) (n : ℕ) → s.table < 2 ^ 32 → Within (IsExpression s.offset) n → length s.functions < 2 ^ 32 → AllByRecursion (λ f. f < 2 ^ 32) s.functions → Within (IsElement s) (10 + (n + 5 * length s.functions))
element_within s n small offset few all =
    let functions : Within (IsVector IsU32 s.functions) (5 + 5 * length s.functions) = vector_within IsU32 s.functions (5 * length s.functions) few (each_within IsU32 s.functions 5 (indices_within s.functions all)) in
    within_raised (IsElement s) (5 + (n + (5 + 5 * length s.functions))) (10 + (n + 5 * length s.functions)) (omega arith)
    (then_within (IsU32 s.table) (Then (IsExpression s.offset) (IsVector IsU32 s.functions)) 5 (n + (5 + 5 * length s.functions)) (u32_within s.table small)
    (then_within (IsExpression s.offset) (IsVector IsU32 s.functions) n (5 + 5 * length s.functions) offset functions))

pub locals_within : (l : Locals) → l.count < 2 ^ 32 → Within (IsLocals l) 6
locals_within l small = then_within (IsU32 l.count) (IsValueType l.kind) 5 1 (u32_within l.count small) (byte_within (value_type_code l.kind))

all_locals_within : (ls : List Locals) → AllByRecursion (λ l. l.count < 2 ^ 32) ls → AllByRecursion (λ l. Within (IsLocals l) 6) ls
all_locals_within [] all = tt
all_locals_within (l ∷ ls) all = (locals_within l all.0, all_locals_within ls all.1)

pub code_within : (f : Function) (n : ℕ) → length f.locals < 2 ^ 32 → AllByRecursion (λ l. l.count < 2 ^ 32) f.locals → sum_by (λ l. l.count) f.locals < 2 ^ 32 → Within (IsExpression f.body) n → 5 + (6 * length f.locals + n) < 2 ^ 32 → Within (IsCode f) (10 + (6 * length f.locals + n))
code_within f n few all total body small =
    let locals : Within (IsVector IsLocals f.locals) (5 + 6 * length f.locals) = vector_within IsLocals f.locals (6 * length f.locals) few (each_within IsLocals f.locals 6 (all_locals_within f.locals all)) in
    let both : Within (Then (IsVector IsLocals f.locals) (IsExpression f.body)) ((5 + 6 * length f.locals) + n) =
    then_within (IsVector IsLocals f.locals) (IsExpression f.body) (5 + 6 * length f.locals) n locals body in
    within_raised (IsCode f) (5 + ((5 + 6 * length f.locals) + n)) (10 + (6 * length f.locals + n)) (omega arith)
    (sized_within (IsBody f) ((5 + 6 * length f.locals) + n) (omega arith)
    (record { bytes = both.bytes; spells = record { few = total; spells = both.spells }; short = both.short }))

pub data_within : (s : DataSegment) (n : ℕ) → s.memory < 2 ^ 32 → Within (IsExpression s.offset) n → length s.bytes < 2 ^ 32 → Within (IsData s) (10 + (n + length s.bytes))
data_within s n small offset few =
    within_raised (IsData s) (5 + (n + (5 + length s.bytes))) (10 + (n + length s.bytes)) (omega arith)
    (then_within (IsU32 s.memory) (Then (IsExpression s.offset) (IsByteVector s.bytes)) 5 (n + (5 + length s.bytes)) (u32_within s.memory small)
    (then_within (IsExpression s.offset) (IsByteVector s.bytes) n (5 + length s.bytes) offset (byte_vector_within s.bytes few)))

pub start_within : (start : Option ℕ) → IfSome start (λ f. f < 2 ^ 32) → Within (IsStart start) 11
start_within None small = record { bytes = []; spells = refl; short = omega arith }
start_within (Some f) small = section_within 8 (IsU32 f) 5 (omega arith) (u32_within f small)

-- A module.

pub none_short : {X : Type 0} (P : X → List ℕ → Type 0) → IsShort P []
none_short P = record { bound = 0; few = omega arith; small = omega arith; each = none_within P }

pub each_short : {X : Type 0} (P : X → List ℕ → Type 0) (xs : List X) (bound : ℕ) → length xs < 2 ^ 32 → 5 + bound * length xs < 2 ^ 32 → AllByRecursion (λ x. Within (P x) bound) xs → IsShort P xs
each_short P xs bound few small all = record { bound = bound * length xs; few = few; small = small; each = each_within P xs bound all }

section_has : {X : Type 0} (number : ℕ) (P : X → List ℕ → Type 0) (xs : List X) → IsShort P xs → HasSpelling (After (IsVectorSection number P xs))
section_has number P xs s = within_has (after_within (IsVectorSection number P xs) (11 + s.bound) (vector_section_within number P xs s.bound s.few s.small s.each))

then_has : (P Q : List ℕ → Type 0) → HasSpelling P → HasSpelling Q → HasSpelling (Then P Q)
then_has P Q p q = record { bytes = p.bytes ++ q.bytes; spells = record { front = p.bytes; back = q.bytes; whole = refl; first = p.spells; second = q.spells } }

pub written_within : (m : Module) → HasShortParts m → HasSpelling (Written m)
written_within m s =
    then_has _ _ (record { bytes = header; spells = refl })
    (then_has _ _ (section_has 1 IsFunctionType m.types s.types)
    (then_has _ _ (section_has 2 IsImport m.imports s.imports)
    (then_has _ _ (section_has 3 IsSignature m.functions s.signatures)
    (then_has _ _ (section_has 4 IsTable m.tables s.tables)
    (then_has _ _ (section_has 5 IsLimits m.memories s.memories)
    (then_has _ _ (section_has 6 IsGlobal m.globals s.globals)
    (then_has _ _ (section_has 7 IsExport m.exports s.exports)
    (then_has _ _ (within_has (after_within (IsStart m.start) 11 (start_within m.start s.start)))
    (then_has _ _ (section_has 9 IsElement m.elements s.elements)
    (then_has _ _ (section_has 10 IsCode m.functions s.codes)
    (then_has _ _ (section_has 11 IsData m.segments s.segments)
    (within_has no_customs_within))))))))))))
