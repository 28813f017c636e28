-- The parts of a module are read exactly.
use Rattle.std.proofs.Common.{◌≡◌, ℕ, zero, suc, Bool, true, false, List, [], ◌∷◌, ◌++◌, length, Result, Ok, Err, Option, Some, None, refl, sym, ap, ◌∙◌, subst}
use Rattle.std.proofs.Common.{◌+◌, ◌<◌, ◌^◌, arith}
use Rattle.std.specs.Prelude.{nat_lt}
use Rattle.std.proofs.lemmas.Bool.{ltb-true, lt-ltb}
use Rattle.std.specs.List.{sum_by}
use Rattle.std.proofs.lemmas.List.Sums.{sum_by-cons}
use Rattle.wasm_tree.specs.declared.types.ValueType.{ValueType}
use Rattle.wasm_tree.specs.declared.types.Limits.{Limits}
use Rattle.wasm_tree.specs.declared.op.Op.{Op}
use Rattle.wasm_tree.specs.declared.module_parts.ImportKind.{ImportKind}
use Rattle.wasm_tree.specs.declared.module_parts.ImportKind.TheVariants as «import»
use Rattle.wasm_tree.specs.declared.module_parts.Locals.{Locals}
use Rattle.wasm_tree.specs.declared.module_parts.Function.{Function}
use Rattle.wasm_tree.specs.declared.module_parts.ExportKind.{ExportKind}
use Rattle.wasm_tree.specs.declared.module_parts.ExportKind.TheVariants as export
use Rattle.wasm_tree.specs.Spelling.{IsByte, Then, IsU32, IsEach, IsVector, IsSized, IsByteVector}
use Rattle.wasm_tree.specs.Binary.{mutability_code, IsValueType, IsFunctionType, IsMinMax, IsLimits, IsTable, IsGlobalType, IsName, IsExpression, IsImportKind, IsImport, IsGlobal, IsExportKind, IsExport, IsElement, IsLocals, IsCode, IsData}
use Rattle.wasm_read.specs.declared.fault.Fault.{Fault}
use Rattle.wasm_read.specs.declared.fault.Fault.TheVariants.{Malformed}
use Rattle.wasm_read.specs.Fields.{Reading, first, after_code, vector_at, byte_vector_at, name_at, u32_at}
use Rattle.exact_reading.specs.Reading.{made, both}
use Rattle.wasm_read.specs.Codes.{value_type_at, expression_at}
use Rattle.wasm_read.specs.Parts.{function_type, function_type_at, at_least, from_to, limits_by, limits_at, table_at, mutable_at, global_type, global_type_at, import_kind_by, import_kind_at, imported, import_at, global, global_at, export_kind_by, export_kind_at, exported, export_at, element, element_at, locals, locals_at, segment, data_at, count_at, with_group, groups_at, body_parts_at, function, code_at}
use Rattle.exact_reading.proofs.Exact.{Front, Exact, bind_ok, same_pair, made_sound, made_complete, made_exact, renamed, kept_exact, eq_is, if_ok, not_ok, announced}
use Rattle.wasm_read.proofs.Exact.{okay, both_exact, after_exact}
use Rattle.wasm_read.proofs.Numbers.{u32_exact}
use Rattle.wasm_read.proofs.Names.{vector_exact, name_exact, sized_exact}
use Rattle.wasm_read.proofs.Choices.{alone, coded, uncoded, at_code, value_type_exact}
use Rattle.wasm_read.proofs.Vectors.{each, count_of, vectors_exact}
use Rattle.exact_reading.proofs.Exact as exact
use Rattle.exact_reading.proofs.Lists.{Linked, list_exact}
use Rattle.wasm_read.proofs.Expressions.{expression_exact}

-- What its first byte announces.
chosen_by : {X Y : Type 0} (P : X → List ℕ → Type 0) (f : X → Y) (p : Reading X) → Exact P p → (F : ℕ → List ℕ → Result (Y × List ℕ) Fault) (code : ℕ) → ((rest : List ℕ) → F code rest ≡ made f p rest) → (x : X) (front rest : List ℕ) → Then (IsByte code) (P x) front → first F (front ++ rest) ≡ Ok (f x, rest)
chosen_by P f p ep F code by x front rest h = let u = uncoded code (P x) front h in exact.chosen_by P f p ep Malformed F code by x front u.0 rest u.1 u.2

abbrev IsTypes : List ValueType × List ValueType → List ℕ → Type 0
IsTypes z = Then (IsVector IsValueType z.0) (IsVector IsValueType z.1)

types_exact : Exact (IsVector IsValueType) (vector_at value_type_at)
types_exact = vectors_exact IsValueType value_type_at value_type_exact

pub function_type_exact : Exact IsFunctionType function_type_at
unfolding function_type_at
function_type_exact =
    made_exact (λ z. Then (IsByte 0x60) (IsTypes z)) IsFunctionType function_type (λ t. (t.params, t.results)) (after_code 0x60 (both (vector_at value_type_at) (vector_at value_type_at)))
    (λ _. refl) (λ x front h. h) (λ y front h. h)
    (after_exact IsTypes 0x60 (both (vector_at value_type_at) (vector_at value_type_at)) (both_exact (IsVector IsValueType) (IsVector IsValueType) (vector_at value_type_at) (vector_at value_type_at) types_exact types_exact))

abbrev IsPair : ℕ × ℕ → List ℕ → Type 0
IsPair a = Then (IsU32 a.0) (IsU32 a.1)

pair_exact : Exact IsPair (both u32_at u32_at)
pair_exact = both_exact IsU32 IsU32 u32_at u32_at u32_exact u32_exact

limits_complete : (min : ℕ) (max : Option ℕ) (front rest : List ℕ) → IsMinMax min max front → first limits_by (front ++ rest) ≡ Ok (record { min = min; max = max }, rest)
limits_complete min None front rest h = chosen_by IsU32 at_least u32_at u32_exact limits_by 0x00 (λ _. refl) min front rest h
limits_complete min (Some max) front rest h = chosen_by IsPair from_to (both u32_at u32_at) pair_exact limits_by 0x01 (λ _. refl) (min, max) front rest h

limits_sound : (bytes : List ℕ) (r : Limits × List ℕ) → first limits_by bytes ≡ okay r → Front IsLimits bytes r.0 r.1
limits_sound [] r e = absurd (not_ok e)
limits_sound (b ∷ bs) r e =
    if_ok e (λ t h. announced IsU32 IsLimits at_least u32_at u32_exact 0x00 b bs r (eq_is b 0x00 t) (λ x front s. coded 0x00 (IsU32 x) front s) h)
    (λ _ e. if_ok e (λ t h. announced IsPair IsLimits from_to (both u32_at u32_at) pair_exact 0x01 b bs r (eq_is b 0x01 t) (λ x front s. coded 0x01 (IsPair x) front s) h)
    (λ _ e. absurd (not_ok e)))

pub limits_exact : Exact IsLimits limits_at
unfolding limits_at
limits_exact = record { sound = limits_sound; complete = λ x front rest h. limits_complete x.min x.max front rest h }

pub table_exact : Exact IsTable table_at
unfolding table_at
table_exact = after_exact IsLimits 0x70 limits_at limits_exact

abbrev IsMutable : Bool → List ℕ → Type 0
IsMutable m = IsByte (mutability_code m)

mutable_exact : Exact IsMutable mutable_at
mutable_exact = record { sound = sound; complete = complete }
  where
    sound : (bytes : List ℕ) (r : Bool × List ℕ) → mutable_at bytes ≡ Ok r → Front IsMutable bytes r.0 r.1
    sound [] r e = absurd (not_ok e)
    sound (b ∷ bs) r e =
        if_ok e (λ t h. alone IsMutable 0x00 b false bs r (eq_is b 0x00 t) refl h)
        (λ _ e. if_ok e (λ t h. alone IsMutable 0x01 b true bs r (eq_is b 0x01 t) refl h)
        (λ _ e. absurd (not_ok e)))

    complete : (x : Bool) (front rest : List ℕ) → IsMutable x front → mutable_at (front ++ rest) ≡ Ok (x, rest)
    complete false front rest h = ap (λ l. mutable_at (l ++ rest)) h
    complete true front rest h = ap (λ l. mutable_at (l ++ rest)) h

pub global_type_exact : Exact IsGlobalType global_type_at
unfolding global_type_at
global_type_exact =
    made_exact (λ z. Then (IsValueType z.0) (IsMutable z.1)) IsGlobalType global_type (λ g. (g.kind, g.mutable)) (both value_type_at mutable_at)
    (λ _. refl) (λ x front h. h) (λ y front h. h) (both_exact IsValueType IsMutable value_type_at mutable_at value_type_exact mutable_exact)

import_kind_sound : (bytes : List ℕ) (r : ImportKind × List ℕ) → first import_kind_by bytes ≡ okay r → Front IsImportKind bytes r.0 r.1
import_kind_sound [] r e = absurd (not_ok e)
import_kind_sound (b ∷ bs) r e =
    if_ok e (λ t h. announced IsU32 IsImportKind «import».Function u32_at u32_exact 0x00 b bs r (eq_is b 0x00 t) (λ x front s. coded 0x00 (IsU32 x) front s) h)
    (λ _ e. if_ok e (λ t h. announced IsTable IsImportKind «import».Table table_at table_exact 0x01 b bs r (eq_is b 0x01 t) (λ x front s. coded 0x01 (IsTable x) front s) h)
    (λ _ e. if_ok e (λ t h. announced IsLimits IsImportKind «import».Memory limits_at limits_exact 0x02 b bs r (eq_is b 0x02 t) (λ x front s. coded 0x02 (IsLimits x) front s) h)
    (λ _ e. if_ok e (λ t h. announced IsGlobalType IsImportKind «import».Global global_type_at global_type_exact 0x03 b bs r (eq_is b 0x03 t) (λ x front s. coded 0x03 (IsGlobalType x) front s) h)
    (λ _ e. absurd (not_ok e)))))

import_kind_complete : (x : ImportKind) (front rest : List ℕ) → IsImportKind x front → first import_kind_by (front ++ rest) ≡ Ok (x, rest)
import_kind_complete («import».Function x) front rest h = chosen_by IsU32 «import».Function u32_at u32_exact import_kind_by 0x00 (λ _. refl) x front rest h
import_kind_complete («import».Table x) front rest h = chosen_by IsTable «import».Table table_at table_exact import_kind_by 0x01 (λ _. refl) x front rest h
import_kind_complete («import».Memory x) front rest h = chosen_by IsLimits «import».Memory limits_at limits_exact import_kind_by 0x02 (λ _. refl) x front rest h
import_kind_complete («import».Global x) front rest h = chosen_by IsGlobalType «import».Global global_type_at global_type_exact import_kind_by 0x03 (λ _. refl) x front rest h

import_kind_exact : Exact IsImportKind import_kind_at
unfolding import_kind_at
import_kind_exact = record { sound = import_kind_sound; complete = import_kind_complete }

export_kind_sound : (bytes : List ℕ) (r : ExportKind × List ℕ) → first export_kind_by bytes ≡ okay r → Front IsExportKind bytes r.0 r.1
export_kind_sound [] r e = absurd (not_ok e)
export_kind_sound (b ∷ bs) r e =
    if_ok e (λ t h. announced IsU32 IsExportKind export.Function u32_at u32_exact 0x00 b bs r (eq_is b 0x00 t) (λ x front s. coded 0x00 (IsU32 x) front s) h)
    (λ _ e. if_ok e (λ t h. announced IsU32 IsExportKind export.Table u32_at u32_exact 0x01 b bs r (eq_is b 0x01 t) (λ x front s. coded 0x01 (IsU32 x) front s) h)
    (λ _ e. if_ok e (λ t h. announced IsU32 IsExportKind export.Memory u32_at u32_exact 0x02 b bs r (eq_is b 0x02 t) (λ x front s. coded 0x02 (IsU32 x) front s) h)
    (λ _ e. if_ok e (λ t h. announced IsU32 IsExportKind export.Global u32_at u32_exact 0x03 b bs r (eq_is b 0x03 t) (λ x front s. coded 0x03 (IsU32 x) front s) h)
    (λ _ e. absurd (not_ok e)))))

export_kind_complete : (x : ExportKind) (front rest : List ℕ) → IsExportKind x front → first export_kind_by (front ++ rest) ≡ Ok (x, rest)
export_kind_complete (export.Function x) front rest h = chosen_by IsU32 export.Function u32_at u32_exact export_kind_by 0x00 (λ _. refl) x front rest h
export_kind_complete (export.Table x) front rest h = chosen_by IsU32 export.Table u32_at u32_exact export_kind_by 0x01 (λ _. refl) x front rest h
export_kind_complete (export.Memory x) front rest h = chosen_by IsU32 export.Memory u32_at u32_exact export_kind_by 0x02 (λ _. refl) x front rest h
export_kind_complete (export.Global x) front rest h = chosen_by IsU32 export.Global u32_at u32_exact export_kind_by 0x03 (λ _. refl) x front rest h

export_kind_exact : Exact IsExportKind export_kind_at
unfolding export_kind_at
export_kind_exact = record { sound = export_kind_sound; complete = export_kind_complete }

pub import_exact : Exact IsImport import_at
unfolding import_at
import_exact =
    made_exact (λ z. Then (IsName z.0) (Then (IsName z.1.0) (IsImportKind z.1.1))) IsImport imported (λ i. (i.«module», (i.name, i.kind))) (both name_at (both name_at import_kind_at))
    (λ _. refl) (λ x front h. h) (λ y front h. h)
    (both_exact IsName (λ z. Then (IsName z.0) (IsImportKind z.1)) name_at (both name_at import_kind_at) name_exact (both_exact IsName IsImportKind name_at import_kind_at name_exact import_kind_exact))

pub global_exact : Exact IsGlobal global_at
unfolding global_at
global_exact =
    made_exact (λ z. Then (IsGlobalType z.0) (IsExpression z.1)) IsGlobal global (λ g. (g.kind, g.init)) (both global_type_at expression_at)
    (λ _. refl) (λ x front h. h) (λ y front h. h) (both_exact IsGlobalType IsExpression global_type_at expression_at global_type_exact expression_exact)

pub export_exact : Exact IsExport export_at
unfolding export_at
export_exact =
    made_exact (λ z. Then (IsName z.0) (IsExportKind z.1)) IsExport exported (λ e. (e.name, e.kind)) (both name_at export_kind_at)
    (λ _. refl) (λ x front h. h) (λ y front h. h) (both_exact IsName IsExportKind name_at export_kind_at name_exact export_kind_exact)

pub element_exact : Exact IsElement element_at
unfolding element_at
element_exact =
    made_exact (λ z. Then (IsU32 z.0) (Then (IsExpression z.1.0) (IsVector IsU32 z.1.1))) IsElement element (λ s. (s.table, (s.offset, s.functions))) (both u32_at (both expression_at (vector_at u32_at)))
    (λ _. refl) (λ x front h. h) (λ y front h. h)
    (both_exact IsU32 (λ z. Then (IsExpression z.0) (IsVector IsU32 z.1)) u32_at (both expression_at (vector_at u32_at)) u32_exact (both_exact IsExpression (IsVector IsU32) expression_at (vector_at u32_at) expression_exact (vectors_exact IsU32 u32_at u32_exact)))

pub data_exact : Exact IsData data_at
unfolding data_at
data_exact =
    made_exact (λ z. Then (IsU32 z.0) (Then (IsExpression z.1.0) (IsByteVector z.1.1))) IsData segment (λ s. (s.memory, (s.offset, s.bytes))) (both u32_at (both expression_at byte_vector_at))
    (λ _. refl) (λ x front h. h) (λ y front h. h)
    (both_exact IsU32 (λ z. Then (IsExpression z.0) (IsByteVector z.1)) u32_at (both expression_at byte_vector_at) u32_exact (both_exact IsExpression IsByteVector expression_at byte_vector_at expression_exact vector_exact))

-- Groups of fewer than 2^32 locals.
abbrev IsCount : ℕ → ℕ → List ℕ → Type 0
IsCount before n bytes = IsU32 n bytes × (before + n < 2 ^ 32)

abbrev IsFew : ℕ → Locals → Type 0
IsFew before group = before + group.count < 2 ^ 32

count_exact : (before : ℕ) → Exact (IsCount before) (count_at before)
count_exact before = kept_exact IsU32 (IsCount before) Malformed (λ n. nat_lt (before + n) (2 ^ 32)) u32_at u32_exact (λ n front h t. (h, ltb-true (before + n) (2 ^ 32) t)) (λ n front h. (h.0, lt-ltb (before + n) (2 ^ 32) h.1))

locals_exact : (before : ℕ) → Exact (λ l b. IsLocals l b × IsFew before l) (locals_at before)
unfolding locals_at
locals_exact before =
    made_exact (λ z. Then (IsCount before z.0) (IsValueType z.1)) (λ l b. IsLocals l b × IsFew before l) locals (λ l. (l.count, l.kind)) (both (count_at before) value_type_at) (λ _. refl)
    (λ x front h. (record { front = h.front; back = h.back; whole = h.whole; first = h.first.0; second = h.second }, h.first.1))
    (λ y front h. record { front = h.0.front; back = h.0.back; whole = h.0.whole; first = (h.0.first, h.1); second = h.0.second })
    (both_exact (IsCount before) IsValueType (count_at before) value_type_at (count_exact before) value_type_exact)

abbrev counts : List Locals → ℕ
counts groups = sum_by (λ l. l.count) groups

add_count : (g : Locals) (gs : List Locals) → counts (g ∷ gs) ≡ g.count + counts gs
add_count g gs = sum_by-cons (λ l. l.count) g gs

few_sum : (before : ℕ) (groups : List Locals) → before < 2 ^ 32 → Linked IsFew with_group before groups → before + counts groups < 2 ^ 32
few_sum before [] h k = omega (arith, h)
few_sum before (g ∷ gs) h k = omega (arith, few_sum (before + g.count) gs k.0 k.1, add_count g gs)

sum_few : (before : ℕ) (groups : List Locals) → before + counts groups < 2 ^ 32 → Linked IsFew with_group before groups
sum_few before [] h = tt
sum_few before (g ∷ gs) h = let s = add_count g gs in (omega (arith, h, s), sum_few (before + g.count) gs (omega (arith, h, s)))

abbrev IsGroups : List Locals → List ℕ → Type 0
IsGroups groups bytes = IsVector IsLocals groups bytes × (counts groups < 2 ^ 32)

groups_exact : Exact IsGroups groups_at
unfolding groups_at
groups_exact =
    renamed (λ gs b. IsVector IsLocals gs b × Linked IsFew with_group 0 gs) IsGroups _
    (λ x front h. let f = few_sum 0 x (omega arith) h.1 in (h.0, omega (arith, f)))
    (λ x front h. (h.0, sum_few 0 x (omega (arith, h.1))))
    (list_exact Malformed Malformed locals_at with_group IsLocals (IsEach IsLocals) IsFew (each IsLocals) locals_exact (IsVector IsLocals) 0 (count_of IsLocals))

abbrev IsParts : List Locals × List Op → List ℕ → Type 0
IsParts z = Then (IsGroups z.0) (IsExpression z.1)

abbrev IsSizedParts : List Locals × List Op → List ℕ → Type 0
IsSizedParts z = IsSized (IsParts z)

body_parts_exact : Exact IsSizedParts body_parts_at
unfolding body_parts_at
body_parts_exact = sized_exact IsParts (both groups_at expression_at) (both_exact IsGroups IsExpression groups_at expression_at groups_exact expression_exact)

-- What stands behind its size is a body where it is its parts.
to_code : (f : Function) (bytes : List ℕ) → IsSizedParts (f.locals, f.body) bytes → IsCode f bytes
to_code f bytes h = record {
  size = h.size;
  contents = h.contents;
  whole = h.whole;
  count = h.count;
  inner = let p = h.inner in record { few = p.first.1; spells = record { front = p.front; back = p.back; whole = p.whole; first = p.first.0; second = p.second } };
}

to_parts : (f : Function) (bytes : List ℕ) → IsCode f bytes → IsSizedParts (f.locals, f.body) bytes
to_parts f bytes h = record {
  size = h.size;
  contents = h.contents;
  whole = h.whole;
  count = h.count;
  inner = let p = h.inner.spells in record { front = p.front; back = p.back; whole = p.whole; first = (p.first, h.inner.few); second = p.second };
}

pub code_exact : (s : ℕ) → Exact (λ f l. IsCode f l × (f.signature ≡ s)) (code_at s)
code_exact s = record {
  sound = made_sound IsSizedParts (λ f l. IsCode f l × (f.signature ≡ s)) (function s) body_parts_at body_parts_exact (λ x front h. (to_code (function s x) front h, refl));
  complete = λ f front rest h.
      made_complete IsSizedParts (function s) body_parts_at body_parts_exact (f.locals, f.body) front rest (to_parts f front h.0) ∙ ap (λ n. Ok (function n (f.locals, f.body), rest)) (sym h.1);
}
