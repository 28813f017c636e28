-- Modules are read exactly.
use Rattle.std.proofs.Common.{◌≡◌, ℕ, suc, ◌≤◌, cond, List, [], ◌∷◌, ◌++◌, length, Result, Ok, Err, Option, Some, None, ◌⊎◌, inl, inr, refl, sym, ap, ◌∙◌, subst, arith}
use Rattle.std.specs.Prelude.{IfOk, nat_eq, nat_lt}
use Rattle.std.proofs.lemmas.Bool.{eq-eqb, le-ltb}
use Rattle.wasm_tree.specs.declared.types.FunctionType.{FunctionType}
use Rattle.wasm_tree.specs.declared.module_parts.Import.{Import}
use Rattle.wasm_tree.specs.declared.module_parts.Function.{Function}
use Rattle.wasm_tree.specs.declared.module_parts.Module.{Module}
use Rattle.wasm_tree.specs.Spelling.{Then, IsU32, IsEach, IsVector, IsSized, IsSection, IsVectorSection, IsMany}
use Rattle.wasm_tree.specs.Binary.{IsFunctionType, IsLimits, IsTable, IsImport, IsSignature, IsGlobal, IsExport, IsStart, IsElement, IsCode, IsData, IsCustom, After, header, Written}
use Rattle.wasm_read.specs.declared.fault.Fault.{Fault}
use Rattle.wasm_read.specs.declared.fault.Fault.TheVariants.{TooLarge, NotWasm, Malformed}
use Rattle.wasm_read.specs.declared.fault.ReadFault.{ReadFault}
use Rattle.exact_reading.specs.Reading.{◌>>=◌, made}
use Rattle.exact_reading.specs.Prefix.{prefix_at}
use Rattle.wasm_read.specs.Fields.{u32_at, vector_at}
use Rattle.wasm_read.specs.Parts.{function_type_at, import_at, table_at, limits_at, global_at, export_at, element_at, code_vector_at, data_at}
use Rattle.wasm_read.specs.Sections.{start_at, no_codes, code_section_at, Contents, contents_at, Stores, stores_at, sections_at, module_of, parts_at, largest, module_at, Answers}
use Rattle.exact_reading.proofs.Exact.{Exact, ok_is, bind_ok, test_ok, made_sound, made_complete, eq_is, if_ok, not_ok}
use Rattle.exact_reading.proofs.Prefix.{prefix_sound, prefix_complete}
use Rattle.wasm_read.proofs.Exact.{okay, nothing}
use Rattle.wasm_read.proofs.Numbers.{u32_exact}
use Rattle.wasm_read.proofs.Vectors.{signatures, code_vector_exact}
use Rattle.wasm_read.proofs.Parts.{function_type_exact, import_exact, table_exact, limits_exact, global_exact, export_exact, element_exact, data_exact, code_exact}
use Rattle.wasm_read.proofs.Slots.{Slot, Tail, tail_complete, ends_tail, then_tail, vector_slot}

-- The start section.
abbrev IsStarted : Option ℕ → List ℕ → Type 0
IsStarted None l = ⊥
IsStarted (Some f) l = IsU32 f l

started_exact : Exact IsStarted (made Some u32_at)
started_exact = record { sound = made_sound IsU32 IsStarted Some u32_at u32_exact (λ x front h. h); complete = complete }
  where
    complete : (x : Option ℕ) (front rest : List ℕ) → IsStarted x front → made Some u32_at (front ++ rest) ≡ Ok (x, rest)
    complete None front rest h = absurd h
    complete (Some f) front rest h = made_complete IsU32 Some u32_at u32_exact f front rest h

start_slot : Slot 8 IsStart IsStarted (Ok None) (made Some u32_at)
start_slot = record { exact = started_exact; left_out = λ x e. subst (λ z. IsStart z []) (ok_is None x e) refl; stands = stands; cases = cases }
  where
    stands : (x : Option ℕ) (l : List ℕ) → IsSection 8 (IsStarted x) l → IsStart x l
    stands None l h = absurd h.second.inner
    stands (Some f) l h = h

    cases : (x : Option ℕ) (l : List ℕ) → IsStart x l → ((l ≡ []) × (okay None ≡ okay x)) ⊎ IsSection 8 (IsStarted x) l
    cases None l h = inl (h, refl)
    cases (Some f) l h = inr h

-- The code section.
abbrev IsCodes : List ℕ → List Function → List ℕ → Type 0
IsCodes ss fs l = IsVector IsCode fs l × (signatures fs ≡ ss)

abbrev IsCodeSection : List ℕ → List Function → List ℕ → Type 0
IsCodeSection ss fs l = IsVectorSection 10 IsCode fs l × (signatures fs ≡ ss)

code_slot : (ss : List ℕ) → Slot 10 (IsCodeSection ss) (IsCodes ss) (no_codes ss) (code_vector_at ss)
code_slot ss = record { exact = code_vector_exact code_exact ss; left_out = left_out; stands = stands; cases = cases }
  where
    empty : (z : List Function) → okay [] ≡ okay z → z ≡ []
    empty z e = sym (ok_is [] z e)

    left_out : (x : List Function) → no_codes ss ≡ Ok x → IsCodeSection ss x []
    left_out x e =
        let t = test_ok (nat_eq (length ss) 0) [] x Malformed e in
        let n : ss ≡ [] = nothing ss t.0 in
        (inl (sym t.1, refl), ap signatures (sym t.1) ∙ sym n)

    stands : (x : List Function) (l : List ℕ) → IsSection 10 (IsCodes ss x) l → IsCodeSection ss x l
    stands x l h = (inr (record { front = h.front; back = h.back; whole = h.whole; first = h.first; second = record { size = h.second.size; contents = h.second.contents; whole = h.second.whole; count = h.second.count; inner = h.second.inner.0 } }), h.second.inner.1)

    cases : (x : List Function) (l : List ℕ) → IsCodeSection ss x l → ((l ≡ []) × (no_codes ss ≡ Ok x)) ⊎ IsSection 10 (IsCodes ss x) l
    cases x l h = by h.0
      where
        by : ((x ≡ []) × (l ≡ [])) ⊎ IsSection 10 (IsVector IsCode x) l → ((l ≡ []) × (no_codes ss ≡ Ok x)) ⊎ IsSection 10 (IsCodes ss x) l
        by (inl k) =
            let n : ss ≡ [] = sym h.1 ∙ ap signatures k.0 in
            inl (k.1, ap no_codes n ∙ ap (λ z. okay z) (sym k.0))
        by (inr k) = inr (record { front = k.front; back = k.back; whole = k.whole; first = k.first; second = record { size = k.second.size; contents = k.second.contents; whole = k.second.whole; count = k.second.count; inner = (k.second.inner, h.1) } })

-- From the last section on.
abbrev IsContents : List ℕ → Contents → List ℕ → Type 0
IsContents ss z = Then (After (IsStart z.0)) (Then (After (IsVectorSection 9 IsElement z.1.0)) (Then (After (IsCodeSection ss z.1.1.0)) (Then (After (IsVectorSection 11 IsData z.1.1.1.0)) (IsMany IsCustom))))

contents_tail : (ss : List ℕ) → Tail 8 (IsContents ss) (contents_at ss)
unfolding contents_at start_at code_section_at
contents_tail ss =
    then_tail 8 IsStart IsStarted (Ok None) (made Some u32_at) (λ _ z. Then (After (IsVectorSection 9 IsElement z.0)) (Then (After (IsCodeSection ss z.1.0)) (Then (After (IsVectorSection 11 IsData z.1.1.0)) (IsMany IsCustom)))) _ (omega arith) start_slot (λ _.
    then_tail 9 (IsVectorSection 9 IsElement) (IsVector IsElement) (Ok []) (vector_at element_at) (λ _ z. Then (After (IsCodeSection ss z.0)) (Then (After (IsVectorSection 11 IsData z.1.0)) (IsMany IsCustom))) _ (omega arith) (vector_slot 9 IsElement element_at element_exact) (λ _.
    then_tail 10 (IsCodeSection ss) (IsCodes ss) (no_codes ss) (code_vector_at ss) (λ _ z. Then (After (IsVectorSection 11 IsData z.0)) (IsMany IsCustom)) _ (omega arith) (code_slot ss) (λ _.
    then_tail 11 (IsVectorSection 11 IsData) (IsVector IsData) (Ok []) (vector_at data_at) (λ _ _. IsMany IsCustom) _ (omega arith) (vector_slot 11 IsData data_at data_exact) (λ _. ends_tail))))

abbrev IsStores : List ℕ → Stores → List ℕ → Type 0
IsStores ss z = Then (After (IsVectorSection 4 IsTable z.0)) (Then (After (IsVectorSection 5 IsLimits z.1.0)) (Then (After (IsVectorSection 6 IsGlobal z.1.1.0)) (Then (After (IsVectorSection 7 IsExport z.1.1.1.0)) (IsContents ss z.1.1.1.1))))

stores_tail : (ss : List ℕ) → Tail 4 (IsStores ss) (stores_at ss)
unfolding stores_at
stores_tail ss =
    then_tail 4 (IsVectorSection 4 IsTable) (IsVector IsTable) (Ok []) (vector_at table_at) (λ _ z. Then (After (IsVectorSection 5 IsLimits z.0)) (Then (After (IsVectorSection 6 IsGlobal z.1.0)) (Then (After (IsVectorSection 7 IsExport z.1.1.0)) (IsContents ss z.1.1.1)))) _ (omega arith) (vector_slot 4 IsTable table_at table_exact) (λ _.
    then_tail 5 (IsVectorSection 5 IsLimits) (IsVector IsLimits) (Ok []) (vector_at limits_at) (λ _ z. Then (After (IsVectorSection 6 IsGlobal z.0)) (Then (After (IsVectorSection 7 IsExport z.1.0)) (IsContents ss z.1.1))) _ (omega arith) (vector_slot 5 IsLimits limits_at limits_exact) (λ _.
    then_tail 6 (IsVectorSection 6 IsGlobal) (IsVector IsGlobal) (Ok []) (vector_at global_at) (λ _ z. Then (After (IsVectorSection 7 IsExport z.0)) (IsContents ss z.1)) _ (omega arith) (vector_slot 6 IsGlobal global_at global_exact) (λ _.
    then_tail 7 (IsVectorSection 7 IsExport) (IsVector IsExport) (Ok []) (vector_at export_at) (λ _ z. IsContents ss z) _ (omega arith) (vector_slot 7 IsExport export_at export_exact) (λ _. contents_tail ss))))

abbrev IsSections : List FunctionType × (List Import × (List ℕ × Stores)) → List ℕ → Type 0
IsSections z = Then (After (IsVectorSection 1 IsFunctionType z.0)) (Then (After (IsVectorSection 2 IsImport z.1.0)) (Then (After (IsVectorSection 3 IsU32 z.1.1.0)) (IsStores z.1.1.0 z.1.1.1)))

sections_tail : Tail 1 IsSections sections_at
unfolding sections_at
sections_tail =
    then_tail 1 (IsVectorSection 1 IsFunctionType) (IsVector IsFunctionType) (Ok []) (vector_at function_type_at) (λ _ z. Then (After (IsVectorSection 2 IsImport z.0)) (Then (After (IsVectorSection 3 IsU32 z.1.0)) (IsStores z.1.0 z.1.1))) _ (omega arith) (vector_slot 1 IsFunctionType function_type_at function_type_exact) (λ _.
    then_tail 2 (IsVectorSection 2 IsImport) (IsVector IsImport) (Ok []) (vector_at import_at) (λ _ z. Then (After (IsVectorSection 3 IsU32 z.0)) (IsStores z.0 z.1)) _ (omega arith) (vector_slot 2 IsImport import_at import_exact) (λ _.
    then_tail 3 (IsVectorSection 3 IsU32) (IsVector IsU32) (Ok []) (vector_at u32_at) (λ ss z. IsStores ss z) _ (omega arith) (vector_slot 3 IsU32 u32_at u32_exact) (λ ss. stores_tail ss)))

-- Parts of a spelling replaced.
then_map : {P Q R S : List ℕ → Type 0} → ((l : List ℕ) → P l → R l) → ((l : List ℕ) → Q l → S l) → (l : List ℕ) → Then P Q l → Then R S l
then_map f g l h = record { front = h.front; back = h.back; whole = h.whole; first = f h.front h.first; second = g h.back h.second }

-- The types of functions, in their own section.
each_to : (fs : List Function) (l : List ℕ) → IsEach IsU32 (signatures fs) l → IsEach IsSignature fs l
each_to [] l h = h
each_to (f ∷ fs) l h = record { front = h.front; back = h.back; whole = h.whole; first = h.first; second = each_to fs h.back h.second }

each_from : (fs : List Function) (l : List ℕ) → IsEach IsSignature fs l → IsEach IsU32 (signatures fs) l
each_from [] l h = h
each_from (f ∷ fs) l h = record { front = h.front; back = h.back; whole = h.whole; first = h.first; second = each_from fs h.back h.second }

as_many : (fs : List Function) → length (signatures fs) ≡ length fs
as_many [] = refl
as_many (f ∷ fs) = ap suc (as_many fs)

no_functions : (fs : List Function) → signatures fs ≡ [] → fs ≡ []
no_functions [] e = refl
no_functions (f ∷ fs) e = let n : suc (length (signatures fs)) ≡ 0 = ap length e in absurd (omega arith)

sized_map : {P Q : List ℕ → Type 0} → ((l : List ℕ) → P l → Q l) → (l : List ℕ) → IsSized P l → IsSized Q l
sized_map f l h = record { size = h.size; contents = h.contents; whole = h.whole; count = h.count; inner = f h.contents h.inner }

vector_to : (fs : List Function) (l : List ℕ) → IsVector IsU32 (signatures fs) l → IsVector IsSignature fs l
vector_to fs l h = record { front = h.front; back = h.back; whole = h.whole; first = subst (λ n. IsU32 n h.front) (as_many fs) h.first; second = each_to fs h.back h.second }

vector_from : (fs : List Function) (l : List ℕ) → IsVector IsSignature fs l → IsVector IsU32 (signatures fs) l
vector_from fs l h = record { front = h.front; back = h.back; whole = h.whole; first = subst (λ n. IsU32 n h.front) (sym (as_many fs)) h.first; second = each_from fs h.back h.second }

section_to : (fs : List Function) (l : List ℕ) → IsVectorSection 3 IsU32 (signatures fs) l → IsVectorSection 3 IsSignature fs l
section_to fs l (inl k) = inl (no_functions fs k.0, k.1)
section_to fs l (inr k) = inr (then_map (λ l h. h) (sized_map (vector_to fs)) l k)

section_from : (fs : List Function) (l : List ℕ) → IsVectorSection 3 IsSignature fs l → IsVectorSection 3 IsU32 (signatures fs) l
section_from fs l (inl k) = inl (ap signatures k.0, k.1)
section_from fs l (inr k) = inr (then_map (λ l h. h) (sized_map (vector_from fs)) l k)

codes_of : (ss : List ℕ) (z : Stores) (l : List ℕ) → IsStores ss z l → signatures z.1.1.1.1.1.1.0 ≡ ss
codes_of ss z l h = h.second.second.second.second.second.second.first.second.1

-- What comes after the header.
abbrev Rest : Module → List ℕ → Type 0
Rest m =
    Then (After (IsVectorSection 1 IsFunctionType m.types))
    (Then (After (IsVectorSection 2 IsImport m.imports))
    (Then (After (IsVectorSection 3 IsSignature m.functions))
    (Then (After (IsVectorSection 4 IsTable m.tables))
    (Then (After (IsVectorSection 5 IsLimits m.memories))
    (Then (After (IsVectorSection 6 IsGlobal m.globals))
    (Then (After (IsVectorSection 7 IsExport m.exports))
    (Then (After (IsStart m.start))
    (Then (After (IsVectorSection 9 IsElement m.elements))
    (Then (After (IsVectorSection 10 IsCode m.functions))
    (Then (After (IsVectorSection 11 IsData m.segments))
    (IsMany IsCustom)))))))))))

to_rest : (z : List FunctionType × (List Import × (List ℕ × Stores))) (l : List ℕ) → IsSections z l → Rest (module_of z) l
to_rest z l h =
    let same : signatures z.1.1.1.1.1.1.1.1.1.0 ≡ z.1.1.0 = codes_of z.1.1.0 z.1.1.1 h.second.second.back h.second.second.second in
    then_map (λ l h. h) (then_map (λ l h. h) (then_map (then_map (λ l h. h) (λ l k. section_to z.1.1.1.1.1.1.1.1.1.0 l (subst (λ ss. IsVectorSection 3 IsU32 ss l) (sym same) k)))
    (then_map (λ l h. h) (then_map (λ l h. h) (then_map (λ l h. h) (then_map (λ l h. h) (then_map (λ l h. h) (then_map (λ l h. h) (then_map (then_map (λ l h. h) (λ l k. k.0)) (λ l h. h)))))))))) l h

sections_of : Module → List FunctionType × (List Import × (List ℕ × Stores))
sections_of m = (m.types, (m.imports, (signatures m.functions, (m.tables, (m.memories, (m.globals, (m.exports, (m.start, (m.elements, (m.functions, (m.segments, tt)))))))))))

from_rest : (m : Module) (l : List ℕ) → Rest m l → IsSections (sections_of m) l
unfolding sections_of
from_rest m l h =
    then_map (λ l h. h) (then_map (λ l h. h) (then_map (then_map (λ l h. h) (section_from m.functions))
    (then_map (λ l h. h) (then_map (λ l h. h) (then_map (λ l h. h) (then_map (λ l h. h) (then_map (λ l h. h) (then_map (λ l h. h) (then_map (then_map (λ l h. h) (λ l k. (k, refl))) (λ l h. h)))))))))) l h

rest_sound : (bytes : List ℕ) (m : Module) → parts_at bytes ≡ Ok m → Rest m bytes
rest_sound bytes m e =
    let s = bind_ok (sections_at bytes) _ m e in
    subst (λ m. Rest m bytes) (ok_is (module_of s.0) m s.2) (to_rest s.0 bytes (sections_tail.sound bytes s.0 s.1))

rest_complete : (bytes : List ℕ) (m : Module) → Rest m bytes → parts_at bytes ≡ Ok m
unfolding sections_of
rest_complete bytes m h = ap (λ (s : Result _ Fault). s >>= λ s. Ok (module_of s)) (tail_complete 1 IsSections sections_at (omega arith) sections_tail (sections_of m) bytes (from_rest m bytes h))

pub found : (bytes : List ℕ) (m : Module) → module_at bytes ≡ Ok m → Written m bytes
unfolding module_at
found bytes m e =
    if_ok {t = nat_lt largest (length bytes)} {x = Err TooLarge} {y = prefix_at NotWasm NotWasm header bytes >>= parts_at} e (λ t k. absurd (not_ok k)) (λ _ k.
    let s = bind_ok (prefix_at NotWasm NotWasm header bytes) parts_at m k in
    record { front = header; back = s.0; whole = prefix_sound NotWasm NotWasm header bytes s.0 s.1; first = refl; second = rest_sound s.0 m s.2 })

after_header : (m : Module) (bytes : List ℕ) → Written m bytes → (prefix_at NotWasm NotWasm header bytes >>= parts_at) ≡ Ok m
after_header m bytes h =
    let e : bytes ≡ header ++ h.back = h.whole ∙ ap (λ l. l ++ h.back) h.first in
    ap (λ l. prefix_at NotWasm NotWasm header l >>= parts_at) e ∙ ap (λ (s : Result (List ℕ) Fault). s >>= parts_at) (prefix_complete NotWasm NotWasm header h.back) ∙ rest_complete h.back m h.second

pub only : (m : Module) (bytes : List ℕ) → length bytes ≤ largest → Written m bytes → module_at bytes ≡ Ok m
unfolding module_at
only m bytes le h = ap (λ t. cond t (Err TooLarge) (prefix_at NotWasm NotWasm header bytes >>= parts_at)) (le-ltb largest (length bytes) le) ∙ after_header m bytes h

pub one_module : (m n : Module) (bytes : List ℕ) → Written m bytes → Written n bytes → m ≡ n
one_module m n bytes h k = ok_is m n (sym (after_header m bytes h) ∙ after_header n bytes k)

-- What `read` answers.
pub answer_found : (bytes : List ℕ) (r : Result Module ReadFault) → Answers r (module_at bytes) → IfOk r (λ m. Written m bytes)
answer_found bytes (Ok m) h = found bytes m h
answer_found bytes (Err f) h = tt

pub answer_only : (bytes : List ℕ) (r : Result Module ReadFault) → Answers r (module_at bytes) → (m : Module) → length bytes ≤ 67108864 → Written m bytes → Answers r (Ok m)
answer_only bytes r h m le w = subst (λ z. Answers r z) (only m bytes le w) h
