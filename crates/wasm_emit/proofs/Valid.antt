-- A formed low module becomes a valid module.
use Rattle.std.proofs.Common.{◌≡◌, ◌≢◌, ◌<◌, ◌≤◌, ℕ, zero, suc, ◌+◌, List, [], ◌∷◌, ◌++◌, length, map, reverse, Some, slice_get, Bool, true, false, ◌&&◌, nat_le, refl, sym, ap, ◌∙◌, subst, arith, inl, inr, pos}
use Rattle.std.proofs.lemmas.List.{length-map}
use Rattle.std.proofs.lemmas.Bool.Decides.{nat_tests}
use Rattle.std.specs.List.{AllByRecursion}
use Rattle.std.specs.Prelude.{Contains, AllPairs}
use Rattle.wasm_tree.specs.declared.types.FunctionType.{FunctionType}
use Rattle.wasm_tree.specs.declared.module_parts.Module.{Module as WasmModule}
use Rattle.wasm_tree.specs.Imports.{ic0, entry_type}
use Rattle.wasm_tree.specs.declared.rule.Rule.TheVariants as rule
use Rattle.wasm_tree.specs.Rules.{every, signatures}
use Rattle.wasm_tree.specs.Typing.{IsTyped}
use Rattle.wasm_tree.specs.Valid.{IsConstant, IsValidFunction, IsValidImport, IsValidExport, IsValidType, ValidModule}
use Rattle.wasm_tree.proofs.Asked.{found, all_map}
use Rattle.low_ir.specs.declared.module_parts.LowGlobal.{LowGlobal}
use Rattle.low_ir.specs.declared.module_parts.LowGlobal.TheVariants as global
use Rattle.low_ir.specs.declared.module_parts.LowExport.{LowExport}
use Rattle.low_ir.proofs.Numbers.{type_inside}
use Rattle.low_ir.specs.Tree.{Function, Module}
use Rattle.low_ir.specs.Numbering.{host_types, all_signatures}
use Rattle.low_ir.specs.Flat.{flat_function}
use Rattle.low_ir.specs.Formed.{FunctionIsFormed, ExportIsFormed, ModuleIsFormed}
use Rattle.wasm_emit.specs.Emit.{imports_from, host_imports, emitted_function, emitted_global, emitted_export}
use Rattle.wasm_emit.specs.Trees.{emit}
use Rattle.wasm_emit.proofs.Flats.{flat_is}
use Rattle.wasm_emit.proofs.Words.{one_each}
use Rattle.wasm_emit.proofs.Calls.{to_wasm, types_are, signatures_are}
use Rattle.wasm_emit.proofs.Typed.{typed}

all_of : {A B : Type 0} (g : A → B) (P : A → Type 0) (Q : B → Type 0) (xs : List A) → ((x : A) → P x → Q (g x)) → AllByRecursion P xs → AllByRecursion Q (map g xs)
all_of g P Q [] f h = tt
all_of g P Q (x ∷ xs) f h = (f x h.0, all_of g P Q xs f h.1)

always : {A B : Type 0} (g : A → B) (Q : B → Type 0) (xs : List A) → ((x : A) → Q (g x)) → AllByRecursion Q (map g xs)
always g Q [] f = tt
always g Q (x ∷ xs) f = (f x, always g Q xs f)

all_append : {A : Type 0} (P : A → Type 0) (xs ys : List A) → AllByRecursion P xs → AllByRecursion P ys → AllByRecursion P (xs ++ ys)
all_append P [] ys h k = k
all_append P (x ∷ xs) ys h k = (h.0, all_append P xs ys h.1 k)

-- The types of the interface have one result at most.

abbrev have_few : List FunctionType → Bool
have_few [] = true
have_few (t ∷ ts) = nat_le (length t.results) 1 && have_few ts

few_valid : (w : WasmModule) (ts : List FunctionType) → have_few ts ≡ true → AllByRecursion (IsValidType every w) ts
few_valid w [] e = tt
few_valid w (t ∷ ts) e = by (nat_le (length t.results) 1) refl e (few_valid w ts)
  where
    by : (b : Bool) → nat_le (length t.results) 1 ≡ b → (b && have_few ts) ≡ true → (have_few ts ≡ true → AllByRecursion (IsValidType every w) ts) → AllByRecursion (IsValidType every w) (t ∷ ts)
    by true is e more = (λ u. grind (arith, nat_tests), more e)
    by false is e more = absurd (cc)

host_few : have_few host_types ≡ true
unfolding host_types
host_few = refl

constant_is : (g : LowGlobal) → IsConstant (emitted_global g).kind.kind (emitted_global g).init
constant_is (global.Word z) = inl (z, refl, refl)
constant_is (global.Long z) = inr (z, refl, refl)

export_names : (es : List LowExport) → map (λ e. e.name) (map emitted_export es) ≡ map (λ e. e.name) es
export_names [] = refl
export_names (e ∷ es) = ap (λ l. e.name ∷ l) (export_names es)

imports_valid : (w : WasmModule) (n : ℕ) (is : List (List ℕ × FunctionType)) → ((k : ℕ) (t : FunctionType) → slice_get (map (λ i. i.1) is) k ≡ Some t → slice_get w.types (n + k) ≡ Some t) → AllByRecursion (λ i. Contains ic0 i) is
    → AllByRecursion (IsValidImport every w) (imports_from n is)
imports_valid w n [] at h = tt
imports_valid w n (i ∷ is) at h =
    let here : n + 0 ≡ n = omega arith in (
      record { of_ic0 = λ u. refl; function = (i.1, found (ap (slice_get w.types) (sym here) ∙ at 0 i.1 refl), λ u. h.0) },
      imports_valid w (suc n) is (λ k t e. let next : n + suc k ≡ suc n + k = omega arith in ap (slice_get w.types) (sym next) ∙ at (suc k) t e) h.1,
    )

front : {A : Type 0} (xs ys : List A) (k : ℕ) (x : A) → slice_get xs k ≡ Some x → slice_get (xs ++ ys) k ≡ Some x
front [] ys k x e = absurd (cc)
front (y ∷ xs) ys zero x e = e
front (y ∷ xs) ys (suc k) x e = front xs ys k x e

-- Each item of a list is in it.
contained : {A : Type 0} (xs : List A) → AllByRecursion (λ x. Contains xs x) xs
contained [] = tt
contained (x ∷ xs) = ((0, omega arith, refl), all_map (λ y. Contains xs y) (λ y. Contains (x ∷ xs) y) (λ y (k, less, at). (suc k, omega arith, at)) xs (contained xs))

host_valid : (w : WasmModule) (types : List FunctionType) → w.types ≡ host_types ++ types → AllByRecursion (IsValidImport every w) host_imports
unfolding host_imports host_types
host_valid w types e =
    imports_valid w 0 ic0
    (λ k t there. let same : 0 + k ≡ k = omega arith in ap (slice_get w.types) same ∙ ap (λ (l : List FunctionType). slice_get l k) e ∙ front (map (λ i. i.1) ic0) types k t there) (contained ic0)

function_valid : (m : Module) (fn : Function) → FunctionIsFormed m fn → IsValidFunction every (to_wasm m) (emitted_function (flat_function fn))
function_valid m fn f =
    record {
      type = f.type;
      of_type = found f.is;
      tree = emit fn.body;
      nested = sym (flat_is fn.body);
      typed =
          subst (λ l. IsTyped every (record { within = to_wasm m; locals = f.type.params ++ l; labels = reverse f.type.results ∷ []; results = reverse f.type.results }) [] (emit fn.body) (reverse f.type.results)) (sym (one_each fn.locals))
          (typed m (f.type.params ++ fn.locals) f.type.results 0 (reverse f.type.results) fn.body f.body);
    }

all_valid : (m : Module) (fns : List Function) → AllByRecursion (FunctionIsFormed m) fns → AllByRecursion (IsValidFunction every (to_wasm m)) (map emitted_function (map flat_function fns))
all_valid m [] h = tt
all_valid m (fn ∷ fns) h = (function_valid m fn h.0, all_valid m fns h.1)

pub valid : (m : Module) → ModuleIsFormed m → ValidModule (to_wasm m)
valid m f =
    let count : length (signatures (to_wasm m)) ≡ length (all_signatures m) = ap length (signatures_are m) in
    record {
      parts =
          record {
            types = all_append (IsValidType every (to_wasm m)) host_types m.types (few_valid (to_wasm m) host_types host_few) (all_map _ (IsValidType every (to_wasm m)) (λ t h u. h.results) m.types f.types);
            imports = host_valid (to_wasm m) m.types refl;
            one_table = λ u. omega arith;
            tables = (record { within = λ u. record { min = omega (arith, f.few_entries); max = (omega arith, omega (arith, f.few_entries)) }; small = λ u. f.few_entries }, tt);
            one_memory = λ u. omega arith;
            memories = (λ u. record { min = f.few_pages; max = tt }, tt);
            globals = always emitted_global _ m.globals (λ g u. constant_is g);
            exports =
                all_of emitted_export (ExportIsFormed m) (IsValidExport every (to_wasm m)) m.exports
                (λ e h. record { there = λ u. let less : e.function < length (all_signatures m) = type_inside m e.function entry_type h.plain in omega (arith, less, count); entry = λ is. record { type = entry_type; of_function = found (types_are m e.function ∙ h.plain); plain = λ u. refl } })
                f.exports;
            names = λ u. subst (AllPairs (λ a b. a ≢ b)) (sym (export_names m.exports)) f.names;
            start = tt;
            elements = (record { table = λ u. omega arith; offset = λ u. inl (pos 0, refl, refl); functions = all_map _ (λ f. every rule.Index → f < length (signatures (to_wasm m))) (λ x h u. omega (arith, h, count)) m.table f.table }, tt);
            segments = (record { memory = λ u. omega arith; offset = λ u. inl (pos 0, refl, refl) }, tt);
            small = λ u. record { functions = omega (arith, f.few_functions, count); globals = subst (λ n. n ≤ 10000) (sym (length-map m.globals emitted_global)) f.few_globals };
          };
      functions = all_valid m m.functions f.functions;
    }
