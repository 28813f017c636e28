-- The module of the methods is valid.
use Rattle.std.proofs.Common.{◌≡◌, ◌≢◌, ℕ, ◌+◌, ◌<◌, ◌≤◌, List, [], ◌∷◌, ◌++◌, length, get_or, map, slice_get, Some, refl, ap, sym, ◌∙◌, subst, arith, zero, suc, codes, pos, inl, true, false}
use Rattle.std.proofs.lemmas.List.{length-map, get_or-map, append_cancel_left}
use Rattle.std.specs.Prelude.{All}
use Rattle.std.specs.List.{AllByRecursion, AllPairs, concat}
use Rattle.std.proofs.lemmas.Slice.Eq.{bytes_eq-Decides}
use Rattle.std.proofs.lemmas.List.Kept.{AllPairs-cons}
use Rattle.query_source.specs.declared.query.Method.{Method}
use Rattle.wasm_tree.specs.declared.module_parts.Function.{Function}
use Rattle.wasm_tree.specs.declared.module_parts.Export.{Export}
use Rattle.wasm_tree.specs.declared.module_parts.ExportKind.TheVariants as export
use Rattle.wasm_tree.specs.declared.types.ValueType.TheVariants.{I32}
use Rattle.wasm_tree.specs.declared.op.Plain.TheVariants.{I32Const}
use Rattle.wasm_tree.specs.Code.{Code, Stop, Then, Call}
use Rattle.wasm_tree.specs.Imports.{bytes_type, entry_type}
use Rattle.wasm_tree.specs.Rules.{every, type_of}
use Rattle.wasm_tree.specs.Valid.{IsValidFunction, IsValidExport, ValidModule}
use Rattle.wasm_tree.proofs.Asked.{found, takes}
use Rattle.query_module.specs.Answers.{AreQueries}
use Rattle.query_module.proofs.Replies.{length_of_replies}
use Rattle.query_module.specs.Tree.{AreReplies, query_function, functions_from, export_name, query_export, exports_from, resume_export, query_exports, tree_of_parts, query_tree}

-- The tree of a function's body.
abbrev pub query_code : ℕ → ℕ → Code
query_code offset size = Then (I32Const (pos offset)) (Then (I32Const (pos size)) (Call 0 (Call 1 Stop)))

valid_function : (functions : List Function) (exports : List Export) (bytes : List ℕ) (offset size : ℕ) → IsValidFunction every (tree_of_parts functions exports bytes) (query_function offset size)
valid_function functions exports bytes offset size =
    record {
      type = entry_type;
      of_type = found refl;
      tree = query_code offset size;
      nested = refl;
      typed = (
        I32 ∷ [],
        takes [] (I32 ∷ []) [],
        (
          I32 ∷ I32 ∷ [],
          takes [] (I32 ∷ []) (I32 ∷ []),
          (bytes_type, found refl, [], takes (I32 ∷ I32 ∷ []) [] [], (entry_type, found refl, [], takes [] [] [], λ _. refl)),
        ),
      );
    }

valid_functions : (functions : List Function) (exports : List Export) (bytes : List ℕ) (offset : ℕ) (replies : List (List ℕ)) → AllByRecursion (IsValidFunction every (tree_of_parts functions exports bytes)) (functions_from offset replies)
valid_functions functions exports bytes offset [] = tt
valid_functions functions exports bytes offset (r ∷ rs) = (valid_function functions exports bytes offset (length r), valid_functions functions exports bytes (offset + length r) rs)

pub length-functions_from : (offset : ℕ) (replies : List (List ℕ)) → length (functions_from offset replies) ≡ length replies
length-functions_from offset [] = refl
length-functions_from offset (r ∷ rs) = ap suc (length-functions_from (offset + length r) rs)

-- All functions are from nothing to nothing.
signature_at : (offset : ℕ) (replies : List (List ℕ)) (k : ℕ) → k < length replies → slice_get (map (λ f. f.signature) (functions_from offset replies)) k ≡ Some 1
signature_at offset [] k h = absurd (omega arith)
signature_at offset (r ∷ rs) zero h = refl
signature_at offset (r ∷ rs) (suc k) h = signature_at (offset + length r) rs k (omega arith)

own_type : (exports : List Export) (bytes : List ℕ) (replies : List (List ℕ)) (k : ℕ) → k < length replies → type_of (tree_of_parts (functions_from 0 replies) exports bytes) (suc (suc k)) ≡ Some entry_type
own_type exports bytes replies k h = rw (signature_at 0 replies k h) refl

valid_export : (exports : List Export) (bytes : List ℕ) (replies : List (List ℕ)) (name : List ℕ) (k : ℕ) → k < length replies → IsValidExport every (tree_of_parts (functions_from 0 replies) exports bytes) (record { name = name; kind = export.Function (suc (suc k)) })
valid_export exports bytes replies name k h = record {
  there = λ _. omega (arith, length-map (functions_from 0 replies) (λ f. f.signature), length-functions_from 0 replies);
  entry = λ _. record { type = entry_type; of_function = found (own_type exports bytes replies k h); plain = λ _. refl };
}

valid_exports : (exports : List Export) (bytes : List ℕ) (replies : List (List ℕ)) (methods : List Method) (k index : ℕ) → index ≡ suc (suc k) → k + length methods ≤ length replies
    → AllByRecursion (IsValidExport every (tree_of_parts (functions_from 0 replies) exports bytes)) (exports_from index methods)
valid_exports exports bytes replies [] k index e h = tt
valid_exports exports bytes replies (m ∷ ms) k index e h = (
  subst (λ i. IsValidExport every (tree_of_parts (functions_from 0 replies) exports bytes) (query_export m.name i)) (sym e) (valid_export exports bytes replies (export_name m.name) k (omega arith)),
  valid_exports exports bytes replies ms (suc k) (index + 1) (omega arith) (omega arith),
)

names_are : (methods : List Method) (index : ℕ) → map (λ e. e.name) (exports_from index methods) ≡ map (λ m. export_name m.name) methods
names_are [] index = refl
names_are (m ∷ ms) index = ap (λ ns. export_name m.name ∷ ns) (names_are ms (index + 1))

name_at : (methods : List Method) (i : ℕ) (d : List ℕ) (e : Method) → i < length methods → get_or (map (λ m. export_name m.name) methods) i d ≡ export_name (get_or methods i e).name
name_at methods i d e h = get_or-map (λ m. export_name m.name) methods i e d h

names_differ : (methods : List Method) → AllPairs (λ m n. m.name ≢ n.name) methods → AllPairs (λ a b. a ≢ b) (map (λ m. export_name m.name) methods)
names_differ methods differ i j d less fits same =
    let e : Method = record { name = []; number = 0 } in
    let within : j < length methods = omega (arith, length-map methods (λ m. export_name m.name)) in
    differ i j e less within
    (append_cancel_left (codes "canister_query ") (get_or methods i e).name (get_or methods j e).name (sym (name_at methods i d e (omega arith)) ∙ same ∙ name_at methods j d e within))

-- No query method has the name of an update method.
other_names : (methods : List Method) (name : List ℕ) → All (λ b. codes "canister_update " ++ name ≢ b) (map (λ m. export_name m.name) methods)
other_names [] name k d within = absurd (omega arith)
other_names (m ∷ ms) name zero d within = λ same. let is : false ≡ true = (bytes_eq-Decides (codes "canister_update " ++ name) (export_name m.name)).1 same in absurd (cc)
other_names (m ∷ ms) name (suc k) d within = other_names ms name k d (omega arith)

all_names : (methods : List Method) → AllPairs (λ m n. m.name ≢ n.name) methods → AllPairs (λ a b. a ≢ b) (map (λ e. e.name) (query_exports methods))
all_names methods differ =
    subst (λ ns. AllPairs (λ a b. a ≢ b) (resume_export.name ∷ ns)) (sym (names_are methods 3))
    (AllPairs-cons (λ a b. a ≢ b) resume_export.name (map (λ m. export_name m.name) methods) (other_names methods (codes "__resume")) (names_differ methods differ))

pub valid : (methods : List Method) (replies : List (List ℕ)) → AreQueries methods → AreReplies methods replies → ValidModule (query_tree methods replies)
valid methods replies queries all =
    let same : suc (length methods) ≡ length replies = length_of_replies methods replies all in
    let few : length methods ≤ 1000 = queries.few in
    record {
      parts = record {
        types = (λ _. omega arith, (λ _. omega arith, tt));
        imports = (
          record { of_ic0 = λ _. refl; function = (bytes_type, found refl, λ _. (4, omega arith, refl)) },
          (record { of_ic0 = λ _. refl; function = (entry_type, found refl, λ _. (6, omega arith, refl)) }, tt),
        );
        one_table = λ _. omega arith;
        tables = tt;
        one_memory = λ _. omega arith;
        memories = (λ _. record { min = omega arith; max = tt }, tt);
        globals = tt;
        exports = (
          valid_export (query_exports methods) (concat replies) replies resume_export.name 0 (omega arith),
          valid_exports (query_exports methods) (concat replies) replies methods 1 3 refl (omega arith),
        );
        names = λ _. all_names methods queries.differ;
        start = tt;
        elements = tt;
        segments = (record { memory = λ _. omega arith; offset = λ _. inl (pos 0, refl, refl) }, tt);
        small = λ _. record { functions = omega (arith, length-map (functions_from 0 replies) (λ f. f.signature), length-functions_from 0 replies); globals = omega arith };
      };
      functions = valid_functions (functions_from 0 replies) (query_exports methods) (concat replies) 0 replies;
    }
