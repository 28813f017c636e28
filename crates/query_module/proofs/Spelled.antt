-- The module of the methods has a spelling: its names are text, and its vectors and sections are short.
use Rattle.std.proofs.Common.{◌≡◌, ℕ, ◌+◌, ◌*◌, ◌<◌, ◌≤◌, ◌^◌, List, [], ◌∷◌, ◌++◌, length, refl, arith, rules, codes, pos, length-append, true, suc}
use Rattle.std.proofs.lemmas.Bool.Decides.{nat_tests}
use Rattle.std.specs.List.{AllByRecursion, concat}
use Rattle.query_source.specs.Tokens.{AreAll, is_letter}
use Rattle.query_source.specs.Words.{IsName as IsMethodName}
use Rattle.query_source.specs.declared.query.Method.{Method}
use Rattle.wasm_tree.specs.declared.op.Plain.TheVariants.{I32Const}
use Rattle.wasm_tree.specs.Code.{Stop, Then}
use Rattle.wasm_tree.specs.Imports.{bytes_type, entry_type}
use Rattle.wasm_tree.specs.Binary.{IsFunctionType, IsLimits, IsName, IsExpression, IsImport, IsSignature, IsExport, IsCode, IsData, Written}
use Rattle.wasm_tree.proofs.Within.{Within, within_raised, name_within, ascii_text, function_type_within, limits_within, expression_within, import_within, signature_within, export_within, code_within, data_within}
use Rattle.module_laws.proofs.Short.{Takes, takes_none, takes_each, written_in}
use Rattle.query_module.specs.Answers.{AreQueries}
use Rattle.query_module.specs.Tree.{AreReplies, query_types, ic0_import, query_imports, query_body, query_function, functions_from, export_name, query_export, exports_from, resume_export, query_exports, query_memory, query_data, query_tree}
use Rattle.query_module.proofs.Replies.{joined_short, length_of_replies}
use Rattle.query_module.proofs.Valid.{query_code, length-functions_from}

-- Names.

letter_ascii : (b : ℕ) → is_letter b ≡ true → b < 128
letter_ascii b h = grind (arith, nat_tests)

letters_ascii : (name : List ℕ) → AreAll is_letter name → AllByRecursion (λ b. b < 128) name
letters_ascii [] all = tt
letters_ascii (b ∷ bs) all = (letter_ascii b all.0, letters_ascii bs all.1)

append_ascii : (xs ys : List ℕ) → AllByRecursion (λ b. b < 128) xs → AllByRecursion (λ b. b < 128) ys → AllByRecursion (λ b. b < 128) (xs ++ ys)
append_ascii [] ys all more = more
append_ascii (x ∷ xs) ys all more = (all.0, append_ascii xs ys all.1 more)

literal_within : (name : List ℕ) → AllByRecursion (λ b. b < 128) name → length name ≤ 47 → Within (IsName name) 52
literal_within name ascii short = within_raised (IsName name) (5 + length name) 52 (omega arith) (name_within name (ascii_text name ascii) (omega arith))

export_name_within : (method : List ℕ) → IsMethodName method → Within (IsName (export_name method)) 52
export_name_within method is =
    literal_within (export_name method) (append_ascii (codes "canister_query ") method (search rules) (letters_ascii method is.letters))
    (omega (arith, is.short, length-append (codes "canister_query ") method))

-- Parts.

types_short : Takes IsFunctionType query_types 26
types_short = takes_each IsFunctionType query_types 13 (omega arith) (omega arith)
    (function_type_within bytes_type (omega arith) (omega arith), (within_raised (IsFunctionType entry_type) 11 13 (omega arith) (function_type_within entry_type (omega arith) (omega arith)), tt))

ic0_within : (name : List ℕ) (signature : ℕ) → AllByRecursion (λ b. b < 128) name → length name ≤ 47 → signature < 2 ^ 32 → Within (IsImport (ic0_import name signature)) 117
ic0_within name signature ascii short small = import_within (ic0_import name signature) 52 52 (literal_within (codes "ic0") (search rules) (omega arith)) (literal_within name ascii short) small

imports_short : Takes IsImport query_imports 234
imports_short = takes_each IsImport query_imports 117 (omega arith) (omega arith)
    (ic0_within (codes "msg_reply_data_append") 0 (search rules) (omega arith) (omega arith), (ic0_within (codes "msg_reply") 1 (search rules) (omega arith) (omega arith), tt))

signatures_within : (offset : ℕ) (replies : List (List ℕ)) → AllByRecursion (λ f. Within (IsSignature f) 5) (functions_from offset replies)
signatures_within offset [] = tt
signatures_within offset (r ∷ rs) = (signature_within (query_function offset (length r)) (omega arith), signatures_within (offset + length r) rs)

body_within : (offset size : ℕ) → offset < 2 ^ 31 → size < 2 ^ 31 → Within (IsExpression (query_body offset size)) 45
body_within offset size low short = expression_within (query_body offset size) (query_code offset size) refl (record { sfits = low }, (record { sfits = short }, (omega arith, (omega arith, tt))))

codes_within : (offset : ℕ) (replies : List (List ℕ)) → offset + length (concat replies) < 2 ^ 31 → AllByRecursion (λ f. Within (IsCode f) 55) (functions_from offset replies)
codes_within offset [] low = tt
codes_within offset (r ∷ rs) low =
    let whole : length (r ++ concat rs) ≡ length r + length (concat rs) = length-append r (concat rs) in (
      code_within (query_function offset (length r)) 45 (omega arith) tt (omega arith) (body_within offset (length r) (omega arith) (omega arith)) (omega arith),
      codes_within (offset + length r) rs (omega arith),
    )

exports_within : (methods : List Method) (index : ℕ) → AllByRecursion (λ m. IsMethodName m.name × (m.number < 2 ^ 63)) methods → index + length methods < 2 ^ 32 → AllByRecursion (λ e. Within (IsExport e) 58) (exports_from index methods)
exports_within [] index named few = tt
exports_within (m ∷ ms) index named few =
    (export_within (query_export m.name index) 52 (export_name_within m.name named.0.0) (omega arith), exports_within ms (index + 1) named.1 (omega arith))

resume_within : Within (IsExport resume_export) 58
resume_within = export_within resume_export 52 (literal_within resume_export.name (search rules) (omega arith)) (omega arith)

length-exports_from : (methods : List Method) (index : ℕ) → length (exports_from index methods) ≡ length methods
length-exports_from [] index = refl
length-exports_from (m ∷ ms) index = let rest : length (exports_from (index + 1) ms) ≡ length ms = length-exports_from ms (index + 1) in omega arith

memories_short : Takes IsLimits (query_memory ∷ []) 11
memories_short = takes_each IsLimits (query_memory ∷ []) 11 (omega arith) (omega arith) (limits_within query_memory (omega arith) tt, tt)

segments_short : (bytes : List ℕ) → length bytes ≤ 17000 → Takes IsData (query_data bytes ∷ []) ((10 + (12 + length bytes)) * 1)
segments_short bytes short =
    let offset : Within (IsExpression (query_data bytes).offset) 12 = expression_within (query_data bytes).offset (Then (I32Const (pos 0)) Stop) refl (record { sfits = omega arith }, tt) in
    let segment : Within (IsData (query_data bytes)) (10 + (12 + length bytes)) = data_within (query_data bytes) 12 (omega arith) offset (omega arith) in
    takes_each IsData (query_data bytes ∷ []) (10 + (12 + length bytes)) (omega arith) (omega arith) (segment, tt)

-- In all it takes no more than a reader takes.
pub spelled : (methods : List Method) (replies : List (List ℕ)) → AreQueries methods → AreReplies methods replies → Within (Written (query_tree methods replies)) 67108864
spelled methods replies queries all =
    let same : suc (length methods) ≡ length replies = length_of_replies methods replies all in
    let few : length methods ≤ 1000 = queries.few in
    let short : length (concat replies) ≤ 6 + 16 * length methods = joined_short methods replies queries.named all in
    let functions : length (functions_from 0 replies) ≡ length replies = length-functions_from 0 replies in
    let exports : length (exports_from 3 methods) ≡ length methods = length-exports_from methods 3 in
    let signatures : Takes IsSignature (functions_from 0 replies) (5 * length (functions_from 0 replies)) = takes_each IsSignature (functions_from 0 replies) 5 (omega arith) (omega arith) (signatures_within 0 replies) in
    let names : Takes IsExport (query_exports methods) (58 * suc (length (exports_from 3 methods))) = takes_each IsExport (query_exports methods) 58 (omega arith) (omega arith) (resume_within, exports_within methods 3 queries.named (omega arith)) in
    let bodies : Takes IsCode (functions_from 0 replies) (55 * length (functions_from 0 replies)) = takes_each IsCode (functions_from 0 replies) 55 (omega arith) (omega arith) (codes_within 0 replies (omega arith)) in
    within_raised (Written (query_tree methods replies)) _ 67108864 (omega arith)
    (written_in (query_tree methods replies) 26 234 (5 * length (functions_from 0 replies)) 0 11 0 (58 * suc (length (exports_from 3 methods))) 0 (55 * length (functions_from 0 replies)) ((10 + (12 + length (concat replies))) * 1)
    types_short imports_short signatures (takes_none _) memories_short (takes_none _) names tt (takes_none _) bodies (segments_short (concat replies) (omega arith)))
