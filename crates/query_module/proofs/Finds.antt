-- A call's method among the exports.
use Rattle.std.proofs.Common.{◌≡◌, ℕ, ◌+◌, List, [], ◌∷◌, ◌++◌, find, true, false, Option, Some, None, refl, codes}
use Rattle.std.specs.Str.{bytes_eq}
use Rattle.query_source.specs.declared.query.Method.{Method}
use Rattle.wasm_tree.specs.declared.module_parts.Export.{Export}
use Rattle.query_module.specs.Tree.{exports_from, resume_export, query_exports}

abbrev pub named : List ℕ → List Export → Option Export
named name exports = find (λ e. bytes_eq e.name name) exports

-- What stands under the name of this query method.
abbrev pub query_named : List ℕ → List Export → Option Export
query_named name exports = named (codes "canister_query " ++ name) exports

-- No query method stands under the name of an update method.
updates_only : (methods : List Method) (index : ℕ) (name : List ℕ) → named (codes "canister_update " ++ name) (exports_from index methods) ≡ None
updates_only [] index name = refl
updates_only (m ∷ ms) index name = updates_only ms (index + 1) name

-- `__resume` is the one update method.
pub resume_found : (methods : List Method) (name : List ℕ) → bytes_eq (codes "__resume") name ≡ true → named (codes "canister_update " ++ name) (query_exports methods) ≡ Some resume_export
resume_found methods name e = rw e refl

pub no_update : (methods : List Method) (name : List ℕ) → bytes_eq (codes "__resume") name ≡ false → named (codes "canister_update " ++ name) (query_exports methods) ≡ None
no_update methods name e = rw e (updates_only methods 3 name)

-- Nothing runs at an installation, nor before or after an upgrade.

no_init_from : (methods : List Method) (index : ℕ) → named (codes "canister_init") (exports_from index methods) ≡ None
no_init_from [] index = refl
no_init_from (m ∷ ms) index = no_init_from ms (index + 1)

pub no_init : (methods : List Method) → named (codes "canister_init") (query_exports methods) ≡ None
no_init methods = no_init_from methods 3

no_pre_from : (methods : List Method) (index : ℕ) → named (codes "canister_pre_upgrade") (exports_from index methods) ≡ None
no_pre_from [] index = refl
no_pre_from (m ∷ ms) index = no_pre_from ms (index + 1)

pub no_pre_upgrade : (methods : List Method) → named (codes "canister_pre_upgrade") (query_exports methods) ≡ None
no_pre_upgrade methods = no_pre_from methods 3

no_post_from : (methods : List Method) (index : ℕ) → named (codes "canister_post_upgrade") (exports_from index methods) ≡ None
no_post_from [] index = refl
no_post_from (m ∷ ms) index = no_post_from ms (index + 1)

pub no_post_upgrade : (methods : List Method) → named (codes "canister_post_upgrade") (query_exports methods) ≡ None
no_post_upgrade methods = no_post_from methods 3
