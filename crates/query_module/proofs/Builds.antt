-- What is written for the methods is their module.
use Rattle.std.proofs.Common.{ℕ, ◌≤◌, List, length, Result, Ok, Err, IfOk, refl, sym, subst, arith}
use Rattle.query_source.specs.declared.query.Method.{Method}
use Rattle.wasm_tree.specs.declared.module_parts.Module.{Module}
use Rattle.wasm_tree.specs.Spelling.{HasSpelling, IsLeast}
use Rattle.wasm_tree.specs.Bounded.{Within}
use Rattle.wasm_tree.specs.Binary.{Written}
use Rattle.wasm_tree.proofs.Within.{within_has}
use Rattle.wasm_tree.specs.Valid.{ValidModule}
use Rattle.query_module.specs.Answers.{AreQueries, IsBuiltOf}
use Rattle.query_module.specs.Program.{query_program, QueryRefines}
use Rattle.query_module.specs.Tree.{IsQueryTree}
use Rattle.query_module.proofs.Refined.{module_refines}
use Rattle.query_module.proofs.Spelled.{spelled}
use Rattle.query_module.proofs.Valid.{valid}

spelled_within : (methods : List Method) (tree : Module) → AreQueries methods → IsQueryTree methods tree → Within (Written tree) 67108864
spelled_within methods tree queries is = subst (λ t. Within (Written t) 67108864) (sym is.tree_is) (spelled methods is.replies queries is.are_replies)

pub tree_spelled : (methods : List Method) (tree : Module) → AreQueries methods → IsQueryTree methods tree → HasSpelling (Written tree)
tree_spelled methods tree queries is = within_has (spelled_within methods tree queries is)

-- The least spelling is no longer than the one that is known.
least_short : (methods : List Method) (tree : Module) (bytes : List ℕ) → AreQueries methods → IsQueryTree methods tree → IsLeast (Written tree) bytes → length bytes ≤ 67108864
least_short methods tree bytes queries is least =
    let known : Within (Written tree) 67108864 = spelled_within methods tree queries is in
    omega (arith, least.least known.bytes known.spells, known.short)

tree_built : (methods : List Method) (tree : Module) (bytes : List ℕ) → AreQueries methods → IsQueryTree methods tree → IsLeast (Written tree) bytes → IsBuiltOf methods bytes
tree_built methods tree bytes queries is least =
    let all = is.are_replies in (
      query_program methods all.numbers,
      record { numbers = all.numbers; are_numbers = all.are_numbers; program_is = refl },
      record {
        short = least_short methods tree bytes queries is least;
        tree = tree;
        written = least.spells;
        valid = subst ValidModule (sym is.tree_is) (valid methods is.replies queries is.are_replies);
        refines = subst (QueryRefines (query_program methods all.numbers)) (sym is.tree_is) (module_refines methods is.replies queries all);
      },
    )

pub result_built : {E : Type 0} (methods : List Method) (tree : Module) (r : Result (List ℕ) E) → AreQueries methods → IsQueryTree methods tree → IfOk r (λ bytes. IsLeast (Written tree) bytes) → IfOk r (λ bytes. IsBuiltOf methods bytes)
result_built methods tree (Ok bytes) queries is least = tree_built methods tree bytes queries is least
result_built methods tree (Err fault) queries is none = tt
