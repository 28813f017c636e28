-- Where the routines of a program stand in its module.
use Rattle.std.proofs.Common.{◌≡◌, ℕ, zero, suc, ◌+◌, ◌-◌, List, [], ◌∷◌, ◌++◌, map, false, cond, nat_lt, Some, None, slice_get, sym, ap, ◌∙◌, arith}
use Rattle.std.proofs.lemmas.Bool.Decides.{nat_tests}
use Rattle.wasm_tree.specs.Rules.{or_no}
use Rattle.core_ir.specs.Code.{CodeProgram}
use Rattle.low_ir.specs.declared.module_parts.LowExport.{LowExport}
use Rattle.low_ir.specs.Tree.{Function, Module}
use Rattle.low_ir.specs.Numbering.{host_count, host_types, host_signatures, all_types, all_signatures, type_of, defined, upto}
use Rattle.low_ir.proofs.Numbers.{host_types_counted, host_signatures_counted}
use Rattle.emitted_modules.proofs.Lists.{get_front, get_behind, get_map}
use Rattle.low_emit.specs.Modules.{Routine, routines, functions_from, of_groups, alone, functions, most_arity, arity_type, module_with}

module _ (p : CodeProgram) (more : List Routine) (own : ℕ) (entries : List Function) (exports : List LowExport) where
  abbrev m : Module
  m = module_with p more own entries exports

  among : (rs : List Routine) (signature i : ℕ) (r : Routine) → slice_get rs i ≡ Some r → slice_get (functions_from p more own signature rs) i ≡ Some (r.function (signature + i))
  among [] signature i r e = absurd (cc)
  among (q ∷ rs) signature zero r e = let same : q ≡ r = cc in (λ j. Some ((same j).function signature)) ∙ ap (λ n. Some (r.function n)) (omega arith)
  among (q ∷ rs) signature (suc i) r e = among rs (suc signature) i r e ∙ ap (λ n. Some (r.function n)) (omega arith)

  function_there : (i : ℕ) (r : Routine) → slice_get (routines p more own) i ≡ Some r → slice_get m.functions i ≡ Some (r.function (suc host_count + i))
  function_there i r e =
      get_front (functions p more own) entries i (r.function (suc host_count + i))
      (get_front (functions_from p more own (suc host_count) (routines p more own)) (of_groups p more own p.groups ++ (map (λ m. alone p more own m.body) p.methods ++ alone p more own p.start ∷ [])) i (r.function (suc host_count + i))
      (among (routines p more own) (suc host_count) i r e))

  pub is_defined : (i : ℕ) (r : Routine) → slice_get (routines p more own) i ≡ Some r → defined m (host_count + i) ≡ Some (r.function (suc host_count + i))
  is_defined i r e =
      let not_host : nat_lt (host_count + i) host_count ≡ false = grind (arith, nat_tests) in
      let same : host_count + i - host_count ≡ i = omega arith in
      ap (λ t. cond t None (slice_get m.functions (host_count + i - host_count))) not_host ∙ ap (slice_get m.functions) same ∙ function_there i r e

  -- A routine whose function has the type's number as its signature.
  pub is_typed : (i : ℕ) (r : Routine) → slice_get (routines p more own) i ≡ Some r → (r.function (suc host_count + i)).signature ≡ suc host_count + i → type_of m (host_count + i) ≡ Some r.type
  is_typed i r e s =
      let number : slice_get (all_signatures m) (host_count + i) ≡ Some (suc host_count + i) =
      ap (λ n. slice_get (all_signatures m) (n + i)) (sym host_signatures_counted)
      ∙ get_behind host_signatures (map (λ (f : Function). f.signature) m.functions) i
      ∙ get_map (λ (f : Function). f.signature) m.functions i (r.function (suc host_count + i)) (function_there i r e) ∙ ap Some s in
      let next : suc host_count + i ≡ host_count + suc i = omega arith in
      ap (λ n. or_no n (slice_get (all_types m))) number
      ∙ ap (slice_get (all_types m)) next
      ∙ ap (λ n. slice_get (all_types m) (n + suc i)) (sym host_types_counted)
      ∙ get_behind host_types m.types (suc i)
      ∙ get_front (map (λ (r : Routine). r.type) (routines p more own)) (map arity_type (upto 0 (suc (most_arity p)))) i r.type (get_map (λ (r : Routine). r.type) (routines p more own) i r e)
