-- A function is valid where the check of its body passes, and cannot keep a rule that the check finds broken.
use Rattle.std.proofs.Common.{◌≡◌, ℕ, ◌≤◌, List, [], ◌∷◌, ◌++◌, length, slice_get, reverse, Option, Some, None, refl, sym, subst, arith, Result, Ok, Err}
use Rattle.std.specs.Prelude.{IfSome}
use Rattle.std.specs.List.{AllByRecursion}
use Rattle.wasm_tree.specs.declared.rule.Rule.{Rule}
use Rattle.wasm_tree.specs.declared.rule.Rule.TheVariants as rule
use Rattle.wasm_tree.specs.declared.types.ValueType.{ValueType}
use Rattle.wasm_tree.specs.declared.types.FunctionType.{FunctionType}
use Rattle.wasm_tree.specs.declared.module_parts.Function.{Function}
use Rattle.wasm_tree.specs.declared.module_parts.Module.{Module}
use Rattle.wasm_tree.specs.Code.{Code}
use Rattle.wasm_tree.specs.Rules.{every, only, signatures, results_of, grouped}
use Rattle.wasm_tree.specs.Typing.{IsTyped}
use Rattle.wasm_tree.specs.Valid.{IsValidFunction, IsValidType}
use Rattle.wasm_tree.proofs.Asked.{found, all_at}
use Rattle.wasm_valid.specs.declared.fault.Fault.{Fault}
use Rattle.wasm_valid.specs.declared.fault.Fault.TheVariants as fault
use Rattle.wasm_valid.specs.Verdict.{Passes, Breaks, with_found, Sees, Checked}
use Rattle.wasm_valid.specs.Body.{fresh, run}
use Rattle.wasm_valid.specs.Function.{function_run}
use Rattle.wasm_valid.proofs.Stacks.{found_passes}
use Rattle.wasm_valid.proofs.Runs.{Usual, Runs}
use Rattle.wasm_valid.proofs.States.{context}
use Rattle.wasm_valid.proofs.Trees.{body_runs}
use Rattle.wasm_valid.proofs.Parses.{body_parses}
use Rattle.wasm_valid.proofs.Sound.{sound}
use Rattle.wasm_valid.proofs.Refute.{refute}

one_result : (results : List ValueType) → length results ≤ 1 → reverse results ≡ results_of (slice_get results 0)
one_result [] h = refl
one_result (k ∷ []) h = refl
one_result (k ∷ j ∷ ks) h = absurd (omega arith)

module _ (m : Module) (f : Function) (types : AllByRecursion (IsValidType every m) m.types) where
  one : (x : ℕ) (t : FunctionType) → slice_get m.types x ≡ Some t → reverse t.results ≡ results_of (slice_get t.results 0)
  one x t e = one_result t.results (all_at (IsValidType every m) m.types x t types e tt)

  -- The code of a body, whose type has at most one result, in the two ways that its context is written.
  abbrev TypedWith : (Rule → Type 0) → FunctionType → Code → List ValueType → Type 0
  TypedWith asked t code results = IsTyped asked (record { within = m; locals = t.params ++ grouped f.locals; labels = results ∷ []; results = results }) [] code results

  passes_valid : function_run m (signatures m) f ≡ Passes → IsValidFunction every m f
  passes_valid e =
      let t = found_passes rule.Index (slice_get m.types f.signature) (λ t. run m (signatures m) (t.params ++ grouped f.locals) (slice_get t.results 0) f.body None [] fresh) e in
      let s = sound m (t.0.params ++ grouped f.locals) (slice_get t.0.results 0) one f.body None [] fresh t.2 in
      let p = body_parses every (context m (t.0.params ++ grouped f.locals) (slice_get t.0.results 0)) f.body
      (subst (Runs every (context m (t.0.params ++ grouped f.locals) (slice_get t.0.results 0)) f.body Usual []) s.5 s.6) in
      record {
        type = t.0;
        of_type = found t.1;
        tree = p.0;
        nested = p.1;
        typed = subst (TypedWith every t.0 p.0) (sym (one f.signature t.0 t.1)) p.2;
      }

  breaks_fails : (r : Rule) → function_run m (signatures m) f ≡ Breaks r → IsValidFunction (only r) m f → ⊥
  breaks_fails r e v = at_type (slice_get m.types f.signature) refl e
    where
      at_type : (o : Option FunctionType) → slice_get m.types f.signature ≡ o
          → with_found rule.Index o (λ t. run m (signatures m) (t.params ++ grouped f.locals) (slice_get t.results 0) f.body None [] fresh) ≡ Breaks r → ⊥
      at_type None none e =
          let same : rule.Index ≡ r = cc in
          let no : slice_get m.types f.signature ≡ Some v.type = v.of_type.there same in
          cc
      at_type (Some t) there e =
          let same : v.type ≡ t = sym (subst (λ o. IfSome o (λ other. other ≡ v.type)) there v.of_type.same) in
          let typed : TypedWith (only r) t v.tree (reverse t.results) = subst (λ u. TypedWith (only r) u v.tree (reverse u.results)) same v.typed in
          let own : TypedWith (only r) t v.tree (results_of (slice_get t.results 0)) = subst (TypedWith (only r) t v.tree) (one f.signature t there) typed in
          let runs = body_runs (only r) (context m (t.params ++ grouped f.locals) (slice_get t.results 0)) v.tree own in
          refute (only r) r refl m (t.params ++ grouped f.locals) (slice_get t.results 0) one f.body None [] fresh [] [] [] tt tt refl
          (subst (λ ops. Runs (only r) (context m (t.params ++ grouped f.locals) (slice_get t.results 0)) ops Usual [] []) (sym v.nested) runs) e

  pub function_checked : (indices : List ℕ) (result : Result (Unit {0}) Fault) → indices ≡ signatures m → Sees result (function_run m indices f) (λ _. Passes) → Checked (λ asked. IsValidFunction asked m f) result
  function_checked indices (Ok u) same e = passes_valid (subst (λ l. function_run m l f ≡ Passes) same e)
  function_checked indices (Err (fault.Broken r)) same e = breaks_fails r (subst (λ l. function_run m l f ≡ Breaks r) same e)
  function_checked indices (Err fault.Memory) same e = tt
