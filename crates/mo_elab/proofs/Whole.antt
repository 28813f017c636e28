-- Whole programs.
use Rattle.std.proofs.Common.{◌≡◌, ◌∙◌, ℕ, suc, List, length, map, sym, ap, ap₂}
use Rattle.std.proofs.lemmas.List.{length-map}
use Rattle.mo_types.specs.Graph.{Slot, head_at}
use Rattle.core_ir.specs.declared.expression.CoreBody.{CoreBody}
use Rattle.core_ir.specs.declared.expression.Expression.{Expression}
use Rattle.core_ir.specs.declared.program.Method.{Method as MethodTree}
use Rattle.core_ir.specs.declared.program.StableVariable.{StableVariable as VariableTree}
use Rattle.core_ir.specs.Expressions.{Core}
use Rattle.core_ir.specs.ProgramView as core
use Rattle.core_ir.specs.View.{core_body, expression}
use Rattle.typed_tree.specs.declared.program.Program.{Program as TypedProgram}
use Rattle.typed_tree.specs.ProgramView as source
use Rattle.elaboration.specs.Programs.{Actor, elaborate_actor, elaborated, methods_of, start_scope}
use Rattle.core_members.specs.Seen.{seen_groups}
use Rattle.core_parts.specs.Making.{Groups}
use Rattle.mo_elab.specs.Spine.{IsActor}
use Rattle.mo_elab.proofs.Serving.{method_view, variables_view}

-- the parts of a program are those of what it is elaborated to
pub program_is : (p : TypedProgram) (types : List Slot) (groups : Groups) (bodies : List CoreBody) (methods : List (MethodTree CoreBody)) (stable : List VariableTree) (save : CoreBody) (parameters : ℕ) (start : Expression)
    → head_at types ≡ head_at p.types
    → IsActor (elaborate_actor (length p.methods) (length p.stable) (start_scope (length p.methods) (length p.stable)) 0 (source.program p).body) start groups bodies save
    → map method_view methods ≡ methods_of (map source.method p.methods) (map core_body bodies)
    → map core.stable_variable stable ≡ variables_view p.stable
    → parameters ≡ suc (length p.stable)
    → (let made : Core = record {
      head = head_at types;
      groups = seen_groups groups;
      methods = map method_view methods;
      stable = map core.stable_variable stable;
      save = core_body save;
      start = record { parameters = parameters; nodes = p.nodes; expression = expression start };
    } in made ≡ elaborated (source.program p))
program_is p types groups bodies methods stable save parameters start head is served kept count =
    let ms = map source.method p.methods in
    let vs = map source.stable_variable p.stable in
    let A : ℕ → ℕ → Actor = λ m k. elaborate_actor m k (start_scope m k) 0 (source.program p).body in
    let a : Actor = A (length p.methods) (length p.stable) in
    let at : a ≡ A (length ms) (length vs) = ap₂ A (sym (length-map p.methods source.method)) (sym (length-map p.stable source.stable_variable)) in
    let kept_count : parameters ≡ suc (length vs) = count ∙ ap suc (sym (length-map p.stable source.stable_variable)) in
    let groups_are = is.groups ∙ ap (λ (x : Actor). x.groups) at in
    let methods_are = served ∙ ap (λ bs. methods_of ms bs) (is.methods ∙ ap (λ (x : Actor). x.methods) at) in
    let save_is = is.save ∙ ap (λ (x : Actor). x.save) at in
    let start_is = is.start ∙ ap (λ (x : Actor). x.start) at in
    λ k. record {
      head = head k;
      groups = groups_are k;
      methods = methods_are k;
      stable = kept k;
      save = save_is k;
      start = record { parameters = kept_count k; nodes = p.nodes; expression = start_is k };
    }
