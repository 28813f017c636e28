use Rattle.std.proofs.Common.{◌≡◌, ◌∙◌, ◌≤◌, ◌++◌, suc, List, length, map, ap, sym, subst, arith}
use Rattle.typed_tree.specs.declared.program.Program.{Program}
use Rattle.typed_tree.specs.declared.program.Method.{Method}
use Rattle.typed_tree.specs.declared.program.StableVariable.{StableVariable}
use Rattle.typed_tree.specs.declared.expression.Step.{Step}
use Rattle.typed_tree.specs.Language.{Functions, Group}
use Rattle.typed_tree.specs.ProgramView.{functions_of, parts, program}
use Rattle.typed_tree.specs.View.{block, declaration, group}
use Rattle.elaboration.specs.Elaboration.{elaborate_functions}
use Rattle.elaboration.specs.Programs.{elaborate_actor, held_in, kept_places, outside, own_from, save_of, start_scope}
use Rattle.elaboration.specs.Scopes.{Place}
use Rattle.core_parts.specs.Making.{BodiesMade, BodyMade}
use Rattle.core_methods.specs.Behind.{method_function}
use Rattle.core_hooks.specs.Hooks.{cells_behind, optional_hook, saved}
use Rattle.mo_elab.proofs.Ending.{actor_made}
use Rattle.mo_elab.proofs.Opening.{declared_places, first_places, opens_first, opens_last, opens_steps}
use Rattle.mo_elab.proofs.actor.actor_of.Goals as goal

pub loop-step-init : goal.loop-step-init
loop-step-init c =
    let p : Program = c.args.program.now in
    let fns : Functions = group (functions_of p) in
    let same = c.in_ok-count.ensures ∙ c.len.ensures in
    let alike = c.in_ok-kept.ensures ∙ c.len-2.ensures in
    record {
      opens = opens_first (length p.methods) (length p.stable) c.in_ok-count.count c.in_ok-kept.kept c.in_ok-scope.scope c.new-groups.result c.new-layers.result.items (program p).body
          (block (map declaration c.as_slice-step-items.result.now) (Group fns (parts p))) (ap (λ (xs : List Step). block (map declaration xs) (Group fns (parts p))) c.as_slice-step-items.ensures) same alike c.in_ok-scope.ensures c.new-groups.ensures
          c.new-layers.ensures.items;
      places = first_places (length p.methods) (length p.stable) c.in_ok-count.count c.in_ok-kept.kept c.in_ok-scope.scope same alike c.in_ok-scope.ensures;
    }

pub loop-step-preserved : goal.loop-step-preserved
loop-step-preserved c =
    let p : Program = c.args.program.now in
    let one = c.in_ok-layers.ensures in
    record {
      opens = opens_steps (length p.methods) (length p.stable) c.as_slice-step-items.result.now c.loop-step.step-index c.step-item.result (group (functions_of p)) (parts p) c.loop-step.scope c.declaration.new.scope
          (elaborate_actor (length p.methods) (length p.stable) (start_scope (length p.methods) (length p.stable)) 0 (program p).body) c.loop-step.groups c.declaration.new.groups c.loop-step.layers.items c.in_ok-layers.layers.items
          c.loop-step-test.true c.step-item.is c.loop-step.invariant.opens one;
      places = declared_places (declaration c.step-item.result) c.loop-step.scope c.declaration.new.scope c.loop-step.groups c.declaration.new.groups c.loop-step.layers.items c.in_ok-layers.layers.items c.loop-step.invariant.places.0
          (own_from 0 (suc (length p.methods)) ++ kept_places (length p.stable)) c.loop-step.invariant.places.1 one;
    }

pub returns : goal.returns
returns c =
    let p : Program = c.args.program.now in
    let past : length c.as_slice-step-items.result.now ≤ c.loop-step.step-index = omega arith in
    let same = c.in_ok-count.ensures ∙ c.len.ensures in
    let alike = c.in_ok-kept.ensures ∙ c.len-2.ensures in
    let whole = elaborate_actor (length p.methods) (length p.stable) (start_scope (length p.methods) (length p.stable)) 0 (program p).body in
    let Bodies : List Method → Type 0 = λ xs. BodiesMade (elaborate_functions c.in_ok-inside.inside (length c.start_end.new.groups) (group (map method_function xs))) c.start_end.new.groups c.method_bodies.new.groups c.in_ok-methods.methods in
    let Saves : List StableVariable → Type 0 = λ xs. (ps : List Place) → c.method_bodies.new.scope ≡ outside ps
    → BodyMade (saved (save_of (length xs) ps (length c.method_bodies.new.groups) (optional_hook p.before_upgrade) (held_in ps (cells_behind c.in_ok-functions.functions xs)))) c.method_bodies.new.groups c.save_body.new.groups c.in_ok-save.save in
    actor_made p c.loop-step.scope c.in_ok-inside.inside c.method_bodies.new.scope c.loop-step.invariant.places.0 c.in_ok-count.count c.in_ok-kept.kept c.in_ok-declared.declared c.in_ok-functions.functions whole c.loop-step.groups
    c.start_end.new.groups c.method_bodies.new.groups c.save_body.new.groups c.loop-step.layers.items c.in_ok-end.end c.in_ok-start.start c.in_ok-methods.methods c.in_ok-save.save
    same alike c.in_ok-functions.ensures (sym c.places.ensures ∙ c.in_ok-declared.ensures) c.loop-step.invariant.places.1
    (opens_last (length p.methods) (length p.stable) c.as_slice-step-items.result.now c.loop-step.step-index (group (functions_of p)) (parts p) c.loop-step.scope whole c.loop-step.groups c.loop-step.layers.items past c.loop-step.invariant.opens)
    (λ counted. c.in_ok-end.ensures c.loop-step.invariant.places.0 (own_from 0 (suc (length p.methods)) ++ kept_places (length p.stable)) c.loop-step.invariant.places.1 counted) c.in_ok-start.ensures c.in_ok-inside.ensures
    c.in_ok-methods.ensures.scope (subst Bodies c.as_slice.ensures c.in_ok-methods.ensures.made) (subst Saves c.as_slice-stable.ensures c.in_ok-save.ensures)
