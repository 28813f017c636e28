use Rattle.std.proofs.Common.{[], ◌∷◌, ◌++◌, ◌+◌, length, map, ap, ap₂, sym, subst, ℕ, List, append_assoc, ◌∙◌}
use Rattle.std.proofs.lemmas.List.{length-map}
use Rattle.core_ir.specs.Expressions as core
use Rattle.core_ir.specs.Expressions.{Body}
use Rattle.core_ir.specs.Programs.{Group}
use Rattle.typed_tree.specs.Substitution.{count}
use Rattle.typed_tree.specs.View.{function, group}
use Rattle.elaboration.specs.Checks.{fails}
use Rattle.elaboration.specs.Elaboration.{BodiesElaborated, elaborate_functions}
use Rattle.elaboration.specs.Scopes.{Scope, under}
use Rattle.core_layers.specs.Layers.{layered}
use Rattle.core_parts.specs.Making.{BodiesMade}
use Rattle.core_parts.proofs.Going.{next_number}
use Rattle.core_blocks.proofs.Writing.{count_is}
use Rattle.core_blocks.proofs.functions.add_functions.Goals as goal

pub returns-clause-scope : goal.returns-clause-scope
returns-clause-scope g c =
    let all = group (map function c.args.functions.now) in
    let counted = c.in_ok-count.ensures ∙ sym (count_is (map function c.args.functions.now) ∙ length-map c.args.functions.now function) in
    c.in_ok-bodies.ensures.scope ∙ (c.in_ok-go_under.ensures ∙ ap (λ (k : ℕ). under k c.args.scope.now) counted)

pub returns-clause-groups : goal.returns-clause-groups
returns-clause-groups g c =
    let s : Scope = c.args.scope.now in
    let all = group (map function c.args.functions.now) in
    let counted = c.in_ok-count.ensures ∙ sym (count_is (map function c.args.functions.now) ∙ length-map c.args.functions.now function) in
    let there = c.in_ok-go_under.ensures ∙ ap (λ (k : ℕ). under k s) counted in
    let f : BodiesElaborated = elaborate_functions (under (count all) s) (length c.args.groups.now) all in
    let Of : Scope → Type 0 = λ u. BodiesMade (elaborate_functions u (length c.args.groups.now) all) c.args.groups.now c.bodies.new.groups c.in_ok-bodies.bodies in
    let made = subst Of there c.in_ok-bodies.ensures.made in
    c.in_ok-number.ensures.added
    ∙ (ap₂ (λ (gs : List (Group Body)) (x : Group Body). gs ++ x ∷ []) made.1 (ap₂ (λ (k : ℕ) (bs : List Body). record { sees = k; bodies = bs }) c.names-sees.ensures made.0) ∙ append_assoc _ f.groups (record { sees = s.names; bodies = f.bodies } ∷ []))

pub returns-clause-layers : goal.returns-clause-layers
returns-clause-layers g c = λ e.
    let s : Scope = c.args.scope.now in
    let all = group (map function c.args.functions.now) in
    let counted = c.in_ok-count.ensures ∙ sym (count_is (map function c.args.functions.now) ∙ length-map c.args.functions.now function) in
    let there = c.in_ok-go_under.ensures ∙ ap (λ (k : ℕ). under k s) counted in
    let f : BodiesElaborated = elaborate_functions (under (count all) s) (length c.args.groups.now) all in
    let Of : Scope → Type 0 = λ u. BodiesMade (elaborate_functions u (length c.args.groups.now) all) c.args.groups.now c.bodies.new.groups c.in_ok-bodies.bodies in
    let made = subst Of there c.in_ok-bodies.ensures.made in
    c.in_ok-made.ensures fails e ∙ ap (λ (k : ℕ). layered c.args.layers.items fails (core.Functions k e)) (c.in_ok-number.ensures.number ∙ next_number f.groups c.args.groups.now c.bodies.new.groups made.1)
