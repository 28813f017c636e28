use Rattle.std.proofs.Common.{◌≡◌, ℕ, List, [], ◌∷◌, map, Some, ap, ◌∙◌, arith, Vec, Global}
use Rattle.std.specs.Prelude.{slice_get}
use Rattle.std.proofs.lemmas.List.{map-append}
use Rattle.mo_types.specs.declared.datum.Datum.{Datum}
use Rattle.typed_tree.specs.ProgramView.{stable_variable}
use Rattle.arena_states.specs.Standing.{list_of}
use Rattle.arena_saving.specs.Saving.{parts_there}
use Rattle.arena_saving.proofs.SavedVariables.{parts_fail, parts_next, parts_whole}
use Rattle.arena_saving.proofs.variables.variables.Goals as goal

pub loop-variable-init : goal.loop-variable-init
loop-variable-init c = record {
  count = c.new-found.ensures.len;
  means = λ groups. ap (λ (l : List (Vec Datum Global)). Some (map (λ p. p.items) l)) c.new-found.ensures.items;
}

pub returns-in-None : goal.returns-in-None
returns-in-None c = λ groups.
    let at : c.len.result ≡ c.loop-variable.variable-index = c.len.ensures ∙ c.loop-variable.invariant.count in
    parts_fail c.args.types.now c.args.stable.now (list_of groups c.args.arena.now c.args.values.now) c.loop-variable.variable-index c.variable-item.result c.loop-variable-test.true c.variable-item.is
    (map (λ p. p.items) c.loop-variable.found.items) (c.loop-variable.invariant.means groups)
    ((rw c.in-None.is at c.in_ok-parts.ensures) groups
    ∙ ap (λ (n : ℕ). parts_there c.args.types.now (stable_variable c.variable-item.result) (slice_get (list_of groups c.args.arena.now c.args.values.now) n)) at)

pub loop-variable-preserved : goal.loop-variable-preserved
loop-variable-preserved c = record {
  count = omega (arith, c.in_ok-push-in-Some.ensures.len, c.loop-variable.invariant.count);
  means = λ groups.
      let at : c.len.result ≡ c.loop-variable.variable-index = c.len.ensures ∙ c.loop-variable.invariant.count in
      parts_next c.args.types.now c.args.stable.now (list_of groups c.args.arena.now c.args.values.now) c.loop-variable.variable-index c.variable-item.result c.loop-variable-test.true c.variable-item.is
      (map (λ p. p.items) c.loop-variable.found.items) (map (λ p. p.items) c.push.new.self.items) c.in-Some.parts.items (c.loop-variable.invariant.means groups)
      ((rw c.in-Some.is at c.in_ok-parts.ensures) groups
      ∙ ap (λ (n : ℕ). parts_there c.args.types.now (stable_variable c.variable-item.result) (slice_get (list_of groups c.args.arena.now c.args.values.now) n)) at)
      (ap (λ (l : List (Vec Datum Global)). map (λ p. p.items) l) c.in_ok-push-in-Some.ensures.items ∙ map-append (λ (p : Vec Datum Global). p.items) c.loop-variable.found.items (c.in-Some.parts ∷ []));
}

pub returns : goal.returns
returns c = λ groups.
    parts_whole c.args.types.now c.args.stable.now (list_of groups c.args.arena.now c.args.values.now) c.loop-variable.variable-index (map (λ p. p.items) c.loop-variable.found.items) c.loop-variable-test.false
    (c.loop-variable.invariant.means groups)
