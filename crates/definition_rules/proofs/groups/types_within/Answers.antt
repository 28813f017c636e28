use Rattle.std.proofs.Common.{◌∙◌, List, sym, subst, [], ◌∷◌}
use Rattle.type_terms.specs.declared.form.TermId.{TermId}
use Rattle.definition_rules.specs.Uses.{Adds}
use Rattle.definition_rules.proofs.Walking.{all_inside, first, get_among, starts, walked, walks_on}
use Rattle.definition_rules.proofs.groups.types_within.Goals as goal

pub loop-place-init : goal.loop-place-init
loop-place-init c =
    let s = subst (λ (old : List TermId). Adds old (c.args.id ∷ []) c.add_all.new.found.keys) c.new-found.ensures.empty c.in_ok-add_all.ensures in
    record {
      walked = walks_on c.args.terms.now c.args.id 0 c.args.id c.add_all.new.found.keys c.add_parts.new.found.keys c.in_ok-add_parts.ensures.founded
          (starts c.args.terms.now c.args.id c.add_all.new.found.keys c.requires s) (first c.args.terms.now c.args.id c.add_all.new.found.keys s) c.in_ok-add_parts.ensures.adds;
      founded = c.in_ok-add_parts.ensures.founded;
    }

pub add_parts-requires-in-Some : goal.add_parts-requires-in-Some
add_parts-requires-in-Some c = c.loop-place.invariant.walked.inside c.in-Some.within (get_among c.loop-place.found.keys c.loop-place.place c.in-Some.within (sym c.type_at.ensures ∙ c.in-Some.is))

pub returns-in-None-clause-within : goal.returns-in-None-clause-within
returns-in-None-clause-within c = walked c.args.terms.now c.args.id c.loop-place.place c.loop-place.found.keys c.loop-place.invariant.walked (sym c.type_at.ensures ∙ c.in-None.is)

pub returns-in-None-clause-inside : goal.returns-in-None-clause-inside
returns-in-None-clause-inside c = all_inside c.args.terms.now c.args.id c.loop-place.found.keys c.loop-place.invariant.walked.inside

pub loop-place-preserved : goal.loop-place-preserved
loop-place-preserved c = record {
  walked = walks_on c.args.terms.now c.args.id c.loop-place.place c.in-Some.within c.loop-place.found.keys c.add_parts-in-Some.new.found.keys c.loop-place.invariant.founded
      c.loop-place.invariant.walked (sym c.type_at.ensures ∙ c.in-Some.is) c.in_ok-add_parts-in-Some.ensures.adds;
  founded = c.loop-place.invariant.founded;
}
