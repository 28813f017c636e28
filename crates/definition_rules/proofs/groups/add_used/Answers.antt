use Rattle.std.proofs.lemmas.List.{take_more}
use Rattle.std.proofs.Common.{◌∙◌, List, sym, subst}
use Rattle.type_terms.specs.declared.form.TermId.{TermId}
use Rattle.definition_rules.proofs.Walking.{Named, one_named, used_named}
use Rattle.definition_rules.proofs.Adding.{take_all}
use Rattle.definition_rules.proofs.groups.add_used.Goals as goal

pub loop-within-preserved : goal.loop-within-preserved
loop-within-preserved c =
    subst (λ (ids : List TermId). Named c.args.terms.now c.args.names.now.keys ids c.add_use.new.names.keys) (sym (take_more c.as_slice-within-items.result.now c.loop-within.within-index _ c.loop-within-test.true))
    (one_named c.args.terms.now c.args.names.now.keys _ c.loop-within.names.keys c.add_use.new.names.keys _ c.loop-within.invariant c.in_ok-add_use.ensures)

pub returns : goal.returns
returns c =
    used_named c.args.terms.now c.args.names.now.keys c.args.id c.in_ok-found.found.keys c.loop-within.names.keys c.requires c.in_ok-found.ensures.founded c.in_ok-found.ensures.within
    (subst (λ (ids : List TermId). Named c.args.terms.now c.args.names.now.keys ids c.loop-within.names.keys)
    (take_all c.as_slice-within-items.result.now c.loop-within.within-index c.loop-within-test.false ∙ c.as_slice-within-items.ensures.keys) c.loop-within.invariant)
