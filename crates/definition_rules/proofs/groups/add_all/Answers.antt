use Rattle.std.proofs.lemmas.List.{take_more}
use Rattle.std.proofs.Common.{List, sym, subst}
use Rattle.type_terms.specs.declared.form.TermId.{TermId}
use Rattle.definition_rules.specs.Uses.{Adds}
use Rattle.definition_rules.proofs.Adding.{adds_one, same, same_term}
use Rattle.definition_rules.proofs.groups.add_all.Goals as goal

pub loop-id-preserved : goal.loop-id-preserved
loop-id-preserved c =
    subst (λ (xs : List TermId). Adds c.args.found.now.keys xs c.insert.new.self.keys) (sym (take_more c.args.ids.now c.loop-id.id-index _ c.loop-id-test.true))
    (adds_one same same_term c.args.found.now.keys _ c.loop-id.found.keys c.insert.new.self.keys _ c.loop-id.invariant c.in_ok-insert.ensures.keys)
