use Rattle.std.proofs.Common.{Option, option_map, subst, sym}
use Rattle.type_terms.specs.declared.form.TermId.{TermId}
use Rattle.type_definitions.specs.Meanings.{term}
use Rattle.type_judgements.specs.Judged.{Judged}
use Rattle.judging.specs.Views.{nothing}
use Rattle.expression_rules.specs.Entered.{wanted_met}
use Rattle.expression_rules.proofs.entering.meets_wanted.Goals as goal

pub returns-in-Some-clause-judged : goal.returns-in-Some-clause-judged
returns-in-Some-clause-judged c =
    subst (λ (o : Option TermId). Judged (λ later. wanted_met (option_map (term later) o)) c.args.types.now c.meets.new.types nothing c.meets.result) (sym c.in-Some.is) c.meets.ensures.judged
