use Rattle.std.proofs.Common.{◌≡◌, [], sym, subst}
use Rattle.type_terms.specs.declared.form.Form.{Form}
use Rattle.type_terms.specs.Layouts.{parts}
use Rattle.typing_rules.specs.Ends.{Has}
use Rattle.type_definitions.specs.Meanings.{term, term_of}
use Rattle.judging.specs.Views.{typed_in, kind_reached, wanted_in}
use Rattle.judging.specs.Answers.{Answers}
use Rattle.judging.proofs.Steps.{unit_plain}
use Rattle.judging.proofs.site.Site.has_unit.Goals as goal

pub has_plain-requires-clause-plain : goal.has_plain-requires-clause-plain
has_plain-requires-clause-plain c = subst (λ (f : Form). parts f ≡ []) (sym c.unit-kind.ensures) unit_plain

pub returns : goal.returns
returns c = λ s q f e.
    subst (λ (g : Form). Answers typed_in kind_reached (λ v. Has c.args.self.now.at (wanted_in v c.args.self.now.wanted) (term_of (term v.later) g) (f v.later)) s c.args.checker.now s c.has_plain.new.checker c.has_plain.result)
    c.unit-kind.ensures (c.has_plain.ensures s q f e)
