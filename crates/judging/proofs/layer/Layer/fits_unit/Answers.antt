use Rattle.std.proofs.Common.{◌≡◌, [], Some, sym, subst}
use Rattle.type_terms.specs.declared.form.Form.{Form}
use Rattle.type_terms.specs.Layouts.{parts}
use Rattle.type_definitions.specs.Meanings.{term, term_of}
use Rattle.abstract_tree.specs.TreeView.{plain}
use Rattle.judging.specs.Views.{typed_in, kind_reached, judge_at}
use Rattle.judging.specs.Answers.{Answers}
use Rattle.judging.proofs.Steps.{unit_plain}
use Rattle.judging.proofs.layer.Layer.fits_unit.Goals as goal

pub fits-requires-clause-plain : goal.fits-requires-clause-plain
fits-requires-clause-plain g c = subst (λ (f : Form). parts f ≡ []) (sym c.unit-wanted.ensures) unit_plain

pub returns-clause-answer : goal.returns-clause-answer
returns-clause-answer g c =
    subst (λ (f : Form). Answers typed_in kind_reached (λ v. judge_at c.args.self.now.site.place (plain c.args.expression.now) (Some (term_of (term v.later) f)) v) c.args.scopes.now c.args.checker.now
    c.fits.new.scopes c.fits.new.checker c.fits.result) c.unit-wanted.ensures c.fits.ensures.answer
