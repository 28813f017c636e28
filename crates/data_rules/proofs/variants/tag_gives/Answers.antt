use Rattle.std.proofs.Common.{◌∙◌, ◌≡◌, [], List, ap, length, subst, sym, ℕ}
use Rattle.met_types.specs.States.{State}
use Rattle.type_terms.specs.declared.form.Form.{Form}
use Rattle.type_terms.specs.Layouts.{parts}
use Rattle.typing_rules.specs.AbstractSyntax as p
use Rattle.value_scopes.specs.Values.{noted}
use Rattle.judging.specs.declared.checker.Checker.{Checker}
use Rattle.judging.specs.Views.{kind_reached, typed_in}
use Rattle.judging.proofs.Chains.{no_memory}
use Rattle.judging.proofs.Forms.{seen_Tag}
use Rattle.judging.proofs.Steps.{none_below, sound_on, unit_plain, wanting_on}
use Rattle.data_rules.proofs.ByVariant.{unit_tag}
use Rattle.data_rules.proofs.variants.tag_gives.Goals as goal

abbrev met : Checker → State → Checker
met k t = record k { types = t }

pub intern-requires-clause-below : goal.intern-requires-clause-below
intern-requires-clause-below c = none_below (length c.args.checker.now.types.forms) c.unit-kind.result (subst (λ (f : Form). parts f ≡ []) (sym c.unit-kind.ensures) unit_plain)

pub has_tag-requires-clause-wanting : goal.has_tag-requires-clause-wanting
has_tag-requires-clause-wanting c = wanting_on c.args.checker.now (met c.args.checker.now c.intern.new.self) c.args.site.now c.requires c.in_ok-part.ensures.kept c.in_ok-part.ensures.goes

pub returns-in_err-copied : goal.returns-in_err-copied
returns-in_err-copied c = λ s q. no_memory typed_in kind_reached _ s s c.args.checker.now _ c.from_residual.result c.from_residual.ensures

pub returns-in_err-part : goal.returns-in_err-part
returns-in_err-part c = λ s q. no_memory typed_in kind_reached _ s s c.args.checker.now _ c.from_residual-in_err-part.result c.from_residual-in_err-part.ensures

pub returns : goal.returns
returns c = λ s q.
    unit_tag c.args.site.now c.args.name.now c.in_ok-part.part c.unit-kind.result s c.args.checker.now (met c.args.checker.now c.intern.new.self) c.has_tag.new.checker c.has_tag.result c.unit-kind.ensures c.in_ok-part.ensures.goes
    c.in_ok-part.ensures.stands c.in_ok-part.ensures.made.is
    (c.has_tag.ensures s (sound_on c.args.checker.now s c.intern.new.self q c.in_ok-part.ensures.kept c.in_ok-part.ensures.goes) (λ later. p.Tag c.args.name.now)
    (λ later. seen_Tag (noted later) c.in_ok-copied.field-0 ∙ ap (λ (y : List ℕ). p.Tag y) c.in_ok-copied.ensures))
