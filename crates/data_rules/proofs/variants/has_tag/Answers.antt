use Rattle.std.proofs.Common.{List, length, subst, sym}
use Rattle.mo_types.specs.declared.node.Field.{Field}
use Rattle.type_terms.specs.declared.form.Form.TheVariants as variants
use Rattle.type_terms.specs.declared.form.TermId.{TermId}
use Rattle.type_terms.specs.Tables.{PartsBelow}
use Rattle.typing_rules.specs.Ends.{Has}
use Rattle.type_definitions.specs.Meanings.{term, term_of}
use Rattle.judging.specs.Views.{kind_reached, typed_in, wanted_in}
use Rattle.judging.proofs.Chains.{no_memory}
use Rattle.judging.proofs.TypedParts.{Comes}
use Rattle.data_rules.proofs.ByVariant.{below_variant}
use Rattle.data_rules.proofs.variants.has_tag.Goals as goal

pub has_form-requires-clause-below : goal.has_form-requires-clause-below
has_form-requires-clause-below c =
    subst (λ (tags : List (Field TermId)). PartsBelow (length c.args.checker.now.types.forms) (variants.Variant tags)) (sym c.in_ok-tags.ensures)
    (below_variant (length c.args.checker.now.types.forms) c.args.name.now c.args.part c.requires.part)

pub returns-in_err-tags : goal.returns-in_err-tags
returns-in_err-tags c = λ s q f e. no_memory typed_in kind_reached _ s s c.args.checker.now _ c.from_residual.result c.from_residual.ensures

pub returns : goal.returns
returns c = λ s q f e.
    subst (λ (tags : List (Field TermId)). Comes (λ v. Has c.args.site.now.at (wanted_in v c.args.site.now.wanted) (term_of (term v.later) (variants.Variant tags)) (f v.later)) s c.args.checker.now s c.has_form.new.checker c.has_form.result)
    c.in_ok-tags.ensures (c.has_form.ensures s q f e)
