use Rattle.std.proofs.Common.{◌∙◌, ap, sym}
use Rattle.mo_types.specs.Heads.{map_option}
use Rattle.type_terms.proofs.table.Terms.form.Goals as goal

pub returns-clause-below : goal.returns-clause-below
returns-clause-below c = c.get_index.ensures.founded c.args.id.index c.in-Some.form.now (sym c.get_index.ensures.there ∙ ap (map_option (λ f. f.now)) c.in-Some.is)
