use Rattle.std.proofs.Common.{subst}
use Rattle.type_terms.specs.Tables.{Distinct}
use Rattle.type_terms.proofs.Interning.{distinct}
use Rattle.type_terms.proofs.table.Terms.len.Goals as goal

pub returns-clause-distinct : goal.returns-clause-distinct
returns-clause-distinct c = subst Distinct c.self.view_is (distinct c.self.inside.forms.keys c.len.ensures.unique)
