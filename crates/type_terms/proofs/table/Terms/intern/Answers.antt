use Rattle.std.proofs.Common.{subst}
use Rattle.type_terms.specs.Tables.{Interns}
use Rattle.type_terms.proofs.Interning.{interns}
use Rattle.type_terms.proofs.table.Terms.intern.Goals as goal

pub returns-clause-ok : goal.returns-clause-ok
returns-clause-ok c =
    let s = c.in_ok-index.ensures.stored in
    subst (λ old. Interns old c.args.form (record { index = c.in_ok-index.index }) c.insert_full.new.self.keys) c.self.view_is
    (interns c.self.inside.forms.keys c.insert_full.new.self.keys c.args.form s.0 (record { index = c.in_ok-index.index }) c.in_ok-index.ensures.keys s.1 s.2)
