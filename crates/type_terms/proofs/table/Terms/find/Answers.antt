use Rattle.std.proofs.Common.{◌≡◌, sym, subst, List, slice_get, Some}
use Rattle.type_terms.specs.Tables.{IsNew}
use Rattle.type_terms.specs.declared.form.Form.{Form}
use Rattle.type_terms.proofs.Interning.{found_at, new_form}
use Rattle.type_terms.proofs.table.Terms.find.Goals as goal

pub returns-in-Some-clause-there : goal.returns-in-Some-clause-there
returns-in-Some-clause-there c =
    subst (λ (forms : List Form). slice_get forms c.in-Some.index ≡ Some c.args.form.now) c.self.view_is
    (found_at c.self.inside.forms.keys c.args.form.now c.in-Some.index (sym c.in-Some.ensures.index))

pub returns-in-None-clause-missing : goal.returns-in-None-clause-missing
returns-in-None-clause-missing c =
    subst (λ (forms : List Form). IsNew forms c.args.form.now) c.self.view_is
    (new_form c.self.inside.forms.keys c.args.form.now (sym c.in-None.ensures.found))
