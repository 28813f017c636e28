use Rattle.std.proofs.Common.{subst}
use Rattle.type_terms.specs.declared.form.Form.{Form}
use Rattle.type_definitions.specs.Tables.{IsTermOf, Makes}
use Rattle.type_definitions.proofs.Meanings.{interned_is}
use Rattle.type_definitions.proofs.PutIn.{back_below, if_ok}
use Rattle.type_definitions.proofs.put.put_back.Goals as goal

pub intern-requires : goal.intern-requires
intern-requires c = back_below c.args.terms.now c.args.form.now c.in_ok-form.form c.args.others.now c.in_ok-form.ensures c.requires.number c.requires.within

pub returns : goal.returns
returns c = if_ok c.intern.result _ _ c.intern.ensures.ok
    (λ r i. subst (λ (f : Form). Makes c.args.terms.now (IsTermOf f r) r c.intern.new.self) c.in_ok-form.ensures (interned_is c.args.terms.now c.intern.new.self c.in_ok-form.form r i))
