use Rattle.std.proofs.Common.{List, length, subst}
use Rattle.type_terms.specs.declared.form.Form.TheVariants as form
use Rattle.type_terms.specs.declared.form.TermId.{TermId}
use Rattle.typing_rules.specs.Members.{error_code, nat32, refusal}
use Rattle.typing_rules.specs.Terms as t
use Rattle.built_in_members.specs.Written.{Written, plain_term}
use Rattle.built_in_members.proofs.Interned.{added_on, below_codes, codes_are, plain_tuple, then_ok, written_on}
use Rattle.built_in_members.proofs.errors.error_code.Goals as goal

pub plain-requires-clause-plain : goal.plain-requires-clause-plain
plain-requires-clause-plain c = plain_tuple c.new-empty.result c.new-empty.ensures

pub object-requires-clause-part : goal.object-requires-clause-part
object-requires-clause-part c = c.in_ok-number.ensures.written.within

pub write-requires-clause-below : goal.write-requires-clause-below
write-requires-clause-below c =
    let w3 = c.in_ok-refusal.ensures nat32 c.in_ok-number.ensures.written in
    below_codes (length c.object.new.types.forms) c.in_ok-tags.tags c.in_ok-unit.unit c.in_ok-number.number c.in_ok-refusal.refusal c.in_ok-tags.ensures
    (written_on c.plain.new.types c.object.new.types c.in_ok-unit.unit (plain_term (form.Tuple c.new-empty.result)) (added_on c.plain.new.types c.plain-2.new.types c.object.new.types c.in_ok-number.ensures.added w3.added) c.in_ok-unit.ensures.written).within
    (written_on c.plain-2.new.types c.object.new.types c.in_ok-number.number nat32 w3.added c.in_ok-number.ensures.written).within w3.written.within

pub returns : goal.returns
returns c =
    let w3 = c.in_ok-refusal.ensures nat32 c.in_ok-number.ensures.written in
    let later = added_on c.plain.new.types c.plain-2.new.types c.object.new.types c.in_ok-number.ensures.added w3.added in
    then_ok c.args.types.now c.object.new.types c.write.new.types error_code c.write.result (added_on c.args.types.now c.plain.new.types c.object.new.types c.in_ok-unit.ensures.added later)
    (c.write.ensures error_code
    (codes_are c.object.new.types c.in_ok-tags.tags c.in_ok-unit.unit c.in_ok-number.number c.in_ok-refusal.refusal c.in_ok-tags.ensures
    (written_on c.plain.new.types c.object.new.types c.in_ok-unit.unit t.unit later
    (subst (λ (ids : List TermId). Written c.plain.new.types c.in_ok-unit.unit (plain_term (form.Tuple ids))) c.new-empty.ensures c.in_ok-unit.ensures.written))
    (written_on c.plain-2.new.types c.object.new.types c.in_ok-number.number nat32 w3.added c.in_ok-number.ensures.written) w3.written))

pub plain-requires-2-clause-kept : goal.plain-requires-2-clause-kept
plain-requires-2-clause-kept c = c.in_ok-unit.ensures.added.kept

pub object-requires-clause-kept : goal.object-requires-clause-kept
object-requires-clause-kept c = c.in_ok-number.ensures.added.kept

pub write-requires-clause-kept : goal.write-requires-clause-kept
write-requires-clause-kept c = (c.in_ok-refusal.ensures nat32 c.in_ok-number.ensures.written).added.kept
