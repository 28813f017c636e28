use Rattle.std.proofs.Common.{Option, ap, ◌∙◌}
use Rattle.std.proofs.lemmas.Result.{IfOk-weaker}
use Rattle.mo_types.specs.declared.wire.Plain.{Plain}
use Rattle.candid_types.specs.Shapes.{ref_by, ref_of}
use Rattle.candid_keep.specs.Refs.{ref_in}
use Rattle.candid_keep.proofs.numbers.table_ref.Goals as goal

pub returns-in-Some : goal.returns-in-Some
unfolding ref_of
returns-in-Some c = ap (λ (o : Option Plain). ref_in (ref_by o c.args.number)) c.in-Some.ensures

pub returns-in-None : goal.returns-in-None
unfolding ref_of
returns-in-None c = IfOk-weaker c.entry.result _ _ (λ made is. is ∙ ap (λ (o : Option Plain). ref_in (ref_by o c.args.number)) c.in-None.ensures) c.entry.ensures
