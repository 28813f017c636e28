use Rattle.std.proofs.Common.{length, refl}
use Rattle.mo_num.specs.declared.kind.Kind.TheVariants as kinds
use Rattle.type_terms.specs.declared.form.Form.TheVariants as form
use Rattle.judging.proofs.Steps.{none_below, plain_number, sound_on}
use Rattle.operator_rules.proofs.Opposites.{number_is}
use Rattle.operator_rules.proofs.negating.number_node.Goals as goal

pub intern-requires-clause-below : goal.intern-requires-clause-below
intern-requires-clause-below c = none_below (length c.args.checker.now.types.forms) (form.Number kinds.Nat) (plain_number kinds.Nat)

pub returns : goal.returns
returns c = record {
  kept = c.in_ok-kind.ensures.kept;
  goes = c.in_ok-kind.ensures.goes;
  stands = c.in_ok-kind.ensures.stands;
  sound = λ s q. sound_on c.args.checker.now s c.intern.new.self q c.in_ok-kind.ensures.kept c.in_ok-kind.ensures.goes;
  is = λ later l. number_is _ c.args.at c.args.number c.in_ok-kind.kind later refl c.in_ok-form.ensures (c.in_ok-kind.ensures.made.is later l);
}
