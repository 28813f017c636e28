use Rattle.std.proofs.Common.{length, refl}
use Rattle.mo_num.specs.declared.kind.Kind.TheVariants as kind
use Rattle.type_terms.specs.declared.form.Form.TheVariants as form
use Rattle.met_types.specs.States.{State}
use Rattle.abstract_tree.specs.TreeView.{plain}
use Rattle.judging.specs.declared.checker.Checker.{Checker}
use Rattle.judging.specs.Views.{typed_in, kind_reached}
use Rattle.judging.proofs.Chains.{no_memory}
use Rattle.judging.proofs.Steps.{judged_of, none_below, plain_number, ready_on, sound_on}
use Rattle.place_rules.proofs.fitting.fits_nat.Goals as goal

abbrev met : Checker → State → Checker
met k t = record k { types = t }

pub intern-requires-clause-below : goal.intern-requires-clause-below
intern-requires-clause-below g c = none_below (length c.args.checker.now.types.forms) (form.Number kind.Nat) (plain_number kind.Nat)

pub part_at-requires-clause-ready : goal.part_at-requires-clause-ready
part_at-requires-clause-ready g c =
    ready_on c.args.checker.now (met c.args.checker.now c.intern.new.self) c.args.scopes.now c.args.scopes.now c.args.layer.now.site c.requires.ready
    (sound_on c.args.checker.now c.args.scopes.now c.intern.new.self c.requires.ready.sound c.in_ok-wanted.ensures.kept c.in_ok-wanted.ensures.goes) c.in_ok-wanted.ensures.goes

pub returns-in_err-wanted-clause-answer : goal.returns-in_err-wanted-clause-answer
returns-in_err-wanted-clause-answer g c = no_memory typed_in kind_reached _ c.args.scopes.now c.args.scopes.now c.args.checker.now _ c.from_residual.result c.from_residual.ensures

pub returns-clause-answer : goal.returns-clause-answer
returns-clause-answer g c =
    judged_of (form.Number kind.Nat) c.in_ok-wanted.wanted c.args.place (plain c.args.expression.now) c.args.scopes.now c.args.scopes.now c.part_at.new.scopes c.args.checker.now
    (met c.args.checker.now c.intern.new.self) c.part_at.new.checker c.part_at.result c.in_ok-wanted.ensures.goes c.in_ok-wanted.ensures.stands refl c.in_ok-wanted.ensures.made.is c.part_at.ensures.answer
