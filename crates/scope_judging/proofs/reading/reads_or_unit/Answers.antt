use Rattle.std.proofs.Common.{List, [], length, subst, sym}
use Rattle.type_terms.specs.declared.form.Form.TheVariants as variants
use Rattle.type_terms.specs.declared.form.TermId.{TermId}
use Rattle.type_terms.specs.Tables.{PartsBelow}
use Rattle.met_types.specs.States.{State}
use Rattle.abstract_types.specs.TypeView.{annotation}
use Rattle.judging.specs.declared.checker.Checker.{Checker}
use Rattle.judging.specs.Views.{term_in}
use Rattle.judging.proofs.Steps.{none_below, sound_on, unit_plain}
use Rattle.scope_judging.specs.Rules.{kind_within, reads_or_unit}
use Rattle.scope_judging.proofs.Answered.{ready_after}
use Rattle.scope_judging.proofs.Written.{is_unit, or_unit}
use Rattle.scope_judging.proofs.reading.reads_or_unit.Goals as goal

abbrev met : Checker → State → Checker
met k t = record k { types = t }

pub intern-requires-clause-below : goal.intern-requires-clause-below
intern-requires-clause-below c =
    subst (λ (ids : List TermId). PartsBelow (length c.args.checker.now.types.forms) (variants.Tuple ids)) (sym c.new-nothing.ensures) (none_below (length c.args.checker.now.types.forms) (variants.Tuple []) unit_plain)

pub reads_or-requires-clause-sound : goal.reads_or-requires-clause-sound
reads_or-requires-clause-sound c = sound_on c.args.checker.now c.args.scopes.now c.intern.new.self c.requires c.in_ok-unit.ensures.kept c.in_ok-unit.ensures.goes

pub returns-clause-answer : goal.returns-clause-answer
returns-clause-answer c =
    or_unit (annotation c.args.written.now) c.in_ok-unit.unit c.args.scopes.now c.args.checker.now (met c.args.checker.now c.intern.new.self) c.reads_or.new.checker c.reads_or.result c.in_ok-unit.ensures.goes c.in_ok-unit.ensures.stands
    (is_unit c.new-nothing.result c.in_ok-unit.unit c.intern.new.self.forms c.new-nothing.ensures c.in_ok-unit.ensures.made.is) c.reads_or.ensures.answer

pub returns-clause-ready : goal.returns-clause-ready
returns-clause-ready c = λ x q.
    ready_after term_in kind_within (reads_or_unit (annotation c.args.written.now)) c.args.scopes.now c.args.checker.now c.reads_or.new.checker c.reads_or.result x
    (or_unit (annotation c.args.written.now) c.in_ok-unit.unit c.args.scopes.now c.args.checker.now (met c.args.checker.now c.intern.new.self) c.reads_or.new.checker c.reads_or.result c.in_ok-unit.ensures.goes c.in_ok-unit.ensures.stands
    (is_unit c.new-nothing.result c.in_ok-unit.unit c.intern.new.self.forms c.new-nothing.ensures c.in_ok-unit.ensures.made.is) c.reads_or.ensures.answer) q
