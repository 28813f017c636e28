use Rattle.std.proofs.Common.{length}
use Rattle.type_terms.specs.declared.form.Form.TheVariants as variants
use Rattle.met_types.specs.States.{State}
use Rattle.judging.specs.declared.checker.Checker.{Checker}
use Rattle.judging.specs.Views.{term_in}
use Rattle.judging.proofs.Chains.{no_memory}
use Rattle.judging.proofs.Steps.{none_below, plain_bottom, sound_on}
use Rattle.array_rules.specs.Within.{is_within}
use Rattle.array_rules.proofs.AllElements.{all_within, greatest_given, no_kinds, none_given, ok_within, some_kinds}
use Rattle.array_rules.proofs.elements.greatest_or_none.Goals as goal

abbrev met : Checker → State → Checker
met k t = record k { types = t }

pub intern-requires-clause-below : goal.intern-requires-clause-below
intern-requires-clause-below c = none_below (length c.args.checker.now.types.forms) variants.Bottom plain_bottom

pub returns-in_err-intern-clause-answer : goal.returns-in_err-intern-clause-answer
returns-in_err-intern-clause-answer c = λ s q. no_memory term_in is_within _ s s c.args.checker.now _ c.from_residual.result c.from_residual.ensures

pub returns-in_ok-intern-clause-answer : goal.returns-in_ok-intern-clause-answer
returns-in_ok-intern-clause-answer c = λ s q.
    none_given c.args.place c.args.kinds.now c.in_ok-intern.field-0 s c.args.checker.now (met c.args.checker.now c.intern.new.self) (no_kinds c.args.kinds.now c.is_empty.result c.is_empty.ensures c.if-is_empty.true)
    (sound_on c.args.checker.now s c.intern.new.self q c.in_ok-intern.ensures.kept c.in_ok-intern.ensures.goes) c.in_ok-intern.ensures.goes c.in_ok-intern.ensures.stands c.in_ok-intern.ensures.made.within
    c.in_ok-intern.ensures.made.is

pub returns-else-is_empty-clause-within : goal.returns-else-is_empty-clause-within
returns-else-is_empty-clause-within c = all_within c.args.checker.now c.greatest.result c.requires.kept c.greatest.ensures.reached

pub returns-else-is_empty-clause-answer : goal.returns-else-is_empty-clause-answer
returns-else-is_empty-clause-answer c = λ s q.
    greatest_given c.args.place c.args.kinds.now s c.args.checker.now c.greatest.result (some_kinds c.args.kinds.now c.is_empty.result c.is_empty.ensures c.if-is_empty.false) q
    (ok_within c.args.checker.now c.greatest.result c.requires.kept c.greatest.ensures.reached) c.greatest.ensures.judged
