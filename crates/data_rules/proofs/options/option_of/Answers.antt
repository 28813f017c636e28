use Rattle.std.proofs.Common.{length, rules}
use Rattle.typing_rules.specs.AbstractSyntax as p
use Rattle.abstract_tree.specs.TreeView.{plain}
use Rattle.value_scopes.specs.Values.{noted}
use Rattle.judging.specs.Views.{typed_in}
use Rattle.judging.proofs.Forms.{seen_Optional}
use Rattle.judging.proofs.Steps.{below_optional, reached_on, reached_within}
use Rattle.data_rules.proofs.ByOption.{fits_given, fits_refused, has_given, has_refused}
use Rattle.data_rules.proofs.options.option_of.Goals as goal

pub part-requires-clause-wanted : goal.part-requires-clause-wanted
part-requires-clause-wanted g c = reached_within c.args.checker.now.types c.in-Some.part c.requires.ready.sound.known.kept (search rules)

pub gives-requires : goal.gives-requires
gives-requires g c = reached_on c.args.checker.now.types c.part.new.checker.types c.in-Some.wanted c.in_ok-of-in-Some.ensures.answer.outcome.goes (search rules)

pub has_form-requires-clause-below : goal.has_form-requires-clause-below
has_form-requires-clause-below g c =
    below_optional (length c.part-in-None.new.checker.types.forms) c.in_ok-of-in-None.of.note.kind
    (reached_within c.part-in-None.new.checker.types c.in_ok-of-in-None.of.note.kind c.in_ok-of-in-None.ensures.ready.sound.known.kept c.in_ok-of-in-None.ensures.answer.outcome.holds)

pub returns-in_err-of-in-Some : goal.returns-in_err-of-in-Some
returns-in_err-of-in-Some g c =
    fits_refused c.args.layer.now.site c.args.layer.now.site.place (plain c.args.a.now) p.Optional c.args.scopes.now c.part.new.scopes c.args.checker.now c.part.new.checker c.wanted_option.result c.wanted_option.ensures.is
    c.in-Some.wanted c.in-Some.part c.in_err-of-in-Some.field-0.0 c.from_residual.result c.in-Some.is c.from_residual.ensures c.in_err-of-in-Some.ensures.answer

pub returns-in_ok-of-in-Some : goal.returns-in_ok-of-in-Some
returns-in_ok-of-in-Some g c =
    fits_given c.args.layer.now.site c.args.layer.now.site.place (plain c.args.a.now) p.Optional c.args.scopes.now c.part.new.scopes c.args.checker.now c.part.new.checker c.wanted_option.result c.wanted_option.ensures.is
    c.in-Some.wanted c.in-Some.part c.in_ok-of-in-Some.of c.gives.result c.in-Some.is c.in_ok-of-in-Some.ensures.answer
    (c.gives.ensures c.part.new.scopes c.in_ok-of-in-Some.ensures.ready.sound (λ later. p.Optional (typed_in c.in_ok-of-in-Some.of later)) (λ later. seen_Optional (noted later) c.in_ok-of-in-Some.of))

pub returns-in_err-of-in-None : goal.returns-in_err-of-in-None
returns-in_err-of-in-None g c =
    has_refused c.args.layer.now.site c.args.layer.now.site.place (plain c.args.a.now) p.Optional c.args.scopes.now c.part-in-None.new.scopes c.args.checker.now c.part-in-None.new.checker c.wanted_option.result c.wanted_option.ensures.is
    c.in_err-of-in-None.field-0.0 c.from_residual-in_err-of-in-None.result c.in-None.is c.from_residual-in_err-of-in-None.ensures c.in_err-of-in-None.ensures.answer

pub returns-in_ok-of-in-None : goal.returns-in_ok-of-in-None
returns-in_ok-of-in-None g c =
    has_given c.args.layer.now.site c.args.layer.now.site.place (plain c.args.a.now) p.Optional c.args.scopes.now c.part-in-None.new.scopes c.args.checker.now c.part-in-None.new.checker c.wanted_option.result c.wanted_option.ensures.is
    c.has_form.new.checker c.in_ok-of-in-None.of c.has_form.result c.in-None.is c.in_ok-of-in-None.ensures.answer
    (c.has_form.ensures c.part-in-None.new.scopes c.in_ok-of-in-None.ensures.ready.sound (λ later. p.Optional (typed_in c.in_ok-of-in-None.of later)) (λ later. seen_Optional (noted later) c.in_ok-of-in-None.of))
