use Rattle.std.proofs.Common.{List}
use Rattle.type_terms.specs.declared.form.Form.{Form}
use Rattle.typing_rules.specs.AbstractSyntax as p
use Rattle.abstract_tree.specs.TreeView.{plain}
use Rattle.value_scopes.specs.Values.{noted}
use Rattle.judging.specs.Views.{typed_in}
use Rattle.judging.proofs.Forms.{seen_Projection}
use Rattle.judging.proofs.Steps.{reached_within}
use Rattle.member_rules.proofs.Parted.{no_part, no_tuple_judged, part_found}
use Rattle.member_rules.proofs.elements.projection.Goals as goal

pub tuple_part-requires-clause-reached : goal.tuple_part-requires-clause-reached
tuple_part-requires-clause-reached g c = c.in_ok-of.ensures.answer.outcome.holds

pub has-requires-clause-within : goal.has-requires-clause-within
has-requires-clause-within g c = reached_within c.part.new.checker.types c.in-Some.kind c.in_ok-of.ensures.ready.wanting.kept c.in-Some.ensures.reached

pub returns-in_err-of : goal.returns-in_err-of
returns-in_err-of g c =
    no_tuple_judged c.args.layer.now.site (plain c.args.a.now) c.args.number c.args.scopes.now c.part.new.scopes c.args.checker.now c.part.new.checker c.in_err-of.field-0.0 c.from_residual.result c.from_residual.ensures c.in_err-of.ensures.answer

pub returns-in-Some : goal.returns-in-Some
returns-in-Some g c =
    part_found c.args.layer.now.site (plain c.args.a.now) c.args.number c.args.scopes.now c.part.new.scopes c.args.checker.now c.part.new.checker c.in_ok-of.of c.in_ok-of.ensures.answer c.in-Some.kind c.part.new.scopes c.has.new.checker c.has.result
    c.in-Some.ensures.is
    (c.has.ensures c.part.new.scopes c.in_ok-of.ensures.ready.sound (λ (later : List Form). p.Projection (typed_in c.in_ok-of.of later) c.args.number) (λ later. seen_Projection (noted later) c.in_ok-of.of c.args.number))

pub returns-in-None : goal.returns-in-None
returns-in-None g c =
    no_part c.args.layer.now.site (plain c.args.a.now) c.args.number c.args.scopes.now c.part.new.scopes c.args.checker.now c.part.new.checker c.in_ok-of.of c.in_ok-of.ensures.answer c.in-None.ensures.is
