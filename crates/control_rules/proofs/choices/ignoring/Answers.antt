use Rattle.std.proofs.Common.{Err, None, Ok, subst}
use Rattle.typing_rules.specs.AbstractSyntax as p
use Rattle.typing_rules.specs.Terms as t
use Rattle.typing_rules.specs.Ends.{Has}
use Rattle.abstract_tree.specs.TreeView.{plain}
use Rattle.value_scopes.specs.declared.place.Around.TheVariants as around
use Rattle.value_scopes.specs.declared.place.Place.{Place}
use Rattle.value_scopes.specs.Values.{noted}
use Rattle.judging.specs.Views.{judge, typed_in, wanted_in}
use Rattle.judging.proofs.Forms.{seen_Ignore}
use Rattle.judging.proofs.TypedParts.{Comes, part_given, part_refused}
use Rattle.control_rules.proofs.choices.ignoring.Goals as goal

pub returns-in_err-of : goal.returns-in_err-of
returns-in_err-of g c =
    part_refused (judge (record c.args.layer.now.site.place { around = around.Awaited }) (plain c.args.a.now) None) (λ v b. Has c.args.layer.now.site.at (wanted_in v c.args.layer.now.site.wanted) t.unit (p.Ignore b)) c.args.scopes.now c.part_at.new.scopes c.args.checker.now c.part_at.new.checker
    c.in_err-of.field-0.0 c.from_residual.result c.from_residual.ensures (subst (λ (y : Place). Comes (judge y (plain c.args.a.now) None) c.args.scopes.now c.args.checker.now c.part_at.new.scopes c.part_at.new.checker (Err c.in_err-of.field-0.0)) c.directly-place.ensures c.in_err-of.ensures.answer)

pub returns : goal.returns
returns g c =
    part_given (judge (record c.args.layer.now.site.place { around = around.Awaited }) (plain c.args.a.now) None) (λ v b. Has c.args.layer.now.site.at (wanted_in v c.args.layer.now.site.wanted) t.unit (p.Ignore b)) c.args.scopes.now c.part_at.new.scopes c.part_at.new.scopes c.args.checker.now
    c.part_at.new.checker c.has_unit.new.checker c.in_ok-of.of c.has_unit.result (subst (λ (y : Place). Comes (judge y (plain c.args.a.now) None) c.args.scopes.now c.args.checker.now c.part_at.new.scopes c.part_at.new.checker (Ok c.in_ok-of.of)) c.directly-place.ensures c.in_ok-of.ensures.answer)
    (c.has_unit.ensures c.part_at.new.scopes c.in_ok-of.ensures.ready.sound (λ later. p.Ignore (typed_in c.in_ok-of.of later)) (λ later. seen_Ignore (noted later) c.in_ok-of.of))
