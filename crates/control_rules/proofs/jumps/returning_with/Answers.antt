use Rattle.std.proofs.Common.{Some, rules}
use Rattle.typing_rules.specs.AbstractSyntax as p
use Rattle.typing_rules.specs.Terms as t
use Rattle.typing_rules.specs.Judgements.{Part}
use Rattle.typing_rules.specs.Ends.{Has}
use Rattle.abstract_tree.specs.TreeView.{plain}
use Rattle.value_scopes.specs.Values.{noted}
use Rattle.judging.specs.Views.{judge, judge_at, typed_in, wanted_in}
use Rattle.judging.proofs.Forms.{seen_ReturnWith}
use Rattle.judging.proofs.Steps.{reached_within}
use Rattle.judging.proofs.TypedParts.{part_given, part_refused}
use Rattle.control_rules.proofs.Leaving.{no_result, result_given}
use Rattle.control_rules.proofs.jumps.returning_with.Goals as goal

pub part-requires-clause-wanted : goal.part-requires-clause-wanted
part-requires-clause-wanted g c = reached_within c.args.checker.now.types c.in-Some.kind c.requires.ready.sound.known.kept (search rules)

pub returns-in_err-of-in-Some : goal.returns-in_err-of-in-Some
returns-in_err-of-in-Some g c =
    result_given c.args.layer.now.site (λ v u. Part (judge_at c.args.layer.now.site.place (plain c.args.a.now) (Some u) v) (λ b. Has c.args.layer.now.site.at (wanted_in v c.args.layer.now.site.wanted) t.Bottom (p.ReturnWith b))) c.args.scopes.now c.args.checker.now c.in-Some.kind c.part.new.scopes c.part.new.checker c.from_residual.result c.in-Some.is
    (part_refused (judge c.args.layer.now.site.place (plain c.args.a.now) (Some c.in-Some.kind)) (λ v b. Has c.args.layer.now.site.at (wanted_in v c.args.layer.now.site.wanted) t.Bottom (p.ReturnWith b))
    c.args.scopes.now c.part.new.scopes c.args.checker.now c.part.new.checker c.in_err-of-in-Some.field-0.0 c.from_residual.result c.from_residual.ensures c.in_err-of-in-Some.ensures.answer)

pub returns-in_ok-of-in-Some : goal.returns-in_ok-of-in-Some
returns-in_ok-of-in-Some g c =
    result_given c.args.layer.now.site (λ v u. Part (judge_at c.args.layer.now.site.place (plain c.args.a.now) (Some u) v) (λ b. Has c.args.layer.now.site.at (wanted_in v c.args.layer.now.site.wanted) t.Bottom (p.ReturnWith b))) c.args.scopes.now c.args.checker.now c.in-Some.kind c.part.new.scopes c.has_bottom.new.checker c.has_bottom.result c.in-Some.is
    (part_given (judge c.args.layer.now.site.place (plain c.args.a.now) (Some c.in-Some.kind)) (λ v b. Has c.args.layer.now.site.at (wanted_in v c.args.layer.now.site.wanted) t.Bottom (p.ReturnWith b))
    c.args.scopes.now c.part.new.scopes c.part.new.scopes c.args.checker.now c.part.new.checker c.has_bottom.new.checker c.in_ok-of-in-Some.of c.has_bottom.result c.in_ok-of-in-Some.ensures.answer
    (c.has_bottom.ensures c.part.new.scopes c.in_ok-of-in-Some.ensures.ready.sound (λ later. p.ReturnWith (typed_in c.in_ok-of-in-Some.of later)) (λ later. seen_ReturnWith (noted later) c.in_ok-of-in-Some.of)))

pub returns-in-None : goal.returns-in-None
returns-in-None g c = no_result c.args.layer.now.site (λ v u. Part (judge_at c.args.layer.now.site.place (plain c.args.a.now) (Some u) v) (λ b. Has c.args.layer.now.site.at (wanted_in v c.args.layer.now.site.wanted) t.Bottom (p.ReturnWith b))) c.args.scopes.now c.args.checker.now c.in-None.is
