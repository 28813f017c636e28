use Rattle.std.proofs.Common.{ap}
use Rattle.typing_rules.specs.AbstractSyntax as p
use Rattle.typing_rules.specs.Terms.{Term}
use Rattle.typing_rules.specs.Judgements.{Gives}
use Rattle.typing_rules.specs.TypedTrees.{type_of, typed}
use Rattle.type_definitions.specs.Meanings.{term}
use Rattle.abstract_tree.specs.TreeView.{plain}
use Rattle.value_scopes.specs.Values.{noted}
use Rattle.judging.specs.Views.{judge, kind_reached, typed_in}
use Rattle.judging.proofs.Chains.{seen_as}
use Rattle.judging.proofs.Forms.{seen_Do, type_is}
use Rattle.judging.proofs.TypedParts.{part_given, part_refused}
use Rattle.control_rules.proofs.choices.grouping.Goals as goal

pub gives-requires : goal.gives-requires
gives-requires g c = c.in_ok-body.ensures.answer.outcome.holds

pub returns-in_err-body : goal.returns-in_err-body
returns-in_err-body g c =
    part_refused (judge c.args.layer.now.site.place (plain c.args.a.now) c.args.layer.now.site.wanted) (λ v b. Gives (typed c.args.layer.now.site.at (type_of b) (p.Do b))) c.args.scopes.now c.as_wanted.new.scopes c.args.checker.now c.as_wanted.new.checker
    c.in_err-body.field-0.0 c.from_residual.result c.from_residual.ensures c.in_err-body.ensures.answer

pub returns : goal.returns
returns g c =
    part_given (judge c.args.layer.now.site.place (plain c.args.a.now) c.args.layer.now.site.wanted) (λ v b. Gives (typed c.args.layer.now.site.at (type_of b) (p.Do b))) c.args.scopes.now c.as_wanted.new.scopes c.as_wanted.new.scopes c.args.checker.now
    c.as_wanted.new.checker c.as_wanted.new.checker c.in_ok-body.body c.gives.result c.in_ok-body.ensures.answer
    (seen_as typed_in kind_reached (λ v. Gives (typed c.args.layer.now.site.at (type_of (typed_in c.in_ok-body.body v.later)) (p.Do (typed_in c.in_ok-body.body v.later))))
    (λ v. Gives (typed c.args.layer.now.site.at (term v.later c.in_ok-body.body.note.kind) (p.Do (typed_in c.in_ok-body.body v.later)))) c.as_wanted.new.scopes c.as_wanted.new.scopes c.as_wanted.new.checker c.as_wanted.new.checker
    c.gives.result (λ later w. ap (λ (u : Term). Gives (typed c.args.layer.now.site.at u (p.Do (typed_in c.in_ok-body.body later)))) (type_is c.in_ok-body.body later))
    (c.gives.ensures c.as_wanted.new.scopes c.in_ok-body.ensures.ready.sound (λ later. p.Do (typed_in c.in_ok-body.body later)) (λ later. seen_Do (noted later) c.in_ok-body.body)))
