use mir.Syntax.{w128}
use mir.Val.{SFits}
use Rattle.std.proofs.lemmas.Int.{to_z-of_z}
use Rattle.std.proofs.Common.{subst}
use Rattle.std.specs.Prelude.{ℤ}
use Rattle.mo_num.specs.declared.kind.Kind.TheVariants as kinds
use Rattle.typing_rules.specs.AbstractSyntax as p
use Rattle.typing_rules.specs.Literals.{Number}
use Rattle.value_scopes.specs.Values.{noted}
use Rattle.judging.specs.Answers.{Answers}
use Rattle.judging.specs.Views.{definitions, kind_reached, typed_in, wanted_in}
use Rattle.judging.proofs.Chains.{no_memory}
use Rattle.judging.proofs.Forms.{seen_Negative}
use Rattle.judging.proofs.Steps.{wanting_on}
use Rattle.operator_rules.proofs.Opposites.{negative_made}
use Rattle.operator_rules.proofs.negating.negative_number.Goals as goal

pub returns-in_err-node : goal.returns-in_err-node
returns-in_err-node c = λ s q. no_memory typed_in kind_reached _ s s c.args.checker.now _ c.from_residual.result c.from_residual.ensures

pub number-requires : goal.number-requires
number-requires c = wanting_on c.args.checker.now c.number_node.new.checker c.args.site.now c.requires c.in_ok-node.ensures.kept c.in_ok-node.ensures.goes

pub returns : goal.returns
returns c = λ s q.
    let n : SFits w128 c.opposite.result = record { sfits = c.opposite.type_inv } in
    negative_made c.args.site.now c.args.of s c.args.checker.now c.args.at c.in_ok-node.node c.number_node.new.checker c.number.new.checker c.number.result c.in_ok-node.ensures
    (subst (λ (z : ℤ). Answers typed_in kind_reached (λ v. Number (definitions v) c.args.site.now.at (wanted_in v c.args.site.now.wanted) kinds.Int z (p.Negative (typed_in c.in_ok-node.node v.later))) s c.number_node.new.checker s c.number.new.checker c.number.result)
    c.opposite.ensures
    (simp to_z-of_z at (c.number.ensures s (c.in_ok-node.ensures.sound s q) (λ later. p.Negative (typed_in c.in_ok-node.node later)) (λ later. seen_Negative (noted later) c.in_ok-node.node))))
