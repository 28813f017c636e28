use Rattle.typing_rules.specs.AbstractSyntax as p
use Rattle.value_scopes.specs.Values.{noted}
use Rattle.judging.specs.Views.{kind_reached, typed_in}
use Rattle.judging.proofs.Chains.{no_memory}
use Rattle.judging.proofs.Forms.{seen_BuiltIn}
use Rattle.judging.proofs.Steps.{sound_on, wanting_on}
use Rattle.member_rules.proofs.BuiltIns.{member_is, written}
use Rattle.member_rules.proofs.module_members.given_member.Goals as goal

pub has-requires-clause-wanting : goal.has-requires-clause-wanting
has-requires-clause-wanting c =
    wanting_on c.args.checker.now (written c.args.site.now c.args.member c.args.scopes.now c.args.checker.now c.member_bound.new.types c.in_ok-bound.bound c.in_ok-bound.ensures.bound) c.args.site.now c.requires.wanting c.in_ok-bound.ensures.bound.added.kept
    c.in_ok-bound.ensures.bound.added.goes

pub has-requires-clause-within : goal.has-requires-clause-within
has-requires-clause-within c = c.in_ok-bound.ensures.bound.within

pub returns-in_err-bound : goal.returns-in_err-bound
returns-in_err-bound c = no_memory typed_in kind_reached _ c.args.scopes.now c.args.scopes.now c.args.checker.now _ c.from_residual.result c.from_residual.ensures

pub returns : goal.returns
returns c =
    member_is c.args.site.now c.args.member c.args.scopes.now c.args.checker.now c.member_bound.new.types c.in_ok-bound.bound c.in_ok-bound.ensures.bound c.has.new.checker c.has.result
    (c.has.ensures c.args.scopes.now (sound_on c.args.checker.now c.args.scopes.now c.member_bound.new.types c.requires.sound c.in_ok-bound.ensures.bound.added.kept c.in_ok-bound.ensures.bound.added.goes)
    (λ later. p.BuiltIn c.args.member) (λ later. seen_BuiltIn (noted later) c.args.member))
