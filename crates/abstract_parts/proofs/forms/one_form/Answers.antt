use Rattle.std.proofs.Common.{◌∙◌, ap}
use Rattle.typing_rules.specs.AbstractSyntax as p
use Rattle.abstract_tree.specs.TreeView.{plain}
use Rattle.abstract_tree.proofs.TreeViews as V
use Rattle.abstract_parts.proofs.forms.one_form.Goals as goal

pub returns-in-Optional : goal.returns-in-Optional
returns-in-Optional c = rw c.in-Optional.is (V.seen_Optional _)

pub returns-in-Negative : goal.returns-in-Negative
returns-in-Negative c = rw c.in-Negative.is (V.seen_Negative _)

pub returns-in-Not : goal.returns-in-Not
returns-in-Not c = rw c.in-Not.is (V.seen_Not _)

pub returns-in-Do : goal.returns-in-Do
returns-in-Do c = rw c.in-Do.is (V.seen_Do _)

pub returns-in-DoOption : goal.returns-in-DoOption
returns-in-DoOption c = rw c.in-DoOption.is (V.seen_DoOption _)

pub returns-in-Await : goal.returns-in-Await
returns-in-Await c = rw c.in-Await.is (V.seen_Await _)

pub returns-in-Throw : goal.returns-in-Throw
returns-in-Throw c = rw c.in-Throw.is (V.seen_Throw _)

pub returns-in-Assert : goal.returns-in-Assert
returns-in-Assert c = rw c.in-Assert.is (V.seen_Assert _)

pub returns-in-Ignore : goal.returns-in-Ignore
returns-in-Ignore c = rw c.in-Ignore.is (V.seen_Ignore _)

pub returns-in-Debug : goal.returns-in-Debug
returns-in-Debug c = rw c.in-Debug.is (V.seen_Debug _)

pub returns-in-Loop : goal.returns-in-Loop
returns-in-Loop c = rw c.in-Loop.is (V.seen_Loop _)

pub returns-in-Return : goal.returns-in-Return
returns-in-Return c = rw c.in-Return.is (V.seen_ReturnWith _)

pub returns-in-Bang : goal.returns-in-Bang
returns-in-Bang c = rw c.in-Bang.is (V.seen_Bang _)

pub returns-in_ok-from_slice-in-Tagged : goal.returns-in_ok-from_slice-in-Tagged
returns-in_ok-from_slice-in-Tagged c = rw c.in-Tagged.is (V.seen_Tagged _ _ ∙ ap (λ xs. p.Tagged xs (plain c.args.of)) (c.in_ok-from_slice-in-Tagged.ensures ∙ c.as_slice.ensures))

pub returns-in_ok-from_slice-in-Break : goal.returns-in_ok-from_slice-in-Break
returns-in_ok-from_slice-in-Break c = rw c.in-Break.is (V.seen_BreakWith _ _ ∙ ap (λ xs. p.BreakWith xs (plain c.args.of)) (c.in_ok-from_slice-in-Break.ensures ∙ c.as_slice-in-Break.ensures))

pub returns-in_ok-from_slice-in-Member : goal.returns-in_ok-from_slice-in-Member
returns-in_ok-from_slice-in-Member c = rw c.in-Member.is (V.seen_Member _ _ ∙ ap (p.Member (plain c.args.of)) (c.in_ok-from_slice-in-Member.ensures ∙ c.as_slice-in-Member.ensures))

pub returns-in-Projection : goal.returns-in-Projection
returns-in-Projection c = rw c.in-Projection.is (V.seen_Projection _ _)
