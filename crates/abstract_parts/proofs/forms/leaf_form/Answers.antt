use Rattle.std.proofs.Common.{◌∙◌, ap}
use Rattle.typing_rules.specs.AbstractSyntax as p
use Rattle.abstract_tree.proofs.TreeViews as V
use Rattle.abstract_parts.proofs.forms.leaf_form.Goals as goal

pub returns-in_ok-copied_literal-in-Constant : goal.returns-in_ok-copied_literal-in-Constant
returns-in_ok-copied_literal-in-Constant c = rw c.in-Constant.is (V.seen_Constant _ ∙ ap p.Constant c.in_ok-copied_literal-in-Constant.ensures)

pub returns-in_ok-from_slice-in-Name : goal.returns-in_ok-from_slice-in-Name
returns-in_ok-from_slice-in-Name c = rw c.in-Name.is (V.seen_Name _ ∙ ap p.Name (c.in_ok-from_slice-in-Name.ensures ∙ c.as_slice.ensures))

pub returns-in_ok-from_slice-in-Tag : goal.returns-in_ok-from_slice-in-Tag
returns-in_ok-from_slice-in-Tag c = rw c.in-Tag.is (V.seen_Tag _ ∙ ap p.Tag (c.in_ok-from_slice-in-Tag.ensures ∙ c.as_slice-in-Tag.ensures))

pub returns-in_ok-from_slice-in-Break : goal.returns-in_ok-from_slice-in-Break
returns-in_ok-from_slice-in-Break c = rw c.in-Break.is (V.seen_Break _ ∙ ap p.Break (c.in_ok-from_slice-in-Break.ensures ∙ c.as_slice-in-Break.ensures))

pub returns-in_ok-from_slice-in-Continue : goal.returns-in_ok-from_slice-in-Continue
returns-in_ok-from_slice-in-Continue c = rw c.in-Continue.is (V.seen_Continue _ ∙ ap p.Continue (c.in_ok-from_slice-in-Continue.ensures ∙ c.as_slice-in-Continue.ensures))

pub returns-in_ok-from_slice-in-ActorReference : goal.returns-in_ok-from_slice-in-ActorReference
returns-in_ok-from_slice-in-ActorReference c = rw c.in-ActorReference.is (V.seen_ActorReference _ ∙ ap p.ActorReference (c.in_ok-from_slice-in-ActorReference.ensures ∙ c.as_slice-in-ActorReference.ensures))

pub returns-in-Return : goal.returns-in-Return
returns-in-Return c = rw c.in-Return.is V.seen_Return
