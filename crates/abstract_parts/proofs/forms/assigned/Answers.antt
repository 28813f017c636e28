use Rattle.abstract_tree.proofs.TreeViews as V
use Rattle.abstract_parts.proofs.forms.assigned.Goals as goal

pub returns-in-Plain : goal.returns-in-Plain
returns-in-Plain c = rw c.in-Plain.is (V.seen_Assign _ _)

pub returns-in-Add : goal.returns-in-Add
returns-in-Add c = rw c.in-Add.is (V.seen_AssignBy _ _ _)

pub returns-in-Subtract : goal.returns-in-Subtract
returns-in-Subtract c = rw c.in-Subtract.is (V.seen_AssignBy _ _ _)

pub returns-in-Multiply : goal.returns-in-Multiply
returns-in-Multiply c = rw c.in-Multiply.is (V.seen_AssignBy _ _ _)

pub returns-in-Divide : goal.returns-in-Divide
returns-in-Divide c = rw c.in-Divide.is (V.seen_AssignBy _ _ _)

pub returns-in-Remainder : goal.returns-in-Remainder
returns-in-Remainder c = rw c.in-Remainder.is (V.seen_AssignBy _ _ _)

pub returns-in-Power : goal.returns-in-Power
returns-in-Power c = rw c.in-Power.is (V.seen_AssignBy _ _ _)

pub returns-in-Concat : goal.returns-in-Concat
returns-in-Concat c = rw c.in-Concat.is (V.seen_AssignBy _ _ _)

pub returns-in-AddWrap : goal.returns-in-AddWrap
returns-in-AddWrap c = rw c.in-AddWrap.is (V.seen_AssignBy _ _ _)

pub returns-in-SubtractWrap : goal.returns-in-SubtractWrap
returns-in-SubtractWrap c = rw c.in-SubtractWrap.is (V.seen_AssignBy _ _ _)

pub returns-in-MultiplyWrap : goal.returns-in-MultiplyWrap
returns-in-MultiplyWrap c = rw c.in-MultiplyWrap.is (V.seen_AssignBy _ _ _)
