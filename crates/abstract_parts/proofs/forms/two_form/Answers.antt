use Rattle.abstract_tree.proofs.TreeViews as V
use Rattle.abstract_parts.proofs.forms.two_form.Goals as goal

pub returns-in-Assign : goal.returns-in-Assign
returns-in-Assign c = rw c.in-Assign.is c.assigned.ensures

pub returns-in-Binary : goal.returns-in-Binary
returns-in-Binary c = rw c.in-Binary.is (V.seen_Binary _ _ _)

pub returns-in-Index : goal.returns-in-Index
returns-in-Index c = rw c.in-Index.is (V.seen_Index _ _)

pub returns-in-When : goal.returns-in-When
returns-in-When c = rw c.in-When.is (V.seen_When _ _)

pub returns-in-While : goal.returns-in-While
returns-in-While c = rw c.in-While.is (V.seen_While _ _)

pub returns-in-LoopWhile : goal.returns-in-LoopWhile
returns-in-LoopWhile c = rw c.in-LoopWhile.is (V.seen_LoopWhile _ _)
