use Rattle.built_in_members.proofs.value_members.member_kind.Goals as goal

pub returns-in-Size : goal.returns-in-Size
returns-in-Size c = λ u w. rw c.in-Size.is c.counting.ensures

pub returns-in-Items : goal.returns-in-Items
returns-in-Items c = λ u w. rw c.in-Items.is (c.iterating.ensures u w)

pub returns-in-Keys : goal.returns-in-Keys
returns-in-Keys c = λ u w. rw c.in-Keys.is c.iterating_numbers.ensures
