use Rattle.std.proofs.Common.{◌≡◌, true, false, length, sym, ap, ◌∙◌, subst}
use Rattle.std.specs.Prelude.{IfOk}
use Rattle.mo_types.specs.Graph.{head_at}
use Rattle.mo_types.specs.Code.{SameEach}
use Rattle.candid_equal.specs.Types.{pairs_of}
use Rattle.candid_equal.proofs.Same.{yes_same, no_same, as_many}
use Rattle.candid_equal.proofs.types.has_types.Goals as goal

pub returns-then-len-ids-clause-no : goal.returns-then-len-ids-clause-no
returns-then-len-ids-clause-no c u same = c.if-len-ids.true (c.len.ensures ∙ as_many c.args.types.now c.args.header.now.table c.args.header.now.arguments c.args.ids.now same)

pub returns-clause-yes : goal.returns-clause-yes
returns-clause-yes c =
    let many : length c.args.header.now.arguments ≡ length c.args.ids.now = sym c.len.ensures ∙ c.if-len-ids.false in
    let pairs : c.as_slice-3.result.now ≡ pairs_of c.args.header.now.arguments c.args.ids.now = c.as_slice-3.ensures.value ∙ c.in_ok-pairs.ensures ∙ ap (λ l. pairs_of l c.args.ids.now) c.as_slice.ensures in
    subst (λ t. IfOk c.are_equal.result (λ b. b ≡ true → SameEach (head_at c.args.types.now) t c.args.header.now.arguments c.args.ids.now)) c.as_slice-2.ensures
    (yes_same c.args.types.now c.in_ok-shapes.shapes c.in_ok-shapes.ensures c.as_slice-2.result.now c.args.header.now.arguments c.args.ids.now c.as_slice-3.result.now c.are_equal.result many pairs c.are_equal.ensures.yes)

pub returns-clause-no : goal.returns-clause-no
returns-clause-no c =
    let pairs : c.as_slice-3.result.now ≡ pairs_of c.args.header.now.arguments c.args.ids.now = c.as_slice-3.ensures.value ∙ c.in_ok-pairs.ensures ∙ ap (λ l. pairs_of l c.args.ids.now) c.as_slice.ensures in
    subst (λ t. IfOk c.are_equal.result (λ b. b ≡ false → SameEach (head_at c.args.types.now) t c.args.header.now.arguments c.args.ids.now → ⊥)) c.as_slice-2.ensures
    (no_same c.args.types.now c.in_ok-shapes.shapes c.in_ok-shapes.ensures c.as_slice-2.result.now c.args.header.now.arguments c.args.ids.now c.as_slice-3.result.now c.are_equal.result pairs c.are_equal.ensures.no)
