use Rattle.std.proofs.Common.{◌≡◌, List, ap, map, subst, ◌++◌, ◌∙◌}
use Rattle.std.specs.Prelude.{IfOk}
use Rattle.core_ir.specs.declared.expression.Expression.{Expression}
use Rattle.core_ir.specs.Expressions as tree
use Rattle.core_ir.specs.Expressions.{Exps}
use Rattle.core_ir.specs.View.{exps, expression}
use Rattle.core_members.specs.Seen.{seen_doing}
use Rattle.core_members.proofs.Listing.{append_both}
use Rattle.core_members.proofs.calls.done_at_once.Goals as goal

pub returns : goal.returns
returns c =
    let Of : Exps → Type 0 = λ x. IfOk c.on.result (λ made. expression made ≡ tree.Do (seen_doing c.args.what) x) in
    subst Of (ap (λ xs. exps (map expression xs)) (c.in_ok-joined.ensures ∙ ap (λ xs. xs ++ c.args.arguments.items) c.in_ok-first.ensures
    ∙ ap (λ (xs : List Expression). (xs ++ c.args.holds.items) ++ c.args.arguments.items) c.new.ensures) ∙ append_both c.args.holds.items c.args.arguments.items) c.on.ensures
