use Rattle.std.proofs.Common.{Option, length, sym, subst}
use Rattle.typed_tree.specs.declared.expression.Function.{Function}
use Rattle.elaboration.specs.Checks.{locals}
use Rattle.elaboration.specs.Programs.{start_end}
use Rattle.core_parts.specs.Making.{IsMade}
use Rattle.core_parts.proofs.Going.{on_ok}
use Rattle.core_hooks.specs.Hooks.{optional_hook}
use Rattle.core_hooks.proofs.Ends.{values_end}
use Rattle.core_hooks.proofs.starts.start_end.Goals as goal

pub returns-in-Some : goal.returns-in-Some
returns-in-Some c =
    on_ok c.behind_hook.result c.behind_hook.ensures (λ made made_so. λ levels others places count.
    let Of : Option Function → Type 0 = λ o. IsMade (start_end c.args.scope.now (length c.args.groups.now) c.args.functions (locals levels) (optional_hook o)) c.args.groups.now c.behind_hook.new.groups made in
    subst Of (sym c.in-Some.is) (made_so levels others places count))

pub returns-in-None : goal.returns-in-None
returns-in-None c =
    on_ok c.values.result c.values.ensures (λ made made_so. λ levels others places count.
    let Of : Option Function → Type 0 = λ o. IsMade (start_end c.args.scope.now (length c.args.groups.now) c.args.functions (locals levels) (optional_hook o)) c.args.groups.now c.args.groups.now made in
    subst Of (sym c.in-None.is) (values_end c.args.scope.now c.args.functions levels c.args.groups.now made (made_so levels others places count)))
