use Rattle.std.proofs.Common.{ap, ◌∙◌}
use Rattle.typed_tree.specs.PatternView.{pattern}
use Rattle.elaboration.specs.Checks.{around_all}
use Rattle.elaboration.specs.Elaboration.{on_nearest}
use Rattle.core_layers.specs.Layers.{layered}
use Rattle.core_layers.proofs.Holding.{let_behind}
use Rattle.core_forms.proofs.bindings.add_let.Goals as goal

pub returns-clause-checks : goal.returns-clause-checks
returns-clause-checks c = λ fails e.
    let inner = around_all (on_nearest (pattern c.args.typed.now) c.args.scope.now).checks fails e in
    c.in_ok-layers.ensures.checks fails e ∙ ap (λ ls. layered ls fails inner) c.in_ok-push.ensures.items ∙ let_behind c.args.layers.items c.args.value fails inner
