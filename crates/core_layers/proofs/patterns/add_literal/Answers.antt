use Rattle.std.proofs.Common.{ap, refl, ◌∙◌}
use Rattle.typed_tree.specs.PatternView.{literal_part}
use Rattle.elaboration.specs.Checks as checks
use Rattle.core_layers.specs.Layers.{seen_source}
use Rattle.core_layers.proofs.Literals.{literal_adds, null_adds}
use Rattle.core_layers.proofs.patterns.add_literal.Goals as goal

pub returns-in_ok-push-in-Null : goal.returns-in_ok-push-in-Null
returns-in_ok-push-in-Null c =
    null_adds c.args.literal.now (seen_source c.args.source c.args.checked.now.names) c.args.checked.now _ c.in_ok-value-in-Null.value c.in-Null.is c.in_ok-value-in-Null.ensures c.in_ok-push-in-Null.ensures.items refl refl

pub returns-in_ok-push-in_default : goal.returns-in_ok-push-in_default
returns-in_ok-push-in_default c =
    literal_adds c.args.literal.now (seen_source c.args.source c.args.checked.now.names) c.args.checked.now _ c.in_ok-same-in_default.field-0 (λ q. c.in_default.not-Unit q) (λ q. c.in_default.not-Null q)
    (λ f e. c.in_ok-same-in_default.ensures f e ∙ ap (λ v. checks.around (checks.same (literal_part c.args.literal.now) v) f e) c.in_ok-value-in_default.ensures) c.in_ok-push-in_default.ensures.items refl refl
