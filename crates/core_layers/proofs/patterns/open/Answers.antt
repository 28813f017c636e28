use Rattle.std.proofs.Common.{ap₂, suc, refl}
use Rattle.core_ir.specs.Expressions.{Exp, Do, Match}
use Rattle.elaboration.specs.Scopes.{one}
use Rattle.elaboration.specs.Checks as checks
use Rattle.core_layers.specs.declared.layer.Layer.TheVariants as outer
use Rattle.core_layers.specs.Layers.{seen_source}
use Rattle.core_layers.proofs.Adding.{adds_one}
use Rattle.core_layers.proofs.patterns.open.Goals as goal

pub returns-clause-checks : goal.returns-clause-checks
returns-clause-checks c =
    adds_one (checks.Opens c.args.form (checks.value_of (seen_source c.args.source c.args.checked.now.names) c.args.checked.now.names)) (outer.Opens c.in_ok-new.field-0 c.in_ok-value.value) c.args.checked.now _
    (suc c.args.checked.now.names) (λ f e. ap₂ (λ k (x : Exp). Do (Match k e f) (one x)) c.in_ok-new.ensures c.in_ok-value.ensures) c.in_ok-push.ensures.items c.in_ok-checked.ensures refl
