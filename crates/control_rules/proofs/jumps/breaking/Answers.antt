use Rattle.std.proofs.Common.{◌∙◌, ap}
use Rattle.typing_rules.specs.AbstractSyntax as p
use Rattle.typing_rules.specs.Ends.{Leaves}
use Rattle.value_scopes.specs.Values.{noted}
use Rattle.judging.specs.Views.{kind_reached, typed_in, wanted_in}
use Rattle.judging.proofs.Chains.{no_memory}
use Rattle.judging.proofs.Forms.{seen_Break}
use Rattle.control_rules.proofs.Leaving.{label_given, label_reached, no_label}
use Rattle.control_rules.proofs.jumps.breaking.Goals as goal

pub leaves-requires-clause-kind : goal.leaves-requires-clause-kind
leaves-requires-clause-kind c = label_reached c.args.checker.now.types c.args.scopes.now.labels c.args.name.now c.label_named.result c.in-Some.label c.label_named.ensures c.in-Some.is c.requires.sound.labels

pub returns-in_err-copied-in-Some : goal.returns-in_err-copied-in-Some
returns-in_err-copied-in-Some c = no_memory typed_in kind_reached _ c.args.scopes.now c.args.scopes.now c.args.checker.now c.args.checker.now c.from_residual.result c.from_residual.ensures

pub returns-in_ok-copied-in-Some : goal.returns-in_ok-copied-in-Some
returns-in_ok-copied-in-Some c =
    label_given c.args.site.now c.args.name.now (λ v l. Leaves c.args.site.now.at (wanted_in v c.args.site.now.wanted) l.type (p.Break c.args.name.now)) c.args.scopes.now c.args.checker.now c.label_named.result c.label_named.ensures c.in-Some.label c.args.scopes.now
    c.leaves.new.checker c.leaves.result c.in-Some.is
    (c.leaves.ensures c.args.scopes.now c.requires.sound (λ later. p.Break c.args.name.now) (λ later. seen_Break (noted later) c.in_ok-copied-in-Some.field-0 ∙ ap p.Break c.in_ok-copied-in-Some.ensures))

pub returns-in-None : goal.returns-in-None
returns-in-None c = no_label c.args.site.now c.args.name.now (λ v l. Leaves c.args.site.now.at (wanted_in v c.args.site.now.wanted) l.type (p.Break c.args.name.now)) c.args.scopes.now c.args.checker.now c.label_named.result c.label_named.ensures c.in-None.is
