use Rattle.typing_rules.specs.AbstractSyntax as p
use Rattle.typing_rules.specs.Ends.{Leaves}
use Rattle.value_scopes.specs.Values.{noted}
use Rattle.judging.specs.Views.{wanted_in}
use Rattle.judging.proofs.Forms.{seen_Return}
use Rattle.control_rules.proofs.Leaving.{no_result, result_given}
use Rattle.control_rules.proofs.jumps.returning.Goals as goal

pub returns-in-Some : goal.returns-in-Some
returns-in-Some c =
    result_given c.args.site.now (λ v u. Leaves c.args.site.now.at (wanted_in v c.args.site.now.wanted) u p.Return) c.args.scopes.now c.args.checker.now c.in-Some.kind c.args.scopes.now c.leaves.new.checker c.leaves.result c.in-Some.is
    (c.leaves.ensures c.args.scopes.now c.requires.sound (λ later. p.Return) (λ later. seen_Return (noted later)))

pub returns-in-None : goal.returns-in-None
returns-in-None c = no_result c.args.site.now (λ v u. Leaves c.args.site.now.at (wanted_in v c.args.site.now.wanted) u p.Return) c.args.scopes.now c.args.checker.now c.in-None.is
