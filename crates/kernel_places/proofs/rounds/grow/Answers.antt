use Rattle.std.proofs.Common.{List}
use Rattle.typing_rules.specs.AbstractSyntax.{Bytes}
use Rattle.kernel_places.proofs.Closed.{grow_found}
use Rattle.kernel_places.proofs.rounds.grow.Goals as goal

pub returns : goal.returns
returns c = λ (before : List Bytes).
    grow_found c.args.steps.now c.mark_all.result c.args.index before c.args.marks.now c.args.late.now c.args.next _ c.mark_all.new.marks c.mark_all.new.late c.requires.within
    (c.in_ok-found.ensures c.args.steps.now c.requires.used) c.mark_all.ensures
