use Rattle.std.proofs.Common.{◌∙◌, sym, ap}
use Rattle.mo_types.specs.Heads.{map_option}
use Rattle.type_definitions.proofs.PutIn.{bottom_below, if_ok}
use Rattle.type_definitions.proofs.Unfolded.{no_right}
use Rattle.type_definitions.proofs.unfolding.unfold_right.Goals as goal

pub intern-requires : goal.intern-requires
intern-requires c = bottom_below _

pub returns-in-None : goal.returns-in-None
returns-in-None c = if_ok c.intern.result _ _ c.intern.ensures.ok
    (λ r i. no_right c.args.terms.now c.intern.new.self c.args.definitions.now c.args.at c.args.arguments.now r (sym c.find.ensures ∙ ap (map_option (λ d. d.now)) c.in-None.is) i)
