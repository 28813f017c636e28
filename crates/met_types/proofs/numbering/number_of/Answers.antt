use Rattle.std.proofs.Common.{◌∷◌, [], sym, subst, refl, List}
use Rattle.type_terms.specs.declared.form.TermId.{TermId}
use Rattle.met_types.specs.Closing.{Extends}
use Rattle.met_types.proofs.Failing.{graph_err, too_many, no_room}
use Rattle.met_types.proofs.Extending.{extends_one, one_there}
use Rattle.met_types.proofs.numbering.number_of.Goals as goal

pub returns-in_err-id-clause-full : goal.returns-in_err-id-clause-full
returns-in_err-id-clause-full c =
    graph_err c.from_residual.result c.in_err-id.field-0.0 _ c.from_residual.ensures
    (too_many c.in_err-id.field-0.0 _ _ c.in_err-id.ensures.full (λ h. (no_room c.args.reached.now c.args.graph.now c.args.part c.requires.many c.in_default.ensures.missing h, refl, c.in_err-id.ensures.err)))

pub returns-clause-there : goal.returns-clause-there
returns-clause-there c = one_there c.args.reached.now c.push.new.self c.args.graph.now c.fresh.new.self c.args.part c.in_ok-id.id c.requires.many c.in_ok-id.ensures.ok c.in_ok-push.ensures.ok

pub returns-clause-ok : goal.returns-clause-ok
returns-clause-ok c =
    subst (λ (xs : List TermId). Extends (c.args.part ∷ []) c.args.reached.now xs c.args.graph.now c.fresh.new.self) (sym c.in_ok-push.ensures.ok)
    (extends_one c.args.reached.now c.args.graph.now c.fresh.new.self c.args.part c.in_ok-id.id c.requires.many c.requires.different c.in_default.ensures.missing c.in_ok-id.ensures.ok)
