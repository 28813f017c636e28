use Rattle.type_definitions.specs.Tables.{IsTermOf}
use Rattle.type_definitions.proofs.Meanings.{interned_grows, interned_is}
use Rattle.met_types.proofs.Staying.{grown, if_ok, if_ok_on, makes_at}
use Rattle.met_types.proofs.types.Types.intern.Goals as goal

pub returns-clause-kept : goal.returns-clause-kept
returns-clause-kept c = if_ok_on c.intern.result _ _ c.intern.ensures.ok
    (λ id m. (grown c.self.inside.terms c.intern.new.self c.self.inside.definitions c.self.inside.outcomes.items c.self.inside.reached c.self.inside.graph c.args.self.now c.self.view_is c.requires.kept
    (interned_grows c.self.inside.terms c.intern.new.self c.args.form id m)).kept)

pub returns-clause-made : goal.returns-clause-made
returns-clause-made c = if_ok c.intern.result _ _ c.intern.ensures.ok
    (λ id m. makes_at c.self.inside.terms c.self.inside.definitions c.self.inside.outcomes.items c.self.inside.reached c.self.inside.graph c.args.self.now c.self.view_is
    (IsTermOf c.args.form id) id c.intern.new.self (interned_is c.self.inside.terms c.intern.new.self c.args.form id m))
