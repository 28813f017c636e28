use Rattle.std.proofs.Common.{◌∙◌, ap, sym, subst}
use Rattle.mo_types.specs.Heads.{map_option}
use Rattle.definition_rules.specs.Uses.{Keeps}
use Rattle.definition_rules.proofs.OwnUses.{if_ok, of_definition, of_none}
use Rattle.definition_rules.proofs.keeping.keeps_parameters.Goals as goal

pub returns-in-Some : goal.returns-in-Some
returns-in-Some c = if_ok c.keeps.result _ _ c.keeps.ensures
    (λ is h. of_definition c.args.definitions.now c.args.terms.now c.args.name c.in-Some.definition.now is (sym c.find.ensures ∙ ap (map_option (λ d. d.now)) c.in-Some.is)
    (subst (λ own. Keeps c.args.definitions.now c.args.terms.now c.args.name own c.in-Some.definition.now.right is) c.as_slice.ensures h))

pub returns-in-None : goal.returns-in-None
returns-in-None c = of_none c.args.definitions.now c.args.terms.now c.args.name (sym c.find.ensures ∙ ap (map_option (λ d. d.now)) c.in-None.is)
