use Rattle.std.proofs.Common.{ap, map, ◌∙◌}
use Rattle.abstract_tree.specs.TreeView.{declarations, plain_declaration}
use Rattle.type_scopes.specs.Scopes.{Names, seen}
use Rattle.typing_rules.specs.DeclaredTypes.{with_list}
use Rattle.typing_rules.specs.Gathered.{in_list}
use Rattle.gathered_types.proofs.Ending.{all_stand, are_gathered}
use Rattle.gathered_types.proofs.program.gathered.Goals as goal

pub new-requires : goal.new-requires
new-requires c = all_stand c.in_ok-types.types c.find_block.new.types _ c.new-found.result c.find_block.new.found c.in_ok-definitions.definitions c.into_terms-terms.result c.new-found.ensures c.in_ok-find_block.ensures.found
    c.into_terms-terms.ensures c.in_ok-definitions.ensures

pub returns-in-Ok-clause-gathered : goal.returns-in-Ok-clause-gathered
returns-in-Ok-clause-gathered c later l =
    are_gathered c.in_ok-types.types c.find_block.new.types _ c.new-found.result c.find_block.new.found c.in-Ok.made.listed c.in-Ok.made.forms c.new-found.ensures (rw c.as_slice.ensures at c.in_ok-find_block.ensures.found)
    (c.in-Ok.ensures.made.0 ∙ c.into_terms-terms.ensures) (c.in-Ok.ensures.made.1 ∙ c.in_ok-definitions.ensures) later l
    ∙ ap (λ (n : Names). in_list (with_list (seen n) (declarations (map plain_declaration c.args.program.now.fields))) (declarations (map plain_declaration c.args.program.now.fields))) c.new-scope.ensures

pub returns-in-Ok-clause-met : goal.returns-in-Ok-clause-met
returns-in-Ok-clause-met c = c.in-Ok.ensures.made.2
