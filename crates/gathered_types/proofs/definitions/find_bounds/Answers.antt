use Rattle.std.proofs.lemmas.List.{take_more}
use Rattle.std.proofs.Common.{◌∷◌, ◌++◌, [], ap, sym, take, ◌∙◌}
use Rattle.abstract_types.specs.declared.types.TypeParameter.{TypeParameter}
use Rattle.abstract_types.specs.TypeView.{annotation}
use Rattle.typing_rules.specs.Terms as t
use Rattle.typing_rules.specs.TypeScopes.{term_or}
use Rattle.type_scopes.specs.Scopes.{seen}
use Rattle.gathered_types.proofs.Defining.{of_bounds, one_of}
use Rattle.gathered_types.proofs.Finding.{all_found, finds_bound, first_found, next_found}
use Rattle.gathered_types.proofs.definitions.find_bounds.Goals as goal

pub loop-one-init : goal.loop-one-init
loop-one-init c = first_found (one_of (seen c.args.scope.now)) c.args.types.now c.args.generics.now c.args.found.now c.requires

pub loop-one-preserved : goal.loop-one-preserved
loop-one-preserved c = next_found (one_of (seen c.args.scope.now)) c.args.types.now c.loop-one.types c.term_or.new.types c.args.generics.now c.loop-one.one-index c.one-item.result c.args.found.now c.loop-one.found c.push_bound.new.self
    (take_more c.args.generics.now c.loop-one.one-index c.one-item.result c.loop-one-test.true ∙ ap (λ (n : TypeParameter). take c.loop-one.one-index c.args.generics.now ++ n ∷ []) (sym c.one-item.is)) c.loop-one.invariant
    (finds_bound c.loop-one.types c.term_or.new.types c.one-item.result.name.at (term_or (seen c.args.scope.now) (annotation c.one-item.result.bound) t.Any) c.in_ok-bound.bound c.loop-one.found c.push_bound.new.self c.in_ok-bound.ensures c.in_ok-push_bound.ensures)

pub returns : goal.returns
returns c = all_found (one_of (seen c.args.scope.now)) c.args.types.now c.loop-one.types _ c.args.generics.now c.loop-one.one-index c.args.found.now c.loop-one.found c.loop-one-test.false (of_bounds (seen c.args.scope.now) c.args.generics.now) c.loop-one.invariant
