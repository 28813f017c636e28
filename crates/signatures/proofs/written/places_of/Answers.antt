use Rattle.std.proofs.Common.{◌+◌, ◌≡◌, List, map, subst, take}
use Rattle.definition_rules.proofs.Adding.{take_all}
use Rattle.typing_rules.specs.TypeScopes.{names_of, places_of}
use Rattle.abstract_types.specs.declared.types.TypeParameter.{TypeParameter}
use Rattle.abstract_types.specs.TypeView.{parameter}
use Rattle.typed_patterns.proofs.Several.{item_more}
use Rattle.signatures.proofs.Annotations.{places_more}
use Rattle.signatures.proofs.written.places_of.Goals as goal

pub loop-one-preserved : goal.loop-one-preserved
loop-one-preserved c = places_more c.loop-one.made c.push.new.self (take c.loop-one.one-index c.args.generics.now) (take (c.loop-one.one-index + 1) c.args.generics.now) c.one-item.result (item_more c.args.generics.now c.loop-one.one-index c.one-item.result c.loop-one-test.true c.one-item.is) c.in_ok-push.ensures.ok c.loop-one.invariant

pub returns : goal.returns
returns c = subst (λ (gs : List TypeParameter). c.loop-one.made ≡ places_of (names_of (map parameter gs))) (take_all c.args.generics.now c.loop-one.one-index c.loop-one-test.false) c.loop-one.invariant
