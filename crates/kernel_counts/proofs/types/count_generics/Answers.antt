use Rattle.std.proofs.Common.{List, map, refl}
use Rattle.typing_rules.specs.Nodes.{in_generics}
use Rattle.abstract_types.specs.TypeView.{parameter}
use Rattle.abstract_types.specs.declared.types.TypeParameter.{TypeParameter}
use Rattle.kernel_counts.proofs.Adding.{all_left, none_left, one_less}
use Rattle.kernel_counts.proofs.types.count_generics.Goals as goal

pub loop-one-init : goal.loop-one-init
loop-one-init c = all_left (λ (ns : List TypeParameter). in_generics (map parameter ns)) c.args.generics.now c.args.counted

pub loop-one-preserved : goal.loop-one-preserved
loop-one-preserved c = one_less (λ (ns : List TypeParameter). in_generics (map parameter ns)) c.args.generics.now c.args.counted _ _ _ _ _ c.loop-one-test.true c.one-item.is c.in_ok-sum.ensures refl c.loop-one.invariant

pub returns : goal.returns
returns c = none_left (λ (ns : List TypeParameter). in_generics (map parameter ns)) c.args.generics.now c.args.counted _ _ c.loop-one-test.false refl c.loop-one.invariant
