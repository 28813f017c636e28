use Rattle.std.proofs.Common.{drop, length, map}
use Rattle.typed_tree.specs.View.{block, declaration, expression}
use Rattle.elaboration.specs.Elaboration.{elaborate}
use Rattle.core_scopes.specs.Seen.{IsWithin}
use Rattle.core_parts.proofs.Going.{Around}
use Rattle.core_blocks.proofs.blocks.block.Given as goal

abbrev pub invariant-loop-step : goal.invariant-loop-step
invariant-loop-step g l = record {
  made : Around (elaborate l.initial.scope (length l.initial.groups) (block (map declaration l.steps) (expression l.value)))
      (elaborate l.scope (length l.groups) (block (map declaration (drop l.step-index l.steps)) (expression l.value))) l.initial.groups l.groups l.layers.items;
  within : IsWithin l.initial.scope l.scope;
}
