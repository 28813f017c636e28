use Rattle.std.proofs.Common.{◌≡◌, ◌++◌, List, ℕ, suc, drop, length, map}
use Rattle.typed_tree.specs.Language.{Group}
use Rattle.typed_tree.specs.ProgramView.{functions_of, parts, program}
use Rattle.typed_tree.specs.View.{block, declaration, group}
use Rattle.elaboration.specs.Checks.{locals}
use Rattle.elaboration.specs.Programs.{elaborate_actor, kept_places, own_from, start_scope}
use Rattle.mo_elab.specs.Spine.{Opens}
use Rattle.mo_elab.proofs.actor.actor_of.Given as goal

abbrev pub invariant-loop-step : goal.invariant-loop-step
invariant-loop-step l = record {
  opens : Opens (elaborate_actor (length l.program.methods) (length l.program.stable) (start_scope (length l.program.methods) (length l.program.stable)) 0 (program l.program).body)
      (elaborate_actor (length l.program.methods) (length l.program.stable) l.scope (length l.groups) (block (map declaration (drop l.step-index l.step-items)) (Group (group (functions_of l.program)) (parts l.program)))) l.groups l.layers.items;
  places : (bs : List ℕ) × (l.scope.places ≡ locals bs ++ (own_from 0 (suc (length l.program.methods)) ++ kept_places (length l.program.stable)));
}
