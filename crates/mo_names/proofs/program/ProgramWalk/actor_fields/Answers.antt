use Rattle.std.proofs.Common.{◌≡◌, ◌++◌, subst, List, OnOk}
use Rattle.std.specs.List.{flat_map}
use Rattle.mo_syntax.specs.declared.program.ActorField.{ActorField}
use Rattle.mo_scopes.specs.declared.scope.Scope.{Scope}
use Rattle.mo_names.specs.ProgramNames.{in_actor_field}
use Rattle.mo_names.proofs.program.ProgramWalk.actor_fields.Goals as goal

pub returns : goal.returns
returns c =
    subst (λ (s : Scope). OnOk c.each_actor_field.result (c.each_actor_field.new.found ≡ c.args.found.now ++ flat_map (in_actor_field s) c.args.actor.now.fields)) c.in_ok-scope.ensures
    (subst (λ (f : List ActorField). OnOk c.each_actor_field.result (c.each_actor_field.new.found ≡ c.args.found.now ++ flat_map (in_actor_field c.in_ok-scope.scope) f)) c.as_slice.ensures c.each_actor_field.ensures)
