-- The declarations of an actor, down to its end.
use Rattle.std.specs.Prelude.{◌≡◌, List, ◌++◌, map}
use Rattle.core_ir.specs.declared.expression.CoreBody.{CoreBody}
use Rattle.core_ir.specs.declared.expression.Expression.{Expression}
use Rattle.core_ir.specs.View.{core_body, expression}
use Rattle.elaboration.specs.Checks.{fails}
use Rattle.elaboration.specs.Programs.{Actor}
use Rattle.core_layers.specs.declared.layer.Layer.{Layer}
use Rattle.core_layers.specs.Layers.{layered}
use Rattle.core_members.specs.Seen.{seen_groups}
use Rattle.core_parts.specs.Making.{Groups}

-- layers and groups so far, before what the rest makes, are the whole
pub record Opens (whole rest : Actor) (now : Groups) (layers : List Layer) : Type 0 where
  pub start : layered layers fails rest.start ≡ whole.start
  pub groups : seen_groups now ++ rest.groups ≡ whole.groups
  pub methods : rest.methods ≡ whole.methods
  pub save : rest.save ≡ whole.save

-- what is made is this actor
pub record IsActor (a : Actor) (made : Expression) (added : Groups) (bodies : List CoreBody) (last : CoreBody) : Type 0 where
  pub start : expression made ≡ a.start
  pub groups : seen_groups added ≡ a.groups
  pub methods : map core_body bodies ≡ a.methods
  pub save : core_body last ≡ a.save
