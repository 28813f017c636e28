-- Scopes with more names.
use Rattle.std.specs.Prelude.{◌≡◌, List, ◌++◌}
use Rattle.typing_rules.specs.AbstractSyntax.{Bytes}
use Rattle.type_scopes.specs.declared.scope.Declared.{Declared}
use Rattle.type_scopes.specs.Scopes.{Names}

-- The one scope is the other with more names, innermost.
pub record Extends (old new : Names) : Type 0 where
  pub names : (xs : List Bytes) × (new.names ≡ old.names ++ xs)
  pub declared : (ds : List Declared) × (new.declared ≡ old.declared ++ ds)
