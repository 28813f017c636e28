-- The names that were found in a part, where these are bound around it.
use Rattle.std.specs.Prelude.{◌≡◌, ◌++◌, List}
use Rattle.typing_rules.specs.AbstractSyntax.{Bytes}
use Rattle.typed_tree.specs.Placing.{is_among}
use Rattle.desugaring.specs.FreeNames.{without}

-- the same names are among both
abbrev pub HasSame : List Bytes → List Bytes → Type 0
HasSame xs ys = (x : Bytes) → is_among x xs ≡ is_among x ys

-- Of these names those that are not bound were found, and the same are bound as before.
pub record Found (occurring outer old outer_after new : List Bytes) : Type 0 where
  pub bound : outer_after ≡ outer
  pub names : new ≡ old ++ without outer occurring
