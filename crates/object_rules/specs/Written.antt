-- A field with its name and the type that is written, once more.
use Rattle.std.specs.Prelude.{◌≡◌, ℕ}
use Rattle.abstract_types.specs.TypeView.{annotation}
use Rattle.abstract_tree.specs.declared.expressions.Expression.{Expression}
use Rattle.abstract_tree.specs.declared.expressions.ObjectField.{ObjectField}
use Rattle.value_scopes.specs.declared.note.Note.{Note}

-- this field has what is written of that one, and this value
pub record IsWritten (x : ObjectField ℕ) (a : Expression Note) (made : ObjectField Note) : Type 0 where
  pub mutable : made.mutable ≡ x.mutable
  pub name : made.name ≡ x.name
  pub annotation : annotation made.annotation ≡ annotation x.annotation
  pub value : made.value ≡ a
