-- The node of a number, and what becomes of the types where it is made.
use Rattle.std.specs.Prelude.{◌≡◌, ℕ, List}
use Rattle.type_terms.specs.declared.form.Form.{Form}
use Rattle.typing_rules.specs.AbstractSyntax as p
use Rattle.typing_rules.specs.Terms.{Term, nat}
use Rattle.typing_rules.specs.TypedTrees.{typed}
use Rattle.type_definitions.specs.Tables.{Later}
use Rattle.met_types.specs.States.{Kept, Goes, Stands}
use Rattle.abstract_tree.specs.declared.expressions.Expression as value
use Rattle.value_scopes.specs.declared.note.Note.{Note}
use Rattle.value_scopes.specs.declared.scopes.Scopes.{Scopes}
use Rattle.judging.specs.declared.checker.Checker.{Checker}
use Rattle.judging.specs.Parts.{Sound}
use Rattle.judging.specs.Views.{typed_in}

-- terms were made, no type was met, and this holds in each later table
pub record Makes (k l : Checker) (P : List Form → Type 0) : Type 0 where
  pub kept : Kept l.types
  pub goes : Goes k.types l.types
  pub stands : (met : List Term) → Stands met k.types → Stands met l.types
  pub sound : (c : Scopes) → Sound k c → Sound l c
  pub is : (later : List Form) → Later l.types.forms later → P later

abbrev pub IsNumberNode : ℕ → ℕ → value.Expression Note → List Form → Type 0
IsNumberNode at n made later = typed_in made later ≡ typed at nat (p.Constant (p.Number n))
