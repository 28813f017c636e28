-- Callees that are functions with type parameters, in each later table.
use Rattle.std.specs.Prelude.{◌≡◌, ℕ, List, Option, IfSome, option_map}
use Rattle.std.specs.Option.{option_and_then}
use Rattle.type_terms.specs.declared.form.Form.{Form}
use Rattle.typing_rules.specs.AbstractSyntax.{Bytes, Expression}
use Rattle.typing_rules.specs.AbstractSyntax as p
use Rattle.typing_rules.specs.Calls.{built_in, if_generic, polymorphic}
use Rattle.typing_rules.specs.Contexts as rule
use Rattle.typing_rules.specs.Contexts.{value_named}
use Rattle.typing_rules.specs.Members.{member_bound}
use Rattle.typing_rules.specs.Terms.{Term}
use Rattle.typing_rules.specs.TypedTrees.{Note}
use Rattle.type_definitions.specs.Tables.{Later, Within}
use Rattle.met_types.specs.States.{State, Goes, Kept, Stands}
use Rattle.abstract_tree.specs.declared.expressions.ExpressionForm.{ExpressionForm}
use Rattle.value_scopes.specs.declared.note.Note as value_note
use Rattle.value_scopes.specs.declared.place.Place.{Place}
use Rattle.value_scopes.specs.declared.scopes.Scopes.{Scopes}
use Rattle.value_scopes.specs.Places.{context_in}
use Rattle.value_scopes.specs.Values.{bound_in}
use Rattle.judging.specs.Views.{form_in}
use Rattle.instance_rules.specs.declared.callees.Generic.{Generic}

-- what a callee is, in a table and at a place
abbrev pub Sought : Type 0
Sought = List Form → Place → Option (rule.Bound × p.Form Note)

abbrev pub of_callee : Scopes → Expression ℕ → Sought
of_callee c f later place = polymorphic (context_in later c place) f

abbrev pub of_name : Scopes → Bytes → Sought
of_name c x later place = option_and_then (λ b. if_generic b (p.Name x)) (value_named (context_in later c place) x)

abbrev pub of_member : Scopes → Expression ℕ → Bytes → Sought
of_member c a x later place = option_and_then (λ m. if_generic (member_bound m) (p.BuiltIn m)) (built_in (context_in later c place) a x)

-- the form of a name, as it is seen in each table
abbrev pub IsNamed : Bytes → ExpressionForm value_note.Note → Type 0
IsNamed x form = (later : List Form) → form_in form later ≡ p.Name x

abbrev pub generic_in : List Form → Generic → rule.Bound × p.Form Note
generic_in later g = (bound_in later g.bound, form_in g.form later)

-- It was found, if it is one. Terms may have been added to the table.
pub record FindsGeneric (old : State) (sought : Sought) (o : Option Generic) (new : State) : Type 0 where
  pub kept : Kept new
  pub goes : Goes old new
  pub stands : (met : List Term) → Stands met old → Stands met new
  pub within : IfSome o (λ g. Within new.forms g.bound.kind)
  pub is : (later : List Form) → Later new.forms later → (place : Place) → sought later place ≡ option_map (generic_in later) o
