-- Objects with declarations, by the definitions and the names in scope.
use Rattle.std.specs.Prelude.{ℕ, false, List, None}
use Rattle.typing_rules.specs.DeclaredTypes.{member_fields, with_list}
use Rattle.typing_rules.specs.Judgements.{Gives, Judgement, Part}
use Rattle.typing_rules.specs.PublicFields.{PublicFields}
use Rattle.typing_rules.specs.Terms.{Term}
use Rattle.typing_rules.specs.Terms as t
use Rattle.typing_rules.specs.TypedTrees.{Note}
use Rattle.typing_rules.specs.AbstractSyntax.{Declarations}
use Rattle.type_definitions.specs.Tables.{Within}
use Rattle.met_types.specs.States.{State}
use Rattle.type_scopes.specs.Scopes.{seen}
use Rattle.abstract_tree.specs.declared.declarations.Declaration as value
use Rattle.value_scopes.specs.declared.place.Place.{Place}
use Rattle.value_scopes.specs.declared.scopes.Scopes.{Scopes}
use Rattle.judging.specs.Views.{View, context, definitions}
use Rattle.list_judging.specs.declared.part.MadeList.{MadeList}
use Rattle.list_judging.specs.Lists.{list_of, seen_list}

-- the type of an object with these fields
abbrev pub object_term : List (value.Declaration ℕ) → Scopes → Term
object_term xs c = t.Object (member_fields (with_list (seen c.types) (seen_list xs)) (seen_list xs))

abbrev pub object_kind : List (value.Declaration ℕ) → View → Judgement Term
object_kind xs v = Gives (object_term xs v.scopes)

-- its fields, with its type
abbrev pub judge_object : Place → ℕ → List (value.Declaration ℕ) → View → Judgement (Term × Declarations Note)
judge_object y at xs v =
    Part (PublicFields (seen_list xs)) (λ _. Part (list_of (definitions v) (context v y) at false (seen_list xs) None) (λ q. Gives (object_term xs v.scopes, q.1)))

-- its type is a term of the table
abbrev pub object_within : State → MadeList → Type 0
object_within s made = Within s.forms made.kind
