-- What of an actor declarations are, however the notes are seen.
use Rattle.std.specs.Prelude.{Bool, true, false, List, Option, map, option_map}
use Rattle.typing_rules.specs.AbstractSyntax.{Bytes, Declarations, Expression, Pattern, Signature}
use Rattle.typing_rules.specs.AbstractSyntax as p
use Rattle.typing_rules.specs.TypedTrees.{Note}
use Rattle.abstract_tree.specs.declared.declarations.Declaration.{Declaration}
use Rattle.abstract_tree.specs.TreeView.{declaration, declaration_form, declarations, expression}
use Rattle.abstract_types.specs.PatternView.{pattern, signature}
use Rattle.value_scopes.specs.declared.note.Note as value_note
use Rattle.judged_parts.specs.Parts.{See}
use Rattle.kernel_roles.specs.declared.roles.Role as value
use Rattle.kernel_roles.specs.declared.roles.Role.TheVariants as v

pub data Role : Type 0 where
  Method : (query : Bool) → (context : Option (Pattern Note)) → (x : Bytes) → (g : Signature Note) → (body : Expression Note) → Role
  System : (x : Bytes) → (body : Expression Note) → Role
  Stable : (x : Bytes) → Role
  Function : Role
  Other : Role

abbrev pub variable_role : Bool → Bytes → Role
variable_role false x = Other
variable_role true x = Stable x

abbrev pub role_of : p.Declaration Note → Role
role_of (p.Let q a) = Other
role_of (p.Var stable x u a) = variable_role stable x.bytes
role_of (p.Func x g body) = Function
role_of (p.Method query context x g body) = Method query context x.bytes g body
role_of (p.System x body) = System x.bytes body
role_of (p.TypeAlias x parameters u) = Other
role_of (p.Class x g fields) = Function
role_of (p.NamedObject x fields) = Other
role_of (p.Evaluate a) = Other

module _ (see : See) where
  abbrev pub seen_role : value.Role → Role
  seen_role (v.Method query context x g body) = Method query (option_map (pattern see) context.now) x.now (signature see g.now) (expression see body.now)
  seen_role (v.System x body) = System x.now (expression see body.now)
  seen_role (v.Stable x) = Stable x.now
  seen_role v.Function = Function
  seen_role v.Other = Other

  abbrev pub role_in : Declaration value_note.Note → Role
  role_in d = role_of (declaration_form see d.form)

  abbrev pub list_seen : List (Declaration value_note.Note) → Declarations Note
  list_seen ds = declarations (map (declaration see) ds)
