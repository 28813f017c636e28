-- The names in a program (Motoko language manual, "Programs", "Imports", "Actors").
use Rattle.std.specs.Prelude.{List, [], ◌∷◌, ◌++◌, Option, Some, None, map, not, is_none}
use Rattle.std.specs.List.{flat_map}
use Rattle.mo_syntax.specs.declared.name.Name.{Name}
use Rattle.mo_syntax.specs.declared.program.Tree.{Tree}
use Rattle.mo_syntax.specs.declared.program.Import as written
use Rattle.mo_syntax.specs.declared.program.Actor.{Actor}
use Rattle.mo_syntax.specs.declared.program.ActorField.{ActorField}
use Rattle.mo_syntax.specs.declared.program.ActorField.TheVariants as field
use Rattle.mo_syntax.specs.declared.program.SharedFunction.{SharedFunction}
use Rattle.mo_syntax.specs.declared.program.SharedPrefix.{SharedPrefix}
use Rattle.mo_syntax.specs.declared.program.Context.{Context}
use Rattle.mo_syntax.specs.declared.program.Context.TheVariants as context
use Rattle.mo_name_table.specs.Places.{texts}
use Rattle.mo_scopes.specs.declared.finding.Finding.{Finding}
use Rattle.mo_scopes.specs.declared.finding.Finding.TheVariants as finding
use Rattle.mo_scopes.specs.declared.rule.Rule.TheVariants as rule
use Rattle.mo_scopes.specs.declared.rule.Breach.{Breach}
use Rattle.mo_scopes.specs.declared.meaning.Meaning.{Meaning}
use Rattle.mo_scopes.specs.declared.scope.Scope.{Scope}
use Rattle.mo_scopes.specs.Findings.{Names, InScope, contains, broken_where, identifier, label, together, labels, each_identifier, nothing}
use Rattle.mo_scopes.specs.Scopes.{library_of, system_functions, with_values}
use Rattle.mo_pattern_names.specs.PatternNames.{Binder, in_pattern, in_pattern_field, bound_names, each_binder, whole}
use Rattle.mo_bindings.specs.ExpressionNames.{annotation, function, in_expression, in_declaration}

-- ---- imports

-- A path that names no module is a fault at the path.
abbrev pub in_import : written.Import → List Finding
in_import x = identifier x.name ++ broken_where (is_none (library_of x.path.bytes)) rule.Unknown x.path.place

-- ---- fields of the actor

abbrev pub in_context : Option Context → Binder
in_context None = record { names = []; finds = nothing }
in_context (Some (context.Parenthesized p)) = in_pattern p
in_context (Some (context.Object fields last)) = record { names = bound_names (map in_pattern_field fields); finds = each_binder (map in_pattern_field fields) }

abbrev pub in_prefix : Option SharedPrefix → Binder
in_prefix None = record { names = []; finds = nothing }
in_prefix (Some x) = in_context x.context

abbrev pub shared_function : SharedFunction → InScope
shared_function x s = whole (in_prefix x.prefix) s
    ++ (label x.name ++ function None x.parameters (Some x.result) (in_expression x.body).finds (with_values (in_prefix x.prefix).names s))

abbrev pub in_actor_field : Scope → ActorField → List Finding
in_actor_field s (field.Public x) = shared_function x s
in_actor_field s (field.System x equal_sign body) = identifier x ++ (broken_where (not (contains system_functions x.bytes)) rule.Unknown x.place ++ (in_expression body).finds s)
in_actor_field s (field.Declared private x) = (in_declaration x).finds s
in_actor_field s (field.Stable private x kind a) = label x ++ (annotation kind s ++ (in_expression a).finds s)

-- the values and types that a field binds. A system function binds none.
abbrev pub field_values : ActorField → Names
field_values (field.Public x) = x.name ∷ []
field_values (field.System x equal_sign body) = []
field_values (field.Declared private x) = (in_declaration x).values
field_values (field.Stable private x kind a) = x ∷ []

abbrev pub field_types : ActorField → Names
field_types (field.Public x) = []
field_types (field.System x equal_sign body) = []
field_types (field.Declared private x) = (in_declaration x).types
field_types (field.Stable private x kind a) = []

abbrev pub field_methods : ActorField → Names
field_methods (field.Public x) = x.name ∷ []
field_methods (field.System x equal_sign body) = []
field_methods (field.Declared private x) = []
field_methods (field.Stable private x kind a) = []

abbrev pub field_systems : ActorField → Names
field_systems (field.Public x) = []
field_systems (field.System x equal_sign body) = x ∷ []
field_systems (field.Declared private x) = []
field_systems (field.Stable private x kind a) = []

abbrev pub field_stables : ActorField → Names
field_stables (field.Public x) = []
field_stables (field.System x equal_sign body) = []
field_stables (field.Declared private x) = []
field_stables (field.Stable private x kind a) = x ∷ []

abbrev pub actor_names : List ActorField → List Finding
actor_names fields = together (flat_map field_values fields) ++ (together (flat_map field_types fields)
    ++ (together (flat_map field_systems fields) ++ (labels (flat_map field_methods fields) ++ labels (flat_map field_stables fields))))

-- ---- the program

abbrev pub name_of : Option Name → Names
name_of None = []
name_of (Some x) = x ∷ []

abbrev pub import_names : List written.Import → Names
import_names imports = map (λ x. x.name) imports

abbrev pub program_scope : List written.Import → Actor → Scope
program_scope imports actor = record { values = texts (name_of actor.name ++ flat_map field_values actor.fields); imports = texts (import_names imports); libraries = map (λ x. library_of x.path.bytes) imports; types = texts (flat_map field_types actor.fields); loops = [] }

unfoldable pub in_actor : List written.Import → Actor → List Finding
in_actor imports actor = actor_names actor.fields ++ flat_map (in_actor_field (program_scope imports actor)) actor.fields

-- what is found in the program
abbrev pub findings : Tree → List Finding
findings tree = flat_map in_import tree.imports ++ (together (import_names tree.imports ++ name_of tree.actor.name)
    ++ (each_identifier (name_of tree.actor.name) ++ in_actor tree.imports tree.actor))

-- what each use of a name means, in the order of the source
abbrev pub meaning_in : Finding → List Meaning
meaning_in (finding.Meaning meaning) = meaning ∷ []
meaning_in (finding.Breach breach) = []

abbrev pub meanings : List Finding → List Meaning
meanings found = flat_map meaning_in found

-- the rules that are broken
abbrev pub breach_in : Finding → List Breach
breach_in (finding.Meaning meaning) = []
breach_in (finding.Breach breach) = breach ∷ []

abbrev pub breaches : List Finding → List Breach
breaches found = flat_map breach_in found
