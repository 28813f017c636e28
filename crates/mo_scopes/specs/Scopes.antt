-- What names mean (Motoko language manual, "Identifiers", "Imports", "Types"). Values, types and labels of loops are separate name spaces.
use Rattle.std.specs.Prelude.{ℕ, List, [], ◌∷◌, ◌++◌, codes, Option, Some, None, option_map, slice_index_or}
use Rattle.std.specs.Option.{option_or, option_and_then}
use Rattle.std.specs.Str.{bytes_eq}
use Rattle.std.specs.Map.{lookup}
use Rattle.mo_syntax.specs.declared.name.Name.{Name}
use Rattle.mo_name_table.specs.Places.{last_place, texts}
use Rattle.mo_scopes.specs.declared.scope.Scope.{Scope}
use Rattle.mo_scopes.specs.declared.library.Library.{Library}
use Rattle.mo_scopes.specs.declared.library.Library.TheVariants as library
use Rattle.mo_scopes.specs.declared.library.Member.{Member}
use Rattle.mo_scopes.specs.declared.library.Member.TheVariants as member
use Rattle.mo_scopes.specs.declared.library.BuiltInType.{BuiltInType}
use Rattle.mo_scopes.specs.declared.library.BuiltInType.TheVariants as built_in
use Rattle.mo_scopes.specs.declared.meaning.Meaning.{Meaning}
use Rattle.mo_scopes.specs.declared.meaning.Meaning.TheVariants as meaning

-- what a table has under a name
abbrev pub named : {A : Type 0} → List (List ℕ × A) → List ℕ → Option A
named table x = lookup (λ y. bytes_eq x y) table

-- the types that need no declaration
abbrev pub built_in_types : List (List ℕ × BuiltInType)
built_in_types =
    (codes "Nat", built_in.Nat) ∷ (codes "Int", built_in.Int) ∷ (codes "Nat8", built_in.Nat8) ∷ (codes "Nat16", built_in.Nat16) ∷ (codes "Nat32", built_in.Nat32)
    ∷ (codes "Nat64", built_in.Nat64) ∷ (codes "Int8", built_in.Int8) ∷ (codes "Int16", built_in.Int16) ∷ (codes "Int32", built_in.Int32) ∷ (codes "Int64", built_in.Int64)
    ∷ (codes "Bool", built_in.Bool) ∷ (codes "Char", built_in.Char) ∷ (codes "Text", built_in.Text) ∷ (codes "Blob", built_in.Blob) ∷ (codes "Principal", built_in.Principal)
    ∷ (codes "Null", built_in.Null) ∷ (codes "Any", built_in.Any) ∷ (codes "None", built_in.None) ∷ (codes "Error", built_in.Error) ∷ []

-- the modules by their paths
abbrev pub modules : List (List ℕ × Library)
modules =
    (codes "mo:base/Debug", library.Debug) ∷ (codes "mo:base/Error", library.Error) ∷ (codes "mo:base/Nat", library.Nat)
    ∷ (codes "mo:base/Int", library.Int) ∷ (codes "mo:base/Array", library.Array) ∷ (codes "mo:base/Principal", library.Principal) ∷ []

-- the module that a path names
abbrev pub library_of : List ℕ → Option Library
library_of path = named modules path

-- the members of a module
abbrev pub members_of : Library → List (List ℕ × Member)
members_of library.Debug = (codes "print", member.DebugPrint) ∷ (codes "trap", member.DebugTrap) ∷ []
members_of library.Error = (codes "reject", member.ErrorReject) ∷ (codes "message", member.ErrorMessage) ∷ (codes "code", member.ErrorCode) ∷ []
members_of library.Nat = (codes "toText", member.NatToText) ∷ []
members_of library.Int = (codes "toText", member.IntToText) ∷ []
members_of library.Array =
    (codes "tabulate", member.ArrayTabulate) ∷ (codes "init", member.ArrayInit) ∷ (codes "freeze", member.ArrayFreeze) ∷ (codes "thaw", member.ArrayThaw) ∷ []
members_of library.Principal = (codes "fromActor", member.PrincipalFromActor) ∷ []

-- what a system function may be called
abbrev pub system_functions : List (List ℕ)
system_functions = codes "preupgrade" ∷ codes "postupgrade" ∷ []

-- ---- what names mean in a scope

-- the innermost value of the name
abbrev pub value_meaning : Scope → List ℕ → Option Meaning
value_meaning s x = option_map meaning.Value (last_place s.values x)

-- the module that the last import of the name brings in
abbrev pub module_of : Scope → List ℕ → Option Library
module_of s m = option_and_then (λ i. slice_index_or s.libraries i None) (last_place s.imports m)

-- `m.x`, where m is a value, or a module that has x. A value hides a module of its name.
abbrev pub member_meaning : Scope → List ℕ → List ℕ → Option Meaning
member_meaning s m x = option_or (value_meaning s m) (option_map meaning.Member (option_and_then (λ l. named (members_of l) x) (module_of s m)))

-- where `m.x` is at fault: at x, if m is a module, which then has no x, and else at m
abbrev pub fault_in : Option Library → Name → Name → Name
fault_in None m x = m
fault_in (Some l) m x = x

abbrev pub member_fault : Scope → Name → Name → Name
member_fault s m x = fault_in (module_of s m.bytes) m x

-- the innermost declared type of the name, or else the built-in one
abbrev pub type_meaning : Scope → List ℕ → Option Meaning
type_meaning s x = option_or (option_map meaning.Type (last_place s.types x)) (option_map meaning.BuiltIn (named built_in_types x))

-- the innermost loop of the name
abbrev pub loop_meaning : Scope → List ℕ → Option Meaning
loop_meaning s x = option_map meaning.Loop (last_place s.loops x)

-- ---- larger scopes

abbrev pub with_values : List Name → Scope → Scope
with_values names s = record s { values = s.values ++ texts names }

abbrev pub with_types : List Name → Scope → Scope
with_types names s = record s { types = s.types ++ texts names }

abbrev pub with_loop : List ℕ → Scope → Scope
with_loop x s = record s { loops = s.loops ++ x ∷ [] }

-- The loops around a function have no meaning in it.
abbrev pub without_loops : Scope → Scope
without_loops s = record s { loops = [] }
