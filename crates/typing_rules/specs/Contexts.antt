-- What is known where an expression stands: the names in scope and their types, and what may be left or ended there.
use Rattle.std.specs.Prelude.{ℕ, Bool, true, false, List, [], ◌∷◌, ◌++◌, Option, Some, None}
use Rattle.std.specs.Option.{option_and_then}
use Rattle.mo_scopes.specs.declared.library.Library.{Library}
use Rattle.mo_scopes.specs.declared.library.Member.{Member}
use Rattle.mo_scopes.specs.Scopes.{named, library_of, members_of}
use Rattle.typing_rules.specs.AbstractSyntax.{Bytes}
use Rattle.typing_rules.specs.Terms.{Term}
use Rattle.typing_rules.specs.TypeScopes.{TypeScope}
use Rattle.typing_rules.specs.AsyncPlaces.{Body, Around, Labelled, Other}

-- what a name stands for: its type, whether it may be assigned to, and the type parameters of a function that has such
pub record Bound : Type 0 where
  pub type : Term
  pub mutable : Bool
  pub generics : List ℕ

abbrev pub constant : Term → Bound
constant u = record { type = u; mutable = false; generics = [] }

abbrev pub variable : Term → Bound
variable u = record { type = u; mutable = true; generics = [] }

abbrev pub generic : List ℕ → Term → Bound
generic xs u = record { type = u; mutable = false; generics = xs }

-- the innermost first
abbrev pub Scope : Type 0
Scope = List (Bytes × Bound)

-- a label: the type of what leaves it, and whether this is in the body of a loop that stands directly under it
pub record Label : Type 0 where
  pub type : Term
  pub loop : Bool

pub record Context : Type 0 where
  pub values : Scope
  -- the names of imports with their paths
  pub imports : List (Bytes × Bytes)
  pub types : TypeScope
  pub labels : List (Bytes × Label)
  -- the result of the function in whose body this stands
  pub returns : Option Term
  -- whether `!` has a `do ?` to end
  pub ends : Bool
  -- the body in which this stands, and what stands directly around it
  pub body : Body
  pub around : Around

abbrev pub with_values : Scope → Context → Context
with_values names e = record e { values = names ++ e.values }

abbrev pub with_label : Bytes → Label → Context → Context
with_label x l e = record e { labels = (x, l) ∷ e.labels }

abbrev pub first_loops : List (Bytes × Label) → List (Bytes × Label)
first_loops [] = []
first_loops (q ∷ qs) = (q.0, record { type = q.1.type; loop = true }) ∷ qs

-- in the body of a loop with this directly around it
abbrev pub in_loop : Around → Context → Context
in_loop Labelled e = record e { labels = first_loops e.labels }
in_loop _ e = e

abbrev pub with_types : TypeScope → Context → Context
with_types s e = record e { types = s }

abbrev pub in_option : Context → Context
in_option e = record e { ends = true }

-- The body of a function, or of a class, which has no result to return. Neither labels nor `do ?` around it are seen in it.
abbrev pub in_body : Body → Option Term → Scope → Context → Context
in_body b r names e = record e { values = names ++ e.values; labels = []; returns = r; ends = false; body = b; around = Other }

-- with this directly around it
abbrev pub directly : Around → Context → Context
directly o e = record e { around = o }

-- ---- names

abbrev pub value_named : Context → Bytes → Option Bound
value_named e x = named e.values x

abbrev pub module_named : Context → Bytes → Option Library
module_named e m = option_and_then library_of (named e.imports m)

-- `m.x`, where m is no value but a module
abbrev pub module_member : Context → Bytes → Bytes → Option Member
module_member e m x = unless_value (value_named e m)
  where
    unless_value : Option Bound → Option Member
    unless_value (Some b) = None
    unless_value None = option_and_then (λ l. named (members_of l) x) (module_named e m)
