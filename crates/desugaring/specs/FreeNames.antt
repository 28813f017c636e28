-- The names of values that occur in a part of a program and are not bound in it (Motoko language manual, section "Identifiers"), and what declarations
-- define and use.
use Rattle.std.specs.Prelude.{not, List, [], ◌∷◌, ◌++◌, Option, Some, None, filter}
use Rattle.std.specs.List.{list_any}
use Rattle.std.specs.Str.{bytes_eq}
use Rattle.typed_tree.specs.Placing.{Declared}
use Rattle.typing_rules.specs.AbstractSyntax.{Bytes, Pattern, Patterns, PatternFields, Expression, Expressions, Cases, ObjectFields, Declaration, Declarations}
use Rattle.typing_rules.specs.AbstractSyntax as p

abbrev pub without : List Bytes → List Bytes → List Bytes
without bound names = filter (λ x. not (list_any (λ y. bytes_eq x y) bound)) names

abbrev mutual
  -- the names of a pattern, as they are written
  pub names_in : {N : Type 0} → Pattern N → List Bytes
  names_in (p.pattern n (p.Annotated q a)) = names_in q
  names_in (p.pattern n (p.Alternative q r)) = []
  names_in (p.pattern n (p.Optional q)) = names_in q
  names_in (p.pattern n (p.Tag x)) = []
  names_in (p.pattern n (p.Tagged x q)) = names_in q
  names_in (p.pattern n (p.Variable x)) = x ∷ []
  names_in (p.pattern n p.Wildcard) = []
  names_in (p.pattern n (p.Constant minus l)) = []
  names_in (p.pattern n (p.Tuple items)) = names_in_each items
  names_in (p.pattern n (p.Object fields)) = names_in_fields fields

  pub names_in_each : {N : Type 0} → Patterns N → List Bytes
  names_in_each p.Nil = []
  names_in_each (p.Cons q rest) = names_in q ++ names_in_each rest

  pub names_in_fields : {N : Type 0} → PatternFields N → List Bytes
  names_in_fields p.NoFields = []
  names_in_fields (p.Field x q rest) = names_in q ++ names_in_fields rest

-- the names of values that a list defines
abbrev pub names_of : {N : Type 0} → Declaration N → List Bytes
names_of (p.Let q a) = names_in q
names_of (p.Var stable x t a) = x.bytes ∷ []
names_of (p.Func x g body) = x.bytes ∷ []
names_of (p.Method query context x g body) = x.bytes ∷ []
names_of (p.System x body) = []
names_of (p.TypeAlias x parameters t) = []
names_of (p.Class x g fields) = x.bytes ∷ []
names_of (p.NamedObject x fields) = x.bytes ∷ []
names_of (p.Evaluate a) = []

abbrev pub names_of_list : {N : Type 0} → Declarations N → List Bytes
names_of_list p.End = []
names_of_list (p.Then public n d rest) = names_of d ++ names_of_list rest

-- the fields that a public declaration of an object gives it
abbrev pub field_names : {N : Type 0} → Declaration N → List Bytes
field_names (p.Let q a) = names_in q
field_names (p.Var stable x t a) = x.bytes ∷ []
field_names (p.Func x g body) = x.bytes ∷ []
field_names (p.Class x g fields) = x.bytes ∷ []
field_names _ = []

abbrev mutual
  pub occurring : {N : Type 0} → Expression N → List Bytes
  occurring (p.exp n (p.Constant l)) = []
  occurring (p.exp n (p.Name x)) = x ∷ []
  occurring (p.exp n (p.Tuple items)) = in_each items
  occurring (p.exp n (p.Optional a)) = occurring a
  occurring (p.exp n (p.Tag x)) = []
  occurring (p.exp n (p.Tagged x a)) = occurring a
  occurring (p.exp n (p.Array mutable items)) = in_each items
  occurring (p.exp n (p.Object fields)) = in_fields fields
  occurring (p.exp n (p.Member a x)) = occurring a
  occurring (p.exp n (p.Projection a i)) = occurring a
  occurring (p.exp n (p.Index a i)) = occurring a ++ occurring i
  occurring (p.exp n (p.Annotated a t)) = occurring a
  occurring (p.exp n (p.Negative a)) = occurring a
  occurring (p.exp n (p.Binary o a b)) = occurring a ++ occurring b
  occurring (p.exp n (p.Not a)) = occurring a
  occurring (p.exp n (p.Assign q a)) = occurring q ++ occurring a
  occurring (p.exp n (p.AssignBy o q a)) = occurring q ++ occurring a
  occurring (p.exp n (p.Call f types arguments)) = occurring f ++ in_each arguments
  occurring (p.exp n (p.When c a)) = occurring c ++ occurring a
  occurring (p.exp n (p.If c a b)) = occurring c ++ occurring a ++ occurring b
  occurring (p.exp n (p.Switch a cases)) = occurring a ++ in_cases cases
  occurring (p.exp n (p.Try a q b)) = occurring a ++ without (names_in q) (occurring b)
  occurring (p.exp n (p.While c a)) = occurring c ++ occurring a
  occurring (p.exp n (p.Loop a)) = occurring a
  occurring (p.exp n (p.LoopWhile a c)) = occurring a ++ occurring c
  occurring (p.exp n (p.For q a b)) = occurring a ++ without (names_in q) (occurring b)
  occurring (p.exp n (p.Label x t a)) = occurring a
  occurring (p.exp n (p.Break x)) = []
  occurring (p.exp n (p.BreakWith x a)) = occurring a
  occurring (p.exp n (p.Continue x)) = []
  occurring (p.exp n p.Return) = []
  occurring (p.exp n (p.ReturnWith a)) = occurring a
  occurring (p.exp n (p.Throw a)) = occurring a
  occurring (p.exp n (p.Do a)) = occurring a
  occurring (p.exp n (p.DoOption a)) = occurring a
  occurring (p.exp n (p.Bang a)) = occurring a
  occurring (p.exp n (p.Block ds)) = without (names_of_list ds) (in_declarations ds)
  occurring (p.exp n (p.Function g body)) = without (names_in_each g.parameters) (occurring body)
  occurring (p.exp n (p.ObjectBlock fields)) = without (names_of_list fields) (in_declarations fields)
  occurring (p.exp n (p.Assert a)) = occurring a
  occurring (p.exp n (p.Ignore a)) = occurring a
  occurring (p.exp n (p.Debug a)) = occurring a
  occurring (p.exp n (p.ActorReference x)) = []
  occurring (p.exp n (p.Await a)) = occurring a
  occurring (p.exp n (p.BuiltIn m)) = []
  occurring (p.exp n (p.Subsumed a)) = occurring a

  pub in_each : {N : Type 0} → Expressions N → List Bytes
  in_each p.Nil = []
  in_each (p.Cons a rest) = occurring a ++ in_each rest

  pub in_cases : {N : Type 0} → Cases N → List Bytes
  in_cases p.NoCases = []
  in_cases (p.Case q a rest) = without (names_in q) (occurring a) ++ in_cases rest

  pub in_fields : {N : Type 0} → ObjectFields N → List Bytes
  in_fields p.NoFields = []
  in_fields (p.Field mutable x t a rest) = occurring a ++ in_fields rest

  -- of a list, with the names that it defines itself
  pub in_declarations : {N : Type 0} → Declarations N → List Bytes
  in_declarations p.End = []
  in_declarations (p.Then public n d rest) = in_declaration d ++ in_declarations rest

  -- A public function of the actor uses nothing.
  pub in_declaration : {N : Type 0} → Declaration N → List Bytes
  in_declaration (p.Let q a) = occurring a
  in_declaration (p.Var stable x t a) = occurring a
  in_declaration (p.Func x g body) = without (names_in_each g.parameters) (occurring body)
  in_declaration (p.Method query context x g body) = []
  in_declaration (p.System x body) = []
  in_declaration (p.TypeAlias x parameters t) = []
  in_declaration (p.Class x g fields) = without (names_in_each g.parameters) (without (names_of_list fields) (in_declarations fields))
  in_declaration (p.NamedObject x fields) = without (names_of_list fields) (in_declarations fields)
  in_declaration (p.Evaluate a) = occurring a

abbrev pub function_name : {N : Type 0} → Declaration N → Option Bytes
function_name (p.Func x g body) = Some x.bytes
function_name (p.Class x g fields) = Some x.bytes
function_name _ = None

abbrev pub defined_by : {N : Type 0} → Declaration N → List Bytes
defined_by (p.Let q a) = names_in q
defined_by (p.Var stable x t a) = x.bytes ∷ []
defined_by (p.NamedObject x fields) = x.bytes ∷ []
defined_by _ = []

-- a declaration as it is placed in the order of evaluation
abbrev pub declared : {N : Type 0} → Declaration N → Declared
declared d = record { defines = defined_by d; function = function_name d; occurs = in_declaration d }
