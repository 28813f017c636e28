-- Programs written out (Motoko language manual, sections "Actors", "Shared functions", "System functions" and "Stability").
use Rattle.std.specs.Prelude.{ℕ, suc, ◌+◌, Bool, true, false, List, [], ◌∷◌, ◌++◌, map, Option, Some, None, codes, cond}
use Rattle.std.specs.Str.{bytes_eq}
use Rattle.mo_types.specs.declared.node.Sort.{Sort}
use Rattle.mo_types.specs.declared.node.Sort.TheVariants as sort
use Rattle.mo_types.specs.declared.node.TypeId.{TypeId}
use Rattle.mo_types.specs.Graph.{Slot}
use Rattle.mo_types.specs.Values.{copies}
use Rattle.typed_tree.specs.declared.expression.Function.{Function, roll-Function}
use Rattle.typed_tree.specs.declared.pattern.TypedPattern.{TypedPattern}
use Rattle.typed_tree.specs.declared.program.Method.{Method}
use Rattle.typed_tree.specs.declared.program.StableVariable.{StableVariable}
use Rattle.typed_tree.specs.declared.program.Program as typed
use Rattle.typing_rules.specs.AbstractSyntax.{Bytes, Pattern, Signature, Expression, Declaration, Declarations, Program}
use Rattle.typing_rules.specs.AbstractSyntax as p
use Rattle.typing_rules.specs.Terms.{Term, listed}
use Rattle.typing_rules.specs.Terms as t
use Rattle.typing_rules.specs.Definitions.{Definitions, unfolded}
use Rattle.typing_rules.specs.Heads.{results}
use Rattle.typing_rules.specs.Nodes as counts
use Rattle.typing_rules.specs.TypedTrees.{Note}
use Rattle.desugaring.specs.FreeNames.{names_in, names_in_each}
use Rattle.desugaring.specs.Frames.{Entry, Kept, Unnamed, value, hidden_by, Frame, with_entries, in_function, in_method, found}
use Rattle.desugaring.specs.Patterns.{pattern, patterns}
use Rattle.desugaring.specs.Pieces.{Arranged, arranged}
use Rattle.desugaring.specs.Expressions.{tree, pieces}

abbrev pub method_names : Declarations Note → List Bytes
method_names p.End = []
method_names (p.Then public n (p.Method query context x g body) rest) = x.bytes ∷ method_names rest
method_names (p.Then public n _ rest) = method_names rest

abbrev pub stable_names : Declarations Note → List Bytes
stable_names p.End = []
stable_names (p.Then public n (p.Var true x u a) rest) = x.bytes ∷ stable_names rest
stable_names (p.Then public n _ rest) = stable_names rest

-- the actor's own name, which a public function of the name hides
abbrev pub own_entry : List Bytes → Option Bytes → Entry
own_entry methods None = Unnamed
own_entry methods (Some x) = hidden_by methods x

-- around the declarations stand the actor, its public functions, and what was kept of its stable variables
abbrev pub around : Program Note → Frame
around program = record {
  names = own_entry (method_names program.fields) program.name ∷ map value (method_names program.fields) ++ map Kept (stable_names program.fields);
  exits = [];
}

-- how many functions stand behind the declarations
abbrev pub count_behind : Declarations Note → ℕ
count_behind p.End = 0
count_behind (p.Then public n (p.Method query context x g body) rest) = suc (count_behind rest)
count_behind (p.Then public n (p.System x body) rest) = suc (count_behind rest)
count_behind (p.Then public n _ rest) = count_behind rest

-- the nodes of the declarations, without those of parameters and bodies
abbrev pub own_nodes : Declaration Note → ℕ
own_nodes (p.Func x g body) = 0
own_nodes (p.Method query context x g body) = 0
own_nodes (p.System x body) = 0
own_nodes (p.Class x g fields) = 0
own_nodes d = counts.in_declaration d

abbrev pub own_nodes_of : Declarations Note → ℕ
own_nodes_of p.End = 0
own_nodes_of (p.Then public n d rest) = suc (own_nodes d + own_nodes_of rest)

abbrev pub parameters_of : Term → List Term
parameters_of (t.Shared s ps r) = listed ps
parameters_of _ = []

abbrev pub result_term : Term → Term
result_term (t.Shared s ps r) = r
result_term _ = t.unit

abbrev pub method_sort : Bool → Sort
method_sort false = sort.Shared
method_sort true = sort.Query

abbrev pub context_names : Option (Pattern Note) → List Bytes
context_names None = []
context_names (Some q) = names_in q

module _ (defs : Definitions) (number : Term → TypeId) where
  abbrev pub context_pattern : Option (Pattern Note) → Option TypedPattern
  context_pattern None = None
  context_pattern (Some q) = Some (pattern defs number q)

  abbrev pub method_function : Frame → Bool → Option (Pattern Note) → Signature Note → Expression Note → Function
  method_function frame query context g body = roll-Function (record {
    sort = method_sort query;
    type_parameters = [];
    nodes = counts.in_context context + counts.in_patterns g.parameters + counts.in_expression body;
    parameters = patterns defs number g.parameters;
    body = tree defs number (in_method (context_names context) (names_in_each g.parameters) frame) body;
  })

  abbrev pub methods_of : Frame → Declarations Note → List Method
  methods_of frame p.End = []
  methods_of frame (p.Then public n (p.Method query context x g body) rest) =
      record {
        name = x.bytes;
        context = context_pattern context;
        parameters = map number (parameters_of n.type);
        results = map number (results (result_term n.type) (unfolded defs.types (result_term n.type)));
        function = method_function frame query context g body;
      }
      ∷ methods_of frame rest
  methods_of frame (p.Then public n _ rest) = methods_of frame rest

  -- a system function of this name
  abbrev pub system_of : Frame → Bytes → Declarations Note → Option Function
  system_of frame name p.End = None
  system_of frame name (p.Then public n (p.System x body) rest) =
      cond (bytes_eq x.bytes name)
      (Some (roll-Function (record { sort = sort.Local; type_parameters = []; nodes = counts.in_expression body; parameters = []; body = tree defs number (in_function [] frame) body })))
      (system_of frame name rest)
  system_of frame name (p.Then public n _ rest) = system_of frame name rest

  -- each stable variable, with its name behind the declarations
  abbrev pub stable_of : Frame → Declarations Note → List StableVariable
  stable_of frame p.End = []
  stable_of frame (p.Then public n (p.Var true x u a) rest) =
      record { name = x.bytes; of_type = number n.type; cell = (found frame x.bytes).index } ∷ stable_of frame rest
  stable_of frame (p.Then public n _ rest) = stable_of frame rest

  abbrev pub behind : Declarations Note → Frame → Frame
  behind ds frame = with_entries (copies (count_behind ds) Unnamed) frame

  abbrev pub program_of : List Slot → Program Note → Arranged → typed.Program
  program_of types program a = record {
    types = types;
    nodes = own_nodes_of program.fields;
    declarations = a.steps;
    methods = methods_of (behind program.fields a.frame) program.fields;
    before_upgrade = system_of (behind program.fields a.frame) (codes "preupgrade") program.fields;
    after_upgrade = system_of (behind program.fields a.frame) (codes "postupgrade") program.fields;
    stable = stable_of a.frame program.fields;
  }

  -- the typed program that a judged one becomes, over a graph that has its types under these numbers
  abbrev pub desugared : List Slot → Program Note → typed.Program
  desugared types program = program_of types program (arranged false (pieces defs number program.fields) (around program))
