-- Public functions and system functions, with the types as they are in the table and in the graph.
use Rattle.std.specs.Prelude.{ℕ, ◌+◌, List, [], ◌∷◌, Bool, Option, Some, None, map, option_map, cond}
use Rattle.std.specs.Str.{bytes_eq}
use Rattle.mo_types.specs.declared.node.Sort.TheVariants as sort
use Rattle.typed_tree.specs.declared.expression.Function.{Function, roll-Function}
use Rattle.typed_tree.specs.declared.expression.TypedExpression.{TypedExpression}
use Rattle.typed_tree.specs.declared.pattern.TypedPattern.{TypedPattern}
use Rattle.typed_tree.specs.declared.program.Method as typed
use Rattle.typing_rules.specs.AbstractSyntax.{Bytes}
use Rattle.typing_rules.specs.AbstractSyntax as p
use Rattle.typing_rules.specs.Definitions.{unfolded}
use Rattle.typing_rules.specs.Heads.{results}
use Rattle.typing_rules.specs.Nodes as counts
use Rattle.typing_rules.specs.Terms.{Term}
use Rattle.typing_rules.specs.TypedTrees as trees
use Rattle.type_terms.specs.declared.form.TermId.{TermId}
use Rattle.abstract_tree.specs.declared.expressions.Expression.{Expression}
use Rattle.abstract_types.specs.declared.patterns.Pattern.{Pattern}
use Rattle.abstract_types.specs.declared.patterns.Signature.{Signature}
use Rattle.abstract_tree.specs.TreeView.{expression}
use Rattle.abstract_types.specs.PatternView.{listed, pattern, signature}
use Rattle.value_scopes.specs.declared.note.Note.{Note}
use Rattle.value_scopes.specs.Values.{noted}
use Rattle.met_types.specs.States.{State}
use Rattle.judged_parts.specs.Parts.{See}
use Rattle.desugaring.specs.Expressions.{tree}
use Rattle.desugaring.specs.FreeNames.{names_in_each}
use Rattle.desugaring.specs.Frames.{Frame, hidden_by, in_function, in_method, with_entries, with_names}
use Rattle.desugaring.specs.Programs as programs
use Rattle.kernel_types.specs.Numbers.{definitions, number}
use Rattle.kernel_parts.specs.Views.{expression_in}
use Rattle.kernel_roles.specs.Roles as roles
use Rattle.kernel_roles.specs.Roles.{Role, role_of}
use Rattle.kernel_methods.specs.Shared.{parameters_in, results_in}

module _ (see : See) where
  abbrev pub context_seen : Option (Pattern Note) → Option (p.Pattern trees.Note)
  context_seen q = option_map (pattern see) q

  abbrev pub context_names_of : Option (Pattern Note) → List Bytes
  context_names_of q = programs.context_names (context_seen q)

  abbrev pub patterns_seen : List (Pattern Note) → p.Patterns trees.Note
  patterns_seen qs = listed (map (pattern see) qs)

  abbrev pub parameter_names_of : List (Pattern Note) → List Bytes
  parameter_names_of qs = names_in_each (patterns_seen qs)

  -- the names of a public function around what stands in its body
  abbrev pub with_method_names : Option (Pattern Note) → List (Pattern Note) → Frame → Frame
  with_method_names context qs f = with_entries (map (hidden_by (parameter_names_of qs)) (context_names_of context)) (with_names (parameter_names_of qs) f)

  -- the nodes of a public function
  abbrev pub nodes_seen : Option (Pattern Note) → Signature Note → Expression Note → ℕ
  nodes_seen context g body = counts.in_context (context_seen context) + counts.in_patterns (patterns_seen g.parameters) + counts.in_expression (expression see body)

module _ (s : State) where
  abbrev pub context_in : Option (Pattern Note) → Option TypedPattern
  context_in q = programs.context_pattern (definitions s) (number s) (context_seen (noted s.forms) q)

  abbrev pub body_in : Frame → Option (Pattern Note) → List (Pattern Note) → Expression Note → TypedExpression
  body_in f context qs body = tree (definitions s) (number s) (in_method (context_names_of (noted s.forms) context) (parameter_names_of (noted s.forms) qs) f) (expression_in s body)

  abbrev pub function_in : Frame → Bool → Option (Pattern Note) → Signature Note → Expression Note → Function
  function_in f query context g body = programs.method_function (definitions s) (number s) f query (context_seen (noted s.forms) context) (signature (noted s.forms) g) (expression_in s body)

  abbrev pub made_of : TermId → Option (Pattern Note) → Bytes → Function → typed.Method
  made_of kind context x function = record {
    name = x;
    context = context_in context;
    parameters = parameters_in s kind;
    results = results_in s kind;
    function = function;
  }

  abbrev pub method_in : Frame → TermId → Bool → Option (Pattern Note) → Bytes → Signature Note → Expression Note → typed.Method
  method_in f kind query context x g body = made_of kind context x (function_in f query context g body)

  -- what a declaration of this role adds, where this type is noted at it
  abbrev pub methods_at : Frame → Term → Role → List typed.Method
  methods_at f u (roles.Method query context x g body) =
      record {
        name = x;
        context = programs.context_pattern (definitions s) (number s) context;
        parameters = map (number s) (programs.parameters_of u);
        results = map (number s) (results (programs.result_term u) (unfolded (definitions s).types (programs.result_term u)));
        function = programs.method_function (definitions s) (number s) f query context g body;
      }
      ∷ []
  methods_at f u (roles.System x body) = []
  methods_at f u (roles.Stable x) = []
  methods_at f u roles.Function = []
  methods_at f u roles.Other = []

  -- a system function
  abbrev pub system_of : Frame → p.Expression trees.Note → Function
  system_of f body = roll-Function (record { sort = sort.Local; type_parameters = []; nodes = counts.in_expression body; parameters = []; body = tree (definitions s) (number s) (in_function [] f) body })

  abbrev pub system_in : Frame → Expression Note → Function
  system_in f body = system_of f (expression_in s body)

-- ---- the body of the first system function of a name

abbrev pub body_at : Bytes → Role → Option (p.Expression trees.Note)
body_at name (roles.Method query context x g body) = None
body_at name (roles.System x body) = cond (bytes_eq x name) (Some body) None
body_at name (roles.Stable x) = None
body_at name roles.Function = None
body_at name roles.Other = None

abbrev pub first_of : {A : Type 0} → Option A → Option A → Option A
first_of None o = o
first_of (Some a) o = Some a

abbrev pub first_body : Bytes → p.Declarations trees.Note → Option (p.Expression trees.Note)
first_body name p.End = None
first_body name (p.Then public n d rest) = first_of (body_at name (role_of d)) (first_body name rest)
