-- What declarations of an actor add around its declarations and behind them.
use Rattle.std.specs.Prelude.{ℕ, List, [], ◌∷◌}
use Rattle.mo_types.specs.Values.{copies}
use Rattle.typed_tree.specs.declared.program.StableVariable.{StableVariable}
use Rattle.typing_rules.specs.AbstractSyntax.{Bytes, Declarations}
use Rattle.typing_rules.specs.TypedTrees as trees
use Rattle.type_terms.specs.declared.form.TermId.{TermId}
use Rattle.value_scopes.specs.declared.note.Note.{Note}
use Rattle.met_types.specs.States.{State}
use Rattle.desugaring.specs.Frames.{Entry, Frame, Unnamed, found, with_entries}
use Rattle.desugaring.specs.Programs.{count_behind}
use Rattle.kernel_types.specs.Numbers.{number_of}
use Rattle.kernel_roles.specs.Roles.{Function, Method, Other, Role, Stable, System}

-- the name of a public function
abbrev pub method_name : Role → List Bytes
method_name (Method query context x g body) = x ∷ []
method_name (System x body) = []
method_name (Stable x) = []
method_name Function = []
method_name Other = []

-- that of a stable variable
abbrev pub stable_name : Role → List Bytes
stable_name (Method query context x g body) = []
stable_name (System x body) = []
stable_name (Stable x) = x ∷ []
stable_name Function = []
stable_name Other = []

-- what stands behind the declarations
abbrev pub behind_of : Role → List Entry
behind_of (Method query context x g body) = Unnamed ∷ []
behind_of (System x body) = Unnamed ∷ []
behind_of (Stable x) = []
behind_of Function = []
behind_of Other = []

abbrev pub with_functions : Declarations trees.Note → Frame → Frame
with_functions ds f = with_entries (copies (count_behind ds) Unnamed) f

-- the nodes of a declaration of this role, which has so many in all
abbrev pub nodes_as : Role → ℕ → ℕ
nodes_as (Method query context x g body) n = 0
nodes_as (System x body) n = 0
nodes_as (Stable x) n = n
nodes_as Function n = 0
nodes_as Other n = n

module _ (s : State) (f : Frame) where
  abbrev pub variable_in : TermId → Bytes → StableVariable
  variable_in kind x = record { name = x; of_type = number_of s kind; cell = (found f x).index }

  abbrev pub stable_in : Note → Role → List StableVariable
  stable_in n (Method query context x g body) = []
  stable_in n (System x body) = []
  stable_in n (Stable x) = variable_in n.kind x ∷ []
  stable_in n Function = []
  stable_in n Other = []
