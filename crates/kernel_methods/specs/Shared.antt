-- The types of public functions.
use Rattle.std.specs.Prelude.{◌≡◌, Bool, true, false, List, [], map}
use Rattle.mo_types.specs.declared.node.Node.{Node}
use Rattle.mo_types.specs.declared.node.Node.TheVariants as node
use Rattle.mo_types.specs.declared.node.Sort.{Sort}
use Rattle.mo_types.specs.declared.node.TypeId.{TypeId}
use Rattle.typing_rules.specs.Definitions.{unfolded}
use Rattle.typing_rules.specs.Heads.{results}
use Rattle.typing_rules.specs.Terms.{Term, Terms}
use Rattle.typing_rules.specs.Terms as t
use Rattle.type_terms.specs.declared.form.Form.{Form}
use Rattle.type_terms.specs.declared.form.Form.TheVariants as form
use Rattle.type_terms.specs.declared.form.TermId.{TermId}
use Rattle.type_definitions.specs.Meanings.{term}
use Rattle.abstract_tree.specs.declared.declarations.Declaration.{Declaration}
use Rattle.value_scopes.specs.declared.note.Note.{Note}
use Rattle.value_scopes.specs.Values.{noted}
use Rattle.met_types.specs.States.{State}
use Rattle.desugaring.specs.Programs.{parameters_of, result_term}
use Rattle.kernel_types.specs.Numbers.{definitions, number}
use Rattle.kernel_roles.specs.Roles.{Function, Method, Other, Role, Stable, System, role_in}

-- whether a form is that of the type of a shared function
abbrev pub is_shared : Form → Bool
is_shared (form.Shared s ps r) = true
is_shared _ = false

-- This is the type of a shared function, and no name of one.
pub record IsShared (u : Term) : Type 0 where
  pub sort : Sort
  pub parameters : Terms
  pub result : Term
  pub is : u ≡ t.Shared sort parameters result

-- the same of a type that is noted at a declaration of this role, if it is a public function
abbrev pub HasShared : Term → Role → Type 0
HasShared u (Method query context x g body) = IsShared u
HasShared u (System x body) = Unit {0}
HasShared u (Stable x) = Unit {0}
HasShared u Function = Unit {0}
HasShared u Other = Unit {0}

module _ (s : State) where
  abbrev pub SharedIn : Declaration Note → Type 0
  SharedIn d = HasShared (term s.forms d.note.kind) (role_in (noted s.forms) d)

  -- the numbers of the types of the arguments of a public function, and of the values of its reply
  abbrev pub parameters_in : TermId → List TypeId
  parameters_in kind = map (number s) (parameters_of (term s.forms kind))

  abbrev pub results_in : TermId → List TypeId
  results_in kind = map (number s) (results (result_term (term s.forms kind)) (unfolded (definitions s).types (result_term (term s.forms kind))))

-- the parameters and results in a head of a function
abbrev pub parameters_at : {A : Type 0} → Node A → List A
parameters_at (node.Func s ps rs) = ps
parameters_at _ = []

abbrev pub results_at : {A : Type 0} → Node A → List A
results_at (node.Func s ps rs) = rs
results_at _ = []
