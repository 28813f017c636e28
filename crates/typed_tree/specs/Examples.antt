-- Small typed programs.
use Rattle.std.specs.Prelude.{ℕ, List, [], ◌∷◌, None, pos, codes}
use Rattle.mo_num.specs.declared.operator.Operator.TheVariants as operator
use Rattle.mo_num.specs.declared.kind.Kind.TheVariants as kind
use Rattle.mo_types.specs.declared.node.Node.TheVariants as node
use Rattle.mo_types.specs.declared.node.Sort.{Sort}
use Rattle.mo_types.specs.declared.node.Sort.TheVariants as sort
use Rattle.mo_types.specs.declared.node.TypeId.{TypeId}
use Rattle.mo_types.specs.Graph.{Slot, Interned}
use Rattle.mo_values.specs.declared.operation.Operation.TheVariants as op
use Rattle.typed_tree.specs.declared.action.Action.TheVariants as action
use Rattle.typed_tree.specs.declared.literal.Literal.TheVariants as literal
use Rattle.typed_tree.specs.declared.expression.Form.{Form, roll-Form}
use Rattle.typed_tree.specs.declared.expression.Form.TheOpen as F
use Rattle.typed_tree.specs.declared.expression.Step.{Step, roll-Step}
use Rattle.typed_tree.specs.declared.expression.Case.{Case}
use Rattle.typed_tree.specs.declared.expression.Function.{Function, roll-Function}
use Rattle.typed_tree.specs.declared.expression.TypedExpression.{TypedExpression, roll-TypedExpression}
use Rattle.typed_tree.specs.declared.pattern.TypedPattern.{TypedPattern, roll-TypedPattern}
use Rattle.typed_tree.specs.declared.pattern.PatternForm.{PatternForm, roll-PatternForm}
use Rattle.typed_tree.specs.declared.pattern.PatternForm.TheOpen as P
use Rattle.typed_tree.specs.declared.pattern.PatternField.{PatternField}
use Rattle.typed_tree.specs.declared.program.Method.{Method}
use Rattle.typed_tree.specs.declared.program.Program.{Program}
use Rattle.typed_tree.specs.Typing.{Signature}

abbrev pub nat : TypeId
nat = record { index = 0 }

abbrev pub text : TypeId
text = record { index = 1 }

abbrev pub types : List Slot
types = Interned (node.Number kind.Nat) ∷ Interned node.Text ∷ Interned node.Bool ∷ Interned (node.Tuple []) ∷ []

abbrev pub Layer : Type 0
Layer = F.Form-F Form Step Case Function TypedExpression

-- of type Nat
abbrev pub a_nat : Layer → TypedExpression
a_nat x = roll-TypedExpression (record { of_type = nat; form = roll-Form x })

abbrev pub body_of : Sort → TypedExpression → F.Function-F Form Step Case Function TypedExpression
body_of how e = record { sort = how; type_parameters = []; nodes = 1; parameters = []; body = e }

abbrev pub method_of : Sort → TypedExpression → Method
method_of how e = record { name = codes "f"; context = None; parameters = []; results = nat ∷ []; function = roll-Function (body_of how e) }

-- `actor { public func f() : async Nat { e } }`, of a query or not
abbrev pub actor_of : Sort → TypedExpression → Program
actor_of how e = record { types = types; nodes = 0; declarations = []; methods = method_of how e ∷ []; before_upgrade = None; after_upgrade = None; stable = [] }

abbrev pub five : Layer
five = F.Constant (literal.Number (pos 5))

-- a text where a Nat is due
abbrev pub a_text : Layer
a_text = F.Constant (literal.Text (codes "a"))

-- `await` of something
abbrev pub waiting : TypedExpression → Layer
waiting e = F.Do action.Await (e ∷ [])

-- `actor { public query func f() : async Nat { 5 } }`
abbrev pub answers_five : Program
answers_five = actor_of sort.Query (a_nat five)

-- the same with a text, with an `await`, and with a public function that is not shared
abbrev pub answers_text : Program
answers_text = actor_of sort.Query (a_nat a_text)

abbrev pub query_waits : TypedExpression → Program
query_waits e = actor_of sort.Query (a_nat (waiting e))

abbrev pub local_method : Program
local_method = actor_of sort.Local (a_nat five)

-- ---- `actor { stable var n : Nat = 0; public func inc() : async Nat { n += 1; n } }`

abbrev pub unit : TypeId
unit = record { index = 1 }

abbrev pub counter_types : List Slot
counter_types = Interned (node.Number kind.Nat) ∷ Interned (node.Tuple []) ∷ Interned node.Bool ∷ []

abbrev pub a_unit : Layer → TypedExpression
a_unit x = roll-TypedExpression (record { of_type = unit; form = roll-Form x })

abbrev pub number : ℕ → Layer
number n = F.Constant (literal.Number (pos n))

-- in the body of the method its own name stands before the variable's
abbrev pub variable : TypedExpression
variable = a_nat (F.Name 1)

abbrev pub increment : TypedExpression
increment = a_unit (F.Update (op.Arithmetic operator.Add kind.Nat) variable (a_nat (number 1)))

abbrev pub current : TypedExpression
current = a_nat (F.Do action.Read (variable ∷ []))

abbrev pub increments : TypedExpression
increments = a_nat (F.Block (roll-Step (F.Evaluate increment) ∷ []) current)

abbrev pub inc : F.Function-F Form Step Case Function TypedExpression
inc = record { sort = sort.Shared; type_parameters = []; nodes = 7; parameters = []; body = increments }

-- around the declarations stand the actor, the method, and what was kept of the variable
abbrev pub first_value : F.Step-F Form Step Case Function TypedExpression
first_value = F.Stable 2 (a_nat (number 0))

abbrev pub counter : Program
counter = record {
  types = counter_types;
  nodes = 2;
  declarations = roll-Step first_value ∷ [];
  methods = record { name = codes "inc"; context = None; parameters = []; results = nat ∷ []; function = roll-Function inc } ∷ [];
  before_upgrade = None;
  after_upgrade = None;
  stable = record { name = codes "n"; of_type = nat; cell = 0 } ∷ [];
}

-- ---- `actor { func id<T>(x : T) : T { x }; public query func f() : async Nat { id<Nat>(5) } }`

-- T, a type parameter without a bound
abbrev pub any : TypeId
any = record { index = 1 }

abbrev pub parameter : TypeId
parameter = record { index = 2 }

-- `T -> T`, `Nat -> Nat`
abbrev pub identity : TypeId
identity = record { index = 3 }

abbrev pub on_nats : TypeId
on_nats = record { index = 4 }

abbrev pub generic_types : List Slot
generic_types =
    Interned (node.Number kind.Nat) ∷ Interned node.Any ∷ Interned (node.Variable 7 any)
    ∷ Interned (node.Func sort.Local (parameter ∷ []) (parameter ∷ [])) ∷ Interned (node.Func sort.Local (nat ∷ []) (nat ∷ []))
    ∷ Interned node.Bool ∷ Interned (node.Tuple []) ∷ []

abbrev pub bound_to : TypeId → P.TypedPattern-F PatternForm PatternField TypedPattern
bound_to t = record { of_type = t; form = roll-PatternForm P.Bind }

abbrev pub the_parameter : TypedExpression
the_parameter = roll-TypedExpression (record { of_type = parameter; form = roll-Form (F.Name 0) })

abbrev pub id : F.Function-F Form Step Case Function TypedExpression
id = record { sort = sort.Local; type_parameters = parameter ∷ []; nodes = 1; parameters = roll-TypedPattern (bound_to parameter) ∷ []; body = the_parameter }

-- `func (x : Any) : Nat { 5 }`
abbrev pub forgets : F.Function-F Form Step Case Function TypedExpression
forgets = record { sort = sort.Local; type_parameters = []; nodes = 1; parameters = roll-TypedPattern (bound_to any) ∷ []; body = a_nat (number 5) }

-- `T -> Nat`, where T is not in scope
abbrev pub on_strays : Signature
on_strays = record { sort = sort.Local; generics = []; context = []; parameters = parameter ∷ []; result = nat }

-- `actor "..."` as a pattern
abbrev pub actor_pattern : TypeId → List ℕ → TypedPattern
actor_pattern t x = roll-TypedPattern (record { of_type = t; form = roll-PatternForm (P.Constant (literal.Actor x)) })

-- id at Nat
abbrev pub at_nat : TypedExpression
at_nat = roll-TypedExpression (record { of_type = on_nats; form = roll-Form (F.Name 1) })

abbrev pub calls : TypedExpression
calls = a_nat (F.Do action.Call (at_nat ∷ a_nat (number 5) ∷ []))

abbrev pub uses_generic : Program
uses_generic = record {
  types = generic_types;
  nodes = 1;
  declarations = roll-Step (F.Functions (roll-Function id ∷ [])) ∷ [];
  methods = method_of sort.Query calls ∷ [];
  before_upgrade = None;
  after_upgrade = None;
  stable = [];
}
