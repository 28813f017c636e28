-- Rows of the table: an operation, its operands, and the answer that they have by the language manual, its base library or
-- another implementation. The functions in values are numbers here.
use Rattle.std.specs.Prelude.{ℕ, zero, suc, List, [], ◌∷◌, true, false, ℤ, pos, neg_ℤ, codes}
use Rattle.mo_num.specs.declared.kind.Kind.TheVariants as kind
use Rattle.mo_types.specs.declared.datum.Datum.TheVariants as part
use Rattle.mo_types.specs.declared.node.Field.{Field}
use Rattle.mo_types.specs.declared.node.Node.{Node}
use Rattle.mo_types.specs.declared.node.Node.TheVariants as node
use Rattle.mo_types.specs.declared.node.Sort.TheVariants as sort
use Rattle.mo_types.specs.declared.node.TypeId.{TypeId}
use Rattle.mo_values.specs.declared.operation.Operation.{Operation}
use Rattle.mo_values.specs.Costs.{Cost, operation_cost}
use Rattle.mo_values.specs.Operations.{operate}
use Rattle.mo_values.specs.Shapes.{Bytes, Present, Tuple, Array, Object, Shape, Made, NoShape, AShape, shapes, leaf}
use Rattle.mo_values.specs.Views.{Answer, Gives, Traps}

pub record Row : Type 0 where
  pub operation : Operation
  pub operands : List (Shape ℕ)
  pub answer : Answer ℕ

abbrev pub none : Operation → Answer ℕ → Row
none o answer = record { operation = o; operands = []; answer = answer }

abbrev pub one : Operation → Shape ℕ → Answer ℕ → Row
one o v answer = record { operation = o; operands = v ∷ []; answer = answer }

abbrev pub two : Operation → Shape ℕ → Shape ℕ → Answer ℕ → Row
two o v w answer = record { operation = o; operands = v ∷ w ∷ []; answer = answer }

abbrev pub many : Operation → List (Shape ℕ) → Answer ℕ → Row
many o vs answer = record { operation = o; operands = vs; answer = answer }

-- ---- values

abbrev pub whole : ℤ → Shape ℕ
whole n = leaf (part.Number n)

abbrev pub nat : ℕ → Shape ℕ
nat n = whole (pos n)

abbrev pub minus : ℕ → Shape ℕ
minus n = whole (neg_ℤ (pos n))

abbrev pub char : ℕ → Shape ℕ
char c = leaf (part.Char c)

abbrev pub text : Bytes → Shape ℕ
text t = leaf (part.Text t)

abbrev pub null : Shape ℕ
null = leaf part.Null

abbrev pub some : Shape ℕ → Shape ℕ
some v = Made Present (AShape v NoShape)

abbrev pub tuple : List (Shape ℕ) → Shape ℕ
tuple vs = Made Tuple (shapes vs)

abbrev pub array : List (Shape ℕ) → Shape ℕ
array vs = Made Array (shapes vs)

abbrev pub object : List Bytes → List (Shape ℕ) → Shape ℕ
object ls vs = Made (Object ls) (shapes vs)

abbrev pub yes : Answer ℕ
yes = Gives (leaf (part.Flag true))

abbrev pub no : Answer ℕ
no = Gives (leaf (part.Flag false))

abbrev pub overflows : Answer ℕ
overflows = Traps (codes "arithmetic overflow")

-- ---- types

abbrev pub type : ℕ → TypeId
type n = record { index = n }

abbrev pub nat_type : TypeId
nat_type = type 0

abbrev pub text_type : TypeId
text_type = type 1

-- `{x : Nat}`
abbrev pub point : TypeId
point = type 2

-- `{name : Text; at : {x : Nat}}`
abbrev pub place : TypeId
place = type 3

-- `?Nat`, `??Nat`
abbrev pub option : TypeId
option = type 4

abbrev pub double_option : TypeId
double_option = type 5

-- `{#ok; #err : Text}`
abbrev pub outcome : TypeId
outcome = type 6

abbrev pub unit_type : TypeId
unit_type = type 7

-- `[Nat]`, `[None]`
abbrev pub nats : TypeId
nats = type 8

abbrev pub nothings : TypeId
nothings = type 9

abbrev pub nothing : TypeId
nothing = type 10

-- `type List = ?(Nat, List)`, and the pair
abbrev pub list : TypeId
list = type 11

abbrev pub pair : TypeId
pair = type 12

abbrev pub byte : TypeId
byte = type 13

abbrev pub letter : TypeId
letter = type 14

abbrev pub blob : TypeId
blob = type 15

abbrev pub principal : TypeId
principal = type 16

-- `shared () -> async ()`
abbrev pub shared_function : TypeId
shared_function = type 17

-- `{var x : Nat}`
abbrev pub counter : TypeId
counter = type 18

-- `{name : Text; age : Nat}`
abbrev pub person : TypeId
person = type 19

abbrev pub field : Bytes → TypeId → Field TypeId
field l t = record { label = l; mutable = false; part = t }

abbrev pub nodes : List (Node TypeId)
nodes =
    node.Number kind.Nat
    ∷ node.Text
    ∷ node.Object (field (codes "x") nat_type ∷ [])
    ∷ node.Object (field (codes "name") text_type ∷ field (codes "at") point ∷ [])
    ∷ node.Opt nat_type
    ∷ node.Opt option
    ∷ node.Variant (field (codes "ok") unit_type ∷ field (codes "err") text_type ∷ [])
    ∷ node.Tuple []
    ∷ node.Array nat_type
    ∷ node.Array nothing
    ∷ node.Bottom
    ∷ node.Opt pair
    ∷ node.Tuple (nat_type ∷ list ∷ [])
    ∷ node.Number kind.Nat8
    ∷ node.Char
    ∷ node.Blob
    ∷ node.Principal
    ∷ node.Func sort.Shared [] []
    ∷ node.Object (record { label = codes "x"; mutable = true; part = nat_type } ∷ [])
    ∷ node.Object (field (codes "name") text_type ∷ field (codes "age") nat_type ∷ [])
    ∷ []

abbrev pub nth : List (Node TypeId) → ℕ → Node TypeId
nth [] n = node.Bottom
nth (t ∷ ts) zero = t
nth (t ∷ ts) (suc n) = nth ts n

abbrev pub heads : TypeId → Node TypeId
heads t = nth nodes t.index

-- ---- what the table says, and what it is to say

abbrev pub answers : List Row → List (Answer ℕ)
answers [] = []
answers (r ∷ rs) = operate heads r.operation r.operands ∷ answers rs

abbrev pub wanted : List Row → List (Answer ℕ)
wanted [] = []
wanted (r ∷ rs) = r.answer ∷ wanted rs

abbrev pub costs : List Row → List Cost
costs [] = []
costs (r ∷ rs) = operation_cost r.operation r.operands (operate heads r.operation r.operands) ∷ costs rs
