-- The types of the examples, as nodes of a graph: Motoko language manual, section "Types".
use Rattle.std.specs.Prelude.{ℕ, List, [], ◌∷◌, map, false, codes}
use Rattle.mo_num.specs.declared.kind.Kind.TheVariants as kind
use Rattle.mo_types.specs.declared.node.Field.{Field}
use Rattle.mo_types.specs.declared.node.Node.{Node}
use Rattle.mo_types.specs.declared.node.Node.TheVariants as node
use Rattle.mo_types.specs.declared.node.TypeId.{TypeId}
use Rattle.mo_types.specs.Graph.{Interned}
use Rattle.mo_values.specs.Shapes.{Bytes}
use Rattle.mo_meaning.specs.Coding.{Types}

abbrev pub type : ℕ → TypeId
type n = record { index = n }

abbrev pub nat : TypeId
nat = type 0

abbrev pub text : TypeId
text = type 1

abbrev pub bool : TypeId
bool = type 2

-- `{#ok : Nat; #err : Text}`
abbrev pub outcome : TypeId
outcome = type 3

-- `type Book = ?(Text, Nat, Book)`, and the tuple
abbrev pub book : TypeId
book = type 4

abbrev pub entry : TypeId
entry = type 5

abbrev pub int : TypeId
int = type 6

-- `{name : Text; age : Nat}`
abbrev pub person : TypeId
person = type 7

-- `type L = ?(Nat, L)`, and the pair
abbrev pub list : TypeId
list = type 8

abbrev pub link : TypeId
link = type 9

abbrev pub char : TypeId
char = type 10

abbrev pub nat32 : TypeId
nat32 = type 11

-- `[Nat8]`
abbrev pub bytes : TypeId
bytes = type 12

abbrev pub nat8 : TypeId
nat8 = type 13

abbrev pub blob : TypeId
blob = type 14

abbrev pub principal : TypeId
principal = type 15

-- `?Nat`
abbrev pub option : TypeId
option = type 16

abbrev pub field : Bytes → TypeId → Field TypeId
field l t = record { label = l; mutable = false; part = t }

abbrev pub nodes : List (Node TypeId)
nodes =
    node.Number kind.Nat
    ∷ node.Text
    ∷ node.Bool
    ∷ node.Variant (field (codes "ok") nat ∷ field (codes "err") text ∷ [])
    ∷ node.Opt entry
    ∷ node.Tuple (text ∷ nat ∷ book ∷ [])
    ∷ node.Number kind.Int
    ∷ node.Object (field (codes "name") text ∷ field (codes "age") nat ∷ [])
    ∷ node.Opt link
    ∷ node.Tuple (nat ∷ list ∷ [])
    ∷ node.Char
    ∷ node.Number kind.Nat32
    ∷ node.Array nat8
    ∷ node.Number kind.Nat8
    ∷ node.Blob
    ∷ node.Principal
    ∷ node.Opt nat
    ∷ []

abbrev pub graph : Types
graph = map Interned nodes
