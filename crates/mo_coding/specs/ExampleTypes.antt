-- The types of the rows, as nodes of a graph: Motoko language manual, section "Types".
use Rattle.std.specs.Prelude.{ℕ, [], ◌∷◌, map, false, codes}
use Rattle.mo_num.specs.declared.kind.Kind.TheVariants as kind
use Rattle.mo_types.specs.declared.node.Field.{Field}
use Rattle.mo_types.specs.declared.node.Node.TheVariants as node
use Rattle.mo_types.specs.declared.node.Sort.TheVariants as sort
use Rattle.mo_types.specs.declared.node.TypeId.{TypeId}
use Rattle.mo_types.specs.Graph.{Interned}
use Rattle.mo_values.specs.Shapes.{Bytes}
use Rattle.mo_meaning.specs.Coding.{Types}

abbrev pub type : ℕ → TypeId
type n = record { index = n }

abbrev pub nat : TypeId
nat = type 0

abbrev pub int : TypeId
int = type 1

abbrev pub char : TypeId
char = type 2

abbrev pub text : TypeId
text = type 3

abbrev pub blob : TypeId
blob = type 4

-- `[Text]` and `[[Text]]`
abbrev pub texts : TypeId
texts = type 5

abbrev pub lists_of_texts : TypeId
lists_of_texts = type 6

-- `{err : Nat; ok : Text}`
abbrev pub answer : TypeId
answer = type 7

abbrev pub unit : TypeId
unit = type 8

-- `{#err : Text; #ok}`
abbrev pub outcome : TypeId
outcome = type 9

-- `type L = ?(Nat, L)`, and the pair
abbrev pub list : TypeId
list = type 10

abbrev pub link : TypeId
link = type 11

abbrev pub nat32 : TypeId
nat32 = type 12

-- the same as `L` once more, under numbers of its own
abbrev pub other_list : TypeId
other_list = type 13

abbrev pub other_link : TypeId
other_link = type 14

-- `[Null]`
abbrev pub null : TypeId
null = type 15

abbrev pub nulls : TypeId
nulls = type 16

-- `?Nat`
abbrev pub option : TypeId
option = type 17

abbrev pub bool : TypeId
bool = type 18

abbrev pub nat16 : TypeId
nat16 = type 19

abbrev pub nat64 : TypeId
nat64 = type 20

abbrev pub principal : TypeId
principal = type 21

-- `shared () -> async ()`, and an actor with such a method `f`
abbrev pub function : TypeId
function = type 22

abbrev pub service : TypeId
service = type 23

abbrev pub int8 : TypeId
int8 = type 24

abbrev pub field : Bytes → TypeId → Field TypeId
field l t = record { label = l; mutable = false; part = t }

abbrev pub graph : Types
graph =
    map Interned
    (node.Number kind.Nat
    ∷ node.Number kind.Int
    ∷ node.Char
    ∷ node.Text
    ∷ node.Blob
    ∷ node.Array text
    ∷ node.Array texts
    ∷ node.Object (field (codes "err") nat ∷ field (codes "ok") text ∷ [])
    ∷ node.Tuple []
    ∷ node.Variant (field (codes "err") text ∷ field (codes "ok") unit ∷ [])
    ∷ node.Opt link
    ∷ node.Tuple (nat ∷ list ∷ [])
    ∷ node.Number kind.Nat32
    ∷ node.Opt other_link
    ∷ node.Tuple (nat ∷ other_list ∷ [])
    ∷ node.Null
    ∷ node.Array null
    ∷ node.Opt nat
    ∷ node.Bool
    ∷ node.Number kind.Nat16
    ∷ node.Number kind.Nat64
    ∷ node.Principal
    ∷ node.Func sort.Shared [] []
    ∷ node.Actor (field (codes "f") function ∷ [])
    ∷ node.Number kind.Int8
    ∷ [])
