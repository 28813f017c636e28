-- The types of built-in members (Motoko base library, modules Debug, Error, Nat, Int, Array and Principal, and the methods of arrays and texts).
use Rattle.std.specs.Prelude.{List, [], ◌∷◌, codes, cond, Option, Some, None, option_map}
use Rattle.std.specs.Option.{option_and_then}
use Rattle.mo_num.specs.declared.kind.Kind.TheVariants as kind
use Rattle.mo_scopes.specs.declared.library.Member.{Member}
use Rattle.mo_scopes.specs.declared.library.Member.TheVariants as member
use Rattle.mo_scopes.specs.Scopes.{named}
use Rattle.mo_types.specs.declared.node.Node.{Node}
use Rattle.mo_types.specs.declared.node.Node.TheVariants as node
use Rattle.mo_types.specs.declared.node.Field.{Field}
use Rattle.mo_types.specs.Heads.{object_of}
use Rattle.mo_types.specs.Sub.{find}
use Rattle.typing_rules.specs.AbstractSyntax.{Bytes}
use Rattle.typing_rules.specs.Terms.{Term, unlisted}
use Rattle.typing_rules.specs.Terms as t
use Rattle.typing_rules.specs.Contexts.{Bound, constant, generic}

abbrev pub function : List Term → Term → Term
function ps r = t.Function (unlisted ps) r

-- The type parameter of a built-in member has the number 0, at which no name of a type stands.
abbrev pub element : Term
element = t.Parameter 0

abbrev pub nat32 : Term
nat32 = t.Number kind.Nat32

-- `{err_code : Nat32}`
abbrev pub refusal : Term
refusal = t.Object (t.constant (codes "err_code") nat32 t.NoFields)

-- `{#system_fatal; #system_transient; #destination_invalid; #canister_reject; #canister_error; #future : Nat32; #call_error : {err_code : Nat32}}`
abbrev pub error_code : Term
error_code = t.Variant (
    t.constant (codes "system_fatal") t.unit (t.constant (codes "system_transient") t.unit (t.constant (codes "destination_invalid") t.unit
    (t.constant (codes "canister_reject") t.unit (t.constant (codes "canister_error") t.unit (t.constant (codes "future") nat32
    (t.constant (codes "call_error") refusal t.NoFields)))))))

abbrev pub member_bound : Member → Bound
member_bound member.DebugPrint = constant (function (t.Text ∷ []) t.unit)
member_bound member.DebugTrap = constant (function (t.Text ∷ []) t.Bottom)
member_bound member.ErrorReject = constant (function (t.Text ∷ []) t.Error)
member_bound member.ErrorMessage = constant (function (t.Error ∷ []) t.Text)
member_bound member.ErrorCode = constant (function (t.Error ∷ []) error_code)
member_bound member.NatToText = constant (function (t.nat ∷ []) t.Text)
member_bound member.IntToText = constant (function (t.int ∷ []) t.Text)
member_bound member.ArrayTabulate = generic (0 ∷ []) (function (t.nat ∷ function (t.nat ∷ []) element ∷ []) (t.Array element))
member_bound member.ArrayInit = generic (0 ∷ []) (function (t.nat ∷ element ∷ []) (t.MutableArray element))
member_bound member.ArrayFreeze = generic (0 ∷ []) (function (t.MutableArray element ∷ []) (t.Array element))
member_bound member.ArrayThaw = generic (0 ∷ []) (function (t.Array element ∷ []) (t.MutableArray element))
member_bound member.PrincipalFromActor = constant (function (t.Actor t.NoFields ∷ []) t.Principal)

-- `{next : () -> ?T}`
abbrev pub iterator : Term → Term
iterator u = t.Object (t.constant (codes "next") (function [] (t.Optional u)) t.NoFields)

abbrev pub array_members : Term → List (Bytes × Term)
array_members u = (codes "size", function [] t.nat) ∷ (codes "vals", function [] (iterator u)) ∷ (codes "keys", function [] (iterator t.nat)) ∷ []

abbrev pub text_members : List (Bytes × Term)
text_members = (codes "size", function [] t.nat) ∷ (codes "chars", function [] (iterator t.Character)) ∷ []

abbrev pub part_of : Option (Field Term) → Option Term
part_of f = option_map (λ g. g.part) f

-- a field or method of a value of this head
abbrev pub member_type : Bytes → Node Term → Option Term
member_type x (node.Object fields) = part_of (find x fields)
member_type x (node.Actor methods) = part_of (find x methods)
member_type x (node.Array u) = named (array_members u) x
member_type x (node.MutArray u) = named (array_members u) x
member_type x node.Text = named text_members x
member_type x _ = None

-- a field, which may be a `var` field
abbrev pub object_field : Bytes → Node Term → Option (Field Term)
object_field x y = option_and_then (λ fields. find x fields) (object_of y)

abbrev pub unless_mutable : Field Term → Option (Field Term)
unless_mutable f = cond f.mutable None (Some f)

-- a field that is no `var` field
abbrev pub constant_field : Bytes → Node Term → Option (Field Term)
constant_field x y = option_and_then unless_mutable (object_field x y)
