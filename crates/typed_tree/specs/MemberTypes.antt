-- The types of built-in functions (Motoko base library, modules Debug, Error, Nat, Int, Array, Principal, and the methods of arrays and texts).
use Rattle.std.specs.Prelude.{◌≡◌, ◌⊎◌, List, [], ◌∷◌, false, Some, codes}
use Rattle.mo_num.specs.declared.kind.Kind.{Kind}
use Rattle.mo_num.specs.declared.kind.Kind.TheVariants as kind
use Rattle.mo_types.specs.declared.node.Node.{Node}
use Rattle.mo_types.specs.declared.node.Node.TheVariants as node
use Rattle.mo_types.specs.declared.node.Field.{Field}
use Rattle.mo_types.specs.declared.node.Sort.TheVariants as sort
use Rattle.mo_types.specs.Sub.{find}
use Rattle.mo_values.specs.Shapes.{Bytes}
use Rattle.typed_tree.specs.declared.action.Member.{Member}
use Rattle.typed_tree.specs.declared.action.Member.TheVariants as member
use Rattle.typed_tree.specs.Wants.{Want, Of, CellOf}

module _ {A : Type 0} where
  -- the type of a function that is no shared one
  abbrev pub Function : List A → A → Node A
  Function ps r = node.Func sort.Local ps (r ∷ [])

module _ {A : Type 0} (head : A → Node A) where
  abbrev pub IsUnit : A → Type 0
  IsUnit t = head t ≡ node.Tuple []

  abbrev pub IsNumber : Kind → A → Type 0
  IsNumber k t = head t ≡ node.Number k

  abbrev pub IsText : A → Type 0
  IsText t = head t ≡ node.Text

  -- a field that is no `var` field
  abbrev pub IsField : List (Field A) → Bytes → A → Type 0
  IsField fs l t = (f : Field A) × (find l fs ≡ Some f) × (f.mutable ≡ false) × (f.part ≡ t)

  -- `{next : () -> ?t}`, and no other field
  abbrev pub IsIterator : A → A → Type 0
  IsIterator i t =
      (f : Field A) × (o : A) × (head i ≡ node.Object (f ∷ [])) × (f.label ≡ codes "next") × (f.mutable ≡ false) × (head f.part ≡ Function [] o) × (head o ≡ node.Opt t)

  abbrev pub IsElementOf : A → A → Type 0
  IsElementOf a t = (head a ≡ node.Array t) ⊎ (head a ≡ node.MutArray t)

  abbrev pub IsTag : List (Field A) → Bytes → (A → Type 0) → Type 0
  IsTag fs l p = (t : A) × IsField fs l t × p t

  -- `{err_code : Nat32}`
  abbrev pub IsRefusal : A → Type 0
  IsRefusal t = (f : Field A) × (head t ≡ node.Object (f ∷ [])) × (f.label ≡ codes "err_code") × (f.mutable ≡ false) × IsNumber kind.Nat32 f.part

  -- the variant of an error's code, in whatever order its tags stand
  abbrev pub IsErrorCode : A → Type 0
  IsErrorCode t =
      (fs : List (Field A)) × (head t ≡ node.Variant fs)
      × IsTag fs (codes "system_fatal") IsUnit × IsTag fs (codes "system_transient") IsUnit × IsTag fs (codes "destination_invalid") IsUnit
      × IsTag fs (codes "canister_reject") IsUnit × IsTag fs (codes "canister_error") IsUnit
      × IsTag fs (codes "future") (IsNumber kind.Nat32) × IsTag fs (codes "call_error") IsRefusal

  -- a function from these to that
  abbrev pub From : Node A → List A → (A → Type 0) → Type 0
  From n ps p = (r : A) × (n ≡ Function ps r) × p r

  -- a built-in function that holds these has a type of this form
  abbrev pub MemberTyped : Member → List (Want A) → Node A → Type 0
  MemberTyped member.DebugPrint ws n = (t : A) × (ws ≡ []) × IsText t × From n (t ∷ []) IsUnit
  MemberTyped member.DebugTrap ws n = (t : A) × (ws ≡ []) × IsText t × From n (t ∷ []) (λ r. head r ≡ node.Bottom)
  MemberTyped member.ErrorReject ws n = (t : A) × (ws ≡ []) × IsText t × From n (t ∷ []) (λ r. head r ≡ node.Error)
  MemberTyped member.ErrorMessage ws n = (t : A) × (ws ≡ []) × (head t ≡ node.Error) × From n (t ∷ []) IsText
  MemberTyped member.ErrorCode ws n = (t : A) × (ws ≡ []) × (head t ≡ node.Error) × From n (t ∷ []) IsErrorCode
  MemberTyped member.NatToText ws n = (t : A) × (ws ≡ []) × IsNumber kind.Nat t × From n (t ∷ []) IsText
  MemberTyped member.IntToText ws n = (t : A) × (ws ≡ []) × IsNumber kind.Int t × From n (t ∷ []) IsText
  MemberTyped member.ArrayTabulate ws n =
      (t f e : A) × (ws ≡ []) × IsNumber kind.Nat t × (head f ≡ Function (t ∷ []) e) × From n (t ∷ f ∷ []) (λ r. head r ≡ node.Array e)
  MemberTyped member.ArrayInit ws n = (t e : A) × (ws ≡ []) × IsNumber kind.Nat t × From n (t ∷ e ∷ []) (λ r. head r ≡ node.MutArray e)
  MemberTyped member.ArrayFreeze ws n = (a e : A) × (ws ≡ []) × (head a ≡ node.MutArray e) × From n (a ∷ []) (λ r. head r ≡ node.Array e)
  MemberTyped member.ArrayThaw ws n = (a e : A) × (ws ≡ []) × (head a ≡ node.Array e) × From n (a ∷ []) (λ r. head r ≡ node.MutArray e)
  MemberTyped member.PrincipalFromActor ws n = (a : A) × (ws ≡ []) × (head a ≡ node.Actor []) × From n (a ∷ []) (λ r. head r ≡ node.Principal)
  MemberTyped member.ArraySize ws n = (a e : A) × (ws ≡ Of a ∷ []) × IsElementOf a e × From n [] (IsNumber kind.Nat)
  MemberTyped member.ArrayVals ws n = (a e : A) × (ws ≡ Of a ∷ []) × IsElementOf a e × From n [] (λ r. IsIterator r e)
  MemberTyped member.ArrayKeys ws n = (a e k : A) × (ws ≡ Of a ∷ []) × IsElementOf a e × IsNumber kind.Nat k × From n [] (λ r. IsIterator r k)
  MemberTyped member.TextSize ws n = (t : A) × (ws ≡ Of t ∷ []) × IsText t × From n [] (IsNumber kind.Nat)
  MemberTyped member.TextChars ws n = (t c : A) × (ws ≡ Of t ∷ []) × IsText t × (head c ≡ node.Char) × From n [] (λ r. IsIterator r c)
  MemberTyped member.NextVal ws n =
      (a e k : A) × (ws ≡ Of a ∷ CellOf k ∷ []) × IsElementOf a e × IsNumber kind.Nat k × From n [] (λ r. head r ≡ node.Opt e)
  MemberTyped member.NextKey ws n =
      (a e k : A) × (ws ≡ Of a ∷ CellOf k ∷ []) × IsElementOf a e × IsNumber kind.Nat k × From n [] (λ r. head r ≡ node.Opt k)
  MemberTyped member.NextChar ws n =
      (t c k : A) × (ws ≡ Of t ∷ CellOf k ∷ []) × IsText t × (head c ≡ node.Char) × IsNumber kind.Nat k × From n [] (λ r. head r ≡ node.Opt c)
