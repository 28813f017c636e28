-- Built-in functions have the types that theirs come to.
use Rattle.std.proofs.Common.{◌≡◌, ℕ, List, [], ◌∷◌, map, refl, sym, ap, subst}
use Rattle.std.specs.Prelude.{codes}
use Rattle.mo_num.specs.declared.kind.Kind.{Kind}
use Rattle.mo_num.specs.declared.kind.Kind.TheVariants as kind
use Rattle.mo_types.specs.declared.node.Field.{Field}
use Rattle.mo_types.specs.declared.node.Node.{Node}
use Rattle.mo_types.specs.declared.node.Node.TheVariants as node
use Rattle.mo_subtype.specs.Renamed.{on_field, on_node}
use Rattle.typed_tree.specs.declared.action.Member.{Member}
use Rattle.typed_tree.specs.declared.action.Member.TheVariants as member
use Rattle.typed_tree.specs.MemberTypes.{Function, IsUnit, IsNumber, IsText, IsIterator, IsTag, IsRefusal, IsErrorCode, From, MemberTyped}
use Rattle.typed_tree.specs.Wants.{Want}
use Rattle.closed_types.specs.Closings.{IsNoVariable, Closing}
use Rattle.closed_rules.specs.ClosedWants.{close_wants}
use Rattle.closed_rules.proofs.Heads.{at, field_at, element_at}

module _ {A B : Type 0} (head : A → Node A) (other : B → Node B) (c : Closing head other) where
  from : (n : Node A) (ps : List A) (P : A → Type 0) (Q : B → Type 0) → ((r : A) → P r → Q (c.close r)) → From head n ps P → From other (on_node c.close n) (map c.close ps) Q
  from n ps P Q k h = (c.close h.0, ap (on_node c.close) h.1, k h.0 h.2)

  pub unit_at : (t : A) → IsUnit head t → IsUnit other (c.close t)
  unit_at t e = at head other c t (node.Tuple []) e refl

  pub number_at : (k : Kind) (t : A) → IsNumber head k t → IsNumber other k (c.close t)
  number_at k t e = at head other c t (node.Number k) e refl

  pub text_at : (t : A) → IsText head t → IsText other (c.close t)
  text_at t e = at head other c t node.Text e refl

  iterator_at : (t i : A) → IsIterator head i t → IsIterator other (c.close i) (c.close t)
  iterator_at t i h = (
    on_field c.close h.0,
    c.close h.1,
    at head other c i (node.Object (h.0 ∷ [])) h.2 refl,
    h.3,
    h.4,
    at head other c h.0.part (Function [] h.1) h.5 refl,
    at head other c h.1 (node.Opt t) h.6 refl,
  )

  tag_at : (fs : List (Field A)) (l : List ℕ) (P : A → Type 0) (Q : B → Type 0) → ((t : A) → P t → Q (c.close t)) → IsTag head fs l P → IsTag other (map (on_field c.close) fs) l Q
  tag_at fs l P Q k h = (c.close h.0, field_at head other c fs l h.0 h.1, k h.0 h.2)

  refusal_at : (t : A) → IsRefusal head t → IsRefusal other (c.close t)
  refusal_at t h = (on_field c.close h.0, at head other c t (node.Object (h.0 ∷ [])) h.1 refl, h.2, h.3, number_at kind.Nat32 h.0.part h.4)

  pub error_code_at : (t : A) → IsErrorCode head t → IsErrorCode other (c.close t)
  error_code_at t h = (
    map (on_field c.close) h.0,
    at head other c t (node.Variant h.0) h.1 refl,
    tag_at h.0 (codes "system_fatal") (IsUnit head) (IsUnit other) unit_at h.2,
    tag_at h.0 (codes "system_transient") (IsUnit head) (IsUnit other) unit_at h.3,
    tag_at h.0 (codes "destination_invalid") (IsUnit head) (IsUnit other) unit_at h.4,
    tag_at h.0 (codes "canister_reject") (IsUnit head) (IsUnit other) unit_at h.5,
    tag_at h.0 (codes "canister_error") (IsUnit head) (IsUnit other) unit_at h.6,
    tag_at h.0 (codes "future") (IsNumber head kind.Nat32) (IsNumber other kind.Nat32) (number_at kind.Nat32) h.7,
    tag_at h.0 (codes "call_error") (IsRefusal head) (IsRefusal other) refusal_at h.8,
  )

  abbrev Is : Node A → A → Type 0
  Is x t = head t ≡ x

  abbrev There : Node B → B → Type 0
  There y t = other t ≡ y

  abbrev wants_at : {ws us : List (Want A)} → ws ≡ us → close_wants c.close ws ≡ close_wants c.close us
  wants_at e = ap (close_wants c.close) e

  pub member_closed : (m : Member) (ws : List (Want A)) (n : Node A) → MemberTyped head m ws n → MemberTyped other m (close_wants c.close ws) (on_node c.close n)
  member_closed member.DebugPrint ws n h = (c.close h.0, wants_at h.1, text_at h.0 h.2, from n (h.0 ∷ []) (IsUnit head) (IsUnit other) unit_at h.3)
  member_closed member.DebugTrap ws n h =
      (c.close h.0, wants_at h.1, text_at h.0 h.2, from n (h.0 ∷ []) (Is node.Bottom) (There node.Bottom) (λ r e. at head other c r node.Bottom e refl) h.3)
  member_closed member.ErrorReject ws n h =
      (c.close h.0, wants_at h.1, text_at h.0 h.2, from n (h.0 ∷ []) (Is node.Error) (There node.Error) (λ r e. at head other c r node.Error e refl) h.3)
  member_closed member.ErrorMessage ws n h = (c.close h.0, wants_at h.1, at head other c h.0 node.Error h.2 refl, from n (h.0 ∷ []) (IsText head) (IsText other) text_at h.3)
  member_closed member.ErrorCode ws n h = (c.close h.0, wants_at h.1, at head other c h.0 node.Error h.2 refl, from n (h.0 ∷ []) (IsErrorCode head) (IsErrorCode other) error_code_at h.3)
  member_closed member.NatToText ws n h = (c.close h.0, wants_at h.1, number_at kind.Nat h.0 h.2, from n (h.0 ∷ []) (IsText head) (IsText other) text_at h.3)
  member_closed member.IntToText ws n h = (c.close h.0, wants_at h.1, number_at kind.Int h.0 h.2, from n (h.0 ∷ []) (IsText head) (IsText other) text_at h.3)
  member_closed member.ArrayTabulate ws n h = (
    c.close h.0,
    c.close h.1,
    c.close h.2,
    wants_at h.3,
    number_at kind.Nat h.0 h.4,
    at head other c h.1 (Function (h.0 ∷ []) h.2) h.5 refl,
    from n (h.0 ∷ h.1 ∷ []) (Is (node.Array h.2)) (There (node.Array (c.close h.2))) (λ r e. at head other c r (node.Array h.2) e refl) h.6,
  )
  member_closed member.ArrayInit ws n h = (
    c.close h.0,
    c.close h.1,
    wants_at h.2,
    number_at kind.Nat h.0 h.3,
    from n (h.0 ∷ h.1 ∷ []) (Is (node.MutArray h.1)) (There (node.MutArray (c.close h.1))) (λ r e. at head other c r (node.MutArray h.1) e refl) h.4,
  )
  member_closed member.ArrayFreeze ws n h = (
    c.close h.0,
    c.close h.1,
    wants_at h.2,
    at head other c h.0 (node.MutArray h.1) h.3 refl,
    from n (h.0 ∷ []) (Is (node.Array h.1)) (There (node.Array (c.close h.1))) (λ r e. at head other c r (node.Array h.1) e refl) h.4,
  )
  member_closed member.ArrayThaw ws n h = (
    c.close h.0,
    c.close h.1,
    wants_at h.2,
    at head other c h.0 (node.Array h.1) h.3 refl,
    from n (h.0 ∷ []) (Is (node.MutArray h.1)) (There (node.MutArray (c.close h.1))) (λ r e. at head other c r (node.MutArray h.1) e refl) h.4,
  )
  member_closed member.PrincipalFromActor ws n h = (
    c.close h.0,
    wants_at h.1,
    at head other c h.0 (node.Actor []) h.2 refl,
    from n (h.0 ∷ []) (Is node.Principal) (There node.Principal) (λ r e. at head other c r node.Principal e refl) h.3,
  )
  member_closed member.ArraySize ws n h = (c.close h.0, c.close h.1, wants_at h.2, element_at head other c h.0 h.1 h.3, from n [] (IsNumber head kind.Nat) (IsNumber other kind.Nat) (number_at kind.Nat) h.4)
  member_closed member.ArrayVals ws n h =
      (c.close h.0, c.close h.1, wants_at h.2, element_at head other c h.0 h.1 h.3, from n [] (λ r. IsIterator head r h.1) (λ r. IsIterator other r (c.close h.1)) (iterator_at h.1) h.4)
  member_closed member.ArrayKeys ws n h = (
    c.close h.0,
    c.close h.1,
    c.close h.2,
    wants_at h.3,
    element_at head other c h.0 h.1 h.4,
    number_at kind.Nat h.2 h.5,
    from n [] (λ r. IsIterator head r h.2) (λ r. IsIterator other r (c.close h.2)) (iterator_at h.2) h.6,
  )
  member_closed member.TextSize ws n h = (c.close h.0, wants_at h.1, text_at h.0 h.2, from n [] (IsNumber head kind.Nat) (IsNumber other kind.Nat) (number_at kind.Nat) h.3)
  member_closed member.TextChars ws n h = (
    c.close h.0,
    c.close h.1,
    wants_at h.2,
    text_at h.0 h.3,
    at head other c h.1 node.Char h.4 refl,
    from n [] (λ r. IsIterator head r h.1) (λ r. IsIterator other r (c.close h.1)) (iterator_at h.1) h.5,
  )
  member_closed member.NextVal ws n h = (
    c.close h.0,
    c.close h.1,
    c.close h.2,
    wants_at h.3,
    element_at head other c h.0 h.1 h.4,
    number_at kind.Nat h.2 h.5,
    from n [] (Is (node.Opt h.1)) (There (node.Opt (c.close h.1))) (λ r e. at head other c r (node.Opt h.1) e refl) h.6,
  )
  member_closed member.NextKey ws n h = (
    c.close h.0,
    c.close h.1,
    c.close h.2,
    wants_at h.3,
    element_at head other c h.0 h.1 h.4,
    number_at kind.Nat h.2 h.5,
    from n [] (Is (node.Opt h.2)) (There (node.Opt (c.close h.2))) (λ r e. at head other c r (node.Opt h.2) e refl) h.6,
  )
  member_closed member.NextChar ws n h = (
    c.close h.0,
    c.close h.1,
    c.close h.2,
    wants_at h.3,
    text_at h.0 h.4,
    at head other c h.1 node.Char h.5 refl,
    number_at kind.Nat h.2 h.6,
    from n [] (Is (node.Opt h.1)) (There (node.Opt (c.close h.1))) (λ r e. at head other c r (node.Opt h.1) e refl) h.7,
  )

-- the type of a built-in function is no type parameter
module _ {A : Type 0} (head : A → Node A) where
  function_form : (n x : Node A) → n ≡ x → IsNoVariable x → IsNoVariable n
  function_form n x e i = subst IsNoVariable (sym e) i

  pub member_form : (m : Member) (ws : List (Want A)) (n : Node A) → MemberTyped head m ws n → IsNoVariable n
  member_form member.DebugPrint ws n h = function_form n _ h.3.1 refl
  member_form member.DebugTrap ws n h = function_form n _ h.3.1 refl
  member_form member.ErrorReject ws n h = function_form n _ h.3.1 refl
  member_form member.ErrorMessage ws n h = function_form n _ h.3.1 refl
  member_form member.ErrorCode ws n h = function_form n _ h.3.1 refl
  member_form member.NatToText ws n h = function_form n _ h.3.1 refl
  member_form member.IntToText ws n h = function_form n _ h.3.1 refl
  member_form member.ArrayTabulate ws n h = function_form n _ h.6.1 refl
  member_form member.ArrayInit ws n h = function_form n _ h.4.1 refl
  member_form member.ArrayFreeze ws n h = function_form n _ h.4.1 refl
  member_form member.ArrayThaw ws n h = function_form n _ h.4.1 refl
  member_form member.PrincipalFromActor ws n h = function_form n _ h.3.1 refl
  member_form member.ArraySize ws n h = function_form n _ h.4.1 refl
  member_form member.ArrayVals ws n h = function_form n _ h.4.1 refl
  member_form member.ArrayKeys ws n h = function_form n _ h.6.1 refl
  member_form member.TextSize ws n h = function_form n _ h.3.1 refl
  member_form member.TextChars ws n h = function_form n _ h.5.1 refl
  member_form member.NextVal ws n h = function_form n _ h.6.1 refl
  member_form member.NextKey ws n h = function_form n _ h.6.1 refl
  member_form member.NextChar ws n h = function_form n _ h.7.1 refl
