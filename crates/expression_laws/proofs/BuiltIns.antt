-- Built-in functions without type parameters.
use Rattle.std.proofs.Common.{◌≡◌, inl, inr, ℕ, true, false, List, [], ◌∷◌, map, refl, sym, subst}
use Rattle.std.specs.Prelude.{codes}
use Rattle.mo_num.specs.declared.kind.Kind.TheVariants as kind
use Rattle.mo_scopes.specs.declared.library.Member.{Member}
use Rattle.mo_scopes.specs.declared.library.Member.TheVariants as library
use Rattle.mo_types.specs.declared.node.Field.{Field}
use Rattle.mo_types.specs.declared.node.Node.TheVariants as node
use Rattle.mo_types.specs.declared.node.Sort.TheVariants as sort
use Rattle.mo_types.specs.declared.node.TypeId.{TypeId}
use Rattle.mo_types.specs.Graph.{head_at}
use Rattle.mo_subtype.specs.Renamed.{on_field}
use Rattle.subtype_laws.specs.Reached.{Among}
use Rattle.typed_tree.specs.declared.action.Action.TheVariants as action
use Rattle.typed_tree.specs.Instances.{MentionsOnly}
use Rattle.typed_tree.specs.MemberTypes.{Function, IsErrorCode, MemberTyped}
use Rattle.typing_rules.specs.Heads.{head}
use Rattle.typing_rules.specs.Members.{function, member_bound, error_code, refusal, nat32}
use Rattle.typing_rules.specs.Patterns.{is_empty}
use Rattle.typing_rules.specs.Terms.{Term}
use Rattle.typing_rules.specs.Terms as t
use Rattle.desugaring.specs.Nodes.{built_in}
use Rattle.desugaring.specs.Nodes as nodes
use Rattle.desugaring_laws.specs.Known.{IsFine}
use Rattle.desugaring_laws.proofs.Patterns.{unit_fine}
use Rattle.expression_laws.proofs.Ending.{Setting, Place, there, inside, Known, Value, acts}
use Rattle.expression_laws.proofs.Heads.{number_head, number_fine, object_head, variant_head, text_head, text_fine, error_head, error_fine, bottom_head, bottom_fine, made_fine}
use Rattle.expression_laws.proofs.Members.{function_at, function_there, function_fine}
use Rattle.expression_laws.proofs.Simple.{unit_there, only}

module _ (S : Setting) (A : Place S) where
  abbrev vs : List ℕ
  vs = A.context.parameters

  two_scoped : (u v : Term) → IsFine S.defs vs u → IsFine S.defs vs v → (z : Term) → Among z (u ∷ v ∷ []) → MentionsOnly (head S.defs) vs z
  two_scoped u v h k z (inl e) = subst (λ s. MentionsOnly (head S.defs) vs s) e h.scoped
  two_scoped u v h k z (inr (inl e)) = subst (λ s. MentionsOnly (head S.defs) vs s) e k.scoped
  two_scoped u v h k z (inr (inr m)) = absurd m

  -- a function of one parameter
  function_of_one : (u r : Term) → IsFine S.defs vs u → IsFine S.defs vs r → Among (function (u ∷ []) r) S.terms → Known S A (function (u ∷ []) r)
  function_of_one u r h k m = record { there = m; fine = function_fine S A (u ∷ []) r (two_scoped u r h k) }

  parameter_known : (u r : Term) → Known S A (function (u ∷ []) r) → Known S A u
  parameter_known u r k = inside S vs (function (u ∷ []) r) u k (node.Func sort.Local (u ∷ []) (r ∷ [])) (function_at S.defs (u ∷ []) r) (inl refl)

  result_known : (u r : Term) → Known S A (function (u ∷ []) r) → Known S A r
  result_known u r k = inside S vs (function (u ∷ []) r) r k (node.Func sort.Local (u ∷ []) (r ∷ [])) (function_at S.defs (u ∷ []) r) (inr (inl refl))

  -- a built-in function from one type to another
  from_one : (m : Member) (u r : Term) → (k : Known S A (function (u ∷ []) r)) → MemberTyped (head_at S.slots) (built_in m) [] (Function (S.number u ∷ []) (S.number r)) → Value S A (function (u ∷ []) r) (nodes.acts S.defs S.number (function (u ∷ []) r) (action.BuiltIn (built_in m)) [])
  from_one m u r k h =
      acts S A (function (u ∷ []) r) k (action.BuiltIn (built_in m)) [] [] (S.number (function (u ∷ []) r), refl, subst (λ y. MemberTyped (head_at S.slots) (built_in m) [] y) (sym (function_there S A (u ∷ []) r k)) h) tt

  -- ---- the code of an error

  abbrev refusal_field : Field Term
  refusal_field = record { label = codes "err_code"; mutable = false; part = nat32 }

  refusal_fine : IsFine S.defs vs refusal
  refusal_fine = made_fine S.defs vs refusal (node.Object (refusal_field ∷ [])) (object_head S.defs (t.constant (codes "err_code") nat32 t.NoFields)) tt refl (only S A nat32 (number_fine S.defs vs kind.Nat32).scoped)

  abbrev tag : List ℕ → Term → Field Term
  tag l u = record { label = l; mutable = false; part = u }

  abbrev code_tags : List (Field Term)
  code_tags =
      tag (codes "system_fatal") t.unit ∷ tag (codes "system_transient") t.unit ∷ tag (codes "destination_invalid") t.unit ∷ tag (codes "canister_reject") t.unit ∷ tag (codes "canister_error") t.unit
      ∷ tag (codes "future") nat32 ∷ tag (codes "call_error") refusal ∷ []

  code_head : head S.defs error_code ≡ node.Variant code_tags
  code_head =
      variant_head S.defs
      (t.constant (codes "system_fatal") t.unit (t.constant (codes "system_transient") t.unit (t.constant (codes "destination_invalid") t.unit (t.constant (codes "canister_reject") t.unit
      (t.constant (codes "canister_error") t.unit (t.constant (codes "future") nat32 (t.constant (codes "call_error") refusal t.NoFields)))))))

  code_fine : IsFine S.defs vs error_code
  code_fine = made_fine S.defs vs error_code (node.Variant code_tags) code_head tt refl each where
    unit_scoped : MentionsOnly (head S.defs) vs t.unit
    unit_scoped = (unit_fine S.defs vs).scoped

    each : (v : Term) → Among v (t.unit ∷ t.unit ∷ t.unit ∷ t.unit ∷ t.unit ∷ nat32 ∷ refusal ∷ []) → MentionsOnly (head S.defs) vs v
    each v (inl e) = subst (λ z. MentionsOnly (head S.defs) vs z) e unit_scoped
    each v (inr (inl e)) = subst (λ z. MentionsOnly (head S.defs) vs z) e unit_scoped
    each v (inr (inr (inl e))) = subst (λ z. MentionsOnly (head S.defs) vs z) e unit_scoped
    each v (inr (inr (inr (inl e)))) = subst (λ z. MentionsOnly (head S.defs) vs z) e unit_scoped
    each v (inr (inr (inr (inr (inl e))))) = subst (λ z. MentionsOnly (head S.defs) vs z) e unit_scoped
    each v (inr (inr (inr (inr (inr (inl e)))))) = subst (λ z. MentionsOnly (head S.defs) vs z) e (number_fine S.defs vs kind.Nat32).scoped
    each v (inr (inr (inr (inr (inr (inr (inl e))))))) = subst (λ z. MentionsOnly (head S.defs) vs z) e refusal_fine.scoped
    each v (inr (inr (inr (inr (inr (inr (inr m))))))) = absurd m

  nat32_there : Known S A nat32 → head_at S.slots (S.number nat32) ≡ node.Number kind.Nat32
  nat32_there k = there S nat32 k.there (node.Number kind.Nat32) (number_head S.defs kind.Nat32)

  code_there : Known S A error_code → IsErrorCode (head_at S.slots) (S.number error_code)
  code_there k =
      let n = inside S vs error_code nat32 k (node.Variant code_tags) code_head (inr (inr (inr (inr (inr (inl refl)))))) in
      let r = inside S vs error_code refusal k (node.Variant code_tags) code_head (inr (inr (inr (inr (inr (inr (inl refl))))))) in
      let u : Field TypeId = record { label = codes "err_code"; mutable = false; part = S.number nat32 } in (
        map (on_field S.number) code_tags,
        there S error_code k.there (node.Variant code_tags) code_head,
        (S.number t.unit, (on_field S.number (tag (codes "system_fatal") t.unit), refl, refl, refl), unit_there S),
        (S.number t.unit, (on_field S.number (tag (codes "system_transient") t.unit), refl, refl, refl), unit_there S),
        (S.number t.unit, (on_field S.number (tag (codes "destination_invalid") t.unit), refl, refl, refl), unit_there S),
        (S.number t.unit, (on_field S.number (tag (codes "canister_reject") t.unit), refl, refl, refl), unit_there S),
        (S.number t.unit, (on_field S.number (tag (codes "canister_error") t.unit), refl, refl, refl), unit_there S),
        (S.number nat32, (on_field S.number (tag (codes "future") nat32), refl, refl, refl), nat32_there n),
        (
          S.number refusal,
          (on_field S.number (tag (codes "call_error") refusal), refl, refl, refl),
          (u, there S refusal r.there (node.Object (refusal_field ∷ [])) (object_head S.defs (t.constant (codes "err_code") nat32 t.NoFields)), refl, refl, nat32_there n),
        ),
      )

  -- ---- each of them

  actor_head : head S.defs (t.Actor t.NoFields) ≡ node.Actor []
  unfolding head
  actor_head = refl

  principal_head : head S.defs t.Principal ≡ node.Principal
  unfolding head
  principal_head = refl

  -- a built-in function without type parameters
  pub built_in_value : (m : Member) → is_empty (member_bound m).generics ≡ true → Among (member_bound m).type S.terms → Value S A (member_bound m).type (nodes.acts S.defs S.number (member_bound m).type (action.BuiltIn (built_in m)) [])
  built_in_value library.DebugPrint e m =
      let k = function_of_one t.Text t.unit (text_fine S.defs vs) (unit_fine S.defs vs) m in
      from_one library.DebugPrint t.Text t.unit k (S.number t.Text, refl, there S t.Text (parameter_known t.Text t.unit k).there node.Text (text_head S.defs), (S.number t.unit, refl, unit_there S))
  built_in_value library.DebugTrap e m =
      let k = function_of_one t.Text t.Bottom (text_fine S.defs vs) (bottom_fine S.defs vs) m in
      from_one library.DebugTrap t.Text t.Bottom k
      (S.number t.Text, refl, there S t.Text (parameter_known t.Text t.Bottom k).there node.Text (text_head S.defs), (S.number t.Bottom, refl, there S t.Bottom (result_known t.Text t.Bottom k).there node.Bottom (bottom_head S.defs)))
  built_in_value library.ErrorReject e m =
      let k = function_of_one t.Text t.Error (text_fine S.defs vs) (error_fine S.defs vs) m in
      from_one library.ErrorReject t.Text t.Error k
      (S.number t.Text, refl, there S t.Text (parameter_known t.Text t.Error k).there node.Text (text_head S.defs), (S.number t.Error, refl, there S t.Error (result_known t.Text t.Error k).there node.Error (error_head S.defs)))
  built_in_value library.ErrorMessage e m =
      let k = function_of_one t.Error t.Text (error_fine S.defs vs) (text_fine S.defs vs) m in
      from_one library.ErrorMessage t.Error t.Text k
      (S.number t.Error, refl, there S t.Error (parameter_known t.Error t.Text k).there node.Error (error_head S.defs), (S.number t.Text, refl, there S t.Text (result_known t.Error t.Text k).there node.Text (text_head S.defs)))
  built_in_value library.ErrorCode e m =
      let k = function_of_one t.Error error_code (error_fine S.defs vs) code_fine m in
      from_one library.ErrorCode t.Error error_code k
      (S.number t.Error, refl, there S t.Error (parameter_known t.Error error_code k).there node.Error (error_head S.defs), (S.number error_code, refl, code_there (result_known t.Error error_code k)))
  built_in_value library.NatToText e m =
      let k = function_of_one t.nat t.Text (number_fine S.defs vs kind.Nat) (text_fine S.defs vs) m in
      from_one library.NatToText t.nat t.Text k
      (S.number t.nat, refl, there S t.nat (parameter_known t.nat t.Text k).there (node.Number kind.Nat) (number_head S.defs kind.Nat), (S.number t.Text, refl, there S t.Text (result_known t.nat t.Text k).there node.Text (text_head S.defs)))
  built_in_value library.IntToText e m =
      let k = function_of_one t.int t.Text (number_fine S.defs vs kind.Int) (text_fine S.defs vs) m in
      from_one library.IntToText t.int t.Text k
      (S.number t.int, refl, there S t.int (parameter_known t.int t.Text k).there (node.Number kind.Int) (number_head S.defs kind.Int), (S.number t.Text, refl, there S t.Text (result_known t.int t.Text k).there node.Text (text_head S.defs)))
  built_in_value library.PrincipalFromActor e m =
      let a = made_fine S.defs vs (t.Actor t.NoFields) (node.Actor []) actor_head tt refl (λ v n. absurd n) in
      let p = made_fine S.defs vs t.Principal node.Principal principal_head tt refl (λ v n. absurd n) in
      let k = function_of_one (t.Actor t.NoFields) t.Principal a p m in
      from_one library.PrincipalFromActor (t.Actor t.NoFields) t.Principal k (
        S.number (t.Actor t.NoFields),
        refl,
        there S (t.Actor t.NoFields) (parameter_known (t.Actor t.NoFields) t.Principal k).there (node.Actor []) actor_head,
        (S.number t.Principal, refl, there S t.Principal (result_known (t.Actor t.NoFields) t.Principal k).there node.Principal principal_head),
      )
  built_in_value library.ArrayTabulate e m = cc
  built_in_value library.ArrayInit e m = cc
  built_in_value library.ArrayFreeze e m = cc
  built_in_value library.ArrayThaw e m = cc
