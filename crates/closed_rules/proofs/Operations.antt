-- Operations take and give what theirs come to, where they name no type.
use Rattle.std.proofs.Common.{◌≡◌, ◌⊎◌, ◌∙◌, inl, inr, ℕ, List, map, length, Some, refl, sym, ap}
use Rattle.std.proofs.lemmas.List.{length-map}
use Rattle.mo_num.specs.declared.kind.Kind.TheVariants as kind
use Rattle.mo_types.specs.declared.node.Node.{Node}
use Rattle.mo_types.specs.declared.node.Node.TheVariants as node
use Rattle.mo_types.specs.declared.node.TypeId.{TypeId}
use Rattle.mo_types.specs.Values.{copies}
use Rattle.mo_subtype.specs.Renamed.{on_field}
use Rattle.mo_values.specs.declared.operation.Operation.{Operation}
use Rattle.mo_values.specs.declared.operation.Operation.TheVariants as op
use Rattle.mo_values.specs.declared.operation.Scalar.{Scalar}
use Rattle.mo_values.specs.declared.operation.Scalar.TheVariants as scalar
use Rattle.mo_values.specs.Views.{scalar_type}
use Rattle.typed_tree.specs.MemberTypes.{IsUnit, IsNumber, IsText, IsErrorCode}
use Rattle.typed_tree.specs.OperationTypes.{IsBool, One, Gives, MakesArray, MakesObject, OperationTyped}
use Rattle.typed_tree.specs.Wants.{Want, Of, CellOf}
use Rattle.closed_types.specs.Closings.{Closing}
use Rattle.closed_rules.specs.ClosedWants.{close_want, close_wants, NamesNoType}
use Rattle.closed_rules.proofs.Heads.{copies_map, got, found_as, types_map, field_map, labels_map, among_map, at, shared_at, element_at}
use Rattle.closed_rules.proofs.Members.{unit_at, number_at, text_at, error_code_at}

module _ (head other : TypeId → Node TypeId) (c : Closing head other) where
  abbrev ws_at : List (Want TypeId) → List (Want TypeId)
  ws_at ws = close_wants c.close ws

  abbrev w_at : Want TypeId → Want TypeId
  w_at w = close_want c.close w

  pub one_at : (P Q : TypeId → Type 0) → ((t : TypeId) → P t → Q (c.close t)) → (ws : List (Want TypeId)) → One head P ws → One other Q (ws_at ws)
  one_at P Q k ws h = (c.close h.0, ap ws_at h.1, k h.0 h.2)

  pub gives_at : (P Q : TypeId → Type 0) → ((t : TypeId) → P t → Q (c.close t)) → (w : Want TypeId) → Gives head P w → Gives other Q (w_at w)
  gives_at P Q k w h = (c.close h.0, ap w_at h.1, k h.0 h.2)

  pub bool_at : (t : TypeId) → IsBool head t → IsBool other (c.close t)
  bool_at t e = at head other c t node.Bool e refl

  scalar_at : (s : Scalar) (t : TypeId) → head t ≡ scalar_type s → other (c.close t) ≡ scalar_type s
  scalar_at scalar.Bool t e = at head other c t node.Bool e refl
  scalar_at (scalar.Number k) t e = at head other c t (node.Number k) e refl
  scalar_at scalar.Char t e = at head other c t node.Char e refl
  scalar_at scalar.Text t e = at head other c t node.Text e refl
  scalar_at scalar.Blob t e = at head other c t node.Blob e refl

  bools : (w : Want TypeId) → Gives head (IsBool head) w → Gives other (IsBool other) (w_at w)
  bools w h = gives_at (IsBool head) (IsBool other) bool_at w h

  pub units : (w : Want TypeId) → Gives head (IsUnit head) w → Gives other (IsUnit other) (w_at w)
  units w h = gives_at (IsUnit head) (IsUnit other) (unit_at head other c) w h

  pub texts : (ws : List (Want TypeId)) → One head (IsText head) ws → One other (IsText other) (ws_at ws)
  texts ws h = one_at (IsText head) (IsText other) (text_at head other c) ws h

  abbrev Has : Node TypeId → TypeId → Type 0
  Has x t = head t ≡ x

  abbrev HasThere : Node TypeId → TypeId → Type 0
  HasThere x t = other t ≡ x

  many : (ws : List (Want TypeId)) (w : Want TypeId) → ws ≡ copies (length ws) w → ws_at ws ≡ copies (length (ws_at ws)) (w_at w)
  many ws w e = ap ws_at e ∙ copies_map w_at (length ws) w ∙ ap (λ n. copies n (w_at w)) (sym (length-map ws w_at))

  array_at : (ws : List (Want TypeId)) (t : TypeId) → MakesArray head ws t → MakesArray other (ws_at ws) (c.close t)
  array_at ws t (e, inl h) = (c.close e, inl (at head other c t (node.Array e) h.0 refl, many ws (Of e) h.1))
  array_at ws t (e, inr h) = (c.close e, inr (at head other c t (node.MutArray e) h.0 refl, many ws (CellOf e) h.1))

  object_at : (ls : List (List ℕ)) (ws : List (Want TypeId)) (t : TypeId) → MakesObject head ls ws t → MakesObject other ls (ws_at ws) (c.close t)
  object_at ls ws t h =
      (map (on_field c.close) h.0, at head other c t (node.Object h.0) h.1 refl, h.2, among_map c.close h.0 ls h.3, ap ws_at h.4 ∙ labels_map c.close h.0 ls)

  element_gives : (a e : TypeId) (w : Want TypeId) → ((head a ≡ node.Array e) × (w ≡ Of e)) ⊎ ((head a ≡ node.MutArray e) × (w ≡ CellOf e))
      → ((other (c.close a) ≡ node.Array (c.close e)) × (w_at w ≡ Of (c.close e))) ⊎ ((other (c.close a) ≡ node.MutArray (c.close e)) × (w_at w ≡ CellOf (c.close e)))
  element_gives a e w (inl h) = inl (at head other c a (node.Array e) h.0 refl, ap w_at h.1)
  element_gives a e w (inr h) = inr (at head other c a (node.MutArray e) h.0 refl, ap w_at h.1)

  pub operation_closed : (o : Operation) (ws : List (Want TypeId)) (w : Want TypeId) → NamesNoType o → OperationTyped head o ws w → OperationTyped other o (ws_at ws) (w_at w)
  operation_closed (op.Arithmetic o k) ws w i h = (c.close h.0, number_at head other c k h.0 h.1, ap ws_at h.2, ap w_at h.3)
  operation_closed (op.Wrap o k) ws w i h = (c.close h.0, h.1, number_at head other c k h.0 h.2, ap ws_at h.3, ap w_at h.4)
  operation_closed (op.Negate k) ws w i h = (c.close h.0, number_at head other c k h.0 h.1, ap ws_at h.2, ap w_at h.3)
  operation_closed (op.Compare o s) ws w i h = (c.close h.0, h.1, scalar_at s h.0 h.2, ap ws_at h.3, bools w h.4)
  operation_closed (op.Same s) ws w i h = (c.close h.0, scalar_at s h.0 h.1, ap ws_at h.2, bools w h.3)
  operation_closed (op.Equal t) ws w i h = absurd i
  operation_closed (op.Unequal t) ws w i h = absurd i
  operation_closed op.Not ws w i h = (one_at (IsBool head) (IsBool other) bool_at ws h.0, bools w h.1)
  operation_closed op.Assert ws w i h = (one_at (IsBool head) (IsBool other) bool_at ws h.0, units w h.1)
  operation_closed op.Concat ws w i h = (c.close h.0, text_at head other c h.0 h.1, ap ws_at h.2, ap w_at h.3)
  operation_closed op.TextSize ws w i h = (texts ws h.0, gives_at (IsNumber head kind.Nat) (IsNumber other kind.Nat) (number_at head other c kind.Nat) w h.1)
  operation_closed (op.ToText k) ws w i h =
      (one_at (IsNumber head k) (IsNumber other k) (number_at head other c k) ws h.0, gives_at (IsText head) (IsText other) (text_at head other c) w h.1)
  operation_closed op.MakeTuple ws w i h =
      (c.close h.0, ap w_at h.1, (map c.close h.2.0, at head other c h.0 (node.Tuple h.2.0) h.2.1 refl, ap ws_at h.2.2 ∙ types_map c.close h.2.0))
  operation_closed op.MakeOption ws w i h = (c.close h.0, ap w_at h.1, (c.close h.2.0, at head other c h.0 (node.Opt h.2.0) h.2.1 refl, ap ws_at h.2.2))
  operation_closed (op.MakeTag l) ws w i h = (
    c.close h.0,
    ap w_at h.1,
    (map (on_field c.close) h.2.0, on_field c.close h.2.1, at head other c h.0 (node.Variant h.2.0) h.2.2 refl, found_as c.close l h.2.0 h.2.1 h.2.3, ap ws_at h.2.4),
  )
  operation_closed op.MakeArray ws w i h = gives_at (MakesArray head ws) (MakesArray other (ws_at ws)) (array_at ws) w h
  operation_closed (op.MakeObject ls) ws w i h = gives_at (MakesObject head ls ws) (MakesObject other ls (ws_at ws)) (object_at ls ws) w h
  operation_closed (op.Project n) ws w i h =
      (c.close h.0, ap ws_at h.1, (map c.close h.2.0, c.close h.2.1, at head other c h.0 (node.Tuple h.2.0) h.2.2 refl, got c.close h.2.0 n h.2.1 h.2.3, ap w_at h.2.4))
  operation_closed (op.Field l) ws w i h = (
    c.close h.0,
    ap ws_at h.1,
    (
      map (on_field c.close) h.2.0,
      on_field c.close h.2.1,
      at head other c h.0 (node.Object h.2.0) h.2.2 refl,
      found_as c.close l h.2.0 h.2.1 h.2.3,
      ap w_at h.2.4 ∙ field_map c.close (Some h.2.1),
    ),
  )
  operation_closed op.Element ws w i h = (c.close h.0, c.close h.1, c.close h.2, ap ws_at h.3, number_at head other c kind.Nat h.1 h.4, element_gives h.0 h.2 w h.5)
  operation_closed op.ArraySize ws w i h = (
    (c.close h.0.0, ap ws_at h.0.1, (c.close h.0.2.0, element_at head other c h.0.0 h.0.2.0 h.0.2.1)),
    gives_at (IsNumber head kind.Nat) (IsNumber other kind.Nat) (number_at head other c kind.Nat) w h.1,
  )
  operation_closed (op.Method l) ws w i h = (
    c.close h.0,
    ap ws_at h.1,
    (
      map (on_field c.close) h.2.0,
      on_field c.close h.2.1,
      h.2.2,
      at head other c h.0 (node.Actor h.2.0) h.2.3 refl,
      found_as c.close l h.2.0 h.2.1 h.2.4,
      shared_at head other c h.2.1.part h.2.5,
      ap w_at h.2.6,
    ),
  )
  operation_closed op.PrincipalOf ws w i h = (
    (c.close h.0.0, ap ws_at h.0.1, (map (on_field c.close) h.0.2.0, at head other c h.0.0 (node.Actor h.0.2.0) h.0.2.1 refl)),
    gives_at (Has node.Principal) (HasThere node.Principal) (λ t e. at head other c t node.Principal e refl) w h.1,
  )
  operation_closed op.RejectError ws w i h = (texts ws h.0, gives_at (Has node.Error) (HasThere node.Error) (λ t e. at head other c t node.Error e refl) w h.1)
  operation_closed op.Message ws w i h =
      (one_at (Has node.Error) (HasThere node.Error) (λ t e. at head other c t node.Error e refl) ws h.0, gives_at (IsText head) (IsText other) (text_at head other c) w h.1)
  operation_closed op.Code ws w i h =
      (one_at (Has node.Error) (HasThere node.Error) (λ t e. at head other c t node.Error e refl) ws h.0, gives_at (IsErrorCode head) (IsErrorCode other) (error_code_at head other c) w h.1)
  operation_closed op.Trap ws w i h = (texts ws h.0, gives_at (Has node.Bottom) (HasThere node.Bottom) (λ t e. at head other c t node.Bottom e refl) w h.1)
  operation_closed (op.Fail text) ws w i h = (ap ws_at h.0, gives_at (Has node.Bottom) (HasThere node.Bottom) (λ t e. at head other c t node.Bottom e refl) w h.1)
