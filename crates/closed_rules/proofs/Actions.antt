-- Actions take and give what theirs come to, where they name no type.
use Rattle.std.proofs.Common.{◌≡◌, ◌∙◌, List, ◌∷◌, map, refl, sym, ap, subst}
use Rattle.mo_num.specs.declared.kind.Kind.TheVariants as kind
use Rattle.mo_types.specs.declared.node.Node.{Node}
use Rattle.mo_types.specs.declared.node.Node.TheVariants as node
use Rattle.mo_types.specs.declared.node.TypeId.{TypeId}
use Rattle.mo_types.specs.Heads.{opt_of}
use Rattle.mo_types.specs.Sub.{IsSomething}
use Rattle.mo_subtype.specs.Renamed.{on_node}
use Rattle.typed_tree.specs.declared.action.Action.{Action}
use Rattle.typed_tree.specs.declared.action.Action.TheVariants as action
use Rattle.typed_tree.specs.declared.action.Member.{Member}
use Rattle.typed_tree.specs.ActionTypes.{Context, ActionTyped, IsError, IsNever}
use Rattle.typed_tree.specs.MemberTypes.{Function, MemberTyped}
use Rattle.typed_tree.specs.Wants.{Want, Of}
use Rattle.closed_types.specs.Closings.{IsNoVariable, Closing}
use Rattle.closed_rules.specs.ClosedWants.{close_want, close_wants, close_context, ActsOnNoType}
use Rattle.closed_rules.proofs.Heads.{got, types_map, at}
use Rattle.closed_rules.proofs.Members.{number_at, member_closed, member_form}
use Rattle.closed_rules.proofs.Operations.{one_at, gives_at, units, texts, operation_closed}

module _ (head other : TypeId → Node TypeId) (c : Closing head other) where
  abbrev ws_at : List (Want TypeId) → List (Want TypeId)
  ws_at ws = close_wants c.close ws

  abbrev w_at : Want TypeId → Want TypeId
  w_at w = close_want c.close w

  abbrev Has : Node TypeId → TypeId → Type 0
  Has x t = head t ≡ x

  abbrev HasThere : Node TypeId → TypeId → Type 0
  HasThere x t = other t ≡ x

  member_at : (m : Member) (ws : List (Want TypeId)) (t : TypeId) → MemberTyped head m ws (head t) → MemberTyped other m (ws_at ws) (other (c.close t))
  member_at m ws t h = subst (MemberTyped other m (ws_at ws)) (sym (c.others t (member_form head m ws (head t) h))) (member_closed head other c m ws (head t) h)

  -- of options alone something is the part
  option_on : (x : Node TypeId) → IsSomething (opt_of x) → IsNoVariable x × IsSomething (opt_of (on_node c.close x))
  option_on (node.Opt a) h = (refl, tt)
  option_on x h = absurd h

  option_at : (t : TypeId) → IsSomething (opt_of (head t)) → IsSomething (opt_of (other (c.close t)))
  option_at t h = let o = option_on (head t) h in subst (λ x. IsSomething (opt_of x)) (sym (c.others t o.0)) o.1

  pub action_closed : (x : Context) (a : Action) (ws : List (Want TypeId)) (w : Want TypeId) → ActsOnNoType a → ActionTyped head x a ws w → ActionTyped other (close_context c.close x) a (ws_at ws) (w_at w)
  action_closed x (action.Operate o) ws w i h = operation_closed head other c o ws w i h
  action_closed x (action.BuiltIn m) ws w i h = gives_at head other c (λ t. MemberTyped head m ws (head t)) (λ t. MemberTyped other m (ws_at ws) (other t)) (member_at m ws) w h
  action_closed x action.New ws w i h = (c.close h.0, ap ws_at h.1, ap w_at h.2)
  action_closed x action.Read ws w i h = (c.close h.0, ap ws_at h.1, ap w_at h.2)
  action_closed x action.Write ws w i h = (c.close h.0, ap ws_at h.1, units head other c w h.2)
  action_closed x action.WriteElement ws w i h = (
    c.close h.0,
    c.close h.1,
    c.close h.2,
    ap ws_at h.3,
    at head other c h.0 (node.MutArray h.2) h.4 refl,
    number_at head other c kind.Nat h.1 h.5,
    units head other c w h.6,
  )
  action_closed x action.Print ws w i h = (texts head other c ws h.0, units head other c w h.1)
  action_closed x action.Throw ws w i h = (
    h.0,
    one_at head other c (IsError head) (IsError other) (λ t e. at head other c t node.Error e refl) ws h.1,
    gives_at head other c (IsNever head) (IsNever other) (λ t e. at head other c t node.Bottom e refl) w h.2,
  )
  action_closed x action.Call ws w i h = (
    c.close h.0,
    c.close h.1,
    map c.close h.2,
    at head other c h.0 (Function h.2 h.1) h.3 refl,
    ap ws_at h.4 ∙ ap (λ (us : List (Want TypeId)). Of (c.close h.0) ∷ us) (types_map c.close h.2),
    ap w_at h.5,
  )
  action_closed x (action.Send ps rs) ws w i h = absurd i
  action_closed x action.Await ws w i h = (c.close h.0, h.1, ap ws_at h.2, ap w_at h.3)
  action_closed x (action.Break l) ws w i h =
      (c.close h.0, got c.close x.labels l h.0 h.1, ap ws_at h.2, gives_at head other c (IsNever head) (IsNever other) (λ t e. at head other c t node.Bottom e refl) w h.3)
  action_closed x (action.Unwrap l) ws w i h = (
    c.close h.0,
    c.close h.1,
    c.close h.2,
    got c.close x.labels l h.0 h.3,
    option_at h.0 h.4,
    ap ws_at h.5,
    at head other c h.1 (node.Opt h.2) h.6 refl,
    ap w_at h.7,
  )
