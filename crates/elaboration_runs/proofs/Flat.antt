-- Where a function makes the elements of an array, no value is gone through; but a body's arguments may not match.
use Rattle.std.proofs.Common.{◌≡◌, ◌⊎◌, inl, inr, ℕ, zero, suc, Bool, true, false, List, [], ◌∷◌, Option, Some, None, refl, sym, subst}
use Rattle.std.specs.Prelude.{cond, pos}
use Rattle.mo_types.specs.declared.datum.Datum.TheVariants as part
use Rattle.mo_values.specs.Shapes as shape
use Rattle.core_ir.specs.Worlds.{World, Context}
use Rattle.core_ir.specs.Expressions.{Core}
use Rattle.core_ir.specs.CoreMachine as core_machine
use Rattle.typed_tree.specs.declared.action.Action.TheVariants as action
use Rattle.typed_tree.specs.declared.action.Member.{Member}
use Rattle.typed_tree.specs.declared.action.Member.TheVariants as member
use Rattle.typed_tree.specs.Language.{Exp, Functions, NoFunction, AFunction}
use Rattle.typed_tree.specs.Patterns.{Found, matches_all}
use Rattle.mo_machine.specs.Values.{Value, Made, Closure, BuiltIn, Code, leaf, listed, shapes_list}
use Rattle.mo_machine.specs.Acts.{Store, Act, Goes, Prints, Asks, Awaits, Leaves, Throws, Traps, Stuck}
use Rattle.mo_machine.specs.Calls.{are_as_many, entered, entering, call_function}
use Rattle.mo_machine.specs.Environments.{Environment}
use Rattle.mo_machine.specs.Frames as machine
use Rattle.mo_machine.specs.Frames.{Returning, Stack, Ready}
use Rattle.mo_machine.specs.Jumps.{on_stack}
use Rattle.mo_machine.specs.Members.{body_of, in_frame, call_member}
use Rattle.mo_machine.specs.Reductions.{reduces}
use Rattle.elaboration_values.specs.Belonging.{Known}
use Rattle.elaboration_steps.specs.Stacks.{making_array, gathering_on, WorldBelongs, GatheringBelongs, Coming, AtNext, AtAll}
use Rattle.elaboration_steps.specs.Follows.{Start, start, InBody, Acts, TrapsInBody, Suits}
use Rattle.elaboration_steps.proofs.GatheringCalls.{closure_follows, gathers_reduce}

abbrev pub levels_of : Act → ℕ
levels_of (Goes cost store f k) = cost.levels
levels_of (Prints cost text f k) = cost.levels
levels_of (Throws cost error) = cost.levels
levels_of (Traps cost text) = cost.levels
levels_of _ = 0

-- but for a trap
abbrev pub LevelUnlessTrap : Act → Type 0
LevelUnlessTrap (Traps cost text) = Unit {0}
LevelUnlessTrap a = levels_of a ≡ 0

-- a trap may come in a body that Core has entered
module _ (program : Core) (context : Context) (nodes : ℕ) (before : Start) (held : ℕ) (known : List Known) (world : World) (store : Store) (k0 : Stack) (cf : core_machine.Focus) (ck : List core_machine.Frame) where
  abbrev pub Lightly : (a : Act) → Acts program context nodes before held known world store k0 0 cf ck a → Type 0
  Lightly (Traps cost text) r = (cost.levels ≡ 0) ⊎ InBody program context nodes before cost.levels r.through r.cost.levels r.ck'
  Lightly a r = levels_of a ≡ 0

  lightly : (a : Act) (r : Acts program context nodes before held known world store k0 0 cf ck a) → levels_of a ≡ 0 → Lightly a r
  lightly (Traps cost text) r h = inl h
  lightly (Goes cost after f k) r h = h
  lightly (Prints cost text f k) r h = h
  lightly (Asks request) r h = h
  lightly (Awaits n call) r h = h
  lightly (Leaves n v) r h = h
  lightly (Throws cost error) r h = h
  lightly Stuck r h = h

  in_body : (a : Act) (r : Acts program context nodes before held known world store k0 0 cf ck a) → TrapsInBody program context nodes before held known world store k0 0 cf ck a r → LevelUnlessTrap a → Lightly a r
  in_body (Traps cost text) r b h = inr b
  in_body (Goes cost after f k) r b h = h
  in_body (Prints cost text f k) r b h = h
  in_body (Asks request) r b h = h
  in_body (Awaits n call) r b h = h
  in_body (Leaves n v) r b h = h
  in_body (Throws cost error) r b h = h
  in_body Stuck r b h = h

module _ (store : Store) (k : Stack) where
  abbrev Flat : Act → Type 0
  Flat a = levels_of (on_stack store a k) ≡ 0

  abbrev FlatUnlessTrap : Act → Type 0
  FlatUnlessTrap a = LevelUnlessTrap (on_stack store a k)

  entered_flat : (group : Functions) (env : Environment) (weight nodes : ℕ) (body : Exp) (o : Found Code) (b : Bool) → FlatUnlessTrap (cond b (entered store group env weight nodes body o) Stuck)
  entered_flat group env weight nodes body o false = refl
  entered_flat group env weight nodes body None true = tt
  entered_flat group env weight nodes body (Some vs) true = refl

  function_flat : (group : Functions) (env : Environment) (vs : List Value) (fns : Functions) (n : ℕ) → FlatUnlessTrap (call_function store group env fns n vs)
  function_flat group env vs NoFunction n = refl
  function_flat group env vs (AFunction how nodes ps body fns) zero = entered_flat group env (entering nodes ps (shapes_list vs)) nodes body (matches_all ps (shapes_list vs)) (are_as_many ps vs)
  function_flat group env vs (AFunction how nodes ps body fns) (suc n) = function_flat group env vs fns n

  frame_flat : (o : Option machine.Focus) → Flat (in_frame store o)
  frame_flat None = refl
  frame_flat (Some f) = refl

  member_flat : (m : Member) (hs : List Value) (v : Value) → Flat (call_member store m hs (v ∷ []))
  member_flat member.NextChar [] v = refl
  member_flat member.NextChar (t ∷ []) v = refl
  member_flat member.NextChar (t ∷ p ∷ []) v = refl
  member_flat member.NextChar (t ∷ p ∷ u ∷ hs) v = refl
  member_flat m hs v = frame_flat (body_of m hs (v ∷ []))

module _ (program : Core) (context : Context) (nodes : ℕ) (world : World) (known : List Known) (held : ℕ) (store : Store) (worlds : WorldBelongs program.groups known context.globals store world) where
  abbrev On : (g : machine.Focus) (l : Stack) (cf : core_machine.Focus) (ck : List core_machine.Frame) → Act → Type 0
  On g l cf ck a = (r : Acts program context nodes (start g l) held known world store l 0 cf ck a) × Lightly program context nodes (start g l) held known world store l cf ck a r

  pub gathers_lightly : (f : machine.Focus) (k : Stack) (cf : core_machine.Focus) (ck : List core_machine.Frame) → GatheringBelongs program context nodes world known held f k cf ck → Suits known f k → On f k cf ck (reduces context.head None store f k)
  gathers_lightly f k cf ck (Coming g j g2 more cg cj moves none falls owes gathering) suits = subst (λ a. On g j cg cj a) (sym (none store)) (tt, refl)
  gathers_lightly f k cf ck (AtNext b l (Closure group which env) (shape.Function i) done before next left j others cg cj function values eq around) suits =
      let r = closure_follows program context nodes held known world store worlds b l group which env i done before next left j others cg cj function values eq around suits in (
        r.0,
        in_body program context nodes (start (Ready action.Call (Closure group which env ∷ leaf (part.Number (pos next)) ∷ [])) (gathering_on (Closure group which env) done (suc next) left j)) held known world store (gathering_on (Closure group which env) done (suc next) left j) cg cj _ (r.0) (r.1)
            (function_flat store (gathering_on (Closure group which env) done (suc next) left j) group env (leaf (part.Number (pos next)) ∷ []) group which),
      )
  gathers_lightly f k cf ck (AtNext b l (Closure group which env) (shape.Made i us) done before next left j others cg cj function values eq around) suits = absurd function
  gathers_lightly f k cf ck (AtNext b l (BuiltIn m holds) h done before next left j others cg cj function values eq around) suits =
      let s : GatheringBelongs program context nodes world known held (Ready action.Call (BuiltIn m holds ∷ leaf (part.Number (pos next)) ∷ [])) (gathering_on (BuiltIn m holds) done (suc next) left j) cg cj = AtNext b l (BuiltIn m holds) h done before next left j others cg cj function values eq around in
      let r = gathers_reduce program context nodes held known world store worlds _ _ cg cj s suits in
      (r, lightly program context nodes (start (Ready action.Call (BuiltIn m holds ∷ leaf (part.Number (pos next)) ∷ [])) (gathering_on (BuiltIn m holds) done (suc next) left j)) held known world store (gathering_on (BuiltIn m holds) done (suc next) left j) cg cj _ r (member_flat store (gathering_on (BuiltIn m holds) done (suc next) left j) m (listed holds) (leaf (part.Number (pos next)))))
  gathers_lightly f k cf ck (AtNext b l (Made i us) h done before next left j others cg cj function values eq around) suits = (tt, refl)
  gathers_lightly f k cf ck (AtAll b l h done before next j others cg cj values eq around) suits =
      let s : GatheringBelongs program context nodes world known held (Ready making_array done) (Returning 0 ∷ j) cg cj = AtAll b l h done before next j others cg cj values eq around in
      (gathers_reduce program context nodes held known world store worlds _ _ cg cj s suits, refl)
