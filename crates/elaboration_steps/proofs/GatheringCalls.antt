-- Where a function makes the elements of an array, each move and each reduction is followed by Core.
use Rattle.std.proofs.Common.{◌≡◌, ℕ, zero, suc, ◌+◌, ◌*◌, Bool, false, List, [], ◌∷◌, length, Option, Some, None, slice_get, refl, sym, subst, arith}
use Rattle.std.specs.Prelude.{pos}
use Rattle.mo_num.specs.declared.kind.Kind.TheVariants as kind
use Rattle.mo_types.specs.declared.datum.Datum.TheVariants as part
use Rattle.mo_values.specs.declared.operation.Operation.TheVariants as op
use Rattle.mo_values.specs.Costs.{weighing}
use Rattle.mo_values.specs.Shapes.{Array, shapes}
use Rattle.mo_values.specs.Shapes as shape
use Rattle.core_ir.specs.Values as core_value
use Rattle.core_ir.specs.Values.{Handle}
use Rattle.core_ir.specs.Worlds.{MadeGroup, World, Context}
use Rattle.core_ir.specs.Executions.{heavier}
use Rattle.core_ir.specs.Expressions.{Core}
use Rattle.core_ir.specs.CoreMachine.{Frame, Caller, Focus, Give, focused, called, gather}
use Rattle.typed_tree.specs.declared.action.Action.{Action}
use Rattle.typed_tree.specs.declared.action.Action.TheVariants as action
use Rattle.typed_tree.specs.declared.action.Member.{Member}
use Rattle.typed_tree.specs.declared.action.Member.TheVariants as member
use Rattle.typed_tree.specs.Language.{Functions}
use Rattle.mo_machine.specs.Values.{Value, Values, Made, Closure, BuiltIn, ClosureCode, BuiltInCode, leaf, listed, value_of, shapes_list}
use Rattle.mo_machine.specs.Acts.{Store, Act}
use Rattle.mo_machine.specs.Actions as actions
use Rattle.mo_machine.specs.Frames as machine
use Rattle.mo_machine.specs.Calls.{call_function}
use Rattle.mo_machine.specs.Environments.{Environment}
use Rattle.mo_machine.specs.Frames.{Returning, Stack, Ready}
use Rattle.mo_machine.specs.Jumps.{on_stack}
use Rattle.mo_machine.specs.Members.{call_member}
use Rattle.mo_machine.specs.Moves.{move}
use Rattle.mo_machine.specs.Reductions.{reduces}
use Rattle.elaboration_values.specs.Belonging.{Known, OfFunctions, OfOne, OfMember, code_in, Names, Belongs, EachBelongs}
use Rattle.elaboration_steps.specs.Stacks.{Labels, no_labels, owed, alone, making_array, gathering_on, gathering_of, HeldAt, MemberBelongs, WorldBelongs, AtValue, Around, InFunction, InGathering, GatheringBelongs, Coming, AtNext, AtAll, Gathered}
use Rattle.elaboration_steps.specs.Follows.{start, MoveFollows, Suits, Acts, TrapsInBody}
use Rattle.elaboration_steps.proofs.Entering.{call_by_follows}
use Rattle.elaboration_steps.proofs.MemberEntries.{alone_enters}
use Rattle.elaboration_steps.proofs.MemberCalls.{first_member, no_member}
use Rattle.elaboration_steps.proofs.Members.{held_none, alone_holds_none}
use Rattle.elaboration_steps.proofs.Paths.{nothing_more, waits_in, does}
use Rattle.elaboration_steps.proofs.Rows.{alone_row, member_acts}
use Rattle.elaboration_steps.proofs.Values.{value_belongs, as_many, all_alike, many_shapes}

module _ (program : Core) (context : Context) (nodes : ℕ) (held : ℕ) (known : List Known) (world : World) (store : Store) (worlds : WorldBelongs program.groups known context.globals store world) where
  abbrev A : machine.Focus → Stack → Focus → List Frame → Act → Type 0
  A f k = Acts program context nodes (start f k) held known world store k 0

  -- ---- a call

  module _ (b : Bool) (l : Labels) (f : Value) (h : core_value.Value) (function : Belongs known f h) (done : List Value) (before : List core_value.Value) (values : EachBelongs known done before) (next left : ℕ) (j : Stack) (others : List Frame) (cf : Focus) (ck : List Frame)
      (around : Around program context nodes world known b l held j others) where
    abbrev k : Stack
    k = gathering_on f done (suc next) left j

    abbrev place : Value
    place = leaf (part.Number (pos next))

    abbrev at : core_value.Value
    at = core_value.number next

    abbrev inside : List Frame
    inside = Caller 0 None ∷ others

    abbrev ready : machine.Focus
    ready = Ready action.Call (f ∷ place ∷ [])

    abbrev T : Act → Type 0
    T a = A ready k cf ck (on_stack store a k)

    abbrev Entered : Handle → Type 0
    Entered i = focused program context nodes world cf ck ≡ heavier 1 (called program context nodes world (shape.Function i) (at ∷ []) (Some (gathering_of h before (suc next) left)) inside)

    module _ (i : Handle) (eq : Entered i) where
      alone_called : (made : MadeGroup) → slice_get world.groups i.group ≡ Some made → i.member ≡ 0 → (m : Member) (holds : Values) (a : Action) (hs : List Value) → alone m ≡ Some a → (g : MemberBelongs program.groups known context.globals m holds made) → HeldAt known made.seen g.levels hs → T (call_member store m hs (place ∷ []))
      alone_called made stands first m holds a (x ∷ hs) is g r = alone_holds_none store T m a x hs (place ∷ []) is tt
      alone_called made stands first m holds a [] is g r =
          member_acts store T m a [] (place ∷ []) (alone_row m a is) tt
          (alone_enters program context nodes (start ready k) held known world store k worlds 0 cf ck m holds i made stands first g (λ d. heavier 1 d) 1 (Some (gathering_of h before (suc next) left)) inside (λ s. refl)
          held (InGathering 0 b l held f h done before (suc next) left j [] others tt function values around) (omega arith) (omega arith) a (place ∷ []) (at ∷ []) is (held_none known made.seen g.levels r) refl ((refl, tt), tt) eq)

      -- only those of one argument are called so
      by_member : (made : MadeGroup) → slice_get world.groups i.group ≡ Some made → i.member ≡ 0 → (m : Member) (holds : Values) (hs : List Value) → (g : MemberBelongs program.groups known context.globals m holds made) → HeldAt known made.seen g.levels hs → T (call_member store m hs (place ∷ []))
      by_member made stands first member.DebugPrint holds hs g r = alone_called made stands first member.DebugPrint holds action.Print hs refl g r
      by_member made stands first member.DebugTrap holds hs g r = alone_called made stands first member.DebugTrap holds (action.Operate op.Trap) hs refl g r
      by_member made stands first member.ErrorReject holds hs g r = alone_called made stands first member.ErrorReject holds (action.Operate op.RejectError) hs refl g r
      by_member made stands first member.ErrorMessage holds hs g r = alone_called made stands first member.ErrorMessage holds (action.Operate op.Message) hs refl g r
      by_member made stands first member.ErrorCode holds hs g r = alone_called made stands first member.ErrorCode holds (action.Operate op.Code) hs refl g r
      by_member made stands first member.NatToText holds hs g r = alone_called made stands first member.NatToText holds (action.Operate (op.ToText kind.Nat)) hs refl g r
      by_member made stands first member.IntToText holds hs g r = alone_called made stands first member.IntToText holds (action.Operate (op.ToText kind.Int)) hs refl g r
      by_member made stands first member.PrincipalFromActor holds hs g r = alone_called made stands first member.PrincipalFromActor holds (action.Operate op.PrincipalOf) hs refl g r
      by_member made stands first member.ArrayTabulate holds [] g r = tt
      by_member made stands first member.ArrayTabulate holds (u ∷ hs) g r = tt
      by_member made stands first member.ArrayInit holds [] g r = tt
      by_member made stands first member.ArrayInit holds (u ∷ hs) g r = tt
      by_member made stands first member.ArrayFreeze holds [] g r = tt
      by_member made stands first member.ArrayFreeze holds (u ∷ hs) g r = tt
      by_member made stands first member.ArrayThaw holds [] g r = tt
      by_member made stands first member.ArrayThaw holds (u ∷ hs) g r = tt
      by_member made stands first member.ArraySize holds [] g r = tt
      by_member made stands first member.ArraySize holds (u ∷ []) g r = tt
      by_member made stands first member.ArraySize holds (u ∷ v ∷ hs) g r = tt
      by_member made stands first member.ArrayVals holds [] g r = tt
      by_member made stands first member.ArrayVals holds (u ∷ []) g r = tt
      by_member made stands first member.ArrayVals holds (u ∷ v ∷ hs) g r = tt
      by_member made stands first member.ArrayKeys holds [] g r = tt
      by_member made stands first member.ArrayKeys holds (u ∷ []) g r = tt
      by_member made stands first member.ArrayKeys holds (u ∷ v ∷ hs) g r = tt
      by_member made stands first member.TextSize holds [] g r = tt
      by_member made stands first member.TextSize holds (u ∷ []) g r = tt
      by_member made stands first member.TextSize holds (u ∷ v ∷ hs) g r = tt
      by_member made stands first member.TextChars holds [] g r = tt
      by_member made stands first member.TextChars holds (u ∷ []) g r = tt
      by_member made stands first member.TextChars holds (u ∷ v ∷ hs) g r = tt
      by_member made stands first member.NextVal holds [] g r = tt
      by_member made stands first member.NextVal holds (u ∷ []) g r = tt
      by_member made stands first member.NextVal holds (u ∷ v ∷ []) g r = tt
      by_member made stands first member.NextVal holds (u ∷ v ∷ x ∷ hs) g r = tt
      by_member made stands first member.NextKey holds [] g r = tt
      by_member made stands first member.NextKey holds (u ∷ []) g r = tt
      by_member made stands first member.NextKey holds (u ∷ v ∷ []) g r = tt
      by_member made stands first member.NextKey holds (u ∷ v ∷ x ∷ hs) g r = tt
      by_member made stands first member.NextChar holds [] g r = tt
      by_member made stands first member.NextChar holds (u ∷ []) g r = tt
      by_member made stands first member.NextChar holds (u ∷ v ∷ []) g r = tt
      by_member made stands first member.NextChar holds (u ∷ v ∷ x ∷ hs) g r = tt

      member_follows : (m : Member) (holds : Values) → Names known (BuiltInCode m holds) i → T (call_member store m (listed holds) (place ∷ []))
      member_follows m holds value = by (slice_get known i.group) refl value
        where
          by : (o : Option Known) → slice_get known i.group ≡ o → code_in o i.member ≡ Some (BuiltInCode m holds) → T (call_member store m (listed holds) (place ∷ []))
          by None e z = absurd (let y : None ≡ Some (BuiltInCode m holds) = z in cc)
          by (Some (OfFunctions fns env)) e z = absurd (let y : Some (ClosureCode fns i.member env) ≡ Some (BuiltInCode m holds) = z in cc)
          by (Some (OfOne fns j env)) e z = absurd (no_member i.member fns j env m holds z)
          by (Some (OfMember n inner)) e z =
              let c : (i.member ≡ 0) × (BuiltInCode n inner ≡ BuiltInCode m holds) = first_member i.member n inner (BuiltInCode m holds) z in
              let x : BuiltInCode n inner ≡ BuiltInCode m holds = c.1 in
              let y : n ≡ m = cc in
              let u : inner ≡ holds = cc in
              let q : (g : MadeGroup) × (slice_get world.groups i.group ≡ Some g) × MemberBelongs program.groups known context.globals n inner g = worlds.groups.each i.group (OfMember n inner) e in
              let g : MemberBelongs program.groups known context.globals m holds (q.0) =
              subst (λ a. MemberBelongs program.groups known context.globals a holds (q.0)) y (subst (λ a. MemberBelongs program.groups known context.globals n a (q.0)) u (q.2)) in
              by_member (q.0) (q.1) (c.0) m holds (listed holds) g g.held

  -- where its argument does not match, Core is in its body
  pub closure_follows : (b : Bool) (l : Labels) (group : Functions) (which : ℕ) (env : Environment) (i : Handle) (done : List Value) (before : List core_value.Value) (next left : ℕ) (j : Stack) (others : List Frame) (cf : Focus) (ck : List Frame) → Names known (ClosureCode group which env) i → EachBelongs known done before
      → focused program context nodes world cf ck ≡ heavier 1 (called program context nodes world (shape.Function i) (core_value.number next ∷ []) (Some (gathering_of (shape.Function i) before (suc next) left)) (Caller 0 None ∷ others)) → Around program context nodes world known b l held j others
      → Suits known (Ready action.Call (Closure group which env ∷ leaf (part.Number (pos next)) ∷ [])) (gathering_on (Closure group which env) done (suc next) left j)
      → (r : A (Ready action.Call (Closure group which env ∷ leaf (part.Number (pos next)) ∷ [])) (gathering_on (Closure group which env) done (suc next) left j) cf ck (on_stack store (call_function store group env group which (leaf (part.Number (pos next)) ∷ [])) (gathering_on (Closure group which env) done (suc next) left j)))
      × TrapsInBody program context nodes (start (Ready action.Call (Closure group which env ∷ leaf (part.Number (pos next)) ∷ [])) (gathering_on (Closure group which env) done (suc next) left j)) held known world store (gathering_on (Closure group which env) done (suc next) left j) 0 cf ck
      (on_stack store (call_function store group env group which (leaf (part.Number (pos next)) ∷ [])) (gathering_on (Closure group which env) done (suc next) left j)) r
  closure_follows b l group which env i done before next left j others cf ck function values eq around suits =
      call_by_follows program context nodes (start (Ready action.Call (Closure group which env ∷ leaf (part.Number (pos next)) ∷ [])) (gathering_on (Closure group which env) done (suc next) left j)) held known world store (gathering_on (Closure group which env) done (suc next) left j) worlds 0 cf ck
      (leaf (part.Number (pos next)) ∷ []) (core_value.number next ∷ []) ((refl, tt), tt) i held (λ d. heavier 1 d) 1 (Some (gathering_of (shape.Function i) before (suc next) left)) (Caller 0 None ∷ others)
      (λ n joins a. InGathering n b l held (Closure group which env) (shape.Function i) done before (suc next) left j joins others a function values around) (λ n s. refl) (omega arith) (omega arith) eq (omega arith) group which env function (suits (core_value.number next ∷ []) ((refl, tt), tt))

  call_follows : (b : Bool) (l : Labels) (f : Value) (h : core_value.Value) (done : List Value) (before : List core_value.Value) (next left : ℕ) (j : Stack) (others : List Frame) (cf : Focus) (ck : List Frame) → Belongs known f h → EachBelongs known done before
      → focused program context nodes world cf ck ≡ heavier 1 (gather program context nodes world h next (suc left) before (Caller 0 None ∷ others)) → Around program context nodes world known b l held j others
      → Suits known (Ready action.Call (f ∷ leaf (part.Number (pos next)) ∷ [])) (gathering_on f done (suc next) left j)
      → A (Ready action.Call (f ∷ leaf (part.Number (pos next)) ∷ [])) (gathering_on f done (suc next) left j) cf ck (on_stack store (actions.call store f (leaf (part.Number (pos next)) ∷ [])) (gathering_on f done (suc next) left j))
  call_follows b l (Closure group which env) (shape.Function i) done before next left j others cf ck function values eq around suits = (closure_follows b l group which env i done before next left j others cf ck function values eq around suits).0
  call_follows b l (Closure group which env) (shape.Made i us) done before next left j others cf ck function values eq around suits = absurd function
  call_follows b l (BuiltIn m holds) (shape.Function i) done before next left j others cf ck function values eq around suits =
      member_follows b l (BuiltIn m holds) (shape.Function i) function done before values next left j others cf ck around i eq m holds function
  call_follows b l (BuiltIn m holds) (shape.Made i us) done before next left j others cf ck function values eq around suits = absurd function
  call_follows b l (Made i us) h done before next left j others cf ck function values eq around suits = tt

  -- ---- all

  -- all elements are there
  all_follow : (b : Bool) (l : Labels) (h : core_value.Value) (done : List Value) (before : List core_value.Value) (next : ℕ) (k : Stack) (others : List Frame) (cf : Focus) (ck : List Frame) → EachBelongs known done before
      → focused program context nodes world cf ck ≡ heavier 1 (gather program context nodes world h next zero before (Caller 0 None ∷ others)) → Around program context nodes world known b l held k others
      → A (Ready making_array done) (Returning 0 ∷ k) cf ck (reduces context.head None store (Ready making_array done) (Returning 0 ∷ k))
  all_follow b l h done before next k others cf ck values eq around =
      let n : length (shapes_list done) ≡ length done = many_shapes done in
      let m : length done ≡ length before = as_many known done before values in
      does program context nodes (start (Ready making_array done) (Returning 0 ∷ k)) (0 + owed (Returning 0 ∷ k)) (2 * (2 + length (shapes_list done)) + held) 0 held (weighing (1 + (2 + length before))) [] known known world world cf ck
      (Give (core_value.array before)) (Caller 0 None ∷ others) store (machine.Give (value_of (shape.Made Array (shapes (shapes_list done))))) (Returning 0 ∷ k) eq (omega (arith, n, m)) (omega arith) ([], nothing_more known) refl worlds
      (AtValue false no_labels (value_of (shape.Made Array (shapes (shapes_list done)))) (core_value.array before) (Returning 0 ∷ k) (Caller 0 None ∷ others)
      (value_belongs known (shape.Made Array (shapes (shapes_list done))) (core_value.array before) (refl, all_alike known done before values)) (InFunction 0 b l held k [] others tt around))

  pub gathers_move : (f : machine.Focus) (k : Stack) (cf : Focus) (ck : List Frame) → GatheringBelongs program context nodes world known held f k cf ck → MoveFollows program context nodes (start f k) held known world store k cf ck (move f k)
  gathers_move f k cf ck (Coming g j g2 more cg cj moves none falls owes gathering) =
      subst (λ m. MoveFollows program context nodes (start g j) held known world store j cg cj m) (sym moves)
      (waits_in program context nodes (start g j) (owed j) held 0 held known world cg cj store g2 more (omega (arith, owes)) falls (Gathered store g2 more cg cj worlds gathering))
  gathers_move f k cf ck (AtNext b l g h done before next left j others cg cj function values eq around) = tt
  gathers_move f k cf ck (AtAll b l h done before next j others cg cj values eq around) = tt

  pub gathers_reduce : (f : machine.Focus) (k : Stack) (cf : Focus) (ck : List Frame) → GatheringBelongs program context nodes world known held f k cf ck → Suits known f k → A f k cf ck (reduces context.head None store f k)
  gathers_reduce f k cf ck (Coming g j g2 more cg cj moves none falls owes gathering) suits = subst (λ a. A g j cg cj a) (sym (none store)) tt
  gathers_reduce f k cf ck (AtNext b l g h done before next left j others cg cj function values eq around) suits = call_follows b l g h done before next left j others cg cj function values eq around suits
  gathers_reduce f k cf ck (AtAll b l h done before next j others cg cj values eq around) suits = all_follow b l h done before next j others cg cj values eq around
