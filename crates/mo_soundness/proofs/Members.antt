-- Each built-in function, called with values of its types, keeps types.
use Rattle.std.proofs.Common.{◌≡◌, ℕ, List, [], ◌∷◌, map, Some, refl, sym, ◌∙◌, subst, arith}
use Rattle.mo_num.specs.declared.kind.Kind.TheVariants as kind
use Rattle.mo_types.specs.declared.node.TypeId.{TypeId}
use Rattle.mo_values.specs.declared.operation.Operation.{Operation}
use Rattle.mo_values.specs.declared.operation.Operation.TheVariants as op
use Rattle.mo_values.specs.Costs.{weighing}
use Rattle.mo_values.specs.Messages.{count}
use Rattle.mo_values.specs.Views.{natural_of}
use Rattle.typed_tree.specs.declared.action.Action.TheVariants as action
use Rattle.typed_tree.specs.declared.action.Member.{Member}
use Rattle.typed_tree.specs.declared.action.Member.TheVariants as member
use Rattle.typed_tree.specs.Language.{Value, Values, Exp, Exps, NoValue, AValue, Name, Do}
use Rattle.typed_tree.specs.MemberTypes as types
use Rattle.typed_tree.specs.MemberTypes.{MemberTyped}
use Rattle.typed_tree.specs.Opening.{shape_of, shapes_of}
use Rattle.typed_tree.specs.Wants.{Want, Of, CellOf}
use Rattle.mo_meaning.specs.Acts.{Store, Act}
use Rattle.mo_meaning.specs.Members.{operates, sized, each, calls_from, new_cells, cells_of, reads_of, elements, element, next_by, in_frame, call_member}
use Rattle.mo_meaning.specs.Places.{operands, value_list}
use Rattle.mo_soundness.specs.Keeps.{closed, HasEach, Keeps}
use Rattle.mo_soundness.specs.Lawful.{IsLawful}
use Rattle.mo_soundness.specs.Running.{AnswerTypes, Operates, HasValue, HaveValues, Typed, StoreTyped}
use Rattle.mo_soundness.specs.Worlds.{World}
use Rattle.mo_soundness.proofs.Bodies.{frame_keeps, operands_typed, does, natural_seen, array_typed, cells_typed, calls_typed, new_cells_typed, cells_of_typed, reads_of_typed, array_at, cells_at, iterator_body, iterator_typed, next_typed, element_typed}
use Rattle.mo_soundness.proofs.Calls.{MembersKeep}
use Rattle.mo_soundness.proofs.Characters.{next_char_keeps}
use Rattle.mo_soundness.proofs.Wanted.{reflexive}

module _ (world : World) (lawful : IsLawful world.head) (answers : AnswerTypes) (kinds : List TypeId) where
  abbrev Has : Want TypeId → Value → Type 0
  Has = HasValue world answers kinds

  abbrev Have : List (Want TypeId) → Values → Type 0
  Have = HaveValues world answers kinds

  abbrev Each : List (Want TypeId) → List Value → Type 0
  Each = HasEach world answers kinds

  abbrev K : List TypeId → Want TypeId → Act → Type 0
  K = Keeps world answers kinds

  -- ---- what is held, and the arguments

  held_none : (P : List Value → Type 0) (ws : List (Want TypeId)) (holds : Values) → ws ≡ [] → Have ws holds → P [] → P (value_list holds)
  held_none P ws holds e h p = by holds (subst (λ ws. Have ws holds) e h)
    where
      by : (holds : Values) → Have [] holds → P (value_list holds)
      by NoValue k = p
      by (AValue v vs) k = absurd k

  held_one : (P : List Value → Type 0) (w : Want TypeId) (ws : List (Want TypeId)) (holds : Values) → ws ≡ w ∷ [] → Have ws holds → ((v : Value) → Has w v → P (v ∷ [])) → P (value_list holds)
  held_one P w ws holds e h p = by holds (subst (λ ws. Have ws holds) e h)
    where
      by : (holds : Values) → Have (w ∷ []) holds → P (value_list holds)
      by NoValue k = absurd k
      by (AValue v NoValue) k = p v k.0
      by (AValue v (AValue u us)) k = absurd k.1

  held_two : (P : List Value → Type 0) (w u : Want TypeId) (ws : List (Want TypeId)) (holds : Values) → ws ≡ w ∷ u ∷ [] → Have ws holds → ((v x : Value) → Has w v → Has u x → P (v ∷ x ∷ [])) → P (value_list holds)
  held_two P w u ws holds e h p = by holds (subst (λ ws. Have ws holds) e h)
    where
      by : (holds : Values) → Have (w ∷ u ∷ []) holds → P (value_list holds)
      by NoValue k = absurd k
      by (AValue v NoValue) k = absurd k.1
      by (AValue v (AValue x NoValue)) k = p v x k.0 k.1.0
      by (AValue v (AValue x (AValue y ys))) k = absurd k.1.1

  args_none : (P : List Value → Type 0) (vs : List Value) → Each [] vs → P [] → P vs
  args_none P [] h p = p
  args_none P (v ∷ vs) h p = absurd h

  args_one : (P : List Value → Type 0) (w : Want TypeId) (vs : List Value) → Each (w ∷ []) vs → ((v : Value) → Has w v → P (v ∷ [])) → P vs
  args_one P w [] h p = absurd h
  args_one P w (v ∷ []) h p = p v h.0
  args_one P w (v ∷ u ∷ us) h p = absurd h.1

  args_two : (P : List Value → Type 0) (w u : Want TypeId) (vs : List Value) → Each (w ∷ u ∷ []) vs → ((v x : Value) → Has w v → Has u x → P (v ∷ x ∷ [])) → P vs
  args_two P w u [] h p = absurd h
  args_two P w u (v ∷ []) h p = absurd h.1
  args_two P w u (v ∷ x ∷ []) h p = p v x h.0 h.1.0
  args_two P w u (v ∷ x ∷ y ∷ ys) h p = absurd h.1.1

  -- at the parameters and the result that the built-in function has
  at_its : (ls : List TypeId) (f r s : TypeId) (ps qs : List TypeId) (vs : List Value) (a : Act) → world.head f ≡ types.Function qs s → world.head f ≡ types.Function ps r → Each (map (λ t. Of t) ps) vs → (Each (map (λ t. Of t) qs) vs → K ls (Of s) a) → K ls (Of r) a
  at_its ls f r s ps qs vs a e q i k =
      let z : types.Function qs s ≡ types.Function ps r = sym e ∙ q in
      let first : ps ≡ qs = cc in
      let second : s ≡ r = cc in
      subst (λ r. K ls (Of r) a) second (k (subst (λ ps. Each (map (λ t. Of t) ps) vs) first i))

  module _ (ls : List TypeId) (store : Store) (st : StoreTyped world answers kinds store kinds) where
    body_keeps : (r : TypeId) (e : Exp) → Typed world answers kinds (closed (r ∷ [])) e (Of r) → K ls (Of r) (in_frame store (Some e))
    body_keeps r e h = frame_keeps world lawful answers kinds ls store (weighing 1) r e st h

    operates_keeps : (r : TypeId) (o : Operation) (ws : List (Want TypeId)) (vs : List Value) → Operates world o ws (Of r) → Each ws vs → K ls (Of r) (in_frame store (operates o vs))
    operates_keeps r o ws vs t h = body_keeps r (Do (action.Operate o) (operands vs)) (does world lawful answers kinds (closed (r ∷ [])) (action.Operate o) (operands vs) ws r t (operands_typed world lawful answers kinds (closed (r ∷ [])) vs ws h))

    -- a built-in function without held values, whose body is one operation
    plain_keeps : (o : Operation) (m : Member) (ws : List (Want TypeId)) (f r s : TypeId) (ps qs : List TypeId) (holds : Values) (vs : List Value) → ws ≡ [] → Have ws holds → world.head f ≡ types.Function qs s → world.head f ≡ types.Function ps r → Each (map (λ t. Of t) ps) vs
        → Operates world o (map (λ t. Of t) qs) (Of s) → ((vs : List Value) → call_member store m [] vs ≡ in_frame store (operates o vs)) → K ls (Of r) (call_member store m (value_list holds) vs)
    plain_keeps o m ws f r s ps qs holds vs e h p q i t c =
        at_its ls f r s ps qs vs (call_member store m (value_list holds) vs) p q i
        (λ j. held_none (λ hs. K ls (Of s) (call_member store m hs vs)) ws holds e h (subst (K ls (Of s)) (sym (c vs)) (operates_keeps s o (map (λ t. Of t) qs) vs t j)))

    sized_keeps : (r : TypeId) (es : ℕ → Exps) (v : Value) (n : ℕ) → natural_of (shape_of v) ≡ Some n → Typed world answers kinds (closed (r ∷ [])) (Do (action.Operate op.MakeArray) (es n)) (Of r) → K ls (Of r) (in_frame store (sized es (natural_of (shape_of v))))
    sized_keeps r es v n e h = subst (λ o. K ls (Of r) (in_frame store (sized es o))) (sym e) (body_keeps r (Do (action.Operate op.MakeArray) (es n)) h)

    pub member_keeps : (m : Member) (ws : List (Want TypeId)) (f r : TypeId) (ps : List TypeId) (holds : Values) (vs : List Value) → MemberTyped world.head m ws (world.head f) → Have ws holds → world.head f ≡ types.Function ps r → Each (map (λ t. Of t) ps) vs
        → K ls (Of r) (call_member store m (value_list holds) vs)
    member_keeps member.DebugPrint ws f r ps holds vs t h q i =
        at_its ls f r t.3.0 ps (t.0 ∷ []) vs (call_member store member.DebugPrint (value_list holds) vs) t.3.1 q i
        (λ j. held_none (λ hs. K ls (Of t.3.0) (call_member store member.DebugPrint hs vs)) ws holds t.1 h
        (body_keeps t.3.0 (Do action.Print (operands vs)) (does world lawful answers kinds (closed (t.3.0 ∷ [])) action.Print (operands vs) (Of t.0 ∷ []) t.3.0 ((t.0, refl, t.2), (t.3.0, refl, t.3.2)) (operands_typed world lawful answers kinds (closed (t.3.0 ∷ [])) vs (Of t.0 ∷ []) j))))
    member_keeps member.DebugTrap ws f r ps holds vs t h q i = plain_keeps op.Trap member.DebugTrap ws f r t.3.0 ps (t.0 ∷ []) holds vs t.1 h t.3.1 q i ((t.0, refl, t.2), (t.3.0, refl, t.3.2)) (λ vs. refl)
    member_keeps member.ErrorReject ws f r ps holds vs t h q i = plain_keeps op.RejectError member.ErrorReject ws f r t.3.0 ps (t.0 ∷ []) holds vs t.1 h t.3.1 q i ((t.0, refl, t.2), (t.3.0, refl, t.3.2)) (λ vs. refl)
    member_keeps member.ErrorMessage ws f r ps holds vs t h q i = plain_keeps op.Message member.ErrorMessage ws f r t.3.0 ps (t.0 ∷ []) holds vs t.1 h t.3.1 q i ((t.0, refl, t.2), (t.3.0, refl, t.3.2)) (λ vs. refl)
    member_keeps member.ErrorCode ws f r ps holds vs t h q i = plain_keeps op.Code member.ErrorCode ws f r t.3.0 ps (t.0 ∷ []) holds vs t.1 h t.3.1 q i ((t.0, refl, t.2), (t.3.0, refl, t.3.2)) (λ vs. refl)
    member_keeps member.NatToText ws f r ps holds vs t h q i = plain_keeps (op.ToText kind.Nat) member.NatToText ws f r t.3.0 ps (t.0 ∷ []) holds vs t.1 h t.3.1 q i ((t.0, refl, t.2), (t.3.0, refl, t.3.2)) (λ vs. refl)
    member_keeps member.IntToText ws f r ps holds vs t h q i = plain_keeps (op.ToText kind.Int) member.IntToText ws f r t.3.0 ps (t.0 ∷ []) holds vs t.1 h t.3.1 q i ((t.0, refl, t.2), (t.3.0, refl, t.3.2)) (λ vs. refl)
    member_keeps member.PrincipalFromActor ws f r ps holds vs t h q i = plain_keeps op.PrincipalOf member.PrincipalFromActor ws f r t.3.0 ps (t.0 ∷ []) holds vs t.1 h t.3.1 q i ((t.0, refl, ([], t.2)), (t.3.0, refl, t.3.2)) (λ vs. refl)
    member_keeps member.ArrayTabulate ws f r ps holds vs t h q i =
        at_its ls f r t.6.0 ps (t.0 ∷ t.1 ∷ []) vs (call_member store member.ArrayTabulate (value_list holds) vs) t.6.1 q i
        (λ j. held_none (λ hs. K ls (Of t.6.0) (call_member store member.ArrayTabulate hs vs)) ws holds t.3 h
        (args_two (λ vs. K ls (Of t.6.0) (call_member store member.ArrayTabulate [] vs)) (Of t.0) (Of t.1) vs j
        (λ v g k l. let n = natural_seen world lawful answers kinds t.0 v t.4 k in
        sized_keeps t.6.0 (calls_from g 0) v n.0 n.1
        (array_typed world lawful answers kinds (closed (t.6.0 ∷ [])) t.6.0 t.2 n.0 (calls_from g 0 n.0) t.6.2 (calls_typed world lawful answers kinds (closed (t.6.0 ∷ [])) g t.0 t.1 t.2 0 n.0 n.0 t.4 t.5 l n.2 (omega arith))))))
    member_keeps member.ArrayInit ws f r ps holds vs t h q i =
        at_its ls f r t.4.0 ps (t.0 ∷ t.1 ∷ []) vs (call_member store member.ArrayInit (value_list holds) vs) t.4.1 q i
        (λ j. held_none (λ hs. K ls (Of t.4.0) (call_member store member.ArrayInit hs vs)) ws holds t.2 h
        (args_two (λ vs. K ls (Of t.4.0) (call_member store member.ArrayInit [] vs)) (Of t.0) (Of t.1) vs j
        (λ v x k l. let n = natural_seen world lawful answers kinds t.0 v t.3 k in
        sized_keeps t.4.0 (new_cells x) v n.0 n.1
        (cells_typed world lawful answers kinds (closed (t.4.0 ∷ [])) t.4.0 t.1 n.0 (new_cells x n.0) t.4.2 (new_cells_typed world lawful answers kinds (closed (t.4.0 ∷ [])) x t.1 n.0 l)))))
    member_keeps member.ArrayFreeze ws f r ps holds vs t h q i =
        at_its ls f r t.4.0 ps (t.0 ∷ []) vs (call_member store member.ArrayFreeze (value_list holds) vs) t.4.1 q i
        (λ j. held_none (λ hs. K ls (Of t.4.0) (call_member store member.ArrayFreeze hs vs)) ws holds t.2 h
        (args_one (λ vs. K ls (Of t.4.0) (call_member store member.ArrayFreeze [] vs)) (Of t.0) vs j
        (λ v k. let x = cells_at world lawful answers kinds t.0 t.1 v t.3 k in
        subst (λ v. K ls (Of t.4.0) (in_frame store (each reads_of (elements v)))) (sym x.1)
        (body_keeps t.4.0 (Do (action.Operate op.MakeArray) (reads_of (value_list x.0)))
        (array_typed world lawful answers kinds (closed (t.4.0 ∷ [])) t.4.0 t.1 (count (shapes_of x.0)) (reads_of (value_list x.0)) t.4.2 (reads_of_typed world lawful answers kinds (closed (t.4.0 ∷ [])) x.0 t.1 x.2))))))
    member_keeps member.ArrayThaw ws f r ps holds vs t h q i =
        at_its ls f r t.4.0 ps (t.0 ∷ []) vs (call_member store member.ArrayThaw (value_list holds) vs) t.4.1 q i
        (λ j. held_none (λ hs. K ls (Of t.4.0) (call_member store member.ArrayThaw hs vs)) ws holds t.2 h
        (args_one (λ vs. K ls (Of t.4.0) (call_member store member.ArrayThaw [] vs)) (Of t.0) vs j
        (λ v k. let x = array_at world lawful answers kinds t.0 t.1 v t.3 k in
        subst (λ v. K ls (Of t.4.0) (in_frame store (each cells_of (elements v)))) (sym x.1)
        (body_keeps t.4.0 (Do (action.Operate op.MakeArray) (cells_of (value_list x.0)))
        (cells_typed world lawful answers kinds (closed (t.4.0 ∷ [])) t.4.0 t.1 (count (shapes_of x.0)) (cells_of (value_list x.0)) t.4.2 (cells_of_typed world lawful answers kinds (closed (t.4.0 ∷ [])) x.0 t.1 x.2))))))
    member_keeps member.ArraySize ws f r ps holds vs t h q i =
        at_its ls f r t.4.0 ps [] vs (call_member store member.ArraySize (value_list holds) vs) t.4.1 q i
        (λ j. held_one (λ hs. K ls (Of t.4.0) (call_member store member.ArraySize hs vs)) (Of t.0) ws holds t.2 h
        (λ a k. args_none (λ vs. K ls (Of t.4.0) (call_member store member.ArraySize (a ∷ []) vs)) vs j
        (operates_keeps t.4.0 op.ArraySize (Of t.0 ∷ []) (a ∷ []) ((t.0, refl, (t.1, t.3)), (t.4.0, refl, t.4.2)) (k, tt))))
    member_keeps member.TextSize ws f r ps holds vs t h q i =
        at_its ls f r t.3.0 ps [] vs (call_member store member.TextSize (value_list holds) vs) t.3.1 q i
        (λ j. held_one (λ hs. K ls (Of t.3.0) (call_member store member.TextSize hs vs)) (Of t.0) ws holds t.1 h
        (λ a k. args_none (λ vs. K ls (Of t.3.0) (call_member store member.TextSize (a ∷ []) vs)) vs j
        (operates_keeps t.3.0 op.TextSize (Of t.0 ∷ []) (a ∷ []) ((t.0, refl, t.2), (t.3.0, refl, t.3.2)) (k, tt))))
    member_keeps member.ArrayVals ws f r ps holds vs t h q i =
        at_its ls f r t.4.0 ps [] vs (call_member store member.ArrayVals (value_list holds) vs) t.4.1 q i
        (λ j. held_one (λ hs. K ls (Of t.4.0) (call_member store member.ArrayVals hs vs)) (Of t.0) ws holds t.2 h
        (λ a k. args_none (λ vs. K ls (Of t.4.0) (call_member store member.ArrayVals (a ∷ []) vs)) vs j
        (body_keeps t.4.0 (iterator_body member.NextVal a) (iterator_typed world lawful answers kinds (closed (t.4.0 ∷ [])) member.NextVal a t.0 lawful.natural t.4.0 t.1 lawful.is_natural k t.4.2 (λ n o e p. (t.0, t.1, lawful.natural, refl, t.3, lawful.is_natural, (o, e, p)))))))
    member_keeps member.ArrayKeys ws f r ps holds vs t h q i =
        at_its ls f r t.6.0 ps [] vs (call_member store member.ArrayKeys (value_list holds) vs) t.6.1 q i
        (λ j. held_one (λ hs. K ls (Of t.6.0) (call_member store member.ArrayKeys hs vs)) (Of t.0) ws holds t.3 h
        (λ a k. args_none (λ vs. K ls (Of t.6.0) (call_member store member.ArrayKeys (a ∷ []) vs)) vs j
        (body_keeps t.6.0 (iterator_body member.NextKey a) (iterator_typed world lawful answers kinds (closed (t.6.0 ∷ [])) member.NextKey a t.0 t.2 t.6.0 t.2 t.5 k t.6.2 (λ n o e p. (t.0, t.1, t.2, refl, t.4, t.5, (o, e, p)))))))
    member_keeps member.TextChars ws f r ps holds vs t h q i =
        at_its ls f r t.5.0 ps [] vs (call_member store member.TextChars (value_list holds) vs) t.5.1 q i
        (λ j. held_one (λ hs. K ls (Of t.5.0) (call_member store member.TextChars hs vs)) (Of t.0) ws holds t.2 h
        (λ a k. args_none (λ vs. K ls (Of t.5.0) (call_member store member.TextChars (a ∷ []) vs)) vs j
        (body_keeps t.5.0 (iterator_body member.NextChar a) (iterator_typed world lawful answers kinds (closed (t.5.0 ∷ [])) member.NextChar a t.0 lawful.natural t.5.0 t.1 lawful.is_natural k t.5.2 (λ n o e p. (t.0, t.1, lawful.natural, refl, t.3, t.4, lawful.is_natural, (o, e, p)))))))
    member_keeps member.NextVal ws f r ps holds vs t h q i =
        at_its ls f r t.6.0 ps [] vs (call_member store member.NextVal (value_list holds) vs) t.6.1 q i
        (λ j. held_two (λ hs. K ls (Of t.6.0) (call_member store member.NextVal hs vs)) (Of t.0) (CellOf t.2) ws holds t.3 h
        (λ a place k l. args_none (λ vs. K ls (Of t.6.0) (call_member store member.NextVal (a ∷ place ∷ []) vs)) vs j
        (body_keeps t.6.0 (next_by (element a) a place) (next_typed world lawful answers kinds (element a) a place t.0 t.1 t.2 t.6.0 t.1 t.5 k t.4 l t.6.2
        (element_typed world lawful answers kinds (record { names = Of t.2 ∷ []; labels = t.6.0 ∷ [] }) a (Name 0) t.0 t.1 t.2 t.5 k t.4 (Of t.2, refl, reflexive world.head lawful t.2))))))
    member_keeps member.NextKey ws f r ps holds vs t h q i =
        at_its ls f r t.6.0 ps [] vs (call_member store member.NextKey (value_list holds) vs) t.6.1 q i
        (λ j. held_two (λ hs. K ls (Of t.6.0) (call_member store member.NextKey hs vs)) (Of t.0) (CellOf t.2) ws holds t.3 h
        (λ a place k l. args_none (λ vs. K ls (Of t.6.0) (call_member store member.NextKey (a ∷ place ∷ []) vs)) vs j
        (body_keeps t.6.0 (next_by (λ i. i) a place) (next_typed world lawful answers kinds (λ i. i) a place t.0 t.1 t.2 t.6.0 t.2 t.5 k t.4 l t.6.2 (Of t.2, refl, reflexive world.head lawful t.2)))))
    member_keeps member.NextChar ws f r ps holds vs t h q i =
        at_its ls f r t.7.0 ps [] vs (call_member store member.NextChar (value_list holds) vs) t.7.1 q i
        (λ j. held_two (λ hs. K ls (Of t.7.0) (call_member store member.NextChar hs vs)) (Of t.0) (CellOf t.2) ws holds t.3 h
        (λ a place k l. args_none (λ vs. K ls (Of t.7.0) (call_member store member.NextChar (a ∷ place ∷ []) vs)) vs j
        (next_char_keeps world lawful answers kinds ls store a place t.0 t.1 t.2 t.7.0 st t.4 t.5 t.6 k l t.7.2)))

  pub members_keep : MembersKeep world lawful answers kinds
  members_keep ls store m ws f r ps holds vs st t h q i = member_keeps ls store st m ws f r ps holds vs t h q i
