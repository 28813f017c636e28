-- A call of a method with arguments of its types, or of a hook, enters a body that is typed, or traps.
use Rattle.std.proofs.Common.{◌≡◌, inl, inr, ℕ, zero, suc, ◌≤◌, List, [], ◌∷◌, ◌++◌, length, map, true, Option, Some, None, sym, ap, subst, slice_get}
use Rattle.std.specs.Prelude.{codes, if◌then◌else◌}
use Rattle.std.proofs.lemmas.Slice.Eq.{bytes_eq-Decides}
use Rattle.mo_types.specs.declared.datum.Datum.TheVariants as part
use Rattle.mo_types.specs.declared.node.Field.{Field}
use Rattle.mo_types.specs.declared.node.Node.TheVariants as node
use Rattle.mo_types.specs.declared.node.TypeId.{TypeId}
use Rattle.mo_types.specs.Graph.{Slot, head_at}
use Rattle.mo_types.specs.Sub.{find}
use Rattle.mo_values.specs.Shapes.{Bytes, Leaf, Object, Shape}
use Rattle.typed_tree.specs.declared.action.Action.TheVariants as action
use Rattle.typed_tree.specs.ActionTypes.{ResultOf}
use Rattle.typed_tree.specs.Has.{field_want, by_mutability}
use Rattle.typed_tree.specs.Language.{Value, Exp, Functions, Made, Function, BuiltIn, NoValue, AValue, Val, Do, Frame, AnExp, NoFunction, AFunction, leaf}
use Rattle.typed_tree.specs.Opening.{Code, shape_of, shapes_list, slots_of}
use Rattle.typed_tree.specs.Patterns.{Pat, Pats, NoPat, APat, Found, all_of, matches, matches_all}
use Rattle.typed_tree.specs.Substitution.{group_of}
use Rattle.typed_tree.specs.Wants.{Want, Of, in_function}
use Rattle.mo_meaning.specs.Acts.{Store, Given, Act}
use Rattle.mo_meaning.specs.Actions.{act}
use Rattle.mo_meaning.specs.Bodies.{context, called}
use Rattle.mo_meaning.specs.Calls.{are_as_many, entered, entering, call_function}
use Rattle.mo_meaning.specs.Jumps.{at_frame}
use Rattle.mo_meaning.specs.Places.{and_value, values_or, operands, one}
use Rattle.mo_meaning.specs.Reduce.{reduce, reduce_operand}
use Rattle.mo_soundness.specs.Keeps.{HasEach}
use Rattle.mo_soundness.specs.Lawful.{IsLawful}
use Rattle.mo_soundness.specs.Running.{AnswerTypes, still, HasValue, StoreTyped, in_body, Typed}
use Rattle.mo_soundness.proofs.Calls.{as_many, names_of, covers_both, counted}
use Rattle.mo_soundness.proofs.Found.{HasNames, Matched, all_typed, patterns, made_at}
use Rattle.mo_soundness.proofs.More.{longer_self, knows_still, typed_grow}
use Rattle.mo_soundness.proofs.Put.{covers_function, put_typed}
use Rattle.mo_soundness.proofs.Wanted.{reflexive}
use Rattle.program_soundness.specs.Results.{GivesResults}
use Rattle.program_soundness.specs.Roles.{Role, AMethod, AHook, calling, unused, in_group, ContextBinds, PlaysRole, RolesTyped, IsFunctionAs, IsCallerType}
use Rattle.program_soundness.specs.Runs.{Begins}
use Rattle.program_soundness.proofs.Roles.{covers_unused, roles_count}
use Rattle.program_soundness.proofs.Starts.{all_operands}
use Rattle.program_soundness.specs.Worlds.{running}

-- what is known where calls may be made
same_calling : (answers : AnswerTypes) → answers.may_call ≡ true → calling answers ≡ answers
same_calling answers may = λ i. record { types = answers.types; may_call = sym may i }

module _ (types : List Slot) (lawful : IsLawful (running types).head) (answers : AnswerTypes) (kinds : List TypeId) where
  -- ---- the context of a call

  found_field : (f : Field TypeId) (l : Bytes) → f.label ≡ l → find l (f ∷ []) ≡ Some f
  found_field f l e = ap (λ b. if b then Some f else None) ((bytes_eq-Decides f.label l).1 e)

  context_has : (t : TypeId) (caller : Bytes) → length caller ≤ 29 → IsCallerType (running types).head t → HasValue (running types) answers kinds (Of t) (context caller)
  context_has t caller short c =
      made_at (running types) answers kinds t (node.Object (c.0 ∷ [])) (Object (codes "caller" ∷ [])) (AValue (leaf (part.Principal caller)) NoValue) c.1
      ((inl c.2, tt), (subst (λ o. HasValue (running types) answers kinds (field_want o) (leaf (part.Principal caller))) (sym (found_field c.0 (codes "caller") c.2)) principal, tt))
    where
      principal : HasValue (running types) answers kinds (by_mutability c.0.mutable c.0.part) (leaf (part.Principal caller))
      principal = subst (λ b. HasValue (running types) answers kinds (by_mutability b c.0.part) (leaf (part.Principal caller))) (sym c.3)
          (made_at (running types) answers kinds c.0.part node.Principal (Leaf (part.Principal caller)) NoValue c.4 ((tt, short), tt))

  context_matched : (p : Pat) (ms : List (Want TypeId)) (caller : Bytes) → length caller ≤ 29 → ContextBinds types p ms → Matched (running types) answers kinds ms (matches p (shape_of (context caller)))
  context_matched p ms caller short (inl h) =
      subst (λ p. Matched (running types) answers kinds ms (matches p (shape_of (context caller)))) (sym h.0) (subst (λ (ms : List (Want TypeId)). HasNames (running types) answers kinds ms []) (sym h.1) tt)
  context_matched p ms caller short (inr h) = patterns (running types) answers kinds lawful p h.0 ms (context caller) h.2 (context_has h.0 caller short h.1)

  both_named : (ms ns : List (Want TypeId)) (us vs : List (Shape Code)) → HasNames (running types) answers kinds ms us → HasNames (running types) answers kinds ns vs → HasNames (running types) answers kinds (ms ++ ns) (us ++ vs)
  both_named [] ns [] vs h i = i
  both_named [] ns (u ∷ us) vs h i = absurd h
  both_named (m ∷ ms) ns [] vs h i = absurd h
  both_named (m ∷ ms) ns (u ∷ us) vs h i = (h.0, both_named ms ns us vs h.1 i)

  both_matched : (ms ns : List (Want TypeId)) (a b : Found Code) → Matched (running types) answers kinds ms a → Matched (running types) answers kinds ns b → Matched (running types) answers kinds (ms ++ ns) (all_of a b)
  both_matched ms ns None b h i = tt
  both_matched ms ns (Some us) None h i = tt
  both_matched ms ns (Some us) (Some vs) h i = both_named ms ns us vs h i

  -- the call of a hook, and such a call in a frame
  abbrev HookBegins : Store → Act → Type 0
  HookBegins store a =
      Begins (running types) (GivesResults (running types) []) answers kinds a × ((nodes : ℕ) → Begins (running types) (GivesResults (running types) []) answers kinds (at_frame store nodes a))

  -- ---- the function of a group

  module _ (store : Store) (st : StoreTyped (running types) answers kinds store kinds) (group : Functions) (all : List Role) (typed : RolesTyped types answers kinds (in_group all) all group) where
    entered_begins : (rs : List TypeId) (r : TypeId) (weight nodes : ℕ) (body : Exp) (ns : List (Want TypeId)) (o : Option (List (Shape Code))) → ResultOf (running types).head rs r → Typed (running types) answers kinds (in_body ns r (in_group all)) body (Of r)
        → Matched (running types) answers kinds ns o → Begins (running types) (GivesResults (running types) rs) answers kinds (entered store group weight nodes body o)
    entered_begins rs r weight nodes body ns None is b m = tt
    entered_begins rs r weight nodes body ns (Some us) is b m =
        let c = covers_unused types lawful answers kinds group group 0 (length all) (roles_count types lawful answers kinds (in_group all) all group typed) in (
          kinds,
          longer_self kinds,
          st,
          (
            r,
            is,
            (
              r,
              put_typed (running types) answers lawful kinds body (slots_of us ++ group_of group) (ns ++ map in_function (unused all)) [] (r ∷ []) (Of r)
                  (covers_both (running types) lawful answers kinds ns (map in_function (unused all)) us (group_of group) m (covers_function (running types) answers lawful kinds (group_of group) (unused all) [] c)) b,
              reflexive (running types).head lawful r,
            ),
          ),
        )

    method_begins : answers.may_call ≡ true → (ps rs : List TypeId) (caller : Bytes) (vs : List Value) → length caller ≤ 29 → HasEach (running types) answers kinds (map (λ t. Of t) ps) vs
        → (fns : Functions) (roles : List Role) (n : ℕ) → RolesTyped types answers kinds (in_group all) roles fns → slice_get roles n ≡ Some (AMethod ps rs)
        → Begins (running types) (GivesResults (running types) rs) answers kinds (call_function store group fns n (context caller ∷ vs))
    method_begins may ps rs caller vs short args NoFunction [] n h q = absurd (let z : None ≡ Some (AMethod ps rs) = q in cc)
    method_begins may ps rs caller vs short args NoFunction (role ∷ roles) n h q = absurd h
    method_begins may ps rs caller vs short args (AFunction how m qs body fns) [] n h q = absurd h
    method_begins may ps rs caller vs short args (AFunction how m qs body fns) (role ∷ roles) zero h q =
        by qs (subst (λ role. PlaysRole types answers kinds (in_group all) role qs body) (let same : role ≡ AMethod ps rs = cc in same) h.0)
      where
        by : (qs : Pats) → PlaysRole types answers kinds (in_group all) (AMethod ps rs) qs body → Begins (running types) (GivesResults (running types) rs) answers kinds (call_function store group (AFunction how m qs body fns) zero (context caller ∷ vs))
        by NoPat k = absurd k
        by (APat p qs) k =
            counted (running types) lawful answers kinds (λ a. Begins (running types) (GivesResults (running types) rs) answers kinds a) (are_as_many qs vs)
            (entered store group (entering m (APat p qs) (shapes_list (context caller ∷ vs))) m body (matches_all (APat p qs) (shapes_list (context caller ∷ vs))))
            (as_many (running types) lawful answers kinds qs ps k.1 vs k.4 args)
            (entered_begins rs k.2 (entering m (APat p qs) (shapes_list (context caller ∷ vs))) m body (k.0 ++ k.1) (matches_all (APat p qs) (shapes_list (context caller ∷ vs))) k.5 (subst (λ a. Typed (running types) a kinds (in_body (k.0 ++ k.1) k.2 (in_group all)) body (Of k.2)) (same_calling answers may) k.6)
            (both_matched k.0 k.1 (matches p (shape_of (context caller))) (matches_all qs (shapes_list vs)) (context_matched p k.0 caller short k.3)
            (all_typed (running types) answers kinds lawful qs ps k.1 k.4 (shapes_list vs) (names_of (running types) lawful answers kinds (map (λ t. Of t) ps) vs args))))
    method_begins may ps rs caller vs short args (AFunction how m qs body fns) (role ∷ roles) (suc n) h q = method_begins may ps rs caller vs short args fns roles n h.1 q

    -- a hook's body has a frame of its own, so another one may stand around it
    hook_begins : (fns : Functions) (roles : List Role) (n : ℕ) → RolesTyped types answers kinds (in_group all) roles fns → slice_get roles n ≡ Some AHook → HookBegins store (call_function store group fns n [])
    hook_begins NoFunction [] n h q = absurd (let z : None ≡ Some AHook = q in cc)
    hook_begins NoFunction (role ∷ roles) n h q = absurd h
    hook_begins (AFunction how m qs body fns) [] n h q = absurd h
    hook_begins (AFunction how m qs body fns) (role ∷ roles) zero h q = by qs (subst (λ role. PlaysRole types answers kinds (in_group all) role qs body) (let same : role ≡ AHook = cc in same) h.0)
      where
        by : (qs : Pats) → PlaysRole types answers kinds (in_group all) AHook qs body → HookBegins store (call_function store group (AFunction how m qs body fns) zero [])
        by NoPat k =
            let b = entered_begins [] k.0 (entering m NoPat []) m body [] (Some []) k.1
            (typed_grow (running types) (still answers) answers (knows_still answers) kinds kinds (longer_self kinds) (in_body [] k.0 (in_group all)) body (Of k.0) k.2) tt in
            (b, λ nodes. (b.0, b.1, b.2, (b.3.0, b.3.1, (b.3.0, b.3.2, reflexive (running types).head lawful b.3.0))))
        by (APat p qs) k = absurd k
    hook_begins (AFunction how m qs body fns) (role ∷ roles) (suc n) h q = hook_begins fns roles n h.1 q

  -- ---- the call

  pub called_begins : answers.may_call ≡ true → (given : Option Given) (store : Store) (ps rs : List TypeId) (f : Value) (caller : Bytes) (vs : List Value) → StoreTyped (running types) answers kinds store kinds → IsFunctionAs types answers kinds (AMethod ps rs) f
      → length caller ≤ 29 → HasEach (running types) answers kinds (map (λ t. Of t) ps) vs → Begins (running types) (GivesResults (running types) rs) answers kinds (reduce (head_at types) given store (called f caller vs))
  called_begins may given store ps rs (Function group which) caller vs st h short args =
      subst (λ o. Begins (running types) (GivesResults (running types) rs) answers kinds (values_or (and_value (Function group which) (and_value (context caller) o)) (act (head_at types) given store action.Call)
      (reduce_operand (head_at types) given store (Do action.Call) (AnExp (Val (Function group which)) (AnExp (Val (context caller)) (operands vs)))))) (sym (all_operands vs))
      (method_begins store st group h.0 h.1 may ps rs caller vs short args group h.0 which h.1 h.2)
  called_begins may given store ps rs (Made k inner) caller vs st h short args = absurd h
  called_begins may given store ps rs (BuiltIn m holds) caller vs st h short args = absurd h

  hook_called : (given : Option Given) (store : Store) (f : Value) → StoreTyped (running types) answers kinds store kinds → IsFunctionAs types answers kinds AHook f
      → HookBegins store (reduce (head_at types) given store (Do action.Call (one (Val f))))
  hook_called given store (Function group which) st h = hook_begins store st group h.0 h.1 group h.0 which h.1 h.2
  hook_called given store (Made k inner) st h = absurd h
  hook_called given store (BuiltIn m holds) st h = absurd h

  pub hook_called_begins : (given : Option Given) (store : Store) (f : Value) → StoreTyped (running types) answers kinds store kinds → IsFunctionAs types answers kinds AHook f
      → Begins (running types) (GivesResults (running types) []) answers kinds (reduce (head_at types) given store (Do action.Call (one (Val f))))
  hook_called_begins given store f st h = (hook_called given store f st h).0

  pub hook_framed_begins : (given : Option Given) (store : Store) (nodes : ℕ) (f : Value) → StoreTyped (running types) answers kinds store kinds → IsFunctionAs types answers kinds AHook f
      → Begins (running types) (GivesResults (running types) []) answers kinds (reduce (head_at types) given store (Frame nodes (Do action.Call (one (Val f)))))
  hook_framed_begins given store nodes f st h = (hook_called given store f st h).1 nodes
