-- Calls of functions, of shared functions and of built-in ones; futures.
use Rattle.std.proofs.Common.{◌≡◌, ◌⊎◌, inl, inr, ℕ, zero, suc, ◌+◌, List, [], ◌∷◌, ◌++◌, map, Bool, true, false, true≢false, cond, Option, Some, None, refl, sym, ap, ◌∙◌, subst, slice_get, arith}
use Rattle.mo_types.specs.declared.datum.Datum.TheVariants as part
use Rattle.mo_types.specs.declared.node.Node.{Node}
use Rattle.mo_types.specs.declared.node.Node.TheVariants as node
use Rattle.mo_types.specs.declared.node.Sort.{Sort}
use Rattle.mo_types.specs.declared.node.Sort.TheVariants as sort
use Rattle.mo_types.specs.declared.node.TypeId.{TypeId}
use Rattle.mo_types.specs.Heads.{is_any}
use Rattle.mo_types.specs.Sub.{AtSome, IsSubtype, Pairwise}
use Rattle.mo_values.specs.Costs.{weighing}
use Rattle.mo_values.specs.Shapes.{Head, Leaf, Array, Error, Future, Shape}
use Rattle.subtype_laws.proofs.Inversion.{to_above}
use Rattle.subtype_laws.specs.Inversion.{IsAbove}
use Rattle.typed_tree.specs.declared.action.Member.{Member}
use Rattle.typed_tree.specs.declared.action.Member.TheVariants as member
use Rattle.typed_tree.specs.ActionTypes.{ResultOf}
use Rattle.typed_tree.specs.Language.{Value, Values, Exp, Functions, Made, Function, BuiltIn, NoValue, AValue, NoFunction, AFunction}
use Rattle.typed_tree.specs.MemberTypes as types
use Rattle.typed_tree.specs.MemberTypes.{MemberTyped}
use Rattle.typed_tree.specs.Opening.{Code, Closed, value_of, slots_of, shapes_list}
use Rattle.typed_tree.specs.Patterns.{Pats, NoPat, APat, matches_all}
use Rattle.typed_tree.specs.Substitution.{Slots, put, functions, group_of}
use Rattle.typed_tree.specs.Wants.{Want, Anything, Of, FutureOf, Generic, in_function, Below, Serves}
use Rattle.typed_tree.proofs.Opened.{value_shape}
use Rattle.mo_meaning.specs.Actions.{call, sent, awaited, given_or}
use Rattle.mo_meaning.specs.Acts.{Store, Given, Gets, Fails, Act, Goes, Prints, Asks, Awaits, Leaves, Throws, Traps, Stuck}
use Rattle.mo_meaning.specs.Calls.{are_as_many, entered, entering, call_function}
use Rattle.mo_meaning.specs.Members.{call_member}
use Rattle.mo_meaning.specs.Places.{value_list}
use Rattle.mo_soundness.specs.Keeps.{closed, HasEach, Keeps, Suits}
use Rattle.mo_soundness.specs.Lawful.{IsLawful}
use Rattle.mo_soundness.specs.RunningPatterns.{PatternsTyped}
use Rattle.mo_soundness.specs.Running.{IsErrorValue, Around, AnswerTypes, still, Callable, Fits, Instances, NameStands, HasType, Named, HasValue, HaveValues, Typed, FunctionsTyped, FunctionOf, StoreTyped}
use Rattle.mo_soundness.specs.Worlds.{World}
use Rattle.mo_soundness.proofs.Cells.{gives}
use Rattle.mo_soundness.proofs.Found.{At, opened, HasNames, Matched, all_typed}
use Rattle.mo_soundness.proofs.Less.{has_sub, typed_sub}
use Rattle.mo_soundness.proofs.More.{longer_self, knows_still, typed_grow}
use Rattle.mo_soundness.proofs.Put.{NameFits, named, Covers, covers_function, covers_still, put_typed}
use Rattle.mo_soundness.proofs.Wanted.{reflexive}

-- a built-in function is a local one
pub member_type : (m : Member) (head : TypeId → Node TypeId) (ws : List (Want TypeId)) (n : Node TypeId) → MemberTyped head m ws n → (ps : List TypeId) × (r : TypeId) × (n ≡ types.Function ps r)
member_type member.DebugPrint head ws n h = (_, h.3.0, h.3.1)
member_type member.DebugTrap head ws n h = (_, h.3.0, h.3.1)
member_type member.ErrorReject head ws n h = (_, h.3.0, h.3.1)
member_type member.ErrorMessage head ws n h = (_, h.3.0, h.3.1)
member_type member.ErrorCode head ws n h = (_, h.3.0, h.3.1)
member_type member.NatToText head ws n h = (_, h.3.0, h.3.1)
member_type member.IntToText head ws n h = (_, h.3.0, h.3.1)
member_type member.ArrayTabulate head ws n h = (_, h.6.0, h.6.1)
member_type member.ArrayInit head ws n h = (_, h.4.0, h.4.1)
member_type member.ArrayFreeze head ws n h = (_, h.4.0, h.4.1)
member_type member.ArrayThaw head ws n h = (_, h.4.0, h.4.1)
member_type member.PrincipalFromActor head ws n h = (_, h.3.0, h.3.1)
member_type member.ArraySize head ws n h = (_, h.4.0, h.4.1)
member_type member.ArrayVals head ws n h = (_, h.4.0, h.4.1)
member_type member.ArrayKeys head ws n h = (_, h.6.0, h.6.1)
member_type member.TextSize head ws n h = (_, h.3.0, h.3.1)
member_type member.TextChars head ws n h = (_, h.5.0, h.5.1)
member_type member.NextVal head ws n h = (_, h.6.0, h.6.1)
member_type member.NextKey head ws n h = (_, h.6.0, h.6.1)
member_type member.NextChar head ws n h = (_, h.7.0, h.7.1)

module _ (world : World) (lawful : IsLawful world.head) (answers : AnswerTypes) (kinds : List TypeId) where
  abbrev Has : Want TypeId → Value → Type 0
  Has = HasValue world answers kinds

  abbrev Each : List (Want TypeId) → List Value → Type 0
  Each = HasEach world answers kinds

  abbrev Holds : Store → Type 0
  Holds store = StoreTyped world answers kinds store kinds

  -- built-in functions, called with values of their types
  abbrev pub MembersKeep : Type 0
  MembersKeep =
      (ls : List TypeId) (store : Store) (m : Member) (ws : List (Want TypeId)) (f r : TypeId) (ps : List TypeId) (holds : Values) (vs : List Value) → StoreTyped world answers kinds store kinds → MemberTyped world.head m ws (world.head f) → HaveValues world answers kinds ws holds
      → world.head f ≡ types.Function ps r → HasEach world answers kinds (map (λ t. Of t) ps) vs → Keeps world answers kinds ls (Of r) (call_member store m (value_list holds) vs)

  -- ---- functions below functions

  record FunctionBelow (ps : List TypeId) (r : TypeId) (qs : List TypeId) (s : TypeId) : Type 0 where
    parameters : Pairwise (IsSubtype world.head) qs ps
    result : IsSubtype world.head r s

  func_below : (f g : TypeId) (ps qs : List TypeId) (r s : TypeId) → IsSubtype world.head f g → world.head f ≡ types.Function ps r → world.head g ≡ types.Function qs s → FunctionBelow ps r qs s
  func_below f g ps qs r s b p q = by (subst (λ y. IsAbove (IsSubtype world.head) g (types.Function ps r) y) q (subst (λ x. IsAbove (IsSubtype world.head) g x (world.head g)) p (to_above world.head f g b)))
    where
      by : IsAbove (IsSubtype world.head) g (types.Function ps r) (types.Function qs s) → FunctionBelow ps r qs s
      by (inl e) = absurd (true≢false (sym (ap is_any e)))
      by (inr h) =
          let e : types.Function qs s ≡ node.Func sort.Local h.0 h.1 = h.2 in
          let first : h.0 ≡ qs = cc in
          let second : h.1 ≡ s ∷ [] = cc in
          record { parameters = subst (λ x. Pairwise (IsSubtype world.head) x ps) first h.3; result = (subst (λ x. Pairwise (IsSubtype world.head) (r ∷ []) x) second h.4).0 }

  -- ---- the functions of a group

  plain_fits : (group : Functions) (all : List (Want TypeId)) (n : ℕ) (ps : List TypeId) (r : TypeId) (w : Want TypeId) → FunctionsTyped world answers kinds (record { names = all; labels = [] }) group all → slice_get all n ≡ Some w → ((w ≡ Anything) ⊎ ((t : TypeId) × (world.head t ≡ types.Function ps r) × (w ≡ Of t))) → Has w (Function group n)
  plain_fits group all n ps r w f q (inl e) = subst (λ w. Has w (Function group n)) (sym e) tt
  plain_fits group all n ps r w f q (inr o) =
      subst (λ w. Has w (Function group n)) (sym o.2)
      (subst (λ x. Callable x (FunctionOf world answers kinds (Closed group n) o.0)) (sym o.1) (all, o.0, f, (Of o.0, subst (λ w. slice_get all n ≡ Some w) o.2 q, refl), reflexive world.head lawful o.0))

  function_fits : (group : Functions) (all : List (Want TypeId)) (n : ℕ) (w : Want TypeId) → FunctionsTyped world answers kinds (record { names = all; labels = [] }) group all → slice_get all n ≡ Some w → ((i : Instances world w) → (ps : List TypeId) × (r : TypeId) × NameStands world w i ps r)
      → NameFits world answers kinds w (Function group n)
  function_fits group all n (Generic vs t) f q h =
      λ u i. let k = h (u, i) in subst (λ x. Callable x (FunctionOf world answers kinds (Closed group n) u)) (sym k.2) (all, u, f, (Generic vs t, q, i), reflexive world.head lawful u)
  function_fits group all n Anything f q h = tt
  function_fits group all n w f q h = let k = h tt in plain_fits group all n k.0 k.1 w f q k.2

  pub covers_group : (group : Functions) (all : List (Want TypeId)) → FunctionsTyped world answers kinds (record { names = all; labels = [] }) group all
      → (c : Around) (rest : Functions) (ws : List (Want TypeId)) (n : ℕ) → FunctionsTyped world answers kinds c rest ws → ((m : ℕ) → slice_get ws m ≡ slice_get all (m + n)) → Covers world answers lawful kinds (functions group rest n) ws []
  covers_group group all f c NoFunction [] n h i = refl
  covers_group group all f c NoFunction (w ∷ ws) n h i = absurd h
  covers_group group all f c (AFunction how m ps body fns) [] n h i = absurd h
  covers_group group all f c (AFunction how m ps body fns) (w ∷ ws) n h i = (
    refl,
    function_fits group all n w f (ap (slice_get all) (omega arith) ∙ sym (i 0)) (λ j. let k = h.0 j in (k.0, k.1, k.3)),
    covers_group group all f c fns ws (suc n) h.1 (λ k. i (suc k) ∙ ap (slice_get all) (omega arith)),
  )

  -- ---- arguments

  pub args_sub : (ps qs : List TypeId) (vs : List Value) → Pairwise (IsSubtype world.head) ps qs → Each (map (λ t. Of t) ps) vs → Each (map (λ t. Of t) qs) vs
  args_sub [] [] vs p h = h
  args_sub [] (q ∷ qs) vs p h = absurd p
  args_sub (t ∷ ps) [] vs p h = absurd p
  args_sub (t ∷ ps) (q ∷ qs) [] p h = absurd h
  args_sub (t ∷ ps) (q ∷ qs) (v ∷ vs) p h = (has_sub world lawful answers kinds v (Of t) (Of q) h.0 p.0, args_sub ps qs vs p.1 h.1)

  pub names_of : (ws : List (Want TypeId)) (vs : List Value) → Each ws vs → HasNames world answers kinds ws (shapes_list vs)
  names_of [] [] h = tt
  names_of [] (v ∷ vs) h = absurd h
  names_of (w ∷ ws) [] h = absurd h
  names_of (w ∷ ws) (v ∷ vs) h = (subst (Has w) (sym (value_shape v)) h.0, names_of ws vs h.1)

  pub as_many : (ps : Pats) (ts : List TypeId) (ns : List (Want TypeId)) (vs : List Value) → PatternsTyped world.head ps ts ns → Each (map (λ t. Of t) ts) vs → are_as_many ps vs ≡ true
  as_many NoPat [] ns [] p h = refl
  as_many NoPat [] ns (v ∷ vs) p h = absurd h
  as_many NoPat (t ∷ ts) ns vs p h = absurd p
  as_many (APat q ps) [] ns vs p h = absurd p
  as_many (APat q ps) (t ∷ ts) ns [] p h = absurd h
  as_many (APat q ps) (t ∷ ts) ns (v ∷ vs) p h = as_many ps ts p.1 vs p.4 h.1

  pub covers_both : (ns ws : List (Want TypeId)) (us : List (Shape Code)) (s : Slots) → HasNames world answers kinds ns us → Covers world answers lawful kinds s ws [] → Covers world answers lawful kinds (slots_of us ++ s) (ns ++ ws) []
  covers_both [] ws [] s h c = c
  covers_both [] ws (u ∷ us) s h c = absurd h
  covers_both (n ∷ ns) ws [] s h c = absurd h
  covers_both (n ∷ ns) ws (u ∷ us) s h c = (refl, named world answers kinds n (value_of u) h.0, covers_both ns ws us s h.1 c)

  pub entered_keeps : (ls : List TypeId) (store : Store) (group : Functions) (ws : List (Want TypeId)) (weight nodes : ℕ) (body : Exp) (r s : TypeId) (ns : List (Want TypeId)) → Holds store → FunctionsTyped world answers kinds (record { names = ws; labels = [] }) group ws
      → Typed world (still answers) kinds (record { names = ns ++ map in_function ws; labels = r ∷ [] }) body (Of r) → IsSubtype world.head r s → (o : Option (List (Shape Code))) → Matched world answers kinds ns o → Keeps world answers kinds ls (Of s) (entered store group weight nodes body o)
  entered_keeps ls store group ws weight nodes body r s ns st f h b None m = tt
  entered_keeps ls store group ws weight nodes body r s ns st f h b (Some us) m =
      let c = covers_group group ws f (record { names = ws; labels = [] }) group ws 0 f (λ m. ap (slice_get ws) (omega arith)) in (
        kinds,
        longer_self kinds,
        st,
        (
          r,
          typed_grow world (still answers) answers (knows_still answers) kinds kinds (longer_self kinds) (closed (r ∷ [])) (put (slots_of us ++ group_of group) body) (Of r)
              (put_typed world (still answers) lawful kinds body (slots_of us ++ group_of group) (ns ++ map in_function ws) [] (r ∷ []) (Of r)
              (covers_still world (slots_of us ++ group_of group) (ns ++ map in_function ws) [] answers lawful kinds (covers_both ns (map in_function ws) us (group_of group) m (covers_function world answers lawful kinds (group_of group) ws [] c))) h),
          b,
        ),
      )

  pub counted : (P : Act → Type 0) (b : Bool) (x : Act) → b ≡ true → P x → P (cond b x Stuck)
  counted P true x e p = p
  counted P false x e p = absurd (true≢false (sym e))

  -- the types in the place of type parameters with which a function under such a name has the type
  abbrev chosen : (a : Want TypeId) (f : TypeId) → HasType world a f → Instances world a
  chosen (Generic vs t) f h = (f, h)
  chosen a f h = tt

  of_stands : (t f : TypeId) → t ≡ f → (ps : List TypeId) (r : TypeId) → ((Of t ≡ Anything) ⊎ ((u : TypeId) × (world.head u ≡ types.Function ps r) × (Of t ≡ Of u))) → world.head f ≡ types.Function ps r
  of_stands t f h ps r (inl e) = absurd (let z : Of t ≡ Anything = e in cc)
  of_stands t f h ps r (inr o) = let z : Of t ≡ Of o.0 = o.2 in let same : o.0 ≡ t = cc in subst (λ x. world.head x ≡ types.Function ps r) (same ∙ h) o.1

  stands : (a : Want TypeId) (f : TypeId) (h : HasType world a f) (ps : List TypeId) (r : TypeId) → NameStands world a (chosen a f h) ps r → world.head f ≡ types.Function ps r
  stands (Generic vs t) f h ps r n = n
  stands (Of t) f h ps r n = of_stands t f h ps r n
  stands a f h ps r n = absurd h

  found_keeps : (ls : List TypeId) (store : Store) (s : TypeId) (group : Functions) (all : List (Want TypeId)) (vs : List Value) (f : TypeId) (qs : List TypeId) → Holds store → FunctionsTyped world answers kinds (record { names = all; labels = [] }) group all
      → ((ps : List TypeId) (r : TypeId) → world.head f ≡ types.Function ps r → FunctionBelow ps r qs s) → Each (map (λ t. Of t) qs) vs
      → (fns : Functions) (ws : List (Want TypeId)) (n : ℕ) → FunctionsTyped world answers kinds (record { names = all; labels = [] }) fns ws → Named world ws n f → Keeps world answers kinds ls (Of s) (call_function store group fns n vs)
  found_keeps ls store s group all vs f qs st g k i NoFunction [] n h q = absurd (let z : None ≡ Some q.0 = q.1 in cc)
  found_keeps ls store s group all vs f qs st g k i NoFunction (w ∷ ws) n h q = absurd h
  found_keeps ls store s group all vs f qs st g k i (AFunction how m ps body fns) [] n h q = absurd h
  found_keeps ls store s group all vs f qs st g k i (AFunction how m ps body fns) (w ∷ ws) zero h q =
      let z : Some w ≡ Some q.0 = q.1 in
      let same : w ≡ q.0 = cc in
      let has = subst (λ a. HasType world a f) (sym same) q.2 in
      let d = h.0 (chosen w f has) in
      let b = k d.0 d.1 (stands w f has d.0 d.1 d.3) in
      let args = args_sub qs d.0 vs b.parameters i in
      counted (λ a. Keeps world answers kinds ls (Of s) a) (are_as_many ps vs) (entered store group (entering m ps (shapes_list vs)) m body (matches_all ps (shapes_list vs))) (as_many ps d.0 d.2 vs d.4 args)
      (entered_keeps ls store group all (entering m ps (shapes_list vs)) m body d.1 s d.2 st g d.5 b.result (matches_all ps (shapes_list vs))
      (all_typed world answers kinds lawful ps d.0 d.2 d.4 (shapes_list vs) (names_of (map (λ t. Of t) d.0) vs args)))
  found_keeps ls store s group all vs f qs st g k i (AFunction how m ps body fns) (w ∷ ws) (suc n) h q = found_keeps ls store s group all vs f qs st g k i fns ws n h.1 q

  pub keeps_sub : (ls : List TypeId) (w u : Want TypeId) (a : Act) → Serves world.head w u → Keeps world answers kinds ls w a → Keeps world answers kinds ls u a
  keeps_sub ls w u (Goes cost store e) s h = (h.0, h.1, h.2, typed_sub world lawful answers h.0 (closed ls) e w u h.3 s)
  keeps_sub ls w u (Prints cost text e) s h = (h.0, typed_sub world lawful answers kinds (closed ls) e w u h.1 s)
  keeps_sub ls w u (Asks r) s h = h
  keeps_sub ls w u (Awaits n c) s h = h
  keeps_sub ls w u (Leaves l v) s h = h
  keeps_sub ls w u (Throws cost v) s h = h
  keeps_sub ls w u (Traps cost text) s h = h
  keeps_sub ls w u Stuck s h = h

  no_made : (ps : List TypeId) (r : TypeId) (k : Head) → Fits world.head answers (types.Function ps r) k → ⊥
  no_made ps r (Leaf (part.Method p n)) e = e.1.0 refl
  no_made ps r (Leaf p) e = e.1
  no_made ps r Array (inl e) = e
  no_made ps r Array (inr e) = e
  no_made ps r (Error c m) e = true≢false (sym e.0)
  no_made ps r k e = e

  module _ (members : MembersKeep) where
    pub call_keeps : (ls : List TypeId) (store : Store) (f r : TypeId) (ps : List TypeId) (v : Value) (vs : List Value) → Holds store → world.head f ≡ types.Function ps r → Has (Of f) v → Each (map (λ t. Of t) ps) vs → Keeps world answers kinds ls (Of r) (call store v vs)
    call_keeps ls store f r ps (Function group which) vs s q h i =
        let k = opened world answers kinds f (types.Function ps r) (Function group which) q h in
        found_keeps ls store r group k.0 vs k.1 ps s k.2 (λ qs t e. func_below k.1 f qs ps t r k.4 e q) i group k.0 which k.2 k.3
    call_keeps ls store f r ps (BuiltIn m holds) vs s q h i =
        let k = opened world answers kinds f (types.Function ps r) (BuiltIn m holds) q h in
        let t = member_type m world.head k.0 (world.head k.1) k.2 in
        let b = func_below k.1 f t.0 ps t.1 r k.4 t.2 q in
        keeps_sub ls (Of t.1) (Of r) (call_member store m (value_list holds) vs) b.result (members ls store m k.0 k.1 t.1 t.0 holds vs s k.2 k.3 t.2 (args_sub ps t.0 vs b.parameters i))
    call_keeps ls store f r ps (Made k inner) vs s q h i = absurd (no_made ps r k (opened world answers kinds f (types.Function ps r) (Made k inner) q h).0)

  -- ---- shared functions and futures

  given_keeps : (ls : List TypeId) (w : Want TypeId) (store : Store) (given : Option Given) (asks : Act) → Holds store → answers.may_call ≡ true → ((v : Value) → Suits world answers kinds (Some (Gets v)) asks → Has w v) → ((e : Value) → Suits world answers kinds (Some (Fails e)) asks → IsErrorValue e)
      → Keeps world answers kinds ls w asks → Suits world answers kinds given asks → Keeps world answers kinds ls w (given_or store given asks)
  given_keeps ls w store None asks s may g f k i = k
  given_keeps ls w store (Some (Gets v)) asks s may g f k i = gives world lawful answers kinds ls w store v (weighing 1) s (g v i)
  given_keeps ls w store (Some (Fails e)) asks s may g f k i = (f e i, may)

  pub await_keeps : (ls : List TypeId) (store : Store) (given : Option Given) (r : TypeId) (v : Value) → Holds store → answers.may_call ≡ true → Has (FutureOf r) v → Suits world answers kinds given (awaited store None v) → Keeps world answers kinds ls (Of r) (awaited store given v)
  await_keeps ls store given r (Made (Future call) NoValue) s may h i =
      given_keeps ls (Of r) store given (Awaits 0 call) s may (λ v j. by v (answers.types call) h j) (λ e j. j) (some (answers.types call) h, may) i
    where
      some : (o : Option TypeId) → AtSome o (λ u. Below world.head u r) → AtSome o (λ t. Unit {0})
      some None h = h
      some (Some t) h = tt

      by : (v : Value) (o : Option TypeId) → AtSome o (λ u. Below world.head u r) → AtSome o (λ t. Has (Of t) v) → Has (Of r) v
      by v None h j = absurd h
      by v (Some t) h j = has_sub world lawful answers kinds v (Of t) (Of r) j h
  await_keeps ls store given r v s may h i = absurd h

  pub send_keeps : (ls : List TypeId) (store : Store) (given : Option Given) (f r : TypeId) (how : Sort) (ps rs : List TypeId) (v : Value) (vs : List Value) → Holds store → answers.may_call ≡ true → (how ≡ sort.Local → ⊥) → world.head f ≡ node.Func how ps rs → ResultOf world.head rs r → world.IsMessage ps rs → Has (Of f) v → Each (map (λ t. Of t) ps) vs
      → Suits world answers kinds given (sent store None ps rs v vs) → Keeps world answers kinds ls (FutureOf r) (sent store given ps rs v vs)
  send_keeps ls store given f r how ps rs v vs s may n q t m h i j = by v (opened world answers kinds f (node.Func how ps rs) v q h) j
    where
      not_local : {Q : Type 0} (P : Type 0) (x : Sort) → (x ≡ sort.Local → ⊥) → Callable (node.Func x ps rs) P → Q
      not_local P sort.Local n c = absurd (n refl)
      not_local P sort.Shared n c = absurd c
      not_local P sort.Query n c = absurd c

      by : (v : Value) → At world answers kinds (node.Func how ps rs) f v → Suits world answers kinds given (sent store None ps rs v vs) → Keeps world answers kinds ls (FutureOf r) (sent store given ps rs v vs)
      by (Made (Leaf (part.Method p name)) NoValue) k j =
          given_keeps ls (FutureOf r) store given (Asks (record { callee = p; method = name; parameters = ps; results = rs; arguments = vs })) s may (λ v g. g r t) (λ e g. g) (f, r, how, n, q, t, i, may, m) j
      by (Made (Leaf (part.Method p m)) (AValue u us)) k j = absurd k.1
      by (Made (Leaf p) inner) k j = absurd k.0.1
      by (Made Array inner) (inl e, k) j = absurd e
      by (Made Array inner) (inr e, k) j = absurd e
      by (Made (Error c m) inner) k j = absurd (true≢false (sym k.0.0))
      by (Made h inner) k j = absurd k.0
      by (Function g which) k j = not_local _ how n k
      by (BuiltIn m holds) k j = not_local _ how n k
