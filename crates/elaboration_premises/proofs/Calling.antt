-- In a typed call the arguments are such ts the patterns of the parameters stand on.
use Rattle.std.proofs.Common.{◌≡◌, ◌⊎◌, inl, inr, ℕ, zero, suc, List, [], ◌∷◌, map, true≢false, Some, refl, sym, ap, ◌∙◌, subst, length}
use Rattle.mo_types.specs.declared.node.Node.{Node}
use Rattle.mo_types.specs.declared.node.Node.TheVariants as node
use Rattle.mo_types.specs.declared.node.Sort.TheVariants as sort
use Rattle.mo_types.specs.declared.node.TypeId.{TypeId}
use Rattle.mo_types.specs.Heads.{is_any}
use Rattle.mo_types.specs.Sub.{IsSubtype, Pairwise}
use Rattle.subtype_laws.proofs.Inversion.{to_above}
use Rattle.subtype_laws.specs.Inversion.{IsAbove}
use Rattle.core_ir.specs.Values as core
use Rattle.typed_tree.specs.declared.action.Action.{Action}
use Rattle.typed_tree.specs.declared.action.Member.{Member}
use Rattle.typed_tree.specs.declared.action.Member.TheVariants as member
use Rattle.typed_tree.specs.Language as language
use Rattle.typed_tree.specs.Language.{Functions, NoExp, NoFunction, AFunction}
use Rattle.typed_tree.specs.MemberTypes as types
use Rattle.typed_tree.specs.MemberTypes.{MemberTyped}
use Rattle.typed_tree.specs.Patterns.{Pats, NoPat, APat}
use Rattle.typed_tree.specs.Substitution.{Slots, hide, count, put_functions}
use Rattle.typed_tree.specs.Wants.{Want, Anything, Of, Generic, Below}
use Rattle.mo_soundness.specs.Lawful.{IsLawful}
use Rattle.mo_soundness.specs.Running.{Around, AnswerTypes, Instances, NameStands, HasType, Named, HasValue, EachTyped, FunctionsTyped}
use Rattle.mo_soundness.specs.RunningPatterns.{PatternsTyped}
use Rattle.mo_soundness.specs.Worlds.{World}
use Rattle.mo_soundness.proofs.Found.{opened}
use Rattle.mo_soundness.proofs.Less.{has_sub}
use Rattle.mo_machine.specs.Values.{Value, Closure}
use Rattle.mo_machine.specs.Environments.{Environment}
use Rattle.mo_machine.specs.Unload.{unload, slots, before}
use Rattle.elaboration.specs.Meeting.{MeetEach}
use Rattle.elaboration_values.specs.Belonging.{Known, EachBelongs}
use Rattle.elaboration_steps.specs.Stacks.{alone}
use Rattle.elaboration_steps.specs.Follows.{ParametersMeet}
use Rattle.elaboration_premises.proofs.Meeting.{same, meets}

-- the types in the place of type parameters with which a function under such a name has the type
abbrev chosen : (world : World) (a : Want TypeId) (f : TypeId) → HasType world a f → Instances world a
chosen world (Generic vs t) f h = (f, h)
chosen world a f h = tt

of_stands : (world : World) (t f : TypeId) → t ≡ f → (ps : List TypeId) (r : TypeId) → ((Of t ≡ Anything) ⊎ ((u : TypeId) × (world.head u ≡ types.Function ps r) × (Of t ≡ Of u))) → world.head f ≡ types.Function ps r
of_stands world t f h ps r (inl e) = absurd (let z : Of t ≡ Anything = e in cc)
of_stands world t f h ps r (inr o) = let z : Of t ≡ Of o.0 = o.2 in let same : o.0 ≡ t = cc in subst (λ x. world.head x ≡ types.Function ps r) (same ∙ h) o.1

stands : (world : World) (a : Want TypeId) (f : TypeId) (h : HasType world a f) (ps : List TypeId) (r : TypeId) → NameStands world a (chosen world a f h) ps r → world.head f ≡ types.Function ps r
stands world (Generic vs t) f h ps r n = n
stands world (Of t) f h ps r n = of_stands world t f h ps r n
stands world a f h ps r n = absurd h

-- a function of these parameters is below one of those
parameters_below : (world : World) (f g : TypeId) (ps qs : List TypeId) (r s : TypeId) → Below world.head f g → world.head f ≡ types.Function ps r → world.head g ≡ types.Function qs s → Pairwise (IsSubtype world.head) qs ps
parameters_below world f g ps qs r s b p q =
    by (subst (λ y. IsAbove (IsSubtype world.head) g (types.Function ps r) y) q (subst (λ x. IsAbove (IsSubtype world.head) g x (world.head g)) p (to_above world.head f g b)))
  where
    by : IsAbove (IsSubtype world.head) g (types.Function ps r) (types.Function qs s) → Pairwise (IsSubtype world.head) qs ps
    by (inl e) = absurd (true≢false (sym (ap is_any e)))
    by (inr h) =
        let e : types.Function qs s ≡ node.Func sort.Local h.0 h.1 = h.2 in
        let first : h.0 ≡ qs = cc in
        subst (λ x. Pairwise (IsSubtype world.head) x ps) first h.3

as_long : (world : World) (ps qs : List TypeId) → Pairwise (IsSubtype world.head) qs ps → length qs ≡ length ps
as_long world [] [] h = refl
as_long world [] (q ∷ qs) h = absurd h
as_long world (p ∷ ps) [] h = absurd h
as_long world (p ∷ ps) (q ∷ qs) h = ap suc (as_long world ps qs h.1)

module _ (world : World) (answers : AnswerTypes) (kinds : List TypeId) where
  -- values of these types
  abbrev pub AllHave : List TypeId → List Value → Type 0
  AllHave [] [] = Unit {0}
  AllHave (t ∷ ts) (v ∷ vs) = HasValue world answers kinds (Of t) (unload v) × AllHave ts vs
  AllHave _ _ = ⊥

  pub arguments : (c : Around) (ts : List TypeId) (vs : List Value) → EachTyped world answers kinds c (before vs NoExp) (map (λ t. Of t) ts) → AllHave ts vs
  arguments c [] [] h = tt
  arguments c [] (v ∷ vs) h = absurd h
  arguments c (t ∷ ts) [] h = absurd h
  arguments c (t ∷ ts) (v ∷ vs) h = (h.0, arguments c ts vs h.1)

  counted : (ts : List TypeId) (vs : List Value) → AllHave ts vs → length vs ≡ length ts
  counted [] [] h = refl
  counted [] (v ∷ vs) h = absurd h
  counted (t ∷ ts) [] h = absurd h
  counted (t ∷ ts) (v ∷ vs) h = ap suc (counted ts vs h.1)

  module _ (lawful : IsLawful world.head) (known : List Known) where
    raised : (ts us : List TypeId) (vs : List Value) → Pairwise (IsSubtype world.head) ts us → AllHave ts vs → AllHave us vs
    raised [] [] vs p h = h
    raised [] (u ∷ us) vs p h = absurd p
    raised (t ∷ ts) [] vs p h = absurd p
    raised (t ∷ ts) (u ∷ us) [] p h = absurd h
    raised (t ∷ ts) (u ∷ us) (v ∷ vs) p h = (has_sub world lawful answers kinds (unload v) (Of t) (Of u) h.0 p.0, raised ts us vs p.1 h.1)

    pub meet_all : (ps : Pats) (ts : List TypeId) (ns : List (Want TypeId)) (vs : List Value) (ws : List core.Value) → PatternsTyped world.head ps ts ns → AllHave ts vs → EachBelongs known vs ws → MeetEach ps ws
    meet_all NoPat [] ns [] [] h i b = tt
    meet_all NoPat [] ns [] (w ∷ ws) h i b = absurd b
    meet_all NoPat [] ns (v ∷ vs) ws h i b = absurd i
    meet_all NoPat (t ∷ ts) ns vs ws h i b = absurd h
    meet_all (APat p ps) [] ns vs ws h i b = absurd h
    meet_all (APat p ps) (t ∷ ts) ns [] ws h i b = absurd i
    meet_all (APat p ps) (t ∷ ts) ns (v ∷ vs) [] h i b = absurd b
    meet_all (APat p ps) (t ∷ ts) ns (v ∷ vs) (w ∷ ws) h i b =
        (meets world answers kinds lawful p t h.0 (unload v) w h.3 i.0 (same known v w b.0), meet_all ps ts h.1 vs ws h.4 i.1 b.1)

    -- the function of this place in its group
    parameters_meet : (c : Around) (s : Slots) (f g r : TypeId) (qs : List TypeId) → Below world.head f g → world.head g ≡ types.Function qs r → (vs : List Value) (ws : List core.Value) → AllHave qs vs → EachBelongs known vs ws
        → (fns : Functions) (ts : List (Want TypeId)) (n : ℕ) → FunctionsTyped world answers kinds c (put_functions s fns) ts → Named world ts n f → ParametersMeet fns n ws
    parameters_meet c s f g r qs b q vs ws i e NoFunction ts n h k = tt
    parameters_meet c s f g r qs b q vs ws i e (AFunction how m ps body fns) [] n h k = absurd h
    parameters_meet c s f g r qs b q vs ws i e (AFunction how m ps body fns) (a ∷ ts) zero h k =
        let z : Some a ≡ Some k.0 = k.1 in
        let there : a ≡ k.0 = cc in
        let has = subst (λ a. HasType world a f) (sym there) k.2 in
        let d = h.0 (chosen world a f has) in
        let below = parameters_below world f g d.0 qs d.1 r b (stands world a f has d.0 d.1 d.3) q in
        meet_all ps d.0 d.2 vs ws d.4 (raised qs d.0 vs below i) e
    parameters_meet c s f g r qs b q vs ws i e (AFunction how m ps body fns) (a ∷ ts) (suc n) h k = parameters_meet c s f g r qs b q vs ws i e fns ts n h.1 k

    pub closure_meets : (group : Functions) (which : ℕ) (env : Environment) (g r : TypeId) (qs : List TypeId) → world.head g ≡ types.Function qs r → HasValue world answers kinds (Of g) (unload (Closure group which env))
        → (vs : List Value) (ws : List core.Value) → AllHave qs vs → EachBelongs known vs ws → ParametersMeet group which ws
    closure_meets group which env g r qs q h vs ws i e =
        let k = opened world answers kinds g (types.Function qs r) (unload (Closure group which env)) q h in
        parameters_meet (record { names = k.0; labels = [] }) (hide (count group) (slots env)) k.1 g r qs k.4 q vs ws i e group k.0 which k.2 k.3

  -- a built-in function that holds nothing takes one argument
  single : (m : Member) (a : Action) → alone m ≡ Some a → (ws : List (Want TypeId)) (n : Node TypeId) → MemberTyped world.head m ws n → (p r : TypeId) × (n ≡ types.Function (p ∷ []) r)
  single member.DebugPrint a q ws n h = (h.0, h.3.0, h.3.1)
  single member.DebugTrap a q ws n h = (h.0, h.3.0, h.3.1)
  single member.ErrorReject a q ws n h = (h.0, h.3.0, h.3.1)
  single member.ErrorMessage a q ws n h = (h.0, h.3.0, h.3.1)
  single member.ErrorCode a q ws n h = (h.0, h.3.0, h.3.1)
  single member.NatToText a q ws n h = (h.0, h.3.0, h.3.1)
  single member.IntToText a q ws n h = (h.0, h.3.0, h.3.1)
  single member.PrincipalFromActor a q ws n h = (h.0, h.3.0, h.3.1)
  single member.ArrayTabulate a q ws n h = cc
  single member.ArrayInit a q ws n h = cc
  single member.ArrayFreeze a q ws n h = cc
  single member.ArrayThaw a q ws n h = cc
  single member.ArraySize a q ws n h = cc
  single member.ArrayVals a q ws n h = cc
  single member.ArrayKeys a q ws n h = cc
  single member.TextSize a q ws n h = cc
  single member.TextChars a q ws n h = cc
  single member.NextVal a q ws n h = cc
  single member.NextKey a q ws n h = cc
  single member.NextChar a q ws n h = cc

  pub one_argument : (m : Member) (a : Action) → alone m ≡ Some a → (holds : language.Values) (g r : TypeId) (qs : List TypeId) → world.head g ≡ types.Function qs r → HasValue world answers kinds (Of g) (language.BuiltIn m holds)
      → (vs : List Value) → AllHave qs vs → length vs ≡ 1
  one_argument m a q holds g r qs e h vs i =
      let k = opened world answers kinds g (types.Function qs r) (language.BuiltIn m holds) e h in
      let t = single m a q k.0 (world.head k.1) k.2 in
      counted qs vs i ∙ as_long world (t.0 ∷ []) qs (parameters_below world k.1 g (t.0 ∷ []) qs t.1 r k.4 t.2 e)
