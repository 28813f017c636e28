-- What is known of the types around a judgement, and of what it gives. That the definitions of the program are proper is known only where all of it has been
-- judged, so what is said of types is said for that case.
use Rattle.std.proofs.Common.{◌≡◌, ℕ, Bool, true, false, List, [], ◌∷◌, ◌++◌, Option, Some, None, refl, ap, subst}
use Rattle.std.specs.Prelude.{cond, is_some, map}
use Rattle.std.specs.Map.{lookup}
use Rattle.mo_types.specs.declared.node.Node.{Node}
use Rattle.mo_types.specs.Heads.{async_of}
use Rattle.mo_types.specs.Sub.{Each}
use Rattle.typed_tree.specs.Instances.{types_in}
use Rattle.typing_rules.specs.declared.condition.Condition.{Condition}
use Rattle.typing_rules.specs.declared.condition.Condition.TheVariants as condition
use Rattle.typing_rules.specs.AbstractSyntax.{Bytes, Form}
use Rattle.typing_rules.specs.AsyncPlaces.{Around, Body, takes_call, takes_name, calls, FuturePlaced}
use Rattle.typing_rules.specs.AsyncPlaces as around
use Rattle.typing_rules.specs.Contexts.{Bound, Scope, Label, Context, first_loops, in_loop}
use Rattle.typing_rules.specs.Definitions.{Definitions}
use Rattle.typing_rules.specs.Ends.{BelowWanted, Has, Leaves, FirstAbove, Greatest, Branches, with_type, wanted}
use Rattle.typing_rules.specs.Gathered.{nothing, both}
use Rattle.typing_rules.specs.Heads.{head, members_head}
use Rattle.typing_rules.specs.Judgements.{Judgement, Gives, Part, If, IsBelow}
use Rattle.typing_rules.specs.Terms.{Term}
use Rattle.typing_rules.specs.Terms as t
use Rattle.typing_rules.specs.TypedTrees.{Note, Typed, typed, type_of}
use Rattle.proper_laws.specs.Meets.{MeetsOnly}
use Rattle.proper_laws.specs.Proper.{IsProper, IsMet, ArePartsProper}
use Rattle.proper_laws.proofs.Meeting.{part, tests, if_so, asks_all}
use Rattle.proper_laws.proofs.Unfolding.{proper_met, parts_proper, members_proper}

pub each_both : {A : Type 0} (P : A → Type 0) (xs ys : List A) → Each P xs → Each P ys → Each P (xs ++ ys)
each_both P [] ys h k = k
each_both P (x ∷ xs) ys h k = (h.0, each_both P xs ys h.1 k)

found_cond : {A : Type 0} (P : A → Type 0) (c : Bool) (x : A) (o : Option A) (b : A) → P x → (o ≡ Some b → P b) → cond c (Some x) o ≡ Some b → P b
found_cond P true x o b h k e = let g : x ≡ b = cc in subst P g h
found_cond P false x o b h k e = k e

-- what is found under a name
pub each_named : {A : Type 0} (P : A → Type 0) (test : Bytes → Bool) (xs : List (Bytes × A)) (b : A) → Each (λ q. P q.1) xs → lookup test xs ≡ Some b → P b
each_named P test [] b h e = cc
each_named P test (x ∷ xs) b h e = found_cond P (test x.0) x.1 (lookup test xs) b h.0 (each_named P test xs b h.1) e

module _ (defs : Definitions) where
  abbrev pub Whole : Type 0
  Whole = ArePartsProper defs defs

  abbrev pub Known : Term → Type 0
  Known u = Whole → IsMet defs u

  abbrev pub Plain : Term → Type 0
  Plain u = Whole → IsProper defs u

  abbrev pub Meeting : {A : Type 0} → Judgement A → (A → Type 0) → Type 0
  Meeting j Q = MeetsOnly defs Known j Q

  abbrev pub IsWanted : Option Term → Type 0
  IsWanted None = Unit {0}
  IsWanted (Some u) = Plain u

  -- what may stand there: a future only where it is awaited, ignored or named
  abbrev pub IsPlaced : Around → Term → Type 0
  IsPlaced around.Awaited u = IsMet defs u
  IsPlaced around.Named u = IsMet defs u
  IsPlaced _ u = IsProper defs u

  -- the definitions in a part are proper, and so is the type that it gives
  abbrev pub Fits : Around → Definitions → Typed → Type 0
  Fits o part b = ArePartsProper defs part × (Whole → IsPlaced o (type_of b))

  -- a future is never assigned to
  abbrev pub IsBoundFine : Bound → Type 0
  IsBoundFine b = Known b.type × (b.mutable ≡ true → Plain b.type)

  abbrev pub IsScopeFine : Scope → Type 0
  IsScopeFine names = Each (λ q. IsBoundFine q.1) names

  abbrev pub IsContextFine : Context → Type 0
  IsContextFine e = IsScopeFine e.values × Each (λ q. Plain q.1.type) e.labels × IsWanted e.returns

  pub after : {A B : Type 0} (j : Judgement B) (k : B → Judgement A) (Q : B → Type 0) (R : A → Type 0) → Meeting j Q → ((b : B) → Q b → Meeting (k b) R) → Meeting (Part j k) R
  after j k Q R m f = part defs Known j k Q R m f

  -- ---- definitions

  pub no_parts : ArePartsProper defs nothing
  no_parts = (tt, tt)

  pub both_parts : (a b : Definitions) → ArePartsProper defs a → ArePartsProper defs b → ArePartsProper defs (both a b)
  both_parts a b h k = (each_both _ a.types b.types h.0 k.0, each_both _ a.parameters b.parameters h.1 k.1)

  -- ---- types

  pub known : (u : Term) → Plain u → Known u
  known u h w = proper_met defs u (h w)

  pub placed : (o : Around) (u : Term) → IsProper defs u → IsPlaced o u
  placed around.Awaited u h = proper_met defs u h
  placed around.Named u h = proper_met defs u h
  placed around.Labelled u h = h
  placed around.Other u h = h

  pub met : (o : Around) (u : Term) → IsPlaced o u → IsMet defs u
  met around.Awaited u h = h
  met around.Named u h = h
  met around.Labelled u h = proper_met defs u h
  met around.Other u h = proper_met defs u h

  pub parts_of : (u : Term) → Known u → (y : Node Term) → head defs u ≡ y → Whole → Each (IsProper defs) (types_in y)
  parts_of u k y e w = subst (λ z. Each (IsProper defs) (types_in z)) e (parts_proper defs w u (k w))

  pub members_of : (u : Term) → Known u → (y : Node Term) → members_head defs u ≡ y → Whole → Each (IsProper defs) (types_in y)
  members_of u k y e w = subst (λ z. Each (IsProper defs) (types_in z)) e (members_proper defs w u (k w))

  -- ---- how rules end

  pub below : (at : ℕ) (w : Option Term) (u : Term) (a : Typed) (R : Typed → Type 0) → R a → Meeting (BelowWanted at w u a) R
  below at None u a R h = h
  below at (Some v) u a R h = (λ q. h, tt)

  pub has : (at : ℕ) (w : Option Term) (u : Term) (f : Form Note) (R : Typed → Type 0) → Known u → R (typed at u f) → Meeting (Has at w u f) R
  has at w u f R k h = (k, below at w u (typed at u f) R h)

  -- of a type that is no future
  pub has_plain : (o : Around) (part : Definitions) (at : ℕ) (w : Option Term) (u : Term) (f : Form Note) → Plain u → ArePartsProper defs part → Meeting (Has at w u f) (Fits o part)
  has_plain o part at w u f k h = has at w u f (Fits o part) (known u k) (h, λ z. placed o u (k z))

  pub leaves : (o : Around) (at : ℕ) (w : Option Term) (u : Term) (f : Form Note) → Meeting (Leaves at w u f) (Fits o nothing)
  leaves o at w u f = (λ z. (tt, λ e. cc), (λ h. has_plain o nothing at w t.Bottom f (λ z. tt) no_parts, tt))

  pub first_above : (c : Condition) (at : ℕ) (all us : List Term) (P : Term → Type 0) → Each P us → Meeting (FirstAbove c at all us) P
  first_above c at all [] P h = tt
  first_above c at all (u ∷ us) P h =
      asks_all defs Known (map (λ v. IsBelow v u) all) (λ yes. If yes (λ x. Gives u) (λ x. FirstAbove c at all us)) P (λ b.
      if_so defs Known b (λ x. Gives u) (λ x. FirstAbove c at all us) P (λ e. h.0) (λ e. first_above c at all us P h.1))

  pub greatest : (c : Condition) (at : ℕ) (us : List Term) (P : Term → Type 0) → Each P us → Meeting (Greatest c at us) P
  greatest c at us P h = first_above c at us us P h

  pub branches : (o : Around) (part : Definitions) (at : ℕ) (w : Option Term) (us : List Term) (f : Form Note) → IsWanted w → Each Plain us → ArePartsProper defs part → Meeting (Branches at w us f) (Fits o part)
  branches o part_ at (Some u) us f k h d = (d, λ z. placed o u (k z))
  branches o part_ at None us f k h d =
      part defs Known (Greatest condition.Branches at us) _ Plain (Fits o part_) (greatest condition.Branches at us Plain h) (λ u p. has_plain o part_ at None u f p d)

  -- the type that is wanted
  with_is : {X : Type 0} (u : Term) (r : Option X) (q : Term × X) → with_type defs u r ≡ Some q → (u ≡ q.0) × (r ≡ Some q.1)
  with_is u None q e = cc
  with_is u (Some x) q e = let h : (u, x) ≡ q = cc in (ap (λ z. z.0) h, ap (λ z. Some z.1) h)

  pub wanted_is : {X : Type 0} (of : Node Term → Option X) (w : Option Term) (q : Term × X) → IsWanted w → wanted defs of w ≡ Some q → Plain q.0 × (of (head defs q.0) ≡ Some q.1)
  wanted_is of None q k e = cc
  wanted_is of (Some u) q k e =
      let h = with_is u (of (head defs u)) q e in
      (subst Plain h.0 k, subst (λ v. of (head defs v) ≡ Some q.1) h.0 h.1)

  -- ---- names and calls that may give futures

  -- where it is tested that one may stand there
  abbrev pub MayStand : Bool → Term → Type 0
  MayStand takes u = is_some (async_of (head defs u)) ≡ true → takes ≡ true

  is_proper : (u : Term) → IsMet defs u → MayStand false u → IsProper defs u
  unfolding head
  is_proper (t.Async a) m f = let h : false ≡ true = f refl in cc
  is_proper u m f = m

  pub future_placed : (b : Body) (takes : Bool) (at : ℕ) (u : Term) → Meeting (FuturePlaced defs b takes at u) (λ z. MayStand takes u)
  future_placed b takes at u =
      if_so defs Known (is_some (async_of (head defs u))) _ _ (λ z. MayStand takes u)
      (λ e. tests defs Known condition.AsyncPlace at (calls b) _ (λ z. MayStand takes u) (λ f. tests defs Known condition.AsyncPlace at takes _ (λ z. MayStand takes u) (λ g. λ h. g)))
      (λ e. λ h. let k : false ≡ true = cc in cc)

  pub name_placed : (o : Around) (u : Term) → IsMet defs u → MayStand (takes_name o) u → IsPlaced o u
  name_placed around.Awaited u m f = m
  name_placed around.Named u m f = m
  name_placed around.Labelled u m f = is_proper u m f
  name_placed around.Other u m f = is_proper u m f

  pub call_placed : (o : Around) (u : Term) → IsMet defs u → MayStand (takes_call o) u → IsPlaced o u
  call_placed around.Awaited u m f = m
  call_placed around.Named u m f = m
  call_placed around.Labelled u m f = is_proper u m f
  call_placed around.Other u m f = is_proper u m f

  -- ---- contexts

  loops_fine : (ls : List (Bytes × Label)) → Each (λ q. Plain q.1.type) ls → Each (λ q. Plain q.1.type) (first_loops ls)
  loops_fine [] h = tt
  loops_fine (l ∷ ls) h = h

  pub loop_fine : (o : Around) (e : Context) → IsContextFine e → IsContextFine (in_loop o e)
  loop_fine around.Labelled e h = (h.0, loops_fine e.labels h.1, h.2)
  loop_fine o e h = h
