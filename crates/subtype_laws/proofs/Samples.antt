-- The rows by the definition of subtyping: what is computed at a depth holds or fails there, and the subtypes are closed
-- pairs.
use Rattle.std.proofs.Common.{◌≡◌, ◌⊎◌, inl, inr, ℕ, zero, suc, Bool, true, false, ◌&&◌, not, List, [], ◌∷◌, Option, Some, None, refl, sym, ◌∙◌, arith}
use Rattle.mo_types.specs.Sub.{Sub, IsSubtype}
use Rattle.mo_types.specs.declared.wire.Ref.TheVariants.{Of}
use Rattle.mo_types.specs.Wire.{wire, SameTo, SameWire}
use Rattle.subtype_laws.specs.Closed.{IsClosed, Paired}
use Rattle.subtype_laws.specs.Decided.{is_below}
use Rattle.subtype_laws.specs.Equal.{AreEqual}
use Rattle.subtype_laws.specs.Rows.{Row, IsAnswer, AreAnswered, subtypes}
use Rattle.subtype_laws.specs.Samples.{Sample, ANat, AnInt, AText, ANone, ANull, OptNat, OptInt, AUnit, V, Wider, NatToNat, NatToInt, L, LPair, M, MPair, MInner, MLast, N, NPair, NInner, NLast, T, TPair, LooseNat, LooseText, TwiceA, TwiceNat, FieldNat, sample_head}
use Rattle.subtype_laws.proofs.Decided.{decides}
use Rattle.subtype_laws.proofs.Depths.{lesser}
use Rattle.subtype_laws.proofs.Greatest.{pairs_hold}

-- ---- what fails

holds_to : (n : ℕ) (t u : Sample) → is_below sample_head n t u ≡ true → Sub sample_head n t u
holds_to n t u e = (decides sample_head n t u).0 e

apart_at : (n : ℕ) (t u : Sample) → is_below sample_head n t u ≡ false → Sub sample_head n t u → ⊥
apart_at n t u e h = let f : true ≡ false = sym ((decides sample_head n t u).1 h) ∙ e in cc

-- it holds to a depth, and fails at the next
abbrev pub fails_at : Option ℕ → Sample → Sample → Bool
fails_at (Some (suc n)) t u = not (is_below sample_head (suc n) t u) && is_below sample_head n t u
fails_at _ t u = false

abbrev pub fail : List Row → Bool
fail [] = true
fail (r ∷ rows) = fails_at r.fails r.low r.high && fail rows

two : (b c : Bool) → b && c ≡ true → (b ≡ true) × (c ≡ true)
two true c h = (refl, h)
two false c h = cc

is_not : (b : Bool) → not b ≡ true → b ≡ false
is_not false h = refl
is_not true h = cc

one_fails : (o : Option ℕ) (t u : Sample) → fails_at o t u ≡ true → IsAnswer t u o
one_fails None t u h = cc
one_fails (Some zero) t u h = cc
one_fails (Some (suc n)) t u h =
    let k = two (not (is_below sample_head (suc n) t u)) (is_below sample_head n t u) h in
    (apart_at (suc n) t u (is_not (is_below sample_head (suc n) t u) k.0), λ m l. lesser sample_head m n t u (omega arith) (holds_to n t u k.1))

pub all_fail : (rows : List Row) → fail rows ≡ true → AreAnswered rows
all_fail [] h = tt
all_fail (r ∷ rows) h = let k = two (fails_at r.fails r.low r.high) (fail rows) h in (one_fails r.fails r.low r.high k.0, all_fail rows k.1)

-- ---- what holds

-- the pairs that the rules lead to
data Pair : Type 0 where
  NatInt : Pair
  NatNat : Pair
  Units : Pair
  NoneNat : Pair
  NullNat : Pair
  Options : Pair
  Variants : Pair
  Functions : Pair
  NBelowL : Pair
  NPairs : Pair
  NInners : Pair
  NLasts : Pair
  LBelowM : Pair
  LPairs : Pair
  LInners : Pair
  LLasts : Pair
  Trees : Pair
  TreePairs : Pair
  NullL : Pair

abbrev low : Pair → Sample
low NatInt = ANat
low NatNat = ANat
low Units = AUnit
low NoneNat = ANone
low NullNat = ANull
low Options = OptNat
low Variants = V
low Functions = NatToNat
low NBelowL = N
low NPairs = NPair
low NInners = NInner
low NLasts = NLast
low LBelowM = L
low LPairs = LPair
low LInners = L
low LLasts = LPair
low Trees = T
low TreePairs = TPair
low NullL = ANull

abbrev high : Pair → Sample
high NatInt = AnInt
high NatNat = ANat
high Units = AUnit
high NoneNat = ANat
high NullNat = OptNat
high Options = OptInt
high Variants = Wider
high Functions = NatToInt
high NBelowL = L
high NPairs = LPair
high NInners = L
high NLasts = LPair
high LBelowM = M
high LPairs = MPair
high LInners = MInner
high LLasts = MLast
high Trees = T
high TreePairs = TPair
high NullL = L

is : (i : Pair) → Paired low high (low i) (high i) ⊎ IsSubtype sample_head (low i) (high i)
is i = inl (i, refl, refl)

closed : IsClosed low high sample_head
closed NatInt = inr (inr (refl, refl))
closed NatNat = inr (inl refl)
closed Units = inr tt
closed NoneNat = inr tt
closed NullNat = inr (inr tt)
closed Options = inr (is NatInt)
closed Variants = inr (is Units, (is NatInt, tt))
closed Functions = inr (refl, (is NatNat, tt), (is NatInt, tt))
closed NBelowL = inr (is NPairs)
closed NPairs = inr (is NatNat, (is NInners, tt))
closed NInners = inr (is NLasts)
closed NLasts = inr (is NatNat, (is NBelowL, tt))
closed LBelowM = inr (is LPairs)
closed LPairs = inr (is NatInt, (is LInners, tt))
closed LInners = inr (is LLasts)
closed LLasts = inr (is NatNat, (is LBelowM, tt))
closed Trees = inr (is Units, (is TreePairs, tt))
closed TreePairs = inr (is Trees, (is Trees, tt))
closed NullL = inr (inr tt)

holds : (i : Pair) → IsSubtype sample_head (low i) (high i)
holds i = pairs_hold sample_head low high closed i

pub all_hold : AreAnswered subtypes
all_hold = (holds NatInt, (holds NoneNat, (holds NullNat, (holds Options, (holds Variants, (holds Functions, (holds NBelowL, (holds LBelowM, (holds Trees, (holds NullL, tt))))))))))

-- ---- bounds and labels

loose_by : (n : ℕ) → Sub sample_head n LooseNat LooseText
unfolding Sub
loose_by zero = tt
loose_by (suc n) = inr tt

text_by : (n : ℕ) → Sub sample_head n AText AText
unfolding Sub
text_by zero = tt
text_by (suc n) = inr refl

loose_text_by : (n : ℕ) → Sub sample_head n LooseText AText
unfolding Sub
loose_text_by zero = tt
loose_text_by (suc n) = inr (text_by n)

pub loose : IsSubtype sample_head LooseNat LooseText
loose = record { by = loose_by }

pub loose_text : IsSubtype sample_head LooseText AText
loose_text = record { by = loose_text_by }

pub loose_apart : IsSubtype sample_head LooseNat AText → ⊥
loose_apart s = apart_at 2 LooseNat AText refl (s.by 2)

pub twice_apart : IsSubtype sample_head TwiceA TwiceA → ⊥
twice_apart s = apart_at 2 TwiceA TwiceA refl (s.by 2)

nat_by : (n : ℕ) → Sub sample_head n ANat ANat
unfolding Sub
nat_by zero = tt
nat_by (suc n) = inr (inl refl)

twice_by : (n : ℕ) → Sub sample_head n TwiceNat FieldNat
unfolding Sub
twice_by zero = tt
twice_by (suc n) = inr (nat_by n, tt)

once_by : (n : ℕ) → Sub sample_head n FieldNat TwiceNat
unfolding Sub
once_by zero = tt
once_by (suc n) = inr (nat_by n, (nat_by n, tt))

pub twice_equal : AreEqual sample_head TwiceNat FieldNat
twice_equal = (record { by = twice_by }, record { by = once_by })

two_entries : SameTo (wire sample_head) (wire sample_head) 1 (Of TwiceNat) (Of FieldNat) → ⊥
unfolding SameTo
two_entries h = h.2

pub twice_wires : SameWire (wire sample_head) (wire sample_head) (Of TwiceNat) (Of FieldNat) → ⊥
twice_wires s = two_entries (s.to 1)
