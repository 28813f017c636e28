-- Formed code: operands, jumps and segments.
use Rattle.std.proofs.Common.{◌≡◌, ℕ, zero, suc, ◌+◌, ◌<◌, ◌≤◌, ◌⊎◌, inl, inr, refl, sym, ap, subst, List, [], ◌∷◌, ◌++◌, length, map, Option, Some, None, Bool, true, false, arith as arithmetic}
use Rattle.std.specs.Prelude.{slice_get, slice_set}
use Rattle.core_ir.specs.declared.code.Operand.{Operand}
use Rattle.core_ir.specs.declared.code.Way.{Way}
use Rattle.core_ir.specs.declared.code.Way.TheVariants.{Near, Far}
use Rattle.core_ir.specs.declared.code.Handler.{Handler}
use Rattle.core_ir.specs.Expressions as core
use Rattle.core_ir.specs.Expressions.{Exp, Constant?, Name, Do, Functions, Try, Exps, NoExp, AnExp}
use Rattle.core_ir.specs.FormedExpressions.{FormedExp, FormedAll}
use Rattle.core_ir.specs.Code.{Code, Stop, Let, If, Match, Loop, Label, Branch, Leave, Pass, Make, Call, Tabulate, Send, Wait, Raise, Return}
use Rattle.core_ir.specs.FormedCode.{FormedOperand, FormedOperands, FormedWay, FormedHandler, FormedCode, FormedSegments}
use Rattle.core_laws.specs.Around.{Kind, Other, LabelHere, LabelAt, HandlerHere, HandlerAt, way, target, out_by, farther, handler}
use Rattle.core_laws.specs.Slots.{name_at, operand, operands, place, count, first, others, slots_from, members_from, captured_from, slot, into, move, jump}
use Rattle.core_laws.specs.Split.{Segments, code_or_stop}

-- ---- lists

pub length_push : {A : Type 0} (xs : List A) (x : A) → length (xs ++ x ∷ []) ≡ suc (length xs)
length_push [] x = refl
length_push (y ∷ xs) x = ap suc (length_push xs x)

pub length_under : (h m n : ℕ) (ns : List Operand) → length ns ≡ n → length (slots_from h m ++ ns) ≡ m + n
length_under h zero n ns e = omega (arithmetic, e)
length_under h (suc m) n ns e = let r = length_under (suc h) m n ns e in omega (arithmetic, r)

pub length_operands : (ns : List Operand) (es : Exps) (h : ℕ) → length (operands ns es h) ≡ count es
length_operands ns NoExp h = refl
length_operands ns (AnExp e es) h = ap suc (length_operands ns es (suc h))

pub length_others : (xs : List Operand) (n : ℕ) → length xs ≡ suc n → length (others xs) ≡ n
length_others [] n e = omega (arithmetic, e)
length_others (x ∷ xs) n e = omega (arithmetic, e)

-- ---- constructs and labels around a place

abbrev pub near : List Kind → ℕ
near [] = 0
near (Other ∷ ls) = suc (near ls)
near (LabelHere t ∷ ls) = suc (near ls)
near (LabelAt j t ∷ ls) = near ls
near (HandlerHere t ∷ ls) = suc (near ls)
near (HandlerAt j t ∷ ls) = near ls

abbrev pub labels : List Kind → ℕ
labels [] = 0
labels (Other ∷ ls) = labels ls
labels (LabelHere t ∷ ls) = suc (labels ls)
labels (LabelAt j t ∷ ls) = suc (labels ls)
labels (HandlerHere t ∷ ls) = labels ls
labels (HandlerAt j t ∷ ls) = labels ls

-- ---- lists of segments

pushed : (s : Segments) (x : Option Code) (j : ℕ) (o : Option Code) → slice_get (s ++ x ∷ []) j ≡ Some o → (slice_get s j ≡ Some o) ⊎ ((j ≡ length s) × (o ≡ x))
pushed [] x zero o e = inr (refl, (let z : o ≡ x = cc in z))
pushed [] x (suc j) o e = absurd (let z : None ≡ Some o = e in cc)
pushed (y ∷ s) x zero o e = inl e
pushed (y ∷ s) x (suc j) o e = by (pushed s x j o e)
  where
    by : (slice_get s j ≡ Some o) ⊎ ((j ≡ length s) × (o ≡ x)) → (slice_get s j ≡ Some o) ⊎ ((suc j ≡ suc (length s)) × (o ≡ x))
    by (inl h) = inl h
    by (inr h) = inr (ap suc (h.0), h.1)

was_set : (r : Segments) (n : ℕ) (y : Option Code) (j : ℕ) (o : Option Code) → slice_get (slice_set r n y) j ≡ Some o → (o ≡ y) ⊎ ((slice_get r j ≡ Some o) × (j ≡ n → ⊥))
was_set [] n y j o e = absurd (let z : None ≡ Some o = e in cc)
was_set (z ∷ r) zero y zero o e = inl (let i : o ≡ y = cc in i)
was_set (z ∷ r) zero y (suc j) o e = inr (e, λ i. absurd (omega (arithmetic, i)))
was_set (z ∷ r) (suc n) y zero o e = inr (e, λ i. absurd (omega (arithmetic, i)))
was_set (z ∷ r) (suc n) y (suc j) o e = by (was_set r n y j o e)
  where
    by : (o ≡ y) ⊎ ((slice_get r j ≡ Some o) × (j ≡ n → ⊥)) → (o ≡ y) ⊎ ((slice_get r j ≡ Some o) × (suc j ≡ suc n → ⊥))
    by (inl h) = inl h
    by (inr h) = inr (h.0, λ i. h.1 (omega (arithmetic, i)))

-- ---- code

module _ (sizes sees : ℕ → ℕ) (globals bound : ℕ) (shared : Bool) (slots total size seen : ℕ) where
  abbrev pub Is : ℕ → Code → Type 0
  Is n c = FormedCode sizes sees globals bound shared slots total size seen n c

  abbrev pub Ok : Operand → Type 0
  Ok x = FormedOperand sizes sees globals bound shared slots total size seen x

  abbrev pub AllOk : List Operand → Type 0
  AllOk xs = FormedOperands sizes sees globals bound shared slots total size seen xs

  abbrev pub Goes : ℕ → Way → Type 0
  Goes n w = FormedWay sizes sees globals bound shared slots total size seen n w

  abbrev pub Takes : ℕ → Option Handler → Type 0
  Takes n o = FormedHandler sizes sees globals bound shared slots total size seen n o

  -- inside one construct more

  outer_way : (n : ℕ) (w : Way) → Goes n w → Goes (suc n) w
  outer_way n (Near l) h = omega (arithmetic, h)
  outer_way n (Far j) h = h

  outer_handler : (n : ℕ) (o : Option Handler) → Takes n o → Takes (suc n) o
  outer_handler n None h = tt
  outer_handler n (Some x) h = (h.0, outer_way n x.way (h.1))

  pub outer : (n : ℕ) (c : Code) → Is n c → Is (suc n) c
  outer n Stop h = omega arithmetic
  outer n (Let t p xs c) h = (h.0, h.1, h.2, outer n c (h.3))
  outer n (If p xs y m c) h = (h.0, h.1, h.2, outer (suc n) y (h.3), outer (suc n) m (h.4), outer n c (h.5))
  outer n (Match t k x y m c) h = (h.0, h.1, outer (suc n) y (h.2), outer (suc n) m (h.3), outer n c (h.4))
  outer n (Loop b c) h = (outer (suc n) b (h.0), outer n c (h.1))
  outer n (Label b c) h = (outer (suc n) b (h.0), outer n c (h.1))
  outer n (Branch l) h = omega (arithmetic, h)
  outer n (Leave j) h = h
  outer n (Pass t x j) h = h
  outer n (Make t xs k c) h = (h.0, h.1, h.2, h.3, outer n c (h.4))
  outer n (Call t f xs c) h = (h.0, h.1, h.2, outer n c (h.3))
  outer n (Tabulate t m f c) h = (h.0, h.1, h.2, outer n c (h.3))
  outer n (Send t s f xs k c) h = (h.0, h.1, h.2, h.3, h.4, outer_handler n k (h.5), outer n c (h.6))
  outer n (Wait t x k j) h = (h.0, h.1, h.2, outer_handler n k (h.3), h.4)
  outer n (Raise x k) h = (h.0, h.1, outer_handler n k (h.2))
  outer n (Return x) h = h

  -- operands

  pub name_formed : (ns : List Operand) (x : ℕ) → AllOk ns → Ok (name_at ns x)
  name_formed [] x h = tt
  name_formed (y ∷ ns) zero h = h.0
  name_formed (y ∷ ns) (suc x) h = name_formed ns x (h.1)

  operand_formed : (ns : List Operand) (n l : ℕ) (e : Exp) (h : ℕ) → FormedExp sizes sees globals bound shared n l e → AllOk ns → h < slots → Ok (operand ns e h)
  operand_formed ns n l (Constant? k) h f i s = tt
  operand_formed ns n l (Name x) h f i s = name_formed ns x i
  operand_formed ns n l (core.Global g) h f i s = f
  operand_formed ns n l (Do goal es) h f i s = s
  operand_formed ns n l (Functions k b) h f i s = s
  operand_formed ns n l (core.Loop b) h f i s = s
  operand_formed ns n l (core.Label b) h f i s = s
  operand_formed ns n l (Try a b) h f i s = s

  pub operands_formed : (ns : List Operand) (n l : ℕ) (es : Exps) (h : ℕ) → FormedAll sizes sees globals bound shared n l es → AllOk ns → h + count es ≤ slots → AllOk (operands ns es h)
  operands_formed ns n l NoExp h f i s = tt
  operands_formed ns n l (AnExp e es) h f i s = (operand_formed ns n l e h (f.0) i (omega (arithmetic, s)), operands_formed ns n l es (suc h) (f.1) i (omega (arithmetic, s)))

  pub first_formed : (xs : List Operand) → AllOk xs → 1 ≤ length xs → Ok (first xs)
  first_formed [] h i = absurd (omega (arithmetic, i))
  first_formed (x ∷ xs) h i = h.0

  pub others_formed : (xs : List Operand) → AllOk xs → AllOk (others xs)
  others_formed [] h = tt
  others_formed (x ∷ xs) h = h.1

  pub slots_formed : (h n : ℕ) → h + n ≤ slots → AllOk (slots_from h n)
  slots_formed h zero i = tt
  slots_formed h (suc n) i = ((let z : h < slots = omega (arithmetic, i) in z), slots_formed (suc h) n (omega (arithmetic, i)))

  pub members_formed : (m n : ℕ) → m + n ≤ size → AllOk (members_from m n)
  members_formed m zero i = tt
  members_formed m (suc n) i = ((let z : m < size = omega (arithmetic, i) in z), members_formed (suc m) n (omega (arithmetic, i)))

  pub captured_formed : (x n : ℕ) → x + n ≤ seen → AllOk (captured_from x n)
  captured_formed x zero i = tt
  captured_formed x (suc n) i = ((let z : x < seen = omega (arithmetic, i) in z), captured_formed (suc x) n (omega (arithmetic, i)))

  pub append_formed : (xs ys : List Operand) → AllOk xs → AllOk ys → AllOk (xs ++ ys)
  append_formed [] ys h i = i
  append_formed (x ∷ xs) ys h i = (h.0, append_formed xs ys (h.1) i)

  -- slots that take values

  abbrev pub Target : Option ℕ → Type 0
  Target None = Unit {0}
  Target (Some t) = t < slots

  pub slot_formed : (t : Option ℕ) (h : ℕ) → Target t → h < slots → slot t h < slots
  slot_formed None h i j = j
  slot_formed (Some t) h i j = i

  pub place_formed : (e : Exp) (h : ℕ) → h < slots → Target (place e h)
  place_formed (Constant? k) h i = tt
  place_formed (Name x) h i = tt
  place_formed (core.Global g) h i = tt
  place_formed (Do goal es) h i = i
  place_formed (Functions k b) h i = i
  place_formed (core.Loop b) h i = i
  place_formed (core.Label b) h i = i
  place_formed (Try a b) h i = i

  into_formed : (n t : ℕ) (a : Operand) (c : Code) → t < slots → Ok a → Is n c → Is n (into t a c)
  into_formed n t a (Leave j) s h i = (i.0, s, h, i.1)
  into_formed n t a c s h i = (s, refl, (h, tt), i)

  pub move_formed : (n : ℕ) (t : Option ℕ) (a : Operand) (c : Code) → Target t → Ok a → Is n c → Is n (move t a c)
  move_formed n None a c s h i = i
  move_formed n (Some t) a c s h i = into_formed n t a c s h i

  -- what stands around

  abbrev pub Kinds : List Kind → Type 0
  Kinds [] = Unit {0}
  Kinds (Other ∷ ls) = Kinds ls
  Kinds (LabelHere t ∷ ls) = Target t × Kinds ls
  Kinds (LabelAt j t ∷ ls) = Target t × Is 0 (Leave j) × Kinds ls
  Kinds (HandlerHere t ∷ ls) = (t < slots) × Kinds ls
  Kinds (HandlerAt j t ∷ ls) = (t < slots) × Is 0 (Leave j) × Kinds ls

  out_jump : (n : ℕ) (w : Way) → Is n (jump w) → Is (suc n) (jump (out_by w))
  out_jump n (Near l) h = omega (arithmetic, h)
  out_jump n (Far j) h = h

  pub way_formed : (ls : List Kind) (l : ℕ) → Kinds ls → l < labels ls → Is (near ls) (jump (way ls l))
  way_formed [] l k h = absurd (omega (arithmetic, h))
  way_formed (Other ∷ ls) l k h = out_jump (near ls) (way ls l) (way_formed ls l k h)
  way_formed (LabelHere t ∷ ls) zero k h = omega arithmetic
  way_formed (LabelHere t ∷ ls) (suc l) k h = out_jump (near ls) (way ls l) (way_formed ls l (k.1) (omega (arithmetic, h)))
  way_formed (LabelAt j t ∷ ls) zero k h = k.1
  way_formed (LabelAt j t ∷ ls) (suc l) k h = way_formed ls l (k.2) (omega (arithmetic, h))
  way_formed (HandlerHere t ∷ ls) l k h = out_jump (near ls) (way ls l) (way_formed ls l (k.1) h)
  way_formed (HandlerAt j t ∷ ls) l k h = way_formed ls l (k.2) h

  pub target_formed : (ls : List Kind) (l : ℕ) → Kinds ls → Target (target ls l)
  target_formed [] l k = tt
  target_formed (Other ∷ ls) l k = target_formed ls l k
  target_formed (LabelHere t ∷ ls) zero k = k.0
  target_formed (LabelHere t ∷ ls) (suc l) k = target_formed ls l (k.1)
  target_formed (LabelAt j t ∷ ls) zero k = k.0
  target_formed (LabelAt j t ∷ ls) (suc l) k = target_formed ls l (k.2)
  target_formed (HandlerHere t ∷ ls) l k = target_formed ls l (k.1)
  target_formed (HandlerAt j t ∷ ls) l k = target_formed ls l (k.2)

  out_way : (n : ℕ) (w : Way) → Goes n w → Goes (suc n) (out_by w)
  out_way n (Near l) h = omega (arithmetic, h)
  out_way n (Far j) h = h

  farther_formed : (n : ℕ) (o : Option Handler) → Takes n o → Takes (suc n) (farther o)
  farther_formed n None h = tt
  farther_formed n (Some x) h = (h.0, out_way n x.way (h.1))

  pub handler_formed : (ls : List Kind) → Kinds ls → Takes (near ls) (handler ls)
  handler_formed [] k = tt
  handler_formed (Other ∷ ls) k = farther_formed (near ls) (handler ls) (handler_formed ls k)
  handler_formed (LabelHere t ∷ ls) k = farther_formed (near ls) (handler ls) (handler_formed ls (k.1))
  handler_formed (LabelAt j t ∷ ls) k = handler_formed ls (k.2)
  handler_formed (HandlerHere t ∷ ls) k = (k.0, (let z : 0 < suc (near ls) = omega arithmetic in z))
  handler_formed (HandlerAt j t ∷ ls) k = (k.0, (k.1).1)

  -- ---- segments; those that are open have no code yet

  abbrev pub Kept : (ℕ → Type 0) → ℕ → Option Code → Type 0
  Kept Open j None = Open j
  Kept Open j (Some c) = Is 0 c

  abbrev pub Segs : (ℕ → Type 0) → Segments → Type 0
  Segs Open s = (j : ℕ) (o : Option Code) → slice_get s j ≡ Some o → Kept Open j o

  pub push_formed : (Open : ℕ → Type 0) (s : Segments) (c : Code) → Segs Open s → Is 0 c → Segs Open (s ++ Some c ∷ [])
  push_formed Open s c h f j o e = by (pushed s (Some c) j o e)
    where
      by : (slice_get s j ≡ Some o) ⊎ ((j ≡ length s) × (o ≡ Some c)) → Kept Open j o
      by (inl i) = h j o i
      by (inr i) = subst (λ o. Kept Open j o) (sym (i.1)) f

  -- and this one too
  abbrev pub Opened : Bool → (ℕ → Type 0) → ℕ → ℕ → Type 0
  Opened false Open n j = Open j
  Opened true Open n j = Open j ⊎ (j ≡ n)

  pub push_open : (Open : ℕ → Type 0) (s : Segments) → Segs Open s → Segs (Opened true Open (length s)) (s ++ None ∷ [])
  push_open Open s h j o e = by (pushed s None j o e)
    where
      more : (o : Option Code) → Kept Open j o → Kept (Opened true Open (length s)) j o
      more None i = inl i
      more (Some c) i = i

      by : (slice_get s j ≡ Some o) ⊎ ((j ≡ length s) × (o ≡ None)) → Kept (Opened true Open (length s)) j o
      by (inl i) = more o (h j o i)
      by (inr i) = subst (λ o. Kept (Opened true Open (length s)) j o) (sym (i.1)) (inr (i.0))

  pub set_formed : (Open : ℕ → Type 0) (r : Segments) (n : ℕ) (c : Code) → Segs (Opened true Open n) r → Is 0 c → Segs Open (slice_set r n (Some c))
  set_formed Open r n c h f j o e = by (was_set r n (Some c) j o e)
    where
      less : (o : Option Code) → (j ≡ n → ⊥) → Kept (Opened true Open n) j o → Kept Open j o
      less None u (inl i) = i
      less None u (inr i) = absurd (u i)
      less (Some c) u i = i

      by : (o ≡ Some c) ⊎ ((slice_get r j ≡ Some o) × (j ≡ n → ⊥)) → Kept Open j o
      by (inl i) = subst (λ o. Kept Open j o) (sym i) f
      by (inr i) = less o (i.1) (h j o (i.0))

  abbrev pub Never : ℕ → Type 0
  Never j = ⊥

  pub all_segments : (s : Segments) → Segs Never s → FormedSegments sizes sees globals bound shared slots total size seen (map code_or_stop s)
  all_segments [] h = tt
  all_segments (None ∷ s) h = absurd (h 0 None refl)
  all_segments (Some c ∷ s) h = (h 0 (Some c) refl, all_segments s (λ j o e. h (suc j) o e))
