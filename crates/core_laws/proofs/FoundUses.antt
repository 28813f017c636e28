-- The uses that are found in code are all that it sees.
use Rattle.std.proofs.Common.{◌≡◌, ℕ, refl, sym, ap, subst, List, [], ◌∷◌, ◌++◌, Bool, true, false}
use Rattle.std.specs.Prelude.{cond, nat_eq}
use Rattle.std.proofs.lemmas.Bool.{eq-eqb}
use Rattle.core_ir.specs.declared.code.Operand.{Operand}
use Rattle.core_ir.specs.declared.code.Operand.TheVariants.{Slot, Captured, Member, Global, Constant}
use Rattle.core_ir.specs.Choices.{nth}
use Rattle.core_ir.specs.Code.{Code, Stop, Let, If, Match, Loop, Label, Branch, Leave, Pass, Make, Call, Tabulate, Send, Wait, Raise, Return, Body}
use Rattle.core_laws.specs.Uses.{holds, with_use, use_operand, use_all, picked, uses, uses_segments, uses_bodies}
use Rattle.core_laws.proofs.Seen.{SeesOperand, SeesOperands, Sees, SeesSegments, SeesBodies}

-- ---- lists of uses

abbrev pub Within : List ℕ → List ℕ → Type 0
Within xs ys = (x : ℕ) → holds x xs ≡ true → holds x ys ≡ true

added : (x y : ℕ) (xs : List ℕ) → holds x xs ≡ true → holds x (xs ++ y ∷ []) ≡ true
added x y [] h = absurd (let e : false ≡ true = h in cc)
added x y (z ∷ xs) h = by (nat_eq z x) h (added x y xs)
  where
    by : (b : Bool) → cond b true (holds x xs) ≡ true → (holds x xs ≡ true → holds x (xs ++ y ∷ []) ≡ true) → cond b true (holds x (xs ++ y ∷ [])) ≡ true
    by true h f = refl
    by false h f = f h

last : (x : ℕ) (xs : List ℕ) → holds x (xs ++ x ∷ []) ≡ true
last x [] = ap (λ b. cond b true false) (eq-eqb x x refl)
last x (z ∷ xs) = by (nat_eq z x) (last x xs)
  where
    by : (b : Bool) → holds x (xs ++ x ∷ []) ≡ true → cond b true (holds x (xs ++ x ∷ [])) ≡ true
    by true h = refl
    by false h = h

with_keeps : (x : ℕ) (xs : List ℕ) → Within xs (with_use x xs)
with_keeps x xs y h = by (holds x xs)
  where
    by : (b : Bool) → holds y (cond b xs (xs ++ x ∷ [])) ≡ true
    by true = h
    by false = added y x xs h

with_has : (x : ℕ) (xs : List ℕ) → holds x (with_use x xs) ≡ true
with_has x xs = by (holds x xs) refl
  where
    by : (b : Bool) → holds x xs ≡ b → holds x (cond b xs (xs ++ x ∷ [])) ≡ true
    by true e = e
    by false e = last x xs

operand_keeps : (x : Operand) (xs : List ℕ) → Within xs (use_operand x xs)
operand_keeps (Slot n) xs x h = h
operand_keeps (Captured n) xs x h = with_keeps n xs x h
operand_keeps (Member n) xs x h = h
operand_keeps (Global n) xs x h = h
operand_keeps (Constant k) xs x h = h

all_keep : (os : List Operand) (xs : List ℕ) → Within xs (use_all os xs)
all_keep [] xs x h = h
all_keep (o ∷ os) xs x h = all_keep os (use_operand o xs) x (operand_keeps o xs x h)

-- ---- code; final is what was found at the end, and needs what was found before its group

module _ (final needs : List (List ℕ)) where
  operand_in : (m : List ℕ) (o : Operand) (xs : List ℕ) → Within (use_operand o xs) m → SeesOperand final m o
  operand_in m (Slot n) xs h = tt
  operand_in m (Captured n) xs h = h n (with_has n xs)
  operand_in m (Member n) xs h = tt
  operand_in m (Global n) xs h = tt
  operand_in m (Constant k) xs h = tt

  all_in : (m : List ℕ) (os : List Operand) (xs : List ℕ) → Within (use_all os xs) m → SeesOperands final m os
  all_in m [] xs h = tt
  all_in m (o ∷ os) xs h = (operand_in m o xs (λ x i. h x (all_keep os (use_operand o xs) x i)), all_in m os (use_operand o xs) h)

  keeps : (c : Code) (xs : List ℕ) → Within xs (uses needs c xs)
  keeps Stop xs x h = h
  keeps (Let t p os c) xs x h = keeps c _ x (all_keep os xs x h)
  keeps (If p os y n c) xs x h = keeps c _ x (keeps n _ x (keeps y _ x (all_keep os xs x h)))
  keeps (Match t k o y n c) xs x h = keeps c _ x (keeps n _ x (keeps y _ x (operand_keeps o xs x h)))
  keeps (Loop b c) xs x h = keeps c _ x (keeps b _ x h)
  keeps (Label b c) xs x h = keeps c _ x (keeps b _ x h)
  keeps (Branch l) xs x h = h
  keeps (Leave j) xs x h = h
  keeps (Pass t o j) xs x h = operand_keeps o xs x h
  keeps (Make t seen k c) xs x h = keeps c _ x (all_keep (picked seen (nth [] needs k)) xs x h)
  keeps (Call t f os c) xs x h = keeps c _ x (all_keep os _ x (operand_keeps f xs x h))
  keeps (Tabulate t n f c) xs x h = keeps c _ x (operand_keeps f _ x (operand_keeps n xs x h))
  keeps (Send t s f os k c) xs x h = keeps c _ x (all_keep os _ x (operand_keeps f xs x h))
  keeps (Wait t o k j) xs x h = operand_keeps o xs x h
  keeps (Raise o k) xs x h = operand_keeps o xs x h
  keeps (Return o) xs x h = operand_keeps o xs x h

  -- of the groups that the code makes it was found before what they use
  abbrev pub Known : Code → Type 0
  Known Stop = Unit {0}
  Known (Let t p os c) = Known c
  Known (If p os y n c) = Known y × Known n × Known c
  Known (Match t k o y n c) = Known y × Known n × Known c
  Known (Loop b c) = Known b × Known c
  Known (Label b c) = Known b × Known c
  Known (Branch l) = Unit {0}
  Known (Leave j) = Unit {0}
  Known (Pass t o j) = Unit {0}
  Known (Make t seen k c) = (nth [] final k ≡ nth [] needs k) × Known c
  Known (Call t f os c) = Known c
  Known (Tabulate t n f c) = Known c
  Known (Send t s f os k c) = Known c
  Known (Wait t o k j) = Unit {0}
  Known (Raise o k) = Unit {0}
  Known (Return o) = Unit {0}

  code_in : (m : List ℕ) (c : Code) (xs : List ℕ) → Known c → Within (uses needs c xs) m → Sees final m c
  code_in m Stop xs k h = tt
  code_in m (Let t p os c) xs k h = (all_in m os xs (λ x i. h x (keeps c _ x i)), code_in m c _ k h)
  code_in m (If p os y n c) xs k h = (
    all_in m os xs (λ x i. h x (keeps c _ x (keeps n _ x (keeps y _ x i)))),
    code_in m y _ (k.0) (λ x i. h x (keeps c _ x (keeps n _ x i))),
    code_in m n _ (k.1) (λ x i. h x (keeps c _ x i)),
    code_in m c _ (k.2) h,
  )
  code_in m (Match t q o y n c) xs k h = (
    operand_in m o xs (λ x i. h x (keeps c _ x (keeps n _ x (keeps y _ x i)))),
    code_in m y _ (k.0) (λ x i. h x (keeps c _ x (keeps n _ x i))),
    code_in m n _ (k.1) (λ x i. h x (keeps c _ x i)),
    code_in m c _ (k.2) h,
  )
  code_in m (Loop b c) xs k h = (code_in m b xs (k.0) (λ x i. h x (keeps c _ x i)), code_in m c _ (k.1) h)
  code_in m (Label b c) xs k h = (code_in m b xs (k.0) (λ x i. h x (keeps c _ x i)), code_in m c _ (k.1) h)
  code_in m (Branch l) xs k h = tt
  code_in m (Leave j) xs k h = tt
  code_in m (Pass t o j) xs k h = operand_in m o xs h
  code_in m (Make t seen g c) xs k h =
      (subst (λ n. SeesOperands final m (picked seen n)) (sym (k.0)) (all_in m (picked seen (nth [] needs g)) xs (λ x i. h x (keeps c _ x i))), code_in m c _ (k.1) h)
  code_in m (Call t f os c) xs k h =
      (operand_in m f xs (λ x i. h x (keeps c _ x (all_keep os _ x i))), all_in m os _ (λ x i. h x (keeps c _ x i)), code_in m c _ k h)
  code_in m (Tabulate t n f c) xs k h =
      (operand_in m n xs (λ x i. h x (keeps c _ x (operand_keeps f _ x i))), operand_in m f _ (λ x i. h x (keeps c _ x i)), code_in m c _ k h)
  code_in m (Send t s f os g c) xs k h =
      (operand_in m f xs (λ x i. h x (keeps c _ x (all_keep os _ x i))), all_in m os _ (λ x i. h x (keeps c _ x i)), code_in m c _ k h)
  code_in m (Wait t o g j) xs k h = operand_in m o xs h
  code_in m (Raise o g) xs k h = operand_in m o xs h
  code_in m (Return o) xs k h = operand_in m o xs h

  -- ---- segments and bodies

  abbrev pub KnownSegments : List Code → Type 0
  KnownSegments [] = Unit {0}
  KnownSegments (c ∷ cs) = Known c × KnownSegments cs

  abbrev pub KnownBodies : List Body → Type 0
  KnownBodies [] = Unit {0}
  KnownBodies (b ∷ bs) = KnownSegments b.segments × KnownBodies bs

  segments_keep : (cs : List Code) (xs : List ℕ) → Within xs (uses_segments needs cs xs)
  segments_keep [] xs x h = h
  segments_keep (c ∷ cs) xs x h = segments_keep cs _ x (keeps c xs x h)

  bodies_keep : (bs : List Body) (xs : List ℕ) → Within xs (uses_bodies needs bs xs)
  bodies_keep [] xs x h = h
  bodies_keep (b ∷ bs) xs x h = bodies_keep bs _ x (segments_keep b.segments xs x h)

  pub segments_in : (m : List ℕ) (cs : List Code) (xs : List ℕ) → KnownSegments cs → Within (uses_segments needs cs xs) m → SeesSegments final m cs
  segments_in m [] xs k h = tt
  segments_in m (c ∷ cs) xs k h = (code_in m c xs (k.0) (λ x i. h x (segments_keep cs _ x i)), segments_in m cs _ (k.1) h)

  pub bodies_in : (m : List ℕ) (bs : List Body) (xs : List ℕ) → KnownBodies bs → Within (uses_bodies needs bs xs) m → SeesBodies final m bs
  bodies_in m [] xs k h = tt
  bodies_in m (b ∷ bs) xs k h = (segments_in m b.segments xs (k.0) (λ x i. h x (bodies_keep bs _ x i)), bodies_in m bs _ (k.1) h)
