-- Code that sees only these of the values that its group sees.
use Rattle.std.proofs.Common.{◌≡◌, ℕ, zero, suc, refl, ap, subst, List, [], ◌∷◌, Some, None, Bool, true, false}
use Rattle.std.specs.Prelude.{cond, slice_get, nat_eq, map}
use Rattle.std.proofs.lemmas.Bool.{eqb-true}
use Rattle.core_ir.specs.declared.code.Operand.{Operand}
use Rattle.core_ir.specs.declared.code.Operand.TheVariants.{Slot, Captured, Member, Global, Constant}
use Rattle.mo_values.specs.Shapes.{unit}
use Rattle.core_ir.specs.Choices.{nth}
use Rattle.core_ir.specs.Values.{Value}
use Rattle.core_ir.specs.Code.{Code, Stop, Let, If, Match, Loop, Label, Branch, Leave, Pass, Make, Call, Tabulate, Send, Wait, Raise, Return, Body}
use Rattle.core_ir.specs.CodeMachine.{Around, Within, Again}
use Rattle.core_laws.specs.Uses.{holds, picked}
use Rattle.core_laws.specs.Conversion.{index}

module _ (needs : List (List ℕ)) (used : List ℕ) where
  abbrev pub SeesOperand : Operand → Type 0
  SeesOperand (Slot x) = Unit {0}
  SeesOperand (Captured x) = holds x used ≡ true
  SeesOperand (Member m) = Unit {0}
  SeesOperand (Global i) = Unit {0}
  SeesOperand (Constant k) = Unit {0}

  abbrev pub SeesOperands : List Operand → Type 0
  SeesOperands [] = Unit {0}
  SeesOperands (x ∷ xs) = SeesOperand x × SeesOperands xs

  abbrev pub Sees : Code → Type 0
  Sees Stop = Unit {0}
  Sees (Let t p xs c) = SeesOperands xs × Sees c
  Sees (If p xs y n c) = SeesOperands xs × Sees y × Sees n × Sees c
  Sees (Match t k x y n c) = SeesOperand x × Sees y × Sees n × Sees c
  Sees (Loop b c) = Sees b × Sees c
  Sees (Label b c) = Sees b × Sees c
  Sees (Branch l) = Unit {0}
  Sees (Leave j) = Unit {0}
  Sees (Pass t x j) = SeesOperand x
  Sees (Make t seen k c) = SeesOperands (picked seen (nth [] needs k)) × Sees c
  Sees (Call t f xs c) = SeesOperand f × SeesOperands xs × Sees c
  Sees (Tabulate t n f c) = SeesOperand n × SeesOperand f × Sees c
  Sees (Send t s f xs h c) = SeesOperand f × SeesOperands xs × Sees c
  Sees (Wait t x h j) = SeesOperand x
  Sees (Raise x h) = SeesOperand x
  Sees (Return x) = SeesOperand x

  abbrev pub SeesSegments : List Code → Type 0
  SeesSegments [] = Unit {0}
  SeesSegments (c ∷ cs) = Sees c × SeesSegments cs

  abbrev pub SeesBodies : List Body → Type 0
  SeesBodies [] = Unit {0}
  SeesBodies (b ∷ bs) = SeesSegments b.segments × SeesBodies bs

  abbrev pub SeesAround : List Around → Type 0
  SeesAround [] = Unit {0}
  SeesAround (Within r ∷ ks) = Sees r × SeesAround ks
  SeesAround (Again b r ∷ ks) = Sees b × Sees r × SeesAround ks

  pub segment_sees : (cs : List Code) (j : ℕ) (c : Code) → SeesSegments cs → slice_get cs j ≡ Some c → Sees c
  segment_sees [] j c h e = absurd (let x : None ≡ Some c = e in cc)
  segment_sees (d ∷ cs) zero c h e = subst Sees (let x : d ≡ c = cc in x) (h.0)
  segment_sees (d ∷ cs) (suc j) c h e = segment_sees cs j c (h.1) e

  pub body_sees : (bs : List Body) (m : ℕ) (b : Body) → SeesBodies bs → slice_get bs m ≡ Some b → SeesSegments b.segments
  body_sees [] m b h e = absurd (let x : None ≡ Some b = e in cc)
  body_sees (g ∷ bs) zero b h e = subst (λ b. SeesSegments b.segments) (let x : g ≡ b = cc in x) (h.0)
  body_sees (g ∷ bs) (suc m) b h e = body_sees bs m b (h.1) e

-- what is used is read at its place among what is used
pub read_at : (seen : List Value) (used : List ℕ) (x : ℕ) → holds x used ≡ true → nth unit (map (nth unit seen) used) (index x used) ≡ nth unit seen x
read_at seen [] x h = absurd (let e : false ≡ true = h in cc)
read_at seen (y ∷ used) x h = by (nat_eq y x) refl h (read_at seen used x)
  where
    by : (b : Bool) → nat_eq y x ≡ b → cond b true (holds x used) ≡ true
        → (holds x used ≡ true → nth unit (map (nth unit seen) used) (index x used) ≡ nth unit seen x)
        → nth unit (map (nth unit seen) (y ∷ used)) (cond b 0 (suc (index x used))) ≡ nth unit seen x
    by true e h f = ap (nth unit seen) (eqb-true y x e)
    by false e h f = f h
