-- What is read is spelled at the front, and what is spelled at the front is read: the spellings of Candid.
use Rattle.std.proofs.Common.{◌≡◌, ℕ, List, [], ◌∷◌, ◌++◌, Result, Ok, refl, ap, ◌∙◌}
use Rattle.mo_types.specs.Spelling.{Then}
use Rattle.mo_types.specs.Header.{IsByte}
use Rattle.exact_reading.specs.Reading.{made, both}
use Rattle.exact_reading.proofs.Exact as exact
use Rattle.exact_reading.proofs.Exact.{Joins, Exact}
use Rattle.candid_header.specs.declared.fault.Fault.{Fault}
use Rattle.candid_header.specs.declared.fault.Fault.TheVariants.{Short}
use Rattle.candid_header.specs.Reading.{Reading, first}

abbrev pub okay : {A : Type 0} → A → Result A Fault
okay x = Ok x

pub joins : (P Q : List ℕ → Type 0) → Joins P Q (Then P Q)
joins P Q = record {
  join = λ a b p q. record { front = a; back = b; whole = refl; first = p; second = q };
  parts = λ l h. (h.front, h.back, h.whole, h.first, h.second);
}

-- The one, and then the other.
pub both_exact : {X Y : Type 0} (P : X → List ℕ → Type 0) (Q : Y → List ℕ → Type 0) (p : Reading X) (q : Reading Y) → Exact P p → Exact Q q → Exact (λ z. Then (P z.0) (Q z.1)) (both p q)
both_exact P Q p q ep eq = exact.both_exact P Q (λ z. Then (P z.0) (Q z.1)) p q (λ z. joins (P z.0) (Q z.1)) ep eq

-- A byte, and what it announces.
pub coded : (code : ℕ) (P : List ℕ → Type 0) (front : List ℕ) → P front → Then (IsByte code) P (code ∷ front)
coded code P front h = record { front = code ∷ []; back = front; whole = refl; first = refl; second = h }

pub chosen_by : {X Y : Type 0} (P : X → List ℕ → Type 0) (f : X → Y) (p : Reading X) → Exact P p → (F : ℕ → List ℕ → Result (Y × List ℕ) Fault) (code : ℕ) → ((rest : List ℕ) → F code rest ≡ made f p rest) → (x : X) (front rest : List ℕ) → Then (IsByte code) (P x) front → first F (front ++ rest) ≡ Ok (f x, rest)
chosen_by P f p ep F code by x front rest h = exact.chosen_by P f p ep Short F code by x front h.back rest (h.whole ∙ ap (λ l. l ++ h.back) h.first) h.second
