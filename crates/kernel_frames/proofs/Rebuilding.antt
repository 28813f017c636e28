-- Entries are those that their places give back.
use Rattle.std.proofs.Common.{◌≡◌, ◌∙◌, ℕ, zero, suc, ◌+◌, ◌<◌, ◌≤◌, Bool, true, false, List, [], ◌∷◌, ◌++◌, length, Option, Some, None, cond, nat_eq, refl, sym, ap, arith, length-append}
use Rattle.std.specs.Cmp.{unsigned_Decides}
use Rattle.desugaring.specs.Frames.{Entry, Named, Kept, Unnamed}
use Rattle.kernel_frames.specs.declared.names.Mark.{Mark}
use Rattle.kernel_frames.specs.declared.names.ValuePlace.{ValuePlace}
use Rattle.kernel_frames.specs.Places.{ArePlaces, Cuts, IsMark, Stored, Values, at_place, behind_kept, behind_value, either, entries, kept_at, kept_places, value_at, value_places}

same_number : (n : ℕ) → nat_eq n n ≡ true
same_number n = (unsigned_Decides n n).1 refl

other_number : (m n : ℕ) → m < n → nat_eq m n ≡ false
other_number m n l = by (nat_eq m n) refl where
  by : (b : Bool) → nat_eq m n ≡ b → b ≡ false
  by true e = let h : m ≡ n = (unsigned_Decides m n).0 e in absurd (omega (arith, h, l))
  by false e = refl

-- ---- no name has a place behind the last

no_value : (es : List Entry) (n : ℕ) → length es ≤ n → value_at n (value_places es) ≡ None
no_value [] n h = refl
no_value (Named x c ∷ es) n h = ap (λ (b : Bool). cond b (Some (Named x c)) None) (other_number (length es) n (omega arith))
no_value (Kept x ∷ es) n h = no_value es n (omega arith)
no_value (Unnamed ∷ es) n h = no_value es n (omega arith)

all_values : (es : List Entry) (n : ℕ) → length es ≤ n → behind_value n (value_places es) ≡ value_places es
all_values [] n h = refl
all_values (Named x c ∷ es) n h = ap (λ (b : Bool). cond b (value_places es) ((x, at_place (length es) c) ∷ value_places es)) (other_number (length es) n (omega arith))
all_values (Kept x ∷ es) n h = all_values es n (omega arith)
all_values (Unnamed ∷ es) n h = all_values es n (omega arith)

no_kept : (es : List Entry) (n : ℕ) → length es ≤ n → kept_at n (kept_places es) ≡ None
no_kept [] n h = refl
no_kept (Named x c ∷ es) n h = no_kept es n (omega arith)
no_kept (Kept x ∷ es) n h = ap (λ (b : Bool). cond b (Some (Kept x)) None) (other_number (length es) n (omega arith))
no_kept (Unnamed ∷ es) n h = no_kept es n (omega arith)

all_kept : (es : List Entry) (n : ℕ) → length es ≤ n → behind_kept n (kept_places es) ≡ kept_places es
all_kept [] n h = refl
all_kept (Named x c ∷ es) n h = all_kept es n (omega arith)
all_kept (Kept x ∷ es) n h = ap (λ (b : Bool). cond b (kept_places es) ((x, length es) ∷ kept_places es)) (other_number (length es) n (omega arith))
all_kept (Unnamed ∷ es) n h = all_kept es n (omega arith)

reflexive : (n : ℕ) → n ≤ n
reflexive n = omega arith

-- ---- the entries again

next : (n : ℕ) (vs : Values) (ks : Stored) (e : Entry) (ws : Values) (js : Stored) → either (value_at n vs) (kept_at n ks) ≡ e → behind_value n vs ≡ ws → behind_kept n ks ≡ js → entries (suc n) vs ks ≡ e ∷ entries n ws js
next n vs ks e ws js h g f = ap (λ (z : Entry). z ∷ entries n (behind_value n vs) (behind_kept n ks)) h ∙ (ap (λ (z : Values). e ∷ entries n z (behind_kept n ks)) g ∙ ap (λ (z : Stored). e ∷ entries n ws z) f)

pub rebuilt : (es : List Entry) → entries (length es) (value_places es) (kept_places es) ≡ es
rebuilt [] = refl
rebuilt (Named x c ∷ es) =
    next (length es) ((x, at_place (length es) c) ∷ value_places es) (kept_places es) (Named x c) (value_places es) (kept_places es)
    (ap (λ (b : Bool). either (cond b (Some (Named x c)) None) (kept_at (length es) (kept_places es))) (same_number (length es)))
    (ap (λ (b : Bool). cond b (value_places es) ((x, at_place (length es) c) ∷ value_places es)) (same_number (length es)))
    (all_kept es (length es) (reflexive (length es)))
    ∙ ap (λ (z : List Entry). Named x c ∷ z) (rebuilt es)
rebuilt (Kept x ∷ es) =
    next (length es) (value_places es) ((x, length es) ∷ kept_places es) (Kept x) (value_places es) (kept_places es)
    (ap (λ (o : Option Entry). either o (cond (nat_eq (length es) (length es)) (Some (Kept x)) None)) (no_value es (length es) (reflexive (length es))) ∙ ap (λ (b : Bool). either None (cond b (Some (Kept x)) None)) (same_number (length es)))
    (all_values es (length es) (reflexive (length es)))
    (ap (λ (b : Bool). cond b (kept_places es) ((x, length es) ∷ kept_places es)) (same_number (length es)))
    ∙ ap (λ (z : List Entry). Kept x ∷ z) (rebuilt es)
rebuilt (Unnamed ∷ es) =
    next (length es) (value_places es) (kept_places es) Unnamed (value_places es) (kept_places es)
    (ap (λ (o : Option Entry). either o (kept_at (length es) (kept_places es))) (no_value es (length es) (reflexive (length es))) ∙ ap (λ (o : Option Entry). either None o) (no_kept es (length es) (reflexive (length es))))
    (all_values es (length es) (reflexive (length es)))
    (all_kept es (length es) (reflexive (length es)))
    ∙ ap (λ (z : List Entry). Unnamed ∷ z) (rebuilt es)

-- what is kept so stands for these entries
pub stands_for : (es : List Entry) (n : ℕ) (vs : Values) (ks : Stored) → ArePlaces es n vs ks → entries n vs ks ≡ es
stands_for es n vs ks h =
    ap (λ (m : ℕ). entries m vs ks) h.all ∙ (ap (λ (z : Values). entries (length es) z ks) h.values ∙ (ap (λ (z : Stored). entries (length es) (value_places es) z) h.kept ∙ rebuilt es))

pub are_places : (es : List Entry) (n : ℕ) (vs : Values) (ks : Stored) → ArePlaces es n vs ks → ArePlaces (entries n vs ks) n vs ks
are_places es n vs ks h = let e = stands_for es n vs ks h in record {
  all = h.all ∙ ap (λ (l : List Entry). length l) (sym e);
  values = h.values ∙ ap value_places (sym e);
  kept = h.kept ∙ ap kept_places (sym e);
}

-- ---- one entry more

module _ (es : List Entry) (n m : ℕ) (vs : Values) (ks : Stored) (h : ArePlaces es n vs ks) (e : m ≡ n + 1) where
  longer : m ≡ suc (length es)
  longer = let l : n ≡ length es = h.all in let k : n + 1 ≡ suc (length es) = omega (arith, l) in e ∙ k

  pub value_more : (x : List ℕ) (c : Bool) (ws : Values) → ws ≡ (x, at_place n c) ∷ vs → ArePlaces (Named x c ∷ es) m ws ks
  value_more x c ws g = record { all = longer; values = g ∙ (ap (λ (k : ℕ). (x, at_place k c) ∷ vs) h.all ∙ ap (λ (z : Values). (x, at_place (length es) c) ∷ z) h.values); kept = h.kept }

  pub kept_more : (x : List ℕ) (js : Stored) → js ≡ (x, n) ∷ ks → ArePlaces (Kept x ∷ es) m vs js
  kept_more x js g = record { all = longer; values = h.values; kept = g ∙ (ap (λ (k : ℕ). (x, k) ∷ ks) h.all ∙ ap (λ (z : Stored). (x, length es) ∷ z) h.kept) }

  pub unnamed_more : ArePlaces (Unnamed ∷ es) m vs ks
  unnamed_more = record { all = longer; values = h.values; kept = h.kept }

-- ---- back to a mark

values_before : (more before : List Entry) → (front : Values) × (value_places (more ++ before) ≡ front ++ value_places before)
values_before [] before = ([], refl)
values_before (Named x c ∷ more) before = let r = values_before more before in ((x, at_place (length (more ++ before)) c) ∷ r.0, ap (λ (z : Values). (x, at_place (length (more ++ before)) c) ∷ z) r.1)
values_before (Kept x ∷ more) before = values_before more before
values_before (Unnamed ∷ more) before = values_before more before

kept_before : (more before : List Entry) → (front : Stored) × (kept_places (more ++ before) ≡ front ++ kept_places before)
kept_before [] before = ([], refl)
kept_before (Named x c ∷ more) before = kept_before more before
kept_before (Kept x ∷ more) before = let r = kept_before more before in ((x, length (more ++ before)) ∷ r.0, ap (λ (z : Stored). (x, length (more ++ before)) ∷ z) r.1)
kept_before (Unnamed ∷ more) before = kept_before more before

pub cut_to : (es more before : List Entry) (n : ℕ) (vs ws : Values) (ks js : Stored) (m : Mark) → ArePlaces es n vs ks → es ≡ more ++ before → IsMark m before
    → ((front back : Values) → vs ≡ front ++ back → m.values ≡ length back → ws ≡ back) → ((front back : Stored) → ks ≡ front ++ back → m.kept ≡ length back → js ≡ back)
    → ArePlaces before m.all ws js
cut_to es more before n vs ws ks js m h e i f g = record {
  all = i.all;
  values = let r = values_before more before in f r.0 (value_places before) (h.values ∙ (ap value_places e ∙ r.1)) i.values;
  kept = let r = kept_before more before in g r.0 (kept_places before) (h.kept ∙ (ap kept_places e ∙ r.1)) i.kept;
}
