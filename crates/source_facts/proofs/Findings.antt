-- What follows where no rule on names is broken.
use Rattle.std.proofs.Common.{◌≡◌, ◌≢◌, ℕ, Bool, true, false, ◌||◌, List, [], ◌∷◌, ◌++◌, map, refl, sym, ap, ◌∙◌, subst}
use Rattle.std.specs.Prelude.{cond, nat_eq}
use Rattle.std.specs.Str.{bytes_eq}
use Rattle.std.proofs.lemmas.Bool.{eq-eqb}
use Rattle.std.proofs.lemmas.Slice.Eq.{bytes_eq-Decides}
use Rattle.mo_name_table.specs.Places.{texts}
use Rattle.mo_scopes.specs.declared.finding.Finding.{Finding}
use Rattle.mo_scopes.specs.declared.rule.Rule.{Rule}
use Rattle.mo_scopes.specs.declared.rule.Rule.TheVariants as rule
use Rattle.mo_scopes.specs.Findings.{Names, Texts, contains, broken_where, behind, together, has_number, with_number, numbered_behind, labels}
use Rattle.mo_syntax.specs.declared.place.Place.{Place}
use Rattle.mo_types.specs.Label.{label_id}
use Rattle.mo_types.specs.Sub.{Each as EachOf}
use Rattle.typed_tree.specs.OperationTypes.{Distinct}
use Rattle.source_facts.specs.Laws.{IsMeaning, AreMeanings}
use Rattle.source_facts.proofs.Sequences.{each_first, each_last}

pub first_fine : (xs ys : List Finding) → AreMeanings (xs ++ ys) → AreMeanings xs
first_fine xs ys h = each_first IsMeaning xs ys h

pub last_fine : (xs ys : List Finding) → AreMeanings (xs ++ ys) → AreMeanings ys
last_fine xs ys h = each_last IsMeaning xs ys h

not_broken : (b : Bool) (r : Rule) (p : Place) → AreMeanings (broken_where b r p) → b ≡ false
not_broken true r p h = absurd h.0
not_broken false r p h = refl

-- ---- names that differ

clash : (b : Bool) → b ≡ true → b ≡ false → ⊥
clash b h k = cc

or_false : (a b : Bool) → (a || b) ≡ false → (a ≡ false) × (b ≡ false)
or_false true b h = let no : true ≡ false = h in cc
or_false false b h = (refl, h)

contains_first : (front more : Texts) (x : List ℕ) → contains (front ++ more) x ≡ false → contains front x ≡ false
contains_first [] more x h = refl
contains_first (y ∷ front) more x h =
    let w = or_false (bytes_eq x y) (contains (front ++ more) x) h in
    let i : contains front x ≡ false = contains_first front more x w.1 in
    let e : (bytes_eq x y || contains front x) ≡ (false || contains front x) = ap (λ (b : Bool). b || contains front x) w.0 in e ∙ i

contains_last : (front : Texts) (y x : List ℕ) → contains (front ++ y ∷ []) x ≡ false → x ≡ y → ⊥
contains_last [] y x h e = let w = or_false (bytes_eq x y) false h in clash (bytes_eq x y) ((bytes_eq-Decides x y).1 e) w.0
contains_last (z ∷ front) y x h e = contains_last front y x (or_false (bytes_eq x z) (contains (front ++ y ∷ []) x) h).1 e

-- none of the names is among these
abbrev Apart : Texts → Names → Type 0
Apart front xs = EachOf (λ y. contains front y ≡ false) (texts xs)

apart : (front : Texts) (xs : Names) → AreMeanings (behind front xs) → Apart front xs × Distinct (texts xs)
apart front [] h = (tt, tt)
apart front (x ∷ xs) h =
    let one = first_fine (broken_where (contains front x.bytes) rule.Twice x.place) (behind (front ++ x.bytes ∷ []) xs) h in
    let rest = apart (front ++ x.bytes ∷ []) xs (last_fine (broken_where (contains front x.bytes) rule.Twice x.place) (behind (front ++ x.bytes ∷ []) xs) h) in
    ((not_broken (contains front x.bytes) rule.Twice x.place one, firsts xs rest.0), (differ xs rest.0, rest.1)) where
      firsts : (ys : Names) → Apart (front ++ x.bytes ∷ []) ys → Apart front ys
      firsts [] k = tt
      firsts (y ∷ ys) k = (contains_first front (x.bytes ∷ []) y.bytes k.0, firsts ys k.1)

      differ : (ys : Names) → Apart (front ++ x.bytes ∷ []) ys → EachOf (λ y. x.bytes ≢ y) (texts ys)
      differ [] k = tt
      differ (y ∷ ys) k = ((λ e. contains_last front x.bytes y.bytes k.0 (sym e)), differ ys k.1)

pub names_differ : (xs : Names) → AreMeanings (together xs) → Distinct (texts xs)
names_differ xs h = (apart [] xs h).1

-- ---- labels whose numbers differ

nat_same : (m n : ℕ) → m ≡ n → nat_eq m n ≡ true
nat_same m n e = eq-eqb m n e

number_first : (front : List ℕ) (m n : ℕ) → has_number (with_number front m) n ≡ false → has_number front n ≡ false
number_first front m n h = by (has_number front m) refl where
  more : (front : List ℕ) → has_number (front ++ m ∷ []) n ≡ false → has_number front n ≡ false
  more [] h = refl
  more (y ∷ front) h =
      let w = or_false (nat_eq n y) (has_number (front ++ m ∷ []) n) h in
      let e : (nat_eq n y || has_number front n) ≡ (false || has_number front n) = ap (λ (b : Bool). b || has_number front n) w.0 in e ∙ more front w.1

  by : (b : Bool) → has_number front m ≡ b → has_number front n ≡ false
  by true e = subst (λ z. has_number z n ≡ false) (ap (λ (b : Bool). cond b front (front ++ m ∷ [])) e) h
  by false e = more front (subst (λ z. has_number z n ≡ false) (ap (λ (b : Bool). cond b front (front ++ m ∷ [])) e) h)

number_last : (front : List ℕ) (m n : ℕ) → has_number (with_number front m) n ≡ false → n ≡ m → ⊥
number_last front m n h q = by (has_number front m) refl where
  more : (front : List ℕ) → has_number (front ++ m ∷ []) n ≡ false → ⊥
  more [] h = let w = or_false (nat_eq n m) false h in clash (nat_eq n m) (nat_same n m q) w.0
  more (y ∷ front) h = more front (or_false (nat_eq n y) (has_number (front ++ m ∷ []) n) h).1

  by : (b : Bool) → has_number front m ≡ b → ⊥
  by true e =
      let i : has_number front n ≡ false = subst (λ z. has_number z n ≡ false) (ap (λ (b : Bool). cond b front (front ++ m ∷ [])) e) h in
      clash (has_number front m) e (subst (λ z. has_number front z ≡ false) q i)
  by false e = more front (subst (λ z. has_number z n ≡ false) (ap (λ (b : Bool). cond b front (front ++ m ∷ [])) e) h)

abbrev NumbersApart : List ℕ → List ℕ → Type 0
NumbersApart front xs = EachOf (λ n. has_number front n ≡ false) xs

abbrev pub numbers : Names → List ℕ
numbers xs = map label_id (texts xs)

numbers_apart : (front : List ℕ) (xs : Names) → AreMeanings (numbered_behind front xs) → NumbersApart front (numbers xs) × Distinct (numbers xs)
numbers_apart front [] h = (tt, tt)
numbers_apart front (x ∷ xs) h =
    let one = broken_where (has_number front (label_id x.bytes)) rule.LabelClash x.place in
    let rest = numbers_apart (with_number front (label_id x.bytes)) xs (last_fine one (numbered_behind (with_number front (label_id x.bytes)) xs) h) in
    ((not_broken (has_number front (label_id x.bytes)) rule.LabelClash x.place (first_fine one (numbered_behind (with_number front (label_id x.bytes)) xs) h), firsts (numbers xs) rest.0), (differ (numbers xs) rest.0, rest.1)) where
      firsts : (ns : List ℕ) → NumbersApart (with_number front (label_id x.bytes)) ns → NumbersApart front ns
      firsts [] k = tt
      firsts (n ∷ ns) k = (number_first front (label_id x.bytes) n k.0, firsts ns k.1)

      differ : (ns : List ℕ) → NumbersApart (with_number front (label_id x.bytes)) ns → EachOf (λ n. label_id x.bytes ≢ n) ns
      differ [] k = tt
      differ (n ∷ ns) k = ((λ e. number_last front (label_id x.bytes) n k.0 (sym e)), differ ns k.1)

pub numbers_differ : (xs : Names) → AreMeanings (labels xs) → Distinct (numbers xs)
numbers_differ xs h = (numbers_apart [] xs h).1
