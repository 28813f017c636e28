-- How functions get their marks.
use Rattle.std.proofs.Common.{◌≡◌, ◌≢◌, ℕ, suc, ◌+◌, ◌<◌, true, List, [], ◌∷◌, ◌++◌, Option, Some, None, ◌⊎◌, inl, inr, Result, Ok, Err, OnOk, length, get_or, take, refl, sym, ap, ◌∙◌, subst, append-nil, append_assoc, nat_eq, arith}
use Rattle.std.proofs.Math.Logic.{⊎_elim}
use Rattle.std.proofs.Math.ListN.{set, length-set}
use Rattle.std.proofs.Math.Seq.{take-suc}
use Rattle.std.proofs.lemmas.List.{get_or-set_same, get_or-set_other}
use Rattle.typing_rules.specs.AbstractSyntax.{Bytes}
use Rattle.typed_tree.specs.Placing.{Declared, is_among}
use Rattle.kernel_places.specs.Reaching.{at}
use Rattle.kernel_places.specs.Using.{is_in}
use Rattle.kernel_places.specs.Marking.{mark_of, name_list, Marks}
use Rattle.kernel_places.proofs.Having.{decided, false_true, has_cases, has_left, has_one, has_right, is_one, not_both}
use Rattle.kernel_places.proofs.Noting.{in_cases, in_left, in_one, in_right, is_one_number, number_itself, same_number}

pub number_cases : (a b : ℕ) → (a ≡ b) ⊎ (a ≢ b)
number_cases a b = ⊎_elim (λ h. inl (same_number a b h)) (λ h. inr (λ e. not_both (nat_eq a b) (ap (λ (z : ℕ). nat_eq a z) (sym e) ∙ number_itself a) h)) (decided (nat_eq a b))

name_list_has : (o : Option Bytes) (x : Bytes) → is_among x (name_list o) ≡ true → o ≡ Some x
name_list_has None x h = false_true h
name_list_has (Some f) x h = ap (λ z. Some z) (sym (is_one x f h))

name_list_all : (o : Option Bytes) (x : Bytes) → o ≡ Some x → is_among x (name_list o) ≡ true
name_list_all o x e = ap (λ z. is_among x (name_list z)) e ∙ has_one x

module _ (ds : List Declared) (p : ℕ) where
  pub marks_none : (m : List ℕ) (l : List Bytes) → Marks ds p [] m l m l
  marks_none m l = record {
    len = refl;
    kept = λ k h. refl;
    fresh = λ k h. inl h;
    every = λ k h. false_true h;
    more = [];
    longer = sym (append-nil l);
    origin = λ x h. false_true h;
    named = λ k x h n e. absurd (n h);
  }

  marks_then : (xs ys m : List ℕ) (l : List Bytes) (m1 : List ℕ) (l1 : List Bytes) (m2 : List ℕ) (l2 : List Bytes) → 0 < p → Marks ds p xs m l m1 l1 → Marks ds p ys m1 l1 m2 l2
      → Marks ds p (xs ++ ys) m l m2 l2
  marks_then xs ys m l m1 l1 m2 l2 some a b =
      let still : (k : ℕ) → mark_of m1 k ≢ 0 → mark_of m2 k ≢ 0 = λ k n z. n (sym (b.kept k n) ∙ z) in
      let not_zero : (k : ℕ) → mark_of m1 k ≡ p → mark_of m1 k ≢ 0 = λ k e z. absurd (omega arith) in
      record {
        len = b.len ∙ a.len;
        kept = λ k h. b.kept k (λ z. h (sym (a.kept k h) ∙ z)) ∙ a.kept k h;
        fresh = λ k h.
            ⊎_elim (λ z. ⊎_elim (λ w. inl w) (λ w. inr (w.0, in_right xs ys k w.1)) (b.fresh k z))
            (λ w. inr (b.kept k (not_zero k w.0) ∙ w.0, in_left xs ys k w.1)) (a.fresh k h);
        every = λ k h lt.
            ⊎_elim (λ q. still k (a.every k q lt)) (λ q. b.every k q (let e : length m1 ≡ length m = a.len in omega arith)) (in_cases xs ys k h);
        more = a.more ++ b.more;
        longer = b.longer ∙ ap (λ z. z ++ b.more) a.longer ∙ append_assoc l a.more b.more;
        origin = λ x h.
            ⊎_elim (λ q. let w = a.origin x q in (w.0, in_left xs ys w.0 w.1, w.2)) (λ q. let w = b.origin x q in (w.0, in_right xs ys w.0 w.1, w.2)) (has_cases a.more b.more x h);
        named = λ k x h n e.
            ⊎_elim (λ z. b.named k x z n e) (λ z. ap (λ w. is_among x w) b.longer ∙ has_left l1 b.more x (a.named k x h z e)) (number_cases (mark_of m1 k) 0);
      }

  -- a function that has no mark
  mark_set : (i : ℕ) (m : List ℕ) (l : List Bytes) (m1 : List ℕ) (l1 : List Bytes) → 0 < p → i < length m → mark_of m i ≡ 0 → m1 ≡ set m i p → l1 ≡ l ++ name_list (at ds i).function
      → Marks ds p (i ∷ []) m l m1 l1
  mark_set i m l m1 l1 some lt z e longer =
      let here : mark_of m1 i ≡ p = ap (λ w. mark_of w i) e ∙ get_or-set_same m i p 0 lt in
      let other : (k : ℕ) → k ≢ i → mark_of m1 k ≡ mark_of m k = λ k n. ap (λ w. mark_of w k) e ∙ get_or-set_other m i k p 0 n in
      let at_it : (k : ℕ) → k ≡ i → mark_of m1 k ≡ p = λ k q. ap (λ (w : ℕ). mark_of m1 w) q ∙ here in
      record {
        len = ap (λ (w : List ℕ). length w) e ∙ length-set m i p;
        kept = λ k h. other k (λ q. h (ap (λ (w : ℕ). mark_of m w) q ∙ z));
        fresh = λ k h.
            ⊎_elim (λ q. inr (at_it k q, ap (λ (w : ℕ). is_in w (i ∷ [])) q ∙ in_one i)) (λ n. inl (other k n ∙ h)) (number_cases k i);
        every = λ k h l0. λ w. let q : mark_of m1 k ≡ p = at_it k (is_one_number i k h) in absurd (omega arith);
        more = name_list (at ds i).function;
        longer = longer;
        origin = λ x h. (i, in_one i, name_list_has (at ds i).function x h);
        named = λ k x h n f.
            ⊎_elim
            (λ q. ap (λ w. is_among x w) longer ∙ has_right l (name_list (at ds i).function) x (name_list_all (at ds i).function x (ap (λ (w : ℕ). (at ds w).function) (sym q) ∙ f)))
            (λ q. absurd (n (other k q ∙ h))) (number_cases k i);
      }

  -- a function that is none, or that has a mark
  pub mark_kept : (i : ℕ) (m : List ℕ) (l : List Bytes) → (i < length m → mark_of m i ≢ 0) → Marks ds p (i ∷ []) m l m l
  mark_kept i m l h = record {
    len = refl;
    kept = λ k n. refl;
    fresh = λ k z. inl z;
    every = λ k q lt. λ z.
        let e : k ≡ i = is_one_number i k q in
        let l0 : i < length m = omega arith in
        h l0 (ap (λ (w : ℕ). mark_of m w) (sym e) ∙ z);
    more = [];
    longer = sym (append-nil l);
    origin = λ x q. false_true q;
    named = λ k x z n e. absurd (n z);
  }

  -- one more of these functions
  pub marks_next : (found : List ℕ) (i : ℕ) (m : List ℕ) (l : List Bytes) (m1 : List ℕ) (l1 : List Bytes) (m2 : List ℕ) (l2 : List Bytes) → 0 < p → i < length found
      → Marks ds p (take i found) m l m1 l1 → Marks ds p (get_or found i 0 ∷ []) m1 l1 m2 l2 → Marks ds p (take (i + 1) found) m l m2 l2
  marks_next found i m l m1 l1 m2 l2 some lt a b =
      let n : i + 1 ≡ suc i = omega arith in
      let e : take (i + 1) found ≡ take i found ++ get_or found i 0 ∷ [] = ap (λ (k : ℕ). take k found) n ∙ take-suc found i 0 lt in
      subst (λ (w : List ℕ). Marks ds p w m l m2 l2) (sym e) (marks_then (take i found) (get_or found i 0 ∷ []) m l m1 l1 m2 l2 some a b)

  pub mark_then : {A E : Type 0} (r : Result A E) (i : ℕ) (m : List ℕ) (l l1 : List Bytes) → 0 < p → i < length m → mark_of m i ≡ 0 → OnOk r (l1 ≡ l ++ name_list (at ds i).function)
      → OnOk r (Marks ds p (i ∷ []) m l (set m i p) l1)
  mark_then (Ok a) i m l l1 some lt z e = mark_set i m l (set m i p) l1 some lt z refl e
  mark_then (Err a) i m l l1 some lt z e = tt
