-- That in the end each function has the mark that is its place.
use Rattle.std.proofs.Common.{◌≡◌, ◌≢◌, ℕ, zero, suc, ◌+◌, ◌-◌, ◌<◌, ◌≤◌, Bool, true, false, List, [], ◌∷◌, ◌++◌, Some, ◌⊎◌, inl, inr, Result, Ok, Err, OnOk, length, get_or, take, map, cond, refl, sym, ap, ◌∙◌, subst, append_assoc, arith}
use Rattle.std.proofs.Math.Logic.{⊎_elim}
use Rattle.std.proofs.Math.Nat.{eq-or-lt_of_le}
use Rattle.std.proofs.Math.ListN.{replicate}
use Rattle.std.proofs.Math.Seq.{get_or-append_right, take-suc, take-append_seam}
use Rattle.std.proofs.lemmas.List.{get_or-map, length-append, length-replicate, take-append-le}
use Rattle.std.proofs.lemmas.Grind.{same_number_lists}
use Rattle.typing_rules.specs.AbstractSyntax.{Bytes}
use Rattle.typed_tree.specs.Placing.{Declared, is_among, is_function, place}
use Rattle.kernel_places.specs.Reaching.{at, nothing, Hits, Reaches, function_place}
use Rattle.kernel_places.specs.Using.{is_in, uses_below, Uses}
use Rattle.kernel_places.specs.Marking.{mark_of, Closing, Leads, Marks, Round}
use Rattle.kernel_places.proofs.Having.{at_end, decided, false_true, function_is, has_at, has_cases, has_left, has_right, is_one, is_within, not_both}
use Rattle.kernel_places.proofs.Marked.{number_cases}
use Rattle.kernel_places.proofs.Noting.{uses_all, uses_has}
use Rattle.kernel_places.proofs.Placed.{one_place, place_has}

number_form : (n : ℕ) → (n ≡ 0) ⊎ ((j : ℕ) × (n ≡ suc j))
number_form zero = inl refl
number_form (suc j) = inr (j, refl)

take_all : (n : ℕ) (xs : List Bytes) → length xs ≤ n → take n xs ≡ xs
take_all zero [] le = refl
take_all zero (x ∷ xs) le = absurd (omega arith)
take_all (suc n) [] le = refl
take_all (suc n) (x ∷ xs) le = ap (λ t. x ∷ t) (take_all n xs (omega arith))

take_next : (late more : List Bytes) (n : ℕ) → n < length late → take (n + 1) (late ++ more) ≡ take n late ++ get_or late n [] ∷ []
take_next late more n lt =
    let le : n + 1 ≤ length late = omega arith in
    let e : n + 1 ≡ suc n = omega arith in
    take-append-le (n + 1) late more le ∙ (ap (λ (k : ℕ). take k late) e ∙ take-suc late n [] lt)

at_fresh : (before fresh late : List Bytes) (n : ℕ) → late ≡ before ++ fresh → length before ≤ n → n < length late → is_among (get_or late n []) fresh ≡ true
at_fresh before fresh late n e le lt =
    let z : length late ≡ length before + length fresh = ap (λ w. length w) e ∙ length-append before fresh in
    let l : n - length before < length fresh = omega arith in
    ap (λ w. is_among w fresh) (ap (λ w. get_or w n []) e ∙ get_or-append_right before fresh n [] le) ∙ has_at fresh (n - length before) l

module _ (ds : List Declared) where
  -- what is reached from a function is reached from its name
  reaches_through : (names : List Bytes) (k : ℕ) (f x : Bytes) → is_among f names ≡ true → (at ds k).function ≡ Some f → Reaches ds (at ds k).occurs x → Reaches ds names x
  reaches_through names k f x h e (Reaches.Occurring y o) = Reaches.Through k f y (Reaches.Occurring f h) e o
  reaches_through names k f x h e (Reaches.Through j g y r i o) = Reaches.Through j g y (reaches_through names k f g h e r) i o

  leads_caller : (x f : Bytes) (i k : ℕ) → Uses ds k x → (at ds k).function ≡ Some f → Leads ds x i → Leads ds f i
  leads_caller x f i k u e l = λ names h.
      let w = l (at ds k).occurs u.occurs in
      record { name = w.name; defined = w.defined; reached = reaches_through names k f w.name h e w.reached }

  grow : (i : ℕ) (before : List Bytes) (m : List ℕ) (l : List Bytes) (n : ℕ) (found m1 : List ℕ) (l1 : List Bytes) → length before ≤ n → n < length l
      → ((k : ℕ) → is_in k found ≡ true → Uses ds k (get_or l n [])) → ((k : ℕ) → Uses ds k (get_or l n []) → is_in k found ≡ true)
      → Marks ds (i + 1) found m l m1 l1 → Closing ds i before m l n → Closing ds i before m1 l1 (n + 1)
  grow i before m l n found m1 l1 le lt has all g c =
      let z : Bytes = get_or l n [] in
      let leads_z : Leads ds z i = c.leads z (at_fresh before c.fresh l n c.longer le lt) in
      let still : (k : ℕ) → mark_of m k ≢ 0 → mark_of m1 k ≢ 0 = λ k h w. h (sym (g.kept k h) ∙ w) in
      let to_new : (x : Bytes) → is_among x l ≡ true → is_among x l1 ≡ true = λ x h. ap (λ w. is_among x w) g.longer ∙ has_left l g.more x h in
      record {
        len = g.len ∙ c.len;
        fresh = c.fresh ++ g.more;
        longer = g.longer ∙ ap (λ w. w ++ g.more) c.longer ∙ append_assoc before c.fresh g.more;
        leads = λ x h.
            ⊎_elim (λ q. c.leads x q) (λ q. let w = g.origin x q in leads_caller z x i w.0 (has w.0 w.1) w.2 leads_z) (has_cases c.fresh g.more x h);
        sound = λ k j e.
            ⊎_elim
            (λ q. ⊎_elim (λ y. let no : ⊥ = omega arith in absurd no)
            (λ y. let u = has k y.1 in
            let a : mark_of m1 k ≡ i + 1 = y.0 in
            let s : i ≡ j = omega arith in
            (u.function, subst (λ (w : ℕ). Hits ds (at ds k).occurs w) s (leads_z (at ds k).occurs u.occurs)))
            (g.fresh k q))
            (λ q. c.sound k j (sym (g.kept k q) ∙ e)) (number_cases (mark_of m k) 0);
        last = λ k j lj f h.
            let a : j < mark_of m k = c.last k j lj f h in
            let b : mark_of m k ≢ 0 = λ w. absurd (omega arith) in
            let e : mark_of m1 k ≡ mark_of m k = g.kept k b in
            omega arith;
        high = λ k h.
            ⊎_elim (λ q. ⊎_elim (λ y. absurd (h y)) (λ y. let a : mark_of m1 k ≡ i + 1 = y.0 in omega arith) (g.fresh k q))
            (λ q. let a : i < mark_of m k = c.high k q in let e : mark_of m1 k ≡ mark_of m k = g.kept k q in omega arith) (number_cases (mark_of m k) 0);
        covers = λ j x lj h. to_new x (c.covers j x lj h);
        closed = λ k x h u.
            ⊎_elim (λ q. still k (c.closed k x q u))
            (λ q. let e : x ≡ z = is_one x z q in
            let u1 : Uses ds k z = subst (λ (w : Bytes). Uses ds k w) e u in
            let a : k < length ds = is_within ds k u.function in
            let b : length m ≡ length ds = c.len in
            g.every k (all k u1) (omega arith))
            (has_cases (take n l) (z ∷ []) x (sym (ap (λ w. is_among x w) (ap (λ w. take (n + 1) w) g.longer ∙ take_next l g.more n lt)) ∙ h));
        named = λ k x h e.
            ⊎_elim (λ q. g.named k x q h e) (λ q. to_new x (c.named k x q e)) (number_cases (mark_of m k) 0);
      }

  pub grow_found : {A E : Type 0} (r : Result A E) (i : ℕ) (before : List Bytes) (m : List ℕ) (l : List Bytes) (n : ℕ) (found m1 : List ℕ) (l1 : List Bytes) → n < length l
      → found ≡ uses_below (length ds) ds (get_or l n []) → OnOk r (Marks ds (i + 1) found m l m1 l1) → OnOk r (length before ≤ n → Closing ds i before m l n → Closing ds i before m1 l1 (n + 1))
  grow_found (Ok a) i before m l n found m1 l1 lt e h = λ le c.
      grow i before m l n found m1 l1 le lt (λ k q. uses_has (length ds) ds (get_or l n []) k (sym (ap (λ w. is_in k w) e) ∙ q)) (λ k u. ap (λ w. is_in k w) e ∙ uses_all ds (get_or l n []) k u) h c
  grow_found (Err a) i before m l n found m1 l1 lt e h = tt

  -- where what is reached is late, a name of these is
  uses_late : (i : ℕ) (before : List Bytes) (m : List ℕ) (l : List Bytes) (n : ℕ) → length l ≤ n → Closing ds i before m l n → (names : List Bytes) (y : Bytes) → Reaches ds names y → is_among y l ≡ true
      → (x : Bytes) × (is_among x names ≡ true) × (is_among x l ≡ true)
  uses_late i before m l n le c names y (Reaches.Occurring x h) q = (x, h, q)
  uses_late i before m l n le c names y (Reaches.Through k f x r e o) q =
      let w : is_among x (take n l) ≡ true = ap (λ z. is_among x z) (take_all n l le) ∙ q in
      let a : mark_of m k ≢ 0 = c.closed k x w (record { function = function_is (at ds k) f e; occurs = o }) in
      uses_late i before m l n le c names f r (c.named k f a e)

  -- when no late name is left
  pub ended : (i : ℕ) (before : List Bytes) (m : List ℕ) (l : List Bytes) (n : ℕ) → length l ≤ n → Closing ds i before m l n → Round ds i m l
  ended i before m l n le c =
      let closed : (k : ℕ) (x : Bytes) → is_among x l ≡ true → Uses ds k x → mark_of m k ≢ 0 = λ k x h u. c.closed k x (ap (λ z. is_among x z) (take_all n l le) ∙ h) u in
      record {
        len = c.len;
        sound = c.sound;
        last = λ k j lj f h.
            ⊎_elim
            (λ e. let w = uses_late i before m l n le c (at ds k).occurs h.name h.reached (c.covers j h.name lj h.defined) in
            let a : i < mark_of m k = c.high k (closed k w.0 w.2 (record { function = f; occurs = w.1 })) in
            let b : i ≡ j = e in
            omega arith)
            (λ lt. c.last k j lt f h) (eq-or-lt_of_le lj);
        high = c.high;
        covers = c.covers;
        closed = closed;
        named = c.named;
      }

  -- with what one more declaration defines
  entered : (i : ℕ) (m : List ℕ) (l l1 : List Bytes) → l1 ≡ l ++ (at ds i).defines → Round ds (i + 1) m l → Closing ds i l m l1 (length l)
  entered i m l l1 e r =
      let to_new : (x : Bytes) → is_among x l ≡ true → is_among x l1 ≡ true = λ x h. ap (λ w. is_among x w) e ∙ has_left l (at ds i).defines x h in
      record {
        len = r.len;
        fresh = (at ds i).defines;
        longer = e;
        leads = λ x h. λ names k. record { name = x; defined = h; reached = Reaches.Occurring x k };
        sound = r.sound;
        last = λ k j lt f h. let a : i + 1 ≤ j = omega arith in r.last k j a f h;
        high = λ k h. let a : i + 1 < mark_of m k = r.high k h in omega arith;
        covers = λ j x le h.
            ⊎_elim (λ q. ap (λ w. is_among x w) e ∙ has_right l (at ds i).defines x (ap (λ (w : ℕ). is_among x (at ds w).defines) q ∙ h))
            (λ lt. let a : i + 1 ≤ j = omega arith in to_new x (r.covers j x a h)) (eq-or-lt_of_le le);
        closed = λ k x h u. r.closed k x (sym (ap (λ w. is_among x w) (ap (λ w. take (length l) w) e ∙ take-append_seam l (at ds i).defines)) ∙ h) u;
        named = λ k x h q. to_new x (r.named k x h q);
      }

  pub rounded : {A E : Type 0} (r : Result A E) (i : ℕ) (m : List ℕ) (l l1 : List Bytes) (from : ℕ) (m2 : List ℕ) (l2 : List Bytes) → from ≡ length l → l1 ≡ l ++ (at ds i).defines
      → ((before : List Bytes) → OnOk r (length before ≡ from → Closing ds i before m l1 from → Round ds i m2 l2)) → OnOk r (Round ds (i + 1) m l → Round ds i m2 l2)
  rounded (Ok a) i m l l1 from m2 l2 e d h = λ w. h l (sym e) (subst (λ (n : ℕ). Closing ds i l m l1 n) (sym e) (entered i m l l1 d w))
  rounded (Err a) i m l l1 from m2 l2 e d h = tt

  -- before anything is marked
  unmarked : (n k : ℕ) → mark_of (replicate n 0) k ≡ 0
  unmarked zero k = refl
  unmarked (suc n) zero = refl
  unmarked (suc n) (suc k) = unmarked n k

  first_round : (m : List ℕ) → m ≡ replicate (length ds) 0 → Round ds (length ds) m []
  first_round m e =
      let z : (k : ℕ) → mark_of m k ≡ 0 = λ k. ap (λ w. mark_of w k) e ∙ unmarked (length ds) k in
      record {
        len = ap (λ (w : List ℕ). length w) e ∙ length-replicate (length ds) 0;
        sound = λ k j h. let w : mark_of m k ≡ 0 = z k in let no : ⊥ = omega arith in absurd no;
        last = λ k j le f h. false_true (ap (λ (w : Declared). is_among h.name w.defines) (sym (at_end ds j le)) ∙ h.defined);
        high = λ k n. absurd (n (z k));
        covers = λ j x le h. false_true (ap (λ (w : Declared). is_among x w.defines) (sym (at_end ds j le)) ∙ h);
        closed = λ k x h u. false_true h;
        named = λ k x n h. absurd (n (z k));
      }

  pub started : (m : List ℕ) (l : List Bytes) → m ≡ replicate (length ds) 0 → l ≡ [] → Round ds (length ds) m l
  started m l e k = subst (λ (w : List Bytes). Round ds (length ds) m w) (sym k) (first_round m e)

  mark_is : (m : List ℕ) (l : List Bytes) → Round ds 0 m l → (k : ℕ) → mark_of m k ≡ function_place ds (at ds k)
  mark_is m l r k = ⊎_elim yes no (decided (is_function (at ds k))) where
    yes : is_function (at ds k) ≡ true → mark_of m k ≡ function_place ds (at ds k)
    yes f =
        let p : mark_of m k ≡ place ds (at ds k) = one_place ds (at ds k).occurs (mark_of m k) (place ds (at ds k))
        (record { last = λ j h. r.last k j (omega arith) f h; first = ⊎_elim (λ q. inl q) (λ w. inr (w.0, w.1, (r.sound k w.0 w.1).1)) (number_form (mark_of m k)) })
        (place_has ds (at ds k)) in
        p ∙ sym (ap (λ (b : Bool). cond b (place ds (at ds k)) 0) f)

    no : is_function (at ds k) ≡ false → mark_of m k ≡ function_place ds (at ds k)
    no f = ⊎_elim (λ q. q ∙ sym (ap (λ (b : Bool). cond b (place ds (at ds k)) 0) f)) (λ w. not_both (is_function (at ds k)) (r.sound k w.0 w.1).0 f) (number_form (mark_of m k))

  length_map : (xs : List Declared) → length (map (function_place ds) xs) ≡ length xs
  length_map [] = refl
  length_map (x ∷ xs) = ap (λ (n : ℕ). suc n) (length_map xs)

  -- after the first declaration
  pub marked : (m : List ℕ) (l : List Bytes) → Round ds 0 m l → m ≡ map (function_place ds) ds
  marked m l r =
      same_number_lists m (map (function_place ds) ds) (r.len ∙ sym (length_map ds))
      (λ k lt. let e : length m ≡ length ds = r.len in let a : k < length ds = omega arith in mark_is m l r k ∙ sym (get_or-map (function_place ds) ds k nothing 0 a))

-- the first of two lists
pub front : (n : ℕ) (xs ys : List ℕ) → length xs ≡ n → take n (xs ++ ys) ≡ xs
front n xs ys e = ap (λ (k : ℕ). take k (xs ++ ys)) (sym e) ∙ take-append_seam xs ys
