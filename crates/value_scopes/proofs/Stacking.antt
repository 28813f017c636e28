-- Names that are put in front of others, found and taken away.
use Rattle.std.proofs.Common.{◌≡◌, ℕ, zero, suc, ◌+◌, ◌-◌, ◌<◌, ◌≤◌, Bool, true, false, cond, List, [], ◌∷◌, ◌++◌, length, take, drop, get_or, slice_get, Option, Some, None, IfSome, IsSome, option_to_list, ◌↔◌, refl, sym, ap, ◌∙◌, subst, arith, length-append}
use Rattle.std.proofs.Math.Seq.{take-append_seam, drop-append_seam}
use Rattle.std.specs.Option.{option_or}
use Rattle.std.specs.Str.{bytes_eq}
use Rattle.mo_scopes.specs.Scopes.{named}
use Rattle.mo_name_table.specs.Places.{last_place, later}
use Rattle.mo_name_table.proofs.Finding.{within}
use Rattle.value_scopes.specs.Stacks.{entered, stacked}

-- a name that is put in and taken away again
pub taken_back : (xs ys zs : List (List ℕ)) (x : List ℕ) → ys ≡ xs ++ x ∷ [] → zs ≡ take (length ys - 1) ys → zs ≡ xs
taken_back xs ys zs x e g =
    let l : length (xs ++ x ∷ []) ≡ length xs + 1 = length-append xs (x ∷ []) in
    let k : length (xs ++ x ∷ []) - 1 ≡ length xs = omega arith in
    g ∙ (ap (λ (s : List (List ℕ)). take (length s - 1) s) e ∙ (ap (λ m. take m (xs ++ x ∷ [])) k ∙ take-append_seam xs (x ∷ [])))

-- a list that is not empty, in two
pub split_last : {A : Type 0} (xs : List A) → 0 < length xs → (front : List A) × ((x : A) × (xs ≡ front ++ x ∷ []))
split_last [] h = absurd (omega arith)
split_last (x ∷ []) h = ([], (x, refl))
split_last (x ∷ y ∷ xs) h = let (front, (z, e)) = split_last (y ∷ xs) (omega arith) in (x ∷ front, (z, ap (λ l. x ∷ l) e))

none_left : {A : Type 0} (xs : List A) → length xs ≡ 0 → xs ≡ []
none_left [] h = refl
none_left (x ∷ xs) h = absurd (omega arith)

module _ {T : Type 0} where
  entered_more : (before : List (List ℕ × T)) (xs : List (List ℕ)) (ts : List T) (x : List ℕ) (t : T) → length xs ≡ length ts → entered before (xs ++ x ∷ []) (ts ++ t ∷ []) ≡ (x, t) ∷ entered before xs ts
  entered_more before [] [] x t h = refl
  entered_more before [] (u ∷ ts) x t h = absurd (omega arith)
  entered_more before (y ∷ xs) [] x t h = absurd (omega arith)
  entered_more before (y ∷ xs) (u ∷ ts) x t h = entered_more ((y, u) ∷ before) xs ts x t (omega arith)

  entered_length : (before : List (List ℕ × T)) (xs : List (List ℕ)) (ts : List T) → length xs ≡ length ts → length (entered before xs ts) ≡ length before + length xs
  entered_length before [] [] h = omega arith
  entered_length before [] (u ∷ ts) h = absurd (omega arith)
  entered_length before (y ∷ xs) [] h = absurd (omega arith)
  entered_length before (y ∷ xs) (u ∷ ts) h = entered_length ((y, u) ∷ before) xs ts (omega arith) ∙ omega arith

  pub as_many : (xs : List (List ℕ)) (ts : List T) (old : List (List ℕ × T)) → length xs ≡ length ts → stacked xs ts ≡ old → length xs ≡ length old
  as_many xs ts old h v =
      let n : length (stacked xs ts) ≡ 0 + length xs = entered_length [] xs ts h in
      let m : length (stacked xs ts) ≡ length old = ap length v in
      omega arith

  -- ---- what is found

  abbrev at_place : List T → Option ℕ → Option T
  at_place ts None = None
  at_place ts (Some p) = slice_get ts p

  there : (ts : List T) (p : ℕ) → p < length ts → (u : T) × (slice_get ts p ≡ Some u)
  there [] p h = absurd (omega arith)
  there (t ∷ ts) zero h = (t, refl)
  there (t ∷ ts) (suc p) h = there ts p (omega arith)

  one_found : (t : T) (ts : List T) (o : Option T) (l : Option ℕ) (b : Bool) → IfSome l (λ p. p < length ts) → option_or (at_place ts l) (cond b (Some t) o) ≡ option_or (at_place (t ∷ ts) (later l b)) o
  one_found t ts o (Some p) b h =
      let (u, k) = there ts p h in
      ap (λ (v : Option T). option_or v (cond b (Some t) o)) k ∙ ap (λ (v : Option T). option_or v o) (sym k)
  one_found t ts o None true h = refl
  one_found t ts o None false h = refl

  found : (before : List (List ℕ × T)) (xs : List (List ℕ)) (ts : List T) (x : List ℕ) → length xs ≡ length ts → named (entered before xs ts) x ≡ option_or (at_place ts (last_place xs x)) (named before x)
  found before [] [] x h = refl
  found before [] (u ∷ ts) x h = absurd (omega arith)
  found before (y ∷ xs) [] x h = absurd (omega arith)
  found before (y ∷ xs) (u ∷ ts) x h =
      let n : length xs ≡ length ts = omega arith in
      found ((y, u) ∷ before) xs ts x n ∙ one_found u ts (named before x) (last_place xs x) (bytes_eq x y) (subst (λ (m : ℕ). IfSome (last_place xs x) (λ p. p < m)) n (within xs x))

  pub get_there : (ts : List T) (i : ℕ) (t : T) → i < length ts → t ≡ get_or ts i t → slice_get ts i ≡ Some t
  get_there [] i t h e = absurd (omega arith)
  get_there (u ∷ ts) zero t h e = ap Some (sym e)
  get_there (u ∷ ts) (suc i) t h e = get_there ts i t (omega arith) e

  module _ (xs : List (List ℕ)) (ts : List T) (old : List (List ℕ × T)) (x : List ℕ) (v : stacked xs ts ≡ old) (f : length xs ≡ length ts) where
    looked : named old x ≡ option_or (at_place ts (last_place xs x)) None
    looked = ap (λ (s : List (List ℕ × T)). named s x) (sym v) ∙ found [] xs ts x f

    pub not_found : None ≡ last_place xs x → None ≡ named old x
    not_found e = ap (λ (o : Option ℕ). option_or (at_place ts o) None) e ∙ sym looked

    pub found_at : (i : ℕ) (t : T) → Some i ≡ last_place xs x → slice_get ts i ≡ Some t → Some t ≡ named old x
    found_at i t e g = ap (λ (o : Option T). option_or o None) (sym g) ∙ (ap (λ (o : Option ℕ). option_or (at_place ts o) None) e ∙ sym looked)

  -- ---- one more, and one less

  pub pushed : (xs ys : List (List ℕ)) (ts us : List T) (old : List (List ℕ × T)) (x : List ℕ) (t : T) → stacked xs ts ≡ old → length xs ≡ length ts → ys ≡ xs ++ x ∷ [] → us ≡ ts ++ t ∷ [] → stacked ys us ≡ (x, t) ∷ old
  pushed xs ys ts us old x t v f e g =
      ap (λ (l : List (List ℕ)). stacked l us) e ∙ (ap (λ (l : List T). stacked (xs ++ x ∷ []) l) g ∙ (entered_more [] xs ts x t f ∙ ap (λ (s : List (List ℕ × T)). (x, t) ∷ s) v))

  pub still_as_many : (xs ys : List (List ℕ)) (ts us : List T) (x : List ℕ) (t : T) → length xs ≡ length ts → ys ≡ xs ++ x ∷ [] → us ≡ ts ++ t ∷ [] → length ys ≡ length us
  still_as_many xs ys ts us x t f e g = ap length e ∙ (length-append xs (x ∷ []) ∙ (ap (λ n. n + 1) f ∙ sym (ap length g ∙ length-append ts (t ∷ []))))

  pub record Popped (xs ys : List (List ℕ)) (ts us : List T) : Type 0 where
    pub many : length ys ≡ length us
    pub less : stacked ys us ≡ drop 1 (stacked xs ts)

  pub popped : (xs ys : List (List ℕ)) (ts us : List T) (r : Option T) (n : ℕ) → length xs ≡ length ts → ys ≡ take (length xs - 1) xs → ts ≡ us ++ option_to_list r → IsSome r ↔ (0 < n) → n ≡ length ts → Popped xs ys ts us
  popped xs ys ts us (Some t) n f e g v m =
      let l : length ts ≡ length us + 1 = ap length g ∙ length-append us (t ∷ []) in
      let (front, (x, k)) = split_last xs (omega arith) in
      let q : length xs ≡ length front + 1 = ap length k ∙ length-append front (x ∷ []) in
      let a : length front ≡ length us = omega arith in
      let w : ys ≡ front = taken_back front xs ys x k e in
      record {
        many = ap length w ∙ a;
        less = ap (λ (s : List (List ℕ)). stacked s us) w ∙ sym (ap (λ (s : List (List ℕ × T)). drop 1 s) (pushed front xs us ts (stacked front us) x t refl a k g));
      }
  popped xs ys ts us None zero f e g v m =
      let z : length ts ≡ 0 = sym m in
      let t : ts ≡ [] = none_left ts z in
      let x : xs ≡ [] = none_left xs (f ∙ z) in
      let u : us ≡ [] = none_left us (let k : length ts ≡ length us + 0 = ap length g ∙ length-append us [] in omega arith) in
      let y : ys ≡ [] = e ∙ ap (λ (s : List (List ℕ)). take (length s - 1) s) x in
      record {
        many = ap length y ∙ sym (ap length u);
        less = ap (λ (s : List (List ℕ)). stacked s us) y ∙ sym (ap (λ (s : List (List ℕ)). drop 1 (stacked s ts)) x);
      }
  popped xs ys ts us None (suc n) f e g v m = let some : 0 < suc n = omega arith in let no : false ≡ true = v.1 some in cc

-- ---- the outermost alone

pub one_less : {A : Type 0} (xs ys : List A) (n : ℕ) → n < length xs → ys ≡ drop 1 xs → drop (length ys - n) ys ≡ drop (length xs - n) xs
one_less [] ys n h e = absurd (omega arith)
one_less {A} (x ∷ xs) ys n h e =
    let k : suc (length xs) - n ≡ suc (length xs - n) = omega arith in
    ap (λ (s : List A). drop (length s - n) s) e ∙ ap (λ m. drop m (x ∷ xs)) (sym k)

pub none_above : {A : Type 0} (xs old : List A) (n : ℕ) → length xs ≤ n → drop (length xs - n) xs ≡ drop (length old - n) old → xs ≡ drop (length old - n) old
none_above xs old n h e = let k : length xs - n ≡ 0 = omega arith in sym (ap (λ m. drop m xs) k) ∙ e

pub cut_back : {A : Type 0} (xs old more before : List A) (n : ℕ) → xs ≡ drop (length old - n) old → old ≡ more ++ before → n ≡ length before → xs ≡ before
cut_back {A} xs old more before n e f g =
    let l : length (more ++ before) ≡ length more + length before = length-append more before in
    let k : length (more ++ before) - n ≡ length more = omega arith in
    e ∙ (ap (λ (s : List A). drop (length s - n) s) f ∙ (ap (λ m. drop m (more ++ before)) k ∙ drop-append_seam more before))
