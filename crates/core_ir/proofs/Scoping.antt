-- Scopes and their names: what further scopes leave as it was, and where jumps lead.
use Rattle.std.proofs.Common.{◌≡◌, ℕ, zero, suc, ◌+◌, ◌-◌, ◌<◌, ◌≤◌, refl, sym, ap, ◌∙◌, subst, ◌⊎◌, inl, inr, List, [], ◌∷◌, ◌++◌, length, take, drop, get_or, Some, None, arith}
use Rattle.std.specs.Prelude.{slice_get}
use Rattle.std.proofs.lemmas.List.{append_assoc, append-nil, length-append, length-take-le, length-drop, take-append-drop, drop-drop}
use Rattle.std.proofs.lemmas.Option.{slice_get_within, slice_get_read}
use Rattle.std.proofs.lemmas.Bool.{cases_lt}
use Rattle.core_ir.specs.declared.constant.Constant.TheVariants as constant
use Rattle.core_ir.specs.declared.code.Operand.{Operand}
use Rattle.core_ir.specs.declared.code.Operand.TheVariants.{Slot, Captured, Member, Constant}
use Rattle.core_ir.specs.declared.scopes.Entry.{Entry}
use Rattle.core_ir.specs.declared.scopes.Outermost.{Outermost}
use Rattle.core_ir.specs.Choices.{nth}
use Rattle.core_ir.specs.ScopeNames.{slots_from, members_from, captured_from, outermost_names, names_at, named_after, named, Jumps, EntryFits, EntriesFit, scope_names, name_at}

-- ---- lists by place

pub nth_front : {A : Type 0} (d : A) (xs ys : List A) (n : ℕ) → n < length xs → nth d (xs ++ ys) n ≡ nth d xs n
nth_front d [] ys n h = absurd (omega (arith, h))
nth_front d (x ∷ xs) ys zero h = refl
nth_front d (x ∷ xs) ys (suc n) h = nth_front d xs ys n (omega (arith, h))

pub nth_back : {A : Type 0} (d : A) (xs ys : List A) (n : ℕ) → nth d (xs ++ ys) (length xs + n) ≡ nth d ys n
nth_back d [] ys n = ap (nth d ys) (let e : 0 + n ≡ n = omega arith in e)
nth_back d (x ∷ xs) ys n = ap (nth d (x ∷ (xs ++ ys))) (let e : suc (length xs) + n ≡ suc (length xs + n) = omega arith in e) ∙ nth_back d xs ys n

pub nth_got : {A : Type 0} (d : A) (xs : List A) (n : ℕ) (x : A) → slice_get xs n ≡ Some x → nth d xs n ≡ x
nth_got d [] n x e = absurd (let z : None ≡ Some x = e in cc)
nth_got d (y ∷ ys) zero x e = let z : Some y ≡ Some x = e in cc
nth_got d (y ∷ ys) (suc n) x e = nth_got d ys n x e

got_front : {A : Type 0} (xs ys : List A) (n : ℕ) → n < length xs → slice_get (xs ++ ys) n ≡ slice_get xs n
got_front [] ys n h = absurd (omega (arith, h))
got_front (x ∷ xs) ys zero h = refl
got_front (x ∷ xs) ys (suc n) h = got_front xs ys n (omega (arith, h))

got_next : {A : Type 0} (xs : List A) (x : A) (ys : List A) → slice_get (xs ++ x ∷ ys) (length xs) ≡ Some x
got_next [] x ys = refl
got_next (y ∷ xs) x ys = got_next xs x ys

-- ---- the outermost scope

length_slots : (h n : ℕ) → length (slots_from h n) ≡ n
length_slots h zero = refl
length_slots h (suc n) = ap suc (length_slots (suc h) n)

length_members : (h n : ℕ) → length (members_from h n) ≡ n
length_members h zero = refl
length_members h (suc n) = ap suc (length_members (suc h) n)

module _ (d : Operand) where
  nth_slots : (h n i : ℕ) → i < n → nth d (slots_from h n) i ≡ Slot (h + i)
  nth_slots h zero i l = absurd (omega (arith, l))
  nth_slots h (suc n) zero l = ap Slot (let e : h ≡ h + 0 = omega arith in e)
  nth_slots h (suc n) (suc i) l = nth_slots (suc h) n i (omega (arith, l)) ∙ ap Slot (let e : suc h + i ≡ h + suc i = omega arith in e)

  nth_members : (h n i : ℕ) → i < n → nth d (members_from h n) i ≡ Member (h + i)
  nth_members h zero i l = absurd (omega (arith, l))
  nth_members h (suc n) zero l = ap Member (let e : h ≡ h + 0 = omega arith in e)
  nth_members h (suc n) (suc i) l = nth_members (suc h) n i (omega (arith, l)) ∙ ap Member (let e : suc h + i ≡ h + suc i = omega arith in e)

  nth_captured : (h n i : ℕ) → i < n → nth d (captured_from h n) i ≡ Captured (h + i)
  nth_captured h zero i l = absurd (omega (arith, l))
  nth_captured h (suc n) zero l = ap Captured (let e : h ≡ h + 0 = omega arith in e)
  nth_captured h (suc n) (suc i) l = nth_captured (suc h) n i (omega (arith, l)) ∙ ap Captured (let e : suc h + i ≡ h + suc i = omega arith in e)

  nth_past : (h n i : ℕ) → n ≤ i → nth d (captured_from h n) i ≡ d
  nth_past h zero i l = refl
  nth_past h (suc n) zero l = absurd (omega (arith, l))
  nth_past h (suc n) (suc i) l = nth_past (suc h) n i (omega (arith, l))

module _ (o : Outermost) where
  pub reads_slot : (n : ℕ) → n < o.parameters → Slot n ≡ name_at (outermost_names o) n
  reads_slot n l =
      sym (nth_front (Constant constant.Unit) (slots_from 0 o.parameters) (members_from 0 o.functions ++ captured_from 0 o.sees) n (let e = length_slots 0 o.parameters in omega (arith, e, l))
      ∙ nth_slots (Constant constant.Unit) 0 o.parameters n l ∙ ap Slot (let e : 0 + n ≡ n = omega arith in e))

  behind_slots : (n m : ℕ) → n ≡ o.parameters + m → name_at (outermost_names o) n ≡ name_at (members_from 0 o.functions ++ captured_from 0 o.sees) m
  behind_slots n m e =
      ap (nth (Constant constant.Unit) (outermost_names o)) (e ∙ ap (λ k. k + m) (sym (length_slots 0 o.parameters)))
      ∙ nth_back (Constant constant.Unit) (slots_from 0 o.parameters) (members_from 0 o.functions ++ captured_from 0 o.sees) m

  behind_members : (n m : ℕ) → n ≡ o.parameters + (o.functions + m) → name_at (outermost_names o) n ≡ name_at (captured_from 0 o.sees) m
  behind_members n m e =
      behind_slots n (o.functions + m) e ∙ ap (nth (Constant constant.Unit) (members_from 0 o.functions ++ captured_from 0 o.sees)) (ap (λ k. k + m) (sym (length_members 0 o.functions)))
      ∙ nth_back (Constant constant.Unit) (members_from 0 o.functions) (captured_from 0 o.sees) m

  pub reads_member : (n m : ℕ) → n ≡ o.parameters + m → m < o.functions → Member m ≡ name_at (outermost_names o) n
  reads_member n m e l =
      sym (behind_slots n m e ∙ nth_front (Constant constant.Unit) (members_from 0 o.functions) (captured_from 0 o.sees) m (let k = length_members 0 o.functions in omega (arith, k, l))
      ∙ nth_members (Constant constant.Unit) 0 o.functions m l ∙ ap Member (let e : 0 + m ≡ m = omega arith in e))

  pub reads_captured : (n m : ℕ) → n ≡ o.parameters + (o.functions + m) → m < o.sees → Captured m ≡ name_at (outermost_names o) n
  reads_captured n m e l = sym (behind_members n m e ∙ nth_captured (Constant constant.Unit) 0 o.sees m l ∙ ap Captured (let e : 0 + m ≡ m = omega arith in e))

  pub reads_unit : (n m : ℕ) → n ≡ o.parameters + (o.functions + m) → o.sees ≤ m → Constant constant.Unit ≡ name_at (outermost_names o) n
  reads_unit n m e l = sym (behind_members n m e ∙ nth_past (Constant constant.Unit) 0 o.sees m l)

-- ---- further scopes

pub names_stay : (all more : List (List Operand)) (n : ℕ) → n ≤ length all → names_at (all ++ more) n ≡ names_at all n
names_stay all more zero l = refl
names_stay all more (suc n) l = nth_front [] all more n (omega (arith, l))

pub names_past : (all : List (List Operand)) (n : ℕ) → length all < n → names_at all n ≡ []
names_past all zero l = absurd (omega (arith, l))
names_past [] (suc n) l = refl
names_past (x ∷ all) (suc zero) l = absurd (omega (arith, l))
names_past (x ∷ all) (suc (suc n)) l = names_past all (suc n) (omega (arith, l))

pub names_next : (all : List (List Operand)) (x : List Operand) → names_at (all ++ x ∷ []) (suc (length all)) ≡ x
names_next all x = ap (nth [] (all ++ x ∷ [])) (let e : length all ≡ length all + 0 = omega arith in e) ∙ nth_back [] all (x ∷ []) 0

named_more : (all : List (List Operand)) (es : List Entry) (e : Entry) → named_after all (es ++ e ∷ []) ≡ named_after all es ++ (e.name ∷ names_at (named_after all es) e.outer) ∷ []
named_more all [] e = refl
named_more all (x ∷ es) e = named_more (all ++ (x.name ∷ names_at all x.outer) ∷ []) es e

pub named_push : (es : List Entry) (e : Entry) → named (es ++ e ∷ []) ≡ named es ++ (e.name ∷ names_at (named es) e.outer) ∷ []
named_push es e = named_more [] es e

length_after : (all : List (List Operand)) (es : List Entry) → length (named_after all es) ≡ length all + length es
length_after all [] = omega arith
length_after all (e ∷ es) =
    length_after (all ++ (e.name ∷ names_at all e.outer) ∷ []) es ∙ (let k = length-append all ((e.name ∷ names_at all e.outer) ∷ []) in omega (arith, k))

pub length_named : (es : List Entry) → length (named es) ≡ length es
length_named es = length_after [] es ∙ (let e : 0 + length es ≡ length es = omega arith in e)

jumps_stay : (all more : List (List Operand)) (outer jump skip : ℕ) → outer ≤ length all → Jumps all outer jump skip → Jumps (all ++ more) outer jump skip
jumps_stay all more outer jump skip l h = record {
  past = h.past;
  skips = h.skips;
  back = h.back;
  most = let e = ap length (names_stay all more outer l) in omega (arith, e, h.most);
  leads = names_stay all more jump (omega (arith, l, h.back)) ∙ h.leads ∙ ap (drop h.past) (sym (names_stay all more outer l));
}

entry_stays : (all more : List (List Operand)) (i : ℕ) (e : Entry) → i < length all → EntryFits all i e → EntryFits (all ++ more) i e
entry_stays all more i e l h = record {
  outer = h.outer;
  names = names_stay all more (suc i) (omega (arith, l)) ∙ h.names ∙ ap (λ xs. e.name ∷ xs) (sym (names_stay all more e.outer (omega (arith, l, h.outer))));
  jumps = jumps_stay all more e.outer e.jump e.skip (omega (arith, l, h.outer)) h.jumps;
}

pub fits_next : (es : List Entry) (e : Entry) → EntriesFit es → e.outer ≤ length es → Jumps (named es) e.outer e.jump e.skip → EntriesFit (es ++ e ∷ [])
fits_next es e fit l j i x at = subst (λ all. EntryFits all i x) (sym (named_push es e)) (which (cases_lt i (length es)))
  where
    new : List Operand
    new = e.name ∷ names_at (named es) e.outer

    within : e.outer ≤ length (named es)
    within = let k = length_named es in omega (arith, k, l)

    here : (x : Entry) → e ≡ x → EntryFits (named es ++ new ∷ []) (length es) x
    here x same = subst (λ x. EntryFits (named es ++ new ∷ []) (length es) x) same (record {
      outer = l;
      names = ap (λ n. names_at (named es ++ new ∷ []) (suc n)) (sym (length_named es)) ∙ names_next (named es) new ∙ ap (λ xs. e.name ∷ xs) (sym (names_stay (named es) (new ∷ []) e.outer within));
      jumps = jumps_stay (named es) (new ∷ []) e.outer e.jump e.skip within j;
    })

    which : (i < length es) ⊎ (length es ≤ i) → EntryFits (named es ++ new ∷ []) i x
    which (inl less) = entry_stays (named es) (new ∷ []) i x (let k = length_named es in omega (arith, k, less)) (fit i x (sym (got_front es (e ∷ []) i less) ∙ at))
    which (inr most) =
        let k : i < length (es ++ e ∷ []) = slice_get_within (es ++ e ∷ []) i x at in
        let s : i ≡ length es = let z = length-append es (e ∷ []) in omega (arith, k, z, most) in
        subst (λ i. EntryFits (named es ++ new ∷ []) i x) (sym s) (here x (let z : Some e ≡ Some x = sym (got_next es e []) ∙ ap (slice_get (es ++ e ∷ [])) (sym s) ∙ at in cc))

-- what was read of a scope that there is
pub record IsRead (es : List Entry) (at : ℕ) (e : Entry) : Type 0 where
  pub i : ℕ
  pub at_is : at ≡ suc i
  pub fits : EntryFits (named es) i e

pub is_read : (es : List Entry) (at : ℕ) (e : Entry) → EntriesFit es → 0 < at → at ≤ length es → e ≡ get_or es (at - 1) e → IsRead es at e
is_read es at e fit more within read = record {
  i = at - 1;
  at_is = omega (arith, more);
  fits = fit (at - 1) e (slice_get_read es (length es) (at - 1) e refl (omega (arith, more, within)) read);
}

-- ---- jumps

pub jumps_near : (all : List (List Operand)) (outer : ℕ) → Jumps all outer outer 1
jumps_near all outer = record { past = 0; skips = refl; back = omega arith; most = omega arith; leads = refl }

-- what a scope's own jump leads past
jumped : (all : List (List Operand)) (i : ℕ) (e : Entry) → EntryFits all i e → (names_at all e.jump ≡ drop e.skip (names_at all (suc i))) × (e.skip ≤ length (names_at all (suc i)))
jumped all i e h = (
  h.jumps.leads ∙ sym (ap (λ n. drop n (names_at all (suc i))) h.jumps.skips ∙ ap (drop (suc h.jumps.past)) h.names),
  let k = ap length h.names in let s = h.jumps.skips in omega (arith, k, s, h.jumps.most),
)

pub jumps_twice : (all : List (List Operand)) (i j : ℕ) (near far : Entry) → EntryFits all i near → near.jump ≡ suc j → EntryFits all j far → Jumps all (suc i) far.jump (1 + near.skip + far.skip)
jumps_twice all i j near far h e k =
    let a = jumped all i near h in let b = jumped all j far k in
    let at : names_at all (suc j) ≡ drop near.skip (names_at all (suc i)) = ap (names_at all) (sym e) ∙ a.0 in
    record {
      past = near.skip + far.skip;
      skips = omega arith;
      back = let u = h.jumps.back in let v = h.outer in let w = k.jumps.back in let z = k.outer in omega (arith, u, v, w, z, e);
      most = let s = ap length at in let d = length-drop near.skip (names_at all (suc i)) in let u = a.1 in let v = b.1 in omega (arith, s, d, u, v);
      leads = b.0 ∙ ap (drop far.skip) at ∙ drop-drop far.skip near.skip (names_at all (suc i));
    }

-- ---- the search for a name

-- so many names of the scope lie before those of the scope at which the search is
pub record Searches (all : List (List Operand)) (scope place at left : ℕ) : Type 0 where
  pub front : List Operand
  pub is : names_at all scope ≡ front ++ names_at all at
  pub before : place ≡ length front + left

pub searches_first : (all : List (List Operand)) (scope place : ℕ) → Searches all scope place scope place
searches_first all scope place = record { front = []; is = refl; before = omega arith }

pub searches_outer : (all : List (List Operand)) (scope place i left : ℕ) (e : Entry) → EntryFits all i e → Searches all scope place (suc i) left → 1 ≤ left → Searches all scope place e.outer (left - 1)
searches_outer all scope place i left e h s l = record {
  front = s.front ++ e.name ∷ [];
  is = s.is ∙ ap (λ xs. s.front ++ xs) h.names ∙ sym (append_assoc s.front (e.name ∷ []) (names_at all e.outer));
  before = let k = length-append s.front (e.name ∷ []) in let p = s.before in omega (arith, k, p, l);
}

pub searches_jump : (all : List (List Operand)) (scope place i left : ℕ) (e : Entry) → EntryFits all i e → Searches all scope place (suc i) left → e.skip ≤ left → Searches all scope place e.jump (left - e.skip)
searches_jump all scope place i left e h s l =
    let j = jumped all i e h in let xs = names_at all (suc i) in record {
      front = s.front ++ take e.skip xs;
      is = s.is ∙ ap (λ ys. s.front ++ ys) (sym (take-append-drop e.skip xs)) ∙ ap (λ ys. s.front ++ (take e.skip xs ++ ys)) (sym (j.0)) ∙ sym (append_assoc s.front (take e.skip xs) (names_at all e.jump));
      before = let k = length-append s.front (take e.skip xs) in let t = length-take-le e.skip xs (j.1) in let p = s.before in omega (arith, k, t, p, l);
    }

pub searches_found : (all : List (List Operand)) (scope place i : ℕ) (e : Entry) → EntryFits all i e → Searches all scope place (suc i) 0 → slice_get (names_at all scope) place ≡ Some e.name
searches_found all scope place i e h s =
    ap (λ xs. slice_get xs place) (s.is ∙ ap (λ xs. s.front ++ xs) h.names)
    ∙ ap (slice_get (s.front ++ e.name ∷ names_at all e.outer)) (let p = s.before in let k : place ≡ length s.front = omega (arith, p) in k) ∙ got_next s.front e.name (names_at all e.outer)

pub searches_past : (all : List (List Operand)) (scope place left : ℕ) → Searches all scope place 0 left → place ≡ length (names_at all scope) + left
searches_past all scope place left s = s.before ∙ ap (λ n. n + left) (ap length (sym (s.is ∙ append-nil s.front)))

-- ---- a name of a scope, or one beyond

pub name_found : (all : List (List Operand)) (o : Outermost) (scope place : ℕ) (x : Operand) → slice_get (names_at all scope) place ≡ Some x → x ≡ name_at (scope_names all o scope) place
name_found all o scope place x e =
    sym (nth_front (Constant constant.Unit) (names_at all scope) (outermost_names o) place (slice_get_within (names_at all scope) place x e) ∙ nth_got (Constant constant.Unit) (names_at all scope) place x e)

pub name_beyond : (all : List (List Operand)) (o : Outermost) (scope place left : ℕ) → place ≡ length (names_at all scope) + left → name_at (outermost_names o) left ≡ name_at (scope_names all o scope) place
name_beyond all o scope place left e =
    sym (ap (nth (Constant constant.Unit) (scope_names all o scope)) e ∙ nth_back (Constant constant.Unit) (names_at all scope) (outermost_names o) left)
