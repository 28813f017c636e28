-- Steps of a visit.
use Rattle.std.proofs.Common.{◌≡◌, ℕ, zero, suc, inl, inr, ◌||◌, Bool, true, false, List, [], ◌∷◌, ◌++◌, length, map, reverse, nat_eq, Some, slice_get, refl, sym, ap, ◌∙◌, subst, length-append, Result, Ok, Err, OnOk}
use Rattle.std.specs.Cmp.{unsigned_Decides}
use Rattle.std.specs.Global.{Vec}
use Rattle.std.specs.List.{list_any}
use Rattle.std.proofs.lemmas.List.{map_push, reverse-append}
use Rattle.mo_types.specs.declared.wire.Wire.{Wire}
use Rattle.mo_types.specs.Header.{IsSimple, IsKnown, Visits, Done, Skip, Old, New, parts_of}
use Rattle.candid_types.specs.Shapes.{shape_at}
use Rattle.candid_write.specs.declared.places.Table.{Table}
use Rattle.candid_write.specs.Classes.{class_at, AreClasses}
use Rattle.candid_write.specs.Order.{IsReady, Steps}

-- a class among those of an order is that of a type of it
found : (classes : List ℕ) (c : ℕ) (order : List ℕ) → list_any (nat_eq c) (map (class_at classes) order) ≡ true → (i : ℕ) × (m : ℕ) × (slice_get order i ≡ Some m) × (class_at classes m ≡ c)
found classes c [] h = cc
found classes c (m ∷ order) h = by (nat_eq c (class_at classes m)) refl h (found classes c order) where
  by : (b : Bool) → nat_eq c (class_at classes m) ≡ b → (b || list_any (nat_eq c) (map (class_at classes) order)) ≡ true → (list_any (nat_eq c) (map (class_at classes) order) ≡ true → (i : ℕ) × (m' : ℕ) × (slice_get order i ≡ Some m') × (class_at classes m' ≡ c)) →
      (i : ℕ) × (m' : ℕ) × (slice_get (m ∷ order) i ≡ Some m') × (class_at classes m' ≡ c)
  by true e h k = (0, m, refl, sym ((unsigned_Decides c (class_at classes m)).0 e))
  by false e h k = let r = k h in (suc r.0, r.1, r.2, r.3)

missing : (classes : List ℕ) (c : ℕ) (order : List ℕ) → list_any (nat_eq c) (map (class_at classes) order) ≡ false → (i m : ℕ) → slice_get order i ≡ Some m → class_at classes m ≡ c → ⊥
missing classes c [] h i m g e = cc
missing classes c (n ∷ order) h zero m g e = by (nat_eq c (class_at classes n)) refl h where
  by : (b : Bool) → nat_eq c (class_at classes n) ≡ b → (b || list_any (nat_eq c) (map (class_at classes) order)) ≡ false → ⊥
  by true f h = cc
  by false f h = let s : Some n ≡ Some m = g in let t : n ≡ m = cc in let u : nat_eq c (class_at classes n) ≡ true = (unsigned_Decides c (class_at classes n)).1 (sym (ap (class_at classes) t ∙ e)) in cc
missing classes c (n ∷ order) h (suc i) m g e = missing classes c order (rest (nat_eq c (class_at classes n)) h) i m g e where
  rest : (b : Bool) → (b || list_any (nat_eq c) (map (class_at classes) order)) ≡ false → list_any (nat_eq c) (map (class_at classes) order) ≡ false
  rest true h = cc
  rest false h = h

module _ (shapes : List (Wire ℕ)) (classes order : List ℕ) (are : AreClasses shapes classes) (n : ℕ) where
  pub is_known : list_any (nat_eq (class_at classes n)) (map (class_at classes) order) ≡ true → IsKnown (shape_at shapes) order n
  is_known h = let r = found classes (class_at classes n) order h in (r.0, record { other = r.1; there = r.2; same = are.same r.1 n r.3 })

  pub not_known : list_any (nat_eq (class_at classes n)) (map (class_at classes) order) ≡ false → IsKnown (shape_at shapes) order n → ⊥
  not_known h k = missing classes (class_at classes n) order h k.0 k.1.other k.1.there (are.one k.1.other n k.1.same)

pub skips : (n : ℕ) (t : Table) (todo : List ℕ) → IsReady t → IsSimple (shape_at t.shapes n) → Steps n t t todo todo
skips n t todo r s = record { shapes = refl; ready = r; visits = λ out v. Skip n s v; less = inl (refl, refl) }

pub olds : (n : ℕ) (t : Table) (todo : List ℕ) → IsReady t → list_any (nat_eq (class_at t.classes.items n)) t.seen.keys ≡ true → Steps n t t todo todo
olds n t todo r h = record {
  shapes = refl;
  ready = r;
  visits = λ out v. Old n (is_known t.shapes t.classes.items t.order.items r.classes n (subst (λ l. list_any (nat_eq (class_at t.classes.items n)) l ≡ true) r.seen h)) v;
  less = inl (refl, refl);
}

pub news : (n : ℕ) (old new : Table) (todo left parts : List ℕ) → IsReady old → (IsSimple (shape_at old.shapes n) → ⊥) → parts ≡ parts_of (shape_at old.shapes n) → list_any (nat_eq (class_at old.classes.items n)) old.seen.keys ≡ false →
    new.shapes ≡ old.shapes → new.classes ≡ old.classes → new.order.items ≡ old.order.items ++ n ∷ [] → new.seen.keys ≡ old.seen.keys ++ class_at old.classes.items n ∷ [] → reverse left ≡ parts ++ reverse todo → Steps n old new todo left
news n old new todo left parts r s p h es ec eo ek e = record {
  shapes = es;
  ready = record {
    classes = subst (λ l. AreClasses l new.classes.items) (sym es) (subst (λ (v : Vec ℕ). AreClasses old.shapes v.items) (sym ec) r.classes);
    seen = ek ∙ ap (λ l. l ++ class_at old.classes.items n ∷ []) r.seen ∙ sym (map_push (class_at old.classes.items) old.order.items n) ∙ ap (map (class_at old.classes.items)) (sym eo) ∙ ap (λ (v : Vec ℕ). map (class_at v.items) new.order.items) (sym ec);
  };
  visits = λ out v. New n s (not_known old.shapes old.classes.items old.order.items r.classes n (subst (λ l. list_any (nat_eq (class_at old.classes.items n)) l ≡ false) r.seen h))
      (subst (λ l. Visits (shape_at old.shapes) l (parts_of (shape_at old.shapes n) ++ reverse todo) out) eo (subst (λ l. Visits (shape_at old.shapes) new.order.items l out) (e ∙ ap (λ l. l ++ reverse todo) p) v));
  less = inr (ap length eo ∙ length-append old.order.items (n ∷ []));
}

-- a step after the next type was taken off the stack
pub goes_on : (shapes : List (Wire ℕ)) (roots : List ℕ) (n : ℕ) (old new : Table) (stack todo left : List ℕ) → old.shapes ≡ shapes → stack ≡ todo ++ n ∷ [] → Steps n old new todo left →
    ((out : List ℕ) → Visits (shape_at shapes) old.order.items (reverse stack) out → Visits (shape_at shapes) [] roots out) → (out : List ℕ) → Visits (shape_at shapes) new.order.items (reverse left) out → Visits (shape_at shapes) [] roots out
goes_on shapes roots n old new stack todo left e p s f out v =
    f out (subst (λ l. Visits (shape_at shapes) old.order.items l out) (sym (ap reverse p ∙ reverse-append todo (n ∷ [])))
    (subst (λ l. Visits (shape_at l) old.order.items (n ∷ reverse todo) out) e (s.visits out (subst (λ l. Visits (shape_at l) new.order.items (reverse left) out) (sym e) v))))

pub done : (shapes : List (Wire ℕ)) (roots order stack : List ℕ) → stack ≡ [] → ((out : List ℕ) → Visits (shape_at shapes) order (reverse stack) out → Visits (shape_at shapes) [] roots out) → Visits (shape_at shapes) [] roots order
done shapes roots order stack e f = f order (subst (λ l. Visits (shape_at shapes) order l order) (sym (ap reverse e)) Done)

reverse_twice : (xs : List ℕ) → reverse (reverse xs) ≡ xs
reverse_twice [] = refl
reverse_twice (x ∷ xs) = ap reverse (reverse-append (x ∷ []) xs) ∙ reverse-append (reverse xs) (x ∷ []) ∙ ap (λ l. x ∷ l) (reverse_twice xs)

pub stacked : (old ts new : List ℕ) → new ≡ old ++ reverse ts → reverse new ≡ ts ++ reverse old
stacked old ts new e = ap reverse e ∙ reverse-append old (reverse ts) ∙ ap (λ l. l ++ reverse old) (reverse_twice ts)

pub on_ok : {A E P Q : Type 0} (r : Result A E) → OnOk r P → (P → Q) → OnOk r Q
on_ok (Ok a) h f = f h
on_ok (Err e) h f = tt
