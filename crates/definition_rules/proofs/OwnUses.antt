-- Uses at the parameters of a definition.
use Rattle.std.proofs.Common.{◌≡◌, ◌⊎◌, inl, inr, ℕ, zero, suc, ◌+◌, ◌<◌, ◌≤◌, get_or, Bool, true, false, ◌&&◌, ◌||◌, not, List, [], ◌∷◌, ◌++◌, length, map, Option, Some, None, slice_get, slice_index_or, nat_eq, refl, sym, ap, ◌∙◌, subst, arith}
use Rattle.std.specs.Prelude.{Result, Ok, Err, IfOk, cond}
use Rattle.std.specs.Cmp.{unsigned_Decides}
use Rattle.mo_types.specs.Sub.{Each}
use Rattle.subtype_laws.specs.Reached.{Among}
use Rattle.type_terms.specs.declared.form.Form.{Form}
use Rattle.type_terms.specs.declared.form.Form.TheVariants as form
use Rattle.type_terms.specs.declared.form.TermId.{TermId}
use Rattle.type_terms.specs.Layouts.{layout}
use Rattle.type_terms.specs.Tables.{Founded, PartsBelow}
use Rattle.typing_rules.specs.Terms.{Term}
use Rattle.typing_rules.specs.Definitions as rule
use Rattle.typing_rules.specs.Definitions.{definition_at}
use Rattle.typing_rules.specs.Groups.{uses_in, are_parameters, is_among, joined, leads_to, group_of, at_own, each_at_own, keeps_parameters}
use Rattle.type_definitions.specs.declared.definitions.Definition.{Definition}
use Rattle.type_definitions.specs.Meanings.{term, term_of}
use Rattle.type_definitions.specs.Tables.{Later}
use Rattle.type_definitions.specs.Definitions.{Listed, definition_of, types_in}
use Rattle.type_definitions.proofs.Meanings.{term_later}
use Rattle.type_definitions.proofs.Unfolded.{some_rule, no_rule}
use Rattle.definition_rules.specs.Uses.{Within, AreWithin, is_parameter, AreOwn, LeadsTo, UsesAsOwn, MayUse, Keeps, KeepsParameters}
use Rattle.definition_rules.proofs.Using.{Stands, found, used}

-- ---- parameters

parameter_term : (f : Form) (at : TermId → Term) (n : ℕ) (ns : List ℕ) (us : List Term) → are_parameters (n ∷ ns) (term_of at f ∷ us) ≡ (is_parameter (Some f) n && are_parameters ns us)
parameter_term (form.Number k) at n ns us = refl
parameter_term form.Boolean at n ns us = refl
parameter_term form.Character at n ns us = refl
parameter_term form.Text at n ns us = refl
parameter_term form.Blob at n ns us = refl
parameter_term form.Principal at n ns us = refl
parameter_term form.Error at n ns us = refl
parameter_term form.Null at n ns us = refl
parameter_term form.Any at n ns us = refl
parameter_term form.Bottom at n ns us = refl
parameter_term (form.Optional a) at n ns us = refl
parameter_term (form.Array a) at n ns us = refl
parameter_term (form.MutableArray a) at n ns us = refl
parameter_term (form.Tuple ts) at n ns us = refl
parameter_term (form.Object fs) at n ns us = refl
parameter_term (form.Actor fs) at n ns us = refl
parameter_term (form.Variant fs) at n ns us = refl
parameter_term (form.Function ps r) at n ns us = refl
parameter_term (form.Shared s ps r) at n ns us = refl
parameter_term (form.Async a) at n ns us = refl
parameter_term (form.Parameter m) at n ns us = refl
parameter_term (form.Use m ts) at n ns us = refl

get_there : {A : Type 0} (xs : List A) (i : ℕ) → i < length xs → (x : A) × (slice_get xs i ≡ Some x)
get_there [] i h = absurd (omega arith)
get_there (x ∷ xs) zero h = (x, refl)
get_there (x ∷ xs) (suc i) h = get_there xs i (omega arith)

and_false : (b : Bool) → (b && false) ≡ false
and_false true = refl
and_false false = refl

module _ (forms later : List Form) (l : Later forms later) where
  first_own : (n : ℕ) (ns : List ℕ) (a : TermId) (ids : List TermId) → a.index < length forms
      → are_parameters (n ∷ ns) (map (term later) (a ∷ ids)) ≡ (is_parameter (slice_get forms a.index) n && are_parameters ns (map (term later) ids))
  first_own n ns a ids h =
      let (f, e) = get_there forms a.index h in
      ap (λ (u : Term). are_parameters (n ∷ ns) (u ∷ map (term later) ids)) (term_later forms later a f l e)
      ∙ (parameter_term f (term later) n ns (map (term later) ids) ∙ ap (λ o. is_parameter o n && are_parameters ns (map (term later) ids)) (sym e))

  own_all : (ns : List ℕ) (ids : List TermId) → length ns ≡ length ids → Each (λ a. a.index < length forms) ids
      → ((j n : ℕ) (a : TermId) → slice_get ns j ≡ Some n → slice_get ids j ≡ Some a → is_parameter (slice_get forms a.index) n ≡ true) → true ≡ are_parameters ns (map (term later) ids)
  own_all [] [] e w k = refl
  own_all [] (a ∷ ids) e w k = absurd (omega (arith, e))
  own_all (n ∷ ns) [] e w k = absurd (omega (arith, e))
  own_all (n ∷ ns) (a ∷ ids) e w k =
      sym (first_own n ns a ids w.0 ∙ (ap (λ b. b && are_parameters ns (map (term later) ids)) (k zero n a refl refl)
      ∙ sym (own_all ns ids (omega (arith, e)) w.1 (λ j m b. k (suc j) m b))))

  own_not : (ns : List ℕ) (ids : List TermId) (j n : ℕ) (a : TermId) → Each (λ a. a.index < length forms) ids → slice_get ns j ≡ Some n → slice_get ids j ≡ Some a
      → is_parameter (slice_get forms a.index) n ≡ false → false ≡ are_parameters ns (map (term later) ids)
  own_not [] ids j n a w e f k = cc
  own_not (m ∷ ns) [] j n a w e f k = cc
  own_not (m ∷ ns) (b ∷ ids) zero n a w e f k =
      let g : m ≡ n = cc in
      let h : b ≡ a = cc in
      sym (first_own m ns b ids w.0 ∙ ap (λ c. c && are_parameters ns (map (term later) ids)) (ap (is_parameter (slice_get forms b.index)) g ∙ (ap (λ (x : TermId). is_parameter (slice_get forms x.index) n) h ∙ k)))
  own_not (m ∷ ns) (b ∷ ids) (suc j) n a w e f k =
      sym (first_own m ns b ids w.0 ∙ (ap (λ c. is_parameter (slice_get forms b.index) m && c) (sym (own_not ns ids j n a w.1 e f k)) ∙ and_false (is_parameter (slice_get forms b.index) m)))

  others : (ns : List ℕ) (ids : List TermId) → (length ns ≡ length ids → ⊥) → Each (λ a. a.index < length forms) ids → false ≡ are_parameters ns (map (term later) ids)
  others [] [] e w = absurd (e refl)
  others [] (a ∷ ids) e w = refl
  others (n ∷ ns) [] e w = refl
  others (n ∷ ns) (a ∷ ids) e w =
      sym (first_own n ns a ids w.0 ∙ (ap (λ c. is_parameter (slice_get forms a.index) n && c) (sym (others ns ids (λ q. e (ap suc q)) w.1)) ∙ and_false (is_parameter (slice_get forms a.index) n)))

at_place : {A : Type 0} (xs : List A) (i : ℕ) (x : A) → i < length xs → x ≡ get_or xs i x → slice_get xs i ≡ Some x
at_place [] i x h e = absurd (omega arith)
at_place (y ∷ xs) zero x h e = ap (λ z. Some z) (sym e)
at_place (y ∷ xs) (suc i) x h e = at_place xs i x (omega arith) e

module _ (forms : List Form) (ns : List ℕ) (ids : List TermId) (w : Each (λ a. a.index < length forms) ids) where
  pub other_length : (length ns ≡ length ids → ⊥) → AreOwn forms ns ids false
  other_length e later l = others forms later l ns ids e w

  pub one_other : (j n : ℕ) (a : TermId) → slice_get ns j ≡ Some n → slice_get ids j ≡ Some a → is_parameter (slice_get forms a.index) n ≡ false → AreOwn forms ns ids false
  one_other j n a e f k later l = own_not forms later l ns ids j n a w e f k

  pub all_own : (i : ℕ) → length ns ≡ length ids → length ns ≤ i
      → ((j n : ℕ) (a : TermId) → j < i → slice_get ns j ≡ Some n → slice_get ids j ≡ Some a → is_parameter (slice_get forms a.index) n ≡ true) → AreOwn forms ns ids true
  all_own i e b k later l = own_all forms later l ns ids e w (λ j n a f g. k j n a (let c : j < length ns = bound ns j n f in omega arith) f g) where
    bound : (xs : List ℕ) (j n : ℕ) → slice_get xs j ≡ Some n → j < length xs
    bound [] j n h = cc
    bound (x ∷ xs) zero n h = omega arith
    bound (x ∷ xs) (suc j) n h = let c : j < length xs = bound xs j n h in omega arith

-- ---- one use

module _ (l : Listed) (forms : List Form) (name : ℕ) (own : List ℕ) where
  pub own_use : (at : ℕ) (ids : List TermId) → AreOwn forms own ids true → UsesAsOwn l forms name own at ids true
  own_use at ids h later k d e = by (definition_at (types_in later l) at) where
    or_true : (b c : Bool) → true ≡ c → true ≡ (b || c)
    or_true true c g = refl
    or_true false c g = g

    by : (o : Option rule.Definition) → true ≡ at_own (types_in later l) d own (map (term later) ids) o
    by None = refl
    by (Some x) = or_true (not (is_among d.at (group_of (types_in later l) x))) (are_parameters own (map (term later) ids)) (h later k)

  pub no_definition_used : (at : ℕ) (ids : List TermId) → definition_of l at ≡ None → UsesAsOwn l forms name own at ids true
  no_definition_used at ids none later k d e = sym (ap (at_own (types_in later l) d own (map (term later) ids)) (no_rule l later at none))

  or_false : (b : Bool) → (b || false) ≡ b
  or_false true = refl
  or_false false = refl

  pub led_use : (at : ℕ) (ids : List TermId) (x : Definition) (leads : Bool) → definition_of l at ≡ Some x → AreOwn forms own ids false → LeadsTo l forms x.right name leads → UsesAsOwn l forms name own at ids (not leads)
  led_use at ids x leads there h to later k d e =
      let q = some_rule l later at x there in
      ap not (to later k)
      ∙ (ap (λ (u : Term). not (is_among name (leads_to (types_in later l) (length (types_in later l)) (joined [] (uses_in u))))) (sym q.3)
      ∙ (ap (λ n. not (is_among n (group_of (types_in later l) q.0))) (sym e)
      ∙ (sym (or_false (not (is_among d.at (group_of (types_in later l) q.0))))
      ∙ (ap (λ b. not (is_among d.at (group_of (types_in later l) q.0)) || b) (h later k)
      ∙ ap (at_own (types_in later l) d own (map (term later) ids)) (sym q.1)))))

-- ---- all uses of a right side

module _ (types : List rule.Definition) (d : rule.Definition) where
  each_true : (us : List (ℕ × List Term)) → ((u : (ℕ × List Term)) → Among u us → true ≡ at_own types d (d.outer ++ d.own) u.1 (definition_at types u.0)) → true ≡ each_at_own types d us
  each_true [] k = refl
  each_true (u ∷ us) k = ap (λ b. b && true) (k u (inl refl)) ∙ ap (λ b. at_own types d (d.outer ++ d.own) u.1 (definition_at types u.0) && b) (each_true us (λ v a. k v (inr a)))

  each_false : (us : List (ℕ × List Term)) (u : (ℕ × List Term)) → Among u us → false ≡ at_own types d (d.outer ++ d.own) u.1 (definition_at types u.0) → false ≡ each_at_own types d us
  each_false [] u a k = absurd a
  each_false (v ∷ us) u (inl e) k = ap (λ b. b && each_at_own types d us) (k ∙ ap (λ (w : (ℕ × List Term)). at_own types d (d.outer ++ d.own) w.1 (definition_at types w.0)) (sym e))
  each_false (v ∷ us) u (inr a) k = sym (and_false (at_own types d (d.outer ++ d.own) v.1 (definition_at types v.0))) ∙ ap (λ b. at_own types d (d.outer ++ d.own) v.1 (definition_at types v.0) && b) (each_false us u a k)

module _ (l : Listed) (forms : List Form) (name : ℕ) (own : List ℕ) (right : TermId) (w : right.index < length forms) (founded : Founded forms) (ids : List TermId) (within : AreWithin forms right ids) where
  abbrev May : TermId → Bool → Type 0
  May a is = MayUse l forms name own (slice_get forms a.index) is

  each_among : (P : TermId → Type 0) (xs : List TermId) (a : TermId) → Each P xs → Among a xs → P a
  each_among P [] a h k = absurd k
  each_among P (x ∷ xs) a h (inl e) = subst P e h.0
  each_among P (x ∷ xs) a h (inr k) = each_among P xs a h.1 k

  pub keeps_all : Each (λ a. May a true) ids → Keeps l forms name own right true
  keeps_all h later k d e o r =
      each_true (types_in later l) d (uses_in d.right) (λ u a. by u (found forms later k founded u right w (subst (λ (v : Term). Among u (uses_in v)) r a)))
    where
      by : (u : (ℕ × List Term)) → (b : TermId) × Within forms right b × Stands forms later k founded u b → true ≡ at_own (types_in later l) d (d.outer ++ d.own) u.1 (definition_at (types_in later l) u.0)
      by u (b, v, s) =
          let m : MayUse l forms name own (slice_get forms b.index) true = each_among (λ a. May a true) ids b h (within.all b v) in
          let g : UsesAsOwn l forms name own s.name s.ids true = subst (λ o. MayUse l forms name own o true) s.there m in
          g later k d e ∙ (ap (λ ps. at_own (types_in later l) d ps (map (term later) s.ids) (definition_at (types_in later l) s.name)) (sym o)
          ∙ ap (λ (x : (ℕ × List Term)). at_own (types_in later l) d (d.outer ++ d.own) x.1 (definition_at (types_in later l) x.0)) s.is)

  not_both : false ≡ true → ⊥
  not_both h = cc

  use_of_false : (o : Option Form) → MayUse l forms name own o false → (n : ℕ) × (us : List TermId) × (o ≡ Some (form.Use n us)) × UsesAsOwn l forms name own n us false
  use_of_false (Some (form.Use n us)) h = (n, us, refl, h)
  use_of_false None h = absurd (not_both h)
  use_of_false (Some (form.Number k)) h = absurd (not_both h)
  use_of_false (Some f) h = absurd (not_both h)

  pub keeps_not : (a : TermId) → Among a ids → May a false → Keeps l forms name own right false
  keeps_not a k m later g d e o r =
      let (n, us, there, h) = use_of_false (slice_get forms a.index) m in
      each_false (types_in later l) d (uses_in d.right) (n, map (term later) us)
      (subst (λ (v : Term). Among (n, map (term later) us) (uses_in v)) (sym r) (used forms later g founded (n, map (term later) us) right a (within.sound a k) (record { name = n; ids = us; there = there; is = refl })))
      (h later g d e ∙ ap (λ ps. at_own (types_in later l) d ps (map (term later) us) (definition_at (types_in later l) n)) (sym o))

-- ---- a definition

named_at : (types : List rule.Definition) (at : ℕ) (d : rule.Definition) → definition_at types at ≡ Some d → d.at ≡ at
named_at [] at d h = cc
named_at (x ∷ types) at d h = by (nat_eq x.at at) refl h (named_at types at d) where
  by : (b : Bool) → nat_eq x.at at ≡ b → cond b (Some x) (definition_at types at) ≡ Some d → (definition_at types at ≡ Some d → d.at ≡ at) → d.at ≡ at
  by true e g f = let k : x ≡ d = cc in ap (λ (y : rule.Definition). y.at) (sym k) ∙ (unsigned_Decides x.at at).0 e
  by false e g f = f g

pub of_definition : (l : Listed) (forms : List Form) (name : ℕ) (x : Definition) (is : Bool) → definition_of l name ≡ Some x → Keeps l forms name x.parameters x.right is → KeepsParameters l forms name is
of_definition l forms name x is there h later k =
    let q = some_rule l later name x there in
    h later k q.0 (named_at (types_in later l) name q.0 q.1) q.2 q.3 ∙ ap (keeps_parameters (types_in later l)) (sym q.1)

pub of_none : (l : Listed) (forms : List Form) (name : ℕ) → definition_of l name ≡ None → KeepsParameters l forms name true
of_none l forms name none later k = sym (ap (keeps_parameters (types_in later l)) (no_rule l later name none))

-- ---- as the code goes

pub index_there : {A : Type 0} (xs : List A) (i : ℕ) (d : A) → i < length xs → slice_get xs i ≡ Some (slice_index_or xs i d)
index_there [] i d h = absurd (omega arith)
index_there (x ∷ xs) zero d h = refl
index_there (x ∷ xs) (suc i) d h = index_there xs i d (omega arith)

less_or : (i j : ℕ) → i < j + 1 → (i < j) ⊎ (i ≡ j)
less_or zero zero h = inr refl
less_or zero (suc j) h = inl (omega arith)
less_or (suc i) zero h = absurd (omega arith)
less_or (suc i) (suc j) h = by (less_or i j (omega arith)) where
  by : (i < j) ⊎ (i ≡ j) → (suc i < suc j) ⊎ (suc i ≡ suc j)
  by (inl k) = inl (omega arith)
  by (inr k) = inr (ap suc k)

pub next_own : (forms : List Form) (ns : List ℕ) (ids : List TermId) (i m : ℕ) (b : TermId) → slice_get ns i ≡ Some m → slice_get ids i ≡ Some b → is_parameter (slice_get forms b.index) m ≡ true
    → ((j n : ℕ) (a : TermId) → j < i → slice_get ns j ≡ Some n → slice_get ids j ≡ Some a → is_parameter (slice_get forms a.index) n ≡ true)
    → (j n : ℕ) (a : TermId) → j < i + 1 → slice_get ns j ≡ Some n → slice_get ids j ≡ Some a → is_parameter (slice_get forms a.index) n ≡ true
next_own forms ns ids i m b e f g k j n a h u v = by (less_or j i h) where
  by : (j < i) ⊎ (j ≡ i) → is_parameter (slice_get forms a.index) n ≡ true
  by (inl l) = k j n a l u v
  by (inr l) =
      let p : m ≡ n = (let q : Some m ≡ Some n = sym e ∙ (ap (slice_get ns) (sym l) ∙ u) in cc) in
      let r : b ≡ a = (let q : Some b ≡ Some a = sym f ∙ (ap (slice_get ids) (sym l) ∙ v) in cc) in
      subst (λ (x : TermId). is_parameter (slice_get forms x.index) n ≡ true) r (subst (λ z. is_parameter (slice_get forms b.index) z ≡ true) p g)

pub if_ok : {A E : Type 0} (r : Result A E) (P Q : A → Type 0) → IfOk r P → ((a : A) → P a → Q a) → IfOk r Q
if_ok (Ok a) P Q h k = k a h
if_ok (Err e) P Q h k = tt

pub use_arguments : (forms : List Form) (id : TermId) (f : Form) (n : ℕ) (ids xs : List TermId) → PartsBelow id.index f → id.index < length forms → f ≡ form.Use n ids → xs ≡ ids → Each (λ a. a.index < length forms) xs
unfolding layout
use_arguments forms id f n ids xs b w e q = subst (Each (λ a. a.index < length forms)) (sym q) (go ids (subst (λ (x : Form). PartsBelow id.index x) e b)) where
  go : (ys : List TermId) → Each (λ a. a.index < id.index) (ys ++ []) → Each (λ a. a.index < length forms) ys
  go [] h = tt
  go (y ∷ ys) h = ((let k : y.index < id.index = h.0 in omega arith), go ys h.1)

pub index_among : (xs : List TermId) (i : ℕ) (d : TermId) → i < length xs → Among (slice_index_or xs i d) xs
index_among [] i d h = absurd (omega arith)
index_among (x ∷ xs) zero d h = inl refl
index_among (x ∷ xs) (suc i) d h = inr (index_among xs i d (omega arith))

pub may_at : (l : Listed) (forms : List Form) (name : ℕ) (own : List ℕ) (o : Option Form) (b : Bool) → b ≡ false → MayUse l forms name own o b → MayUse l forms name own o false
may_at l forms name own o b e h = subst (MayUse l forms name own o) e h
