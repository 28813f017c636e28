-- Each type of the graph has the number of its place.
use Rattle.std.proofs.Common.{◌≡◌, ℕ, zero, suc, ◌+◌, ◌<◌, Bool, true, false, ◌&&◌, List, [], ◌∷◌, ◌++◌, length, Some, slice_get, cond, nat_eq, bytes_eq, refl, sym, ap, ◌∙◌, subst, arith}
use Rattle.std.specs.Cmp.{unsigned_Decides}
use Rattle.std.proofs.lemmas.Slice.Eq.{bytes_eq-Decides}
use Rattle.std.specs.Prelude.{Result, Ok, Err, IfOk}
use Rattle.mo_types.specs.declared.node.Node.{Node}
use Rattle.mo_types.specs.declared.node.TypeId.{TypeId}
use Rattle.mo_types.specs.Layout.{kind_number, sort_number}
use Rattle.mo_types.specs.Sub.{Each}
use Rattle.typed_tree.specs.Instances.{types_in}
use Rattle.type_terms.specs.declared.form.Form.{Form}
use Rattle.type_terms.specs.declared.form.TermId.{TermId}
use Rattle.type_terms.specs.Tables.{Founded, Distinct}
use Rattle.typing_rules.specs.Graphs.{term_of}
use Rattle.typing_rules.specs.Terms.{Term, Terms, Fields}
use Rattle.typing_rules.specs.Terms as t
use Rattle.typing_rules.specs.SameTerms.{same, each_same, fields_same, same_flag, place_from}
use Rattle.typing_rules.proofs.SameTerms.{same_is}
use Rattle.type_definitions.specs.Meanings.{term}
use Rattle.type_definitions.specs.Meanings.{term_of as form_term}
use Rattle.type_definitions.specs.Tables.{Later}
use Rattle.type_definitions.proofs.Different.{terms_apart}
use Rattle.type_definitions.proofs.Meanings.{term_is}
use Rattle.met_types.specs.Reached.{numbered}
use Rattle.met_types.specs.States.{State, Kept, IsNodeOf}
use Rattle.met_types.proofs.Counted.{graph_term, map_from, map_there}
use Rattle.met_types.proofs.Indexing.{there}
use Rattle.kernel_types.specs.Numbers.{Holds, IsHead, number, number_of, graph_terms}

numbers_same : (n : ℕ) → nat_eq n n ≡ true
numbers_same n = (unsigned_Decides n n).1 refl

both_are : (b c : Bool) → b ≡ true → c ≡ true → b && c ≡ true
both_are true c e f = f
both_are false c e f = cc

flag_itself : (b : Bool) → same_flag b b ≡ true
flag_itself true = refl
flag_itself false = refl

mutual
  same_itself : (a : Term) → same a a ≡ true
  same_itself (t.Number k) = numbers_same (kind_number k)
  same_itself t.Boolean = refl
  same_itself t.Character = refl
  same_itself t.Text = refl
  same_itself t.Blob = refl
  same_itself t.Principal = refl
  same_itself t.Error = refl
  same_itself t.Null = refl
  same_itself t.Any = refl
  same_itself t.Bottom = refl
  same_itself (t.Optional a) = same_itself a
  same_itself (t.Array a) = same_itself a
  same_itself (t.MutableArray a) = same_itself a
  same_itself (t.Tuple us) = each_itself us
  same_itself (t.Object fs) = fields_itself fs
  same_itself (t.Actor fs) = fields_itself fs
  same_itself (t.Variant fs) = fields_itself fs
  same_itself (t.Function us r) = both_are (each_same us us) (same r r) (each_itself us) (same_itself r)
  same_itself (t.Shared o us r) =
      both_are (nat_eq (sort_number o) (sort_number o)) (each_same us us && same r r) (numbers_same (sort_number o)) (both_are (each_same us us) (same r r) (each_itself us) (same_itself r))
  same_itself (t.Async a) = same_itself a
  same_itself (t.Parameter n) = numbers_same n
  same_itself (t.Use n us) = both_are (nat_eq n n) (each_same us us) (numbers_same n) (each_itself us)

  each_itself : (us : Terms) → each_same us us ≡ true
  each_itself t.Nil = refl
  each_itself (t.Cons u us) = both_are (same u u) (each_same us us) (same_itself u) (each_itself us)

  fields_itself : (fs : Fields) → fields_same fs fs ≡ true
  fields_itself t.NoFields = refl
  fields_itself (t.WithField l m u fs) =
      both_are (bytes_eq l l) (same_flag m m && (same u u && fields_same fs fs)) ((bytes_eq-Decides l l).1 refl)
      (both_are (same_flag m m) (same u u && fields_same fs fs) (flag_itself m) (both_are (same u u) (fields_same fs fs) (same_itself u) (fields_itself fs)))

-- ---- the place of a type

place_is : (us : List Term) (n i : ℕ) (u : Term) → slice_get us i ≡ Some u → ((j : ℕ) (v : Term) → slice_get us j ≡ Some v → v ≡ u → j ≡ i) → place_from n us u ≡ n + i
place_is [] n i u h k = cc
place_is (v ∷ vs) n zero u h k =
    let g : Some v ≡ Some u = h in
    let e : v ≡ u = cc in
    let f : n ≡ n + 0 = omega arith in
    ap (λ (b : Bool). cond b n (place_from (suc n) vs u)) (ap (λ (w : Term). same w u) e ∙ same_itself u) ∙ f
place_is (v ∷ vs) n (suc i) u h k =
    by (same v u) refl (place_is vs (suc n) i u h (λ j w g e. let m : suc j ≡ suc i = k (suc j) w g e in let l : j ≡ i = omega (arith, m) in l))
  where
    first : v ≡ u → ⊥
    first e = let m : zero ≡ suc i = k zero v refl e in omega (arith, m)

    by : (b : Bool) → same v u ≡ b → place_from (suc n) vs u ≡ suc n + i → cond b n (place_from (suc n) vs u) ≡ n + suc i
    by true e m = absurd (first (same_is v u e))
    by false e m = let l : suc n + i ≡ n + suc i = omega arith in m ∙ l

of_number : (n : ℕ) (id : TypeId) → n ≡ id.index → record { index = n } ≡ id
of_number n id e = ap (λ (m : ℕ). record { index = m }) e

module _ (s : State) (k : Kept s) (founded : Founded s.forms) (distinct : Distinct s.forms) where
  alone : (id : TypeId) (t : TermId) → slice_get s.reached id.index ≡ Some t → (j : ℕ) (v : Term) → slice_get (graph_terms s) j ≡ Some v → v ≡ term s.forms t → j ≡ id.index
  alone id t h j v g e =
      let f = map_from (term s.forms) s.reached j v g in
      let m : f.0.index ≡ t.index = terms_apart s.forms founded distinct f.0 t (k.formed.within j f.0 f.1) (k.formed.within id.index t h) (f.2 ∙ e) in
      k.formed.different j id.index t (f.1 ∙ ap (λ (n : ℕ). Some (numbered n)) m) h

  -- the type under this number
  pub its_number : (id : TypeId) (t : TermId) → slice_get s.reached id.index ≡ Some t → id ≡ number_of s t
  its_number id t h =
      let z : zero + id.index ≡ id.index = omega arith in
      sym (of_number _ id (place_is (graph_terms s) zero id.index (term s.forms t) (map_there (term s.forms) s.reached id.index t h) (alone id t h) ∙ z))

  pub number_at : (id : TypeId) → id.index < length s.reached → number s (term_of (graph_terms s) id) ≡ id
  number_at id l =
      let h = there s.reached id.index l in
      ap (number s) (graph_term s.forms s.reached id h.0 h.1) ∙ sym (its_number id h.0 h.1)

  numbers_at : (ids : List TypeId) → Each (λ p. p.index < length s.reached) ids → Each (λ p. number s (term_of (graph_terms s) p) ≡ p) ids
  numbers_at [] h = tt
  numbers_at (id ∷ ids) h = (number_at id h.0, numbers_at ids h.1)

  itself : Later s.forms s.forms
  itself = record { grows = ([], sym (append_nil s.forms)); founded = founded; distinct = distinct }
    where
      append_nil : {A : Type 0} (xs : List A) → xs ++ [] ≡ xs
      append_nil [] = refl
      append_nil (x ∷ xs) = ap (λ l. x ∷ l) (append_nil xs)

  pub head_is : (id : TermId) (n : Node TypeId) → IsNodeOf s id n → IsHead s id n
  head_is id n h = record { parts = numbers_at (types_in n) h.parts; is = h.is s.forms itself }

-- ---- the same of types as they are seen

pub kept_so : (s : State) (fs : List Form) → Kept s → fs ≡ s.forms → Distinct fs → Founded fs → Holds s
kept_so s fs k e d f = record { kept = k; founded = subst (λ (l : List Form). Founded l) e f; distinct = subst (λ (l : List Form). Distinct l) e d }

module _ (s now : State) (h : Holds s) (e : s ≡ now) where
  pub number_found : (id : TypeId) (t : TermId) → slice_get s.reached id.index ≡ Some t → id ≡ number_of now t
  number_found id t g = its_number s h.kept h.founded h.distinct id t g ∙ ap (λ (z : State). number_of z t) e

  pub head_found : (t : TermId) (n : Node TypeId) → IsNodeOf s t n → IsHead now t n
  head_found t n g = subst (λ (z : State). IsHead z t n) e (head_is s h.kept h.founded h.distinct t n g)

  pub form_found : {E : Type 0} (r : Result TypeId E) (fs : List Form) (t : TermId) (f : Form) → fs ≡ s.forms → slice_get fs t.index ≡ Some f → IfOk r (λ at. at ≡ number_of now t) → IfOk r (λ at. at ≡ number now (form_term (term now.forms) f))
  form_found (Err x) fs t f g i j = tt
  form_found (Ok at) fs t f g i j =
      j ∙ ap (number now) (ap (λ (z : State). term z.forms t) (sym e) ∙ (term_is s.forms t f h.founded (ap (λ (l : List Form). slice_get l t.index) (sym g) ∙ i) ∙ ap (λ (z : State). form_term (term z.forms) f) e))
