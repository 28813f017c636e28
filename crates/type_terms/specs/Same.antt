-- The comparison of forms tells exactly whether they are equal.
use Rattle.std.proofs.Common.{◌≡◌, ℕ, Bool, true, false, ◌&&◌, List, [], ◌∷◌, nat_eq, if◌then◌else◌, refl, sym, ap, ◌∙◌, subst}
use Rattle.std.specs.Bool.{beq, Decides}
use Rattle.std.specs.Cmp.{unsigned_Decides, booleans_Decides}
use Rattle.std.specs.Cmp.Lexicographic.{pointwise}
use Rattle.mo_num.specs.declared.kind.Kind.{Kind}
use Rattle.mo_num.specs.declared.kind.Kind.TheVariants as kind
use Rattle.mo_types.specs.declared.node.Field.{Field}
use Rattle.mo_types.specs.declared.node.Sort.{Sort}
use Rattle.mo_types.specs.declared.node.Sort.TheVariants as sort
use Rattle.mo_types.specs.Layout.{Layout, kind_number, sort_number}
use Rattle.mo_types.specs.Same.{pointwise_decides, kind_same}
use Rattle.type_terms.specs.declared.form.Form.{Form}
use Rattle.type_terms.specs.declared.form.Form.TheVariants as form
use Rattle.type_terms.specs.declared.form.TermId.{TermId}
use Rattle.type_terms.specs.Layouts.{layout, same_id, same_parts, same_field, same_fields, same_layout, same_form}

and_true : (b c : Bool) → b ≡ true → c ≡ true → b && c ≡ true
and_true true c e f = f
and_true false c e f = e

and_first : (b c : Bool) → b && c ≡ true → b ≡ true
and_first true c h = refl
and_first false c h = h

and_second : (b c : Bool) → b && c ≡ true → c ≡ true
and_second true c h = h
and_second false c h = cc

pub id_decides : (a b : TermId) → Decides (same_id a b) (a ≡ b)
id_decides a b = (λ h. ap (λ (n : ℕ). let t : TermId = record { index = n } in t) ((unsigned_Decides a.index b.index).0 h), λ h. (unsigned_Decides a.index b.index).1 (ap (λ (t : TermId). t.index) h))

abbrev field_from : List ℕ → Bool → TermId → Field TermId
field_from l m p = record { label = l; mutable = m; part = p }

pub field_decides : (f g : Field TermId) → Decides (same_field f g) (f ≡ g)
field_decides f g = (to, from) where
  labels : Bool
  labels = pointwise nat_eq f.label g.label

  rest : Bool
  rest = beq f.mutable g.mutable && same_id f.part g.part

  to : same_field f g ≡ true → f ≡ g
  to h =
      let l : f.label ≡ g.label = (pointwise_decides unsigned_Decides f.label g.label).0 (and_first labels rest h) in
      let r : rest ≡ true = and_second labels rest h in
      let m : f.mutable ≡ g.mutable = (booleans_Decides f.mutable g.mutable).0 (and_first (beq f.mutable g.mutable) (same_id f.part g.part) r) in
      let p : f.part ≡ g.part = (id_decides f.part g.part).0 (and_second (beq f.mutable g.mutable) (same_id f.part g.part) r) in
      ap (λ x. field_from x f.mutable f.part) l ∙ ap (λ x. field_from g.label x f.part) m ∙ ap (λ x. field_from g.label g.mutable x) p

  from : f ≡ g → same_field f g ≡ true
  from h = and_true labels rest ((pointwise_decides unsigned_Decides f.label g.label).1 (ap (λ (x : Field TermId). x.label) h))
      (and_true (beq f.mutable g.mutable) (same_id f.part g.part) ((booleans_Decides f.mutable g.mutable).1 (ap (λ (x : Field TermId). x.mutable) h)) ((id_decides f.part g.part).1 (ap (λ (x : Field TermId). x.part) h)))

abbrev layout_from : ℕ → ℕ → List TermId → List TermId → List (Field TermId) → Layout TermId
layout_from f d a b c = record { form = f; detail = d; first = a; second = b; fields = c }

pub layout_decides : (a b : Layout TermId) → Decides (same_layout a b) (a ≡ b)
layout_decides a b = (to, from) where
  fields : Bool
  fields = same_fields a.fields b.fields

  second : Bool
  second = same_parts a.second b.second && fields

  first : Bool
  first = same_parts a.first b.first && second

  detail : Bool
  detail = nat_eq a.detail b.detail && first

  to : same_layout a b ≡ true → a ≡ b
  to h =
      let e : detail ≡ true = and_second (nat_eq a.form b.form) detail h in
      let f : first ≡ true = and_second (nat_eq a.detail b.detail) first e in
      let g : second ≡ true = and_second (same_parts a.first b.first) second f in
      let p : a.form ≡ b.form = (unsigned_Decides a.form b.form).0 (and_first (nat_eq a.form b.form) detail h) in
      let q : a.detail ≡ b.detail = (unsigned_Decides a.detail b.detail).0 (and_first (nat_eq a.detail b.detail) first e) in
      let r : a.first ≡ b.first = (pointwise_decides id_decides a.first b.first).0 (and_first (same_parts a.first b.first) second f) in
      let s : a.second ≡ b.second = (pointwise_decides id_decides a.second b.second).0 (and_first (same_parts a.second b.second) fields g) in
      let t : a.fields ≡ b.fields = (pointwise_decides field_decides a.fields b.fields).0 (and_second (same_parts a.second b.second) fields g) in
      ap (λ x. layout_from x a.detail a.first a.second a.fields) p ∙ ap (λ x. layout_from b.form x a.first a.second a.fields) q ∙ ap (λ x. layout_from b.form b.detail x a.second a.fields) r ∙ ap (λ x. layout_from b.form b.detail b.first x a.fields) s ∙ ap (λ x. layout_from b.form b.detail b.first b.second x) t

  from : a ≡ b → same_layout a b ≡ true
  from h = subst (λ c. same_layout a c ≡ true) h
      (and_true (nat_eq a.form a.form) _ ((unsigned_Decides a.form a.form).1 refl)
      (and_true (nat_eq a.detail a.detail) _ ((unsigned_Decides a.detail a.detail).1 refl)
      (and_true (same_parts a.first a.first) _ ((pointwise_decides id_decides a.first a.first).1 refl)
      (and_true (same_parts a.second a.second) _ ((pointwise_decides id_decides a.second a.second).1 refl)
      ((pointwise_decides field_decides a.fields a.fields).1 refl)))))

abbrev kind_at : ℕ → Kind
kind_at n =
    if nat_eq n 0 then kind.Nat else
    if nat_eq n 1 then kind.Int else
    if nat_eq n 2 then kind.Nat8 else
    if nat_eq n 3 then kind.Nat16 else
    if nat_eq n 4 then kind.Nat32 else
    if nat_eq n 5 then kind.Nat64 else
    if nat_eq n 6 then kind.Int8 else
    if nat_eq n 7 then kind.Int16 else
    if nat_eq n 8 then kind.Int32 else
    kind.Int64

kind_back : (k : Kind) → kind_at (kind_number k) ≡ k
kind_back k = kind_same (kind_at (kind_number k)) k (again k) where
  again : (k : Kind) → kind_number (kind_at (kind_number k)) ≡ kind_number k
  again kind.Nat = refl
  again kind.Int = refl
  again kind.Nat8 = refl
  again kind.Nat16 = refl
  again kind.Nat32 = refl
  again kind.Nat64 = refl
  again kind.Int8 = refl
  again kind.Int16 = refl
  again kind.Int32 = refl
  again kind.Int64 = refl

abbrev sort_at : ℕ → Sort
sort_at n = if nat_eq n 0 then sort.Local else if nat_eq n 1 then sort.Shared else sort.Query

sort_back : (s : Sort) → sort_at (sort_number s) ≡ s
sort_back sort.Local = refl
sort_back sort.Shared = refl
sort_back sort.Query = refl

abbrev on_first : List TermId → (TermId → Form) → Form
on_first [] f = form.Boolean
on_first (a ∷ rest) f = f a

-- the form that is laid out so
abbrev from_layout : ℕ → Layout TermId → Form
from_layout n l =
    if nat_eq n 0 then form.Number (kind_at l.detail) else
    if nat_eq n 1 then form.Boolean else
    if nat_eq n 2 then form.Character else
    if nat_eq n 3 then form.Text else
    if nat_eq n 4 then form.Blob else
    if nat_eq n 5 then form.Principal else
    if nat_eq n 6 then form.Error else
    if nat_eq n 7 then form.Null else
    if nat_eq n 8 then form.Any else
    if nat_eq n 9 then form.Bottom else
    if nat_eq n 10 then on_first l.first (λ a. form.Optional a) else
    if nat_eq n 11 then on_first l.first (λ a. form.Array a) else
    if nat_eq n 12 then on_first l.first (λ a. form.MutableArray a) else
    if nat_eq n 13 then form.Tuple l.first else
    if nat_eq n 14 then form.Object l.fields else
    if nat_eq n 15 then form.Actor l.fields else
    if nat_eq n 16 then form.Variant l.fields else
    if nat_eq n 17 then on_first l.second (λ r. form.Function l.first r) else
    if nat_eq n 18 then on_first l.second (λ r. form.Shared (sort_at l.detail) l.first r) else
    if nat_eq n 19 then on_first l.first (λ a. form.Async a) else
    if nat_eq n 20 then form.Parameter l.detail else
    form.Use l.detail l.first

layout_back : (f : Form) → from_layout (layout f).form (layout f) ≡ f
unfolding layout
layout_back (form.Number k) = ap (λ (k : Kind). form.Number k) (kind_back k)
layout_back form.Boolean = refl
layout_back form.Character = refl
layout_back form.Text = refl
layout_back form.Blob = refl
layout_back form.Principal = refl
layout_back form.Error = refl
layout_back form.Null = refl
layout_back form.Any = refl
layout_back form.Bottom = refl
layout_back (form.Optional a) = refl
layout_back (form.Array a) = refl
layout_back (form.MutableArray a) = refl
layout_back (form.Tuple ts) = refl
layout_back (form.Object fs) = refl
layout_back (form.Actor fs) = refl
layout_back (form.Variant fs) = refl
layout_back (form.Function ps r) = refl
layout_back (form.Shared s ps r) = ap (λ (s : Sort). form.Shared s ps r) (sort_back s)
layout_back (form.Async a) = refl
layout_back (form.Parameter at) = refl
layout_back (form.Use at ts) = refl

-- forms that are laid out alike are the same
layout_same : (m n : Form) → layout m ≡ layout n → m ≡ n
layout_same m n h = sym (layout_back m) ∙ ap (λ (l : Layout TermId). from_layout l.form l) h ∙ layout_back n

pub form_decides : (a b : Form) → Decides (same_form a b) (a ≡ b)
form_decides a b = (λ h. layout_same a b ((layout_decides (layout a) (layout b)).0 h), λ h. (layout_decides (layout a) (layout b)).1 (ap layout h))
