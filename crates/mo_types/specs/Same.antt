-- The comparison of nodes tells exactly whether they are equal.
use Rattle.std.proofs.Common.{◌≡◌, ℕ, Bool, true, false, ◌&&◌, List, [], ◌∷◌, nat_eq, if◌then◌else◌, refl, sym, ap, ◌∙◌, subst}
use Rattle.std.specs.Bool.{beq, Decides}
use Rattle.std.specs.Cmp.{unsigned_Decides, booleans_Decides, IsEquivalence, IsPartialEquivalence}
use Rattle.std.specs.Cmp.Lexicographic.{pointwise}
use Rattle.mo_num.specs.declared.kind.Kind.{Kind}
use Rattle.mo_num.specs.declared.kind.Kind.TheVariants as kind
use Rattle.mo_types.specs.declared.node.Node.{Node}
use Rattle.mo_types.specs.declared.node.Node.TheVariants as node
use Rattle.mo_types.specs.declared.node.Field.{Field}
use Rattle.mo_types.specs.declared.node.TypeId.{TypeId}
use Rattle.mo_types.specs.declared.node.Sort.{Sort}
use Rattle.mo_types.specs.declared.node.Sort.TheVariants as sort
use Rattle.mo_types.specs.Layout.{Layout, layout, kind_number, sort_number, same_id, same_field, same_layout, same_node}

module _ {K : Type 0} {E : K → K → Bool} (d : (x y : K) → Decides (E x y) (x ≡ y)) where
  pub decided_refl : (x : K) → E x x ≡ true
  decided_refl x = (d x x).1 refl

  both : (b c : Bool) → (b ≡ true → c ≡ true) → (c ≡ true → b ≡ true) → b ≡ c
  both true c f g = sym (f refl)
  both false true f g = g refl
  both false false f g = refl

  pub decided_symm : (x y : K) → E x y ≡ E y x
  decided_symm x y = both (E x y) (E y x) (λ h. (d y x).1 (sym ((d x y).0 h))) (λ h. (d x y).1 (sym ((d y x).0 h)))

  pub decided_equivalence : IsEquivalence E
  decided_equivalence = record {
    refl = decided_refl;
    symm = decided_symm;
    congr = λ x y z h. ap (λ w. E w z) ((d x y).0 h);
  }

  pub decided_partial : IsPartialEquivalence E
  decided_partial = record {
    symm = decided_symm;
    trans = λ x y z h k. subst (λ w. E w z ≡ true) (sym ((d x y).0 h)) k;
  }

  pub pointwise_decides : (xs ys : List K) → Decides (pointwise E xs ys) (xs ≡ ys)
  pointwise_decides [] [] = (λ h. refl, λ h. refl)
  pointwise_decides [] (y ∷ ys) = (λ h. cc, λ h. cc)
  pointwise_decides (x ∷ xs) [] = (λ h. cc, λ h. cc)
  pointwise_decides (x ∷ xs) (y ∷ ys) = (to (E x y) (d x y) (pointwise_decides xs ys), from (pointwise_decides xs ys)) where
    both_true : (b c : Bool) → b ≡ true → c ≡ true → b && c ≡ true
    both_true true c e f = f
    both_true false c e f = e

    to : (b : Bool) → Decides b (x ≡ y) → Decides (pointwise E xs ys) (xs ≡ ys) → b && pointwise E xs ys ≡ true → x ∷ xs ≡ y ∷ ys
    to true e f h = ap (λ z. z ∷ xs) (e.0 refl) ∙ ap (λ zs. y ∷ zs) (f.0 h)
    to false e f h = cc

    from : Decides (pointwise E xs ys) (xs ≡ ys) → x ∷ xs ≡ y ∷ ys → E x y && pointwise E xs ys ≡ true
    from i h = let e : x ≡ y = cc in let f : xs ≡ ys = cc in both_true (E x y) (pointwise E xs ys) ((d x y).1 e) (i.1 f)

and_true : (b c : Bool) → b ≡ true → c ≡ true → b && c ≡ true
and_true true c e f = f
and_true false c e f = e

and_first : (b c : Bool) → b && c ≡ true → b ≡ true
and_first true c h = refl
and_first false c h = h

and_second : (b c : Bool) → b && c ≡ true → c ≡ true
and_second true c h = h
and_second false c h = cc

pub id_decides : (a b : TypeId) → Decides (same_id a b) (a ≡ b)
id_decides a b = (λ h. ap (λ (n : ℕ). let t : TypeId = record { index = n } in t) ((unsigned_Decides a.index b.index).0 h), λ h. (unsigned_Decides a.index b.index).1 (ap (λ (t : TypeId). t.index) h))

abbrev field_from : List ℕ → Bool → TypeId → Field TypeId
field_from l m p = record { label = l; mutable = m; part = p }

pub field_decides : (f g : Field TypeId) → Decides (same_field f g) (f ≡ g)
field_decides f g = (to, from) where
  labels : Bool
  labels = pointwise nat_eq f.label g.label

  rest : Bool
  rest = beq f.mutable g.mutable && same_id f.part g.part

  to : same_field f g ≡ true → f ≡ g
  to h =
      let l : f.label ≡ g.label = (pointwise_decides unsigned_Decides f.label g.label).0 (and_first labels rest h) in
      let r : rest ≡ true = and_second labels rest h in
      let m : f.mutable ≡ g.mutable = (booleans_Decides f.mutable g.mutable).0 (and_first (beq f.mutable g.mutable) (same_id f.part g.part) r) in
      let p : f.part ≡ g.part = (id_decides f.part g.part).0 (and_second (beq f.mutable g.mutable) (same_id f.part g.part) r) in
      ap (λ x. field_from x f.mutable f.part) l ∙ ap (λ x. field_from g.label x f.part) m ∙ ap (λ x. field_from g.label g.mutable x) p

  from : f ≡ g → same_field f g ≡ true
  from h = and_true labels rest ((pointwise_decides unsigned_Decides f.label g.label).1 (ap (λ (x : Field TypeId). x.label) h))
      (and_true (beq f.mutable g.mutable) (same_id f.part g.part) ((booleans_Decides f.mutable g.mutable).1 (ap (λ (x : Field TypeId). x.mutable) h)) ((id_decides f.part g.part).1 (ap (λ (x : Field TypeId). x.part) h)))

abbrev layout_from : ℕ → ℕ → List TypeId → List TypeId → List (Field TypeId) → Layout TypeId
layout_from f d a b c = record { form = f; detail = d; first = a; second = b; fields = c }

pub layout_decides : (a b : Layout TypeId) → Decides (same_layout a b) (a ≡ b)
layout_decides a b = (to, from) where
  fields : Bool
  fields = pointwise same_field a.fields b.fields

  second : Bool
  second = pointwise same_id a.second b.second && fields

  first : Bool
  first = pointwise same_id a.first b.first && second

  detail : Bool
  detail = nat_eq a.detail b.detail && first

  to : same_layout a b ≡ true → a ≡ b
  to h =
      let e : detail ≡ true = and_second (nat_eq a.form b.form) detail h in
      let f : first ≡ true = and_second (nat_eq a.detail b.detail) first e in
      let g : second ≡ true = and_second (pointwise same_id a.first b.first) second f in
      let p : a.form ≡ b.form = (unsigned_Decides a.form b.form).0 (and_first (nat_eq a.form b.form) detail h) in
      let q : a.detail ≡ b.detail = (unsigned_Decides a.detail b.detail).0 (and_first (nat_eq a.detail b.detail) first e) in
      let r : a.first ≡ b.first = (pointwise_decides id_decides a.first b.first).0 (and_first (pointwise same_id a.first b.first) second f) in
      let s : a.second ≡ b.second = (pointwise_decides id_decides a.second b.second).0 (and_first (pointwise same_id a.second b.second) fields g) in
      let t : a.fields ≡ b.fields = (pointwise_decides field_decides a.fields b.fields).0 (and_second (pointwise same_id a.second b.second) fields g) in
      ap (λ x. layout_from x a.detail a.first a.second a.fields) p ∙ ap (λ x. layout_from b.form x a.first a.second a.fields) q ∙ ap (λ x. layout_from b.form b.detail x a.second a.fields) r ∙ ap (λ x. layout_from b.form b.detail b.first x a.fields) s ∙ ap (λ x. layout_from b.form b.detail b.first b.second x) t

  from : a ≡ b → same_layout a b ≡ true
  from h = subst (λ c. same_layout a c ≡ true) h
      (and_true (nat_eq a.form a.form) _ ((unsigned_Decides a.form a.form).1 refl)
      (and_true (nat_eq a.detail a.detail) _ ((unsigned_Decides a.detail a.detail).1 refl)
      (and_true (pointwise same_id a.first a.first) _ ((pointwise_decides id_decides a.first a.first).1 refl)
      (and_true (pointwise same_id a.second a.second) _ ((pointwise_decides id_decides a.second a.second).1 refl)
      ((pointwise_decides field_decides a.fields a.fields).1 refl)))))

abbrev kind_at : ℕ → Kind
kind_at n =
    if nat_eq n 0 then kind.Nat else
    if nat_eq n 1 then kind.Int else
    if nat_eq n 2 then kind.Nat8 else
    if nat_eq n 3 then kind.Nat16 else
    if nat_eq n 4 then kind.Nat32 else
    if nat_eq n 5 then kind.Nat64 else
    if nat_eq n 6 then kind.Int8 else
    if nat_eq n 7 then kind.Int16 else
    if nat_eq n 8 then kind.Int32 else
    kind.Int64

kind_back : (k : Kind) → kind_at (kind_number k) ≡ k
kind_back kind.Nat = refl
kind_back kind.Int = refl
kind_back kind.Nat8 = refl
kind_back kind.Nat16 = refl
kind_back kind.Nat32 = refl
kind_back kind.Nat64 = refl
kind_back kind.Int8 = refl
kind_back kind.Int16 = refl
kind_back kind.Int32 = refl
kind_back kind.Int64 = refl

-- kinds of one number are the same
pub kind_same : (j k : Kind) → kind_number j ≡ kind_number k → j ≡ k
kind_same j k h = sym (kind_back j) ∙ ap kind_at h ∙ kind_back k

abbrev sort_at : ℕ → Sort
sort_at n = if nat_eq n 0 then sort.Local else if nat_eq n 1 then sort.Shared else sort.Query

sort_back : (s : Sort) → sort_at (sort_number s) ≡ s
sort_back sort.Local = refl
sort_back sort.Shared = refl
sort_back sort.Query = refl

-- sorts of one number are the same
pub sort_same : (r s : Sort) → sort_number r ≡ sort_number s → r ≡ s
sort_same r s h = sym (sort_back r) ∙ ap sort_at h ∙ sort_back s

module _ {A : Type 0} where
  abbrev on_first : List A → (A → Node A) → Node A
  on_first [] f = node.Bool
  on_first (a ∷ rest) f = f a

  -- the node that is laid out so
  abbrev from_layout : ℕ → Layout A → Node A
  from_layout n l =
      if nat_eq n 0 then node.Number (kind_at l.detail) else
      if nat_eq n 1 then node.Bool else
      if nat_eq n 2 then node.Char else
      if nat_eq n 3 then node.Text else
      if nat_eq n 4 then node.Blob else
      if nat_eq n 5 then node.Principal else
      if nat_eq n 6 then node.Error else
      if nat_eq n 7 then node.Null else
      if nat_eq n 8 then node.Any else
      if nat_eq n 9 then node.Bottom else
      if nat_eq n 10 then on_first l.first (λ a. node.Opt a) else
      if nat_eq n 11 then on_first l.first (λ a. node.Array a) else
      if nat_eq n 12 then on_first l.first (λ a. node.MutArray a) else
      if nat_eq n 13 then node.Tuple l.first else
      if nat_eq n 14 then node.Object l.fields else
      if nat_eq n 15 then node.Actor l.fields else
      if nat_eq n 16 then node.Variant l.fields else
      if nat_eq n 17 then node.Func (sort_at l.detail) l.first l.second else
      if nat_eq n 18 then on_first l.first (λ a. node.Async a) else
      on_first l.first (λ a. node.Variable l.detail a)

  layout_back : (n : Node A) → from_layout (layout n).form (layout n) ≡ n
  unfolding layout
  layout_back (node.Number k) = ap (λ (k : Kind). node.Number k) (kind_back k)
  layout_back node.Bool = refl
  layout_back node.Char = refl
  layout_back node.Text = refl
  layout_back node.Blob = refl
  layout_back node.Principal = refl
  layout_back node.Error = refl
  layout_back node.Null = refl
  layout_back node.Any = refl
  layout_back node.Bottom = refl
  layout_back (node.Opt a) = refl
  layout_back (node.Array a) = refl
  layout_back (node.MutArray a) = refl
  layout_back (node.Tuple ts) = refl
  layout_back (node.Object fs) = refl
  layout_back (node.Actor fs) = refl
  layout_back (node.Variant fs) = refl
  layout_back (node.Func s ps rs) = ap (λ (s : Sort). node.Func s ps rs) (sort_back s)
  layout_back (node.Async a) = refl
  layout_back (node.Variable v b) = refl

  -- nodes that are laid out alike are the same
  pub layout_same : (m n : Node A) → layout m ≡ layout n → m ≡ n
  layout_same m n h = sym (layout_back m) ∙ ap (λ (l : Layout A). from_layout l.form l) h ∙ layout_back n

pub node_decides : (a b : Node TypeId) → Decides (same_node a b) (a ≡ b)
node_decides a b = (λ h. layout_same a b ((layout_decides (layout a) (layout b)).0 h), λ h. (layout_decides (layout a) (layout b)).1 (ap layout h))
