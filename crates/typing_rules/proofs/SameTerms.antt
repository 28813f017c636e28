-- Types that are written alike are the same.
use Rattle.std.proofs.Common.{◌≡◌, ℕ, Bool, true, false, refl, ap, ◌∙◌, nat_eq, bytes_eq}
use Rattle.std.specs.Cmp.{unsigned_Decides}
use Rattle.std.proofs.lemmas.Slice.Eq.{bytes_eq-Decides}
use Rattle.mo_types.specs.Layout.{kind_number, sort_number}
use Rattle.mo_types.specs.Same.{kind_same, sort_same}
use Rattle.typing_rules.specs.Terms.{Term, Terms, Fields}
use Rattle.typing_rules.specs.Terms as t
use Rattle.typing_rules.specs.SameTerms.{same_flag, same, each_same, fields_same}
use Rattle.typing_rules.proofs.Closures.{both_true}

numbers : (n m : ℕ) → nat_eq n m ≡ true → n ≡ m
numbers n m h = (unsigned_Decides n m).0 h

flags : (b c : Bool) → same_flag b c ≡ true → b ≡ c
flags true true h = refl
flags true false h = cc
flags false true h = cc
flags false false h = refl

mutual
  pub same_is : (a b : Term) → same a b ≡ true → a ≡ b
  same_is (t.Number k) (t.Number j) h = ap t.Number (kind_same k j (numbers (kind_number k) (kind_number j) h))
  same_is t.Boolean t.Boolean h = refl
  same_is t.Character t.Character h = refl
  same_is t.Text t.Text h = refl
  same_is t.Blob t.Blob h = refl
  same_is t.Principal t.Principal h = refl
  same_is t.Error t.Error h = refl
  same_is t.Null t.Null h = refl
  same_is t.Any t.Any h = refl
  same_is t.Bottom t.Bottom h = refl
  same_is (t.Optional a) (t.Optional b) h = ap t.Optional (same_is a b h)
  same_is (t.Array a) (t.Array b) h = ap t.Array (same_is a b h)
  same_is (t.MutableArray a) (t.MutableArray b) h = ap t.MutableArray (same_is a b h)
  same_is (t.Tuple ts) (t.Tuple us) h = ap t.Tuple (each_is ts us h)
  same_is (t.Object fs) (t.Object gs) h = ap t.Object (fields_are fs gs h)
  same_is (t.Actor fs) (t.Actor gs) h = ap t.Actor (fields_are fs gs h)
  same_is (t.Variant fs) (t.Variant gs) h = ap t.Variant (fields_are fs gs h)
  same_is (t.Function ps r) (t.Function qs s) h =
      let k = both_true (each_same ps qs) (same r s) h in
      ap (λ z. t.Function z r) (each_is ps qs k.0) ∙ ap (λ z. t.Function qs z) (same_is r s k.1)
  same_is (t.Shared o ps r) (t.Shared c qs s) h =
      let k = both_true (nat_eq (sort_number o) (sort_number c)) _ h in
      let l = both_true (each_same ps qs) (same r s) k.1 in
      ap (λ z. t.Shared z ps r) (sort_same o c (numbers (sort_number o) (sort_number c) k.0)) ∙ (ap (λ z. t.Shared c z r) (each_is ps qs l.0) ∙ ap (λ z. t.Shared c qs z) (same_is r s l.1))
  same_is (t.Async a) (t.Async b) h = ap t.Async (same_is a b h)
  same_is (t.Parameter n) (t.Parameter m) h = ap t.Parameter (numbers n m h)
  same_is (t.Use n ts) (t.Use m us) h =
      let k = both_true (nat_eq n m) (each_same ts us) h in
      ap (λ z. t.Use z ts) (numbers n m k.0) ∙ ap (λ z. t.Use m z) (each_is ts us k.1)
  same_is _ _ h = cc

  each_is : (ts us : Terms) → each_same ts us ≡ true → ts ≡ us
  each_is t.Nil t.Nil h = refl
  each_is (t.Cons a ts) (t.Cons b us) h =
      let k = both_true (same a b) (each_same ts us) h in
      ap (λ z. t.Cons z ts) (same_is a b k.0) ∙ ap (λ z. t.Cons b z) (each_is ts us k.1)
  each_is _ _ h = cc

  fields_are : (fs gs : Fields) → fields_same fs gs ≡ true → fs ≡ gs
  fields_are t.NoFields t.NoFields h = refl
  fields_are (t.WithField l m a fs) (t.WithField k n b gs) h =
      let c = both_true (bytes_eq l k) _ h in
      let d = both_true (same_flag m n) _ c.1 in
      let e = both_true (same a b) (fields_same fs gs) d.1 in
      ap (λ z. t.WithField z m a fs) ((bytes_eq-Decides l k).0 c.0) ∙ (ap (λ z. t.WithField k z a fs) (flags m n d.0)
      ∙ (ap (λ z. t.WithField k n z fs) (same_is a b e.0) ∙ ap (λ z. t.WithField k n b z) (fields_are fs gs e.1)))
  fields_are _ _ h = cc
