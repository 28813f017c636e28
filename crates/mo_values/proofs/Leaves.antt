-- A leaf that passes the test of its type is a part of a value of that type.
use Rattle.std.proofs.Common.{◌≡◌, ℕ, Bool, true, false, length, arith, inl, inr, refl, sym, ap, ◌∙◌, ℤ, ◌≤ℤ◌}
use Rattle.std.specs.Prelude.{◌≢◌, ◌&&◌, ◌||◌, nat_lt, nat_le, int_le}
use Rattle.std.proofs.lemmas.Bool.{ltb-true, leb-true}
use Rattle.std.proofs.lemmas.Int.{ints}
use Rattle.mo_num.specs.Kinds.{least, greatest}
use Rattle.mo_types.specs.declared.datum.Datum.{Datum}
use Rattle.mo_types.specs.declared.datum.Datum.TheVariants as part
use Rattle.mo_types.specs.declared.node.Node.{Node}
use Rattle.mo_types.specs.declared.node.Node.TheVariants as node
use Rattle.mo_types.specs.declared.node.Sort.{Sort}
use Rattle.mo_types.specs.declared.node.Sort.TheVariants as sort
use Rattle.mo_types.specs.Values.{IsPartOf, IsScalar, is_method_name}
use Rattle.mo_values.specs.Parts.{is_leaf_of, is_scalar, is_principal, is_shared}

both_true : (a b : Bool) → (a && b) ≡ true → (a ≡ true) × (b ≡ true)
both_true true true e = (refl, refl)
both_true true false e = cc
both_true false b e = cc

true_le : (a b : ℤ) → int_le a b ≡ true → a ≤ℤ b
true_le a b e = omega (arith, ints)

scalar_is : (c : ℕ) → is_scalar c ≡ true → IsScalar c
scalar_is c e = by (nat_lt c 55296) refl
  where
    by : (t : Bool) → nat_lt c 55296 ≡ t → IsScalar c
    by true f = inl (ltb-true c 55296 f)
    by false f =
        let b = both_true (nat_le 57344 c) (nat_lt c 1114112) (sym (ap (λ t. t || (nat_le 57344 c && nat_lt c 1114112)) f) ∙ e) in
        inr (leb-true 57344 c b.0, ltb-true c 1114112 b.1)

shared_is : (s : Sort) → is_shared s ≡ true → s ≢ sort.Local
shared_is sort.Local e = cc
shared_is sort.Shared e = λ h. cc
shared_is sort.Query e = λ h. cc

no : false ≡ true → ⊥
no e = cc

pub leaf_is : {A : Type 0} (t : Node A) (p : Datum) → is_leaf_of t p ≡ true → IsPartOf t p
leaf_is (node.Number k) (part.Number n) e =
    let b = both_true (int_le (least k) n) (int_le n (greatest k)) e in (true_le (least k) n b.0, true_le n (greatest k) b.1)
leaf_is node.Bool (part.Flag b) e = tt
leaf_is node.Char (part.Char c) e = scalar_is c e
leaf_is node.Text (part.Text t) e = e
leaf_is node.Blob (part.Blob t) e = tt
leaf_is node.Principal (part.Principal p) e = leb-true (length p) 29 e
leaf_is node.Null part.Null e = tt
leaf_is (node.Opt a) part.Null e = tt
leaf_is (node.Actor fs) (part.Actor p) e = leb-true (length p) 29 e
leaf_is (node.Func s ps rs) (part.Method p name) e =
    let b = both_true (is_shared s && is_principal p) (is_method_name name) e in
    let d = both_true (is_shared s) (is_principal p) b.0 in
    (shared_is s d.0, leb-true (length p) 29 d.1, b.1)
leaf_is _ _ e = absurd (no e)
