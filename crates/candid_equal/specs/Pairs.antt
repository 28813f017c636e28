-- Pairs of types, and how they are compared and hashed.
use Rattle.std.proofs.Common.{◌≡◌, ℕ, Bool, true, false, ◌&&◌, List, ◌++◌, Some, refl, sym, ap, ◌∙◌, arith}
use Rattle.std.specs.Prelude.{nat_eq}
use Rattle.std.specs.Bool.{Decides}
use Rattle.std.specs.Hash as fed
use Rattle.std.proofs.lemmas.Bool.{eqb-true, eq-eqb}
use Rattle.mo_types.specs.declared.wire.Plain.{Plain}
use Rattle.mo_types.specs.declared.wire.TableRef.{TableRef}
use Rattle.mo_types.specs.declared.wire.TableRef.TheVariants.{Plainly, At}
use Rattle.mo_types.specs.Wire.{plain_code, plain_of_code}
use Rattle.candid_header.proofs.Refs.{of_code, code_range}
use Rattle.candid_equal.specs.declared.pair.Pair.{Pair}
use Rattle.candid_equal.specs.Refs.{ref_number}

abbrev pub pair : TableRef → ℕ → Pair
pair r n = record { wire = r; declared = n }

abbrev pub same_pair : Pair → Pair → Bool
same_pair p q = nat_eq (ref_number p.wire) (ref_number q.wire) && nat_eq p.declared q.declared

abbrev pub fed_pair : Pair → List (List ℕ)
fed_pair p = fed.u64 (ref_number p.wire) ++ fed.usize p.declared

some_is : {x y : Plain} → Some x ≡ Some y → x ≡ y
some_is e = cc

-- A code is that of one type.
pub code_once : (p q : Plain) → plain_code p ≡ plain_code q → p ≡ q
code_once p q e = some_is (sym (of_code p) ∙ ap plain_of_code e ∙ of_code q)

ref_once : (r s : TableRef) → ref_number r ≡ ref_number s → r ≡ s
ref_once (Plainly p) (Plainly q) e = ap (λ x. Plainly x) (code_once p q e)
ref_once (At i) (At j) e = let h : i ≡ j = omega (arith, e) in ap (λ x. At x) h
ref_once (Plainly p) (At j) e = let h = code_range p in absurd (omega (arith, h.1, e))
ref_once (At i) (Plainly q) e = let h = code_range q in absurd (omega (arith, h.1, e))

both_true : (a b : Bool) → (a && b) ≡ true → (a ≡ true) × (b ≡ true)
both_true true true e = (refl, refl)
both_true true false e = cc
both_true false b e = cc

true_both : (a b : Bool) → a ≡ true → b ≡ true → (a && b) ≡ true
true_both true b e f = f
true_both false b e f = cc

pub pair_decides : (p q : Pair) → Decides (same_pair p q) (p ≡ q)
pair_decides p q = (to, from) where
  to : same_pair p q ≡ true → p ≡ q
  to h =
      let b = both_true (nat_eq (ref_number p.wire) (ref_number q.wire)) (nat_eq p.declared q.declared) h in
      let x = ref_once p.wire q.wire (eqb-true _ _ b.0) in
      let y = eqb-true p.declared q.declared b.1 in
      ap (λ r. pair r p.declared) x ∙ ap (λ n. pair q.wire n) y

  from : p ≡ q → same_pair p q ≡ true
  from e = true_both (nat_eq (ref_number p.wire) (ref_number q.wire)) (nat_eq p.declared q.declared) (eq-eqb _ _ (ap (λ (z : Pair). ref_number z.wire) e)) (eq-eqb _ _ (ap (λ (z : Pair). z.declared) e))
