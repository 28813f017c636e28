-- Small facts of the Candid definitions.
use Rattle.std.proofs.Common.{◌≡◌, ℕ, zero, suc, List, [], ◌∷◌, ◌++◌, Some, None, refl, ap, ◌∙◌, subst, arith, append_assoc}
use Rattle.std.specs.Prelude.{slice_get}
use Rattle.mo_types.specs.declared.datum.Datum.{Datum}
use Rattle.mo_types.specs.Values.{Values, Nil, Value, flat, arity, firsts, after, tree}
use Rattle.mo_types.specs.declared.wire.Plain.TheVariants.{Nat}
use Rattle.mo_types.specs.declared.wire.Wire.{Wire}
use Rattle.mo_types.specs.declared.wire.Ref.{Ref}
use Rattle.mo_types.specs.declared.wire.Ref.TheVariants.{Of}
use Rattle.mo_types.specs.declared.wire.TableRef.TheVariants.{Plainly}
use Rattle.mo_types.specs.Wire.{wire, SameTo}
use Rattle.mo_types.specs.Header.{Visits, Done, Skip, Old, New, IsKnown, table_head}
use Rattle.mo_types.specs.Code.{Reads}
use Rattle.mo_types.specs.Examples.{list_head, message_of_42, forty_two}

split : (n : ℕ) (v : Values) → flat (firsts n v) ++ flat (after n v) ≡ flat v
split zero v = refl
split (suc n) Nil = refl
split (suc n) (Value p inner others) = ap (λ l. p ∷ l) (append_assoc (flat inner) (flat (firsts n others)) (flat (after n others)) ∙ ap (λ l. flat inner ++ l) (split n others))

pub flat_tree : (ps : List Datum) → flat (tree ps) ≡ ps
flat_tree [] = refl
flat_tree (p ∷ ps) = ap (λ l. p ∷ l) (split (arity p) (tree ps) ∙ flat_tree ps)

abbrev pub head : Ref ℕ → Wire (Ref ℕ)
head = wire list_head

mutual
  unfolding SameTo

  pub option_same : (n : ℕ) → SameTo head head n (Of 0) (Of 0)
  option_same zero = tt
  option_same (suc n) = tuple_same n

  pub tuple_same : (n : ℕ) → SameTo head head n (Of 1) (Of 1)
  tuple_same zero = tt
  tuple_same (suc n) = (refl, nat_same n, (refl, option_same n, tt))

  nat_same : (n : ℕ) → SameTo head head n (Of 2) (Of 2)
  nat_same zero = tt
  nat_same (suc n) = refl

not_same : SameTo head head 1 (Of 0) (Of 1) → ⊥
unfolding SameTo
not_same h = h

not_known : IsKnown head (Of 0 ∷ []) (Of 1) → ⊥
not_known k = by k.0 k.1.other k.1.there (k.1.same.to 1) where
  by : (i : ℕ) (o : Ref ℕ) → slice_get (Of 0 ∷ []) i ≡ Some o → SameTo head head 1 o (Of 1) → ⊥
  by zero o e h = let f : Some (Of 0) ≡ Some o = e in let g : o ≡ Of 0 = cc in not_same (subst (λ z. SameTo head head 1 z (Of 1)) g h)
  by (suc i) o e h = let f : None ≡ Some o = e in cc

none_known : (t : Ref ℕ) → IsKnown head [] t → ⊥
none_known t k = let f : None ≡ Some k.1.other = k.1.there in cc

pub list_visited : Visits head [] (Of 0 ∷ []) (Of 0 ∷ Of 1 ∷ [])
list_visited = New (Of 0) (λ h. h) (none_known (Of 0)) (New (Of 1) (λ h. h) not_known (Skip (Of 2) tt (Old (Of 0) (0, record { other = Of 0; there = refl; same = record { to = option_same } }) Done)))

nat_read : (n : ℕ) → SameTo (table_head []) head n (Plainly Nat) (Of 2)
unfolding SameTo
nat_read zero = tt
nat_read (suc n) = refl

pub number_read : Reads list_head (2 ∷ []) message_of_42 forty_two
number_read = record {
  typed = ((omega arith, omega arith), tt, tt);
  table = [];
  args = Plainly Nat ∷ [];
  few = omega arith;
  well_formed = record { sound = tt; within = (tt, tt) };
  same = (record { to = nat_read }, tt);
  spelled = record {
    front = 0x44 ∷ 0x49 ∷ 0x44 ∷ 0x4c ∷ 0x00 ∷ 0x01 ∷ 0x7d ∷ [];
    back = 0x2a ∷ [];
    whole = refl;
    first = record {
      front = 0x44 ∷ 0x49 ∷ 0x44 ∷ 0x4c ∷ [];
      back = 0x00 ∷ 0x01 ∷ 0x7d ∷ [];
      whole = refl;
      first = refl;
      second = record {
        front = 0x00 ∷ [];
        back = 0x01 ∷ 0x7d ∷ [];
        whole = refl;
        first = record { front = 0x00 ∷ []; back = []; whole = refl; first = ((omega arith, refl), omega arith, omega arith); second = refl };
        second = record {
          front = 0x01 ∷ [];
          back = 0x7d ∷ [];
          whole = refl;
          first = ((omega arith, refl), omega arith, omega arith);
          second = record { front = 0x7d ∷ []; back = []; whole = refl; first = refl; second = refl };
        };
      };
    };
    second = record {
      front = 0x2a ∷ [];
      back = [];
      whole = refl;
      first = (omega arith, ((omega arith, refl), omega arith, omega arith));
      second = record { front = []; back = []; whole = refl; first = refl; second = refl };
    };
  };
}
