-- Few types are met, where a list of them is closed and within the limits.
use Rattle.std.proofs.Common.{◌≡◌, ℕ, Bool, true, ◌&&◌, List, [], length, leb}
use Rattle.std.proofs.lemmas.Bool.{leb-true}
use Rattle.subtype_laws.specs.Decided.{all_hold}
use Rattle.subtype_laws.specs.Reached.{Among}
use Rattle.typed_tree.specs.Instances.{types_in}
use Rattle.typing_rules.specs.Terms.{Term}
use Rattle.typing_rules.specs.Definitions.{Definitions}
use Rattle.typing_rules.specs.Heads.{head}
use Rattle.typing_rules.specs.Counts.{Reached, Met, Part, FewTypes, sizes}
use Rattle.typing_rules.specs.SameTerms.{same}
use Rattle.typing_rules.proofs.Closures.{both_true, one_holds, has, has_is, collected}
use Rattle.typing_rules.proofs.Counting.{few}
use Rattle.typing_rules.proofs.SameTerms.{same_is}

module _ (defs : Definitions) where
  abbrev pub parts : Term → List Term
  parts t = types_in (head defs t)

  -- the parts of each of the list are in the list
  abbrev pub is_closed : List Term → List Term → Bool
  is_closed all ts = all_hold (λ t. all_hold (λ u. has same u all) (parts t)) ts

  module _ (all met : List Term) (closed : is_closed all all ≡ true) (there : all_hold (λ t. has same t all) met ≡ true) where
    reached_is : (u : Term) → Reached defs met u → Among u all
    reached_is u (Met t m) = has_is same same_is t all (one_holds (λ v. has same v all) met there t m)
    reached_is u (Part t v r m) =
        has_is same same_is v all (one_holds (λ w. has same w all) (parts t) (one_holds (λ w. all_hold (λ z. has same z all) (parts w)) all closed t (reached_is t r)) v m)

  abbrev pub are_few : List Term → List Term → Bool
  are_few all met = is_closed all all && (all_hold (λ t. has same t all) met && (leb (length all) 4096 && leb (sizes defs all) 65536))

  abbrev pub is_few : ℕ → List Term → Bool
  is_few n met = are_few (collected same parts n [] met) met

  few_of : (all met : List Term) → are_few all met ≡ true → FewTypes defs met
  few_of all met h =
      let a = both_true (is_closed all all) _ h in
      let b = both_true (all_hold (λ t. has same t all) met) _ a.1 in
      let c = both_true (leb (length all) 4096) (leb (sizes defs all) 65536) b.1 in
      few defs met all (reached_is all met a.0 b.0) (leb-true (length all) 4096 c.0) (leb-true (sizes defs all) 65536 c.1)

  pub few_are : (n : ℕ) (met : List Term) → is_few n met ≡ true → FewTypes defs met
  few_are n met h = few_of (collected same parts n [] met) met h
