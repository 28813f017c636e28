-- A type that has too many others in it is refused.
use Rattle.std.proofs.Common.{◌≡◌, ◌≢◌, inl, inr, ℕ, zero, suc, ◌<◌, ◌≤◌, List, [], ◌∷◌, length, Err, refl, ap, sym, ◌∙◌, arith}
use Rattle.mo_types.specs.Sub.{Each}
use Rattle.mo_types.specs.Layout as layout
use Rattle.typed_tree.specs.OperationTypes.{Distinct}
use Rattle.typing_rules.specs.declared.condition.Condition.TheVariants as condition
use Rattle.typing_rules.specs.Terms.{Term, Boolean, Optional, nat, unit}
use Rattle.typing_rules.specs.Definitions.{Definitions}
use Rattle.typing_rules.specs.Heads.{head}
use Rattle.typing_rules.specs.Counts.{Reached, Met, Part, FewTypes}
use Rattle.typing_rules.specs.Answers.{fault}
use Rattle.typing_rules.specs.Gathered.{gathered}
use Rattle.typing_rules.specs.LimitRows.{with_options}
use Rattle.typing_rules.specs.Programs.{Checks}
use Rattle.typing_rules.proofs.Closed.{few_are}

abbrev option : ℕ → Term
option zero = nat
option (suc n) = Optional (option n)

abbrev options_in : ℕ → List Term
options_in zero = nat ∷ []
options_in (suc n) = option (suc n) ∷ options_in n

abbrev depth : Term → ℕ
depth (Optional a) = suc (depth a)
depth _ = 0

depth_is : (n : ℕ) → depth (option n) ≡ n
depth_is zero = refl
depth_is (suc n) = ap suc (depth_is n)

differ : (m n : ℕ) → n < m → option m ≢ option n
differ m n l e = let h : m ≡ n = sym (depth_is m) ∙ (ap depth e ∙ depth_is n) in omega arith

all_differ : (m n : ℕ) → n < m → Each (λ u. option m ≢ u) (options_in n)
all_differ m zero l = (differ m zero l, tt)
all_differ m (suc n) l = (differ m (suc n) l, all_differ m n (omega arith))

distinct : (n : ℕ) → Distinct (options_in n)
distinct zero = (tt, tt)
distinct (suc n) = (all_differ (suc n) n (omega arith), distinct n)

lengths : (n : ℕ) → length (options_in n) ≡ suc n
lengths zero = refl
lengths (suc n) = ap suc (lengths n)

module _ (defs : Definitions) (met : List Term) where
  inside : (n : ℕ) → Reached defs met (option (suc n)) → Reached defs met (option n)
  unfolding head
  inside n r = Part (option (suc n)) (option n) r (inl refl)

  all_reached : (n : ℕ) → Reached defs met (option n) → Each (Reached defs met) (options_in n)
  all_reached zero r = (r, tt)
  all_reached (suc n) r = (r, all_reached n (inside n r))

abbrev met_in : ℕ → List Term
met_in n = unit ∷ Boolean ∷ nat ∷ option n ∷ []

not_few : (defs : Definitions) (n : ℕ) → 4096 ≤ n → FewTypes defs (met_in n) → ⊥
not_few defs n l f =
    let h : length (options_in n) ≤ 4096 = (f (options_in n) (distinct n) (all_reached defs (met_in n) n (Met (option n) (inr (inr (inr (inl refl))))))).0 in
    let e : length (options_in n) ≡ suc n = lengths n in
    omega arith

few_unit : (defs : Definitions) → FewTypes defs (unit ∷ [])
unfolding head layout.layout
few_unit defs = few_are defs 2 (unit ∷ []) refl

few_flag : (defs : Definitions) → FewTypes defs (unit ∷ Boolean ∷ [])
unfolding head layout.layout
few_flag defs = few_are defs 4 (unit ∷ Boolean ∷ []) refl

few_basics : (defs : Definitions) → FewTypes defs (unit ∷ Boolean ∷ nat ∷ [])
unfolding head layout.layout
few_basics defs = few_are defs 6 (unit ∷ Boolean ∷ nat ∷ []) refl

pub many_options : Checks (with_options 4096) (Err (fault condition.TooManyTypes 0))
many_options = record {
  met = met_in 4096;
  by =
      let defs = gathered (with_options 4096) in
      inl (few_unit defs, inl (few_flag defs, inl (few_basics defs, inr (not_few defs 4096 (omega arith), refl))));
}
