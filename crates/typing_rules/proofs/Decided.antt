-- Answers to what rules ask, computed: by closed lists where they are yes, and at some depth where they are no.
use Rattle.std.proofs.Common.{◌≡◌, ℕ, zero, suc, Bool, true, false, not, ◌&&◌, List, [], ◌∷◌, Option, Some, None, refl, ap, ◌∙◌}
use Rattle.mo_types.specs.declared.node.Node.{Node}
use Rattle.mo_types.specs.declared.node.Node.TheVariants as node
use Rattle.mo_types.specs.declared.node.Sort.TheVariants as sort
use Rattle.mo_types.specs.Heads.{is_any}
use Rattle.mo_types.specs.Sub.{AtSome, Each, Sub, IsSubtype}
use Rattle.mo_subtype.specs.declared.pairs.Pair.{Pair}
use Rattle.mo_subtype.specs.Questions.{pair, asked}
use Rattle.mo_subtype.proofs.Questions.{Holds}
use Rattle.mo_subtype.proofs.Rounds.{sub_from, sub_zero}
use Rattle.subtype_laws.specs.Decided.{some_holds, all_hold, is_below}
use Rattle.subtype_laws.specs.Reached.{Among}
use Rattle.subtype_laws.proofs.Decided.{decides}
use Rattle.typed_tree.specs.Instances.{types_in}
use Rattle.typed_tree.specs.Shareable.{HasShareableForm, PartsShareable, Shares, IsShareable, Compares, IsComparable}
use Rattle.typing_rules.proofs.Closures.{both_true, one_holds, has, has_is, collected}

contradicts : (b : Bool) → b ≡ false → b ≡ true → ⊥
contradicts true f t = cc
contradicts false f t = cc

each_to : {X : Type 0} (p : X → Bool) (P : X → Type 0) → ((x : X) → p x ≡ true → P x) → (xs : List X) → all_hold p xs ≡ true → Each P xs
each_to p P f [] h = tt
each_to p P f (x ∷ xs) h = let k = both_true (p x) (all_hold p xs) h in (f x k.0, each_to p P f xs k.1)

both_are : (b c : Bool) → b ≡ true → c ≡ true → b && c ≡ true
both_are true c e f = f
both_are false c e f = cc

each_from : {X : Type 0} (p : X → Bool) (P : X → Type 0) → ((x : X) → P x → p x ≡ true) → (xs : List X) → Each P xs → all_hold p xs ≡ true
each_from p P f [] h = refl
each_from p P f (x ∷ xs) h = both_are (p x) (all_hold p xs) (f x h.0) (each_from p P f xs h.1)

some_to : {X : Type 0} (o : Option X) (p : X → Bool) (P : X → Type 0) → ((x : X) → p x ≡ true → P x) → some_holds o p ≡ true → AtSome o P
some_to None p P f h = cc
some_to (Some x) p P f h = f x h

-- ---- subtypes

module _ {A : Type 0} (same : A → A → Bool) where
  abbrev pub same_pair : Pair A → Pair A → Bool
  same_pair p q = same p.low q.low && same p.high q.high

  module _ (is : (a b : A) → same a b ≡ true → a ≡ b) where
    pair_is : (p q : Pair A) → same_pair p q ≡ true → p ≡ q
    pair_is p q h =
        let k = both_true (same p.low q.low) (same p.high q.high) h in
        ap (λ z. pair z p.high) (is p.low q.low k.0) ∙ ap (λ z. pair q.low z) (is p.high q.high k.1)

  module _ (head : A → Node A) where
    abbrev pub questions_of : Option (List (Pair A)) → List (Pair A)
    questions_of None = []
    questions_of (Some qs) = qs

    -- of each pair the rule of its heads asks nothing but pairs of the list
    abbrev pub asks_within : List (Pair A) → List (Pair A) → Bool
    asks_within all qs = all_hold (λ q. some_holds (asked head q) (λ rs. all_hold (λ r. has same_pair r all) rs)) qs

    abbrev pub below_by : List (Pair A) → Pair A → Bool
    below_by all q = asks_within all all && has same_pair q all

    abbrev pub surely_below : ℕ → A → A → Bool
    surely_below n t u = below_by (collected same_pair (λ q. questions_of (asked head q)) n [] (pair t u ∷ [])) (pair t u)

    module _ (is : (a b : A) → same a b ≡ true → a ≡ b) where
      all_below : (all : List (Pair A)) → asks_within all all ≡ true → (m : ℕ) (q : Pair A) → Among q all → Sub head m q.low q.high
      all_below all h zero q a = sub_zero head q.low q.high
      all_below all h (suc m) q a =
          sub_from head m q (some_to (asked head q) (λ rs. all_hold (λ r. has same_pair r all) rs) (Each (Holds (Sub head m)))
          (λ rs k. each_to (λ r. has same_pair r all) (Holds (Sub head m)) (λ r e. all_below all h m r (has_is same_pair (pair_is is) r all e)) rs k)
          (one_holds (λ p. some_holds (asked head p) (λ rs. all_hold (λ r. has same_pair r all) rs)) all h q a))

      below_of : (all : List (Pair A)) (q : Pair A) → below_by all q ≡ true → IsSubtype head q.low q.high
      below_of all q h =
          let k = both_true (asks_within all all) (has same_pair q all) h in
          record { by = λ m. all_below all k.0 m q (has_is same_pair (pair_is is) q all k.1) }

      pub is_subtype : (n : ℕ) (t u : A) → surely_below n t u ≡ true → IsSubtype head t u
      is_subtype n t u h = below_of (collected same_pair (λ q. questions_of (asked head q)) n [] (pair t u ∷ [])) (pair t u) h

pub is_no_subtype : {A : Type 0} (head : A → Node A) (n : ℕ) (t u : A) → is_below head n t u ≡ false → IsSubtype head t u → ⊥
is_no_subtype head n t u h k = contradicts (is_below head n t u) h ((decides head n t u).1 (k.by n))

-- ---- shareable types

not_to : (b : Bool) → not b ≡ true → b ≡ false
not_to true h = cc
not_to false h = refl

not_from : (b : Bool) → b ≡ false → not b ≡ true
not_from true h = cc
not_from false h = refl

module _ {A : Type 0} where
  abbrev pub has_form : Node A → Bool
  has_form node.Error = false
  has_form (node.MutArray a) = false
  has_form (node.Object fs) = all_hold (λ f. not f.mutable) fs
  has_form (node.Func sort.Local ps rs) = false
  has_form (node.Func s ps rs) = true
  has_form (node.Async a) = false
  has_form (node.Variable v b) = false
  has_form _ = true

  abbrev pub shared_parts : Node A → List A
  shared_parts (node.Actor fs) = []
  shared_parts (node.Func s ps rs) = []
  shared_parts x = types_in x

  form_to : (x : Node A) → has_form x ≡ true → HasShareableForm x
  form_to node.Error h = cc
  form_to (node.MutArray a) h = cc
  form_to (node.Object fs) h = each_to (λ f. not f.mutable) (λ f. f.mutable ≡ false) (λ f. not_to f.mutable) fs h
  form_to (node.Func sort.Local ps rs) h = cc
  form_to (node.Func sort.Shared ps rs) h = λ e. cc
  form_to (node.Func sort.Query ps rs) h = λ e. cc
  form_to (node.Async a) h = cc
  form_to (node.Variable v b) h = cc
  form_to _ h = tt

  form_from : (x : Node A) → HasShareableForm x → has_form x ≡ true
  form_from node.Error h = absurd h
  form_from (node.MutArray a) h = absurd h
  form_from (node.Object fs) h = each_from (λ f. not f.mutable) (λ f. f.mutable ≡ false) (λ f. not_from f.mutable) fs h
  form_from (node.Func sort.Local ps rs) h = absurd (h refl)
  form_from (node.Func sort.Shared ps rs) h = refl
  form_from (node.Func sort.Query ps rs) h = refl
  form_from (node.Async a) h = absurd h
  form_from (node.Variable v b) h = absurd h
  form_from _ h = refl

  parts_to : (p : A → Bool) (R : A → Type 0) → ((t : A) → p t ≡ true → R t) → (x : Node A) → all_hold p (shared_parts x) ≡ true → PartsShareable R x
  parts_to p R f (node.Actor fs) h = tt
  parts_to p R f (node.Func s ps rs) h = tt
  parts_to p R f x h = each_to p R f (types_in x) h

  parts_from : (p : A → Bool) (R : A → Type 0) → ((t : A) → R t → p t ≡ true) → (x : Node A) → PartsShareable R x → all_hold p (shared_parts x) ≡ true
  parts_from p R f (node.Actor fs) h = refl
  parts_from p R f (node.Func s ps rs) h = refl
  parts_from p R f x h = each_from p R f (types_in x) h

module _ {A : Type 0} (head : A → Node A) where
  -- to a depth, below which all types are shareable
  abbrev pub shares : ℕ → A → Bool
  shares zero t = true
  shares (suc n) t = has_form (head t) && all_hold (shares n) (shared_parts (head t))

  shares_from : (n : ℕ) (t : A) → Shares head n t → shares n t ≡ true
  unfolding Shares
  shares_from zero t h = refl
  shares_from (suc n) t h = both_are _ _ (form_from (head t) h.0) (parts_from (shares n) (Shares head n) (λ u. shares_from n u) (head t) h.1)

  pub is_not_shareable : (n : ℕ) (t : A) → shares n t ≡ false → IsShareable head t → ⊥
  is_not_shareable n t h k = contradicts (shares n t) h (shares_from n t (k.by n))

  abbrev pub compares : ℕ → A → Bool
  compares zero t = true
  compares (suc n) t = has_form (head t) && (not (is_any (head t)) && all_hold (compares n) (shared_parts (head t)))

  compares_from : (n : ℕ) (t : A) → Compares head n t → compares n t ≡ true
  unfolding Compares
  compares_from zero t h = refl
  compares_from (suc n) t h =
      both_are _ _ (form_from (head t) h.0) (both_are _ _ (not_from (is_any (head t)) h.1) (parts_from (compares n) (Compares head n) (λ u. compares_from n u) (head t) h.2))

  pub is_not_comparable : (n : ℕ) (t : A) → compares n t ≡ false → IsComparable head t → ⊥
  is_not_comparable n t h k = contradicts (compares n t) h (compares_from n t (k.by n))

  -- ---- lists of types whose parts are in the list

  module _ (same : A → A → Bool) where
    abbrev pub all_share : List A → List A → Bool
    all_share all ts = all_hold (λ t. has_form (head t) && all_hold (λ u. has same u all) (shared_parts (head t))) ts

    abbrev pub shared_by : List A → A → Bool
    shared_by all t = all_share all all && has same t all

    abbrev pub surely_shareable : ℕ → A → Bool
    surely_shareable n t = shared_by (collected same (λ u. shared_parts (head u)) n [] (t ∷ [])) t

    abbrev pub all_compare : List A → List A → Bool
    all_compare all ts = all_hold (λ t. has_form (head t) && (not (is_any (head t)) && all_hold (λ u. has same u all) (shared_parts (head t)))) ts

    abbrev pub compared_by : List A → A → Bool
    compared_by all t = all_compare all all && has same t all

    abbrev pub surely_comparable : ℕ → A → Bool
    surely_comparable n t = compared_by (collected same (λ u. shared_parts (head u)) n [] (t ∷ [])) t

    module _ (is : (a b : A) → same a b ≡ true → a ≡ b) where
      each_shares : (all : List A) → all_share all all ≡ true → (m : ℕ) (t : A) → Among t all → Shares head m t
      unfolding Shares
      each_shares all h zero t a = tt
      each_shares all h (suc m) t a =
          let k = both_true (has_form (head t)) (all_hold (λ u. has same u all) (shared_parts (head t)))
          (one_holds (λ v. has_form (head v) && all_hold (λ u. has same u all) (shared_parts (head v))) all h t a) in
          (form_to (head t) k.0, parts_to (λ u. has same u all) (Shares head m) (λ u e. each_shares all h m u (has_is same is u all e)) (head t) k.1)

      shared_of : (all : List A) (t : A) → shared_by all t ≡ true → IsShareable head t
      shared_of all t h =
          let k = both_true (all_share all all) (has same t all) h in
          record { by = λ m. each_shares all k.0 m t (has_is same is t all k.1) }

      pub is_shareable : (n : ℕ) (t : A) → surely_shareable n t ≡ true → IsShareable head t
      is_shareable n t h = shared_of (collected same (λ u. shared_parts (head u)) n [] (t ∷ [])) t h

      each_compares : (all : List A) → all_compare all all ≡ true → (m : ℕ) (t : A) → Among t all → Compares head m t
      unfolding Compares
      each_compares all h zero t a = tt
      each_compares all h (suc m) t a =
          let k = both_true (has_form (head t)) (not (is_any (head t)) && all_hold (λ u. has same u all) (shared_parts (head t)))
          (one_holds (λ v. has_form (head v) && (not (is_any (head v)) && all_hold (λ u. has same u all) (shared_parts (head v)))) all h t a) in
          let l = both_true (not (is_any (head t))) (all_hold (λ u. has same u all) (shared_parts (head t))) k.1 in
          (form_to (head t) k.0, not_to (is_any (head t)) l.0, parts_to (λ u. has same u all) (Compares head m) (λ u e. each_compares all h m u (has_is same is u all e)) (head t) l.1)

      compared_of : (all : List A) (t : A) → compared_by all t ≡ true → IsComparable head t
      compared_of all t h =
          let k = both_true (all_compare all all) (has same t all) h in
          record { by = λ m. each_compares all k.0 m t (has_is same is t all k.1) }

      pub is_comparable : (n : ℕ) (t : A) → surely_comparable n t ≡ true → IsComparable head t
      is_comparable n t h = compared_of (collected same (λ u. shared_parts (head u)) n [] (t ∷ [])) t h
