-- What an answer on subtyping rests on.
use Rattle.std.specs.Prelude.{◌≡◌, ℕ, suc, ◌<◌, Bool, true, false, List, ◌++◌, length, Option, Some, None, slice_get}
use Rattle.mo_types.specs.declared.node.Node.{Node}
use Rattle.mo_types.specs.declared.node.Node.TheVariants as node
use Rattle.mo_types.specs.declared.node.TypeId.{TypeId}
use Rattle.mo_types.specs.Graph.{Slot, head_at}
use Rattle.mo_types.specs.Sub.{AtSome, Each, Sub, IsSubtype}
use Rattle.mo_subtype.specs.declared.pairs.Pair.{Pair}
use Rattle.mo_subtype.specs.declared.search.Verdict.{Verdict}
use Rattle.mo_subtype.specs.declared.search.Verdict.TheVariants as verdict
use Rattle.mo_subtype.specs.Questions.{pair, asked}

abbrev pub bottom_node : Node TypeId
bottom_node = node.Bottom

abbrev pub In : {A : Type 0} → List A → A → Type 0
In xs x = (i : ℕ) × (slice_get xs i ≡ Some x)

module _ {A : Type 0} (head : A → Node A) where
  -- the rules ask nothing of a pair of the list but pairs of the list
  pub record Closed (ps : List (Pair A)) : Type 0 where
    pub each : (q : Pair A) → In ps q → AtSome (asked head q) (Each (In ps))

  -- a closed list that holds the question
  pub record Proves (low high : A) (ps : List (Pair A)) : Type 0 where
    pub closed : Closed ps
    pub holds : In ps (pair low high)

  -- n is the least depth at which it fails
  pub record Fails (low high : A) (n : ℕ) : Type 0 where
    pub at : Sub head n low high → ⊥
    pub less : (m : ℕ) → m < n → Sub head m low high

-- Yes with a closed list, so that the types are subtypes at every depth; No with the least depth at which they are not
abbrev pub Certified : List Slot → TypeId → TypeId → Verdict → Type 0
Certified types low high (verdict.Yes ps) = Proves (head_at types) low high ps × IsSubtype (head_at types) low high
Certified types low high (verdict.No n) = Fails (head_at types) low high n

-- whether there are questions, and then they stand at the end of the list
abbrev pub Adds : {A : Type 0} → Option (List (Pair A)) → Bool → List (Pair A) → List (Pair A) → Type 0
Adds None false old new = Unit {0}
Adds (Some qs) true old new = new ≡ old ++ qs
Adds _ _ old new = ⊥

module _ {A : Type 0} where
  -- the pairs at places below i lead into the list
  abbrev pub Led : (A → Node A) → List (Pair A) → ℕ → Type 0
  Led head ps i = (k : ℕ) (q : Pair A) → k < i → slice_get ps k ≡ Some q → AtSome (asked head q) (Each (In ps))

  -- pairs that were added at the end
  abbrev pub Grew : List (Pair A) → List (Pair A) → Type 0
  Grew old new = (more : List (Pair A)) × (new ≡ old ++ more)

  -- each pair of the list holds to depth n
  abbrev pub AllBelow : (A → Node A) → ℕ → List (Pair A) → Type 0
  AllBelow head n ps = Each (λ q. Sub head n q.low q.high) ps

  -- what the questions of one pair make of the list
  abbrev pub Asked : Option (List (Pair A)) → Bool → List (Pair A) → List (Pair A) → Type 0
  Asked None false old new = Unit {0}
  Asked (Some qs) true old new = Each (In new) qs × ((more : List (Pair A)) × (new ≡ old ++ more) × Each (In qs) more)
  Asked _ _ old new = ⊥

  -- what a round makes of a list: some pair of it is ruled out, or all its pairs lead into the new list, which holds one level less deep
  abbrev pub Turned : (A → Node A) → Bool → List (Pair A) → List (Pair A) → Type 0
  Turned head false old new = (q : Pair A) × In old q × (asked head q ≡ None)
  Turned head true old new = Grew old new × Led head new (length old) × ((n : ℕ) → AllBelow head (suc n) old → AllBelow head n new)
