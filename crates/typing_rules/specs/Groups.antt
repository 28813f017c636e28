-- Groups of type definitions that use each other (Motoko language manual, section "Type declarations": in a recursive group a type is used at its own
-- parameters only).
use Rattle.std.specs.Prelude.{ℕ, zero, suc, Bool, true, false, ◌&&◌, ◌||◌, not, List, [], ◌∷◌, ◌++◌, length, Option, Some, None, nat_eq}
use Rattle.typing_rules.specs.Terms.{Term, Terms, Fields, Parameter, Use, Nil, Cons, NoFields, WithField, listed}
use Rattle.typing_rules.specs.Terms as t
use Rattle.typing_rules.specs.Definitions.{Definition, definition_at}

-- the uses of names in a type, with their arguments
abbrev mutual
  pub uses_in : Term → List (ℕ × List Term)
  uses_in (t.Optional a) = uses_in a
  uses_in (t.Array a) = uses_in a
  uses_in (t.MutableArray a) = uses_in a
  uses_in (t.Tuple parts) = uses_in_each parts
  uses_in (t.Object fields) = uses_in_fields fields
  uses_in (t.Actor methods) = uses_in_fields methods
  uses_in (t.Variant tags) = uses_in_fields tags
  uses_in (t.Function parameters r) = uses_in_each parameters ++ uses_in r
  uses_in (t.Shared s parameters r) = uses_in_each parameters ++ uses_in r
  uses_in (t.Async a) = uses_in a
  uses_in (Use at arguments) = (at, listed arguments) ∷ uses_in_each arguments
  uses_in _ = []

  pub uses_in_each : Terms → List (ℕ × List Term)
  uses_in_each Nil = []
  uses_in_each (Cons u rest) = uses_in u ++ uses_in_each rest

  pub uses_in_fields : Fields → List (ℕ × List Term)
  uses_in_fields NoFields = []
  uses_in_fields (WithField l mutable u rest) = uses_in u ++ uses_in_fields rest

abbrev pub is_among : ℕ → List ℕ → Bool
is_among n [] = false
is_among n (m ∷ ms) = nat_eq n m || is_among n ms

-- these and those that are not among them yet
abbrev pub joined : List ℕ → List (ℕ × List Term) → List ℕ
joined names [] = names
joined names (u ∷ us) = joined (added u.0 names (is_among u.0 names)) us
  where
    added : ℕ → List ℕ → Bool → List ℕ
    added n ns true = ns
    added n ns false = n ∷ ns

-- these are the parameters, in their order
abbrev pub are_parameters : List ℕ → List Term → Bool
are_parameters [] [] = true
are_parameters (n ∷ ns) (Parameter at ∷ us) = nat_eq at n && are_parameters ns us
are_parameters _ _ = false

module _ (types : List Definition) where
  abbrev pub uses_of : Option Definition → List (ℕ × List Term)
  uses_of None = []
  uses_of (Some d) = uses_in d.right

  -- with the names that the definitions of these use
  abbrev pub used_by : List ℕ → List ℕ → List ℕ
  used_by names [] = names
  used_by names (n ∷ ns) = used_by (joined names (uses_of (definition_at types n))) ns

  -- the names that these lead to within so many definitions
  abbrev pub leads_to : ℕ → List ℕ → List ℕ
  leads_to zero names = names
  leads_to (suc n) names = leads_to n (used_by names names)

  -- the names that the definition's right side uses, and those that they lead to
  abbrev pub group_of : Definition → List ℕ
  group_of d = leads_to (length types) (joined [] (uses_in d.right))

  -- what is used leads back to the name only at the parameters of the definition
  abbrev pub at_own : Definition → List ℕ → List Term → Option Definition → Bool
  at_own d own arguments None = true
  at_own d own arguments (Some e) = not (is_among d.at (group_of e)) || are_parameters own arguments

  abbrev pub each_at_own : Definition → List (ℕ × List Term) → Bool
  each_at_own d [] = true
  each_at_own d (u ∷ us) = at_own d (d.outer ++ d.own) u.1 (definition_at types u.0) && each_at_own d us

  -- In a recursive group a name is used at the parameters, in order, of the definition in which it is used.
  abbrev pub keeps_parameters : Option Definition → Bool
  keeps_parameters None = true
  keeps_parameters (Some d) = each_at_own d (uses_in d.right)
