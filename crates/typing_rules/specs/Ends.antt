-- How rules end: what is given has a type, which is below the one that is wanted (Motoko language manual, section "Subtyping").
use Rattle.std.specs.Prelude.{ℕ, List, [], ◌∷◌, Option, Some, None, map}
use Rattle.mo_types.specs.declared.node.Node.{Node}
use Rattle.typing_rules.specs.declared.condition.Condition.{Condition}
use Rattle.typing_rules.specs.declared.condition.Condition.TheVariants as condition
use Rattle.typing_rules.specs.AbstractSyntax.{Form}
use Rattle.typing_rules.specs.Terms.{Term, unit}
use Rattle.typing_rules.specs.Terms as t
use Rattle.typing_rules.specs.Definitions.{Definitions}
use Rattle.typing_rules.specs.Heads.{head}
use Rattle.typing_rules.specs.Judgements.{Judgement, Gives, Fails, Meets, Part, Needs, AsksAll, If, IsBelow}
use Rattle.typing_rules.specs.TypedTrees.{Note, Typed, typed}

-- it gives the type, which is below the one that is wanted
abbrev pub BelowWanted : ℕ → Option Term → Term → Typed → Judgement Typed
BelowWanted at None u a = Gives a
BelowWanted at (Some v) u a = Needs condition.Mismatch at (IsBelow u v) (Gives a)

abbrev pub Has : ℕ → Option Term → Term → Form Note → Judgement Typed
Has at w u f = Meets u (BelowWanted at w u (typed at u f))

-- a jump, whose label or result takes ()
abbrev pub Leaves : ℕ → Option Term → Term → Form Note → Judgement Typed
Leaves at w u f = Meets unit (Needs condition.Mismatch at (IsBelow unit u) (Has at w t.Bottom f))

-- the first of the types that all others are below
abbrev pub FirstAbove : Condition → ℕ → List Term → List Term → Judgement Term
FirstAbove c at all [] = Fails c at
FirstAbove c at all (u ∷ us) = AsksAll (map (λ v. IsBelow v u) all) (λ yes. If yes (λ _. Gives u) (λ _. FirstAbove c at all us))

-- the greatest of several types; the condition is that there is one
abbrev pub Greatest : Condition → ℕ → List Term → Judgement Term
Greatest c at us = FirstAbove c at us us

-- Branches give the greatest of their types, and fit where all fit.
abbrev pub Branches : ℕ → Option Term → List Term → Form Note → Judgement Typed
Branches at (Some u) us f = Gives (typed at u f)
Branches at None us f = Part (Greatest condition.Branches at us) (λ u. Has at None u f)

module _ (defs : Definitions) where
  abbrev pub with_type : {X : Type 0} → Term → Option X → Option (Term × X)
  with_type u None = None
  with_type u (Some x) = Some (u, x)

  -- the type that is wanted, where it has what `of` finds
  abbrev pub wanted : {X : Type 0} → (Node Term → Option X) → Option Term → Option (Term × X)
  wanted of None = None
  wanted of (Some u) = with_type u (of (head defs u))
