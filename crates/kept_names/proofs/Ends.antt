-- How rules end, whatever the type is that is given.
use Rattle.std.proofs.Common.{ℕ, ℤ, pos, List, [], ◌∷◌, Option, Some, None}
use Rattle.mo_num.specs.declared.kind.Kind.{Kind}
use Rattle.mo_num.specs.declared.kind.Kind.TheVariants as kind
use Rattle.mo_types.specs.Heads.{number_of}
use Rattle.mo_values.specs.Parts.{is_in_range}
use Rattle.std.specs.Str.{is_utf8}
use Rattle.typing_rules.specs.declared.condition.Condition.{Condition}
use Rattle.typing_rules.specs.declared.condition.Condition.TheVariants as condition
use Rattle.typing_rules.specs.AbstractSyntax.{Literal, Form}
use Rattle.typing_rules.specs.AbstractSyntax as p
use Rattle.typing_rules.specs.Definitions.{Definitions}
use Rattle.typing_rules.specs.Ends.{wanted, Has, Leaves, Greatest, Branches}
use Rattle.typing_rules.specs.Judgements.{Judgement, Question, NeedsEach}
use Rattle.typing_rules.specs.Literals.{Number, Constant, blob_of}
use Rattle.typing_rules.specs.Terms.{Term}
use Rattle.typing_rules.specs.Terms as t
use Rattle.typing_rules.specs.TypedTrees.{Note, Typed, typed}
use Rattle.desugaring_laws.specs.Yields.{Yields}
use Rattle.desugaring_laws.proofs.Yielding.{anything, tests, by_case, part as after}

module _ (defs : Definitions) (terms : List Term) where
  pub needs_each : {A : Type 0} (P : A → Type 0) (c : Condition) (at : ℕ) (qs : List Question) (j : Judgement A) → Yields defs terms j P → Yields defs terms (NeedsEach c at qs j) P
  needs_each P c at [] j y = y
  needs_each P c at (q ∷ qs) j y = (λ h. needs_each P c at qs j y, λ no. tt)

  module _ (P : Typed → Type 0) (at : ℕ) where
    pub has : (w : Option Term) (u : Term) (f : Form Note) → P (typed at u f) → Yields defs terms (Has at w u f) P
    has None u f h = λ m. h
    has (Some v) u f h = λ m. (λ below. h, λ no. tt)

    pub leaves : (w : Option Term) (u : Term) (f : Form Note) → P (typed at t.Bottom f) → Yields defs terms (Leaves at w u f) P
    leaves w u f h = λ m. (λ below. has w t.Bottom f h, λ no. tt)

    pub branches : (w : Option Term) (us : List Term) (f : Form Note) → ((u : Term) → P (typed at u f)) → Yields defs terms (Branches at w us f) P
    branches (Some u) us f h = h u
    branches None us f h = after defs terms (Greatest condition.Branches at us) _ (λ u. Unit {0}) P (anything defs terms (Greatest condition.Branches at us)) (λ u z. has None u f (h u))

    pub number : (w : Option Term) (k : Kind) (n : ℤ) (f : Form Note) → ((u : Term) → P (typed at u f)) → Yields defs terms (Number defs at w k n f) P
    number w k n f h =
        by_case defs terms (wanted defs number_of w) _ _ P (λ q e. tests defs terms _ _ (is_in_range q.1 n) _ P (λ i. h q.0)) (λ e. tests defs terms _ _ (is_in_range k n) _ P (λ i. has w (t.Number k) f (h (t.Number k))))

    pub constant : (w : Option Term) (l : Literal) → ((u : Term) → P (typed at u (p.Constant l))) → Yields defs terms (Constant defs at w l) P
    constant w (p.Number n) h = number w kind.Nat (pos n) (p.Constant (p.Number n)) h
    constant w (p.Character c) h = has w t.Character (p.Constant (p.Character c)) (h t.Character)
    constant w (p.Text x) h =
        by_case defs terms (wanted defs blob_of w) _ _ P (λ q e. h q.0) (λ e. tests defs terms _ _ (is_utf8 x) _ P (λ i. has w t.Text (p.Constant (p.Text x)) (h t.Text)))
    constant w p.True h = has w t.Boolean (p.Constant p.True) (h t.Boolean)
    constant w p.False h = has w t.Boolean (p.Constant p.False) (h t.Boolean)
    constant w p.Null h = has w t.Null (p.Constant p.Null) (h t.Null)
