-- The rules of literals, operators and calls, and how rules end, fail at the number that they are given.
use Rattle.std.proofs.Common.{◌<◌, ℕ, ℤ, pos, Bool, true, false, List, [], ◌∷◌, length, map, Option, Some, None}
use Rattle.std.specs.Prelude.{is_some, nat_eq}
use Rattle.std.specs.Str.{is_utf8}
use Rattle.mo_num.specs.declared.kind.Kind.{Kind}
use Rattle.mo_num.specs.declared.kind.Kind.TheVariants as kind
use Rattle.mo_syntax.specs.Parts.{Each}
use Rattle.mo_syntax.specs.declared.operators.BinaryOperator.{BinaryOperator}
use Rattle.mo_types.specs.Heads.{number_of, async_of}
use Rattle.mo_values.specs.Parts.{is_in_range}
use Rattle.typing_rules.specs.declared.condition.Condition.{Condition}
use Rattle.typing_rules.specs.AbstractSyntax.{Literal, TypeNode, Form, Declarations}
use Rattle.typing_rules.specs.AbstractSyntax as p
use Rattle.typing_rules.specs.AsyncPlaces.{Body, calls, FuturePlaced}
use Rattle.typing_rules.specs.Calls.{bound_terms, bound_questions, Instance}
use Rattle.typing_rules.specs.Contexts.{Context, Bound}
use Rattle.typing_rules.specs.DeclaredTypes.{with_list}
use Rattle.typing_rules.specs.Definitions.{Definitions}
use Rattle.typing_rules.specs.Ends.{wanted, BelowWanted, Has, Leaves, FirstAbove, Greatest, Branches}
use Rattle.typing_rules.specs.Expressions.{Elements}
use Rattle.typing_rules.specs.Heads.{head}
use Rattle.typing_rules.specs.Judgements.{Judgement, IsBelow}
use Rattle.typing_rules.specs.Lists.{Made, Run, EndsList, TakesMade, Stable, Listed}
use Rattle.typing_rules.specs.Literals.{blob_of, Number, Constant, Written, own_type, has_own, may_have}
use Rattle.typing_rules.specs.Operands.{BothFit, Negative, OtherOperand, LiteralOperand, GreatestOf, Operands, Arithmetic, Equality, Ordering, Binary, Operand}
use Rattle.typing_rules.specs.Operators.{Family, number_with, negated_of, signed_of, is_ordered}
use Rattle.typing_rules.specs.Operators as o
use Rattle.typing_rules.specs.Terms.{Term, zipped}
use Rattle.typing_rules.specs.Terms as t
use Rattle.typing_rules.specs.TypedTrees.{Note, Typed, Judged, type_of, typed}
use Rattle.typing_rules.specs.TypeScopes.{TypeScope}
use Rattle.fault_places.specs.Numbers.{TypeBelow, DeclarationsBelow}
use Rattle.fault_places.proofs.Failing.{FailsBelow, gives, fails, meets, part, if_so, by_case, given, tests, needs, meets_each, needs_each, asks_all, asks_either}
use Rattle.fault_places.proofs.Patterns.{definitions_of, signatures}
use Rattle.fault_places.proofs.Types.{reads_each}

module _ (n : ℕ) where
  -- ---- how rules end

  below_wanted : (at : ℕ) (w : Option Term) (u : Term) (a : Typed) → at < n → FailsBelow n (BelowWanted at w u a)
  below_wanted at None u a h = gives n a
  below_wanted at (Some v) u a h = needs n _ at _ _ h (gives n a)

  pub has : (at : ℕ) (w : Option Term) (u : Term) (f : Form Note) → at < n → FailsBelow n (Has at w u f)
  has at w u f h = meets n _ _ (below_wanted at w u (typed at u f) h)

  pub leaves : (at : ℕ) (w : Option Term) (u : Term) (f : Form Note) → at < n → FailsBelow n (Leaves at w u f)
  leaves at w u f h = meets n _ _ (needs n _ at _ _ h (has at w t.Bottom f h))

  first_above : (c : Condition) (at : ℕ) (all us : List Term) → at < n → FailsBelow n (FirstAbove c at all us)
  first_above c at all [] h = fails n _ _ at h
  first_above c at all (u ∷ us) h = asks_all n (map (λ v. IsBelow v u) all) _ (λ yes. if_so n yes _ _ (gives n u) (first_above c at all us h))

  pub greatest : (c : Condition) (at : ℕ) (us : List Term) → at < n → FailsBelow n (Greatest c at us)
  greatest c at us h = first_above c at us us h

  pub branches : (at : ℕ) (w : Option Term) (us : List Term) (f : Form Note) → at < n → FailsBelow n (Branches at w us f)
  branches at (Some u) us f h = gives n _
  branches at None us f h = part n _ _ (greatest _ at us h) (λ u. has at None u f h)

  pub elements : (at : ℕ) (us : List Term) → at < n → FailsBelow n (Elements at us)
  elements at [] h = gives n _
  elements at (u ∷ us) h = greatest _ at (u ∷ us) h

  -- ---- lists of declarations

  pub ends_list : (at : ℕ) (last w : Option Term) → at < n → FailsBelow n (EndsList at last w)
  ends_list at (Some u) w h = gives n u
  ends_list at None None h = meets n _ _ (gives n _)
  ends_list at None (Some u) h = meets n _ _ (needs n _ at _ _ h (gives n _))

  pub takes_made : (made : List Made) → 0 < n → FailsBelow n (TakesMade made)
  takes_made [] h = fails n _ _ 0 h
  takes_made (d ∷ ds) h = gives n _

  pub stable : {A : Type 0} (b : Bool) (at : ℕ) (u : Term) (j : Judgement A) → at < n → FailsBelow n j → FailsBelow n (Stable b at u j)
  stable false at u j h f = f
  stable true at u j h f = needs n _ at _ _ h f

  module _ (defs : Definitions) where
    pub listed : (e : Context) (ds : Declarations ℕ) (order : Context → Judgement Run) (bodies : Context → List Made → Judgement (Declarations Note)) → DeclarationsBelow n ds
        → ((known : Context) → FailsBelow n (order known)) → ((known : Context) (made : List Made) → FailsBelow n (bodies known made)) → FailsBelow n (Listed defs e ds order bodies)
    listed e ds order bodies h f g =
        part n _ _ (definitions_of n defs (with_list e.types ds) ds h) (λ _. part n _ _ (signatures n defs (with_list e.types ds) ds h) (λ names.
        part n _ _ (f _) (λ run. part n _ _ (g run.known run.made) (λ made. gives n _))))

    -- ---- literals

    pub number : (at : ℕ) (w : Option Term) (k : Kind) (m : ℤ) (f : Form Note) → at < n → FailsBelow n (Number defs at w k m f)
    number at w k m f h =
        by_case n (wanted defs number_of w) _ _
        (λ q. tests n _ at (is_in_range q.1 m) _ h (gives n _))
        (tests n _ at (is_in_range k m) _ h (has at w (t.Number k) f h))

    pub constant : (at : ℕ) (w : Option Term) (l : Literal) → at < n → FailsBelow n (Constant defs at w l)
    constant at w (p.Number m) h = number at w kind.Nat (pos m) (p.Constant (p.Number m)) h
    constant at w (p.Character c) h = has at w t.Character (p.Constant (p.Character c)) h
    constant at w (p.Text x) h =
        by_case n (wanted defs blob_of w) _ _
        (λ q. gives n _)
        (tests n _ at (is_utf8 x) _ h (has at w t.Text (p.Constant (p.Text x)) h))
    constant at w p.True h = has at w t.Boolean (p.Constant p.True) h
    constant at w p.False h = has at w t.Boolean (p.Constant p.False) h
    constant at w p.Null h = has at w t.Null (p.Constant p.Null) h

    -- ---- operators, where the operands fail below the bound

    abbrev JudgedBelow : Judged → Type 0
    JudgedBelow j = (w : Option Term) → FailsBelow n (j w)

    both_fit : (at : ℕ) (w : Option Term) (u : Term) (op : BinaryOperator) (j k : Judged) → at < n → JudgedBelow j → JudgedBelow k → FailsBelow n (BothFit at w u op j k)
    both_fit at w u op j k h f g = part n _ _ (f (Some u)) (λ a. part n _ _ (g (Some u)) (λ b. has at w u (p.Binary op a b) h))

    pub negative : (at : ℕ) (w : Option Term) (j : Judged) → at < n → JudgedBelow j → FailsBelow n (Negative defs at w j)
    negative at w j h f =
        by_case n (wanted defs signed_of w) _ _
        (λ q. part n _ _ (f w) (λ a. gives n _))
        (part n _ _ (f None) (λ a. given n _ at (negated_of (head defs (type_of a))) _ h (λ k. has at w (t.Number k) (p.Negative a) h)))

    other_operand : (at : ℕ) (l : Written) (j : Judged) (u : Term) → at < n → JudgedBelow j → FailsBelow n (OtherOperand defs at l j u)
    other_operand at l j u h f = tests n _ at (may_have l (head defs u)) _ h (f (Some u))

    literal_operand : (at : ℕ) (l : Written) (j : Judged) (u : Term) → at < n → JudgedBelow j → FailsBelow n (LiteralOperand defs at l j u)
    literal_operand at l j u h f =
        if_so n (has_own l) _ _
        (meets n _ _ (asks_either n (IsBelow (own_type l) u) (IsBelow u (own_type l)) _ (λ yes. if_so n yes (λ _. j None) (λ _. OtherOperand defs at l j u) (f None) (other_operand at l j u h f))))
        (other_operand at l j u h f)

    greatest_of : (at : ℕ) (a b : Typed) → at < n → FailsBelow n (GreatestOf defs at a b)
    greatest_of at a b h = part n _ _ (greatest _ at (type_of a ∷ type_of b ∷ []) h) (λ u. gives n _)

    operands : (at : ℕ) (l m : Option Written) (j k : Judged) → at < n → JudgedBelow j → JudgedBelow k → FailsBelow n (Operands defs at l m j k)
    operands at (Some l) m j k h f g = part n _ _ (g None) (λ b. part n _ _ (literal_operand at l j (type_of b) h f) (λ a. greatest_of at a b h))
    operands at None (Some l) j k h f g = part n _ _ (f None) (λ a. part n _ _ (literal_operand at l k (type_of a) h g) (λ b. greatest_of at a b h))
    operands at None None j k h f g = part n _ _ (f None) (λ a. part n _ _ (g None) (λ b. greatest_of at a b h))

    arithmetic : (at : ℕ) (w : Option Term) (f : Family) (op : BinaryOperator) (l m : Option Written) (j k : Judged) → at < n → JudgedBelow j → JudgedBelow k → FailsBelow n (Arithmetic defs at w f op l m j k)
    arithmetic at w f op l m j k h i g =
        by_case n (wanted defs (number_with f) w) _ _
        (λ q. part n _ _ (i w) (λ a. part n _ _ (g w) (λ b. gives n _)))
        (part n _ _ (operands at l m j k h i g) (λ q. given n _ at (number_with f (head defs q.0)) _ h (λ _. has at w q.0 _ h)))

    equality : (at : ℕ) (w : Option Term) (op : BinaryOperator) (l m : Option Written) (j k : Judged) → at < n → JudgedBelow j → JudgedBelow k → FailsBelow n (Equality defs at w op l m j k)
    equality at w op l m j k h f g = part n _ _ (operands at l m j k h f g) (λ q. needs n _ at _ _ h (has at w t.Boolean _ h))

    ordering : (at : ℕ) (w : Option Term) (op : BinaryOperator) (l m : Option Written) (j k : Judged) → at < n → JudgedBelow j → JudgedBelow k → FailsBelow n (Ordering defs at w op l m j k)
    ordering at w op l m j k h f g = part n _ _ (operands at l m j k h f g) (λ q. tests n _ at (is_ordered (head defs q.0)) _ h (has at w t.Boolean _ h))

    pub binary : (at : ℕ) (w : Option Term) (f : Family) (op : BinaryOperator) (l m : Option Written) (j k : Judged) → at < n → JudgedBelow j → JudgedBelow k → FailsBelow n (Binary defs at w f op l m j k)
    binary at w o.Arithmetic op l m j k h f g = arithmetic at w o.Arithmetic op l m j k h f g
    binary at w o.Wrapping op l m j k h f g = arithmetic at w o.Wrapping op l m j k h f g
    binary at w o.Concatenation op l m j k h f g = both_fit at w t.Text op j k h f g
    binary at w o.Equality op l m j k h f g = equality at w op l m j k h f g
    binary at w o.Ordering op l m j k h f g = ordering at w op l m j k h f g
    binary at w o.Logical op l m j k h f g = both_fit at w t.Boolean op j k h f g

    pub operand : (at : ℕ) (f : Family) (u : Term) (j : Judged) → at < n → JudgedBelow j → FailsBelow n (Operand defs at f u j)
    operand at o.Concatenation u j h g = meets n _ _ (needs n _ at _ _ h (needs n _ at _ _ h (g (Some t.Text))))
    operand at f u j h g = given n _ at (number_with f (head defs u)) _ h (λ _. g (Some u))

    -- ---- calls

    pub future_placed : (b : Body) (takes : Bool) (at : ℕ) (u : Term) → at < n → FailsBelow n (FuturePlaced defs b takes at u)
    future_placed b takes at u h = if_so n (is_some (async_of (head defs u))) _ _ (tests n _ at (calls b) _ h (tests n _ at takes _ h (gives n tt))) (gives n tt)

    pub instance_fine : (at : ℕ) (s : TypeScope) (b : Bound) (types : List TypeNode) → at < n → Each (TypeBelow n) types → FailsBelow n (Instance defs at s b types)
    instance_fine at s b types h i =
        tests n _ at (nat_eq (length types) (length b.generics)) _ h (part n _ _ (reads_each n defs s types i) (λ us.
        meets_each n (bound_terms defs (zipped b.generics us) (zipped b.generics us)) _
        (needs_each n _ at (bound_questions defs (zipped b.generics us) (zipped b.generics us)) _ h (gives n _))))
