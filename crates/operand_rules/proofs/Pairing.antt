-- Both operands, one after the other, and then the greatest of their types.
use Rattle.std.proofs.Common.{◌≡◌, ◌∙◌, ℕ, List, [], ◌∷◌, Ok, Err, Option, Some, None, map, refl, sym, ap, subst}
use Rattle.std.specs.Prelude.{Result}
use Rattle.std.specs.Result.{IsErr, IsErrAnd}
use Rattle.type_terms.specs.declared.form.Form.{Form}
use Rattle.type_terms.specs.declared.form.TermId.{TermId}
use Rattle.typing_rules.specs.declared.condition.Condition.TheVariants as condition
use Rattle.typing_rules.specs.AbstractSyntax.{Expression}
use Rattle.typing_rules.specs.Terms.{Term}
use Rattle.typing_rules.specs.Judgements.{Judgement, Gives, Part}
use Rattle.typing_rules.specs.TypedTrees.{Typed, type_of}
use Rattle.typing_rules.specs.Ends.{Greatest}
use Rattle.typing_rules.specs.Literals.{Written}
use Rattle.typing_rules.specs.Operands.{LiteralOperand, GreatestOf, Operands}
use Rattle.type_definitions.specs.Meanings.{term}
use Rattle.met_types.specs.States.{State, IsReached}
use Rattle.type_judgements.specs.Judged.{Judged}
use Rattle.type_judgements.specs.declared.refusal.Refusal.{Refusal}
use Rattle.value_scopes.specs.declared.scopes.Scopes.{Scopes}
use Rattle.judging.specs.declared.checker.Checker.{Checker}
use Rattle.judging.specs.declared.site.Site.{Site}
use Rattle.judging.specs.Parts.{Sound}
use Rattle.judging.specs.Views.{View, view, definitions, judge_at, term_in, typed_in, kind_reached}
use Rattle.judging.specs.Answers.{Answers}
use Rattle.judging.proofs.Chains.{seen_as, given, goes_on, stops}
use Rattle.judging.proofs.Forms.{type_is}
use Rattle.judging.proofs.Steps.{judged_as}
use Rattle.judging.proofs.TypedParts.{Given, Comes}
use Rattle.operand_rules.specs.declared.pairs.OperandPair.{OperandPair}
use Rattle.operand_rules.specs.Pairs.{pair_in, pair_reached, part_of}

abbrev pub Pair : Type 0
Pair = Term × Typed × Typed

abbrev pub Pairs : (View → Judgement Pair) → Scopes → Checker → Scopes → Checker → Result OperandPair Refusal → Type 0
Pairs j c k d l r = Answers pair_in pair_reached j c k d l r

-- ---- the greatest of both types

ok_reached : (s : State) (a b : TermId) → ◌≡◌ {A = Result TermId Refusal} (Ok a) (Ok b) → IsReached s a → IsReached s b
ok_reached s a b e i = let z : a ≡ b = cc in subst (IsReached s) z i

none_reached : (s : State) (q : Refusal) (b : TermId) → ◌≡◌ {A = Result TermId Refusal} (Err q) (Ok b) → IsReached s b
none_reached s q b e = cc

module _ (at : ℕ) (left right : Given) (c : Scopes) (k : Checker) (s : Sound k c) where
  abbrev ids : List TermId
  ids = left.note.kind ∷ right.note.kind ∷ []

  abbrev greatest : List Form → Judgement Term
  greatest later = Greatest condition.BadOperator at (map (term later) ids)

  abbrev pair_of : View → Judgement Pair
  pair_of v = GreatestOf (definitions v) at (typed_in left v.later) (typed_in right v.later)

  abbrev as_pair : View → Term → Judgement Pair
  as_pair v u = Gives (u, typed_in left v.later, typed_in right v.later)

  by_kinds : (d : Scopes) (l : Checker) (r : Result OperandPair Refusal) → Pairs (λ v. Part (greatest v.later) (as_pair v)) c k d l r → Pairs pair_of c k d l r
  by_kinds d l r h =
      seen_as pair_in pair_reached pair_of (λ v. Part (greatest v.later) (as_pair v)) c d k l r
      (λ later z. ap (λ (us : List Term). Part (Greatest condition.BadOperator at us) (as_pair (view later k.types.listed c)))
      (ap (λ (u : Term). u ∷ type_of (typed_in right later) ∷ []) (type_is left later) ∙ ap (λ (u : Term). term later left.note.kind ∷ u ∷ []) (type_is right later))) h

  pub greatest_found : (kind : TermId) → IsReached k.types kind → Judged greatest k.types k.types term_in (Ok kind) → Pairs pair_of c k c k (Ok (record { kind = kind; left = left; right = right }))
  greatest_found kind i g =
      by_kinds c k (Ok made)
      (goes_on pair_in pair_reached term_in IsReached (λ v. greatest v.later) as_pair c c c k k k kind (Ok made)
      (judged_as term_in IsReached greatest c k (Ok kind) s (λ m e. ok_reached k.types kind m e i) g)
      (given pair_in pair_reached (λ v. as_pair v (term v.later kind)) c k made s i (λ later z. refl)))
    where
      made : OperandPair
      made = record { kind = kind; left = left; right = right }

  pub no_greatest : (e : Refusal) (r : Result OperandPair Refusal) → IsErr r × IsErrAnd r (λ y. y ≡ e) → Judged greatest k.types k.types term_in (Err e) → Pairs pair_of c k c k r
  no_greatest e r h g =
      by_kinds c k r
      (stops pair_in pair_reached term_in IsReached (λ v. greatest v.later) as_pair c c k k e r h
      (judged_as term_in IsReached greatest c k (Err e) s (λ m z. none_reached k.types e m z) g))

-- ---- two parts, of which the second is judged by what the first gives

module _ {A M : Type 0} (see : M → List Form → A) (good : State → M → Type 0) (j : View → Judgement Typed) (i : View → Typed → Judgement Typed) (n : View → Typed → Typed → Judgement A) where
  abbrev pub in_turn : View → Judgement A
  in_turn v = Part (j v) (λ a. Part (i v a) (n v a))

  pub no_first : (c d : Scopes) (k l : Checker) (e : Refusal) (r : Result M Refusal) → IsErr r × IsErrAnd r (λ y. y ≡ e) → Comes j c k d l (Err e) → Answers see good in_turn c k d l r
  no_first c d k l e r g h = stops see good typed_in kind_reached j (λ v a. Part (i v a) (n v a)) c d k l e r g h

  module _ (c d : Scopes) (k l : Checker) (a : Given) (f : Comes j c k d l (Ok a)) (s : Scopes) (m : Checker) where
    pub no_second : (e : Refusal) (r : Result M Refusal) → IsErr r × IsErrAnd r (λ y. y ≡ e) → Comes (λ v. i v (typed_in a v.later)) d l s m (Err e) → Answers see good in_turn c k s m r
    no_second e r g h =
        goes_on see good typed_in kind_reached j (λ v a. Part (i v a) (n v a)) c d s k l m a r f
        (stops see good typed_in kind_reached (λ v. i v (typed_in a v.later)) (λ v. n v (typed_in a v.later)) d s l m e r g h)

    pub both_given : (b : Given) (t : Scopes) (o : Checker) (r : Result M Refusal) → Comes (λ v. i v (typed_in a v.later)) d l s m (Ok b) → Answers see good (λ v. n v (typed_in a v.later) (typed_in b v.later)) s m t o r
        → Answers see good in_turn c k t o r
    both_given b t o r h g =
        goes_on see good typed_in kind_reached j (λ v a. Part (i v a) (n v a)) c d t k l o a r f
        (goes_on see good typed_in kind_reached (λ v. i v (typed_in a v.later)) (λ v. n v (typed_in a v.later)) d s t l m o b r h g)

-- a literal beside what was given
pub literal_beside : (x : Site) (a : Expression ℕ) (w : Written) (b : Given) (c d : Scopes) (k l : Checker) (r : Result Given Refusal)
    → Comes (λ v. LiteralOperand (definitions v) x.at w (part_of x a v) (term v.later b.note.kind)) c k d l r → Comes (λ v. LiteralOperand (definitions v) x.at w (part_of x a v) (type_of (typed_in b v.later))) c k d l r
literal_beside x a w b c d k l r h =
    seen_as typed_in kind_reached (λ v. LiteralOperand (definitions v) x.at w (part_of x a v) (type_of (typed_in b v.later))) (λ v. LiteralOperand (definitions v) x.at w (part_of x a v) (term v.later b.note.kind)) c d k l r
    (λ later z. ap (λ (u : Term). LiteralOperand (definitions (view later k.types.listed c)) x.at w (part_of x a (view later k.types.listed c)) u) (type_is b later)) h

-- the operands by which of them are literals
pub with_literals : (x : Site) (a b : Expression ℕ) (o p : Option Written) (q s : Option Written) (c d : Scopes) (k l : Checker) (r : Result OperandPair Refusal) → o ≡ q → p ≡ s
    → Pairs (λ v. Operands (definitions v) x.at o p (part_of x a v) (part_of x b v)) c k d l r → Pairs (λ v. Operands (definitions v) x.at q s (part_of x a v) (part_of x b v)) c k d l r
with_literals x a b o p q s c d k l r e f h =
    subst (λ (y : Option Written). Pairs (λ v. Operands (definitions v) x.at y s (part_of x a v) (part_of x b v)) c k d l r) e
    (subst (λ (y : Option Written). Pairs (λ v. Operands (definitions v) x.at o y (part_of x a v) (part_of x b v)) c k d l r) f h)
