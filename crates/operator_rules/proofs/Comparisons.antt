-- Comparisons.
use Rattle.std.proofs.Common.{◌≡◌, ◌∙◌, ℕ, Bool, true, false, inl, inr, List, Ok, Err, refl, sym, ap, subst}
use Rattle.std.specs.Prelude.{Result}
use Rattle.std.specs.Result.{IsErr, IsErrAnd}
use Rattle.mo_syntax.specs.declared.operators.BinaryOperator.{BinaryOperator}
use Rattle.type_terms.specs.declared.form.Form.{Form}
use Rattle.type_terms.specs.declared.form.TermId.{TermId}
use Rattle.typing_rules.specs.declared.condition.Condition.TheVariants as condition
use Rattle.typing_rules.specs.AbstractSyntax.{Expression}
use Rattle.typing_rules.specs.AbstractSyntax as p
use Rattle.typing_rules.specs.Heads.{head}
use Rattle.typing_rules.specs.Terms as t
use Rattle.typing_rules.specs.Judgements.{Judgement, Part, Needs, Tests, Fine, IsComparable}
use Rattle.typing_rules.specs.TypedTrees.{Note, Typed, note, subsumed}
use Rattle.typing_rules.specs.Ends.{Has}
use Rattle.typing_rules.specs.Literals.{written}
use Rattle.typing_rules.specs.Operators.{is_ordered}
use Rattle.typing_rules.specs.Operands.{Equality, Ordering}
use Rattle.type_definitions.specs.Meanings.{term}
use Rattle.type_definitions.proofs.Meanings.{grows_not}
use Rattle.shareable_types.specs.declared.sharing.Sharing.{Sharing}
use Rattle.shareable_types.specs.Answers.{Stands, IsAnswer}
use Rattle.type_judgements.specs.declared.refusal.Refusal.{Refusal}
use Rattle.type_judgements.specs.declared.refusal.Refusal.TheVariants as refusal
use Rattle.abstract_tree.specs.declared.expressions.ExpressionForm.{ExpressionForm}
use Rattle.abstract_tree.specs.declared.expressions.ExpressionForm.TheVariants as e
use Rattle.abstract_tree.specs.TreeView.{expression_form}
use Rattle.value_scopes.specs.declared.note.Note as value_note
use Rattle.value_scopes.specs.declared.scopes.Scopes.{Scopes}
use Rattle.value_scopes.specs.Values.{noted}
use Rattle.judging.specs.declared.checker.Checker.{Checker}
use Rattle.judging.specs.declared.site.Site.{Site}
use Rattle.judging.specs.Parts.{Sound}
use Rattle.judging.specs.Views.{View, view, definitions, wanted_in, form_in, typed_in, kind_reached, nothing, no_more}
use Rattle.judging.specs.Answers.{Answers}
use Rattle.judging.proofs.Chains.{seen_as, goes_on, stops}
use Rattle.judging.proofs.Forms.{seen, seen_Binary, seen_Subsumed}
use Rattle.judging.proofs.Steps.{needs_then}
use Rattle.judging.proofs.TypedParts.{Given, Comes}
use Rattle.operand_rules.specs.declared.pairs.OperandPair.{OperandPair}
use Rattle.operand_rules.specs.Heads.{HeadIs}
use Rattle.operand_rules.specs.Pairs.{pair_in, pair_reached, part_of}
use Rattle.operand_rules.proofs.ByHeads.{head_holds, head_fails}
use Rattle.operand_rules.proofs.Pairing.{Pair, Pairs}
use Rattle.operator_rules.proofs.Numbers.{both_operands}

-- ---- an operand at a type above its own

pub subsumed_is : (made of : Given) (kind : TermId) → made.note ≡ record { at = of.note.at; kind = kind } → made.form ≡ e.Subsumed of → (later : List Form) → typed_in made later ≡ subsumed (term later kind) (typed_in of later)
subsumed_is made of kind n f later =
    seen (noted later) made
    ∙ (ap (λ (m : value_note.Note). p.exp (noted later m) (expression_form (noted later) made.form)) n
    ∙ (ap (λ (g : ExpressionForm value_note.Note). p.exp (note of.note.at (term later kind)) (expression_form (noted later) g)) f
    ∙ (ap (p.exp (note of.note.at (term later kind))) (seen_Subsumed (noted later) of)
    ∙ (ap (λ (a : Typed). p.exp (note of.note.at (term later kind)) (p.Subsumed a)) (seen (noted later) of) ∙ sym (ap (subsumed (term later kind)) (seen (noted later) of))))))

-- both operands at this type
abbrev pub raised : BinaryOperator → TermId → Given → Given → List Form → p.Form Note
raised op kind a b later = p.Binary op (subsumed (term later kind) (typed_in a later)) (subsumed (term later kind) (typed_in b later))

pub raised_is : (op : BinaryOperator) (kind : TermId) (a b y z : Given) → ((later : List Form) → typed_in y later ≡ subsumed (term later kind) (typed_in a later)) → ((later : List Form) → typed_in z later ≡ subsumed (term later kind) (typed_in b later))
    → (later : List Form) → form_in (e.Binary op y z) later ≡ raised op kind a b later
raised_is op kind a b y z h g later =
    seen_Binary (noted later) op y z ∙ (ap (λ (m : Typed). p.Binary op m (typed_in z later)) (h later) ∙ ap (λ (m : Typed). p.Binary op (subsumed (term later kind) (typed_in a later)) m) (g later))

-- ---- whether values of a type may be compared

abbrev comparing : ℕ → TermId → View → Judgement (Unit {0})
comparing at kind v = Needs condition.BadOperator at (IsComparable (term v.later kind)) Fine

module _ (at : ℕ) (kind : TermId) (c : Scopes) (k : Checker) (s : Sound k c) where
  module _ (new : Sharing) (is : Bool) (h : IsAnswer k.equality.any k.types kind is) where
    abbrev answer : IsAnswer false k.types kind is
    answer = subst (λ (any : Bool). IsAnswer any k.types kind is) s.known.no_any h

    pub may_be_compared : new.any ≡ k.equality.any → Stands k.types new → is ≡ true → Answers nothing no_more (comparing at kind) c k c (record k { equality = new }) (Ok tt)
    may_be_compared q u g = record {
      outcome = record {
        sound = record {
          known = record {
            kept = s.known.kept;
            messages = s.known.messages;
            any = s.known.any;
            equality = u;
            no_any = q ∙ s.known.no_any;
          };
          values = s.values;
          labels = s.labels;
        };
        same = refl;
        goes = record { forms = grows_not k.types.forms; listed = refl; outcomes = refl; reached = λ i x y. y };
        holds = tt;
        gave = record { by = λ met st later l. (met, st, inl ((subst (λ (b : Bool). IsAnswer false k.types kind b) g answer) later l, refl)) };
      };
    }

    pub may_not_be_compared : is ≡ false → Answers nothing no_more (comparing at kind) c k c (record k { equality = new }) (Err (refusal.False at condition.BadOperator))
    may_not_be_compared g = record {
      outcome = record {
        left = record { forms = grows_not k.types.forms; listed = refl };
        names = record { by = λ met st later l. (met, inr ((subst (λ (b : Bool). IsAnswer false k.types kind b) g answer) later l, refl)) };
      };
    }

-- ---- both operands, and then the comparison

module _ (x : Site) (op : BinaryOperator) (a b : Expression ℕ) where
  abbrev compared : View → Pair → Judgement Typed
  compared v q = Has x.at (wanted_in v x.wanted) t.Boolean (p.Binary op (subsumed q.0 q.1) (subsumed q.0 q.2))

  abbrev pub equals : View → Judgement Typed
  equals v = Equality (definitions v) x.at (wanted_in v x.wanted) op (written a) (written b) (part_of x a v) (part_of x b v)

  abbrev pub ordered : View → Judgement Typed
  ordered v = Ordering (definitions v) x.at (wanted_in v x.wanted) op (written a) (written b) (part_of x a v) (part_of x b v)

  abbrev if_comparable : View → Pair → Judgement Typed
  if_comparable v q = Needs condition.BadOperator x.at (IsComparable q.0) (compared v q)

  abbrev if_ordered : View → Pair → Judgement Typed
  if_ordered v q = Tests condition.BadOperator x.at (is_ordered (head (definitions v) q.0)) (compared v q)

  module _ (c d : Scopes) (k l : Checker) where
    pub none_equal : (y : Refusal) (r : Result Given Refusal) → IsErr r × IsErrAnd r (λ z. z ≡ y) → Pairs (both_operands x a b) c k d l (Err y) → Comes equals c k d l r
    none_equal y r h g = stops typed_in kind_reached pair_in pair_reached (both_operands x a b) if_comparable c d k l y r h g

    pub none_ordered : (y : Refusal) (r : Result Given Refusal) → IsErr r × IsErrAnd r (λ z. z ≡ y) → Pairs (both_operands x a b) c k d l (Err y) → Comes ordered c k d l r
    none_ordered y r h g = stops typed_in kind_reached pair_in pair_reached (both_operands x a b) if_ordered c d k l y r h g

    module _ (q : OperandPair) (g : Pairs (both_operands x a b) c k d l (Ok q)) where
      abbrev ends : View → Judgement Typed
      ends v = compared v (pair_in q v.later)

      as_asked : (m : Checker) (r : Result Given Refusal) → Comes (λ v. Part (comparing x.at q.kind v) (λ _. ends v)) d l d m r → Comes equals c k d m r
      as_asked m r h =
          goes_on typed_in kind_reached pair_in pair_reached (both_operands x a b) if_comparable c d d k l m q r g
          (seen_as typed_in kind_reached (λ v. if_comparable v (pair_in q v.later)) (λ v. Part (comparing x.at q.kind v) (λ _. ends v)) d d l m r
          (λ later z. needs_then condition.BadOperator x.at (IsComparable (term later q.kind)) (ends (view later l.types.listed d))) h)

      pub not_comparable : (m : Checker) (y : Refusal) (r : Result Given Refusal) → IsErr r × IsErrAnd r (λ z. z ≡ y) → Answers nothing no_more (comparing x.at q.kind) d l d m (Err y) → Comes equals c k d m r
      not_comparable m y r h i = as_asked m r (stops typed_in kind_reached nothing no_more (comparing x.at q.kind) (λ v _. ends v) d d l m y r h i)

      pub is_comparable : (m n : Checker) (r : Result Given Refusal) → Answers nothing no_more (comparing x.at q.kind) d l d m (Ok tt) → Comes ends d m d n r → Comes equals c k d n r
      is_comparable m n r h i = as_asked n r (goes_on typed_in kind_reached nothing no_more (comparing x.at q.kind) (λ v _. ends v) d d d l m n tt r h i)

      module _ (is : Bool) (h : HeadIs is_ordered l.types q.kind is) where
        pub has_order : (m : Checker) (r : Result Given Refusal) → is ≡ true → Comes ends d l d m r → Comes ordered c k d m r
        has_order m r y i =
            goes_on typed_in kind_reached pair_in pair_reached (both_operands x a b) if_ordered c d d k l m q r g
            (head_holds typed_in kind_reached condition.BadOperator x.at is_ordered q.kind ends d l is h d m r y i)

        pub no_order : is ≡ false → Comes ordered c k d l (Err (refusal.False x.at condition.BadOperator))
        no_order y =
            goes_on typed_in kind_reached pair_in pair_reached (both_operands x a b) if_ordered c d d k l l q (Err (refusal.False x.at condition.BadOperator)) g
            (head_fails typed_in kind_reached condition.BadOperator x.at is_ordered q.kind ends d l is h y)
