-- Whether a literal has its own type beside another operand, and how it is judged then.
use mathlib.Core.Path.{fun_ext}
use Rattle.std.proofs.Common.{◌≡◌, ℕ, Bool, true, false, inl, inr, List, Ok, Err, Option, Some, None, refl, sym, ap}
use Rattle.std.specs.Prelude.{Result, IfOk}
use Rattle.std.specs.Result.{IsErr, IsErrAnd}
use Rattle.mo_num.specs.declared.memory.Memory.{Memory}
use Rattle.type_terms.specs.declared.form.Form.{Form}
use Rattle.type_terms.specs.declared.form.TermId.{TermId}
use Rattle.typing_rules.specs.AbstractSyntax.{Expression}
use Rattle.typing_rules.specs.Terms.{Term}
use Rattle.typing_rules.specs.Judgements.{Question, Judgement, Gives, Asks, Meets, Part, If, AsksEither, IsBelow}
use Rattle.typing_rules.specs.TypedTrees.{Typed}
use Rattle.typing_rules.specs.Literals.{Written, own_type, has_own}
use Rattle.typing_rules.specs.Operands.{LiteralOperand, OtherOperand}
use Rattle.type_definitions.specs.Meanings.{term, term_of}
use Rattle.met_types.specs.States.{State, IsReached, IsBelowAnswer}
use Rattle.type_judgements.specs.Judged.{Gave}
use Rattle.type_judgements.specs.declared.refusal.Refusal.{Refusal}
use Rattle.value_scopes.specs.declared.scopes.Scopes.{Scopes}
use Rattle.judging.specs.declared.checker.Checker.{Checker}
use Rattle.judging.specs.declared.site.Site.{Site}
use Rattle.judging.specs.Parts.{Sound}
use Rattle.judging.specs.Views.{View, view, definitions, judge_at, term_in, typed_in, kind_reached}
use Rattle.judging.specs.Answers.{Answers}
use Rattle.judging.proofs.Chains.{seen_as, given, goes_on, stops}
use Rattle.judging.proofs.Steps.{judged_as}
use Rattle.judging.proofs.TypedParts.{Given}
use Rattle.operand_rules.specs.Pairs.{part_of}
use Rattle.operand_rules.specs.Steps.{EitherBelow, either_below, TakesOwn, flag_in, any_flag}

-- ---- one of both types below the other

module _ (s : State) (a b : TermId) where
  pub first_below : (is : Bool) → IsBelowAnswer s a b is → is ≡ true → Gave (either_below a b) s s (λ later. true)
  first_below true h e = record { by = λ met st later l. (met, st, inl (h later l, refl)) }
  first_below false h e = cc

  pub second_below : (no is : Bool) → IsBelowAnswer s a b no → no ≡ false → IsBelowAnswer s b a is → Gave (either_below a b) s s (λ later. is)
  second_below true is h e g = cc
  second_below false true h e g = record { by = λ met st later l. (met, st, inr (h later l, inl (g later l, refl))) }
  second_below false false h e g = record { by = λ met st later l. (met, st, inr (h later l, inr (g later l, refl))) }

-- a question of two types, and then what follows
either_then : {A : Type 0} (q r : Question) (j : Bool → Judgement A) → AsksEither q r j ≡ Part (AsksEither q r (λ yes. Gives yes)) j
either_then {A} q r j = ap (λ (next : Bool → Judgement A). Asks q next) (fun_ext by) where
  by : (yes : Bool) → If yes (λ _. j true) (λ _. Asks r j) ≡ Part (If yes (λ _. Gives true) (λ _. Asks r (λ b. Gives b))) j
  by true = refl
  by false = refl

-- ---- whether a literal has its own type

module _ (w : Written) (other : TermId) (c : Scopes) (k : Checker) where
  abbrev deciding : View → Judgement Bool
  deciding v = TakesOwn w (term v.later other)

  abbrev own_met : View → Judgement Term
  own_met v = Meets (own_type w) (Gives (own_type w))

  abbrev own_asked : View → Term → Judgement Bool
  own_asked v u = EitherBelow u (term v.later other)

  as_met : (l : Checker) (r : Result Bool Refusal) → has_own w ≡ true → Answers flag_in any_flag (λ v. Part (own_met v) (own_asked v)) c k c l r → Answers flag_in any_flag deciding c k c l r
  as_met l r e h =
      seen_as flag_in any_flag deciding (λ v. Part (own_met v) (own_asked v)) c c k l r
      (λ later z. ap (λ (b : Bool). If b (λ _. Meets (own_type w) (EitherBelow (own_type w) (term later other))) (λ _. Gives false)) e) h

  module _ (form : Form) (is : (at : TermId → Term) → term_of at form ≡ own_type w) (l : Checker) where
    abbrev form_met : View → Judgement Term
    form_met v = Meets (term_of (term v.later) form) (Gives (term_of (term v.later) form))

    as_own : (r : Result TermId Refusal) → Answers term_in IsReached form_met c k c l r → Answers term_in IsReached own_met c k c l r
    as_own r h = seen_as term_in IsReached own_met form_met c c k l r (λ later z. ap (λ (u : Term). Meets u (Gives u)) (sym (is (term later)))) h

    pub own_refused : (e : Refusal) (r : Result Bool Refusal) → has_own w ≡ true → IsErr r × IsErrAnd r (λ y. y ≡ e) → Answers term_in IsReached form_met c k c l (Err e) → Answers flag_in any_flag deciding c k c l r
    own_refused e r o g h = as_met l r o (stops flag_in any_flag term_in IsReached own_met own_asked c c k l e r g (as_own (Err e) h))

    pub own_decided : (id : TermId) (b : Bool) → has_own w ≡ true → Answers term_in IsReached form_met c k c l (Ok id) → Gave (either_below id other) l.types l.types (λ later. b) → Answers flag_in any_flag deciding c k c l (Ok b)
    own_decided id b o h g =
        as_met l (Ok b) o
        (goes_on flag_in any_flag term_in IsReached own_met own_asked c c c k l l id (Ok b) (as_own (Ok id) h)
        (judged_as flag_in any_flag (either_below id other) c l (Ok b) h.outcome.sound (λ m e. tt) g))

  pub not_own : has_own w ≡ false → Sound k c → Answers flag_in any_flag deciding c k c k (Ok false)
  not_own e s = given flag_in any_flag deciding c k false s tt (λ later z. ap (λ (b : Bool). If b (λ _. Meets (own_type w) (EitherBelow (own_type w) (term later other))) (λ _. Gives false)) e)

-- ---- the operand itself

module _ (x : Site) (a : Expression ℕ) (w : Written) (other : TermId) (c : Scopes) (k : Checker) where
  abbrev operand : View → Judgement Typed
  operand v = LiteralOperand (definitions v) x.at w (part_of x a v) (term v.later other)

  abbrev decided : View → Judgement Bool
  decided v = TakesOwn w (term v.later other)

  abbrev chosen : View → Bool → Judgement Typed
  chosen v own = If own (λ _. judge_at x.place a None v) (λ _. OtherOperand (definitions v) x.at w (part_of x a v) (term v.later other))

  in_turn : (own : Bool) (u : Term) (j : Bool → Judgement Typed)
      → If own (λ _. Meets (own_type w) (AsksEither (IsBelow (own_type w) u) (IsBelow u (own_type w)) j)) (λ _. j false) ≡ Part (If own (λ _. Meets (own_type w) (EitherBelow (own_type w) u)) (λ _. Gives false)) j
  in_turn true u j = ap (λ (i : Judgement Typed). Meets (own_type w) i) (either_then (IsBelow (own_type w) u) (IsBelow u (own_type w)) j)
  in_turn false u j = refl

  as_turn : (d : Scopes) (l : Checker) (r : Result Given Refusal) → Answers typed_in kind_reached (λ v. Part (decided v) (chosen v)) c k d l r → Answers typed_in kind_reached operand c k d l r
  as_turn d l r h =
      seen_as typed_in kind_reached operand (λ v. Part (decided v) (chosen v)) c d k l r (λ later z. in_turn (has_own w) (term later other) (chosen (view later k.types.listed c))) h

  pub undecided : (l : Checker) (e : Refusal) (r : Result Given Refusal) → IsErr r × IsErrAnd r (λ y. y ≡ e) → Answers flag_in any_flag decided c k c l (Err e) → Answers typed_in kind_reached operand c k c l r
  undecided l e r g h = as_turn c l r (stops typed_in kind_reached flag_in any_flag decided chosen c c k l e r g h)

  module _ (d : Scopes) (l m : Checker) (b : Bool) (r : Result Given Refusal) (h : Answers flag_in any_flag decided c k c l (Ok b)) where
    as_chosen : (own : Bool) → b ≡ own → Answers typed_in kind_reached (λ v. chosen v own) c l d m r → Answers typed_in kind_reached operand c k d m r
    as_chosen own e g =
        as_turn d m r (goes_on typed_in kind_reached flag_in any_flag decided chosen c c d k l m b r h
        (seen_as typed_in kind_reached (λ v. chosen v b) (λ v. chosen v own) c d l m r (λ later z. ap (λ (y : Bool). chosen (view later l.types.listed c) y) e) g))

    pub at_own : b ≡ true → Answers typed_in kind_reached (judge_at x.place a None) c l d m r → Answers typed_in kind_reached operand c k d m r
    at_own e g = as_chosen true e g

    pub at_other : b ≡ false → Answers typed_in kind_reached (λ v. OtherOperand (definitions v) x.at w (part_of x a v) (term v.later other)) c l d m r → Answers typed_in kind_reached operand c k d m r
    at_other e g = as_chosen false e g
