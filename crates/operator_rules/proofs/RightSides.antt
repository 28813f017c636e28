-- The right side of an operator with an assignment.
use mathlib.Core.Path.{fun_ext}
use Rattle.std.proofs.Common.{◌≡◌, ◌∙◌, ℕ, Bool, true, false, Ok, Err, Option, Some, None, refl, ap}
use Rattle.std.specs.Prelude.{Result}
use Rattle.std.specs.Result.{IsErr, IsErrAnd}
use Rattle.mo_num.specs.declared.kind.Kind.{Kind}
use Rattle.type_terms.specs.declared.form.TermId.{TermId}
use Rattle.typing_rules.specs.declared.condition.Condition.{Condition}
use Rattle.typing_rules.specs.declared.condition.Condition.TheVariants as condition
use Rattle.typing_rules.specs.AbstractSyntax.{Expression}
use Rattle.typing_rules.specs.Heads.{head}
use Rattle.typing_rules.specs.Terms.{Term}
use Rattle.typing_rules.specs.Terms as t
use Rattle.typing_rules.specs.Judgements.{Question, Judgement, Gives, Asks, Meets, Part, Given as IsGiven, Tests, Needs, Fine, IsBelow}
use Rattle.typing_rules.specs.TypedTrees.{Typed}
use Rattle.typing_rules.specs.Operators.{Family, number_with}
use Rattle.type_definitions.specs.Meanings.{term}
use Rattle.met_types.specs.States.{IsReached}
use Rattle.type_judgements.specs.Judged.{Judged}
use Rattle.type_judgements.specs.declared.refusal.Refusal.{Refusal}
use Rattle.type_judgements.specs.declared.refusal.Refusal.TheVariants as refusal
use Rattle.value_scopes.specs.declared.scopes.Scopes.{Scopes}
use Rattle.judging.specs.declared.checker.Checker.{Checker}
use Rattle.judging.specs.declared.site.Site.{Site}
use Rattle.judging.specs.Heads.{HeadHas}
use Rattle.judging.specs.Views.{View, view, definitions, term_in, typed_in, kind_reached, nothing, no_more}
use Rattle.judging.specs.Answers.{Answers}
use Rattle.judging.proofs.Cases.{given_none, given_some}
use Rattle.judging.proofs.Chains.{seen_as, given, goes_on, stops}
use Rattle.judging.proofs.Steps.{judged_as, needs_then}
use Rattle.judging.proofs.TypedParts.{Given, Comes}
use Rattle.operand_rules.specs.Pairs.{part_of}

needs_part : {A B : Type 0} (q : Condition) (at : ℕ) (u : Question) (j : Judgement B) (i : B → Judgement A) → Needs q at u (Part j i) ≡ Part (Needs q at u j) i
needs_part {A} {B} q at u j i = ap (λ (next : Bool → Judgement A). Asks u next) (fun_ext by) where
  by : (yes : Bool) → Tests q at yes (Part j i) ≡ Part (Tests q at yes j) i
  by true = refl
  by false = refl

-- ---- a type that is equal to Text

module _ (at : ℕ) (kind : TermId) (c : Scopes) (k : Checker) where
  abbrev pub is_text : View → Judgement Term
  is_text v = Meets t.Text (Needs condition.Mismatch at (IsBelow (term v.later kind) t.Text) (Needs condition.Mismatch at (IsBelow t.Text (term v.later kind)) (Gives t.Text)))

  abbrev text_met : View → Judgement Term
  text_met v = Meets t.Text (Gives t.Text)

  abbrev below_text : View → Term → Judgement Term
  below_text v u = Needs condition.Mismatch at (IsBelow (term v.later kind) u) (Needs condition.Mismatch at (IsBelow u (term v.later kind)) (Gives u))

  pub no_text : (l : Checker) (e : Refusal) (r : Result TermId Refusal) → IsErr r × IsErrAnd r (λ y. y ≡ e) → Answers term_in IsReached text_met c k c l (Err e) → Answers term_in IsReached is_text c k c l r
  no_text l e r h g = stops term_in IsReached term_in IsReached text_met below_text c c k l e r h g

  module _ (l : Checker) (text : TermId) (g : Answers term_in IsReached text_met c k c l (Ok text)) where
    abbrev low : View → Judgement (Unit {0})
    low v = Needs condition.Mismatch at (IsBelow (term v.later kind) (term v.later text)) Fine

    abbrev high : View → Judgement (Unit {0})
    high v = Needs condition.Mismatch at (IsBelow (term v.later text) (term v.later kind)) Fine

    abbrev above : View → Judgement Term
    above v = Needs condition.Mismatch at (IsBelow (term v.later text) (term v.later kind)) (Gives (term v.later text))

    abbrev ended : View → Judgement Term
    ended v = Gives (term v.later text)

    -- both conditions in turn
    as_low : (r : Result TermId Refusal) → Answers term_in IsReached (λ v. Part (low v) (λ _. above v)) c l c l r → Answers term_in IsReached is_text c k c l r
    as_low r h =
        goes_on term_in IsReached term_in IsReached text_met below_text c c c k l l text r g
        (seen_as term_in IsReached (λ v. below_text v (term v.later text)) (λ v. Part (low v) (λ _. above v)) c c l l r
        (λ later z. needs_then condition.Mismatch at (IsBelow (term later kind) (term later text)) (above (view later l.types.listed c))) h)

    low_as : (r : Result (Unit {0}) Refusal) → Judged (λ later. Needs condition.Mismatch at (IsBelow (term later kind) (term later text)) Fine) l.types l.types nothing r → Answers nothing no_more low c l c l r
    low_as r h = judged_as nothing no_more (λ later. Needs condition.Mismatch at (IsBelow (term later kind) (term later text)) Fine) c l r g.outcome.sound (λ m e. tt) h

    high_as : (r : Result (Unit {0}) Refusal) → Judged (λ later. Needs condition.Mismatch at (IsBelow (term later text) (term later kind)) Fine) l.types l.types nothing r → Answers nothing no_more high c l c l r
    high_as r h = judged_as nothing no_more (λ later. Needs condition.Mismatch at (IsBelow (term later text) (term later kind)) Fine) c l r g.outcome.sound (λ m e. tt) h

    pub not_low : (e : Refusal) (r : Result TermId Refusal) → IsErr r × IsErrAnd r (λ y. y ≡ e) → Judged (λ later. Needs condition.Mismatch at (IsBelow (term later kind) (term later text)) Fine) l.types l.types nothing (Err e) → Answers term_in IsReached is_text c k c l r
    not_low e r h i = as_low r (stops term_in IsReached nothing no_more low (λ v _. above v) c c l l e r h (low_as (Err e) i))

    as_high : (r : Result TermId Refusal) → Judged (λ later. Needs condition.Mismatch at (IsBelow (term later kind) (term later text)) Fine) l.types l.types nothing (Ok tt) → Answers term_in IsReached (λ v. Part (high v) (λ _. ended v)) c l c l r
        → Answers term_in IsReached is_text c k c l r
    as_high r i h =
        as_low r
        (goes_on term_in IsReached nothing no_more low (λ v _. above v) c c c l l l tt r (low_as (Ok tt) i)
        (seen_as term_in IsReached above (λ v. Part (high v) (λ _. ended v)) c c l l r (λ later z. needs_then condition.Mismatch at (IsBelow (term later text) (term later kind)) (ended (view later l.types.listed c))) h))

    pub not_high : (e : Refusal) (r : Result TermId Refusal) → IsErr r × IsErrAnd r (λ y. y ≡ e) → Judged (λ later. Needs condition.Mismatch at (IsBelow (term later kind) (term later text)) Fine) l.types l.types nothing (Ok tt)
        → Judged (λ later. Needs condition.Mismatch at (IsBelow (term later text) (term later kind)) Fine) l.types l.types nothing (Err e) → Answers term_in IsReached is_text c k c l r
    not_high e r h i j = as_high r i (stops term_in IsReached nothing no_more high (λ v _. ended v) c c l l e r h (high_as (Err e) j))

    pub is_equal : Judged (λ later. Needs condition.Mismatch at (IsBelow (term later kind) (term later text)) Fine) l.types l.types nothing (Ok tt)
        → Judged (λ later. Needs condition.Mismatch at (IsBelow (term later text) (term later kind)) Fine) l.types l.types nothing (Ok tt) → Answers term_in IsReached is_text c k c l (Ok text)
    is_equal i j =
        as_high (Ok text) i
        (goes_on term_in IsReached nothing no_more high (λ v _. ended v) c c c l l l tt (Ok text) (high_as (Ok tt) j)
        (given term_in IsReached ended c l text g.outcome.sound g.outcome.holds (λ later z. refl)))

-- ---- the right side

module _ (x : Site) (kind : TermId) (a : Expression ℕ) (c : Scopes) (k : Checker) where
  abbrev text_side : View → Judgement Typed
  text_side v = Meets t.Text (Needs condition.Mismatch x.at (IsBelow (term v.later kind) t.Text) (Needs condition.Mismatch x.at (IsBelow t.Text (term v.later kind)) (part_of x a v (Some t.Text))))

  abbrev text_known : View → Judgement Term
  text_known v = is_text x.at kind c k v

  abbrev side : View → Term → Judgement Typed
  side v u = part_of x a v (Some u)

  as_known : (d : Scopes) (m : Checker) (r : Result Given Refusal) → Comes (λ v. Part (text_known v) (side v)) c k d m r → Comes text_side c k d m r
  as_known d m r h =
      seen_as typed_in kind_reached text_side (λ v. Part (text_known v) (side v)) c d k m r
      (λ later z.
      let v = view later k.types.listed c in
      ap (λ (j : Judgement Typed). Meets t.Text j)
      (ap (λ (j : Judgement Typed). Needs condition.Mismatch x.at (IsBelow (term later kind) t.Text) j) (needs_part condition.Mismatch x.at (IsBelow t.Text (term later kind)) (Gives t.Text) (side v))
      ∙ needs_part condition.Mismatch x.at (IsBelow (term later kind) t.Text) (Needs condition.Mismatch x.at (IsBelow t.Text (term later kind)) (Gives t.Text)) (side v))) h

  pub no_side : (l : Checker) (e : Refusal) (r : Result Given Refusal) → IsErr r × IsErrAnd r (λ y. y ≡ e) → Answers term_in IsReached text_known c k c l (Err e) → Comes text_side c k c l r
  no_side l e r h g = as_known c l r (stops typed_in kind_reached term_in IsReached text_known side c c k l e r h g)

  pub text_side_given : (d : Scopes) (l m : Checker) (text : TermId) (r : Result Given Refusal) → Answers term_in IsReached text_known c k c l (Ok text) → Comes (λ v. part_of x a v (Some (term v.later text))) c l d m r → Comes text_side c k d m r
  text_side_given d l m text r g h = as_known d m r (goes_on typed_in kind_reached term_in IsReached text_known side c c d k l m text r g h)

  module _ (f : Family) (o : Option Kind) (h : HeadHas (number_with f) k.types kind (λ later. o)) where
    abbrev number_side : View → Judgement Typed
    number_side v = IsGiven condition.BadOperator x.at (number_with f (head (definitions v) (term v.later kind))) (λ _. part_of x a v (Some (term v.later kind)))

    pub number_side_given : (j : Kind) (d : Scopes) (m : Checker) (r : Result Given Refusal) → o ≡ Some j → Comes (λ v. part_of x a v (Some (term v.later kind))) c k d m r → Comes number_side c k d m r
    number_side_given j d m r e g =
        given_some typed_in kind_reached (λ v. number_with f (head (definitions v) (term v.later kind))) c d k m r condition.BadOperator x.at (λ v _. part_of x a v (Some (term v.later kind))) (λ later. j) (λ later z. h later z ∙ e) g

    pub no_number_side : o ≡ None → Comes number_side c k c k (Err (refusal.False x.at condition.BadOperator))
    no_number_side e =
        given_none typed_in kind_reached condition.BadOperator x.at (λ v. number_with f (head (definitions v) (term v.later kind))) c k (λ v _. part_of x a v (Some (term v.later kind))) (λ later z. h later z ∙ e)
