-- An expression, by the type that is wanted of it and its rule.
use Rattle.std.proofs.Common.{◌≡◌, inl, inr, ℕ, Err, Option, Some, None, IfSome, option_map, refl, ap, subst}
use Rattle.std.specs.Prelude.{Result}
use Rattle.std.specs.Result.{IsErr, IsErrAnd}
use Rattle.type_terms.specs.declared.form.TermId.{TermId}
use Rattle.typing_rules.specs.AbstractSyntax.{Expression}
use Rattle.typing_rules.specs.Judgements.{Judgement, Part}
use Rattle.typing_rules.specs.TypedTrees.{Typed}
use Rattle.type_definitions.specs.Meanings.{term}
use Rattle.type_definitions.proofs.Meanings.{each_map}
use Rattle.met_types.specs.States.{State, Kept, Goes, IsReached}
use Rattle.type_judgements.specs.Judged.{Gave, Judged}
use Rattle.type_judgements.specs.LeftBehind.{LeavesOn}
use Rattle.type_judgements.specs.declared.refusal.Refusal.{Refusal}
use Rattle.abstract_tree.specs.declared.expressions.Expression as value
use Rattle.abstract_tree.specs.TreeView.{plain, plain_form}
use Rattle.value_scopes.specs.declared.note.Note.{Note}
use Rattle.value_scopes.specs.declared.place.Place.{Place}
use Rattle.value_scopes.specs.declared.scopes.Scopes.{Scopes}
use Rattle.value_scopes.proofs.Seeing.{hold_on}
use Rattle.judging.specs.declared.checker.Checker.{Checker}
use Rattle.judging.specs.Parts.{Ready, IsReachedFirst, Entering}
use Rattle.judging.specs.Views.{View, view, judge, rule, wanted_in, typed_in, kind_reached, nothing, no_more}
use Rattle.judging.specs.Answers.{Answers}
use Rattle.judging.proofs.Chains.{seen_as, goes_on, stops}
use Rattle.judging.proofs.Forms.{seen}
use Rattle.judging.proofs.Steps.{known_on, reached_on, refused_as, some_on}
use Rattle.expression_rules.specs.Entered.{site_of, wanted_met}

-- how notes are seen
abbrev same : ℕ → ℕ
same n = n

first_reached : (k : Checker) (t : State) (w : Option TermId) (id : TermId) → Goes k.types t → IfSome w (IsReached t) → IsReachedFirst k w id → IsReached t id
first_reached k t w id g h (inl i) = reached_on k.types t id g i
first_reached k t w id g h (inr e) = subst (λ (o : Option TermId). IfSome o (IsReached t)) e h

as_steps : (y : Place) (a : value.Expression ℕ) (w : Option TermId) (v : View) → judge y (plain a) w v ≡ Part (wanted_met (wanted_in v w)) (λ _. rule (site_of y a.note w) (plain_form a.form) v)
as_steps y a None v = ap (λ (z : Expression ℕ). judge y z None v) (seen same a)
as_steps y a (Some w) v = ap (λ (z : Expression ℕ). judge y z (Some w) v) (seen same a)

-- with these types
abbrev pub with_types : Checker → State → Checker
with_types k t = record k { types = t }

module _ (y : Place) (a : value.Expression ℕ) (w : Option TermId) (c : Scopes) (k : Checker) (t : State) where
  abbrev first : View → Judgement (Unit {0})
  first v = wanted_met (wanted_in v w)

  abbrev behind : View → Unit {0} → Judgement Typed
  behind v _ = rule (site_of y a.note w) (plain_form a.form) v

  -- its rule can be applied where the type is (with_types k t)
  pub ready_entered : Entering k c y w → Kept t → Goes k.types t → IfSome w (IsReached t) → Ready (with_types k t) c (site_of y a.note w)
  ready_entered n q g h = record {
    sound = record {
      known = known_on k t n.known q g;
      values = hold_on k.types.forms t.forms c.values g.forms n.values;
      labels = each_map (λ l. IsReachedFirst k w l.1.kind) (λ l. IsReached t l.1.kind) (λ l. first_reached k t w l.1.kind g h) c.labels n.labels;
    };
    returns = some_on (IsReachedFirst k w) (IsReached t) y.returns (λ id. first_reached k t w id g h) n.returns;
    wanting = record { kept = q; wanted = h };
  }

  pub entered : Entering k c y w → Kept t → Goes k.types t → IfSome w (IsReached t) → Gave (λ later. wanted_met (option_map (term later) w)) k.types t (λ later. tt) → (d : Scopes) (m : Checker) (r : Result (value.Expression Note) Refusal)
      → Answers typed_in kind_reached (rule (site_of y a.note w) (plain_form a.form)) c (with_types k t) d m r → Answers typed_in kind_reached (judge y (plain a) w) c k d m r
  entered n q g h i d m r z =
      seen_as typed_in kind_reached (judge y (plain a) w) (λ v. Part (first v) (behind v)) c d k m r (λ later u. as_steps y a w (view later k.types.listed c))
      (goes_on typed_in kind_reached nothing no_more first behind c c d k (with_types k t) m tt r
      (record { outcome = record { sound = (ready_entered n q g h).sound; same = refl; goes = g; holds = tt; gave = i } }) z)

  pub not_entered : (x : Refusal) (r : Result (value.Expression Note) Refusal) → IsErr r × IsErrAnd r (λ z. z ≡ x) → LeavesOn k.types t x → Judged (λ later. wanted_met (option_map (term later) w)) k.types t nothing (Err x)
      → Answers typed_in kind_reached (judge y (plain a) w) c k c (with_types k t) r
  not_entered x r g left h =
      seen_as typed_in kind_reached (judge y (plain a) w) (λ v. Part (first v) (behind v)) c c k (with_types k t) r (λ later u. as_steps y a w (view later k.types.listed c))
      (stops typed_in kind_reached nothing no_more first behind c c k (with_types k t) x r g
      (refused_as nothing no_more (λ later. wanted_met (option_map (term later) w)) nothing c c k (with_types k t) x left h))
