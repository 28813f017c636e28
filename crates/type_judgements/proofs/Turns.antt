-- Parts in turn, and single steps.
use Rattle.std.proofs.Common.{◌≡◌, inl, inr, ℕ, Bool, true, false, List, [], ◌∷◌, ◌++◌, Ok, Err, refl, sym, ◌∙◌, subst}
use Rattle.std.specs.Prelude.{Result, IfErr}
use Rattle.std.specs.Result.{IsErr, IsErrAnd}
use Rattle.type_terms.specs.declared.form.Form.{Form}
use Rattle.type_terms.specs.declared.form.TermId.{TermId}
use Rattle.typing_rules.specs.declared.condition.Condition.{Condition}
use Rattle.typing_rules.specs.declared.condition.Condition.TheVariants as condition
use Rattle.typing_rules.specs.Terms.{Term}
use Rattle.typing_rules.specs.Judgements.{Judgement, Meets, Needs, Tests, Part, Fine, IsBelow}
use Rattle.typing_rules.specs.Answers.{Fault, fault, answer, Comes}
use Rattle.typing_rules.proofs.Parts.{part_from}
use Rattle.type_definitions.specs.Meanings.{term}
use Rattle.type_definitions.specs.Tables.{Within, Later}
use Rattle.type_definitions.specs.Definitions.{Listed, rules_in}
use Rattle.type_definitions.proofs.Meanings.{later_on, term_stays}
use Rattle.met_types.specs.declared.fault.MeetFault.{MeetFault}
use Rattle.met_types.specs.declared.fault.MeetFault.TheVariants as meet
use Rattle.met_types.specs.Faults.{IfTooMany}
use Rattle.met_types.specs.States.{State, Stands, Goes, Left, IsTerm, MeetsFew, MeetsMany, IsBelowAnswer}
use Rattle.type_judgements.specs.declared.refusal.Refusal.{Refusal}
use Rattle.type_judgements.specs.Refusals.{refused_by}
use Rattle.type_judgements.specs.Judged.{Gave, Names, Judged}
use Rattle.type_judgements.specs.LeftBehind.{LeavesOn}

module _ {A B : Type 0} (j : List Form → Judgement B) (k : List Form → B → Judgement A) where
  pub gave_then : (old mid new : State) (b : List Form → B) (a : List Form → A) → Gave j old mid b → Goes mid new → Gave (λ later. k later (b later)) mid new a → Gave (λ later. Part (j later) (k later)) old new a
  gave_then old mid new b a g goes h = record {
    by = λ met st later l.
        let x = g.by met st later (later_on mid.forms new.forms later goes.forms l) in
        let y = h.by x.0 x.1 later l in
        let z : Comes (rules_in later new.listed) (j later) met (answer (Ok (b later)) x.0) = subst (λ (d : Listed). Comes (rules_in later d) (j later) met (answer (Ok (b later)) x.0)) (sym goes.listed) x.2 in
        (y.0, y.1, part_from (rules_in later new.listed) (k later) (j later) met (answer (Ok (a later)) y.0) (inl (b later, x.0, z, y.2)));
  }

  pub names_first : (old new : State) (f : Fault) → Names j old new f → Names (λ later. Part (j later) (k later)) old new f
  names_first old new f g = record {
    by = λ met st later l.
        let x = g.by met st later l in
        (x.0, part_from (rules_in later new.listed) (k later) (j later) met (answer (Err f) x.0) (inr (f, x.1, refl)));
  }

  pub names_then : (old mid new : State) (b : List Form → B) (f : Fault) → Gave j old mid b → Left mid new → Names (λ later. k later (b later)) mid new f → Names (λ later. Part (j later) (k later)) old new f
  names_then old mid new b f g left h = record {
    by = λ met st later l.
        let x = g.by met st later (later_on mid.forms new.forms later left.forms l) in
        let y = h.by x.0 x.1 later l in
        let z : Comes (rules_in later new.listed) (j later) met (answer (Ok (b later)) x.0) = subst (λ (d : Listed). Comes (rules_in later d) (j later) met (answer (Ok (b later)) x.0)) (sym left.listed) x.2 in
        (y.0, part_from (rules_in later new.listed) (k later) (j later) met (answer (Err f) y.0) (inl (b later, x.0, z, y.1)));
  }

-- ---- a type is met

-- the term in any later table
term_at : (s : State) (id : TermId) → Within s.forms id → (later : List Form) → Later s.forms later → IsTerm s id (term later id)
term_at s id w later l other m = term_stays s.forms other id m.grows w ∙ sym (term_stays s.forms later id l.grows w)

abbrev pub meeting : TermId → List Form → Judgement (Unit {0})
meeting id later = Meets (term later id) Fine

pub met_few : (old new : State) (id : TermId) → Within old.forms id → Goes old new
    → ((met : List Term) (t : Term) → Stands met old → IsTerm old id t → Stands (met ++ t ∷ []) new)
    → ((met : List Term) (t : Term) → Stands met old → IsTerm old id t → MeetsFew new (met ++ t ∷ [])) → Gave (meeting id) old new (λ later. tt)
met_few old new id w goes stands few = record {
  by = λ met st later l.
      let is = term_at old id w later (later_on old.forms new.forms later goes.forms l) in
      (met ++ term later id ∷ [], stands met (term later id) st is, inl (few met (term later id) st is later l, refl));
}

pub met_many : (old new : State) (id : TermId) → Within old.forms id → Left old new
    → ((met : List Term) (t : Term) → Stands met old → IsTerm old id t → MeetsMany new (met ++ t ∷ [])) → Names (meeting id) old new (fault condition.TooManyTypes 0)
met_many old new id w left many = record {
  by = λ met st later l.
      let is = term_at old id w later (later_on old.forms new.forms later left.forms l) in
      (met ++ term later id ∷ [], inr (many met (term later id) st is later l, refl));
}

pub meet_refused : (old new : State) (id : TermId) (f : MeetFault) (r : Result (Unit {0}) Refusal) → IsErr r × IsErrAnd r (λ e. e ≡ refused_by f) → Within old.forms id → IfTooMany f (Left old new)
    → IfTooMany f ((met : List Term) (t : Term) → Stands met old → IsTerm old id t → MeetsMany new (met ++ t ∷ [])) → Judged (meeting id) old new (λ made later. made) r
meet_refused old new id f (Ok u) h w l m = let z : false ≡ true = h.0 in cc
meet_refused old new id f (Err e) h w l m = subst (λ x. Judged (meeting id) old new (λ (made : Unit {0}) later. made) (Err x)) (sym h.1) (by f l m) where
  by : (f : MeetFault) → IfTooMany f (Left old new) → IfTooMany f ((met : List Term) (t : Term) → Stands met old → IsTerm old id t → MeetsMany new (met ++ t ∷ []))
      → Judged (meeting id) old new (λ (made : Unit {0}) later. made) (Err (refused_by f))
  by meet.TooManyTypes l m = met_many old new id w l m
  by meet.Memory l m = tt

pub meet_left : (old new : State) (f : MeetFault) (r : Result (Unit {0}) Refusal) → IsErr r × IsErrAnd r (λ e. e ≡ refused_by f) → IfTooMany f (Left old new) → IfErr r (LeavesOn old new)
meet_left old new f (Ok u) h l = tt
meet_left old new f (Err e) h l = subst (LeavesOn old new) (sym h.1) (by f l) where
  by : (f : MeetFault) → IfTooMany f (Left old new) → LeavesOn old new (refused_by f)
  by meet.TooManyTypes l = l
  by meet.Memory l = tt

-- ---- conditions

abbrev pub asking : Condition → ℕ → TermId → TermId → List Form → Judgement (Unit {0})
asking c place low high later = Needs c place (IsBelow (term later low) (term later high)) Fine

pub is_below : (s : State) (c : Condition) (place : ℕ) (low high : TermId) → IsBelowAnswer s low high true → Gave (asking c place low high) s s (λ later. tt)
is_below s c place low high a = record { by = λ met st later l. (met, st, inl (a later l, refl)) }

pub is_not_below : (s : State) (c : Condition) (place : ℕ) (low high : TermId) → IsBelowAnswer s low high false → Names (asking c place low high) s s (fault c place)
is_not_below s c place low high a = record { by = λ met st later l. (met, inr (a later l, refl)) }

pub is_so : (s : State) (c : Condition) (place : ℕ) (b : Bool) → b ≡ true → Gave (λ later. Tests c place b Fine) s s (λ later. tt)
is_so s c place b e = subst (λ b. Gave (λ later. Tests c place b Fine) s s (λ later. tt)) (sym e) (record { by = λ met st later l. (met, st, refl) })

pub is_not_so : (s : State) (c : Condition) (place : ℕ) (b : Bool) → b ≡ false → Names (λ later. Tests c place b Fine) s s (fault c place)
is_not_so s c place b e = subst (λ b. Names (λ later. Tests c place b Fine) s s (fault c place)) (sym e) (record { by = λ met st later l. (met, refl) })
