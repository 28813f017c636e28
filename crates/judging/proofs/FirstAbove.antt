-- The first of several types that all others are below.
use Rattle.std.proofs.Common.{◌≡◌, ℕ, zero, suc, ◌+◌, ◌<◌, ◌≤◌, inl, inr, Bool, true, false, List, [], ◌∷◌, drop, map, length, get_or, Ok, Err, refl, sym, ap, ◌∙◌, subst, arith}
use Rattle.std.proofs.Math.Seq.{drop-cons}
use Rattle.mo_types.specs.Sub.{Each}
use Rattle.type_terms.specs.declared.form.Form.{Form}
use Rattle.type_terms.specs.declared.form.TermId.{TermId}
use Rattle.typing_rules.specs.declared.condition.Condition.{Condition}
use Rattle.typing_rules.specs.Terms.{Term}
use Rattle.typing_rules.specs.Judgements.{Judgement, Gives, If, AsksAll}
use Rattle.typing_rules.specs.Answers.{fault, answer, Answer, Comes}
use Rattle.typing_rules.specs.Ends.{FirstAbove, Greatest}
use Rattle.type_definitions.specs.Meanings.{term}
use Rattle.type_definitions.specs.Tables.{Later}
use Rattle.type_definitions.specs.Definitions.{rules_in}
use Rattle.met_types.specs.States.{State, IsBelowAnswer}
use Rattle.type_judgements.specs.Judged.{Gave, Names}
use Rattle.judging.specs.Questions.{all_below, IsAboveAll}

module _ (s : State) (kind : TermId) (kinds : List TermId) where
  -- what the first of these are is known, and the others are still to be asked
  abbrev pub Left : List TermId → Type 0
  Left rest = (later : List Form) → Later s.forms later → (j : Bool → Judgement Term) (met : List Term) (r : Answer Term)
      → Comes (rules_in later s.listed) (AsksAll (all_below later kind rest) j) met r → Comes (rules_in later s.listed) (AsksAll (all_below later kind kinds) j) met r

  pub one_is_not : (rest others : List TermId) (one : TermId) → Left rest → rest ≡ one ∷ others → IsBelowAnswer s one kind false → IsAboveAll s kind kinds false
  one_is_not rest others one h e a later l j met r g =
      h later l j met r (subst (λ (ids : List TermId). Comes (rules_in later s.listed) (AsksAll (all_below later kind ids) j) met r) (sym e) (inr (a later l, g)))

  pub one_is : (rest others : List TermId) (one : TermId) → Left rest → rest ≡ one ∷ others → IsBelowAnswer s one kind true → Left others
  one_is rest others one h e a later l j met r g =
      h later l j met r (subst (λ (ids : List TermId). Comes (rules_in later s.listed) (AsksAll (all_below later kind ids) j) met r) (sym e) (inl (a later l, g)))

  pub all_are : (rest : List TermId) → Left rest → rest ≡ [] → IsAboveAll s kind kinds true
  all_are rest h e later l j met r g =
      h later l j met r (subst (λ (ids : List TermId). Comes (rules_in later s.listed) (AsksAll (all_below later kind ids) j) met r) (sym e) g)

module _ (s : State) (c : Condition) (place : ℕ) (kinds : List TermId) where
  -- the first of these are not above all others
  abbrev pub Tried : List TermId → Type 0
  Tried rest = (later : List Form) → Later s.forms later → (met : List Term) (r : Answer Term)
      → Comes (rules_in later s.listed) (FirstAbove c place (map (term later) kinds) (map (term later) rest)) met r → Comes (rules_in later s.listed) (Greatest c place (map (term later) kinds)) met r

  pub one_not_above : (rest others : List TermId) (one : TermId) → Tried rest → rest ≡ one ∷ others → IsAboveAll s one kinds false → Tried others
  one_not_above rest others one h e a later l met r g =
      h later l met r (subst (λ (ids : List TermId). Comes (rules_in later s.listed) (FirstAbove c place (map (term later) kinds) (map (term later) ids)) met r) (sym e)
      (a later l (λ yes. If yes (λ _. Gives (term later one)) (λ _. FirstAbove c place (map (term later) kinds) (map (term later) others))) met r g))

  pub one_above : (rest others : List TermId) (one : TermId) → Tried rest → rest ≡ one ∷ others → IsAboveAll s one kinds true
      → Gave (λ later. Greatest c place (map (term later) kinds)) s s (λ later. term later one)
  one_above rest others one h e a = record {
    by = λ met st later l. (
      met,
      st,
      h later l met (answer (Ok (term later one)) met) (subst (λ (ids : List TermId). Comes (rules_in later s.listed) (FirstAbove c place (map (term later) kinds) (map (term later) ids)) met (answer (Ok (term later one)) met)) (sym e)
          (a later l (λ yes. If yes (λ _. Gives (term later one)) (λ _. FirstAbove c place (map (term later) kinds) (map (term later) others))) met (answer (Ok (term later one)) met) refl)),
    );
  }

  pub none_above : (rest : List TermId) → Tried rest → rest ≡ [] → Names (λ later. Greatest c place (map (term later) kinds)) s s (fault c place)
  none_above rest h e = record {
    by = λ met st later l. (
      met,
      h later l met (answer (Err (fault c place)) met)
          (subst (λ (ids : List TermId). Comes (rules_in later s.listed) (FirstAbove c place (map (term later) kinds) (map (term later) ids)) met (answer (Err (fault c place)) met)) (sym e) refl),
    );
  }

-- ---- the types that are still to be tried

pub next_of : (xs : List TermId) (i : ℕ) (d : TermId) → i < length xs → drop i xs ≡ get_or xs i d ∷ drop (i + 1) xs
next_of xs i d h =
    let k : suc i ≡ i + 1 = omega arith in
    drop-cons xs i d h ∙ ap (λ (n : ℕ). get_or xs i d ∷ drop n xs) k

pub each_of : (P : TermId → Type 0) (xs : List TermId) (i : ℕ) (d : TermId) → Each P xs → i < length xs → P (get_or xs i d)
each_of P [] i d h l = absurd (omega arith)
each_of P (x ∷ xs) zero d h l = h.0
each_of P (x ∷ xs) (suc i) d h l = each_of P xs i d h.1 (omega arith)

pub no_more_of : (xs : List TermId) (i : ℕ) → length xs ≤ i → drop i xs ≡ []
no_more_of [] zero h = refl
no_more_of [] (suc i) h = refl
no_more_of (x ∷ xs) zero h = absurd (omega arith)
no_more_of (x ∷ xs) (suc i) h = no_more_of xs i (omega arith)
