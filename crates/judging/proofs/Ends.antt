-- How rules end: types that are met, branches, and jumps.
use Rattle.std.proofs.Common.{◌≡◌, ℕ, List, Ok, Err, Option, Some, None, option_map, map, refl, sym, ap, subst}
use Rattle.std.specs.Prelude.{Result}
use Rattle.std.specs.Result.{IsErr, IsErrAnd}
use Rattle.type_terms.specs.declared.form.Form.{Form}
use Rattle.type_terms.specs.declared.form.TermId.{TermId}
use Rattle.typing_rules.specs.declared.condition.Condition.TheVariants as condition
use Rattle.typing_rules.specs.AbstractSyntax as p
use Rattle.typing_rules.specs.Terms.{Term}
use Rattle.typing_rules.specs.Terms as t
use Rattle.typing_rules.specs.Judgements.{Judgement, Gives, Meets, Part, Needs, Fine, IsBelow}
use Rattle.typing_rules.specs.TypedTrees.{Note, Typed, typed}
use Rattle.typing_rules.specs.Ends.{Has, Leaves, Greatest, Branches}
use Rattle.type_definitions.specs.Meanings.{term, term_of}
use Rattle.type_definitions.specs.Tables.{Later}
use Rattle.met_types.specs.States.{State, Stands, Goes, IsReached}
use Rattle.type_judgements.specs.Judged.{Gave, Judged}
use Rattle.type_judgements.specs.LeftBehind.{LeavesOn}
use Rattle.type_judgements.specs.declared.refusal.Refusal.{Refusal}
use Rattle.abstract_tree.specs.declared.expressions.Expression as value
use Rattle.value_scopes.specs.declared.note.Note as value_note
use Rattle.value_scopes.specs.declared.scopes.Scopes.{Scopes}
use Rattle.judging.specs.declared.checker.Checker.{Checker}
use Rattle.judging.specs.declared.site.Site.{Site}
use Rattle.judging.specs.Parts.{Sound}
use Rattle.judging.specs.Views.{View, wanted_in, term_in, typed_in, kind_reached, nothing, no_more}
use Rattle.judging.specs.Answers.{Answers}
use Rattle.judging.proofs.Chains.{seen_as, after, given, goes_on, stops}
use Rattle.judging.proofs.Steps.{IsOf, refused_as, judged_as, needs_then}

abbrev Answered : Type 0
Answered = Result (value.Expression value_note.Note) Refusal

-- ---- a type without parts is met

abbrev meeting : TermId → View → Judgement (Unit {0})
meeting id v = Meets (term v.later id) Fine

module _ (form : Form) (id : TermId) (c : Scopes) (k l m : Checker) (g : Goes k.types l.types) (s : (met : List Term) → Stands met k.types → Stands met l.types)
    (is : (later : List Form) → Later l.types.forms later → IsOf form id later) where
  abbrev asked : View → Judgement Term
  asked v = Meets (term_of (term v.later) form) (Gives (term_of (term v.later) form))

  abbrev found : View → Judgement Term
  found v = Meets (term v.later id) (Gives (term v.later id))

  from_found : (r : Result TermId Refusal) → Answers term_in IsReached found c l c m r → Answers term_in IsReached asked c k c m r
  from_found r h =
      after term_in IsReached asked c c c k l m r g s refl
      (seen_as term_in IsReached asked found c c l m r (λ later w. ap (λ (u : Term). Meets u (Gives u)) (sym (is later w))) h)

  pub form_met : Sound m c → Goes l.types m.types → IsReached m.types id → Gave (λ later. Meets (term later id) Fine) l.types m.types (λ later. tt) → Answers term_in IsReached asked c k c m (Ok id)
  form_met q h i j =
      from_found (Ok id)
      (goes_on term_in IsReached nothing no_more (meeting id) (λ v _. Gives (term v.later id)) c c c l m m tt (Ok id)
      (record { outcome = record { sound = q; same = refl; goes = h; holds = tt; gave = j } })
      (given term_in IsReached (λ v. Gives (term v.later id)) c m id q i (λ later w. refl)))

  pub form_unmet : (e : Refusal) (r : Result TermId Refusal) → IsErr r × IsErrAnd r (λ y. y ≡ e) → LeavesOn l.types m.types e → Judged (λ later. Meets (term later id) Fine) l.types m.types nothing (Err e)
      → Answers term_in IsReached asked c k c m r
  form_unmet e r h left j =
      from_found r
      (stops term_in IsReached nothing no_more (meeting id) (λ v _. Gives (term v.later id)) c c l m e r h (refused_as nothing no_more (λ later. Meets (term later id) Fine) nothing c c l m e left j))

-- ---- () is below a type

module _ (at : ℕ) (kind : TermId) (c : Scopes) (k l : Checker) where
  abbrev unit_met : View → Judgement Term
  unit_met v = Meets t.unit (Gives t.unit)

  abbrev is_taken : View → Term → Judgement (Unit {0})
  is_taken v u = Needs condition.Mismatch at (IsBelow u (term v.later kind)) Fine

  abbrev pub takes : View → Judgement (Unit {0})
  takes v = Meets t.unit (Needs condition.Mismatch at (IsBelow t.unit (term v.later kind)) Fine)

  pub taken : (id : TermId) (r : Result (Unit {0}) Refusal) → Sound l c → Answers term_in IsReached unit_met c k c l (Ok id)
      → Judged (λ later. Needs condition.Mismatch at (IsBelow (term later id) (term later kind)) Fine) l.types l.types nothing r → Answers nothing no_more takes c k c l r
  taken id r s h j =
      goes_on nothing no_more term_in IsReached unit_met is_taken c c c k l l id r h
      (judged_as nothing no_more (λ later. Needs condition.Mismatch at (IsBelow (term later id) (term later kind)) Fine) c l r s (λ u e. tt) j)

  pub no_unit : (e : Refusal) (r : Result (Unit {0}) Refusal) → IsErr r × IsErrAnd r (λ y. y ≡ e) → Answers term_in IsReached unit_met c k c l (Err e) → Answers nothing no_more takes c k c l r
  no_unit e r h j = stops nothing no_more term_in IsReached unit_met is_taken c c k l e r h j

-- ---- a jump

module _ (x : Site) (kind : TermId) (f : List Form → p.Form Note) (c : Scopes) (k : Checker) where
  abbrev jumps : View → Judgement Typed
  jumps v = Leaves x.at (wanted_in v x.wanted) (term v.later kind) (f v.later)

  abbrev leaving : View → Unit {0} → Judgement Typed
  leaving v _ = Has x.at (wanted_in v x.wanted) t.Bottom (f v.later)

  as_taken : (l : Checker) (r : Answered) → Answers typed_in kind_reached (λ v. Part (takes x.at kind c k k v) (leaving v)) c k c l r → Answers typed_in kind_reached jumps c k c l r
  as_taken l r h =
      seen_as typed_in kind_reached jumps (λ v. Part (takes x.at kind c k k v) (leaving v)) c c k l r
      (λ later w. ap (λ (j : Judgement Typed). Meets t.unit j) (needs_then condition.Mismatch x.at (IsBelow t.unit (term later kind)) (Has x.at (option_map (term later) x.wanted) t.Bottom (f later)))) h

  pub jumped : (l m : Checker) (r : Answered) → Answers nothing no_more (takes x.at kind c k l) c k c l (Ok tt) → Answers typed_in kind_reached (λ v. leaving v tt) c l c m r → Answers typed_in kind_reached jumps c k c m r
  jumped l m r h j = as_taken m r (goes_on typed_in kind_reached nothing no_more (takes x.at kind c k k) leaving c c c k l m tt r h j)

  pub no_jump : (l : Checker) (e : Refusal) (r : Answered) → IsErr r × IsErrAnd r (λ y. y ≡ e) → Answers nothing no_more (takes x.at kind c k l) c k c l (Err e) → Answers typed_in kind_reached jumps c k c l r
  no_jump l e r g h = as_taken l r (stops typed_in kind_reached nothing no_more (takes x.at kind c k k) leaving c c k l e r g h)

-- ---- branches

ok_reached : (s : State) (a b : TermId) → ◌≡◌ {A = Result TermId Refusal} (Ok a) (Ok b) → IsReached s a → IsReached s b
ok_reached s a b e i = let z : a ≡ b = cc in subst (IsReached s) z i

none_reached : (s : State) (q : Refusal) (b : TermId) → ◌≡◌ {A = Result TermId Refusal} (Err q) (Ok b) → IsReached s b
none_reached s q b e = cc

module _ (x : Site) (kinds : List TermId) (f : List Form → p.Form Note) (c : Scopes) (k : Checker) where
  abbrev branches : View → Judgement Typed
  branches v = Branches x.at (wanted_in v x.wanted) (map (term v.later) kinds) (f v.later)

  abbrev branches_at : Option TermId → View → Judgement Typed
  branches_at o v = Branches x.at (option_map (term v.later) o) (map (term v.later) kinds) (f v.later)

  abbrev greatest_of : List Form → Judgement Term
  greatest_of later = Greatest condition.Branches x.at (map (term later) kinds)

  abbrev is_given : View → Term → Judgement Typed
  is_given v u = Has x.at None u (f v.later)

  pub branch_wanted : (w : TermId) (l : Checker) (r : Answered) → x.wanted ≡ Some w → Answers typed_in kind_reached (λ v. Gives (typed x.at (term v.later w) (f v.later))) c k c l r
      → Answers typed_in kind_reached branches c k c l r
  branch_wanted w l r e h = subst (λ (o : Option TermId). Answers typed_in kind_reached (branches_at o) c k c l r) (sym e) h

  pub branch_greatest : (kind : TermId) (l : Checker) (r : Answered) → x.wanted ≡ None → Sound k c → IsReached k.types kind → Gave greatest_of k.types k.types (term_in kind)
      → Answers typed_in kind_reached (λ v. Has x.at (wanted_in v x.wanted) (term v.later kind) (f v.later)) c k c l r → Answers typed_in kind_reached branches c k c l r
  branch_greatest kind l r e s i g h =
      subst (λ (o : Option TermId). Answers typed_in kind_reached (branches_at o) c k c l r) (sym e)
      (goes_on typed_in kind_reached term_in IsReached (λ v. greatest_of v.later) is_given c c c k k l kind r
      (judged_as term_in IsReached greatest_of c k (Ok kind) s (λ m q. ok_reached k.types kind m q i) g)
      (subst (λ (o : Option TermId). Answers typed_in kind_reached (λ v. Has x.at (option_map (term v.later) o) (term v.later kind) (f v.later)) c k c l r) e h))

  pub no_branch : (q : Refusal) (r : Answered) → x.wanted ≡ None → IsErr r × IsErrAnd r (λ y. y ≡ q) → Sound k c → Judged greatest_of k.types k.types term_in (Err q) → Answers typed_in kind_reached branches c k c k r
  no_branch q r e h s g =
      subst (λ (o : Option TermId). Answers typed_in kind_reached (branches_at o) c k c k r) (sym e)
      (stops typed_in kind_reached term_in IsReached (λ v. greatest_of v.later) is_given c c k k q r h
      (judged_as term_in IsReached greatest_of c k (Err q) s (λ m z. none_reached k.types q m z) g))
