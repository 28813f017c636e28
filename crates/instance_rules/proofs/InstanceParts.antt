-- The types of functions at type arguments, by steps.
use Rattle.std.proofs.Common.{◌≡◌, ◌∙◌, ℕ, zero, suc, true, false, List, [], ◌∷◌, length, map, Ok, Err, refl, sym, ap, subst, arith}
use Rattle.std.proofs.lemmas.Bool.{ne_eqb}
use Rattle.std.proofs.lemmas.List.{length-map}
use Rattle.std.proofs.Math.Dec.{eqb-suc-suc}
use Rattle.std.specs.Prelude.{Result, nat_eq}
use Rattle.std.specs.Result.{IsErr, IsErrAnd}
use Rattle.type_terms.specs.declared.form.Form.{Form}
use Rattle.type_terms.specs.declared.form.TermId.{TermId}
use Rattle.typing_rules.specs.declared.condition.Condition.{Condition}
use Rattle.typing_rules.specs.declared.condition.Condition.TheVariants as condition
use Rattle.typing_rules.specs.AbstractSyntax.{TypeNode}
use Rattle.typing_rules.specs.Calls.{bound_questions, bound_terms}
use Rattle.typing_rules.specs.Judgements.{Fine, Gives, IsBelow, Judgement, Meets, MeetsEach, Needs, NeedsEach, Part, Question}
use Rattle.typing_rules.specs.Terms.{Term, with_arguments, zipped}
use Rattle.type_definitions.specs.Definitions.{Listed}
use Rattle.type_definitions.specs.Meanings.{term}
use Rattle.met_types.specs.States.{State}
use Rattle.type_judgements.specs.declared.refusal.Refusal.{Refusal}
use Rattle.type_judgements.specs.declared.refusal.Refusal.TheVariants as refusal
use Rattle.proper_types.proofs.Turns.{part_assoc}
use Rattle.value_scopes.specs.declared.bound.Bound.{Bound}
use Rattle.value_scopes.specs.declared.scopes.Scopes.{Scopes}
use Rattle.judging.specs.declared.checker.Checker.{Checker}
use Rattle.judging.specs.Views.{View, definitions, no_more, nothing, term_in, view}
use Rattle.judging.specs.Answers.{Answers}
use Rattle.judging.proofs.Cases.{tests_fail, tests_hold}
use Rattle.judging.proofs.Chains.{after, given, goes_on, seen_as, stops}
use Rattle.judging.proofs.Steps.{needs_then, sound_on}
use Rattle.scope_judging.specs.Rules.{kind_within}
use Rattle.type_steps.specs.Steps.{each_below, meeting_each, needing_each}
use Rattle.instance_rules.specs.Instances.{AreBoundsWith, IsWith, Puts, PutsEach, all_reached, at_arguments, bound_with, instance, reads_each, terms_in, with_these}

abbrev pub Handed : Result TermId Refusal → Refusal → Type 0
Handed r e = IsErr r × IsErrAnd r (λ y. y ≡ e)

-- ---- steps in turn

meets_then : {A : Type 0} (us : List Term) (j : Judgement A) → MeetsEach us j ≡ Part (MeetsEach us Fine) (λ _. j)
meets_then [] j = refl
meets_then (u ∷ us) j = ap (Meets u) (meets_then us j)

needs_each_then : {A : Type 0} (q : Condition) (at : ℕ) (us : List Question) (j : Judgement A) → NeedsEach q at us j ≡ Part (NeedsEach q at us Fine) (λ _. j)
needs_each_then q at [] j = refl
needs_each_then {A} q at (u ∷ us) j =
    needs_then q at u (NeedsEach q at us j)
    ∙ (ap (λ (i : Judgement A). Part (Needs q at u Fine) (λ _. i)) (needs_each_then q at us j)
    ∙ (sym (part_assoc (Needs q at u Fine) (λ _. NeedsEach q at us Fine) (λ _. j))
    ∙ ap (λ (i : Judgement (Unit {0})). Part i (λ _. j)) (sym (needs_then q at u (NeedsEach q at us Fine)))))

-- ---- bounds of parameters with their arguments

module _ (f : ℕ → Term) where
  each_bound : (gs : List ℕ) (us : List Term) → length us ≡ length gs → map (λ (q : ℕ × Term). f q.0) (zipped gs us) ≡ map f gs
  each_bound [] us e = refl
  each_bound (g ∷ gs) [] e = absurd (omega (arith, e))
  each_bound (g ∷ gs) (u ∷ us) e =
      let h : length us ≡ length gs = omega (arith, e) in
      ap (λ (ts : List Term). f g ∷ ts) (each_bound gs us h)

  each_question : (gs : List ℕ) (us : List Term) → map (λ (q : ℕ × Term). IsBelow q.1 (f q.0)) (zipped gs us) ≡ each_below us (map f gs)
  each_question [] [] = refl
  each_question [] (u ∷ us) = refl
  each_question (g ∷ gs) [] = refl
  each_question (g ∷ gs) (u ∷ us) = ap (λ (qs : List Question). IsBelow u (f g) ∷ qs) (each_question gs us)

many_terms : (later : List Form) (us : List TermId) (gs : List ℕ) → length us ≡ length gs → length (map (term later) us) ≡ length gs
many_terms later us gs e = many us ∙ e where
  many : (us : List TermId) → length (map (term later) us) ≡ length us
  many [] = refl
  many (u ∷ us) = let h : length (map (term later) us) ≡ length us = many us in omega (arith, h)

-- the same by lists that are as these
pub bounds_as : (k s : State) (us : List TermId) (gs ps xs : List ℕ) (ids bounds : List TermId) → ps ≡ gs → xs ≡ gs → bounds ≡ ids → PutsEach k (AreBoundsWith ps us k.listed xs ids) xs ids s
    → PutsEach k (AreBoundsWith gs us k.listed gs bounds) gs bounds s
bounds_as k s us gs ps xs ids bounds e f g h =
    subst (λ (zs : List TermId). PutsEach k (AreBoundsWith gs us k.listed gs zs) gs zs s) (sym g)
    (subst (λ (ys : List ℕ). PutsEach k (AreBoundsWith gs us k.listed ys ids) ys ids s) f (subst (λ (ys : List ℕ). PutsEach k (AreBoundsWith ys us k.listed xs ids) xs ids s) e h))

pub with_as : (k s : State) (us : List TermId) (gs ps : List ℕ) (kind id : TermId) → ps ≡ gs → Puts k (IsWith ps us kind id) id s → Puts k (IsWith gs us kind id) id s
with_as k s us gs ps kind id e h = subst (λ (ys : List ℕ). Puts k (IsWith ys us kind id) id s) e h

module _ (at : ℕ) (b : Bound) (us : List TermId) where
  abbrev result : View → Judgement Term
  result v = Gives (with_these b.generics us v.later (term v.later b.kind))

  abbrev by_steps : List TermId → View → Judgement Term
  by_steps bounds v = Part (meeting_each bounds v) (λ _. Part (needing_each condition.Bound at us bounds v) (λ _. result v))

  as_steps : (bounds : List TermId) (v : View) → length us ≡ length b.generics → map (term v.later) bounds ≡ map (bound_with b.generics us v.listed v.later) b.generics → at_arguments at b us v ≡ by_steps bounds v
  as_steps bounds v n e =
      let all : List (ℕ × Term) = zipped b.generics (map (term v.later) us) in
      let f : ℕ → Term = bound_with b.generics us v.listed v.later in
      let ts : List Term = map (term v.later) bounds in
      let terms : bound_terms (definitions v) all all ≡ ts = each_bound f b.generics (map (term v.later) us) (many_terms v.later us b.generics n) ∙ sym e in
      let questions : bound_questions (definitions v) all all ≡ each_below (map (term v.later) us) ts = each_question f b.generics (map (term v.later) us) ∙ ap (each_below (map (term v.later) us)) (sym e) in
      ap (λ (ws : List Term). MeetsEach ws (NeedsEach condition.Bound at (bound_questions (definitions v) all all) (result v))) terms
      ∙ (ap (λ (qs : List Question). MeetsEach ts (NeedsEach condition.Bound at qs (result v))) questions
      ∙ (meets_then ts (NeedsEach condition.Bound at (each_below (map (term v.later) us) ts) (result v))
      ∙ ap (λ (j : Judgement Term). Part (MeetsEach ts Fine) (λ _. j)) (needs_each_then condition.Bound at (each_below (map (term v.later) us) ts) (result v))))

  module _ (c : Scopes) (k : Checker) (s : State) (bounds : List TermId) (n : length us ≡ length b.generics) (p : PutsEach k.types (AreBoundsWith b.generics us k.types.listed b.generics bounds) b.generics bounds s) where
    abbrev put : Checker
    put = record k { types = s }

    abbrev needed : View → Unit {0} → Judgement Term
    needed v _ = Part (needing_each condition.Bound at us bounds v) (λ _. result v)

    from_steps : (l : Checker) (r : Result TermId Refusal) → Answers term_in kind_within (by_steps bounds) c put c l r → Answers term_in kind_within (at_arguments at b us) c k c l r
    from_steps l r h =
        after term_in kind_within (at_arguments at b us) c c c k put l r p.goes p.stands refl
        (seen_as term_in kind_within (at_arguments at b us) (by_steps bounds) c c put l r
        (λ later w. as_steps bounds (view later s.listed c) n (p.is later w ∙ ap (λ (d : Listed). map (bound_with b.generics us d later) b.generics) (sym p.goes.listed))) h)

    pub not_met : (l : Checker) (e : Refusal) (r : Result TermId Refusal) → Handed r e → Answers nothing no_more (meeting_each bounds) c put c l (Err e) → Answers term_in kind_within (at_arguments at b us) c k c l r
    not_met l e r g h = from_steps l r (stops term_in kind_within nothing no_more (meeting_each bounds) needed c c put l e r g h)

    module _ (l : Checker) (m : Answers nothing no_more (meeting_each bounds) c put c l (Ok tt)) where
      pub not_below : (e : Refusal) (r : Result TermId Refusal) → Handed r e → Answers nothing no_more (needing_each condition.Bound at us bounds) c l c l (Err e) → Answers term_in kind_within (at_arguments at b us) c k c l r
      not_below e r g h =
          from_steps l r
          (goes_on term_in kind_within nothing no_more (meeting_each bounds) needed c c c put l l tt r m
          (stops term_in kind_within nothing no_more (needing_each condition.Bound at us bounds) (λ v _. result v) c c l l e r g h))

      pub is_instance : Answers nothing no_more (needing_each condition.Bound at us bounds) c l c l (Ok tt) → (id : TermId) (o : State) → Puts l.types (IsWith b.generics us b.kind id) id o
          → Answers term_in kind_within (at_arguments at b us) c k c (record l { types = o }) (Ok id)
      is_instance h id o q =
          let last : Checker = record l { types = o } in
          from_steps last (Ok id)
          (goes_on term_in kind_within nothing no_more (meeting_each bounds) needed c c c put l last tt (Ok id) m
          (goes_on term_in kind_within nothing no_more (needing_each condition.Bound at us bounds) (λ v _. result v) c c c l l last tt (Ok id) h
          (after term_in kind_within result c c c l last last (Ok id) q.goes q.stands refl
          (given term_in kind_within result c last id (sound_on l c o h.outcome.sound q.kept q.goes) q.within (λ later w. ap (λ (u : Term). Gives u) (sym (q.is later w)))))))

-- ---- type arguments that are written

pub counted : {A B : Type 0} (f : A → B) (xs : List A) (gs : List ℕ) (m : ℕ) → length xs ≡ m → m ≡ length gs → nat_eq (length (map f xs)) (length gs) ≡ true
counted f xs gs m e g = ap (λ (n : ℕ). nat_eq n (length gs)) (length-map xs f ∙ (e ∙ g)) ∙ itself (length gs) where
  itself : (n : ℕ) → nat_eq n n ≡ true
  itself zero = refl
  itself (suc n) = eqb-suc-suc n n ∙ itself n

pub not_counted : {A B : Type 0} (f : A → B) (xs : List A) (gs : List ℕ) (m : ℕ) → (length xs ≡ m → ⊥) → m ≡ length gs → nat_eq (length (map f xs)) (length gs) ≡ false
not_counted f xs gs m n g = ne_eqb (length (map f xs)) (length gs) (λ h. n (sym (length-map xs f) ∙ (h ∙ sym g)))

module _ (at : ℕ) (b : Bound) (ns : List TypeNode) (c : Scopes) (k : Checker) where
  abbrev behind : View → List Term → Judgement Term
  behind v us =
      MeetsEach (bound_terms (definitions v) (zipped b.generics us) (zipped b.generics us))
      (NeedsEach condition.Bound at (bound_questions (definitions v) (zipped b.generics us) (zipped b.generics us)) (Gives (with_arguments (zipped b.generics us) (term v.later b.kind))))

  abbrev read_first : View → Judgement Term
  read_first v = Part (reads_each ns v) (behind v)

  pub not_as_many : nat_eq (length ns) (length b.generics) ≡ false → Answers term_in kind_within (instance at b ns) c k c k (Err (refusal.False at condition.TypeArguments))
  not_as_many e = tests_fail term_in kind_within condition.TypeArguments at (nat_eq (length ns) (length b.generics)) read_first c k e

  module _ (e : nat_eq (length ns) (length b.generics) ≡ true) where
    from_reading : (l : Checker) (r : Result TermId Refusal) → Answers term_in kind_within read_first c k c l r → Answers term_in kind_within (instance at b ns) c k c l r
    from_reading l r h = tests_hold term_in kind_within condition.TypeArguments at (nat_eq (length ns) (length b.generics)) read_first c c k l r e h

    pub not_read : (l : Checker) (q : Refusal) (r : Result TermId Refusal) → Handed r q → Answers terms_in all_reached (reads_each ns) c k c l (Err q) → Answers term_in kind_within (instance at b ns) c k c l r
    not_read l q r g h = from_reading l r (stops term_in kind_within terms_in all_reached (reads_each ns) behind c c k l q r g h)

    pub instance_given : (l m : Checker) (us : List TermId) (r : Result TermId Refusal) → Answers terms_in all_reached (reads_each ns) c k c l (Ok us) → Answers term_in kind_within (at_arguments at b us) c l c m r
        → Answers term_in kind_within (instance at b ns) c k c m r
    instance_given l m us r h i = from_reading m r (goes_on term_in kind_within terms_in all_reached (reads_each ns) behind c c c k l m us r h i)
