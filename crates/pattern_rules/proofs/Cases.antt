-- Cases, judged one after the other.
use Rattle.std.proofs.Common.{◌≡◌, ◌∙◌, ℕ, suc, true, false, List, [], ◌∷◌, ◌++◌, drop, map, Ok, Err, refl, sym, ap, subst, append_assoc}
use Rattle.std.specs.Prelude.{Result}
use Rattle.std.specs.Result.{IsErr, IsErrAnd}
use Rattle.type_terms.specs.declared.form.TermId.{TermId}
use Rattle.typing_rules.specs.AbstractSyntax as p
use Rattle.typing_rules.specs.Expressions.{JudgeCases}
use Rattle.typing_rules.specs.Judgements.{Judgement, Gives, Part}
use Rattle.typing_rules.specs.TypedTrees.{Note, Typed}
use Rattle.type_definitions.specs.Meanings.{term}
use Rattle.type_definitions.proofs.Meanings.{each_map, grows_not}
use Rattle.met_types.specs.States.{State, Goes}
use Rattle.type_judgements.specs.declared.refusal.Refusal.{Refusal}
use Rattle.abstract_types.specs.PatternView.{plain as plain_pattern}
use Rattle.abstract_tree.specs.declared.expressions.Case.{Case}
use Rattle.abstract_tree.specs.TreeView.{cases, plain, plain_case}
use Rattle.value_scopes.specs.declared.note.Note as value_note
use Rattle.value_scopes.specs.declared.scopes.Scopes.{Scopes}
use Rattle.value_scopes.specs.Values.{noted}
use Rattle.typed_patterns.specs.Making.{pattern_in}
use Rattle.judging.specs.declared.checker.Checker.{Checker}
use Rattle.judging.specs.declared.site.Site.{Site}
use Rattle.judging.specs.Parts.{Sound}
use Rattle.judging.specs.Views.{View, view, definitions, context, typed_in, wanted_in}
use Rattle.judging.specs.Answers.{Answers}
use Rattle.judging.proofs.Chains.{goes_on_from, seen_as, given, goes_on, stops}
use Rattle.judging.proofs.ListParts.{in_front}
use Rattle.judging.proofs.Steps.{reached_on}
use Rattle.pattern_rules.specs.declared.arms.Arm.{Arm}
use Rattle.pattern_rules.specs.Arms.{arm, arm_in, arm_reached, case_of, case_reached, cases_in, cases_reached, judge_cases}
use Rattle.pattern_rules.proofs.Matching.{arm_then, seen_case}

abbrev pub Made : Type 0
Made = Case value_note.Note

in_front_twice : (xs ys : List Made) (r : Result (List Made) Refusal) → in_front xs (in_front ys r) ≡ in_front (xs ++ ys) r
in_front_twice xs ys (Ok rest) = ap (λ l. Ok l) (sym (append_assoc xs ys rest))
in_front_twice xs ys (Err e) = refl

all_reached_on : (s t : State) (made : List Made) → Goes s t → cases_reached s made → cases_reached t made
all_reached_on s t made g h = each_map (case_reached s) (case_reached t) (λ a. reached_on s t a.body.note.kind g) made h

module _ (x : Site) (id : TermId) where
  abbrev one : Case ℕ → View → Judgement (p.Pattern Note × Typed)
  one a = arm x (plain_pattern a.pattern) id (plain a.body)

  abbrev each : List (Case ℕ) → View → Judgement (p.Cases Note)
  each xs = judge_cases x xs id

  -- one, and then the others
  abbrev one_more : Case ℕ → List (Case ℕ) → View → Judgement (p.Cases Note)
  one_more a xs v = Part (one a v) (λ b. Part (each xs v) (λ bs. Gives (p.Case b.0 b.1 bs)))

  one_of : (a : Case ℕ) (xs : List (Case ℕ)) (v : View) → each (a ∷ xs) v ≡ one_more a xs v
  one_of a xs v =
      ap (λ (qs : p.Cases ℕ). JudgeCases (definitions v) (context v x.place) qs (term v.later id) (wanted_in v x.wanted)) (seen_case (λ n. n) a (cases (map plain_case xs)))
      ∙ sym (arm_then x (plain_pattern a.pattern) id (plain a.body) (λ b. Part (each xs v) (λ bs. Gives (p.Case b.0 b.1 bs))) v)

  -- the first is given before the others
  first_given : (b : Made) (xs : List (Case ℕ)) (c d : Scopes) (k l : Checker) (r : Result (List Made) Refusal) → case_reached k.types b
      → Answers cases_in cases_reached (each xs) c k d l r → Answers cases_in cases_reached (λ v. Part (each xs v) (λ bs. Gives (p.Case (pattern_in b.pattern v.later) (typed_in b.body v.later) bs))) c k d l (in_front (b ∷ []) r)
  first_given b xs c d k l (Ok rest) g h =
      goes_on cases_in cases_reached cases_in cases_reached (each xs) (λ v bs. Gives (p.Case (pattern_in b.pattern v.later) (typed_in b.body v.later) bs)) c d d k l l rest (Ok (b ∷ rest)) h
      (given cases_in cases_reached (λ v. Gives (p.Case (pattern_in b.pattern v.later) (typed_in b.body v.later) (cases_in rest v.later))) d l (b ∷ rest) h.outcome.sound
      (reached_on k.types l.types b.body.note.kind h.outcome.goes g, h.outcome.holds) (λ later w. ap (λ (z : p.Cases Note). Gives z) (sym (seen_case (λ n. noted later n) b (cases_in rest later)))))
  first_given b xs c d k l (Err e) g h = stops cases_in cases_reached cases_in cases_reached (each xs) (λ v bs. Gives (p.Case (pattern_in b.pattern v.later) (typed_in b.body v.later) bs)) c d k l e (Err e) (refl, refl) h

  module _ (xs : List (Case ℕ)) (c : Scopes) (k : Checker) where
    -- the first of these are given, and the others are still to be judged
    pub record Judging (i : ℕ) (made : List Made) (d : Scopes) (l : Checker) : Type 0 where
      pub goes : Goes k.types l.types
      pub reached : cases_reached l.types made
      pub rest : (e : Scopes) (m : Checker) (r : Result (List Made) Refusal) → Answers cases_in cases_reached (each (drop i xs)) d l e m r → Answers cases_in cases_reached (each xs) c k e m (in_front made r)

    pub none_yet : Judging 0 [] c k
    none_yet = record {
      goes = record { forms = grows_not k.types.forms; listed = refl; outcomes = refl; reached = λ i u h. h };
      reached = tt;
      rest = λ e m r h. subst (λ z. Answers cases_in cases_reached (each xs) c k e m z) (sym (nothing_before r)) h;
    } where
      nothing_before : (r : Result (List Made) Refusal) → in_front [] r ≡ r
      nothing_before (Ok rest) = refl
      nothing_before (Err e) = refl

    module _ (i : ℕ) (made : List Made) (d e : Scopes) (l m : Checker) (a : Case ℕ) (at : drop i xs ≡ a ∷ drop (suc i) xs) (j : Judging i made d l) where
      turned : (f : Scopes) (n : Checker) (r : Result (List Made) Refusal) → Answers cases_in cases_reached (one_more a (drop (suc i) xs)) d l f n r → Answers cases_in cases_reached (each xs) c k f n (in_front made r)
      turned f n r h =
          j.rest f n r (seen_as cases_in cases_reached (each (drop i xs)) (one_more a (drop (suc i) xs)) d f l n r
          (λ later w. ap (λ ys. each ys (view later l.types.listed d)) at ∙ one_of a (drop (suc i) xs) (view later l.types.listed d)) h)

      -- one more
      pub next : (b : Arm) (more : List Made) → more ≡ made ++ case_of b ∷ [] → Answers arm_in arm_reached (one a) d l e m (Ok b) → Judging (suc i) more e m
      next b more q h = record {
        goes = goes_on_from k.types l.types m.types j.goes h.outcome.goes;
        reached = subst (λ z. cases_reached m.types z) (sym q) (each_more made (case_of b) (all_reached_on l.types m.types made h.outcome.goes j.reached) h.outcome.holds);
        rest = λ f n r g.
            subst (λ z. Answers cases_in cases_reached (each xs) c k f n z) (in_front_twice made (case_of b ∷ []) r ∙ ap (λ z. in_front z r) (sym q))
            (turned f n (in_front (case_of b ∷ []) r)
            (goes_on cases_in cases_reached arm_in arm_reached (one a) (λ v z. Part (each (drop (suc i) xs) v) (λ bs. Gives (p.Case z.0 z.1 bs))) d e f l m n b (in_front (case_of b ∷ []) r) h
            (first_given (case_of b) (drop (suc i) xs) e f m n r h.outcome.holds g)));
      } where
        each_more : (made : List Made) (b : Made) → cases_reached m.types made → case_reached m.types b → cases_reached m.types (made ++ b ∷ [])
        each_more [] b h g = (g, tt)
        each_more (y ∷ made) b h g = (h.0, each_more made b h.1 g)

      -- one that is not typed
      pub refused : (q : Refusal) (r : Result (List Made) Refusal) → IsErr r × IsErrAnd r (λ z. z ≡ q) → Answers arm_in arm_reached (one a) d l e m (Err q) → Answers cases_in cases_reached (each xs) c k e m r
      refused q (Ok rest) g h = let z : false ≡ true = g.0 in cc
      refused q (Err z) g h = turned e m (Err z) (stops cases_in cases_reached arm_in arm_reached (one a) (λ v y. Part (each (drop (suc i) xs) v) (λ bs. Gives (p.Case y.0 y.1 bs))) d e l m q (Err z) g h)

    -- all of them
    pub all_judged : (i : ℕ) (made : List Made) (d : Scopes) (l : Checker) → drop i xs ≡ [] → Sound l d → Judging i made d l → Answers cases_in cases_reached (each xs) c k d l (Ok made)
    all_judged i made d l q s j =
        subst (λ z. Answers cases_in cases_reached (each xs) c k d l (Ok z)) (append_nil made)
        (j.rest d l (Ok []) (given cases_in cases_reached (each (drop i xs)) d l [] s tt (λ later w. ap (λ ys. each ys (view later l.types.listed d)) q)))
      where
        append_nil : (made : List Made) → made ++ [] ≡ made
        append_nil [] = refl
        append_nil (a ∷ made) = ap (λ z. a ∷ z) (append_nil made)
