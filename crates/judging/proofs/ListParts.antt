-- Lists of parts, judged one after the other.
use Rattle.std.proofs.Common.{◌≡◌, ◌∙◌, ℕ, zero, suc, ◌<◌, true, false, List, [], ◌∷◌, ◌++◌, length, drop, get_or, map, slice_get, Ok, Err, Option, Some, IfSome, refl, sym, ap, subst, append_assoc}
use Rattle.std.proofs.Math.Seq.{drop-cons}
use Rattle.std.specs.Prelude.{Result}
use Rattle.std.specs.Result.{IsErr, IsErrAnd}
use Rattle.mo_types.specs.Sub.{Each}
use Rattle.type_terms.specs.declared.form.TermId.{TermId}
use Rattle.typing_rules.specs.AbstractSyntax as p
use Rattle.typing_rules.specs.Terms.{Term}
use Rattle.typing_rules.specs.Judgements.{Judgement, Gives, Part}
use Rattle.typing_rules.specs.TypedTrees.{Note}
use Rattle.typing_rules.specs.Expressions.{JudgeEach}
use Rattle.type_definitions.specs.Meanings.{term}
use Rattle.type_definitions.proofs.Meanings.{each_map, grows_not}
use Rattle.met_types.specs.States.{State, Goes}
use Rattle.type_judgements.specs.declared.refusal.Refusal.{Refusal}
use Rattle.abstract_tree.specs.declared.expressions.Expression as value
use Rattle.abstract_tree.specs.TreeView.{listed, plain}
use Rattle.value_scopes.specs.declared.note.Note as value_note
use Rattle.value_scopes.specs.declared.place.Place.{Place}
use Rattle.value_scopes.specs.declared.scopes.Scopes.{Scopes}
use Rattle.judging.specs.declared.checker.Checker.{Checker}
use Rattle.judging.specs.Parts.{Sound}
use Rattle.judging.specs.Views.{View, view, definitions, context, judge, typed_in, kind_reached, each_in, each_reached}
use Rattle.judging.specs.Answers.{Answers}
use Rattle.judging.proofs.Chains.{goes_on_from, seen_as, given, goes_on, stops}
use Rattle.judging.proofs.Steps.{reached_on}

abbrev Given : Type 0
Given = value.Expression value_note.Note

-- these and then what is given
abbrev pub in_front : {M : Type 0} → List M → Result (List M) Refusal → Result (List M) Refusal
in_front made (Ok rest) = Ok (made ++ rest)
in_front made (Err e) = Err e

in_front_twice : {M : Type 0} (xs ys : List M) (r : Result (List M) Refusal) → in_front xs (in_front ys r) ≡ in_front (xs ++ ys) r
in_front_twice xs ys (Ok rest) = ap (λ l. Ok l) (sym (append_assoc xs ys rest))
in_front_twice xs ys (Err e) = refl

pub all_reached_on : (s t : State) (made : List Given) → Goes s t → each_reached s made → each_reached t made
all_reached_on s t made g h = each_map (kind_reached s) (kind_reached t) (λ a. reached_on s t a.note.kind g) made h

pub each_at : (P : TermId → Type 0) (ids : List TermId) (i : ℕ) → Each P ids → IfSome (slice_get ids i) P
each_at P [] i h = tt
each_at P (id ∷ ids) zero h = h.0
each_at P (id ∷ ids) (suc i) h = each_at P ids i h.1

pub one_at : {A : Type 0} (xs : List A) (i : ℕ) (x : A) → i < length xs → x ≡ get_or xs i x → drop i xs ≡ x ∷ drop (suc i) xs
one_at {A} xs i x h e = drop-cons xs i x h ∙ ap (λ (y : A). y ∷ drop (suc i) xs) (sym e)

module _ (y : Place) where
  abbrev wants : View → List TermId → List (Option Term)
  wants v ids = map (λ id. Some (term v.later id)) ids

  abbrev pub each : List (value.Expression ℕ) → List TermId → View → Judgement (p.Expressions Note)
  each xs ids v = JudgeEach (definitions v) (context v y) (listed (map plain xs)) (wants v ids)

  -- one, and then the others
  abbrev one_more : value.Expression ℕ → Option TermId → List (value.Expression ℕ) → List TermId → View → Judgement (p.Expressions Note)
  one_more x w xs ids v = Part (judge y (plain x) w v) (λ b. Part (each xs ids v) (λ bs. Gives (p.Cons b bs)))

  one_of : (x : value.Expression ℕ) (xs : List (value.Expression ℕ)) (ids : List TermId) (i : ℕ) (v : View) → each (x ∷ xs) (drop i ids) v ≡ one_more x (slice_get ids i) xs (drop (suc i) ids) v
  one_of x xs [] zero v = refl
  one_of x xs [] (suc i) v = refl
  one_of x xs (id ∷ ids) zero v = refl
  one_of x xs (id ∷ ids) (suc i) v = one_of x xs ids i v

  -- the first is given before the others
  first_given : (b : Given) (xs : List (value.Expression ℕ)) (ids : List TermId) (c d : Scopes) (k l : Checker) (r : Result (List Given) Refusal) → kind_reached k.types b
      → Answers each_in each_reached (each xs ids) c k d l r → Answers each_in each_reached (λ v. Part (each xs ids v) (λ bs. Gives (p.Cons (typed_in b v.later) bs))) c k d l (in_front (b ∷ []) r)
  first_given b xs ids c d k l (Ok rest) g h =
      goes_on each_in each_reached each_in each_reached (each xs ids) (λ v bs. Gives (p.Cons (typed_in b v.later) bs)) c d d k l l rest (Ok (b ∷ rest)) h
      (given each_in each_reached (λ v. Gives (p.Cons (typed_in b v.later) (each_in rest v.later))) d l (b ∷ rest) h.outcome.sound (reached_on k.types l.types b.note.kind h.outcome.goes g, h.outcome.holds) (λ later w. refl))
  first_given b xs ids c d k l (Err e) g h = stops each_in each_reached each_in each_reached (each xs ids) (λ v bs. Gives (p.Cons (typed_in b v.later) bs)) c d k l e (Err e) (refl, refl) h

  module _ (xs : List (value.Expression ℕ)) (ids : List TermId) (c : Scopes) (k : Checker) where
    -- the first of these are given, and the others are still to be judged
    pub record Judging (i : ℕ) (made : List Given) (d : Scopes) (l : Checker) : Type 0 where
      pub goes : Goes k.types l.types
      pub reached : each_reached l.types made
      pub rest : (e : Scopes) (m : Checker) (r : Result (List Given) Refusal) → Answers each_in each_reached (each (drop i xs) (drop i ids)) d l e m r → Answers each_in each_reached (each xs ids) c k e m (in_front made r)

    pub none_yet : Judging 0 [] c k
    none_yet = record {
      goes = record { forms = grows_not k.types.forms; listed = refl; outcomes = refl; reached = λ i u h. h };
      reached = tt;
      rest = λ e m r h. subst (λ z. Answers each_in each_reached (each xs ids) c k e m z) (sym (nothing_before r)) h;
    } where
      nothing_before : (r : Result (List Given) Refusal) → in_front [] r ≡ r
      nothing_before (Ok rest) = refl
      nothing_before (Err e) = refl

    module _ (i : ℕ) (made : List Given) (d e : Scopes) (l m : Checker) (x : value.Expression ℕ) (at : drop i xs ≡ x ∷ drop (suc i) xs) (j : Judging i made d l) where
      turned : (f : Scopes) (n : Checker) (r : Result (List Given) Refusal) → Answers each_in each_reached (one_more x (slice_get ids i) (drop (suc i) xs) (drop (suc i) ids)) d l f n r → Answers each_in each_reached (each xs ids) c k f n (in_front made r)
      turned f n r h =
          j.rest f n r (seen_as each_in each_reached (each (drop i xs) (drop i ids)) (one_more x (slice_get ids i) (drop (suc i) xs) (drop (suc i) ids)) d f l n r
          (λ later w. ap (λ ys. each ys (drop i ids) (view later l.types.listed d)) at ∙ one_of x (drop (suc i) xs) ids i (view later l.types.listed d)) h)

      -- one more
      pub next : (b : Given) (more : List Given) → more ≡ made ++ b ∷ [] → Answers typed_in kind_reached (judge y (plain x) (slice_get ids i)) d l e m (Ok b) → Judging (suc i) more e m
      next b more q h = record {
        goes = goes_on_from k.types l.types m.types j.goes h.outcome.goes;
        reached = subst (λ z. each_reached m.types z) (sym q) (each_more made b (all_reached_on l.types m.types made h.outcome.goes j.reached) h.outcome.holds);
        rest = λ f n r g.
            subst (λ z. Answers each_in each_reached (each xs ids) c k f n z) (in_front_twice made (b ∷ []) r ∙ ap (λ z. in_front z r) (sym q))
            (turned f n (in_front (b ∷ []) r)
            (goes_on each_in each_reached typed_in kind_reached (judge y (plain x) (slice_get ids i)) (λ v a. Part (each (drop (suc i) xs) (drop (suc i) ids) v) (λ bs. Gives (p.Cons a bs))) d e f l m n b (in_front (b ∷ []) r) h
            (first_given b (drop (suc i) xs) (drop (suc i) ids) e f m n r h.outcome.holds g)));
      } where
        each_more : (made : List Given) (b : Given) → each_reached m.types made → kind_reached m.types b → each_reached m.types (made ++ b ∷ [])
        each_more [] b h g = (g, tt)
        each_more (a ∷ made) b h g = (h.0, each_more made b h.1 g)

      -- one that is not typed
      pub refused : (q : Refusal) (r : Result (List Given) Refusal) → IsErr r × IsErrAnd r (λ z. z ≡ q) → Answers typed_in kind_reached (judge y (plain x) (slice_get ids i)) d l e m (Err q) → Answers each_in each_reached (each xs ids) c k e m r
      refused q (Ok rest) g h = let z : false ≡ true = g.0 in cc
      refused q (Err z) g h =
          turned e m (Err z)
          (stops each_in each_reached typed_in kind_reached (judge y (plain x) (slice_get ids i)) (λ v a. Part (each (drop (suc i) xs) (drop (suc i) ids) v) (λ bs. Gives (p.Cons a bs))) d e l m q (Err z) g h)

    -- all of them
    pub all_judged : (i : ℕ) (made : List Given) (d : Scopes) (l : Checker) → drop i xs ≡ [] → Sound l d → Judging i made d l → Answers each_in each_reached (each xs ids) c k d l (Ok made)
    all_judged i made d l q s j =
        subst (λ z. Answers each_in each_reached (each xs ids) c k d l (Ok z)) (append_nil made)
        (j.rest d l (Ok []) (given each_in each_reached (each (drop i xs) (drop i ids)) d l [] s tt (λ later w. ap (λ ys. each ys (drop i ids) (view later l.types.listed d)) q ∙ none_left (drop i ids) (view later l.types.listed d))))
      where
        append_nil : (made : List Given) → made ++ [] ≡ made
        append_nil [] = refl
        append_nil (a ∷ made) = ap (λ z. a ∷ z) (append_nil made)

        none_left : (ids : List TermId) (v : View) → each [] ids v ≡ Gives p.Nil
        none_left [] v = refl
        none_left (id ∷ ids) v = refl
