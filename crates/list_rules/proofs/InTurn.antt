-- Bodies, judged one after the other.
use Rattle.std.proofs.Common.{◌≡◌, ◌∙◌, ℕ, suc, true, false, List, [], ◌∷◌, ◌++◌, append-nil, append_assoc, drop, map, Ok, Err, refl, sym, ap, subst}
use Rattle.std.specs.Prelude.{Result}
use Rattle.std.specs.Result.{IsErr, IsErrAnd}
use Rattle.typing_rules.specs.AbstractSyntax as p
use Rattle.typing_rules.specs.Expressions.{JudgeBodies}
use Rattle.typing_rules.specs.Judgements.{Gives, Judgement, Part}
use Rattle.typing_rules.specs.Lists as rules
use Rattle.typing_rules.specs.TypedTrees.{Note}
use Rattle.type_definitions.proofs.Meanings.{grows_not}
use Rattle.met_types.specs.States.{Goes}
use Rattle.type_judgements.specs.declared.refusal.Refusal.{Refusal}
use Rattle.abstract_tree.specs.declared.declarations.Declaration.{Declaration}
use Rattle.abstract_tree.specs.TreeView.{DeclarationView, declaration_form, plain_declaration_form}
use Rattle.abstract_tree.proofs.TreeViews.{declaration_is}
use Rattle.value_scopes.specs.declared.note.Note as value_note
use Rattle.value_scopes.specs.declared.place.Place.{Place}
use Rattle.value_scopes.specs.declared.scopes.Scopes.{Scopes}
use Rattle.value_scopes.specs.Values.{noted}
use Rattle.judging.specs.declared.checker.Checker.{Checker}
use Rattle.judging.specs.Parts.{Sound}
use Rattle.judging.specs.Views.{View, context, definitions, view}
use Rattle.judging.specs.Answers.{Answers}
use Rattle.judging.proofs.Chains.{given, goes_on, goes_on_from, seen_as, stops}
use Rattle.judging.proofs.ListParts.{in_front}
use Rattle.list_judging.specs.Lists.{declarations_in, seen_list}
use Rattle.order_rules.specs.declared.entries.MadeDeclaration.{MadeDeclaration}
use Rattle.order_rules.specs.Entries.{made_in}
use Rattle.order_rules.proofs.Declarations.{seen}
use Rattle.function_bodies.specs.Bodies.{any_made, body_in, judge_body}
use Rattle.list_rules.specs.Lists.{any_list, judge_bodies}

abbrev Made : Type 0
Made = Declaration value_note.Note

in_front_twice : (xs ys : List Made) (r : Result (List Made) Refusal) → in_front xs (in_front ys r) ≡ in_front (xs ++ ys) r
in_front_twice xs ys (Ok rest) = ap (λ (l : List Made). Ok l) (sym (append_assoc xs ys rest))
in_front_twice xs ys (Err e) = refl

nothing_before : (r : Result (List Made) Refusal) → in_front [] r ≡ r
nothing_before (Ok rest) = refl
nothing_before (Err e) = refl

-- one more, where it is this one
pub more_of : (all more : List Made) (x y : Made) → more ≡ all ++ x ∷ [] → x ≡ y → more ≡ all ++ y ∷ []
more_of all more x y e f = e ∙ ap (λ (z : Made). all ++ z ∷ []) f

module _ (y : Place) where
  abbrev one : Declaration ℕ → List MadeDeclaration → View → Judgement (rules.Made × List rules.Made)
  one a ms = judge_body y a.note (plain_declaration_form a.form) ms

  abbrev each : List (Declaration ℕ) → List MadeDeclaration → View → Judgement (p.Declarations Note)
  each xs ms = judge_bodies y xs ms

  abbrev behind : Declaration ℕ → List (Declaration ℕ) → View → rules.Made × List rules.Made → Judgement (p.Declarations Note)
  behind a xs v q = Part (JudgeBodies (definitions v) (context v y) (seen_list xs) q.1) (λ ds. Gives (p.Then a.public q.0.0 q.0.1 ds))

  one_of : (a : Declaration ℕ) (xs : List (Declaration ℕ)) (ms : List MadeDeclaration) (v : View) → each (a ∷ xs) ms v ≡ Part (one a ms v) (behind a xs v)
  one_of a xs ms v = ap (λ (f : DeclarationView ℕ). JudgeBodies (definitions v) (context v y) (f (seen_list xs)) (map (made_in v.later) ms)) (declaration_is a)

  -- the declaration with its body
  abbrev pub placed : Declaration ℕ → MadeDeclaration → Made
  placed a m = record { public = a.public; note = m.note; form = m.form }

  -- the first is given before the others
  first_given : (a : Declaration ℕ) (m : MadeDeclaration) (xs : List (Declaration ℕ)) (ms : List MadeDeclaration) (c d : Scopes) (k l : Checker) (r : Result (List Made) Refusal)
      → Answers declarations_in any_list (each xs ms) c k d l r → Answers declarations_in any_list (λ v. behind a xs v (body_in ms m v.later)) c k d l (in_front (placed a m ∷ []) r)
  first_given a m xs ms c d k l (Ok rest) h =
      goes_on declarations_in any_list declarations_in any_list (each xs ms) (λ v ds. Gives (p.Then a.public (noted v.later m.note) (declaration_form (λ n. noted v.later n) m.form) ds)) c d d k l l rest (Ok (placed a m ∷ rest)) h
      (given declarations_in any_list (λ v. Gives (p.Then a.public (noted v.later m.note) (declaration_form (λ n. noted v.later n) m.form) (declarations_in rest v.later))) d l (placed a m ∷ rest) h.outcome.sound tt
      (λ later w. ap (λ (f : DeclarationView Note). Gives (f (declarations_in rest later))) (sym (seen (λ n. noted later n) (placed a m)))))
  first_given a m xs ms c d k l (Err e) h =
      stops declarations_in any_list declarations_in any_list (each xs ms) (λ v ds. Gives (p.Then a.public (noted v.later m.note) (declaration_form (λ n. noted v.later n) m.form) ds)) c d k l e (Err e) (refl, refl) h

  module _ (xs : List (Declaration ℕ)) (all : List MadeDeclaration) (c : Scopes) (k : Checker) where
    -- the first of these are given, and the others are still to be judged, with these to be taken
    pub record Judging (i : ℕ) (made : List Made) (ms : List MadeDeclaration) (d : Scopes) (l : Checker) : Type 0 where
      pub goes : Goes k.types l.types
      pub rest : (e : Scopes) (m : Checker) (r : Result (List Made) Refusal) → Answers declarations_in any_list (each (drop i xs) ms) d l e m r → Answers declarations_in any_list (each xs all) c k e m (in_front made r)

    pub none_yet : (ms : List MadeDeclaration) → ms ≡ all → Judging 0 [] ms c k
    none_yet ms q = record {
      goes = record { forms = grows_not k.types.forms; listed = refl; outcomes = refl; reached = λ i u h. h };
      rest = λ e m r h.
          subst (λ (z : Result (List Made) Refusal). Answers declarations_in any_list (each xs all) c k e m z) (sym (nothing_before r)) (subst (λ (zs : List MadeDeclaration). Answers declarations_in any_list (each xs zs) c k e m r) q h);
    }

    module _ (i : ℕ) (made : List Made) (ms : List MadeDeclaration) (d e : Scopes) (l m : Checker) (a : Declaration ℕ) (at : drop i xs ≡ a ∷ drop (suc i) xs) (j : Judging i made ms d l) where
      turned : (f : Scopes) (n : Checker) (r : Result (List Made) Refusal) → Answers declarations_in any_list (λ v. Part (one a ms v) (behind a (drop (suc i) xs) v)) d l f n r → Answers declarations_in any_list (each xs all) c k f n (in_front made r)
      turned f n r h =
          j.rest f n r (seen_as declarations_in any_list (each (drop i xs) ms) (λ v. Part (one a ms v) (behind a (drop (suc i) xs) v)) d f l n r
          (λ later w. ap (λ (ys : List (Declaration ℕ)). each ys ms (view later l.types.listed d)) at ∙ one_of a (drop (suc i) xs) ms (view later l.types.listed d)) h)

      -- one more
      pub next : (b : MadeDeclaration) (left : List MadeDeclaration) (more : List Made) → more ≡ made ++ placed a b ∷ [] → Answers (body_in left) any_made (one a ms) d l e m (Ok b) → Judging (suc i) more left e m
      next b left more q h = record {
        goes = goes_on_from k.types l.types m.types j.goes h.outcome.goes;
        rest = λ f n r g.
            subst (λ (z : Result (List Made) Refusal). Answers declarations_in any_list (each xs all) c k f n z) (in_front_twice made (placed a b ∷ []) r ∙ ap (λ (z : List Made). in_front z r) (sym q))
            (turned f n (in_front (placed a b ∷ []) r)
            (goes_on declarations_in any_list (body_in left) any_made (one a ms) (behind a (drop (suc i) xs)) d e f l m n b (in_front (placed a b ∷ []) r) h (first_given a b (drop (suc i) xs) left e f m n r g)));
      }

      -- one that is not typed
      pub refused : (left : List MadeDeclaration) (q : Refusal) (r : Result (List Made) Refusal) → IsErr r × IsErrAnd r (λ z. z ≡ q) → Answers (body_in left) any_made (one a ms) d l e m (Err q) → Answers declarations_in any_list (each xs all) c k e m r
      refused left q (Ok rest) g h = let z : false ≡ true = g.0 in cc
      refused left q (Err z) g h = turned e m (Err z) (stops declarations_in any_list (body_in left) any_made (one a ms) (behind a (drop (suc i) xs)) d e l m q (Err z) g h)

    -- all of them
    pub all_judged : (i : ℕ) (made : List Made) (ms : List MadeDeclaration) (d : Scopes) (l : Checker) → drop i xs ≡ [] → Sound l d → Judging i made ms d l → Answers declarations_in any_list (each xs all) c k d l (Ok made)
    all_judged i made ms d l q s j =
        subst (λ (z : List Made). Answers declarations_in any_list (each xs all) c k d l (Ok z)) (append-nil made)
        (j.rest d l (Ok []) (given declarations_in any_list (each (drop i xs) ms) d l [] s tt (λ later w. ap (λ (ys : List (Declaration ℕ)). each ys ms (view later l.types.listed d)) q)))
