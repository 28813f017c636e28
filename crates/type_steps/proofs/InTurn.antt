-- Steps that are taken one after the other.
use Rattle.std.proofs.Common.{◌≡◌, ◌∙◌, ◌+◌, ◌<◌, ◌≤◌, ℕ, zero, suc, List, [], ◌∷◌, ◌++◌, length, get_or, take, Ok, Err, refl, sym, ap, subst, arith}
use Rattle.std.specs.Prelude.{Result}
use Rattle.std.specs.Result.{IsErr, IsErrAnd}
use Rattle.type_terms.specs.declared.form.TermId.{TermId}
use Rattle.typing_rules.specs.declared.condition.Condition.{Condition}
use Rattle.typing_rules.specs.Judgements.{IsBelow, Judgement, Meets, Part}
use Rattle.type_definitions.specs.Meanings.{term}
use Rattle.type_judgements.specs.declared.refusal.Refusal.{Refusal}
use Rattle.value_scopes.specs.declared.scopes.Scopes.{Scopes}
use Rattle.proper_types.specs.Rules.{InTurn}
use Rattle.proper_types.proofs.Turns.{in_two, part_fine}
use Rattle.judging.specs.declared.checker.Checker.{Checker}
use Rattle.judging.specs.Parts.{Sound}
use Rattle.judging.specs.Views.{View, no_more, nothing, view}
use Rattle.judging.specs.Answers.{Answers}
use Rattle.judging.proofs.Chains.{given, goes_on, seen_as, stops}
use Rattle.judging.proofs.NodeParts.{take_all}
use Rattle.judging.proofs.Steps.{needs_then}
use Rattle.type_steps.specs.Steps.{meeting, meeting_each, needing, needing_each}

abbrev pub Done : (View → Judgement (Unit {0})) → Scopes → Checker → Checker → Type 0
Done j c k l = Answers nothing no_more j c k c l (Ok tt)

module _ {X : Type 0} (f : X → View → Judgement (Unit {0})) where
  abbrev pub turns : List X → View → Judgement (Unit {0})
  turns xs v = InTurn (λ x. f x v) xs

  pub none_yet : (c : Scopes) (k : Checker) → Sound k c → Done (turns []) c k k
  none_yet c k s = given nothing no_more (turns []) c k tt s tt (λ later w. refl)

  -- some, and then another
  pub next_turn : (c : Scopes) (k l m : Checker) (xs ys : List X) (x : X) → ys ≡ xs ++ x ∷ [] → Done (turns xs) c k l → Done (f x) c l m → Done (turns ys) c k m
  next_turn c k l m xs ys x e h i =
      subst (λ (zs : List X). Done (turns zs) c k m) (sym e)
      (seen_as nothing no_more (turns (xs ++ x ∷ [])) (λ v. Part (turns xs v) (λ _. turns (x ∷ []) v)) c c k m (Ok tt) (λ later w. sym (in_two (λ y. f y (view later k.types.listed c)) xs (x ∷ [])))
      (goes_on nothing no_more nothing no_more (turns xs) (λ v _. turns (x ∷ []) v) c c c k l m tt (Ok tt) h
      (seen_as nothing no_more (turns (x ∷ [])) (f x) c c l m (Ok tt) (λ later w. part_fine (f x (view later l.types.listed c))) i)))

  -- some, and then one that is refused
  pub turn_refused : (c : Scopes) (k l m : Checker) (xs ys zs : List X) (x : X) (e : Refusal) (r : Result (Unit {0}) Refusal) → IsErr r × IsErrAnd r (λ y. y ≡ e) → zs ≡ xs ++ x ∷ ys → Done (turns xs) c k l
      → Answers nothing no_more (f x) c l c m (Err e) → Answers nothing no_more (turns zs) c k c m r
  turn_refused c k l m xs ys zs x e r g q h i =
      subst (λ (vs : List X). Answers nothing no_more (turns vs) c k c m r) (sym q)
      (seen_as nothing no_more (turns (xs ++ x ∷ ys)) (λ v. Part (turns xs v) (λ _. turns (x ∷ ys) v)) c c k m r (λ later w. sym (in_two (λ y. f y (view later k.types.listed c)) xs (x ∷ ys)))
      (goes_on nothing no_more nothing no_more (turns xs) (λ v _. turns (x ∷ ys) v) c c c k l m tt r h
      (stops nothing no_more nothing no_more (f x) (λ v _. turns ys v) c c l m e r g i)))

-- ---- types that are met

pub as_meetings : (ids : List TermId) (v : View) → meeting_each ids v ≡ turns meeting ids v
as_meetings [] v = refl
as_meetings (id ∷ ids) v = ap (Meets (term v.later id)) (as_meetings ids v)

pub meetings : (ids : List TermId) (c : Scopes) (k l : Checker) (r : Result (Unit {0}) Refusal) → Answers nothing no_more (turns meeting ids) c k c l r → Answers nothing no_more (meeting_each ids) c k c l r
meetings ids c k l r h = seen_as nothing no_more (meeting_each ids) (turns meeting ids) c c k l r (λ later w. as_meetings ids (view later k.types.listed c)) h

-- ---- conditions

abbrev pub asking : Condition → ℕ → TermId × TermId → View → Judgement (Unit {0})
asking q at p v = needing q at p.0 p.1 v

abbrev pub pairs : List TermId → List TermId → List (TermId × TermId)
pairs (a ∷ ls) (b ∷ hs) = (a, b) ∷ pairs ls hs
pairs _ _ = []

as_askings : (q : Condition) (at : ℕ) (ls hs : List TermId) (v : View) → needing_each q at ls hs v ≡ turns (asking q at) (pairs ls hs) v
as_askings q at [] hs v = refl
as_askings q at (a ∷ ls) [] v = refl
as_askings q at (a ∷ ls) (b ∷ hs) v =
    needs_then q at (IsBelow (term v.later a) (term v.later b)) (needing_each q at ls hs v)
    ∙ ap (λ (j : Judgement (Unit {0})). Part (needing q at a b v) (λ _. j)) (as_askings q at ls hs v)

pub askings : (q : Condition) (at : ℕ) (ls hs : List TermId) (c : Scopes) (k : Checker) (r : Result (Unit {0}) Refusal) → Answers nothing no_more (turns (asking q at) (pairs ls hs)) c k c k r
    → Answers nothing no_more (needing_each q at ls hs) c k c k r
askings q at ls hs c k r h = seen_as nothing no_more (needing_each q at ls hs) (turns (asking q at) (pairs ls hs)) c c k k r (λ later w. as_askings q at ls hs (view later k.types.listed c)) h

one_more_pair : (ls hs : List TermId) (i : ℕ) (d : TermId) → i < length ls → i < length hs → take (suc i) (pairs ls hs) ≡ take i (pairs ls hs) ++ (get_or ls i d, get_or hs i d) ∷ []
one_more_pair [] hs i d h g = absurd (omega (arith, h))
one_more_pair (x ∷ ls) [] i d h g = absurd (omega (arith, g))
one_more_pair (x ∷ ls) (y ∷ hs) zero d h g = refl
one_more_pair (x ∷ ls) (y ∷ hs) (suc i) d h g =
    let h1 : i < length ls = omega (arith, h) in
    let g1 : i < length hs = omega (arith, g) in
    ap (λ (ps : List (TermId × TermId)). (x, y) ∷ ps) (one_more_pair ls hs i d h1 g1)

pub next_pair : (ls hs : List TermId) (i : ℕ) (d : TermId) → i < length ls → i < length hs → take (i + 1) (pairs ls hs) ≡ take i (pairs ls hs) ++ (get_or ls i d, get_or hs i d) ∷ []
next_pair ls hs i d h g =
    let one_more : suc i ≡ i + 1 = omega arith in
    subst (λ (n : ℕ). take n (pairs ls hs) ≡ take i (pairs ls hs) ++ (get_or ls i d, get_or hs i d) ∷ []) one_more (one_more_pair ls hs i d h g)

no_more_pairs : (ls hs : List TermId) → length (pairs ls hs) ≤ length ls
no_more_pairs [] hs = omega arith
no_more_pairs (a ∷ ls) [] = omega arith
no_more_pairs (a ∷ ls) (b ∷ hs) = let h : length (pairs ls hs) ≤ length ls = no_more_pairs ls hs in omega (arith, h)

pub all_pairs : (ls hs : List TermId) (i : ℕ) → length ls ≤ i → take i (pairs ls hs) ≡ pairs ls hs
all_pairs ls hs i h =
    let g : length (pairs ls hs) ≤ length ls = no_more_pairs ls hs in
    take_all (pairs ls hs) i (omega (arith, h, g))
