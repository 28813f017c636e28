-- Items that are judged one after another.
use Rattle.std.proofs.Common.{◌≡◌, ◌+◌, ℕ, List, [], ◌∷◌, ◌++◌, Ok, Err, refl, sym, ap, ◌∙◌, subst, take, drop, append_assoc}
use Rattle.std.proofs.lemmas.List.{take-append-drop}
use Rattle.std.proofs.Math.Path.{fun_ext}
use Rattle.std.specs.Prelude.{Result}
use Rattle.std.specs.Result.{IsErr, IsErrAnd}
use Rattle.type_terms.specs.declared.form.Form.{Form}
use Rattle.typing_rules.specs.Judgements.{Judgement, Gives, Fails, Asks, Meets, Part, Fine}
use Rattle.type_definitions.specs.Definitions.{Listed}
use Rattle.met_types.specs.States.{State}
use Rattle.shareable_types.specs.declared.sharing.Sharing.{Sharing}
use Rattle.type_judgements.specs.declared.refusal.Refusal.{Refusal}
use Rattle.proper_types.specs.Passing.{Ready, Passed, Judges}
use Rattle.proper_types.specs.Rules.{Rule, InTurn, done}
use Rattle.proper_types.proofs.Judging.{first_judges, goes_itself, handed, judges_as, then_judges}

pub part_assoc : {A B C : Type 0} (j : Judgement A) (k : A → Judgement B) (m : B → Judgement C) → Part (Part j k) m ≡ Part j (λ a. Part (k a) m)
part_assoc (Gives a) k m = refl
part_assoc (Fails c place) k m = refl
part_assoc (Asks q next) k m = ap (Asks q) (fun_ext (λ yes. part_assoc (next yes) k m))
part_assoc (Meets t next) k m = ap (Meets t) (part_assoc next k m)

pub part_fine : (j : Judgement (Unit {0})) → Part j (λ a. Fine) ≡ j
part_fine (Gives a) = refl
part_fine (Fails c place) = refl
part_fine (Asks q next) = ap (Asks q) (fun_ext (λ yes. part_fine (next yes)))
part_fine (Meets t next) = ap (Meets t) (part_fine next)

pub part_alike : {A B : Type 0} (j : Judgement A) (m n : Judgement B) → m ≡ n → Part j (λ a. m) ≡ Part j (λ a. n)
part_alike {A} {B} j m n e = ap (λ (x : Judgement B). Part j (λ a. x)) e

pub in_two : {X : Type 0} (f : X → Judgement (Unit {0})) (xs ys : List X) → Part (InTurn f xs) (λ a. InTurn f ys) ≡ InTurn f (xs ++ ys)
in_two f [] ys = refl
in_two f (x ∷ xs) ys = part_assoc (f x) (λ a. InTurn f xs) (λ a. InTurn f ys) ∙ part_alike (f x) (Part (InTurn f xs) (λ a. InTurn f ys)) (InTurn f (xs ++ ys)) (in_two f xs ys)

module _ {X : Type 0} (f : Listed → List Form → X → Judgement (Unit {0})) where
  -- these items, one after another
  abbrev pub turns : List X → Rule (Unit {0})
  turns xs l later = InTurn (f l later) xs

  pub no_turn : (s : State) (a : Sharing) → Ready s a → Passed (turns [] s.listed) s s a (done tt)
  no_turn s a r = record { ready = r; goes = goes_itself s; gave = record { by = λ met st later l. (met, st, refl) } }

  -- some items, and then another
  pub next_turn : (old mid new : State) (a c : Sharing) (xs ys : List X) (x : X) → ys ≡ xs ++ x ∷ [] → Passed (turns xs old.listed) old mid a (done tt) → Passed (λ later. f mid.listed later x) mid new c (done tt)
      → Passed (turns ys old.listed) old new c (done tt)
  next_turn old mid new a c xs ys x e p q =
      subst (λ (zs : List X). Passed (turns zs old.listed) old new c (done tt)) (sym e)
      (judges_as (λ l later. Part (turns xs l later) (λ b. Part (f l later x) (λ d. Fine))) (turns (xs ++ x ∷ [])) old new c done (Ok tt) (λ l later. in_two (f l later) xs (x ∷ []))
      (then_judges (turns xs) (λ l later b. Part (f l later x) (λ d. Fine)) old mid new a c (done tt) done (Ok tt) p
      (judges_as (λ l later. f l later x) (λ l later. Part (f l later x) (λ d. Fine)) mid new c done (Ok tt) (λ l later. sym (part_fine (f l later x))) q)))

  -- some items, and then one that is refused
  pub turn_refused : (old mid new : State) (a c : Sharing) (xs ys zs : List X) (x : X) (e : Refusal) → zs ≡ xs ++ x ∷ ys → Passed (turns xs old.listed) old mid a (done tt)
      → Judges (λ l later. f l later x) mid new c done (Err e) → Judges (turns zs) old new c done (Err e)
  turn_refused old mid new a c xs ys zs x e h p q =
      subst (λ (vs : List X). Judges (turns vs) old new c done (Err e)) (sym h)
      (judges_as (λ l later. Part (turns xs l later) (λ b. turns (x ∷ ys) l later)) (turns (xs ++ x ∷ ys)) old new c done (Err e) (λ l later. in_two (f l later) xs (x ∷ ys))
      (then_judges (turns xs) (λ l later b. turns (x ∷ ys) l later) old mid new a c (done tt) done (Err e) p
      (first_judges (λ l later. f l later x) (λ l later b. turns ys l later) mid new c c done done e q)))

pub around : {X : Type 0} (xs : List X) (i : ℕ) (x : X) → take (i + 1) xs ≡ take i xs ++ x ∷ [] → xs ≡ take i xs ++ x ∷ drop (i + 1) xs
around {X} xs i x e =
    sym (take-append-drop (i + 1) xs) ∙ (ap (λ (l : List X). l ++ drop (i + 1) xs) e ∙ append_assoc (take i xs) (x ∷ []) (drop (i + 1) xs))

module _ {X : Type 0} (f : Listed → List Form → X → Judgement (Unit {0})) (old mid new : State) (a c : Sharing) (xs : List X) (i : ℕ) where
  pub next_at : (x : X) → take (i + 1) xs ≡ take i xs ++ x ∷ [] → Passed (turns f (take i xs) old.listed) old mid a (done tt) → Passed (λ later. f mid.listed later x) mid new c (done tt) → Passed (turns f (take (i + 1) xs) old.listed) old new c (done tt)
  next_at x e p q = next_turn f old mid new a c (take i xs) (take (i + 1) xs) x e p q

  pub stops_at : (x : X) (e : Refusal) (r : Result (Unit {0}) Refusal) → IsErr r × IsErrAnd r (λ y. y ≡ e) → take (i + 1) xs ≡ take i xs ++ x ∷ [] → Passed (turns f (take i xs) old.listed) old mid a (done tt)
      → Judges (λ l later. f l later x) mid new c done (Err e) → Judges (turns f xs) old new c done r
  stops_at x e r h k p q = handed (turns f xs) old new c c done done e r h (turn_refused f old mid new a c (take i xs) (drop (i + 1) xs) xs x e (around xs i x k) p q)

pub all_at : {X : Type 0} (f : Listed → List Form → X → Judgement (Unit {0})) (old mid : State) (a : Sharing) (xs : List X) (i : ℕ) → take i xs ≡ xs → Passed (turns f (take i xs) old.listed) old mid a (done tt) → Passed (turns f xs old.listed) old mid a (done tt)
all_at {X} f old mid a xs i e p = subst (λ (ys : List X). Passed (turns f ys old.listed) old mid a (done tt)) e p
