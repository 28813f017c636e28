-- Items that are judged one after another, and what each gives.
use Rattle.std.proofs.Common.{◌≡◌, List, [], ◌∷◌, ◌++◌, Ok, Err, refl, sym, ap, ◌∙◌, subst, map}
use Rattle.std.proofs.lemmas.List.{map-append}
use Rattle.std.proofs.Math.Path.{fun_ext}
use Rattle.type_terms.specs.declared.form.Form.{Form}
use Rattle.typing_rules.specs.Judgements.{Judgement, Gives, Fails, Asks, Meets, Part}
use Rattle.met_types.specs.States.{State}
use Rattle.definition_rules.proofs.Promoting.{same_itself}
use Rattle.shareable_types.specs.declared.sharing.Sharing.{Sharing}
use Rattle.type_judgements.specs.declared.refusal.Refusal.{Refusal}
use Rattle.proper_types.specs.Passing.{Ready, Passed, Judges}
use Rattle.proper_types.specs.Rules.{Rule}
use Rattle.proper_types.proofs.Judging.{first_judges, given, judges_as, then_judges}
use Rattle.proper_types.proofs.Turns.{part_assoc}
use Rattle.typed_patterns.proofs.Standing.{behind_alike}

pub part_gives : {A : Type 0} (j : Judgement A) → Part j (λ a. Gives a) ≡ j
part_gives (Gives a) = refl
part_gives (Fails c place) = refl
part_gives (Asks q next) = ap (Asks q) (fun_ext (λ yes. part_gives (next yes)))
part_gives (Meets t next) = ap (Meets t) (part_gives next)

-- each in turn, and what each gives
abbrev pub Gather : {X A : Type 0} → (X → Judgement A) → List X → Judgement (List A)
Gather f [] = Gives []
Gather f (x ∷ xs) = Part (f x) (λ a. Part (Gather f xs) (λ us. Gives (a ∷ us)))

module _ {X A : Type 0} (f : X → Judgement A) where
  -- those of ys behind these
  abbrev behind : List X → List A → Judgement (List A)
  behind ys us = Part (Gather f ys) (λ vs. Gives (us ++ vs))

  in_parts : (xs ys : List X) → Part (Gather f xs) (behind ys) ≡ Gather f (xs ++ ys)
  in_parts [] ys = part_gives (Gather f ys)
  in_parts (x ∷ xs) ys =
      part_assoc (f x) (λ u. Part (Gather f xs) (λ us. Gives (u ∷ us))) (behind ys)
      ∙ behind_alike (f x) (λ u. Part (Part (Gather f xs) (λ us. Gives (u ∷ us))) (behind ys)) (λ u. Part (Gather f (xs ++ ys)) (λ ws. Gives (u ∷ ws)))
      (λ u.
      part_assoc (Gather f xs) (λ us. Gives (u ∷ us)) (behind ys)
      ∙ (sym (behind_alike (Gather f xs) (λ us. Part (behind ys us) (λ ws. Gives (u ∷ ws))) (λ us. behind ys (u ∷ us)) (λ us. part_assoc (Gather f ys) (λ vs. Gives (us ++ vs)) (λ ws. Gives (u ∷ ws))))
      ∙ (sym (part_assoc (Gather f xs) (behind ys) (λ ws. Gives (u ∷ ws))) ∙ ap (λ (j : Judgement (List A)). Part j (λ ws. Gives (u ∷ ws))) (in_parts xs ys))))

  one_part : (x : X) (us : List A) → Part (f x) (λ v. Gives (us ++ v ∷ [])) ≡ behind (x ∷ []) us
  one_part x us = sym (part_assoc (f x) (λ u. Gives (u ∷ [])) (λ vs. Gives (us ++ vs)))

abbrev pub gathered : {X A : Type 0} → (X → Rule A) → List X → Rule (List A)
gathered f xs l later = Gather (λ x. f x l later) xs

module _ {X A B : Type 0} (f : X → Rule A) (see : B → List Form → A) where
  abbrev pub all_seen : List B → List Form → List A
  all_seen bs later = map (λ b. see b later) bs

  pub none_gathered : (s : State) (c : Sharing) → Ready s c → Passed (gathered f [] s.listed) s s c (all_seen [])
  none_gathered s c ready = given (gathered f [] s.listed) s s c (all_seen []) (same_itself s ready.kept) ready (λ later l. refl)

  pub next_gathered : (old mid new : State) (a c : Sharing) (xs ys : List X) (x : X) (bs ds : List B) (b : B) → ys ≡ xs ++ x ∷ [] → ds ≡ bs ++ b ∷ []
      → Passed (gathered f xs old.listed) old mid a (all_seen bs) → Passed (f x mid.listed) mid new c (see b) → Passed (gathered f ys old.listed) old new c (all_seen ds)
  next_gathered old mid new a c xs ys x bs ds b e q p w =
      subst (λ (zs : List X). Passed (gathered f zs old.listed) old new c (all_seen ds)) (sym e)
      (subst (λ (es : List B). Passed (gathered f (xs ++ x ∷ []) old.listed) old new c (all_seen es)) (sym q)
      (subst (λ (g : List Form → List A). Passed (gathered f (xs ++ x ∷ []) old.listed) old new c g) (fun_ext (λ later. sym (map-append (λ b. see b later) bs (b ∷ []))))
      (judges_as (λ l later. Part (gathered f xs l later) (λ us. Part (f x l later) (λ v. Gives (us ++ v ∷ [])))) (gathered f (xs ++ x ∷ [])) old new c (λ (u : Unit {0}) later. all_seen bs later ++ see b later ∷ []) (Ok tt)
      (λ l later.
      behind_alike (gathered f xs l later) (λ us. Part (f x l later) (λ v. Gives (us ++ v ∷ []))) (behind (λ x. f x l later) (x ∷ [])) (λ us. one_part (λ x. f x l later) x us)
      ∙ in_parts (λ x. f x l later) xs (x ∷ []))
      (then_judges (gathered f xs) (λ l later us. Part (f x l later) (λ v. Gives (us ++ v ∷ []))) old mid new a c (all_seen bs) (λ (u : Unit {0}) later. all_seen bs later ++ see b later ∷ []) (Ok tt) p
      (then_judges (f x) (λ l later v. Gives (all_seen bs later ++ v ∷ [])) mid new new c c (see b) (λ (u : Unit {0}) later. all_seen bs later ++ see b later ∷ []) (Ok tt) w
      (given (λ later. Gives (all_seen bs later ++ see b later ∷ [])) new new c (λ later. all_seen bs later ++ see b later ∷ []) (same_itself new w.ready.kept) w.ready (λ later l. refl)))))))

  pub gather_refused : {N : Type 0} (give : N → List Form → List A) (old mid new : State) (a c : Sharing) (xs ys zs : List X) (x : X) (bs : List B) (e : Refusal) → zs ≡ xs ++ x ∷ ys
      → Passed (gathered f xs old.listed) old mid a (all_seen bs) → Judges (f x) mid new c see (Err e) → Judges (gathered f zs) old new c give (Err e)
  gather_refused {N} give old mid new a c xs ys zs x bs e h p w =
      subst (λ (vs : List X). Judges (gathered f vs) old new c give (Err e)) (sym h)
      (judges_as (λ l later. Part (gathered f xs l later) (behind (λ x. f x l later) (x ∷ ys))) (gathered f (xs ++ x ∷ ys)) old new c give (Err e) (λ l later. in_parts (λ x. f x l later) xs (x ∷ ys))
      (then_judges (gathered f xs) (λ l later us. behind (λ x. f x l later) (x ∷ ys) us) old mid new a c (all_seen bs) give (Err e) p
      (first_judges (gathered f (x ∷ ys)) (λ l later vs. Gives (all_seen bs later ++ vs)) mid new c c give give e
      (first_judges (f x) (λ l later u. Part (gathered f ys l later) (λ us. Gives (u ∷ us))) mid new c c see give e w))))
