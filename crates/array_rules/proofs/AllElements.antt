-- The elements of arrays: all as parts of which the same is wanted, and the greatest of their types.
use Rattle.std.proofs.Common.{◌≡◌, ◌∙◌, ℕ, zero, suc, ◌<◌, Bool, true, false, List, [], ◌∷◌, length, map, slice_get, Ok, Err, Option, Some, None, refl, sym, ap, subst, arith}
use Rattle.std.proofs.lemmas.Bool.{ne_eqb}
use Rattle.std.specs.Prelude.{IfOk, Result, nat_eq}
use Rattle.type_terms.specs.declared.form.Form.{Form}
use Rattle.type_terms.specs.declared.form.Form.TheVariants as variants
use Rattle.type_terms.specs.declared.form.TermId.{TermId}
use Rattle.type_terms.specs.Layouts.{layout}
use Rattle.type_terms.specs.Tables.{PartsBelow}
use Rattle.typing_rules.specs.declared.condition.Condition.{Condition}
use Rattle.typing_rules.specs.declared.condition.Condition.TheVariants as condition
use Rattle.typing_rules.specs.AbstractSyntax as p
use Rattle.typing_rules.specs.Terms.{Term}
use Rattle.typing_rules.specs.Judgements.{Judgement, Gives, Part}
use Rattle.typing_rules.specs.TypedTrees.{Note, types_of}
use Rattle.typing_rules.specs.Ends.{Greatest}
use Rattle.typing_rules.specs.Expressions.{Elements, JudgeAll, JudgeEach}
use Rattle.type_definitions.specs.Meanings.{term}
use Rattle.type_definitions.specs.Tables.{Later, Within}
use Rattle.met_types.specs.States.{Goes, IsReached, Kept, Stands}
use Rattle.type_judgements.specs.Judged.{Judged}
use Rattle.type_judgements.specs.declared.refusal.Refusal.{Refusal}
use Rattle.abstract_tree.specs.declared.expressions.Expression as value
use Rattle.abstract_tree.specs.TreeView.{listed, plain}
use Rattle.value_scopes.specs.declared.place.Place.{Place}
use Rattle.value_scopes.specs.declared.scopes.Scopes.{Scopes}
use Rattle.judging.specs.declared.checker.Checker.{Checker}
use Rattle.judging.specs.Answers.{Answers}
use Rattle.judging.specs.Parts.{Sound}
use Rattle.judging.specs.Views.{View, view, context, definitions, each_in, each_reached, judge_at, term_in, wanted_in}
use Rattle.judging.proofs.Chains.{after, given, seen_as}
use Rattle.judging.proofs.Steps.{IsOf, judged_as, reached_within}
use Rattle.judging.proofs.TypedParts.{Given}
use Rattle.data_parts.proofs.TypesOf.{kinds, types_are}
use Rattle.array_rules.specs.Within.{is_within}

-- ---- as many types as there are elements

abbrev repeated : ℕ → TermId → List TermId
repeated zero id = []
repeated (suc n) id = id ∷ repeated n id

abbrev pub for_each : Option TermId → ℕ → List TermId
for_each None n = []
for_each (Some id) n = repeated n id

get_repeated : (n i : ℕ) (id : TermId) → i < n → slice_get (repeated n id) i ≡ Some id
get_repeated zero i id h = absurd (omega arith)
get_repeated (suc n) zero id h = refl
get_repeated (suc n) (suc i) id h = get_repeated n i id (omega arith)

-- what is wanted of each
pub wanted_of : (w : Option TermId) (n i : ℕ) → i < n → slice_get (for_each w n) i ≡ w
wanted_of None n i h = refl
wanted_of (Some id) n i h = get_repeated n i id h

module _ (y : Place) where
  abbrev each_at : List (value.Expression ℕ) → List TermId → View → Judgement (p.Expressions Note)
  each_at xs ids v = JudgeEach (definitions v) (context v y) (listed (map plain xs)) (map (λ (q : TermId). Some (term v.later q)) ids)

  abbrev pub all_at : List (value.Expression ℕ) → Option TermId → View → Judgement (p.Expressions Note)
  all_at xs w v = JudgeAll (definitions v) (context v y) (listed (map plain xs)) (wanted_in v w)

  each_is : (v : View) (w : Option TermId) (xs : List (value.Expression ℕ)) → each_at xs (for_each w (length xs)) v ≡ all_at xs w v
  each_is v None [] = refl
  each_is v None (a ∷ xs) = ap (λ (rest : Judgement (p.Expressions Note)). Part (judge_at y (plain a) None v) (λ b. Part rest (λ bs. Gives (p.Cons b bs)))) (each_is v None xs)
  each_is v (Some id) [] = refl
  each_is v (Some id) (a ∷ xs) = ap (λ (rest : Judgement (p.Expressions Note)). Part (judge_at y (plain a) (Some (term v.later id)) v) (λ b. Part rest (λ bs. Gives (p.Cons b bs)))) (each_is v (Some id) xs)

  pub as_all : (xs : List (value.Expression ℕ)) (w : Option TermId) (c d : Scopes) (k l : Checker) (r : Result (List Given) Refusal) → Answers each_in each_reached (each_at xs (for_each w (length xs))) c k d l r
      → Answers each_in each_reached (all_at xs w) c k d l r
  as_all xs w c d k l r h = seen_as each_in each_reached (all_at xs w) (each_at xs (for_each w (length xs))) c d k l r (λ later z. sym (each_is (view later k.types.listed c) w xs)) h

pub below_array : (n : ℕ) (id : TermId) → id.index < n → PartsBelow n (variants.Array id)
unfolding layout
below_array n id h = (h, tt)

pub below_mutable_array : (n : ℕ) (id : TermId) → id.index < n → PartsBelow n (variants.MutableArray id)
unfolding layout
below_mutable_array n id h = (h, tt)

-- ---- the types of elements

pub no_kinds : (ids : List TermId) (b : Bool) → b ≡ nat_eq (length ids) 0 → b ≡ true → ids ≡ []
no_kinds [] b e g = refl
no_kinds (id ∷ ids) b e g =
    let z : true ≡ false = sym g ∙ (e ∙ ne_eqb (length (id ∷ ids)) 0 (λ q. omega (arith, q))) in
    cc

pub some_kinds : (ids : List TermId) (b : Bool) → b ≡ nat_eq (length ids) 0 → b ≡ false → ids ≡ [] → ⊥
some_kinds [] b e g q = let z : true ≡ false = sym e ∙ g in cc
some_kinds (id ∷ ids) b e g q = cc

pub all_within : (k : Checker) (r : Result TermId Refusal) → Kept k.types → IfOk r (IsReached k.types) → IfOk r (Within k.types.forms)
all_within k (Ok id) h g = reached_within k.types id h g
all_within k (Err e) h g = tt

pub ok_within : (k : Checker) (r : Result TermId Refusal) → Kept k.types → IfOk r (IsReached k.types) → (m : TermId) → r ≡ Ok m → Within k.types.forms m
ok_within k (Ok id) h g m e = let z : id ≡ m = cc in subst (Within k.types.forms) z (reached_within k.types id h g)
ok_within k (Err q) h g m e = cc

pub none_given : (place : ℕ) (ids : List TermId) (id : TermId) (c : Scopes) (k l : Checker) → ids ≡ [] → Sound l c → Goes k.types l.types → ((met : List Term) → Stands met k.types → Stands met l.types) → Within l.types.forms id
    → ((later : List Form) → Later l.types.forms later → IsOf variants.Bottom id later) → Answers term_in is_within (λ v. Elements place (map (term v.later) ids)) c k c l (Ok id)
none_given place ids id c k l e q g s w is =
    after term_in is_within (λ v. Elements place (map (term v.later) ids)) c c c k l l (Ok id) g s refl
    (given term_in is_within (λ v. Elements place (map (term v.later) ids)) c l id q w
    (λ later z. ap (λ (xs : List TermId). Elements place (map (term later) xs)) e ∙ ap (λ (u : Term). Gives u) (sym (is later z))))

pub greatest_given : (place : ℕ) (ids : List TermId) (c : Scopes) (k : Checker) (r : Result TermId Refusal) → (ids ≡ [] → ⊥) → Sound k c → ((m : TermId) → r ≡ Ok m → Within k.types.forms m)
    → Judged (λ later. Greatest condition.Branches place (map (term later) ids)) k.types k.types term_in r → Answers term_in is_within (λ v. Elements place (map (term v.later) ids)) c k c k r
greatest_given place [] c k r n s w h = absurd (n refl)
greatest_given place (id ∷ ids) c k r n s w h = judged_as term_in is_within (λ later. Greatest condition.Branches place (map (term later) (id ∷ ids))) c k r s w h

module _ (made : List Given) (ids : List TermId) (e : ids ≡ kinds made) where
  same_types : (later : List Form) → types_of (each_in made later) ≡ map (term later) ids
  same_types later = types_are later made ∙ ap (map (term later)) (sym e)

  pub elements_are : (place : ℕ) (c : Scopes) (k l : Checker) (r : Result TermId Refusal) → Answers term_in is_within (λ v. Elements place (map (term v.later) ids)) c k c l r
      → Answers term_in is_within (λ v. Elements place (types_of (each_in made v.later))) c k c l r
  elements_are place c k l r h =
      seen_as term_in is_within (λ v. Elements place (types_of (each_in made v.later))) (λ v. Elements place (map (term v.later) ids)) c c k l r (λ later z. ap (λ (us : List Term). Elements place us) (same_types later)) h

  pub greatest_are : (q : Condition) (place : ℕ) (c : Scopes) (k : Checker) (r : Result TermId Refusal) → Sound k c → ((m : TermId) → r ≡ Ok m → Within k.types.forms m)
      → Judged (λ later. Greatest q place (map (term later) ids)) k.types k.types term_in r → Answers term_in is_within (λ v. Greatest q place (types_of (each_in made v.later))) c k c k r
  greatest_are q place c k r s w h =
      seen_as term_in is_within (λ v. Greatest q place (types_of (each_in made v.later))) (λ v. Greatest q place (map (term v.later) ids)) c c k k r (λ later z. ap (λ (us : List Term). Greatest q place us) (same_types later))
      (judged_as term_in is_within (λ later. Greatest q place (map (term later) ids)) c k r s w h)
