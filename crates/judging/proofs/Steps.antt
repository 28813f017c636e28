-- Single steps of rules, and what holds after them.
use mathlib.Core.Path.{fun_ext}
use Rattle.std.proofs.Common.{◌≡◌, inl, ℕ, ◌<◌, true, false, Bool, List, [], ◌∷◌, ◌++◌, Ok, Err, Option, Some, None, IfSome, option_map, refl, sym, ap, subst}
use Rattle.std.specs.Prelude.{Result}
use Rattle.std.specs.Result.{IsErr, IsErrAnd}
use Rattle.mo_num.specs.declared.kind.Kind.{Kind}
use Rattle.mo_types.specs.Sub.{Each}
use Rattle.type_terms.specs.declared.form.Form.{Form}
use Rattle.type_terms.specs.declared.form.TermId.{TermId}
use Rattle.type_terms.specs.declared.form.Form.TheVariants as variants
use Rattle.type_terms.specs.Layouts.{parts, layout}
use Rattle.type_terms.specs.Tables.{PartsBelow}
use Rattle.typing_rules.specs.declared.condition.Condition.{Condition}
use Rattle.typing_rules.specs.declared.condition.Condition.TheVariants as condition
use Rattle.typing_rules.specs.AbstractSyntax.{Expression}
use Rattle.typing_rules.specs.AbstractSyntax as p
use Rattle.typing_rules.specs.Terms.{Term}
use Rattle.typing_rules.specs.Judgements.{Judgement, Gives, Fails, Asks, Meets, Part, Tests, Needs, Question, Fine, IsBelow}
use Rattle.typing_rules.specs.TypedTrees.{Note, Typed, typed}
use Rattle.typing_rules.specs.Ends.{Has}
use Rattle.type_definitions.specs.Meanings.{term, term_of}
use Rattle.type_definitions.specs.Tables.{Within, Later}
use Rattle.type_definitions.proofs.Meanings.{each_map, grows_not}
use Rattle.met_types.specs.States.{State, Kept, Stands, Goes, IsReached}
use Rattle.shareable_types.proofs.Staying.{stays}
use Rattle.type_judgements.specs.Judged.{Gave, Judged}
use Rattle.type_judgements.specs.LeftBehind.{LeavesOn}
use Rattle.type_judgements.specs.declared.refusal.Refusal.{Refusal}
use Rattle.type_judgements.specs.declared.refusal.Refusal.TheVariants as refusal
use Rattle.abstract_tree.specs.declared.expressions.Expression as value
use Rattle.value_scopes.specs.declared.note.Note as value_note
use Rattle.value_scopes.specs.declared.scopes.Scopes.{Scopes}
use Rattle.value_scopes.specs.declared.place.Place.{Place}
use Rattle.value_scopes.proofs.Seeing.{hold_on}
use Rattle.judging.specs.declared.checker.Checker.{Checker}
use Rattle.judging.specs.declared.site.Site.{Site}
use Rattle.judging.specs.Parts.{Known, Sound, Wanting, Ready, IsReachedFirst, Entering}
use Rattle.judging.specs.Views.{View, view, judge, judge_at, wanted_in, below, below_wanted, typed_in, kind_reached, nothing, no_more}
use Rattle.judging.specs.Answers.{Answers}
use Rattle.judging.proofs.Chains.{seen_as, after, goes_on, stops}

-- ---- what holds at later states

pub some_on : (P Q : TermId → Type 0) (o : Option TermId) → ((id : TermId) → P id → Q id) → IfSome o P → IfSome o Q
some_on P Q None f h = tt
some_on P Q (Some id) f h = f id h

pub reached_on : (s t : State) (id : TermId) → Goes s t → IsReached s id → IsReached t id
reached_on s t id g h = (h.0, g.reached h.0 id h.1)

-- a type that was met is a term of the table
pub reached_within : (s : State) (id : TermId) → Kept s → IsReached s id → Within s.forms id
reached_within s id k h = k.formed.within h.0 id h.1

pub known_on : (k : Checker) (t : State) → Known k → Kept t → Goes k.types t → Known (record k { types = t })
known_on k t s q g = record {
  kept = q;
  messages = stays k.types t k.messages g s.messages;
  any = s.any;
  equality = stays k.types t k.equality g s.equality;
  no_any = s.no_any;
}

pub sound_on : (k : Checker) (c : Scopes) (t : State) → Sound k c → Kept t → Goes k.types t → Sound (record k { types = t }) c
sound_on k c t s q g = record {
  known = known_on k t s.known q g;
  values = hold_on k.types.forms t.forms c.values g.forms s.values;
  labels = each_map (λ q. IsReached k.types q.1.kind) (λ q. IsReached t q.1.kind) (λ q. reached_on k.types t q.1.kind g) c.labels s.labels;
}

pub wanting_on : (k l : Checker) (x : Site) → Wanting k x → Kept l.types → Goes k.types l.types → Wanting l x
wanting_on k l x w q g = record { kept = q; wanted = some_on (IsReached k.types) (IsReached l.types) x.wanted (λ id. reached_on k.types l.types id g) w.wanted }

pub ready_on : (k l : Checker) (c d : Scopes) (x : Site) → Ready k c x → Sound l d → Goes k.types l.types → Ready l d x
ready_on k l c d x r s g = record {
  sound = s;
  returns = some_on (IsReached k.types) (IsReached l.types) x.place.returns (λ id. reached_on k.types l.types id g) r.returns;
  wanting = wanting_on k l x r.wanting s.known.kept g;
}

-- what is wanted of a part
pub entering : (k : Checker) (c : Scopes) (x : Site) (y : Place) (w : Option TermId) → Ready k c x → y.returns ≡ x.place.returns → IfSome w (Within k.types.forms) → Entering k c y w
entering k c x y w r e h = record {
  known = r.sound.known;
  values = r.sound.values;
  labels = each_map (λ q. IsReached k.types q.1.kind) (λ q. IsReachedFirst k w q.1.kind) (λ q g. inl g) c.labels r.sound.labels;
  returns = subst (λ (o : Option TermId). IfSome o (IsReachedFirst k w)) (sym e) (some_on (IsReached k.types) (IsReachedFirst k w) x.place.returns (λ id g. inl g) r.returns);
  wanted = h;
}

-- ---- a type is met, and is below the one that is wanted

-- a fault that a step names
pub refused_as : {A M N : Type 0} (see : M → List Form → A) (good : State → M → Type 0) (j : List Form → Judgement A) (other : N → List Form → A) (c d : Scopes) (k l : Checker) (e : Refusal) → LeavesOn k.types l.types e
    → Judged j k.types l.types other (Err e) → Answers see good (λ v. j v.later) c k d l (Err e)
refused_as see good j other c d k l (refusal.False place q) left h = record { outcome = record { left = left; names = h } }
refused_as see good j other c d k l refusal.Memory left h = record { outcome = tt }

module _ (x : Site) (id : TermId) (f : List Form → p.Form Note) where
  abbrev steps : View → Judgement Typed
  steps v = Part (Meets (term v.later id) Fine) (λ _. Part (below_wanted x id v) (λ _. Gives (typed x.at (term v.later id) (f v.later))))

  abbrev has : View → Judgement Typed
  has v = Has x.at (wanted_in v x.wanted) (term v.later id) (f v.later)

  same_steps : (w : Option Term) (u : Term) (a : p.Form Note) → Has x.at w u a ≡ Part (Meets u Fine) (λ _. Part (below x.at w u) (λ _. Gives (typed x.at u a)))
  same_steps None u a = refl
  same_steps (Some w) u a = ap (λ (next : Bool → Judgement Typed). Meets u (Asks (IsBelow u w) next)) (fun_ext by) where
    by : (yes : Bool) → Tests condition.Mismatch x.at yes (Gives (typed x.at u a)) ≡ Part (Tests condition.Mismatch x.at yes Fine) (λ _. Gives (typed x.at u a))
    by true = refl
    by false = refl

  as_steps : (c d : Scopes) (k l : Checker) (r : Result (value.Expression value_note.Note) Refusal) → Answers typed_in kind_reached steps c k d l r → Answers typed_in kind_reached has c k d l r
  as_steps c d k l r h = seen_as typed_in kind_reached has steps c d k l r (λ later w. same_steps (option_map (term later) x.wanted) (term later id) (f later)) h

  -- it is met
  met : (c : Scopes) (k l : Checker) → Sound l c → Goes k.types l.types → Gave (λ later. Meets (term later id) Fine) k.types l.types (λ later. tt) → Answers nothing no_more (λ v. Meets (term v.later id) Fine) c k c l (Ok tt)
  met c k l s g h = record { outcome = record { sound = s; same = refl; goes = g; holds = tt; gave = h } }

  pub unmet : (c : Scopes) (k l : Checker) (e : Refusal) (r : Result (value.Expression value_note.Note) Refusal) → IsErr r × IsErrAnd r (λ y. y ≡ e) → LeavesOn k.types l.types e
      → Judged (λ later. Meets (term later id) Fine) k.types l.types (λ (made : Unit {0}) later. made) (Err e) → Answers typed_in kind_reached has c k c l r
  unmet c k l e r g left h =
      as_steps c c k l r (stops typed_in kind_reached nothing no_more (λ v. Meets (term v.later id) Fine) (λ v _. Part (below_wanted x id v) (λ _. Gives (typed x.at (term v.later id) (f v.later)))) c c k l e r g
      (refused_as nothing no_more (λ later. Meets (term later id) Fine) nothing c c k l e left h))

  pub not_below : (c : Scopes) (k l : Checker) (e : Refusal) (r : Result (value.Expression value_note.Note) Refusal) → Sound l c → Goes k.types l.types → Gave (λ later. Meets (term later id) Fine) k.types l.types (λ later. tt)
      → IsErr r × IsErrAnd r (λ y. y ≡ e) → Answers nothing no_more (below_wanted x id) c l c l (Err e) → Answers typed_in kind_reached has c k c l r
  not_below c k l e r s g m i h =
      as_steps c c k l r (goes_on typed_in kind_reached nothing no_more (λ v. Meets (term v.later id) Fine) (λ v _. Part (below_wanted x id v) (λ _. Gives (typed x.at (term v.later id) (f v.later)))) c c c k l l tt r (met c k l s g m)
      (stops typed_in kind_reached nothing no_more (below_wanted x id) (λ v _. Gives (typed x.at (term v.later id) (f v.later))) c c l l e r i h))

  pub ends : (c : Scopes) (k l : Checker) (r : Result (value.Expression value_note.Note) Refusal) → Sound l c → Goes k.types l.types → Gave (λ later. Meets (term later id) Fine) k.types l.types (λ later. tt)
      → Answers nothing no_more (below_wanted x id) c l c l (Ok tt) → Answers typed_in kind_reached (λ v. Gives (typed x.at (term v.later id) (f v.later))) c l c l r → Answers typed_in kind_reached has c k c l r
  ends c k l r s g m b h =
      as_steps c c k l r (goes_on typed_in kind_reached nothing no_more (λ v. Meets (term v.later id) Fine) (λ v _. Part (below_wanted x id v) (λ _. Gives (typed x.at (term v.later id) (f v.later)))) c c c k l l tt r (met c k l s g m)
      (goes_on typed_in kind_reached nothing no_more (below_wanted x id) (λ v _. Gives (typed x.at (term v.later id) (f v.later))) c c c l l l tt r b h))

-- ---- terms of forms without parts

-- the term of this form
abbrev pub IsOf : Form → TermId → List Form → Type 0
IsOf f id later = term later id ≡ term_of (term later) f

pub none_below : (n : ℕ) (f : Form) → parts f ≡ [] → PartsBelow n f
none_below n f e = subst (λ (ids : List TermId). Each (λ q. q.index < n) ids) (sym e) tt

module _ (form : Form) (id : TermId) where
  pub has_of : (x : Site) (f : List Form → p.Form Note) (c d e : Scopes) (k l m : Checker) (r : Result (value.Expression value_note.Note) Refusal) → Goes k.types l.types
      → ((met : List Term) → Stands met k.types → Stands met l.types) → d ≡ c → ((later : List Form) → Later l.types.forms later → IsOf form id later)
      → Answers typed_in kind_reached (λ v. Has x.at (wanted_in v x.wanted) (term v.later id) (f v.later)) d l e m r
      → Answers typed_in kind_reached (λ v. Has x.at (wanted_in v x.wanted) (term_of (term v.later) form) (f v.later)) c k e m r
  has_of x f c d e k l m r g s q is h =
      after typed_in kind_reached (λ v. Has x.at (wanted_in v x.wanted) (term_of (term v.later) form) (f v.later)) c d e k l m r g s q
      (seen_as typed_in kind_reached (λ v. Has x.at (wanted_in v x.wanted) (term_of (term v.later) form) (f v.later)) (λ v. Has x.at (wanted_in v x.wanted) (term v.later id) (f v.later)) d e l m r
      (λ later w. ap (λ u. Has x.at (option_map (term later) x.wanted) u (f later)) (sym (is later w))) h)

  pub judged_of : (y : Place) (a : Expression ℕ) (c d e : Scopes) (k l m : Checker) (r : Result (value.Expression value_note.Note) Refusal) → Goes k.types l.types
      → ((met : List Term) → Stands met k.types → Stands met l.types) → d ≡ c → ((later : List Form) → Later l.types.forms later → IsOf form id later)
      → Answers typed_in kind_reached (judge y a (Some id)) d l e m r → Answers typed_in kind_reached (λ v. judge_at y a (Some (term_of (term v.later) form)) v) c k e m r
  judged_of y a c d e k l m r g s q is h =
      after typed_in kind_reached (λ v. judge_at y a (Some (term_of (term v.later) form)) v) c d e k l m r g s q
      (seen_as typed_in kind_reached (λ v. judge_at y a (Some (term_of (term v.later) form)) v) (judge y a (Some id)) d e l m r
      (λ later w. ap (λ u. judge_at y a (Some u) (view later l.types.listed d)) (sym (is later w))) h)

pub wanted_within : (k : Checker) (c : Scopes) (x : Site) → Ready k c x → IfSome x.wanted (Within k.types.forms)
wanted_within k c x r = some_on (IsReached k.types) (Within k.types.forms) x.wanted (λ id h. reached_within k.types id r.wanting.kept h) r.wanting.wanted

-- a condition, and then what follows
pub needs_then : {A : Type 0} (q : Condition) (at : ℕ) (u : Question) (j : Judgement A) → Needs q at u j ≡ Part (Needs q at u Fine) (λ _. j)
needs_then {A} q at u j = ap (λ (next : Bool → Judgement A). Asks u next) (fun_ext by) where
  by : (yes : Bool) → Tests q at yes j ≡ Part (Tests q at yes Fine) (λ _. j)
  by true = refl
  by false = refl

pub tests_so : {A : Type 0} (q : Condition) (at : ℕ) (b : Bool) (j : Judgement A) → b ≡ true → Tests q at b j ≡ j
tests_so q at b j e = ap (λ (x : Bool). Tests q at x j) e

pub tests_not : {A : Type 0} (q : Condition) (at : ℕ) (b : Bool) (j : Judgement A) → b ≡ false → Tests q at b j ≡ Fails q at
tests_not q at b j e = ap (λ (x : Bool). Tests q at x j) e

-- ---- what single functions come to

pub judged_as : {A M : Type 0} (see : M → List Form → A) (good : State → M → Type 0) (j : List Form → Judgement A) (c : Scopes) (k : Checker) (r : Result M Refusal) → Sound k c → ((m : M) → r ≡ Ok m → good k.types m)
    → Judged j k.types k.types see r → Answers see good (λ v. j v.later) c k c k r
judged_as see good j c k (Ok m) s g h = record {
  outcome = record {
    sound = s;
    same = refl;
    goes = record { forms = grows_not k.types.forms; listed = refl; outcomes = refl; reached = λ i u e. e };
    holds = g m refl;
    gave = h;
  };
}
judged_as see good j c k (Err (refusal.False place q)) s g h = record { outcome = record { left = record { forms = grows_not k.types.forms; listed = refl }; names = h } }
judged_as see good j c k (Err refusal.Memory) s g h = record { outcome = tt }

pub below_some : (x : Site) (id w : TermId) (c : Scopes) (k : Checker) (r : Result (Unit {0}) Refusal) → x.wanted ≡ Some w → Sound k c
    → Judged (λ later. Needs condition.Mismatch x.at (IsBelow (term later id) (term later w)) Fine) k.types k.types nothing r → Answers nothing no_more (below_wanted x id) c k c k r
below_some x id w c k r e s h =
    subst (λ (o : Option TermId). Answers nothing no_more (λ v. below x.at (option_map (term v.later) o) (term v.later id)) c k c k r) (sym e)
    (judged_as nothing no_more (λ later. Needs condition.Mismatch x.at (IsBelow (term later id) (term later w)) Fine) c k r s (λ m g. tt) h)

pub unit_plain : parts (variants.Tuple []) ≡ []
unfolding layout
unit_plain = refl

-- forms without parts

pub plain_bottom : parts variants.Bottom ≡ []
unfolding layout
plain_bottom = refl

pub plain_boolean : parts variants.Boolean ≡ []
unfolding layout
plain_boolean = refl

pub plain_character : parts variants.Character ≡ []
unfolding layout
plain_character = refl

pub plain_text : parts variants.Text ≡ []
unfolding layout
plain_text = refl

pub plain_null : parts variants.Null ≡ []
unfolding layout
plain_null = refl

pub plain_error : parts variants.Error ≡ []
unfolding layout
plain_error = refl

pub plain_number : (k : Kind) → parts (variants.Number k) ≡ []
unfolding layout
plain_number k = refl

-- forms of terms of the table

pub below_optional : (n : ℕ) (id : TermId) → id.index < n → PartsBelow n (variants.Optional id)
unfolding layout
below_optional n id h = (h, tt)

pub below_tuple : (n : ℕ) (ids : List TermId) → Each (λ q. q.index < n) ids → PartsBelow n (variants.Tuple ids)
unfolding layout
below_tuple n ids h = subst (λ (qs : List TermId). Each (λ q. q.index < n) qs) (sym (no_more ids)) h where
  no_more : (xs : List TermId) → xs ++ [] ≡ xs
  no_more [] = refl
  no_more (x ∷ xs) = ap (λ (ys : List TermId). x ∷ ys) (no_more xs)
