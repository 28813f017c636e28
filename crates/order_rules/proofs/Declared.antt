-- Values of declarations, with the types that are declared of them.
use Rattle.std.proofs.Common.{◌≡◌, ◌∙◌, ℕ, zero, suc, inl, inr, true, false, List, [], ◌∷◌, ◌++◌, slice_get, Ok, Err, Option, Some, None, refl, sym, ap, subst}
use Rattle.std.specs.Prelude.{Result}
use Rattle.std.specs.Result.{IsErr, IsErrAnd}
use Rattle.subtype_laws.specs.Reached.{Among}
use Rattle.type_terms.specs.declared.form.Form.{Form}
use Rattle.type_terms.specs.declared.form.TermId.{TermId}
use Rattle.typing_rules.specs.AbstractSyntax.{Expression, TypeNode}
use Rattle.typing_rules.specs.Answers.{Comes, Fault, answer}
use Rattle.typing_rules.specs.Counts.{Met}
use Rattle.typing_rules.specs.Definitions.{Definitions}
use Rattle.typing_rules.specs.Judgements.{Asks, Fails, Gives, Judgement, Meets, Part}
use Rattle.typing_rules.specs.Terms.{Term}
use Rattle.typing_rules.specs.Types.{Proper}
use Rattle.typing_rules.specs.TypedTrees.{Typed, type_of}
use Rattle.typing_rules.specs.TypeScopes as scoping
use Rattle.type_definitions.specs.Definitions.{rules_in}
use Rattle.type_definitions.specs.Meanings.{term}
use Rattle.type_definitions.specs.Tables.{Grows, Later, Within}
use Rattle.type_definitions.proofs.Meanings.{later_on, term_stays}
use Rattle.met_types.specs.Closing.{terms_in}
use Rattle.met_types.specs.States.{Goes, IsReached, Kept, Stands, State}
use Rattle.met_types.proofs.Counted.{place_among}
use Rattle.type_scopes.specs.Scopes.{seen}
use Rattle.type_judgements.specs.declared.refusal.Refusal.{Refusal}
use Rattle.value_scopes.specs.declared.place.Place.{Place}
use Rattle.value_scopes.specs.declared.scopes.Scopes.{Scopes}
use Rattle.proper_types.proofs.Turns.{part_assoc}
use Rattle.judging.specs.declared.checker.Checker.{Checker}
use Rattle.judging.specs.declared.site.Site.{Site}
use Rattle.judging.specs.Views.{View, judge, judge_at, kind_reached, term_in, typed_in, view}
use Rattle.judging.specs.Answers.{Answers}
use Rattle.judging.proofs.Chains.{given, goes_on, seen_as, stops}
use Rattle.judging.proofs.Forms.{type_is}
use Rattle.judging.proofs.Steps.{reached_on}
use Rattle.judging.proofs.TypedParts.{Given}
use Rattle.scope_judging.specs.Rules.{reads}
use Rattle.order_rules.specs.declared.values.DeclaredValue.{DeclaredValue}
use Rattle.order_rules.specs.Values.{declared_value, value_in, value_reached}

-- ---- the type that is read is the one that is written

all_stay : (forms later : List Form) (ids : List TermId) → Grows forms later → ((i : ℕ) (t : TermId) → slice_get ids i ≡ Some t → Within forms t) → terms_in later ids ≡ terms_in forms ids
all_stay forms later [] g w = refl
all_stay forms later (id ∷ ids) g w =
    ap (λ (u : Term). u ∷ terms_in later ids) (term_stays forms later id g (w zero id refl)) ∙ ap (λ (us : List Term). term forms id ∷ us) (all_stay forms later ids g (λ i t e. w (suc i) t e))

get_there : (forms : List Form) (ids : List TermId) (i : ℕ) (t : TermId) → slice_get ids i ≡ Some t → slice_get (terms_in forms ids) i ≡ Some (term forms t)
get_there forms [] i t e = cc
get_there forms (id ∷ ids) zero t e = let g : id ≡ t = cc in ap (λ (z : TermId). Some (term forms z)) g
get_there forms (id ∷ ids) (suc i) t e = get_there forms ids i t e

-- the types of the graph, as those that were met
some_met : (s : State) → Kept s → Stands (terms_in s.forms s.reached) s
some_met s k = record {
  from = λ later l i t e.
      Met (term later t) (subst (λ (us : List Term). Among (term later t) us) (all_stay s.forms later s.reached l.grows k.formed.within) (place_among (term later t) (terms_in later s.reached) i (get_there later s.reached i t e)));
  all = λ later l u a. subst (λ (us : List Term). Among u us) (sym (all_stay s.forms later s.reached l.grows k.formed.within)) a;
}

gave_this : {A : Type 0} (a b : A) (ts us : List Term) → answer (Ok a) ts ≡ answer (Ok b) us → a ≡ b
gave_this {A} a b ts us e = let h : ◌≡◌ {A = Result A Fault} (Ok a) (Ok b) = ap (λ z. z.is) e in cc

no_fault : {A X : Type 0} (a : A) (f : Fault) (ts us : List Term) → answer (Ok a) ts ≡ answer (Err f) us → X
no_fault {A} a f ts us e = let h : ◌≡◌ {A = Result A Fault} (Ok a) (Err f) = ap (λ z. z.is) e in cc

module _ (defs : Definitions) (u a : Term) (now : List Term) where
  given_is : (j : Judgement (Unit {0})) (met : List Term) → Comes defs (Part j (λ x. Meets u (Gives u))) met (answer (Ok a) now) → a ≡ u
  given_is (Gives x) met (inl h) = gave_this a u now (met ++ u ∷ []) h.1
  given_is (Gives x) met (inr h) = no_fault a _ now (met ++ u ∷ []) h.1
  given_is (Fails c at) met h = no_fault a _ now met h
  given_is (Asks q next) met (inl h) = given_is (next true) met h.1
  given_is (Asks q next) met (inr h) = given_is (next false) met h.1
  given_is (Meets t next) met (inl h) = given_is next (met ++ t ∷ []) h.1
  given_is (Meets t next) met (inr h) = no_fault a _ now (met ++ t ∷ []) h.1

pub written_is : (n : TypeNode) (c d : Scopes) (k l : Checker) (id : TermId) → Kept k.types → Answers term_in IsReached (reads n) c k d l (Ok id) → (later : List Form) → Later l.types.forms later → term later id ≡ scoping.term (seen c.types) n
written_is n c d k l id kept h later w =
    let y = h.outcome.gave.by (terms_in k.types.forms k.types.reached) (some_met k.types kept) later w in
    given_is (rules_in later l.types.listed) (scoping.term (seen c.types) n) (term later id) y.0 (Proper (rules_in later k.types.listed) (seen c.types) n) (terms_in k.types.forms k.types.reached) y.2

-- ---- a value that fits the type that is written

module _ (x : Site) (n : TypeNode) (y : Place) (a : Expression ℕ) where
  abbrev written : View → Judgement (Term × Typed)
  written = declared_value x (Some n) y a

  abbrev valued : View → Typed → Judgement (Term × Typed)
  valued v b = Gives (scoping.term (seen v.scopes.types) n, b)

  abbrev fitting : View → Term → Judgement (Term × Typed)
  fitting v t = Part (judge_at x.place a (Some t) v) (valued v)

  in_turn : (c d : Scopes) (k l : Checker) (r : Result DeclaredValue Refusal) → Answers value_in value_reached (λ v. Part (reads n v) (fitting v)) c k d l r → Answers value_in value_reached written c k d l r
  in_turn c d k l r h =
      seen_as value_in value_reached written (λ v. Part (reads n v) (fitting v)) c d k l r
      (λ later w. part_assoc (reads n (view later k.types.listed c)) (λ t. judge_at x.place a (Some t) (view later k.types.listed c)) (valued (view later k.types.listed c))) h

  pub not_read : (c : Scopes) (k l : Checker) (e : Refusal) (r : Result DeclaredValue Refusal) → IsErr r × IsErrAnd r (λ z. z ≡ e) → Answers term_in IsReached (reads n) c k c l (Err e) → Answers value_in value_reached written c k c l r
  not_read c k l e r g h = in_turn c c k l r (stops value_in value_reached term_in IsReached (reads n) fitting c c k l e r g h)

  module _ (c : Scopes) (k l : Checker) (id : TermId) (h : Answers term_in IsReached (reads n) c k c l (Ok id)) where
    pub not_fitting : (d : Scopes) (m : Checker) (e : Refusal) (r : Result DeclaredValue Refusal) → IsErr r × IsErrAnd r (λ z. z ≡ e) → Answers typed_in kind_reached (judge x.place a (Some id)) c l d m (Err e)
        → Answers value_in value_reached written c k d m r
    not_fitting d m e r g j =
        in_turn c d k m r (goes_on value_in value_reached term_in IsReached (reads n) fitting c c d k l m id r h
        (stops value_in value_reached typed_in kind_reached (judge x.place a (Some id)) valued c d l m e r g j))

    same_term : (d : Scopes) (m : Checker) → Kept k.types → d ≡ c → Goes l.types m.types → (later : List Form) → Later m.types.forms later → scoping.term (seen d.types) n ≡ term later id
    same_term d m kept e g later w =
        ap (λ (z : Scopes). scoping.term (seen z.types) n) e ∙ sym (written_is n c c k l id kept h later (later_on l.types.forms m.types.forms later g.forms w))

    abbrev fitted : Given → DeclaredValue
    fitted b = record { kind = id; value = b }

    pub fits : (d : Scopes) (m : Checker) (b : Given) → Kept k.types → Answers typed_in kind_reached (judge x.place a (Some id)) c l d m (Ok b) → Answers value_in value_reached written c k d m (Ok (fitted b))
    fits d m b kept j =
        in_turn c d k m (Ok (fitted b)) (goes_on value_in value_reached term_in IsReached (reads n) fitting c c d k l m id (Ok (fitted b)) h
        (goes_on value_in value_reached typed_in kind_reached (judge x.place a (Some id)) valued c d d l m m b (Ok (fitted b)) j
        (given value_in value_reached (λ v. valued v (typed_in b v.later)) d m (fitted b) j.outcome.sound (reached_on l.types m.types id j.outcome.goes h.outcome.holds, j.outcome.holds)
        (λ later w. ap (λ (u : Term). Gives (u, typed_in b later)) (same_term d m kept j.outcome.same j.outcome.goes later w)))))

-- ---- a value that has its own type

module _ (x : Site) (y : Place) (a : Expression ℕ) where
  abbrev own : View → Judgement (Term × Typed)
  own = declared_value x None y a

  abbrev as_it_is : View → Typed → Judgement (Term × Typed)
  as_it_is v b = Gives (type_of b, b)

  pub no_own : (c d : Scopes) (k l : Checker) (e : Refusal) (r : Result DeclaredValue Refusal) → IsErr r × IsErrAnd r (λ z. z ≡ e) → Answers typed_in kind_reached (judge y a None) c k d l (Err e)
      → Answers value_in value_reached own c k d l r
  no_own c d k l e r g j = stops value_in value_reached typed_in kind_reached (judge y a None) as_it_is c d k l e r g j

  abbrev owned : Given → DeclaredValue
  owned b = record { kind = b.note.kind; value = b }

  pub has_own : (c d : Scopes) (k l : Checker) (b : Given) → Answers typed_in kind_reached (judge y a None) c k d l (Ok b) → Answers value_in value_reached own c k d l (Ok (owned b))
  has_own c d k l b j =
      goes_on value_in value_reached typed_in kind_reached (judge y a None) as_it_is c d d k l l b (Ok (owned b)) j
      (given value_in value_reached (λ v. as_it_is v (typed_in b v.later)) d l (owned b) j.outcome.sound (j.outcome.holds, j.outcome.holds) (λ later w. ap (λ (u : Term). Gives (u, typed_in b later)) (type_is b later)))

-- ---- by what is written

pub written_as : (x : Site) (y : Place) (a : Expression ℕ) (m n : Option TypeNode) (c d : Scopes) (k l : Checker) (r : Result DeclaredValue Refusal) → m ≡ n
    → Answers value_in value_reached (declared_value x m y a) c k d l r → Answers value_in value_reached (declared_value x n y a) c k d l r
written_as x y a m n c d k l r e h = subst (λ (o : Option TypeNode). Answers value_in value_reached (declared_value x o y a) c k d l r) e h
