-- Calls by their parts.
use Rattle.std.proofs.Common.{◌≡◌, ◌∙◌, ℕ, zero, suc, Bool, true, false, List, [], ◌∷◌, length, Ok, Err, Option, Some, None, map, option_map, refl, sym, ap, subst}
use Rattle.std.proofs.lemmas.Bool.{ne_eqb}
use Rattle.std.proofs.Math.Dec.{eqb-suc-suc}
use Rattle.std.specs.Prelude.{Result, nat_eq}
use Rattle.std.specs.Result.{IsErr, IsErrAnd}
use Rattle.mo_types.specs.declared.node.Sort.{Sort}
use Rattle.mo_types.specs.Heads.{func_of}
use Rattle.type_terms.specs.declared.form.Form.{Form}
use Rattle.type_terms.specs.declared.form.TermId.{TermId}
use Rattle.typing_rules.specs.declared.condition.Condition.TheVariants as condition
use Rattle.typing_rules.specs.AbstractSyntax.{Expression, TypeNode}
use Rattle.typing_rules.specs.AbstractSyntax as p
use Rattle.typing_rules.specs.AsyncPlaces.{FuturePlaced, takes_call}
use Rattle.typing_rules.specs.Ends.{Has}
use Rattle.typing_rules.specs.Expressions.{JudgeEach, some_each}
use Rattle.typing_rules.specs.Heads.{members_head}
use Rattle.typing_rules.specs.Judgements.{Judgement, Part, Tests, Given as IsGiven}
use Rattle.typing_rules.specs.Terms.{Term}
use Rattle.typing_rules.specs.TypedTrees.{Note, Typed, count, type_of}
use Rattle.type_definitions.specs.Definitions.{rules_in}
use Rattle.type_definitions.specs.Meanings.{term}
use Rattle.met_types.specs.States.{State}
use Rattle.type_judgements.specs.declared.refusal.Refusal.{Refusal}
use Rattle.type_judgements.specs.declared.refusal.Refusal.TheVariants as refusal
use Rattle.abstract_tree.specs.declared.expressions.Expression as value
use Rattle.abstract_tree.specs.TreeView.{listed, plain}
use Rattle.value_scopes.specs.declared.scopes.Scopes.{Scopes}
use Rattle.value_scopes.specs.Places.{around_in, body_in}
use Rattle.judging.specs.declared.checker.Checker.{Checker}
use Rattle.judging.specs.declared.site.Site.{Site}
use Rattle.judging.specs.Views.{View, context, definitions, each_in, each_reached, kind_reached, no_more, nothing, rule, typed_in, view, wanted_in}
use Rattle.judging.specs.Answers.{Answers}
use Rattle.judging.proofs.Cases.{given_none, given_some, tests_fail, tests_hold}
use Rattle.judging.proofs.Chains.{after, goes_on, seen_as, stops}
use Rattle.judging.proofs.Forms.{type_is}
use Rattle.judging.proofs.TypedParts.{Comes, Given, part_given, part_refused}
use Rattle.instance_rules.specs.Instances.{Puts}
use Rattle.application_rules.specs.declared.functions.Function.{Function}
use Rattle.application_rules.specs.Callees.{called_with, callee}
use Rattle.application_rules.specs.Functions.{FindsFunction, IsCalled, function_in}

abbrev Handed : Result Given Refusal → Refusal → Type 0
Handed r e = IsErr r × IsErrAnd r (λ y. y ≡ e)

count_is : (items : List (value.Expression ℕ)) → count (listed (map plain items)) ≡ length items
count_is [] = refl
count_is (a ∷ items) = ap suc (count_is items)

length_is : (later : List Form) (ids : List TermId) → length (map (term later) ids) ≡ length ids
length_is later [] = refl
length_is later (id ∷ ids) = ap suc (length_is later ids)

some_are : (later : List Form) (ids : List TermId) → some_each (map (term later) ids) ≡ map (λ (id : TermId). Some (term later id)) ids
some_are later [] = refl
some_are later (id ∷ ids) = ap (λ (us : List (Option Term)). Some (term later id) ∷ us) (some_are later ids)

itself : (n : ℕ) → nat_eq n n ≡ true
itself zero = refl
itself (suc n) = eqb-suc-suc n n ∙ itself n

pub counted : (a b m : ℕ) → m ≡ b → m ≡ a → nat_eq a b ≡ true
counted a b m e f = ap (λ (n : ℕ). nat_eq n b) (sym f ∙ e) ∙ itself b

pub not_counted : (a b m : ℕ) → (m ≡ b → ⊥) → m ≡ a → nat_eq a b ≡ false
not_counted a b m n f = ne_eqb a b (λ h. n (f ∙ h))

-- ---- the call of a function that takes and gives these

module _ (x : Site) (types : Option (List TypeNode)) (items : List (value.Expression ℕ)) (g : Given) (f : Function) where
  abbrev pub called_so : View → Judgement Typed
  called_so v = called_with x types (listed (map plain items)) v (typed_in g v.later) (function_in v.later f)

  abbrev pub placed : TermId → View → Judgement (Unit {0})
  placed kind v = FuturePlaced (definitions v) (body_in x.place.body) (takes_call (around_in x.around)) x.at (term v.later kind)

  abbrev pub each_item : View → Judgement (p.Expressions Note)
  each_item v = JudgeEach (definitions v) (context v x.place) (listed (map plain items)) (map (λ (id : TermId). Some (term v.later id)) f.parameters)

  abbrev call_end : View → Term → p.Expressions Note → Judgement Typed
  call_end v u es = Has x.at (wanted_in v x.wanted) u (p.Call (typed_in g v.later) types es)

  abbrev shape : View → Term → ℕ → ℕ → List (Option Term) → Judgement Typed
  shape v u n m ws =
      Part (FuturePlaced (definitions v) (body_in x.place.body) (takes_call (around_in x.around)) x.at u) (λ _.
      Tests condition.ArgumentCount x.at (nat_eq n m) (Part (JudgeEach (definitions v) (context v x.place) (listed (map plain items)) ws) (call_end v u)))

  abbrev as_many : TermId → View → Judgement Typed
  as_many kind v = Tests condition.ArgumentCount x.at (nat_eq (length f.parameters) (length items)) (Part (each_item v) (call_end v (term v.later kind)))

  abbrev by_kind : TermId → View → Judgement Typed
  by_kind kind v = Part (placed kind v) (λ _. as_many kind v)

  pub placed_as : (takes : Bool) (kind : TermId) (c : Scopes) (k l : Checker) (r : Result (Unit {0}) Refusal) → takes ≡ takes_call (around_in x.around)
      → Answers nothing no_more (λ v. FuturePlaced (definitions v) (body_in x.place.body) takes x.at (term v.later kind)) c k c l r → Answers nothing no_more (placed kind) c k c l r
  placed_as takes kind c k l r e h =
      subst (λ (b : Bool). Answers nothing no_more (λ v. FuturePlaced (definitions v) (body_in x.place.body) b x.at (term v.later kind)) c k c l r) e h

  as_kind : (kind : TermId) (v : View) → IsCalled f.sort f.results kind v.later → called_so v ≡ by_kind kind v
  as_kind kind v e =
      let n : ℕ = length (map (term v.later) f.parameters) in
      let m : ℕ = count (listed (map plain items)) in
      let ws : List (Option Term) = some_each (map (term v.later) f.parameters) in
      ap (λ (u : Term). shape v u n m ws) (sym e)
      ∙ (ap (λ (i : ℕ). shape v (term v.later kind) i m ws) (length_is v.later f.parameters)
      ∙ (ap (λ (i : ℕ). shape v (term v.later kind) (length f.parameters) i ws) (count_is items)
      ∙ ap (λ (us : List (Option Term)). shape v (term v.later kind) (length f.parameters) (length items) us) (some_are v.later f.parameters)))

  module _ (c : Scopes) (k : Checker) (t : State) (kind : TermId) (h : Puts k.types (IsCalled f.sort f.results kind) kind t) where
    abbrev put : Checker
    put = record k { types = t }

    abbrev behind : View → Unit {0} → Judgement Typed
    behind v _ = as_many kind v

    from_kind : (d : Scopes) (l : Checker) (r : Result Given Refusal) → Comes (by_kind kind) c put d l r → Comes called_so c k d l r
    from_kind d l r i =
        after typed_in kind_reached called_so c c d k put l r h.goes h.stands refl
        (seen_as typed_in kind_reached called_so (by_kind kind) c d put l r (λ later w. as_kind kind (view later t.listed c) (h.is later w)) i)

    pub not_placed : (l : Checker) (e : Refusal) (r : Result Given Refusal) → Handed r e → Answers nothing no_more (placed kind) c put c l (Err e) → Comes called_so c k c l r
    not_placed l e r i j = from_kind c l r (stops typed_in kind_reached nothing no_more (placed kind) behind c c put l e r i j)

    module _ (l : Checker) (j : Answers nothing no_more (placed kind) c put c l (Ok tt)) where
      from_counted : (d : Scopes) (m : Checker) (r : Result Given Refusal) → Comes (as_many kind) c l d m r → Comes called_so c k d m r
      from_counted d m r i = from_kind d m r (goes_on typed_in kind_reached nothing no_more (placed kind) behind c c d put l m tt r j i)

      abbrev given_each : View → Judgement Typed
      given_each v = Part (each_item v) (call_end v (term v.later kind))

      pub not_as_many : nat_eq (length f.parameters) (length items) ≡ false → Comes called_so c k c l (Err (refusal.False x.at condition.ArgumentCount))
      not_as_many e =
          from_counted c l (Err (refusal.False x.at condition.ArgumentCount)) (tests_fail typed_in kind_reached condition.ArgumentCount x.at (nat_eq (length f.parameters) (length items)) given_each c l e)

      module _ (e : nat_eq (length f.parameters) (length items) ≡ true) where
        from_each : (d : Scopes) (m : Checker) (r : Result Given Refusal) → Comes given_each c l d m r → Comes called_so c k d m r
        from_each d m r i = from_counted d m r (tests_hold typed_in kind_reached condition.ArgumentCount x.at (nat_eq (length f.parameters) (length items)) given_each c d l m r e i)

        pub no_items : (d : Scopes) (m : Checker) (q : Refusal) (r : Result Given Refusal) → Handed r q → Answers each_in each_reached each_item c l d m (Err q) → Comes called_so c k d m r
        no_items d m q r i o = from_each d m r (stops typed_in kind_reached each_in each_reached each_item (λ v. call_end v (term v.later kind)) c d l m q r i o)

        pub call_given : (d : Scopes) (m n : Checker) (made : List Given) (r : Result Given Refusal) → Answers each_in each_reached each_item c l d m (Ok made)
            → Comes (λ v. call_end v (term v.later kind) (each_in made v.later)) d m d n r → Comes called_so c k d n r
        call_given d m n made r i o = from_each d n r (goes_on typed_in kind_reached each_in each_reached each_item (λ v. call_end v (term v.later kind)) c d d l m n made r i o)

-- ---- calls

module _ (x : Site) (f : Expression ℕ) (types : Option (List TypeNode)) (items : List (value.Expression ℕ)) where
  abbrev call : View → Judgement Typed
  call = rule x (p.Call f types (listed (map plain items)))

  abbrev by_function : View → Typed → Judgement Typed
  by_function v g = IsGiven condition.NotFunction x.at (func_of (members_head (definitions v) (type_of g))) (called_with x types (listed (map plain items)) v g)

  pub no_callee : (c d : Scopes) (k l : Checker) (e : Refusal) (r : Result Given Refusal) → Handed r e → Comes (callee x f types) c k d l (Err e) → Comes call c k d l r
  no_callee c d k l e r h i = part_refused (callee x f types) by_function c d k l e r h i

  module _ (c d : Scopes) (k l : Checker) (g : Given) (h : Comes (callee x f types) c k d l (Ok g)) (t : State) (o : Option Function) (i : FindsFunction l.types g.note.kind o t) where
    abbrev sought : Checker
    sought = record l { types = t }

    abbrev function_at : View → Option (Sort × List Term × List Term)
    function_at v = func_of (members_head (definitions v) (type_of (typed_in g v.later)))

    function_is : (later : List Form) → function_at (view later t.listed d) ≡ func_of (members_head (rules_in later t.listed) (term later g.note.kind))
    function_is later = ap (λ (u : Term). func_of (members_head (rules_in later t.listed) u)) (type_is g later)

    from_function : (e : Scopes) (m : Checker) (r : Result Given Refusal) → Comes (λ v. by_function v (typed_in g v.later)) d sought e m r → Comes call c k e m r
    from_function e m r j =
        part_given (callee x f types) by_function c d e k l m g r h (after typed_in kind_reached (λ v. by_function v (typed_in g v.later)) d d e l sought m r i.goes i.stands refl j)

    pub function_called : (y : Function) → o ≡ Some y → (e : Scopes) (m : Checker) (r : Result Given Refusal)
        → Comes (λ v. called_with x types (listed (map plain items)) v (typed_in g v.later) (function_in v.later y)) d sought e m r → Comes call c k e m r
    function_called y z e m r j =
        from_function e m r
        (given_some typed_in kind_reached function_at d e sought m r condition.NotFunction x.at (λ v q. called_with x types (listed (map plain items)) v (typed_in g v.later) q) (λ later. function_in later y)
        (λ later w. function_is later ∙ (i.is later w ∙ ap (option_map (function_in later)) z)) j)

    pub no_function : o ≡ None → Comes call c k d sought (Err (refusal.False x.at condition.NotFunction))
    no_function z =
        from_function d sought (Err (refusal.False x.at condition.NotFunction))
        (given_none typed_in kind_reached condition.NotFunction x.at function_at d sought (λ v q. called_with x types (listed (map plain items)) v (typed_in g v.later) q)
        (λ later w. function_is later ∙ (i.is later w ∙ ap (option_map (function_in later)) z)))
