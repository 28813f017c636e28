-- Functions by their heads, and what their calls give.
use Rattle.std.proofs.Common.{◌≡◌, ◌∙◌, ℕ, ◌<◌, List, [], ◌∷◌, ◌++◌, map, Ok, Err, Option, Some, None, IfSome, option_map, refl, sym, ap, subst}
use Rattle.std.specs.Prelude.{Result, IfOk, OnOk}
use Rattle.mo_types.specs.declared.node.Node.{Node}
use Rattle.mo_types.specs.declared.node.Node.TheVariants as node
use Rattle.mo_types.specs.declared.node.Sort.{Sort}
use Rattle.mo_types.specs.declared.node.Sort.TheVariants as sort
use Rattle.mo_types.specs.Heads.{func_of}
use Rattle.mo_types.specs.Sub.{Each}
use Rattle.mo_subtype.specs.Renamed.{on_node}
use Rattle.typed_tree.specs.Instances.{types_in}
use Rattle.type_terms.specs.declared.form.Form.{Form}
use Rattle.type_terms.specs.declared.form.Form.TheVariants as form
use Rattle.type_terms.specs.declared.form.TermId.{TermId}
use Rattle.type_terms.specs.Layouts.{layout}
use Rattle.type_terms.specs.Tables.{PartsBelow}
use Rattle.typing_rules.specs.Calls.{called}
use Rattle.typing_rules.specs.Heads.{head, members_head, result}
use Rattle.typing_rules.specs.Terms.{Term, unlisted}
use Rattle.typing_rules.specs.Terms as t
use Rattle.type_definitions.specs.Definitions.{Listed, rules_in}
use Rattle.type_definitions.specs.Heads.{IsHeadOf, MakesNode}
use Rattle.type_definitions.specs.Meanings.{term}
use Rattle.type_definitions.specs.Tables.{IsTermOf, Makes, Within}
use Rattle.type_definitions.proofs.Meanings.{later_on}
use Rattle.met_types.specs.States.{State, Goes, Kept, Stands}
use Rattle.proper_types.proofs.Judging.{goes_itself}
use Rattle.judging.proofs.Chains.{goes_on_from}
use Rattle.member_heads.specs.Members.{IsPromoted}
use Rattle.instance_rules.specs.Instances.{Puts}
use Rattle.application_rules.specs.declared.functions.Function.{Function}
use Rattle.application_rules.specs.Functions.{FindsFunction, IsCalled, IsFutureOf, IsResult, Standing, only, function_in, seen_function}

-- ---- the head of a function type

abbrev Parts : Type 0 → Type 0
Parts A = Sort × List A × List A

abbrev on_parts : {A B : Type 0} → (A → B) → Parts A → Parts B
on_parts f q = (q.0, map f q.1, map f q.2)

same_function : {A B : Type 0} (f : A → B) (y : Node A) → func_of (on_node f y) ≡ option_map (on_parts f) (func_of y)
same_function f (node.Func s ps rs) = refl
same_function f _ = refl

in_table : (later : List Form) (o : Option Function) → option_map (on_parts (term later)) (option_map seen_function o) ≡ option_map (function_in later) o
in_table later None = refl
in_table later (Some f) = refl

each_left : {A : Type 0} (P : A → Type 0) (xs ys : List A) → Each P (xs ++ ys) → Each P xs
each_left P [] ys h = tt
each_left P (x ∷ xs) ys h = (h.0, each_left P xs ys h.1)

each_right : {A : Type 0} (P : A → Type 0) (xs ys : List A) → Each P (xs ++ ys) → Each P ys
each_right P [] ys h = h
each_right P (x ∷ xs) ys h = each_right P xs ys h.1

standing : (forms : List Form) (n : Node TermId) (o : Option Function) → option_map seen_function o ≡ func_of n → Each (Within forms) (types_in n) → IfSome o (Standing forms)
standing forms n None e h = tt
standing forms (node.Func s ps rs) (Some f) e h =
    let q : seen_function f ≡ (s, ps, rs) = cc in
    let x : f.parameters ≡ ps = ap (λ (w : Parts TermId). w.1) q in
    let y : f.results ≡ rs = ap (λ (w : Parts TermId). w.2) q in
    record {
      parameters = subst (λ (ids : List TermId). Each (Within forms) ids) (sym x) (each_left (Within forms) ps rs h);
      results = subst (λ (ids : List TermId). Each (Within forms) ids) (sym y) (each_right (Within forms) ps rs h);
    }
standing forms _ (Some f) e h = cc

pub function_found : (s m : State) (id last : TermId) (n : Node TermId) (o : Option Function) → IsPromoted s id last → Kept m → Goes s m → ((met : List Term) → Stands met s → Stands met m) → MakesNode s.forms (IsHeadOf s.listed last n) n m.forms
    → option_map seen_function o ≡ func_of n → FindsFunction s id o m
unfolding members_head
function_found s m id last n o p k g st h e = record {
  kept = k;
  goes = g;
  stands = st;
  within = standing m.forms n o e h.within;
  is = λ later l.
      ap (λ (d : Listed). func_of (members_head (rules_in later d) (term later id))) g.listed
      ∙ (ap (λ (u : Term). func_of (head (rules_in later s.listed) u)) (p later (later_on s.forms m.forms later g.forms l))
      ∙ (ap func_of (sym (h.is later l)) ∙ (same_function (term later) n ∙ (ap (option_map (on_parts (term later))) (sym e) ∙ in_table later o))));
}

-- ---- what a call gives

pub below_future : (n : ℕ) (id : TermId) → id.index < n → PartsBelow n (form.Async id)
unfolding layout
below_future n id h = (h, tt)

is_only : (ids : List TermId) (id : TermId) → only ids ≡ Some id → ids ≡ id ∷ []
is_only [] id e = cc
is_only (x ∷ []) id e = let z : x ≡ id = cc in ap (λ (y : TermId). y ∷ []) z
is_only (x ∷ y ∷ ids) id e = cc

several : (later : List Form) (ids : List TermId) → only ids ≡ None → t.Tuple (unlisted (map (term later) ids)) ≡ result (map (term later) ids)
several later [] e = refl
several later (x ∷ []) e = cc
several later (x ∷ y ∷ ids) e = refl

module _ (s : State) where
  pub one_result : Kept s → (ids xs : List TermId) (id : TermId) → Some id ≡ only xs → xs ≡ ids → Each (Within s.forms) ids → Puts s (IsResult ids id) id s
  one_result k ids xs id e f w =
      let h : ids ≡ id ∷ [] = is_only ids id (ap only (sym f) ∙ sym e) in
      record {
        kept = k;
        goes = goes_itself s;
        stands = λ met h. h;
        within = (subst (λ (ys : List TermId). Each (Within s.forms) ys) h w).0;
        is = λ later l. ap (λ (ys : List TermId). result (map (term later) ys)) (sym h);
      }

  module _ {E : Type 0} (m : State) where
    pub tuple_result : (ids xs : List TermId) (r : Result TermId E) → None ≡ only xs → xs ≡ ids → OnOk r (Kept m) → OnOk r (Goes s m) → OnOk r ((met : List Term) → Stands met s → Stands met m)
        → IfOk r (λ id. Makes s.forms (IsTermOf (form.Tuple ids) id) id m.forms) → IfOk r (λ id. Puts s (IsResult ids id) id m)
    tuple_result ids xs (Ok id) e f k g st h = record {
      kept = k;
      goes = g;
      stands = st;
      within = h.within;
      is = λ later l. h.is later l ∙ several later ids (ap only (sym f) ∙ sym e);
    }
    tuple_result ids xs (Err q) e f k g st h = tt

    pub future_made : (kind : TermId) (r : Result TermId E) → OnOk r (Kept m) → OnOk r (Goes s m) → OnOk r ((met : List Term) → Stands met s → Stands met m) → IfOk r (λ id. Makes s.forms (IsTermOf (form.Async kind) id) id m.forms)
        → IfOk r (λ id. Puts s (IsFutureOf kind id) id m)
    future_made kind (Ok id) k g st h = record { kept = k; goes = g; stands = st; within = h.within; is = h.is }
    future_made kind (Err q) k g st h = tt

  module _ (m : State) (ids : List TermId) (id : TermId) (h : Puts s (IsResult ids id) id m) where
    pub local_call : (sort_of : Sort) → sort_of ≡ sort.Local → Puts s (IsCalled sort_of ids id) id m
    local_call x e = record {
      kept = h.kept;
      goes = h.goes;
      stands = h.stands;
      within = h.within;
      is = λ later l. h.is later l ∙ ap (λ (y : Sort). called y (map (term later) ids)) (sym e);
    }

    future : (x : Sort) → (x ≡ sort.Local → ⊥) → (us : List Term) → called x us ≡ t.Async (result us)
    future sort.Local n us = absurd (n refl)
    future sort.Shared n us = refl
    future sort.Query n us = refl

    pub future_call : (x : Sort) → (x ≡ sort.Local → ⊥) → (o : State) (made : TermId) → Puts m (IsFutureOf id made) made o → Puts s (IsCalled x ids made) made o
    future_call x n o made f = record {
      kept = f.kept;
      goes = goes_on_from s m o h.goes f.goes;
      stands = λ met g. f.stands met (h.stands met g);
      within = f.within;
      is = λ later l. f.is later l ∙ (ap (λ (u : Term). t.Async u) (h.is later (later_on m.forms o.forms later f.goes.forms l)) ∙ sym (future x n (map (term later) ids)));
    }
