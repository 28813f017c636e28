-- Bounds followed one after another.
use Rattle.std.proofs.Common.{◌≡◌, ℕ, zero, suc, ◌+◌, ◌-◌, ◌≤◌, Bool, true, false, not, List, [], ◌∷◌, length, Option, Some, None, refl, sym, ap, ◌∙◌, subst, arith}
use Rattle.std.specs.Prelude.{Result, Ok, Err, IfOk, OnOk}
use Rattle.mo_types.specs.declared.node.Node.{Node}
use Rattle.mo_types.specs.declared.node.Node.TheVariants as node
use Rattle.mo_types.specs.Sub.{Each}
use Rattle.mo_subtype.specs.Renamed.{on_node}
use Rattle.typed_tree.specs.Instances.{types_in}
use Rattle.type_terms.specs.declared.form.Form.{Form}
use Rattle.type_terms.specs.declared.form.Form.TheVariants as form
use Rattle.type_terms.specs.declared.form.TermId.{TermId}
use Rattle.type_terms.specs.Layouts.{layout}
use Rattle.type_terms.specs.Tables.{PartsBelow}
use Rattle.typing_rules.specs.Terms.{Term}
use Rattle.typing_rules.specs.Terms as t
use Rattle.typing_rules.specs.Types.{none_is_there}
use Rattle.typing_rules.specs.Definitions.{Definitions}
use Rattle.typing_rules.specs.Heads.{bound_of, head, members_head, promoted, promoted_once}
use Rattle.type_definitions.specs.Meanings.{term}
use Rattle.type_definitions.specs.Tables.{Within, Makes, IsTermOf}
use Rattle.type_definitions.specs.Definitions.{Listed, rules_in, as_bounds}
use Rattle.type_definitions.specs.Heads.{MakesNode, IsHeadOf}
use Rattle.type_definitions.proofs.Meanings.{grows_not, grows_on, later_on, within_on}
use Rattle.met_types.specs.States.{State, Kept}
use Rattle.definition_rules.specs.Bounds.{IsPromoted, IsMembersHead, FindsBound, Ends, Same}

-- ---- bounds of bounds

module _ (defs : Definitions) where
  pub promoted_last : (n : ℕ) (u : Term) → promoted defs (suc n) u ≡ promoted_once (bound_of (head defs (promoted defs n u))) (promoted defs n u)
  promoted_last zero u = refl
  promoted_last (suc n) u = promoted_last n (promoted_once (bound_of (head defs u)) u)

  pub promoted_stays : (n : ℕ) (u : Term) → bound_of (head defs u) ≡ None → promoted defs n u ≡ u
  promoted_stays zero u h = refl
  promoted_stays (suc n) u h = ap (λ o. promoted defs n (promoted_once o u)) h ∙ promoted_stays n u h

  pub promoted_add : (n m : ℕ) (u : Term) → promoted defs m (promoted defs n u) ≡ promoted defs (n + m) u
  promoted_add zero m u = let e : m ≡ 0 + m = omega arith in ap (λ k. promoted defs k u) e
  promoted_add (suc n) m u =
      let e : suc (n + m) ≡ suc n + m = omega arith in
      promoted_add n m (promoted_once (bound_of (head defs u)) u) ∙ ap (λ k. promoted defs k u) e

-- ---- the bound of a head

bound_seen : (f : TermId → Term) (n : ℕ) (b : TermId) → bound_of (on_node f (node.Variable n b)) ≡ Some (f b)
bound_seen f n b = refl

no_bound_seen : (f : TermId → Term) (x : Node TermId) → ((n : ℕ) (b : TermId) → x ≡ node.Variable n b → ⊥) → bound_of (on_node f x) ≡ None
no_bound_seen f (node.Variable n b) h = absurd (h n b refl)
no_bound_seen f (node.Number k) h = refl
no_bound_seen f node.Bool h = refl
no_bound_seen f node.Char h = refl
no_bound_seen f node.Text h = refl
no_bound_seen f node.Blob h = refl
no_bound_seen f node.Principal h = refl
no_bound_seen f node.Error h = refl
no_bound_seen f node.Null h = refl
no_bound_seen f node.Any h = refl
no_bound_seen f node.Bottom h = refl
no_bound_seen f (node.Opt a) h = refl
no_bound_seen f (node.Array a) h = refl
no_bound_seen f (node.MutArray a) h = refl
no_bound_seen f (node.Tuple ts) h = refl
no_bound_seen f (node.Object fs) h = refl
no_bound_seen f (node.Actor fs) h = refl
no_bound_seen f (node.Variant fs) h = refl
no_bound_seen f (node.Func s ps rs) h = refl
no_bound_seen f (node.Async a) h = refl

pub found_bound : (a c : List Form) (l : Listed) (id : TermId) (x : Node TermId) (n : ℕ) (b : TermId) → MakesNode a (IsHeadOf l id x) x c → x ≡ node.Variable n b → FindsBound l c id (Some b)
found_bound a c l id x n b m e = (
  (subst (λ (y : Node TermId). Each (Within c) (types_in y)) e m.within).0,
  λ later h. ap bound_of (sym (m.is later h)) ∙ ap (λ (y : Node TermId). bound_of (on_node (term later) y)) e,
)

pub found_none : (a c : List Form) (l : Listed) (id : TermId) (x : Node TermId) → MakesNode a (IsHeadOf l id x) x c → ((n : ℕ) (b : TermId) → x ≡ node.Variable n b → ⊥) → FindsBound l c id None
found_none a c l id x m e later h = ap bound_of (sym (m.is later h)) ∙ no_bound_seen (term later) x e

-- ---- states

pub same_itself : (s : State) → Kept s → Same s s
same_itself s k = record {
  kept = k;
  goes = record { forms = grows_not s.forms; listed = refl; outcomes = refl; reached = λ i u h. h };
  stands = λ met h. h;
}

pub same_on : (a b c : State) → Same a b → Same b c → Same a c
same_on a b c x y = record {
  kept = y.kept;
  goes = record {
    forms = grows_on a.forms b.forms c.forms x.goes.forms y.goes.forms;
    listed = y.goes.listed ∙ x.goes.listed;
    outcomes = y.goes.outcomes ∙ x.goes.outcomes;
    reached = λ i u h. y.goes.reached i u (x.goes.reached i u h);
  };
  stands = λ met h. y.stands met (x.stands met h);
}

-- ---- the loop

-- so many bounds were followed
pub record Followed (old : State) (id : TermId) (n : ℕ) (at : TermId) (new : State) : Type 0 where
  pub same : Same old new
  pub made : Makes old.forms (IsPromoted n old.listed id at) at new.forms

pub none_followed : (s : State) (id : TermId) → Kept s → Within s.forms id → Followed s id 0 id s
none_followed s id k w = record {
  same = same_itself s k;
  made = record { grows = grows_not s.forms; within = w; is = λ later h. refl };
}

pub one_followed : (old mid new : State) (id at b : TermId) (n : ℕ) → Followed old id n at mid → Same mid new → FindsBound mid.listed new.forms at (Some b) → Followed old id (n + 1) b new
one_followed old mid new id at b n f s h =
    let g = grows_on old.forms mid.forms new.forms f.made.grows s.goes.forms in
    record {
      same = same_on old mid new f.same s;
      made = record {
        grows = g;
        within = h.0;
        is = λ later l.
            let defs = rules_in later old.listed in
            let e : suc n ≡ n + 1 = omega arith in
            let there : term later at ≡ promoted defs n (term later id) = f.made.is later (later_on mid.forms new.forms later s.goes.forms l) in
            let bound : bound_of (head defs (term later at)) ≡ Some (term later b) = subst (λ (d : Listed). bound_of (head (rules_in later d) (term later at)) ≡ Some (term later b)) f.same.goes.listed (h.1 later l) in
            sym (ap (λ k. promoted defs k (term later id)) (sym e)
            ∙ (promoted_last defs n (term later id)
            ∙ (ap (λ (u : Term). promoted_once (bound_of (head defs u)) u) (sym there)
            ∙ ap (λ o. promoted_once o (term later at)) bound)));
      };
    }

pub all_followed : (old mid new : State) (id at : TermId) (n m : ℕ) → n ≤ m → Followed old id n at mid → Same mid new → FindsBound mid.listed new.forms at None → Followed old id m at new
all_followed old mid new id at n m b f s h = record {
  same = same_on old mid new f.same s;
  made = record {
    grows = grows_on old.forms mid.forms new.forms f.made.grows s.goes.forms;
    within = within_on mid.forms new.forms at s.goes.forms f.made.within;
    is = λ later l.
        let defs = rules_in later old.listed in
        let e : n + (m - n) ≡ m = omega arith in
        let there : term later at ≡ promoted defs n (term later id) = f.made.is later (later_on mid.forms new.forms later s.goes.forms l) in
        let none : bound_of (head defs (term later at)) ≡ None = subst (λ (d : Listed). bound_of (head (rules_in later d) (term later at)) ≡ None) f.same.goes.listed (h later l) in
        sym (ap (λ k. promoted defs k (term later id)) (sym e)
        ∙ (sym (promoted_add defs n (m - n) (term later id))
        ∙ (ap (promoted defs (m - n)) (sym there)
        ∙ promoted_stays defs (m - n) (term later at) none)));
  };
}

-- ---- how many bounds there are

bounds_many : (at : TermId → Term) (ns : List ℕ) (bs : List TermId) → length ns ≡ length bs → length (as_bounds at ns bs) ≡ length bs
bounds_many at [] [] h = refl
bounds_many at [] (b ∷ bs) h = absurd (omega arith)
bounds_many at (n ∷ ns) [] h = absurd (omega arith)
bounds_many at (n ∷ ns) (b ∷ bs) h = ap suc (bounds_many at ns bs (omega arith))

pub turns_are : (s : State) → Kept s → (later : List Form) → length (rules_in later s.listed).parameters ≡ length s.listed.bounds
turns_are s k later = bounds_many (term later) s.listed.bounded s.listed.bounds k.stand.as_many_bounds

-- the head of what all bounds lead to
pub head_of_last : (old mid two new : State) (id at last : TermId) (x : Node TermId) → Kept old → (n : ℕ) → n ≡ length old.listed.bounds → Followed old id n at mid → Followed mid at 1 last two → Same two new
    → MakesNode two.forms (IsHeadOf two.listed last x) x new.forms → MakesNode old.forms (IsMembersHead old.listed id x) x new.forms
unfolding members_head
head_of_last old mid two new id at last x k n e f g s m = record {
  grows = grows_on old.forms two.forms new.forms (grows_on old.forms mid.forms two.forms f.made.grows g.made.grows) m.grows;
  within = m.within;
  is = λ later l.
      let l2 = later_on two.forms new.forms later m.grows l in
      let l1 = later_on mid.forms two.forms later g.made.grows l2 in
      let defs = rules_in later old.listed in
      let c : length defs.parameters ≡ length old.listed.bounds = turns_are old k later in
      let z : n + 1 ≡ suc (length defs.parameters) = omega arith in
      let first : term later at ≡ promoted defs n (term later id) = f.made.is later l1 in
      let second : term later last ≡ promoted defs 1 (term later at) = subst (λ (d : Listed). term later last ≡ promoted (rules_in later d) 1 (term later at)) f.same.goes.listed (g.made.is later l2) in
      let own : on_node (term later) x ≡ head defs (term later last) = subst (λ (d : Listed). on_node (term later) x ≡ head (rules_in later d) (term later last)) (g.same.goes.listed ∙ f.same.goes.listed) (m.is later l) in
      own ∙ ap (head defs) (second ∙ (ap (promoted defs 1) first ∙ (promoted_add defs n 1 (term later id) ∙ ap (λ j. promoted defs j (term later id)) z)));
}

-- ---- whether bounds end

pub ends_here : (old one mid new : State) (at : ℕ) (p last : TermId) (n : ℕ) (o : Option TermId) → Kept old → n ≡ length old.listed.bounds → Same old one → Makes old.forms (IsTermOf (form.Parameter at) p) p one.forms
    → Followed one p n last mid → Same mid new → FindsBound mid.listed new.forms last o → (is : Bool) → is ≡ none_is_there o → Ends old.listed at new.forms is
ends_here old one mid new at p last n o k e s m f s2 h is q later l =
    let l2 = later_on mid.forms new.forms later s2.goes.forms l in
    let l1 = later_on one.forms mid.forms later f.made.grows l2 in
    let defs = rules_in later old.listed in
    let c : length defs.parameters ≡ length old.listed.bounds = turns_are old k later in
    let z : n ≡ length defs.parameters = omega arith in
    let own : term later p ≡ t.Parameter at = m.is later l1 in
    let there : term later last ≡ promoted defs n (term later p) = subst (λ (d : Listed). term later last ≡ promoted (rules_in later d) n (term later p)) s.goes.listed (f.made.is later l2) in
    let lst : mid.listed ≡ old.listed = f.same.goes.listed ∙ s.goes.listed in
    q ∙ (by o h lst ∙ ap (λ (u : Term). none_is_there (bound_of (head defs u))) (there ∙ (ap (promoted defs n) own ∙ ap (λ j. promoted defs j (t.Parameter at)) z)))
  where
    by : (o : Option TermId) → FindsBound mid.listed new.forms last o → mid.listed ≡ old.listed → none_is_there o ≡ none_is_there (bound_of (head (rules_in later old.listed) (term later last)))
    by None h g = sym (ap none_is_there (subst (λ (d : Listed). bound_of (head (rules_in later d) (term later last)) ≡ None) g (h later l)))
    by (Some b) h g = sym (ap none_is_there (subst (λ (d : Listed). bound_of (head (rules_in later d) (term later last)) ≡ Some (term later b)) g (h.1 later l)))

-- ---- as the code finds them

pub at_none : (l : Listed) (forms : List Form) (id : TermId) (o : Option TermId) → o ≡ None → FindsBound l forms id o → FindsBound l forms id None
at_none l forms id o e h = subst (FindsBound l forms id) e h

pub at_some : (l : Listed) (forms : List Form) (id : TermId) (o : Option TermId) (b : TermId) → o ≡ Some b → FindsBound l forms id o → FindsBound l forms id (Some b)
at_some l forms id o b e h = subst (FindsBound l forms id) e h

pub parameter_below : (n at : ℕ) → PartsBelow n (form.Parameter at)
unfolding layout
parameter_below n at = tt

pub on_ok : {A E : Type 0} (r : Result A E) (P Q R S : Type 0) → OnOk r P → OnOk r Q → OnOk r R → (P → Q → R → S) → OnOk r S
on_ok (Ok a) P Q R S p q r k = k p q r
on_ok (Err e) P Q R S p q r k = tt

pub if_ok : {A E : Type 0} (r : Result A E) (P : Type 0) (Q R : A → Type 0) → OnOk r P → IfOk r Q → (P → (a : A) → Q a → R a) → IfOk r R
if_ok (Ok a) P Q R p q k = k p a q
if_ok (Err e) P Q R p q k = tt

pub followed : (old new : State) (id at : TermId) (n : ℕ) → Same old new → Makes old.forms (IsPromoted n old.listed id at) at new.forms → Followed old id n at new
followed old new id at n s m = record { same = s; made = m }

pub turned : (b r : Bool) → b ≡ not r → r ≡ not b
turned b true h = ap not (sym h)
turned b false h = ap not (sym h)
