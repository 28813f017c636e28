-- Terms made of written types, form by form.
use Rattle.std.proofs.Common.{◌≡◌, ℕ, ◌+◌, ◌<◌, Bool, true, false, List, [], ◌∷◌, ◌++◌, length, map, take, Option, Some, None, refl, sym, ap, ◌∙◌, subst, append-nil}
use Rattle.mo_types.specs.declared.node.Field.{Field}
use Rattle.mo_types.specs.declared.node.Sort.{Sort}
use Rattle.mo_types.specs.declared.node.Sort.TheVariants as sort
use Rattle.mo_types.specs.Sub.{Each}
use Rattle.mo_subtype.specs.Renamed.{on_field}
use Rattle.mo_syntax.specs.declared.types.Sharing.{Sharing}
use Rattle.mo_syntax.specs.declared.types.Sharing.TheVariants as sharing
use Rattle.type_terms.specs.declared.form.Form.{Form}
use Rattle.type_terms.specs.declared.form.Form.TheVariants as form
use Rattle.type_terms.specs.declared.form.TermId.{TermId}
use Rattle.type_terms.specs.Layouts.{layout}
use Rattle.type_terms.specs.Tables.{PartsBelow}
use Rattle.typing_rules.specs.AbstractSyntax.{TypeFields}
use Rattle.typing_rules.specs.AbstractSyntax as p
use Rattle.typing_rules.specs.AbstractTypes.{type_nodes, type_fields}
use Rattle.typing_rules.specs.Terms.{Term, Terms, Fields, unlisted}
use Rattle.typing_rules.specs.Terms as t
use Rattle.typing_rules.specs.TypeScopes.{TypeScope, terms, field_terms}
use Rattle.typing_rules.specs.TypeScopes as rules
use Rattle.type_definitions.specs.Meanings.{term, term_of, fields_at, unlisted_fields}
use Rattle.type_definitions.specs.Tables.{Later, Within}
use Rattle.type_definitions.proofs.Meanings.{each_within, grows_not, grows_on, later_on}
use Rattle.met_types.specs.States.{State, Kept}
use Rattle.definition_rules.specs.Bounds.{Same}
use Rattle.definition_rules.proofs.Promoting.{same_itself, same_on}
use Rattle.abstract_types.specs.declared.types.TypeNode.{TypeNode, fold_out-TypeNode}
use Rattle.abstract_types.specs.declared.types.TypeForm.{TypeForm}
use Rattle.abstract_types.specs.declared.types.TypeForm.TheVariants as e
use Rattle.abstract_types.specs.declared.types.TypeField.{TypeField}
use Rattle.abstract_types.specs.declared.types.TypeField.TheVariants as x
use Rattle.abstract_types.specs.declared.names.PlacedName.{PlacedName}
use Rattle.abstract_types.specs.TypeView.{FieldView, type_node, type_form, type_field, field_step, form_step, node_step}
use Rattle.abstract_types.proofs.TypeViews.{seen_Function, seen_Optional, seen_Async, seen_Use, seen_Tuple, seen_Array, seen_Object, seen_Variant, seen_Actor, seen_Field, seen_EmptyTag}
use Rattle.written_types.specs.Written.{Interned, Wrote, WroteEach, WroteField, WroteFields, Used, WithOuter, Plain, awaited, promised, sort_of, with_fields, joined}

pub node_is : (n : TypeNode) (f : TypeForm) → n.form ≡ f → type_node n ≡ p.node n.at (type_form f)
unfolding type_node type_form type_field
node_is n f h = fold_out-TypeNode FieldView p.TypeForm p.TypeNode field_step form_step node_step n ∙ ap (λ (g : TypeForm). p.node n.at (type_form g)) h

-- ---- a form, and then what it is

pub then_written : (old mid new : State) (f : Form) (r : TermId) (u : Term) → Same old mid → Interned mid new f r → ((later : List Form) → Later mid.forms later → term_of (term later) f ≡ u) → Wrote old new u r
then_written old mid new f r u s i h = record {
  same = same_on old mid new s i.same;
  made = record {
    grows = grows_on old.forms mid.forms new.forms s.goes.forms i.same.goes.forms;
    within = i.made.within;
    is = λ later l. i.made.is later l ∙ h later (later_on mid.forms new.forms later i.same.goes.forms l);
  };
}

-- ---- lists

pub below_list : (n : ℕ) (ids : List TermId) → Each (λ q. q.index < n) ids → Each (λ q. q.index < n) (ids ++ [])
below_list n ids h = subst (λ (l : List TermId). Each (λ q. q.index < n) l) (sym (append-nil ids)) h

pub below_more : (n : ℕ) (ids : List TermId) (id : TermId) → Each (λ q. q.index < n) ids → id.index < n → Each (λ q. q.index < n) (ids ++ id ∷ [])
below_more n [] id h k = (k, tt)
below_more n (q ∷ ids) id h k = (h.0, below_more n ids id h.1 k)

map_more : {A B : Type 0} (f : A → B) (xs : List A) (x : A) → map f (xs ++ x ∷ []) ≡ map f xs ++ f x ∷ []
map_more f [] x = refl
map_more f (y ∷ xs) x = ap (λ l. f y ∷ l) (map_more f xs x)

pub none_written : (a : State) → Kept a → WroteEach a a [] []
none_written a k = record { same = same_itself a k; made = record { grows = grows_not a.forms; within = tt; is = λ later l. refl } }

pub more_written : (old mid new : State) (us : List Term) (ids : List TermId) (u : Term) (id : TermId) → WroteEach old mid us ids → Wrote mid new u id → WroteEach old new (us ++ u ∷ []) (ids ++ id ∷ [])
more_written old mid new us ids u id w m = record {
  same = same_on old mid new w.same m.same;
  made = record {
    grows = grows_on old.forms mid.forms new.forms w.made.grows m.made.grows;
    within = below_more (length new.forms) ids id (each_within mid.forms new.forms ids m.made.grows w.made.within) m.made.within;
    is = λ later l.
        map_more (term later) ids id
        ∙ (ap (λ (vs : List Term). vs ++ term later id ∷ []) (w.made.is later (later_on mid.forms new.forms later m.made.grows l)) ∙ ap (λ (v : Term). us ++ v ∷ []) (m.made.is later l));
  };
}

module _ (s : TypeScope) where
  abbrev pub written : TypeNode → Term
  written n = rules.term s (type_node n)

  pub listing : (xs : List TypeNode) → unlisted (map written xs) ≡ terms s (type_nodes (map type_node xs))
  listing [] = refl
  listing (n ∷ xs) = ap (t.Cons (written n)) (listing xs)

  pub next_written : (old mid new : State) (xs : List TypeNode) (i : ℕ) (n : TypeNode) (ids qs : List TermId) (id : TermId) → take (i + 1) xs ≡ take i xs ++ n ∷ [] → qs ≡ ids ++ id ∷ []
      → WroteEach old mid (map written (take i xs)) ids → Wrote mid new (written n) id → WroteEach old new (map written (take (i + 1) xs)) qs
  next_written old mid new xs i n ids qs id e q w m =
      subst (λ (l : List TypeNode). WroteEach old new (map written l) qs) (sym e)
      (subst (λ (us : List Term). WroteEach old new us qs) (sym (map_more written (take i xs) n))
      (subst (λ (rs : List TermId). WroteEach old new (map written (take i xs) ++ written n ∷ []) rs) (sym q) (more_written old mid new (map written (take i xs)) ids (written n) id w m)))

-- ---- forms

module _ (s : TypeScope) (old mid new : State) (node : TypeNode) where
  pub back : (f : TypeForm) (g : p.TypeForm) (r : TermId) → node.form ≡ f → type_form f ≡ g → Wrote old new (rules.term s (p.node node.at g)) r → Wrote old new (written s node) r
  back f g r h k w = subst (λ (n : p.TypeNode). Wrote old new (rules.term s n) r) (sym (node_is node f h ∙ ap (p.node node.at) k)) w

  pub optional_done : (a : TypeNode) (id r : TermId) → node.form ≡ e.Optional a → Wrote old mid (written s a) id → Interned mid new (form.Optional id) r → Wrote old new (written s node) r
  optional_done a id r h w i = back (e.Optional a) (p.Optional (type_node a)) r h (seen_Optional a)
      (then_written old mid new (form.Optional id) r (t.Optional (written s a)) w.same i (λ later l. ap t.Optional (w.made.is later l)))

  pub async_done : (a : TypeNode) (id r : TermId) → node.form ≡ e.Async a → Wrote old mid (written s a) id → Interned mid new (form.Async id) r → Wrote old new (written s node) r
  async_done a id r h w i = back (e.Async a) (p.Async (type_node a)) r h (seen_Async a)
      (then_written old mid new (form.Async id) r (t.Async (written s a)) w.same i (λ later l. ap t.Async (w.made.is later l)))

  pub array_done : (a : TypeNode) (id r : TermId) → node.form ≡ e.Array false a → Wrote old mid (written s a) id → Interned mid new (form.Array id) r → Wrote old new (written s node) r
  array_done a id r h w i = back (e.Array false a) (p.Array false (type_node a)) r h (seen_Array false a)
      (then_written old mid new (form.Array id) r (t.Array (written s a)) w.same i (λ later l. ap t.Array (w.made.is later l)))

  pub mutable_done : (a : TypeNode) (id r : TermId) → node.form ≡ e.Array true a → Wrote old mid (written s a) id → Interned mid new (form.MutableArray id) r → Wrote old new (written s node) r
  mutable_done a id r h w i = back (e.Array true a) (p.Array true (type_node a)) r h (seen_Array true a)
      (then_written old mid new (form.MutableArray id) r (t.MutableArray (written s a)) w.same i (λ later l. ap t.MutableArray (w.made.is later l)))

  pub tuple_done : (xs ys : List TypeNode) (ids : List TermId) (r : TermId) → node.form ≡ e.Tuple xs → ys ≡ xs → WroteEach old mid (map (written s) ys) ids → Interned mid new (form.Tuple ids) r → Wrote old new (written s node) r
  tuple_done xs ys ids r h z v i = let w = subst (λ (l : List TypeNode). WroteEach old mid (map (written s) l) ids) z v in back (e.Tuple xs) (p.Tuple (type_nodes (map type_node xs))) r h (seen_Tuple xs)
      (then_written old mid new (form.Tuple ids) r (t.Tuple (terms s (type_nodes (map type_node xs)))) w.same i
      (λ later l. ap (λ (us : List Term). t.Tuple (unlisted us)) (w.made.is later l) ∙ ap t.Tuple (listing s xs)))

  pub use_done : (x y : List ℕ) (xs ys : List TypeNode) (ids qs : List TermId) (r : TermId) → node.form ≡ e.Use x xs → y ≡ x → ys ≡ xs → WroteEach old mid (map (written s) ys) ids → qs ≡ ids → Used mid new y (rules.type_named s y) qs r → Wrote old new (written s node) r
  use_done x y xs ys ids qs r h g z v q k =
      let w = subst (λ (l : List TypeNode). WroteEach old mid (map (written s) l) ids) z v in
      let u = subst (λ (n : List ℕ). Used mid new n (rules.type_named s n) qs r) g k in
      back (e.Use x xs) (p.Use x (type_nodes (map type_node xs))) r h (seen_Use x xs) (record {
        same = same_on old mid new w.same u.same;
        made = record {
          grows = grows_on old.forms mid.forms new.forms w.same.goes.forms u.same.goes.forms;
          within = u.made.within;
          is = λ later l.
              u.made.is later l
              ∙ (ap (λ (rs : List TermId). rules.use_term x (rules.type_named s x) (unlisted (map (term later) rs))) q
              ∙ (ap (λ (us : List Term). rules.use_term x (rules.type_named s x) (unlisted us)) (w.made.is later (later_on mid.forms new.forms later u.same.goes.forms l))
              ∙ ap (rules.use_term x (rules.type_named s x)) (listing s xs)));
        };
      })

-- ---- functions

shared_is : (s : TypeScope) (g : Sharing) (at : ℕ) (us : p.TypeNodes) (n a : p.TypeNode) → promised g n ≡ Some a → rules.term s (p.node at (p.Function g us n)) ≡ t.Shared (sort_of g) (terms s us) (rules.term s a)
shared_is s sharing.Local at us n a h = cc
shared_is s sharing.Shared at us (p.node k (p.Async b)) a h = let e : b ≡ a = cc in ap (λ (n : p.TypeNode). t.Shared sort.Shared (terms s us) (rules.term s n)) e
shared_is s sharing.Shared at us (p.node k (p.Function c vs m)) a h = cc
shared_is s sharing.Shared at us (p.node k (p.Optional b)) a h = cc
shared_is s sharing.Shared at us (p.node k (p.Use z vs)) a h = cc
shared_is s sharing.Shared at us (p.node k (p.Tuple vs)) a h = cc
shared_is s sharing.Shared at us (p.node k (p.Array mutable b)) a h = cc
shared_is s sharing.Shared at us (p.node k (p.Object fs)) a h = cc
shared_is s sharing.Shared at us (p.node k (p.Variant fs)) a h = cc
shared_is s sharing.Shared at us (p.node k (p.Actor fs)) a h = cc
shared_is s sharing.SharedQuery at us (p.node k (p.Async b)) a h = let e : b ≡ a = cc in ap (λ (n : p.TypeNode). t.Shared sort.Query (terms s us) (rules.term s n)) e
shared_is s sharing.SharedQuery at us (p.node k (p.Function c vs m)) a h = cc
shared_is s sharing.SharedQuery at us (p.node k (p.Optional b)) a h = cc
shared_is s sharing.SharedQuery at us (p.node k (p.Use z vs)) a h = cc
shared_is s sharing.SharedQuery at us (p.node k (p.Tuple vs)) a h = cc
shared_is s sharing.SharedQuery at us (p.node k (p.Array mutable b)) a h = cc
shared_is s sharing.SharedQuery at us (p.node k (p.Object fs)) a h = cc
shared_is s sharing.SharedQuery at us (p.node k (p.Variant fs)) a h = cc
shared_is s sharing.SharedQuery at us (p.node k (p.Actor fs)) a h = cc

pub local_is : (s : TypeScope) (g : Sharing) (at : ℕ) (us : p.TypeNodes) (n : p.TypeNode) → None ≡ promised g n → rules.term s (p.node at (p.Function g us n)) ≡ t.Function (terms s us) (rules.term s n)
local_is s sharing.Local at us n h = refl
local_is s sharing.Shared at us (p.node k (p.Async b)) h = cc
local_is s sharing.Shared at us (p.node k (p.Function c vs m)) h = refl
local_is s sharing.Shared at us (p.node k (p.Optional b)) h = refl
local_is s sharing.Shared at us (p.node k (p.Use z vs)) h = refl
local_is s sharing.Shared at us (p.node k (p.Tuple vs)) h = refl
local_is s sharing.Shared at us (p.node k (p.Array mutable b)) h = refl
local_is s sharing.Shared at us (p.node k (p.Object fs)) h = refl
local_is s sharing.Shared at us (p.node k (p.Variant fs)) h = refl
local_is s sharing.Shared at us (p.node k (p.Actor fs)) h = refl
local_is s sharing.SharedQuery at us (p.node k (p.Async b)) h = cc
local_is s sharing.SharedQuery at us (p.node k (p.Function c vs m)) h = refl
local_is s sharing.SharedQuery at us (p.node k (p.Optional b)) h = refl
local_is s sharing.SharedQuery at us (p.node k (p.Use z vs)) h = refl
local_is s sharing.SharedQuery at us (p.node k (p.Tuple vs)) h = refl
local_is s sharing.SharedQuery at us (p.node k (p.Array mutable b)) h = refl
local_is s sharing.SharedQuery at us (p.node k (p.Object fs)) h = refl
local_is s sharing.SharedQuery at us (p.node k (p.Variant fs)) h = refl
local_is s sharing.SharedQuery at us (p.node k (p.Actor fs)) h = refl

module _ (s : TypeScope) (old mid next new : State) (xs : List TypeNode) (of : TypeNode) (ids : List TermId) (id r : TermId) where
  both : WroteEach old mid (map (written s) xs) ids → (u : Term) → Wrote mid next u id → (f : Terms → Term → Term) (later : List Form) → Later next.forms later
      → f (unlisted (map (term later) ids)) (term later id) ≡ f (terms s (type_nodes (map type_node xs))) u
  both w u m f later l =
      ap (λ (us : List Term). f (unlisted us) (term later id)) (w.made.is later (later_on mid.forms next.forms later m.made.grows l))
      ∙ (ap (λ (us : Terms). f us (term later id)) (listing s xs) ∙ ap (f (terms s (type_nodes (map type_node xs)))) (m.made.is later l))

  -- a type of functions that are not shared, or that give no `async`
  pub function_done : (g : Sharing) (at : ℕ) → WroteEach old mid (map (written s) xs) ids → Wrote mid next (written s of) id → Interned next new (form.Function ids id) r
      → rules.term s (p.node at (p.Function g (type_nodes (map type_node xs)) (type_node of))) ≡ t.Function (terms s (type_nodes (map type_node xs))) (written s of)
      → Wrote old new (rules.term s (p.node at (p.Function g (type_nodes (map type_node xs)) (type_node of)))) r
  function_done g at w m i h =
      subst (λ (u : Term). Wrote old new u r) (sym h)
      (then_written old next new (form.Function ids id) r (t.Function (terms s (type_nodes (map type_node xs))) (written s of)) (same_on old mid next w.same m.same) i
      (λ later l. both w (written s of) m t.Function later l))

  pub shared_done : (g : Sharing) (o : Sort) (a : TypeNode) (at : ℕ) → o ≡ sort_of g → Some (type_node a) ≡ promised g (type_node of) → WroteEach old mid (map (written s) xs) ids → Wrote mid next (written s a) id
      → Interned next new (form.Shared o ids id) r → Wrote old new (rules.term s (p.node at (p.Function g (type_nodes (map type_node xs)) (type_node of)))) r
  shared_done g o a at k h w m i =
      subst (λ (u : Term). Wrote old new u r) (sym (shared_is s g at (type_nodes (map type_node xs)) (type_node of) (type_node a) (sym h) ∙ ap (λ (c : Sort). t.Shared c (terms s (type_nodes (map type_node xs))) (written s a)) (sym k)))
      (then_written old next new (form.Shared o ids id) r (t.Shared o (terms s (type_nodes (map type_node xs))) (written s a)) (same_on old mid next w.same m.same) i
      (λ later l. both w (written s a) m (t.Shared o) later l))

-- ---- fields

module _ (s : TypeScope) where
  with_more : (fs : List (Field Term)) (f : Field Term) (rest : Fields) → with_fields (fs ++ f ∷ []) rest ≡ with_fields fs (with_fields (f ∷ []) rest)
  with_more [] f rest = refl
  with_more (g ∷ fs) f rest = ap (t.WithField g.label g.mutable g.part) (with_more fs f rest)

  joined_more : (fs : List (TypeFields → TypeFields)) (f : TypeFields → TypeFields) (rest : TypeFields) → joined (fs ++ f ∷ []) rest ≡ joined fs (f rest)
  joined_more [] f rest = refl
  joined_more (g ∷ fs) f rest = ap g (joined_more fs f rest)

  pub no_fields : (a : State) → Kept a → WroteFields a a s [] []
  no_fields a k = record { same = same_itself a k; within = tt; is = λ later l rest. refl }

  more_fields : (old mid new : State) (fs : List (TypeFields → TypeFields)) (ms : List (Field TermId)) (f : TypeFields → TypeFields) (m : Field TermId)
      → WroteFields old mid s fs ms → WroteField mid new s f m → WroteFields old new s (fs ++ f ∷ []) (ms ++ m ∷ [])
  more_fields old mid new fs ms f m w k = record {
    same = same_on old mid new w.same k.same;
    within = subst (λ (l : List TermId). Each (Within new.forms) l) (sym (map_more (λ (g : Field TermId). g.part) ms m))
        (below_more (length new.forms) (map (λ (g : Field TermId). g.part) ms) m.part (each_within mid.forms new.forms (map (λ (g : Field TermId). g.part) ms) k.same.goes.forms w.within) k.within);
    is = λ later l rest.
        ap (field_terms s) (joined_more fs f rest)
        ∙ (w.is later (later_on mid.forms new.forms later k.same.goes.forms l) (f rest)
        ∙ (ap (with_fields (map (on_field (term later)) ms)) (k.is later l rest)
        ∙ (sym (with_more (map (on_field (term later)) ms) (on_field (term later) m) (field_terms s rest))
        ∙ ap (λ (gs : List (Field Term)). with_fields gs (field_terms s rest)) (sym (map_more (on_field (term later)) ms m)))));
  }

  pub next_field : (old mid new : State) (xs : List TypeField) (i : ℕ) (n : TypeField) (ms ks : List (Field TermId)) (m : Field TermId) → take (i + 1) xs ≡ take i xs ++ n ∷ [] → ks ≡ ms ++ m ∷ []
      → WroteFields old mid s (map type_field (take i xs)) ms → WroteField mid new s (type_field n) m → WroteFields old new s (map type_field (take (i + 1) xs)) ks
  next_field old mid new xs i n ms ks m h q w k =
      subst (λ (l : List TypeField). WroteFields old new s (map type_field l) ks) (sym h)
      (subst (λ (l : List (TypeFields → TypeFields)). WroteFields old new s l ks) (sym (map_more type_field (take i xs) n))
      (subst (λ (l : List (Field TermId)). WroteFields old new s (map type_field (take i xs) ++ type_field n ∷ []) l) (sym q)
      (more_fields old mid new (map type_field (take i xs)) ms (type_field n) m w k)))

  joined_all : (fs : List (TypeFields → TypeFields)) → joined fs p.NoFields ≡ type_fields fs
  joined_all [] = refl
  joined_all (f ∷ fs) = ap f (joined_all fs)

  with_all : (fs : List (Field Term)) → with_fields fs t.NoFields ≡ unlisted_fields fs
  with_all [] = refl
  with_all (f ∷ fs) = ap (t.WithField f.label f.mutable f.part) (with_all fs)

  pub fields_are : (old new : State) (xs : List TypeField) (ms : List (Field TermId)) → WroteFields old new s (map type_field xs) ms
      → (later : List Form) → Later new.forms later → fields_at (term later) ms ≡ field_terms s (type_fields (map type_field xs))
  fields_are old new xs ms w later l =
      sym (ap (field_terms s) (sym (joined_all (map type_field xs))) ∙ (w.is later l p.NoFields ∙ with_all (map (on_field (term later)) ms)))

  pub field_done : (old mid : State) (f : TypeField) (mutable : Bool) (name : PlacedName) (a : TypeNode) (id : TermId) (m : Field TermId) → f ≡ x.Field mutable name a → Wrote old mid (written s a) id
      → m ≡ record { label = name.bytes; mutable = mutable; part = id } → WroteField old mid s (type_field f) m
  field_done old mid f mutable name a id m h w k =
      subst (λ (g : Field TermId). WroteField old mid s (type_field f) g) (sym k)
      (subst (λ (v : TypeFields → TypeFields). WroteField old mid s v (record { label = name.bytes; mutable = mutable; part = id })) (sym (ap type_field h ∙ seen_Field mutable name a)) (record {
        same = w.same;
        within = w.made.within;
        is = λ later l rest. ap (λ (u : Term). t.WithField name.bytes mutable u (field_terms s rest)) (sym (w.made.is later l));
      }))

  pub tag_done : (old mid : State) (f : TypeField) (name : PlacedName) (id : TermId) (m : Field TermId) → f ≡ x.EmptyTag name → Interned old mid (form.Tuple []) id
      → m ≡ record { label = name.bytes; mutable = false; part = id } → WroteField old mid s (type_field f) m
  tag_done old mid f name id m h w k =
      subst (λ (g : Field TermId). WroteField old mid s (type_field f) g) (sym k)
      (subst (λ (v : TypeFields → TypeFields). WroteField old mid s v (record { label = name.bytes; mutable = false; part = id })) (sym (ap type_field h ∙ seen_EmptyTag name)) (record {
        same = w.same;
        within = w.made.within;
        is = λ later l rest. ap (λ (u : Term). t.WithField name.bytes false u (field_terms s rest)) (sym (w.made.is later l));
      }))

module _ (s : TypeScope) (old mid new : State) (node : TypeNode) (xs ys : List TypeField) (ms : List (Field TermId)) (r : TermId) (z : ys ≡ xs) (v : WroteFields old mid s (map type_field ys) ms) where
  w : WroteFields old mid s (map type_field xs) ms
  w = subst (λ (l : List TypeField). WroteFields old mid s (map type_field l) ms) z v

  pub object_done : node.form ≡ e.Object xs → Interned mid new (form.Object ms) r → Wrote old new (written s node) r
  object_done h i = back s old mid new node (e.Object xs) (p.Object (type_fields (map type_field xs))) r h (seen_Object xs)
      (then_written old mid new (form.Object ms) r (t.Object (field_terms s (type_fields (map type_field xs)))) w.same i (λ later l. ap t.Object (fields_are s old mid xs ms w later l)))

  pub variant_done : node.form ≡ e.Variant xs → Interned mid new (form.Variant ms) r → Wrote old new (written s node) r
  variant_done h i = back s old mid new node (e.Variant xs) (p.Variant (type_fields (map type_field xs))) r h (seen_Variant xs)
      (then_written old mid new (form.Variant ms) r (t.Variant (field_terms s (type_fields (map type_field xs)))) w.same i (λ later l. ap t.Variant (fields_are s old mid xs ms w later l)))

  pub actor_done : node.form ≡ e.Actor xs → Interned mid new (form.Actor ms) r → Wrote old new (written s node) r
  actor_done h i = back s old mid new node (e.Actor xs) (p.Actor (type_fields (map type_field xs))) r h (seen_Actor xs)
      (then_written old mid new (form.Actor ms) r (t.Actor (field_terms s (type_fields (map type_field xs)))) w.same i (λ later l. ap t.Actor (fields_are s old mid xs ms w later l)))

-- ---- uses of names

pub next_outer : (old mid new : State) (outer : List ℕ) (i at : ℕ) (ids qs : List TermId) (id : TermId) → take (i + 1) outer ≡ take i outer ++ at ∷ [] → qs ≡ ids ++ id ∷ []
    → WroteEach old mid (map t.Parameter (take i outer)) ids → Interned mid new (form.Parameter at) id → WroteEach old new (map t.Parameter (take (i + 1) outer)) qs
next_outer old mid new outer i at ids qs id h q w k =
    subst (λ (l : List ℕ). WroteEach old new (map t.Parameter l) qs) (sym h)
    (subst (λ (us : List Term). WroteEach old new us qs) (sym (map_more t.Parameter (take i outer) at))
    (subst (λ (rs : List TermId). WroteEach old new (map t.Parameter (take i outer) ++ t.Parameter at ∷ []) rs) (sym q)
    (more_written old mid new (map t.Parameter (take i outer)) ids (t.Parameter at) id w (record { same = k.same; made = k.made }))))

map_both : {A B : Type 0} (f : A → B) (xs ys : List A) → map f (xs ++ ys) ≡ map f xs ++ map f ys
map_both f [] ys = refl
map_both f (x ∷ xs) ys = ap (λ l. f x ∷ l) (map_both f xs ys)

each_both : {A : Type 0} (P : A → Type 0) (xs ys : List A) → Each P xs → Each P ys → Each P (xs ++ ys)
each_both P [] ys h k = k
each_both P (x ∷ xs) ys h k = (h.0, each_both P xs ys h.1 k)

pub outer_done : (old new : State) (outer : List ℕ) (i : ℕ) (arguments ids qs : List TermId) → take i outer ≡ outer → Each (Within old.forms) arguments → qs ≡ ids ++ arguments
    → WroteEach old new (map t.Parameter (take i outer)) ids → WithOuter old new outer arguments qs
outer_done old new outer i arguments ids qs h a q w =
    subst (λ (rs : List TermId). WithOuter old new outer arguments rs) (sym q) (record {
      same = w.same;
      made = record {
        grows = w.made.grows;
        within = each_both (Within new.forms) ids arguments w.made.within (each_within old.forms new.forms arguments w.made.grows a);
        is = λ later l. map_both (term later) ids arguments ∙ (ap (λ (us : List Term). us ++ map (term later) arguments) (w.made.is later l)
            ∙ ap (λ (ps : List ℕ). map t.Parameter ps ++ map (term later) arguments) h);
      };
    })

pub meant : (old new : State) (x : List ℕ) (o p : Option rules.TypeName) (arguments : List TermId) (id : TermId) → o ≡ p → Used old new x o arguments id → Used old new x p arguments id
meant old new x o p arguments id h u = subst (λ (n : Option rules.TypeName). Used old new x n arguments id) h u

pub used_built_in : (old new : State) (x : List ℕ) (arguments : List TermId) (id : TermId) → (f : Form) × Plain x f × Interned old new f id → Used old new x None arguments id
used_built_in old new x arguments id (f, k, i) = record { same = i.same; made = record { grows = i.made.grows; within = i.made.within; is = λ later l. i.made.is later l ∙ k.is (term later) } }

pub used_parameter : (old new : State) (x : List ℕ) (at : ℕ) (arguments : List TermId) (id : TermId) → Interned old new (form.Parameter at) id → Used old new x (Some (rules.IsParameter at)) arguments id
used_parameter old new x at arguments id i = record { same = i.same; made = i.made }

listed_unlisted : (us : List Term) → us ≡ t.listed (unlisted us)
listed_unlisted [] = refl
listed_unlisted (u ∷ us) = ap (λ (vs : List Term). u ∷ vs) (listed_unlisted us)

pub used_definition : (old new : State) (x : List ℕ) (at own : ℕ) (outer : List ℕ) (arguments : List TermId) (id : TermId)
    → (ids : List TermId) × (mid : State) × WithOuter old mid outer arguments ids × Interned mid new (form.Use at ids) id → Used old new x (Some (rules.IsDefinition at outer own)) arguments id
used_definition old new x at own outer arguments id (ids, mid, w, i) = record {
  same = same_on old mid new w.same i.same;
  made = record {
    grows = grows_on old.forms mid.forms new.forms w.same.goes.forms i.same.goes.forms;
    within = i.made.within;
    is = λ later l.
        i.made.is later l
        ∙ (ap (λ (us : List Term). t.Use at (unlisted us)) (w.made.is later (later_on mid.forms new.forms later i.same.goes.forms l))
        ∙ ap (λ (us : List Term). t.Use at (unlisted (map t.Parameter outer ++ us))) (listed_unlisted (map (term later) arguments)));
  };
}

pub none_below : (n : ℕ) (ids : List TermId) → ids ≡ [] → Each (λ q. q.index < n) ids
none_below n ids h = subst (λ (l : List TermId). Each (λ q. q.index < n) l) (sym h) tt

pub not_awaited : (n : TypeNode) (f : TypeForm) (g : p.TypeForm) → n.form ≡ f → type_form f ≡ g → awaited (p.node n.at g) ≡ None → None ≡ awaited (type_node n)
not_awaited n f g h k e = sym (ap awaited (node_is n f h ∙ ap (p.node n.at) k) ∙ e)

pub is_awaited : (n a : TypeNode) → n.form ≡ e.Async a → Some (type_node a) ≡ awaited (type_node n)
is_awaited n a h = sym (ap awaited (node_is n (e.Async a) h ∙ ap (p.node n.at) (seen_Async a)))

pub listed_below : (n : ℕ) (ids : List TermId) → Each (λ q. q.index < n) ids → PartsBelow n (form.Tuple ids)
unfolding layout
listed_below n ids h = below_list n ids h

pub function_below : (n : ℕ) (ids : List TermId) (id : TermId) → Each (λ q. q.index < n) ids → id.index < n → PartsBelow n (form.Function ids id)
unfolding layout
function_below n ids id h k = below_more n ids id h k

pub shared_below : (n : ℕ) (o : Sort) (ids : List TermId) (id : TermId) → Each (λ q. q.index < n) ids → id.index < n → PartsBelow n (form.Shared o ids id)
unfolding layout
shared_below n o ids id h k = below_more n ids id h k

pub use_below : (n at : ℕ) (ids : List TermId) → Each (λ q. q.index < n) ids → PartsBelow n (form.Use at ids)
unfolding layout
use_below n at ids h = below_list n ids h

pub function_back : (s : TypeScope) (old new : State) (node : TypeNode) (g : Sharing) (xs ys : List TypeNode) (of : TypeNode) (r : TermId) → node.form ≡ e.Function g xs of → ys ≡ xs
    → Wrote old new (rules.term s (p.node node.at (p.Function g (type_nodes (map type_node ys)) (type_node of)))) r → Wrote old new (written s node) r
function_back s old new node g xs ys of r h z w =
    back s old old new node (e.Function g xs of) (p.Function g (type_nodes (map type_node xs)) (type_node of)) r h (seen_Function g xs of)
    (subst (λ (l : List TypeNode). Wrote old new (rules.term s (p.node node.at (p.Function g (type_nodes (map type_node l)) (type_node of)))) r) z w)
