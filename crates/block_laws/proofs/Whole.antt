-- Each declaration of a list is a fact of it.
use Rattle.std.proofs.Common.{◌≡◌, ℕ, suc, Bool, true, false, List, [], ◌∷◌, ◌++◌, length, map, Option, Some, None, refl, sym, ap, ◌∙◌, subst}
use Rattle.std.specs.Prelude.{slice_get}
use Rattle.mo_types.specs.declared.node.Sort.TheVariants as sort
use Rattle.mo_types.specs.declared.node.TypeId.{TypeId}
use Rattle.mo_types.specs.Graph.{Slot, head_at}
use Rattle.subtype_laws.specs.Reached.{Among}
use Rattle.typed_tree.specs.ActionTypes as typed
use Rattle.typed_tree.specs.Placing.{Declared, place}
use Rattle.typed_tree.specs.Typing.{generic as stands_for}
use Rattle.typed_tree.specs.Wants.{Of, KeptOf}
use Rattle.typing_rules.specs.AbstractSyntax.{Bytes, Declaration, Declarations}
use Rattle.typing_rules.specs.AbstractSyntax as p
use Rattle.typing_rules.specs.AsyncPlaces.{Other as Apart}
use Rattle.typing_rules.specs.Contexts.{Scope, Context, variable, generic, directly}
use Rattle.typing_rules.specs.DeclaredTypes.{within, parameter_terms, class_type}
use Rattle.typing_rules.specs.Definitions.{Definitions}
use Rattle.typing_rules.specs.Lists.{Entry as Given, of_expression}
use Rattle.typing_rules.specs.Terms.{Term, Terms, unit, listed}
use Rattle.typing_rules.specs.Terms as t
use Rattle.typing_rules.specs.TypedTrees.{Note}
use Rattle.typing_rules.specs.TypeScopes.{term_or}
use Rattle.desugaring.specs.Expressions.{becomes, pieces}
use Rattle.desugaring.specs.FreeNames.{names_in, occurring, in_declaration, declared}
use Rattle.desugaring.specs.Frames.{Frame, kept_at}
use Rattle.desugaring.specs.Pieces.{Becomes, AStep, AFunction, AnExpression, Nothing, Piece, is_end}
use Rattle.desugaring_laws.specs.GraphOf.{IsGraphOf}
use Rattle.desugaring_laws.specs.Known.{IsKnown}
use Rattle.expression_laws.specs.Fitting.{Fits}
use Rattle.list_laws.specs.Facts.{Fact, Evaluates, IsFunction, Other, FunctionBefore, IsFact, AreFacts, scope_at, nth}
use Rattle.declaration_laws.specs.Laws.{own_of, known_at, IsValueOf}
use Rattle.declaration_laws.specs.Made.{FunctionMade, StepMade, StableMade, ValueMade}
use Rattle.declaration_laws.proofs.Facts.{steps_are_facts, stable_steps_are_facts, values_are_facts, functions_are_facts}
use Rattle.block_laws.specs.Lists.{IsSigned, AreSigned, EndsAs, IsMade, AreMade, IsKept, AreKept, behind, last_of}
use Rattle.block_laws.specs.Order.{Reaches, UsesInOrder, AllInOrder, fact_of, facts_of}
use Rattle.block_laws.proofs.Facts.{scope_of, dropped, nth_dropped, scope_first, scope_next, bound_at, function_at}
use Rattle.block_laws.proofs.Keeping.{Defined, BindsOnly, AllBindOnly, AreApart, kept, bound_to_end}
use Rattle.block_laws.proofs.Naming.{AllBoundIn}

-- ---- scopes of what is made

module _ (defs : Definitions) (slots : List Slot) (terms : List Term) (number : Term → TypeId) (vs : List ℕ) (last : Context) (value : Bool) (w : Option Term) (k : Context) (all : List Declared) where
  step_only : (uses xs : List Bytes) (s : Scope) (e : Context) (b : Becomes) → StepMade defs slots terms number vs uses e xs s b → BindsOnly (Evaluates xs s)
  step_only uses xs s e (AStep binds step) m = m.1
  step_only uses xs s e (AFunction y g) m = absurd m
  step_only uses xs s e (AnExpression x) m = absurd m
  step_only uses xs s e Nothing m = absurd m

  stable_only : (uses : List Bytes) (x : Bytes) (s : Scope) (e : Context) (b : Becomes) → StableMade defs slots terms number vs uses e x s b → BindsOnly (Evaluates (x ∷ []) s)
  stable_only uses x s e (AStep binds step) m = m.1
  stable_only uses x s e (AFunction y g) m = absurd m
  stable_only uses x s e (AnExpression y) m = absurd m
  stable_only uses x s e Nothing m = absurd m

  one_only : (v : Scope) (d : Declaration ℕ) (wanted : Option Term) (one : Given) (x : Declared) (b : Becomes) → IsMade defs slots terms number vs last (record k { values = v }) d wanted one b → BindsOnly (fact_of slots number k.types all x d one.scope)
  one_only v (p.Let q a) wanted one x b m = step_only (occurring a) (names_in q) one.scope (directly Apart (record k { values = v })) b m
  one_only v (p.Var true y u a) wanted one x b m = stable_only (occurring a) y.bytes one.scope (directly Apart (record k { values = v })) b m
  one_only v (p.Var false y u a) wanted one x b m = step_only (occurring a) (y.bytes ∷ []) one.scope (directly Apart (record k { values = v })) b m
  one_only v (p.NamedObject y fields) wanted one x b m = step_only (in_declaration (p.NamedObject y fields)) (y.bytes ∷ []) one.scope (directly Apart (record k { values = v })) b m
  one_only v (p.Evaluate a) wanted one x b m = tt
  one_only v (p.Func y g body) wanted one x b m = tt
  one_only v (p.Class y g fields) wanted one x b m = tt
  one_only v (p.Method query context y g body) wanted one x b m = tt
  one_only v (p.System y body) wanted one x b m = tt
  one_only v (p.TypeAlias y parameters u) wanted one x b m = tt

  -- each binds none but its own names
  pub all_bind_only : (v : Scope) (ds : Declarations ℕ) (given : List Given) (made : Declarations Note) → AreMade defs slots terms number vs last value (record k { values = v }) ds w given made
      → AllBindOnly (facts_of slots number k.types all ds made given)
  all_bind_only v p.End given made m = tt
  all_bind_only v (p.Then public j d rest) [] made m = absurd m
  all_bind_only v (p.Then public j d rest) (one ∷ ones) p.End m = absurd m
  all_bind_only v (p.Then public j d rest) (one ∷ ones) (p.Then public_too l b bs) m =
      (one_only v d (of_expression value rest w) one (declared b) (becomes defs number l b) m.1, all_bind_only (one.scope ++ v) rest ones bs m.2)

  -- it binds what its fact has
  pub scope_is : (v : Scope) (d : Declaration ℕ) (wanted : Option Term) (one : Given) (x : Declared) (b : Becomes) → IsMade defs slots terms number vs last (record k { values = v }) d wanted one b → one.scope ≡ scope_of (fact_of slots number k.types all x d one.scope)
  scope_is v (p.Let q a) wanted one x b m = refl
  scope_is v (p.Var stable y u a) wanted one x b m = refl
  scope_is v (p.NamedObject y fields) wanted one x b m = refl
  scope_is v (p.Evaluate a) wanted one x b m = m.1
  scope_is v (p.Func y g body) wanted one x b m = m.1
  scope_is v (p.Class y g fields) wanted one x b m = m.1
  scope_is v (p.Method query context y g body) wanted one x b m = m.1
  scope_is v (p.System y body) wanted one x b m = m.1
  scope_is v (p.TypeAlias y parameters u) wanted one x b m = m.1

  -- what is known at the end of the list
  pub behind_all : (v : Scope) (ds : Declarations ℕ) (given : List Given) (made : Declarations Note) → AreMade defs slots terms number vs last value (record k { values = v }) ds w given made
      → behind given v ≡ scope_at (length (facts_of slots number k.types all ds made given)) (facts_of slots number k.types all ds made given) v
  behind_all v p.End [] made m = refl
  behind_all v p.End (one ∷ ones) made m = absurd m
  behind_all v (p.Then public j d rest) [] made m = absurd m
  behind_all v (p.Then public j d rest) (one ∷ ones) p.End m = absurd m
  behind_all v (p.Then public j d rest) (one ∷ ones) (p.Then public_too l b bs) m =
      let x = fact_of slots number k.types all (declared b) d one.scope in
      let xs = facts_of slots number k.types all rest bs ones in
      behind_all (one.scope ++ v) rest ones bs m.2
      ∙ (ap (λ z. scope_at (length xs) xs (z ++ v)) (scope_is v d (of_expression value rest w) one (declared b) (becomes defs number l b) m.1) ∙ sym (scope_first x (length xs) xs v))

module _ (defs : Definitions) (slots : List Slot) (terms : List Term) (number : Term → TypeId) (graph : IsGraphOf defs slots terms number) (k : Context) (base : Scope) (f : Frame) (c : typed.Context) (outer : List Bytes) (facts : List Fact)
    (fit : Fits defs slots terms number k.types [] (directly Apart k) f c) (all : List Declared) (whole : List Piece) (has_value value : Bool) (w : Option Term) (type : Term) where
  abbrev at : Scope → Context
  at v = record k { values = v }

  abbrev end : Context
  end = known_at (directly Apart k) base facts (length facts)

  abbrev IsFactAt : ℕ → Bool → Declared → Becomes → Fact → Type 0
  IsFactAt = IsFact defs slots terms number k.body base f c outer facts all whole has_value (Of (number type))

  step_fact : (n : ℕ) (v : Scope) → v ≡ scope_at n facts base → (uses xs : List Bytes) (s : Scope) (d : Declared) (last : Bool) (b : Becomes) → StepMade defs slots terms number c.parameters uses (directly Apart (at v)) xs s b
      → ((y : Bytes) → Among y uses → Reaches outer facts (suc n) n y) → IsFactAt n last d b (Evaluates xs s)
  step_fact n v e uses xs s d last (AStep binds step) m there =
      steps_are_facts defs slots terms number (directly Apart k) base f c outer facts fit n uses binds step xs s (subst (λ z. StepMade defs slots terms number c.parameters uses (directly Apart (at z)) xs s (AStep binds step)) e m) there
  step_fact n v e uses xs s d last (AFunction y g) m there = absurd m
  step_fact n v e uses xs s d last (AnExpression x) m there = absurd m
  step_fact n v e uses xs s d last Nothing m there = absurd m

  stable_fact : (n : ℕ) (v : Scope) → v ≡ scope_at n facts base → (uses : List Bytes) (x : Bytes) (s : Scope) → ((u : Term) → s ≡ (x, variable u) ∷ [] → slice_get c.names (kept_at f x) ≡ Some (KeptOf (number u))) → (d : Declared) (last : Bool) (b : Becomes)
      → StableMade defs slots terms number c.parameters uses (directly Apart (at v)) x s b → ((y : Bytes) → Among y uses → Reaches outer facts (suc n) n y) → IsFactAt n last d b (Evaluates (x ∷ []) s)
  stable_fact n v e uses x s kept d last (AStep binds step) m there =
      stable_steps_are_facts defs slots terms number (directly Apart k) base f c outer facts fit n uses binds step x s kept
      (subst (λ z. StableMade defs slots terms number c.parameters uses (directly Apart (at z)) x s (AStep binds step)) e m) there
  stable_fact n v e uses x s kept d last (AFunction y g) m there = absurd m
  stable_fact n v e uses x s kept d last (AnExpression y) m there = absurd m
  stable_fact n v e uses x s kept d last Nothing m there = absurd m

  value_fact : (n : ℕ) (v : Scope) → v ≡ scope_at n facts base → (uses : List Bytes) (d : Declared) (last : Bool) (o wanted : Option Term) (b : Becomes) → ValueMade defs slots terms number c.parameters uses (directly Apart (at v)) wanted o b
      → ((u : Term) → o ≡ Some u → IsValueOf number last (Of (number type)) None u) → ((y : Bytes) → Among y uses → Reaches outer facts (suc n) n y) → IsFactAt n last d b Other
  value_fact n v e uses d last None wanted b m is there = absurd m
  value_fact n v e uses d last (Some u) wanted (AnExpression x) m is there =
      values_are_facts defs slots terms number graph (directly Apart k) base f c outer facts fit n uses last (Of (number type)) None u x
      (subst (λ z. ValueMade defs slots terms number c.parameters uses (directly Apart (at z)) None (Some u) (AnExpression x)) e (λ s. (tt, (m s).1))) (is u refl) there
  value_fact n v e uses d last (Some u) wanted (AStep binds step) m is there = absurd m
  value_fact n v e uses d last (Some u) wanted (AFunction y g) m is there = absurd m
  value_fact n v e uses d last (Some u) wanted Nothing m is there = absurd m

  module _ (only : AllBindOnly facts) (apart : AreApart facts) (outside : (y : Bytes) → Among y outer → Defined y facts → ⊥) (functions : (i : ℕ) (y : Bytes) → FunctionBefore i y facts → Defined y facts → ⊥)
      (bound : AllBoundIn base facts) where
    function_fact : (n : ℕ) (uses : List Bytes) (d : Declared) (last : Bool) (b : Becomes) (x : Bytes) (gs : List ℕ) (ps : Terms) (r : Term) → IsKnown defs terms (gs ++ c.parameters) (t.Function ps r)
        → FunctionMade defs slots terms number c.parameters uses end x (record { sort = sort.Local; generics = gs; context = []; parameters = map number (listed ps); result = number r }) b
        → nth n facts ≡ Some (IsFunction x (place all d) (generic gs (t.Function ps r)) (stands_for (head_at slots) gs (number (t.Function ps r))))
        → ((y : Bytes) → Among y uses → Reaches outer facts (suc (place all d)) (place all d) y)
        → IsFactAt n last d b (IsFunction x (place all d) (generic gs (t.Function ps r)) (stands_for (head_at slots) gs (number (t.Function ps r))))
    function_fact n uses d last (AFunction y g) x gs ps r known m is there =
        functions_are_facts defs slots terms number graph (directly Apart k) base f c outer facts fit all d y x g (place all d) uses gs ps r known m (record {
          place_is = refl;
          bound = λ i.
              kept x facts only (functions (suc (place all d)) x (function_at n facts x (place all d) (generic gs (t.Function ps r)) (stands_for (head_at slots) gs (number (t.Function ps r))) is)) i base
              ∙ bound_at n facts base (IsFunction x (place all d) (generic gs (t.Function ps r)) (stands_for (head_at slots) gs (number (t.Function ps r)))) is bound;
          there = λ z u. (there z u, bound_to_end outer facts only apart outside functions (suc (place all d)) (place all d) z (there z u) base);
        })
    function_fact n uses d last (AStep binds step) x gs ps r known m is there = absurd m
    function_fact n uses d last (AnExpression e) x gs ps r known m is there = absurd m
    function_fact n uses d last Nothing x gs ps r known m is there = absurd m

    abbrev FactOf : Declared → Declaration ℕ → Scope → Fact
    FactOf = fact_of slots number k.types all

    one_fact : (n : ℕ) (v : Scope) → v ≡ scope_at n facts base → (d : Declaration ℕ) (wanted : Option Term) (one : Given) (x : Declared) (b : Becomes) (last : Bool) → IsMade defs slots terms number c.parameters end (at v) d wanted one b
        → IsSigned defs terms c.parameters k.types d → UsesInOrder outer all facts n x d → nth n facts ≡ Some (FactOf x d one.scope)
        → ((u : Term) → one.value ≡ Some u → IsValueOf number last (Of (number type)) None u) → IsKept defs slots terms number f c d one → IsFactAt n last x b (FactOf x d one.scope)
    one_fact n v e (p.Let q a) wanted one x b last m s there is end_is kept = step_fact n v e (occurring a) (names_in q) one.scope x last b m there
    one_fact n v e (p.Var false y u a) wanted one x b last m s there is end_is kept = step_fact n v e (occurring a) (y.bytes ∷ []) one.scope x last b m there
    one_fact n v e (p.Var true y u a) wanted one x b last m s there is end_is kept = stable_fact n v e (occurring a) y.bytes one.scope kept x last b m there
    one_fact n v e (p.NamedObject y fields) wanted one x b last m s there is end_is kept = step_fact n v e (in_declaration (p.NamedObject y fields)) (y.bytes ∷ []) one.scope x last b m there
    one_fact n v e (p.Evaluate a) wanted one x b last m s there is end_is kept = value_fact n v e (occurring a) x last one.value wanted b m.0 end_is there
    one_fact n v e (p.Func y g body) wanted one x b last m s there is end_is kept =
        function_fact n (in_declaration (p.Func y g body)) x last b y.bytes (own_of g) (parameter_terms (within k.types g) g.parameters) (term_or (within k.types g) g.result unit) s.0 m.0 is there
    one_fact n v e (p.Class y g fields) wanted one x b last m s there is end_is kept =
        function_fact n (in_declaration (p.Class y g fields)) x last b y.bytes (own_of g) (parameter_terms (within k.types g) g.parameters) (class_type (within k.types g) y) s.0 m.0 is there
    one_fact n v e (p.Method query context y g body) wanted one x b last m s there is end_is kept = subst (λ z. IsFactAt n last x z Other) (sym m.0) tt
    one_fact n v e (p.System y body) wanted one x b last m s there is end_is kept = subst (λ z. IsFactAt n last x z Other) (sym m.0) tt
    one_fact n v e (p.TypeAlias y parameters u) wanted one x b last m s there is end_is kept = subst (λ z. IsFactAt n last x z Other) (sym m.0) tt

    type_of_value : (o : Option Term) → EndsAs defs slots terms number o w type → (u : Term) → o ≡ Some u → type ≡ u
    type_of_value None i u e = cc
    type_of_value (Some z) i u e = let q : z ≡ u = cc in i ∙ q

    -- the last expression serves where the list does
    last_so : (v : Scope) (rest : Declarations ℕ) (ones : List Given) (bs : Declarations Note) (o : Option Term) → AreMade defs slots terms number c.parameters end value (at v) rest w ones bs → EndsAs defs slots terms number (last_of o ones) w type
        → (u : Term) → o ≡ Some u → IsValueOf number (is_end all whole has_value (pieces defs number bs)) (Of (number type)) None u
    last_so v p.End [] p.End o m i u e = by has_value (type_of_value o i u e) where
      by : (b : Bool) → type ≡ u → IsValueOf number b (Of (number type)) None u
      by true q = ap (λ z. Of (number z)) q
      by false q = tt
    last_so v p.End [] (p.Then public n d bs) o m i u e = absurd m
    last_so v p.End (one ∷ ones) bs o m i u e = absurd m
    last_so v (p.Then public n d rest) [] bs o m i u e = absurd m
    last_so v (p.Then public n d rest) (one ∷ ones) p.End o m i u e = absurd m
    last_so v (p.Then public n d rest) (one ∷ ones) (p.Then public_too k' b bs) o m i u e = tt

    pub facts_are : (n : ℕ) (v : Scope) → v ≡ scope_at n facts base → (ds : Declarations ℕ) (given : List Given) (made : Declarations Note) (o : Option Term) → AreMade defs slots terms number c.parameters end value (at v) ds w given made
        → AreSigned defs terms c.parameters k.types ds → AllInOrder outer all facts n ds made → dropped n facts ≡ facts_of slots number k.types all ds made given → EndsAs defs slots terms number (last_of o given) w type → AreKept defs slots terms number f c ds given
        → AreFacts defs slots terms number k.body base f c outer facts all whole has_value (Of (number type)) n (pieces defs number made) (facts_of slots number k.types all ds made given)
    facts_are n v e p.End [] p.End o m s there h i kept = tt
    facts_are n v e p.End [] (p.Then public j d bs) o m s there h i kept = absurd m
    facts_are n v e p.End (one ∷ ones) made o m s there h i kept = absurd m
    facts_are n v e (p.Then public j d rest) [] made o m s there h i kept = absurd m
    facts_are n v e (p.Then public j d rest) (one ∷ ones) p.End o m s there h i kept = absurd m
    facts_are n v e (p.Then public j d rest) (one ∷ ones) (p.Then public_too l b bs) o m s there h i kept =
        let x = FactOf (declared b) d one.scope in
        let q = nth_dropped n facts x (facts_of slots number k.types all rest bs ones) h in (
          q.0,
          one_fact n v e d (of_expression value rest w) one (declared b) (becomes defs number l b) (is_end all whole has_value (pieces defs number bs)) m.1 s.0 there.0 q.0 (last_so (one.scope ++ v) rest ones bs one.value m.2 i) kept.0,
          facts_are (suc n) (one.scope ++ v)
              (ap (λ z. one.scope ++ z) e ∙ (ap (λ z. z ++ scope_at n facts base) (scope_is defs slots terms number c.parameters end value w k all v d (of_expression value rest w) one (declared b) (becomes defs number l b) m.1) ∙ sym (scope_next n facts base x q.0)))
              rest ones bs one.value m.2 s.1 there.1 q.1 i kept.1,
        )
