-- The end of a start: names of the actor, and its methods.
use Rattle.std.proofs.Common.{◌≡◌, ℕ, zero, suc, ◌+◌, ◌-◌, ◌≤◌, refl, sym, ap, ◌∙◌, subst, List, [], ◌∷◌, ◌++◌, length, map, Option, Some, None, Bool, true, false, arith}
use Rattle.std.specs.Prelude.{not, ◌&&◌, cond, take, replicate, slice_get}
use Rattle.std.specs.Str.{bytes_eq}
use Rattle.mo_types.specs.declared.datum.Datum.TheVariants as part
use Rattle.mo_values.specs.Shapes.{Bytes, Leaf, leaf}
use Rattle.mo_actor.specs.Passes.{AlikeMethods}
use Rattle.core_ir.specs.Actor as core_actor
use Rattle.core_ir.specs.Actor.{MethodEntry}
use Rattle.core_ir.specs.Expressions as core
use Rattle.core_ir.specs.Expressions.{Body, Core}
use Rattle.core_ir.specs.Messages.{Messages}
use Rattle.core_ir.specs.Programs.{Group}
use Rattle.core_ir.specs.Programs as core_program
use Rattle.core_ir.specs.Values as core_value
use Rattle.core_ir.specs.Worlds.{MadeGroup, Context}
use Rattle.mo_types.specs.declared.node.Sort.TheVariants as sort
use Rattle.typed_tree.specs.Language as source
use Rattle.typed_tree.specs.Language.{Functions, NoFunction, AFunction, Val, unit}
use Rattle.typed_tree.specs.Patterns.{Wildcard, APat, NoPat}
use Rattle.typed_tree.specs.Programs.{Program, Method}
use Rattle.typed_tree.specs.Substitution.{count}
use Rattle.mo_meaning.specs.Actor.{entry_of, resume_entry, entry_if, method_from}
use Rattle.mo_meaning.specs.Coding.{Types, Coding}
use Rattle.mo_meaning.specs.Kernel.{Entry, Kept}
use Rattle.mo_meaning.specs.Turns.{resume_name}
use Rattle.mo_machine.specs.ActorLanguage.{Fields}
use Rattle.mo_machine.specs.Environments.{Environment, extended, with_group}
use Rattle.mo_machine.specs.Exports.{function_at}
use Rattle.mo_machine.specs.Starting.{method_value, kept_value, outer_values}
use Rattle.mo_machine.specs.Values.{Value, Made, Closure, NoValue}
use Rattle.elaboration.specs.Scopes.{Place, Local, Own, Nowhere, place_or_nowhere, in_body, nothing}
use Rattle.elaboration.specs.Checks.{around_all, behind, fails}
use Rattle.elaboration.specs.Elaboration.{BodiesElaborated, elaborate, elaborate_functions, number_of_parameters, on_parameters}
use Rattle.elaboration.specs.Meeting.{Reads, Extends}
use Rattle.elaboration.specs.Members.{Elaborated}
use Rattle.elaboration.proofs.Coming.{reads_new, reads_more}
use Rattle.elaboration.specs.Programs.{start_scope, own_from, kept_places, outside, numbered, firsts, method_of, methods_of, resume_method}
use Rattle.elaboration_forms.specs.Elaborates.{HasGroups, Elaborates}
use Rattle.elaboration_forms.proofs.Made.{elaborates}
use Rattle.elaboration_values.specs.Belonging.{Known, OfFunctions, OfOne, OfMember, Belongs, EachBelongs, EnvironmentBelongs, StandsAt}
use Rattle.elaboration_steps.proofs.Groups.{behind_group}
use Rattle.elaboration_steps.specs.Stacks.{GroupBelongs, GroupsBelong}
use Rattle.elaboration_runs.specs.Entering.{Function, function_in}
use Rattle.elaboration_actors.specs.Actors.{Begun, context_with, globals}
use Rattle.elaboration_actors.specs.Bodies.{SameMethod}
use Rattle.elaboration_actors.specs.Starts.{ReadNames, MethodBodies, MethodsStand, MethodsAreCode, StartsBegin, declared_in, places_around, EndsOfStarts, StartsEnd}

-- ---- lists

abbrev some_or : {A : Type 0} → A → Option A → A
some_or x None = x
some_or x (Some y) = y

some_is : {A : Type 0} (x y : A) → Some x ≡ Some y → x ≡ y
some_is x y e = ap (some_or x) e

in_front : {A : Type 0} (xs ys : List A) (i : ℕ) (x : A) → slice_get xs i ≡ Some x → slice_get (xs ++ ys) i ≡ Some x
in_front [] ys i x e = absurd (let z : None ≡ Some x = e in cc)
in_front (y ∷ xs) ys zero x e = e
in_front (y ∷ xs) ys (suc i) x e = in_front xs ys i x e

behind_them : {A : Type 0} (xs ys : List A) (i : ℕ) (x : A) → slice_get ys i ≡ Some x → slice_get (xs ++ ys) (length xs + i) ≡ Some x
behind_them [] ys i x e = subst (λ n. slice_get ys n ≡ Some x) (let z : i ≡ 0 + i = omega arith in z) e
behind_them (y ∷ xs) ys i x e = subst (λ n. slice_get (y ∷ (xs ++ ys)) n ≡ Some x) (let z : suc (length xs + i) ≡ suc (length xs) + i = omega arith in z) (behind_them xs ys i x e)

-- ---- names

module _ (known : List Known) (few all : List core_value.Value) (kept : (i : ℕ) (w : core_value.Value) → slice_get few i ≡ Some w → slice_get all i ≡ Some w) where
  -- where the actor has further names
  place_with : (vals : List core_value.Value) (p : Place) (v : Value) → StandsAt known few vals p v → StandsAt known all vals p v
  place_with vals (Local level) v s = s
  place_with vals (Own i) v s = (s.0, kept i (s.0) (s.1), s.2)
  place_with vals Nowhere v s = tt

  names_with : (places : List Place) (env : Environment) (vals : List core_value.Value) → EnvironmentBelongs known few places env vals → EnvironmentBelongs known all places env vals
  names_with places env vals h = λ x v e. place_with vals (place_or_nowhere (slice_get places x)) v (h x v e)

  group_with : (table : List (Group Body)) (k : Known) (made : MadeGroup) → GroupBelongs table known few k made → GroupBelongs table known all k made
  group_with table (OfFunctions fns env) made r = record { places = r.places; labels = r.labels; bodies = r.bodies; there = r.there; code = r.code; names = names_with r.places env made.seen r.names }
  group_with table (OfOne fns i env) made r = record { places = r.places; labels = r.labels; body = r.body; there = r.there; code = r.code; names = names_with r.places env made.seen r.names }
  group_with table (OfMember m holds) made r = record { n = r.n; levels = r.levels; held = r.held; there = r.there; code = r.code }

  groups_with : (table : List (Group Body)) (made : List MadeGroup) → GroupsBelong table known few made → GroupsBelong table known all made
  groups_with table made r = record { as_many = r.as_many; each = λ i k e. (let f : (m : MadeGroup) × (slice_get made i ≡ Some m) × GroupBelongs table known few k m = r.each i k e in (f.0, f.1, group_with table k (f.0) (f.2))) }

  -- names of declarations as names of the actor
  numbered_stand : (vals : List core_value.Value) (places : List Place) (i : ℕ) (names : List core_value.Value) → ReadNames vals places names → ((j : ℕ) (w : core_value.Value) → slice_get names j ≡ Some w → slice_get all (i + j) ≡ Some w)
      → (x : ℕ) (v : Value) → StandsAt known few vals (place_or_nowhere (slice_get places x)) v → StandsAt known all [] (place_or_nowhere (slice_get (numbered i places) x)) v
  numbered_stand vals [] i names r here x v s = tt
  numbered_stand vals (Local level ∷ places) i names r here zero v s =
      (r.0, subst (λ n. slice_get all n ≡ Some (r.0)) (let z : i + 0 ≡ i = omega arith in z) (here 0 (r.0) (rw (r.4) refl)), subst (λ w. Belongs known v w) (some_is (s.0) (r.0) (sym (s.1.1) ∙ r.2.1)) (s.2))
  numbered_stand vals (Local level ∷ places) i names r here (suc x) v s = numbered_stand vals places (suc i) (r.1) (r.3) (λ j w e. subst (λ n. slice_get all n ≡ Some w) (let z : i + suc j ≡ suc i + j = omega arith in z) (here (suc j) w (rw (r.4) e))) x v s
  numbered_stand vals (Own k ∷ places) i names r here zero v s = (s.0, kept k (s.0) (s.1), s.2)
  numbered_stand vals (Own k ∷ places) i names r here (suc x) v s = numbered_stand vals places i names r here x v s
  numbered_stand vals (Nowhere ∷ places) i names r here zero v s = tt
  numbered_stand vals (Nowhere ∷ places) i names r here (suc x) v s = numbered_stand vals places i names r here x v s

module _ (known : List Known) (globals vals : List core_value.Value) where
  abbrev S : Option Place → Value → Type 0
  S o v = StandsAt known globals vals (place_or_nowhere o) v

  first_stand : (m : ℕ) (places : List Place) (x : ℕ) (v : Value) → S (slice_get places x) v → S (slice_get (take m places) x) v
  first_stand zero places x v s = tt
  first_stand (suc m) [] x v s = tt
  first_stand (suc m) (p ∷ places) zero v s = s
  first_stand (suc m) (p ∷ places) (suc x) v s = first_stand m places x v s

  nowhere_stand : (n x : ℕ) (v : Value) → S (slice_get (replicate n Nowhere) x) v
  nowhere_stand zero x v = tt
  nowhere_stand (suc n) zero v = tt
  nowhere_stand (suc n) (suc x) v = nowhere_stand n x v

  before_nowhere : (places : List Place) (n x : ℕ) (v : Value) → S (slice_get places x) v → S (slice_get (places ++ replicate n Nowhere) x) v
  before_nowhere [] n x v s = nowhere_stand n x v
  before_nowhere (p ∷ places) n zero v s = s
  before_nowhere (p ∷ places) n (suc x) v s = before_nowhere places n x v s

-- ---- methods by name

within : {A : Type 0} (xs : List A) (i : ℕ) (x : A) → slice_get xs i ≡ Some x → suc i ≤ length xs
within [] i x e = absurd (let z : None ≡ Some x = e in cc)
within (y ∷ xs) zero x e = omega arith
within (y ∷ xs) (suc i) x e = let z : suc i ≤ length xs = within xs i x e in omega (arith, z)

get_method : (ms : List Method) (bodies : List Body) (i : ℕ) (m : Method) (b : Body) → slice_get ms i ≡ Some m → slice_get bodies i ≡ Some b → slice_get (methods_of ms bodies) i ≡ Some (method_of m b)
get_method [] bodies i m b e g = absurd (let z : None ≡ Some m = e in cc)
get_method (n ∷ ms) [] i m b e g = absurd (let z : None ≡ Some b = g in cc)
get_method (n ∷ ms) (c ∷ bodies) zero m b e g = ap (λ o. Some (method_of o c)) (some_is n m e) ∙ ap (λ o. Some (method_of m o)) (some_is c b g)
get_method (n ∷ ms) (c ∷ bodies) (suc i) m b e g = get_method ms bodies i m b e g

get_resume : (ms : List Method) (bodies : List Body) → slice_get (methods_of ms bodies) (length ms) ≡ Some resume_method
get_resume [] bodies = refl
get_resume (m ∷ ms) [] = get_resume ms []
get_resume (m ∷ ms) (b ∷ bodies) = get_resume ms bodies

module _ (D : Entry → MethodEntry → Type 0) where
  abbrev entry_there : ℕ → Method → MethodEntry
  entry_there place m = record { place = place; parameters = m.parameters; results = m.results }

  abbrev resume_there : ℕ → MethodEntry
  resume_there place = record { place = place; parameters = []; results = [] }

  both : (t : Bool) (a : Entry) (b : MethodEntry) (x : Option Entry) (y : Option MethodEntry) → D a b → AlikeMethods D x y → AlikeMethods D (cond t (Some a) x) (cond t (Some b) y)
  both true a b x y d r = d
  both false a b x y d r = r

  resumes : (query same : Bool) (b : MethodEntry) → D resume_entry b → AlikeMethods D (entry_if (not query && same)) (cond (same && cond query false (not false)) (Some b) None)
  resumes true true b d = tt
  resumes true false b d = tt
  resumes false true b d = d
  resumes false false b d = tt

  at_first : (place : ℕ) (m : Method) → D (entry_of (place + 0) m) (entry_there (place + 0) m) → D (entry_of place m) (entry_there place m)
  at_first place m d = subst (λ n. D (entry_of n m) (entry_there n m)) (let z : place + 0 ≡ place = omega arith in z) d

  next : (place i : ℕ) (m : Method) → D (entry_of (place + suc i) m) (entry_there (place + suc i) m) → D (entry_of (suc place + i) m) (entry_there (suc place + i) m)
  next place i m d = subst (λ j. D (entry_of j m) (entry_there j m)) (let z : place + suc i ≡ suc place + i = omega arith in z) d

  next_last : (place n : ℕ) → D resume_entry (resume_there (place + suc n)) → D resume_entry (resume_there (suc place + n))
  next_last place n d = subst (λ j. D resume_entry (resume_there j)) (let z : place + suc n ≡ suc place + n = omega arith in z) d

  methods_alike : (query : Bool) (name : Bytes) (ms : List Method) (bodies : List Body) (place : ℕ) → ((i : ℕ) (m : Method) → slice_get ms i ≡ Some m → D (entry_of (place + i) m) (entry_there (place + i) m)) → D resume_entry (resume_there (place + length ms))
      → AlikeMethods D (method_from place query name ms) (core_actor.method_from place query name (methods_of ms bodies))
  methods_alike query name [] bodies place each last = resumes query (bytes_eq resume_name name) (resume_there place) (subst (λ n. D resume_entry (resume_there n)) (let z : place + 0 ≡ place = omega arith in z) last)
  methods_alike query name (m ∷ ms) [] place each last =
      both (bytes_eq m.name name && cond query m.query (not m.query)) (entry_of place m) (entry_there place m) _ _ (at_first place m (each 0 m refl))
      (methods_alike query name ms [] (suc place) (λ i n e. next place i n (each (suc i) n e)) (next_last place (length ms) last))
  methods_alike query name (m ∷ ms) (b ∷ bodies) place each last =
      both (bytes_eq m.name name && cond query m.query (not m.query)) (entry_of place m) (entry_there place m) _ _ (at_first place m (each 0 m refl))
      (methods_alike query name ms bodies (suc place) (λ i n e. next place i n (each (suc i) n e)) (next_last place (length ms) last))

-- ---- methods

module _ (table : List (Group Body)) (places : List Place) where
  pub record BodyAt (fns : Functions) (bodies : List Body) (i : ℕ) : Type 0 where
    pub f : Function
    pub b : Body
    pub code : core.Exp
    pub there : function_in fns i ≡ Some f
    pub found : slice_get bodies i ≡ Some b
    pub elaborates : Elaborates table true (behind (on_parameters f.parameters (outside places)) (in_body (number_of_parameters f.parameters) (outside places))) f.body code
    pub is : b ≡ record { parameters = number_of_parameters f.parameters; nodes = f.nodes; expression = around_all (on_parameters f.parameters (outside places)).checks fails code }

  body_at : (n : ℕ) (fns : Functions) (bodies : List Body) (i : ℕ) → MethodBodies table places (firsts n fns) bodies → suc i ≤ n → n ≤ count fns → BodyAt fns bodies i
  body_at zero fns bodies i r l m = absurd (omega (arith, l))
  body_at (suc n) NoFunction bodies i r l m = absurd (omega (arith, m))
  body_at (suc n) (AFunction how nodes ps body fns) bodies zero r l m = record {
    f = record { nodes = nodes; parameters = ps; body = body };
    b = record { parameters = number_of_parameters ps; nodes = nodes; expression = around_all (on_parameters ps (outside places)).checks fails (r.0) };
    code = r.0;
    there = refl;
    found = rw (r.4) refl;
    elaborates = r.2;
    is = refl;
  }
  body_at (suc n) (AFunction how nodes ps body fns) bodies (suc i) r l m = more (body_at n fns (r.1) i (r.3) (omega (arith, l)) (omega (arith, m)))
    where
      more : BodyAt fns (r.1) i → BodyAt (AFunction how nodes ps body fns) bodies (suc i)
      more b = record { f = b.f; b = b.b; code = b.code; there = b.there; found = rw (r.4) b.found; elaborates = b.elaborates; is = b.is }

module _ (p : Program) (core : Core) (context : Context) (known : List Known) (exports : Value) where
  abbrev D : Entry → MethodEntry → Type 0
  D e m = SameMethod core context known exports e m

  module _ (fns : Functions) (env : Environment) (bodies : List Body) (places : List Place) (names : EnvironmentBelongs known context.globals places (with_group fns env) []) (methods : core.methods ≡ methods_of p.methods bodies)
      (enough : length p.methods ≤ count fns) (code : MethodBodies core.groups places (firsts (length p.methods) fns) bodies) (functions : (i : ℕ) → suc i ≤ length p.methods → function_at exports (Some i) ≡ Closure fns i env) where
    method_same : (i : ℕ) (m : Method) → slice_get p.methods i ≡ Some m → BodyAt core.groups places fns bodies i → D (entry_of i m) (entry_there D i m)
    method_same i m e b = record {
      parameters = refl;
      results = refl;
      group = fns;
      which = i;
      env = env;
      function = b.f;
      is = functions i (within p.methods i m e);
      method = method_of m b.b;
      there = rw methods (get_method p.methods bodies i m b.b e b.found);
      same = record { there = b.there; places = places; code = b.code; elaborates = b.elaborates; names = names; is = b.is };
    }

    resume_same : D resume_entry (resume_there D (length p.methods))
    resume_same = record {
      parameters = refl;
      results = refl;
      group = AFunction sort.Shared 0 (APat Wildcard NoPat) (Val unit) NoFunction;
      which = 0;
      env = NoValue;
      function = record { nodes = 0; parameters = APat Wildcard NoPat; body = Val unit };
      is = refl;
      method = resume_method;
      there = rw methods (get_resume p.methods bodies);
      same = record { there = refl; places = []; code = nothing; elaborates = (tt, refl); names = λ x v e. tt; is = refl };
    }

    found_alike : (query : Bool) (name : Bytes) → AlikeMethods D (method_from 0 query name p.methods) (core_actor.method_from 0 query name core.methods)
    found_alike query name =
        subst (λ ms. AlikeMethods D (method_from 0 query name p.methods) (core_actor.method_from 0 query name ms)) (sym methods) (
        methods_alike D query name p.methods bodies 0
        (λ i m e. subst (λ j. D (entry_of j m) (entry_there D j m)) (let z : i ≡ 0 + i = omega arith in z) (method_same i m e (body_at core.groups places (length p.methods) fns bodies i code (within p.methods i m e) enough)))
        (subst (λ n. D resume_entry (resume_there D n)) (let z : length p.methods ≡ 0 + length p.methods = omega arith in z) resume_same)
        )

-- ---- code of methods

module _ (table : List (Group Body)) where
  -- groups of two parts
  apart : (gs hs : List (Group Body)) (n : ℕ) → HasGroups table n (gs ++ hs) → HasGroups table n gs × HasGroups table (n + length gs) hs
  apart [] hs n h = (tt, subst (λ m. HasGroups table m hs) (let z : n ≡ n + 0 = omega arith in z) h)
  apart (g ∷ gs) hs n h =
      let r : HasGroups table (suc n) gs × HasGroups table (suc n + length gs) hs = apart gs hs (suc n) (h.1) in
      ((h.0, r.0), subst (λ m. HasGroups table m hs) (let z : suc n + length gs ≡ n + suc (length gs) = omega arith in z) (r.1))

  bodies_are_code : (places : List Place) (n : ℕ) (fns : Functions) → MethodsStand places fns → HasGroups table n (elaborate_functions (outside places) n fns).groups → MethodBodies table places fns (elaborate_functions (outside places) n fns).bodies
  bodies_are_code places n NoFunction t h = refl
  bodies_are_code places n (AFunction how nodes ps body fns) t h =
      let s = behind (on_parameters ps (outside places)) (in_body (number_of_parameters ps) (outside places)) in
      let d : Elaborated = elaborate s n body in
      let r : BodiesElaborated = elaborate_functions (outside places) (n + length d.groups) fns in
      let i : HasGroups table n d.groups × HasGroups table (n + length d.groups) r.groups = apart d.groups r.groups n h in
      (d.exp, r.bodies, elaborates table true s n body (t.0) (i.0), bodies_are_code places (n + length d.groups) fns (t.1) (i.1), refl)

pub methods_are_code : MethodsAreCode
methods_are_code table places n fns t h = bodies_are_code table places n fns t h

-- ---- the beginning of a start

module _ (known : List Known) (few whole : List core_value.Value) where
  abbrev pub EachStands : List Place → List Value → Type 0
  EachStands [] [] = Unit {0}
  EachStands (p ∷ ps) (v ∷ vs) = StandsAt known few whole p v × EachStands ps vs
  EachStands _ _ = ⊥

  all_stand : (ps : List Place) (vs : List Value) → EachStands ps vs → EnvironmentBelongs known few ps (extended vs NoValue) whole
  all_stand [] [] a x v e = tt
  all_stand [] (u ∷ vs) a x v e = absurd a
  all_stand (p ∷ ps) [] a x v e = absurd a
  all_stand (p ∷ ps) (u ∷ vs) a zero v e = subst (λ u. StandsAt known few whole p u) (some_is u v e) (a.0)
  all_stand (p ∷ ps) (u ∷ vs) a (suc x) v e = all_stand ps vs (a.1) x v e

  both_stand : (ps qs : List Place) (vs us : List Value) → EachStands ps vs → EachStands qs us → EachStands (ps ++ qs) (vs ++ us)
  both_stand [] qs [] us a b = b
  both_stand [] qs (v ∷ vs) us a b = absurd a
  both_stand (p ∷ ps) qs [] us a b = absurd a
  both_stand (p ∷ ps) qs (v ∷ vs) us a b = (a.0, both_stand ps qs vs us (a.1) b)

  methods_stand : (own : Bytes) (i : ℕ) (ms : List Method) (bodies : List Body)
      → ((j : ℕ) (w : core_value.Value) → slice_get (map (λ (m : core_program.Method Body). leaf {F = core_value.Handle} (part.Method own m.name)) (methods_of ms bodies)) j ≡ Some w → slice_get few (i + j) ≡ Some w)
      → EachStands (own_from i (length ms)) (map (method_value own) ms)
  methods_stand own i [] bodies here = tt
  methods_stand own i (m ∷ ms) [] here = (
    (leaf (part.Method own m.name), subst (λ n. slice_get few n ≡ Some (leaf (part.Method own m.name))) (let z : i + 0 ≡ i = omega arith in z) (here 0 (leaf (part.Method own m.name)) refl), (refl, tt)),
    methods_stand own (suc i) ms [] (λ j w e. subst (λ n. slice_get few n ≡ Some w) (let z : i + suc j ≡ suc i + j = omega arith in z) (here (suc j) w e)),
  )
  methods_stand own i (m ∷ ms) (b ∷ bodies) here = (
    (leaf (part.Method own m.name), subst (λ n. slice_get few n ≡ Some (leaf (part.Method own m.name))) (let z : i + 0 ≡ i = omega arith in z) (here 0 (leaf (part.Method own m.name)) refl), (refl, tt)),
    methods_stand own (suc i) ms bodies (λ j w e. subst (λ n. slice_get few n ≡ Some w) (let z : i + suc j ≡ suc i + j = omega arith in z) (here (suc j) w e)),
  )

  kept_stand : (vs : List Value) (ws : List core_value.Value) (flag : core_value.Value) → EachBelongs known vs ws → Extends (ws ++ flag ∷ []) whole → EachStands (kept_places (length vs)) vs
  kept_stand [] [] flag b h = tt
  kept_stand [] (w ∷ ws) flag b h = absurd b
  kept_stand (v ∷ vs) [] flag b h = absurd b
  kept_stand (v ∷ vs) (w ∷ ws) flag b h = (
    (w, h (suc (length vs)) w (subst (λ n. Reads (w ∷ (ws ++ flag ∷ [])) n w) (one_more vs ws flag (b.1)) (reads_new (ws ++ flag ∷ []) w)), b.0),
    kept_stand vs ws flag (b.1) (λ level u r. h level u (reads_more (ws ++ flag ∷ []) w level u r)),
  )
    where
      one_more : (vs : List Value) (ws : List core_value.Value) (flag : core_value.Value) → EachBelongs known vs ws → length (ws ++ flag ∷ []) ≡ suc (length vs)
      one_more [] [] flag b = refl
      one_more [] (w ∷ ws) flag b = absurd b
      one_more (v ∷ vs) [] flag b = absurd b
      one_more (v ∷ vs) (w ∷ ws) flag b = ap (λ n. suc n) (one_more vs ws flag (b.1))

same_length : (kept : List (Option source.Value)) → length (map kept_value kept) ≡ length kept
same_length [] = refl
same_length (o ∷ kept) = ap (λ n. suc n) (same_length kept)

pub starts_begin : StartsBegin
starts_begin p core own known bodies kept ws flag methods many b =
    subst (λ ms. EnvironmentBelongs known (core_actor.outer_names own ms) (start_scope (length p.methods) (length p.stable)).places (outer_values own p.methods kept) (ws ++ flag ∷ [])) (sym methods)
    (all_stand known few whole (start_scope (length p.methods) (length p.stable)).places (leaf_of_actor ∷ (map (method_value own) p.methods ++ map kept_value kept))
    ((leaf (part.Actor own), refl, (refl, tt)), both_stand known few whole (own_from 1 (length p.methods)) (kept_places (length p.stable)) (map (method_value own) p.methods) (map kept_value kept) shared stable))
  where
    few : List core_value.Value
    few = core_actor.outer_names own (methods_of p.methods bodies)

    whole : List core_value.Value
    whole = ws ++ flag ∷ []

    leaf_of_actor : Value
    leaf_of_actor = Made (Leaf (part.Actor own)) NoValue

    shared : EachStands known few whole (own_from 1 (length p.methods)) (map (method_value own) p.methods)
    shared = methods_stand known few whole own 1 p.methods bodies (λ j w e. subst (λ n. slice_get few n ≡ Some w) (let z : suc j ≡ 1 + j = omega arith in z) e)

    stable : EachStands known few whole (kept_places (length p.stable)) (map kept_value kept)
    stable = subst (λ n. EachStands known few whole (kept_places n) (map kept_value kept)) (same_length kept ∙ many) (kept_stand known few whole (map kept_value kept) ws flag b (λ level u r. r))

-- ---- the end of a start

module _ (coding : Coding) (types : Types) (p : Program) (core : Core) (messages : Messages Kept) (own : Bytes) (known : List Known) (f : Fields) (g : core_actor.Fields) (r : EndsOfStarts p core own known f g) where
  abbrev few : List core_value.Value
  few = core_actor.outer_names own core.methods

  -- names of the actor stand behind itself, its methods and `__resume`
  abbrev shared_function : core_program.Method Body → core_value.Value
  shared_function m = leaf {F = core_value.Handle} (part.Method own m.name)

  so_many : (ms : List Method) (bodies : List Body) → length (map shared_function (methods_of ms bodies)) ≡ suc (length ms)
  so_many [] bodies = refl
  so_many (m ∷ ms) [] = ap (λ n. suc n) (so_many ms [])
  so_many (m ∷ ms) (b ∷ bodies) = ap (λ n. suc n) (so_many ms bodies)

  many : length few ≡ suc (suc (length p.methods))
  many = ap (λ ms. suc (length (map shared_function ms))) r.methods ∙ ap (λ n. suc n) (so_many p.methods r.bodies)

  further : (i : ℕ) (w : core_value.Value) → slice_get few i ≡ Some w → slice_get (globals core own g.names) i ≡ Some w
  further i w e = in_front few g.names i w e

  behind_few : (j : ℕ) (w : core_value.Value) → slice_get g.names j ≡ Some w → slice_get (globals core own g.names) (suc (suc (length p.methods)) + j) ≡ Some w
  behind_few j w e = subst (λ n. slice_get (globals core own g.names) (n + j) ≡ Some w) many (behind_them few g.names j w e)

  declared : EnvironmentBelongs known (globals core own g.names) (numbered (suc (suc (length p.methods))) (declared_in r.places p)) r.env []
  declared x v e =
      numbered_stand known few (globals core own g.names) further r.vals (declared_in r.places p) (suc (suc (length p.methods))) g.names r.read behind_few x v
      (first_stand known few r.vals (length r.places - length p.stable) r.places x v (r.names x v e))

  around : EnvironmentBelongs known (globals core own g.names) (places_around p r.fns r.places) (with_group r.fns r.env) []
  around =
      behind_group known (globals core own g.names) [] r.env r.fns r.fns 0 r.env (numbered (suc (suc (length p.methods))) (declared_in r.places p) ++ replicate (length p.stable) Nowhere)
      (λ x v e. before_nowhere known (globals core own g.names) [] (numbered (suc (suc (length p.methods))) (declared_in r.places p)) (length p.stable) x v (declared x v e))

  begun : Begun coding types p core messages own f g
  begun = record {
    known = known;
    fields = record { cells = r.cells; groups = groups_with known few (globals core own g.names) further core.groups g.groups r.groups; names_are = refl };
    methods = found_alike p core (context_with coding types p core messages own g.names) known f.exports r.fns r.env r.bodies (places_around p r.fns r.places) around r.methods r.enough r.code r.functions;
    saving = r.saving around;
  }

pub starts_end : StartsEnd
starts_end coding types p core messages own known f g r = begun coding types p core messages own known f g r
