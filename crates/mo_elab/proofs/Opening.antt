-- Declarations of an actor, one after another.
use Rattle.std.proofs.Common.{◌≡◌, ◌∙◌, ℕ, zero, suc, ◌+◌, ◌<◌, ◌≤◌, List, [], ◌∷◌, ◌++◌, drop, get_or, length, map, refl, sym, ap, ap₂, subst, append_assoc, length-append, arith}
use Rattle.std.proofs.lemmas.List.{at_drop_all, at_drop_more, map-append}
use Rattle.core_ir.specs.Expressions as core
use Rattle.core_ir.specs.Expressions.{Body}
use Rattle.core_ir.specs.Programs.{Group}
use Rattle.typed_tree.specs.declared.expression.Step.{Step, fold_out-Step}
use Rattle.typed_tree.specs.declared.expression.Form.TheOpen as F
use Rattle.typed_tree.specs.Language.{Exp, Functions, Switch}
use Rattle.typed_tree.specs.Language as source
use Rattle.typed_tree.specs.Substitution.{count}
use Rattle.typed_tree.specs.View.{CaseView, FunctionView, StepView, block, case_step, declaration, expression_step, form_step, function_step, step_step}
use Rattle.elaboration.specs.Checks.{fails, locals}
use Rattle.elaboration.specs.Elaboration.{BodiesElaborated, elaborate_functions, on_nearest}
use Rattle.elaboration.specs.Programs.{Actor, around_start, elaborate_actor, kept_places, own_from, start_scope}
use Rattle.elaboration.specs.Scopes.{Place, Local, Scope, places_from, under}
use Rattle.core_layers.specs.declared.layer.Layer.{Layer}
use Rattle.core_layers.specs.Layers.{layered}
use Rattle.core_members.specs.Seen.{seen_groups}
use Rattle.core_parts.specs.Making.{Begun, Declares, Groups, Grouped, Matched, Turn, around_turn, begun}
use Rattle.core_parts.proofs.Going.{and_others, next_number}
use Rattle.mo_elab.specs.Spine.{Opens}

-- what declarations stand around
abbrev pub IsSpine : Exp → Type 0
IsSpine (Switch e cs) = Unit {0}
IsSpine (source.Group fns b) = Unit {0}
IsSpine _ = ⊥

step_is_spine : (x : F.Step-F Exp StepView CaseView FunctionView Exp) (b : Exp) → IsSpine (step_step x b)
step_is_spine (F.Let p e) b = tt
step_is_spine (F.Var e) b = tt
step_is_spine (F.Stable x e) b = tt
step_is_spine (F.Functions fs) b = tt
step_is_spine (F.Evaluate e) b = tt

pub spine_block : (ss : List Step) (fns : Functions) (e : Exp) → IsSpine (block (map declaration ss) (source.Group fns e))
unfolding declaration
spine_block [] fns e = tt
spine_block (s ∷ ss) fns e =
    let b : Exp = block (map declaration ss) (source.Group fns e) in
    subst IsSpine (sym (ap (λ (f : StepView). f b) (fold_out-Step Exp StepView CaseView FunctionView Exp form_step step_step case_step function_step expression_step s))) (step_is_spine _ b)

module _ (methods kept : ℕ) where
  grouped_turn : (fns : Functions) (s : Scope) (n : ℕ) (b : Exp) → IsSpine b → elaborate_actor methods kept s n (source.Group fns b)
      ≡ (let f : BodiesElaborated = elaborate_functions (under (count fns) s) n fns in
      around_start methods kept (core.Functions (n + length f.groups)) (f.groups ++ record { sees = s.names; bodies = f.bodies } ∷ []) (elaborate_actor methods kept (under (count fns) s) (suc (n + length f.groups)) b))
  grouped_turn fns s n (Switch e cs) h = refl
  grouped_turn fns s n (source.Group gs b) h = refl
  grouped_turn fns s n (source.Val v) h = elim h [ ]
  grouped_turn fns s n (source.Name _) h = elim h [ ]
  grouped_turn fns s n (source.Do action es) h = elim h [ ]
  grouped_turn fns s n (source.If c a b) h = elim h [ ]
  grouped_turn fns s n (source.Frame nodes e) h = elim h [ ]
  grouped_turn fns s n (source.Label e) h = elim h [ ]
  grouped_turn fns s n (source.While c b) h = elim h [ ]
  grouped_turn fns s n (source.Repeat b c) h = elim h [ ]
  grouped_turn fns s n (source.For p e b) h = elim h [ ]
  grouped_turn fns s n (source.Try e p b) h = elim h [ ]
  grouped_turn fns s n (source.Update operation e f) h = elim h [ ]

  pub actor_turn : (t : Turn) (s : Scope) (n : ℕ) (b : Exp) → IsSpine b → elaborate_actor methods kept s n (around_turn t b)
      ≡ around_start methods kept (begun t s n).start (begun t s n).groups (elaborate_actor methods kept (begun t s n).scope (n + length (begun t s n).groups) b)
  actor_turn (Matched p e) s n b h = refl
  actor_turn (Grouped fns) s n b h =
      let u : Scope = under (count fns) s in
      let f : BodiesElaborated = elaborate_functions u n fns in
      let g : Group Body = record { sees = s.names; bodies = f.bodies } in
      let more : suc (n + length f.groups) ≡ n + length (f.groups ++ g ∷ []) = omega (arith, length-append f.groups (g ∷ [])) in
      grouped_turn fns s n b h ∙ ap (λ (m : ℕ). around_start methods kept (core.Functions (n + length f.groups)) (f.groups ++ g ∷ []) (elaborate_actor methods kept u m b)) more

  pub opens_more : (d : Exp → Exp) (s t : Scope) (whole : Actor) (now new : Groups) (outer layers : List Layer) (b : Exp) → IsSpine b
      → Opens whole (elaborate_actor methods kept s (length now) (d b)) now outer → Declares d s t now new outer layers → Opens whole (elaborate_actor methods kept t (length new) b) new layers
  opens_more d s t whole now new outer layers b h so one =
      let n : ℕ = length now in
      let x : Begun = begun one.turn s n in
      let r : Actor = elaborate_actor methods kept x.scope (n + length x.groups) b in
      let there : elaborate_actor methods kept s n (d b) ≡ around_start methods kept x.start x.groups r = ap (elaborate_actor methods kept s n) (one.is b) ∙ actor_turn one.turn s n b h in
      let Of : Actor → Type 0 = λ z. Opens whole z now outer in
      let then : Opens whole (around_start methods kept x.start x.groups r) now outer = subst Of there so in
      let at : elaborate_actor methods kept t (length new) b ≡ r = ap₂ (λ u m. elaborate_actor methods kept u m b) one.scope (next_number x.groups now new one.groups) in
      let To : Actor → Type 0 = λ z. Opens whole z new layers in
      subst To (sym at) (record { start = one.around r.start ∙ then.start; groups = and_others x.groups r.groups now new one.groups ∙ then.groups; methods = then.methods; save = then.save })

  pub opens_steps : (xs : List Step) (i : ℕ) (x : Step) (fns : Functions) (e : Exp) (s t : Scope) (whole : Actor) (now new : Groups) (outer layers : List Layer)
      → i < length xs → x ≡ get_or xs i x → Opens whole (elaborate_actor methods kept s (length now) (block (map declaration (drop i xs)) (source.Group fns e))) now outer
      → Declares (declaration x) s t now new outer layers → Opens whole (elaborate_actor methods kept t (length new) (block (map declaration (drop (i + 1) xs)) (source.Group fns e))) new layers
  opens_steps xs i x fns e s t whole now new outer layers below is so one =
      let tail : Exp = source.Group fns e in
      let A : List Step → Actor = λ ys. elaborate_actor methods kept s (length now) (block (map declaration ys) tail) in
      let Of : Actor → Type 0 = λ r. Opens whole r now outer in
      let At : Step → Type 0 = λ y. Opens whole (A (y ∷ drop (i + 1) xs)) now outer in
      opens_more (declaration x) s t whole now new outer layers (block (map declaration (drop (i + 1) xs)) tail) (spine_block (drop (i + 1) xs) fns e) (subst At (sym is) (subst Of (at_drop_more A xs i x below) so)) one

-- ---- the names of declarations

abbrev levels : ℕ → ℕ → List ℕ
levels n zero = []
levels n (suc k) = (k + n) ∷ levels n k

places_are : (n k : ℕ) → places_from n k ≡ locals (levels n k)
places_are n zero = refl
places_are n (suc k) = ap (λ ps. Local (k + n) ∷ ps) (places_are n k)

pub more_places : (bs cs : List ℕ) (others ps : List Place) → ps ≡ locals bs ++ others → locals cs ++ ps ≡ locals (cs ++ bs) ++ others
more_places bs cs others ps is =
    ap (λ qs. locals cs ++ qs) is ∙ (sym (append_assoc (locals cs) (locals bs) others) ∙ ap (λ qs. qs ++ others) (sym (map-append (λ l. Local l) cs bs)))

pub turn_places : (t : Turn) (s : Scope) (n : ℕ) (bs : List ℕ) (others : List Place) → s.places ≡ locals bs ++ others → (cs : List ℕ) × ((begun t s n).scope.places ≡ locals cs ++ others)
turn_places (Matched p e) s n bs others is = ((on_nearest p s).bound ++ bs, more_places bs (on_nearest p s).bound others s.places is)
turn_places (Grouped fns) s n bs others is = (levels s.names (count fns) ++ bs, ap (λ qs. qs ++ s.places) (places_are s.names (count fns)) ∙ more_places bs (levels s.names (count fns)) others s.places is)

pub declared_places : (d : Exp → Exp) (s t : Scope) (old new : Groups) (outer layers : List Layer) (bs : List ℕ) (others : List Place) → s.places ≡ locals bs ++ others → Declares d s t old new outer layers
    → (cs : List ℕ) × (t.places ≡ locals cs ++ others)
declared_places d s t old new outer layers bs others is one =
    let r = turn_places one.turn s (length old) bs others is in
    (r.0, ap (λ (u : Scope). u.places) one.scope ∙ r.1)

-- ---- before the first declaration

pub opens_first : (methods kept m k : ℕ) (s : Scope) (now : Groups) (layers : List Layer) (b c : Exp) → c ≡ b → m ≡ methods → k ≡ kept → s ≡ start_scope m k → now ≡ [] → layers ≡ []
    → Opens (elaborate_actor methods kept (start_scope methods kept) 0 b) (elaborate_actor methods kept s (length now) c) now layers
opens_first methods kept m k s now layers b c again same alike is none nothing =
    let there : s ≡ start_scope methods kept = is ∙ ap₂ start_scope same alike in
    let whole : Actor = elaborate_actor methods kept (start_scope methods kept) 0 b in
    let rest : Actor = elaborate_actor methods kept s (length now) c in
    let e : rest ≡ whole = ap (elaborate_actor methods kept s (length now)) again ∙ ap₂ (λ u n. elaborate_actor methods kept u n b) there (ap length none) in
    record {
      start = ap (λ ls. layered ls fails rest.start) nothing ∙ ap (λ (a : Actor). a.start) e;
      groups = ap (λ gs. seen_groups gs ++ rest.groups) none ∙ ap (λ (a : Actor). a.groups) e;
      methods = ap (λ (a : Actor). a.methods) e;
      save = ap (λ (a : Actor). a.save) e;
    }

pub first_places : (methods kept m k : ℕ) (s : Scope) → m ≡ methods → k ≡ kept → s ≡ start_scope m k → (bs : List ℕ) × (s.places ≡ locals bs ++ (own_from 0 (suc methods) ++ kept_places kept))
first_places methods kept m k s same alike is = ([], ap (λ (u : Scope). u.places) (is ∙ ap₂ start_scope same alike))

-- ---- behind the last one

pub opens_last : (methods kept : ℕ) (xs : List Step) (i : ℕ) (fns : Functions) (e : Exp) (s : Scope) (whole : Actor) (now : Groups) (layers : List Layer) → length xs ≤ i
    → Opens whole (elaborate_actor methods kept s (length now) (block (map declaration (drop i xs)) (source.Group fns e))) now layers → Opens whole (elaborate_actor methods kept s (length now) (source.Group fns e)) now layers
opens_last methods kept xs i fns e s whole now layers past so =
    let F : List Step → Actor = λ ys. elaborate_actor methods kept s (length now) (block (map declaration ys) (source.Group fns e)) in
    let Of : Actor → Type 0 = λ r. Opens whole r now layers in
    subst Of (at_drop_all F xs i past) so
