-- What an actor ends with.
use Rattle.std.proofs.Common.{◌≡◌, ◌∙◌, ℕ, zero, suc, ◌+◌, ◌-◌, List, [], ◌∷◌, ◌++◌, Option, Some, None, length, map, refl, sym, ap, ap₂, subst, append_assoc, length-append, arith}
use Rattle.std.specs.Prelude.{replicate, take}
use Rattle.std.proofs.lemmas.List.{length-map}
use Rattle.core_ir.specs.Expressions as core
use Rattle.typed_tree.specs.declared.expression.Function.{Function}
use Rattle.typed_tree.specs.declared.program.Program.{Program}
use Rattle.mo_types.specs.declared.node.Sort.TheVariants as sort
use Rattle.typed_tree.specs.Language as source
use Rattle.typed_tree.specs.Language.{Exp, Functions, NoFunction, AFunction}
use Rattle.typed_tree.specs.Substitution.{count}
use Rattle.typed_tree.specs.ProgramView.{functions_of, optional_function, optional_name, parts}
use Rattle.typed_tree.specs.View.{FunctionView, group}
use Rattle.elaboration.specs.Checks.{fails, locals}
use Rattle.elaboration.specs.Elaboration.{BodiesElaborated, elaborate_functions, if_true}
use Rattle.elaboration.specs.Members.{Elaborated, let_in}
use Rattle.elaboration.specs.Programs.{Actor, Hook, SaveElaborated, elaborate_actor, firsts, held_in, hook_at, hook_of, kept_places, numbered, outside, own_from, save_of, start_end, tuple, values_of}
use Rattle.elaboration.specs.Scopes.{Place, Local, Own, Nowhere, Scope, at_place, nothing, one}
use Rattle.core_ir.specs.declared.expression.CoreBody.{CoreBody}
use Rattle.core_ir.specs.declared.expression.Expression.{Expression}
use Rattle.core_ir.specs.View.{expression}
use Rattle.core_layers.specs.declared.layer.Layer.{Layer}
use Rattle.core_layers.specs.Layers.{layered}
use Rattle.core_parts.specs.Making.{BodiesMade, BodyMade, Groups, IsMade}
use Rattle.core_parts.proofs.Going.{and_others, next_number}
use Rattle.core_blocks.proofs.Writing.{count_is}
use Rattle.core_places.specs.Knowing.{known_places}
use Rattle.core_hooks.specs.Hooks.{cells_behind, optional_hook, saved}
use Rattle.mo_elab.specs.Spine.{IsActor, Opens}
use Rattle.core_methods.specs.Behind.{method_function}

-- ---- places

pub own_numbered : (i j k : ℕ) → numbered i (own_from j k) ≡ own_from j k
own_numbered i j zero = refl
own_numbered i j (suc k) = ap (λ ps. Own j ∷ ps) (own_numbered i (suc j) k)

-- the names of declarations get numbers in a row
pub declared_numbered : (i : ℕ) (bs : List ℕ) (k : ℕ) → numbered i (locals bs ++ own_from 0 k) ≡ own_from i (length bs) ++ own_from 0 k
declared_numbered i [] k = own_numbered i 0 k
declared_numbered i (b ∷ bs) k = ap (λ ps. Own i ∷ ps) (declared_numbered (suc i) bs k)

own_values : (names j k : ℕ) → values_of names (own_from j k) ≡ core.NoExp
own_values names j zero = refl
own_values names j (suc k) = own_values names (suc j) k

-- and have values, which the actor's own names have not
pub declared_values : (names : ℕ) (bs : List ℕ) (k : ℕ) → values_of names (locals bs ++ own_from 0 k) ≡ values_of names (locals bs)
declared_values names [] k = own_values names 0 k
declared_values names (b ∷ bs) k = ap (λ es. core.AnExp (at_place names (Local b)) es) (declared_values names bs k)

pub ends_same : (s : Scope) (n functions : ℕ) (bs : List ℕ) (k : ℕ) (h : Option Hook) → start_end s n functions (locals bs ++ own_from 0 k) h ≡ start_end s n functions (locals bs) h
ends_same s n functions bs k None = ap (λ (es : core.Exps). record { exp = tuple es; groups = [] }) (declared_values s.names bs k)
ends_same s n functions bs k (Some h) =
    let t : Scope = record s { places = replicate functions Nowhere ++ s.places; names = suc s.names } in
    let f : BodiesElaborated = elaborate_functions t n (AFunction sort.Local h.nodes h.parameters h.body NoFunction) in
    ap (λ (es : core.Exps). record {
      exp = core.Functions (n + length f.groups) (let_in (if_true (at_place (suc s.names) (Local 0)) (core.Do core.Call (one (core.Name 0))) nothing) (tuple es));
      groups = f.groups ++ record { sees = s.names; bodies = f.bodies } ∷ [];
    }) (declared_values (2 + s.names) bs k)

kept_length : (k : ℕ) → length (kept_places k) ≡ k
kept_length zero = refl
kept_length (suc k) = ap suc (kept_length k)

take_before : (xs ys : List Place) → take (length (xs ++ ys) - length ys) (xs ++ ys) ≡ xs
take_before [] ys = let e : length ys - length ys ≡ 0 = omega arith in ap (λ n. take n ys) e
take_before (x ∷ xs) ys =
    let e : length (x ∷ (xs ++ ys)) - length ys ≡ suc (length (xs ++ ys) - length ys) = omega (arith, length-append xs ys) in
    ap (λ n. take n (x ∷ (xs ++ ys))) e ∙ ap (λ l. x ∷ l) (take_before xs ys)

pub without_kept : (xs : List Place) (k : ℕ) → take (length (xs ++ kept_places k) - k) (xs ++ kept_places k) ≡ xs
without_kept xs k = ap (λ n. take (length (xs ++ kept_places k) - n) (xs ++ kept_places k)) (sym (kept_length k)) ∙ take_before xs (kept_places k)

-- ---- functions behind the declarations

pub firsts_of : (fs gs : List FunctionView) → firsts (length fs) (group (fs ++ gs)) ≡ group fs
firsts_of [] gs = refl
firsts_of (f ∷ fs) gs = ap (λ (r : Functions). AFunction f.how f.nodes f.parameters f.body r) (firsts_of fs gs)

pub hook_behind : (fs gs : List FunctionView) (n : ℕ) → n ≡ length fs → hook_at n (group (fs ++ gs)) ≡ hook_at 0 (group gs)
hook_behind [] gs n e = ap (λ i. hook_at i (group gs)) e
hook_behind (f ∷ fs) gs n e = ap (λ i. hook_at i (group (f ∷ (fs ++ gs)))) e ∙ hook_behind fs gs (length fs) refl

pub before_is : (p : Program) → hook_of (optional_name (length p.methods) p.before_upgrade) (group (functions_of p)) ≡ optional_hook p.before_upgrade
before_is p = by p.before_upgrade refl
  where
    by : (o : Option Function) → p.before_upgrade ≡ o → hook_of (optional_name (length p.methods) o) (group (functions_of p)) ≡ optional_hook o
    by None e = refl
    by (Some f) e =
        hook_behind (map method_function p.methods) (optional_function p.before_upgrade ++ optional_function p.after_upgrade) (length p.methods) (sym (length-map p.methods method_function))
        ∙ ap (λ (o : Option Function). hook_at 0 (group (optional_function o ++ optional_function p.after_upgrade))) e

pub after_is : (p : Program) → hook_of (optional_name (length p.methods + length (optional_function p.before_upgrade)) p.after_upgrade) (group (functions_of p)) ≡ optional_hook p.after_upgrade
after_is p = by p.after_upgrade refl
  where
    by : (o : Option Function) → p.after_upgrade ≡ o → hook_of (optional_name (length p.methods + length (optional_function p.before_upgrade)) o) (group (functions_of p)) ≡ optional_hook o
    by None e = refl
    by (Some f) e =
        let fs : List FunctionView = map method_function p.methods in
        let bs : List FunctionView = optional_function p.before_upgrade in
        let ends : List FunctionView = optional_function p.after_upgrade in
        let at : length p.methods + length bs ≡ length (fs ++ bs) = ap (λ n. n + length bs) (sym (length-map p.methods method_function)) ∙ sym (length-append fs bs) in
        ap (λ gs. hook_at (length p.methods + length bs) (group gs)) (sym (append_assoc fs bs ends))
        ∙ (hook_behind (fs ++ bs) ends (length p.methods + length bs) at ∙ ap (λ (o : Option Function). hook_at 0 (group (optional_function o))) e)

-- ---- the end

pub functions_count : (p : Program) → length (functions_of p) ≡ length p.methods + (length (optional_function p.before_upgrade) + length (optional_function p.after_upgrade))
functions_count p =
    length-append (map method_function p.methods) (optional_function p.before_upgrade ++ optional_function p.after_upgrade)
    ∙ ap₂ (λ a b. a + b) (length-map p.methods method_function) (length-append (optional_function p.before_upgrade) (optional_function p.after_upgrade))

module _ (p : Program) (s : Scope) (n : ℕ) where
  abbrev from_parts : Elaborated → List Place → Functions → Option Hook → Actor
  from_parts e known fs before =
      let m : BodiesElaborated = elaborate_functions (outside known) (n + length e.groups) fs in
      let v : SaveElaborated = save_of (length p.stable) known (n + length e.groups + length m.groups) before (held_in known (cells_behind (length (functions_of p)) p.stable)) in
      record { start = e.exp; groups = e.groups ++ (m.groups ++ v.groups); methods = m.bodies; save = v.body }

  -- where the declarations have names at these levels
  abbrev pub ended : List ℕ → Actor
  ended bs =
      from_parts (start_end s n (length (functions_of p)) (locals bs) (optional_hook p.after_upgrade)) (known_places (length p.methods) (length p.stable) (length bs) (length (functions_of p)))
      (group (map method_function p.methods)) (optional_hook p.before_upgrade)

  pub ending_is : (bs : List ℕ) → s.places ≡ locals bs ++ (own_from 0 (suc (length p.methods)) ++ kept_places (length p.stable))
      → elaborate_actor (length p.methods) (length p.stable) s n (source.Group (group (functions_of p)) (parts p)) ≡ ended bs
  ending_is bs there =
      let methods : ℕ = length p.methods in
      let kept : ℕ = length p.stable in
      let own : List Place = own_from 0 (suc methods) in
      let fns : Functions = group (functions_of p) in
      let counted : count fns ≡ length (functions_of p) = count_is (functions_of p) in
      let S : List Place → List Place = λ ps. take (length ps - kept) ps in
      let names : S s.places ≡ locals bs ++ own = ap S (there ∙ sym (append_assoc (locals bs) own (kept_places kept))) ∙ without_kept (locals bs ++ own) kept in
      let N : ℕ → List Place → List Place = λ k ps. replicate k Nowhere ++ (numbered (suc (suc methods)) ps ++ replicate kept Nowhere) in
      let known : N (count fns) (S s.places) ≡ known_places methods kept (length bs) (length (functions_of p)) =
      ap₂ N counted names
      ∙ (ap (λ ps. replicate (length (functions_of p)) Nowhere ++ (ps ++ replicate kept Nowhere)) (declared_numbered (suc (suc methods)) bs (suc methods))
      ∙ ap (λ ps. replicate (length (functions_of p)) Nowhere ++ ps) (append_assoc (own_from (suc (suc methods)) (length bs)) own (replicate kept Nowhere))) in
      let after : Exp = optional_name (length p.methods + length (optional_function p.before_upgrade)) p.after_upgrade in
      let before : Exp = optional_name (length p.methods) p.before_upgrade in
      let E : ℕ → List Place → Option Hook → Elaborated = λ k ps h. start_end s n k ps h in
      let e : E (count fns) (S s.places) (hook_of after fns) ≡ E (length (functions_of p)) (locals bs) (optional_hook p.after_upgrade) =
      ap₂ (λ k ps. E k ps (hook_of after fns)) counted names
      ∙ (ap (λ h. E (length (functions_of p)) (locals bs ++ own) h) (after_is p) ∙ ends_same s n (length (functions_of p)) bs (suc methods) (optional_hook p.after_upgrade)) in
      let firsts_are : firsts methods fns ≡ group (map method_function p.methods) =
      ap (λ k. firsts k fns) (sym (length-map p.methods method_function)) ∙ firsts_of (map method_function p.methods) (optional_function p.before_upgrade ++ optional_function p.after_upgrade) in
      ap₂ (λ x ks. from_parts x ks (firsts methods fns) (hook_of before fns)) e known
      ∙ ap₂ (λ fs h. from_parts (E (length (functions_of p)) (locals bs) (optional_hook p.after_upgrade)) (known_places methods kept (length bs) (length (functions_of p))) fs h) firsts_are (before_is p)

  pub ended_made : (bs : List ℕ) (whole : Actor) (now a b new : Groups) (layers : List Layer) (e start : Expression) (ms : List CoreBody) (v : CoreBody) → n ≡ length now
      → Opens whole (ended bs) now layers → expression start ≡ layered layers fails (expression e)
      → IsMade (start_end s n (length (functions_of p)) (locals bs) (optional_hook p.after_upgrade)) now a e
      → BodiesMade (elaborate_functions (outside (known_places (length p.methods) (length p.stable) (length bs) (length (functions_of p)))) (length a) (group (map method_function p.methods))) a b ms
      → BodyMade (saved (save_of (length p.stable) (known_places (length p.methods) (length p.stable) (length bs) (length (functions_of p))) (length b) (optional_hook p.before_upgrade)
      (held_in (known_places (length p.methods) (length p.stable) (length bs) (length (functions_of p))) (cells_behind (length (functions_of p)) p.stable)))) b new v
      → IsActor whole start new ms v
  ended_made bs whole now a b new layers e start ms v number opens is one many last =
      let F : ℕ = length (functions_of p) in
      let known : List Place = known_places (length p.methods) (length p.stable) (length bs) F in
      let x : Elaborated = start_end s n F (locals bs) (optional_hook p.after_upgrade) in
      let fs : Functions = group (map method_function p.methods) in
      let first : length a ≡ n + length x.groups = next_number x.groups now a one.1 ∙ ap (λ k. k + length x.groups) (sym number) in
      let m : BodiesElaborated = elaborate_functions (outside known) (n + length x.groups) fs in
      let Many : ℕ → Type 0 = λ k. BodiesMade (elaborate_functions (outside known) k fs) a b ms in
      let then : BodiesMade m a b ms = subst Many first many in
      let second : length b ≡ n + length x.groups + length m.groups = next_number m.groups a b then.1 ∙ ap (λ k. k + length m.groups) first in
      let cells : core.Exps = held_in known (cells_behind F p.stable) in
      let u : SaveElaborated = save_of (length p.stable) known (n + length x.groups + length m.groups) (optional_hook p.before_upgrade) cells in
      let Last : ℕ → Type 0 = λ k. BodyMade (saved (save_of (length p.stable) known k (optional_hook p.before_upgrade) cells)) b new v in
      let end : BodyMade (saved u) b new v = subst Last second last in
      record {
        start = is ∙ (ap (λ y. layered layers fails y) one.0 ∙ opens.start);
        groups = end.1 ∙ (and_others m.groups u.groups a b then.1 ∙ (and_others x.groups (m.groups ++ u.groups) now a one.1 ∙ opens.groups));
        methods = then.0 ∙ opens.methods;
        save = end.0 ∙ opens.save;
      }

-- ---- from the parts of the code

own_length : (i k : ℕ) → length (own_from i k) ≡ k
own_length i zero = refl
own_length i (suc k) = ap suc (own_length (suc i) k)

declared_count : (ps : List Place) (bs : List ℕ) (methods kept m k declared : ℕ) → m ≡ methods → k ≡ kept → ps ≡ locals bs ++ (own_from 0 (suc methods) ++ kept_places kept) → length ps ≡ declared + (1 + m) + k
    → length bs ≡ declared
declared_count ps bs methods kept m k declared same alike is count =
    let own : length (own_from 0 (suc methods)) ≡ suc methods = own_length 0 (suc methods) in
    let old : length (kept_places kept) ≡ kept = kept_length kept in
    let both : length (own_from 0 (suc methods) ++ kept_places kept) ≡ length (own_from 0 (suc methods)) + length (kept_places kept) = length-append (own_from 0 (suc methods)) (kept_places kept) in
    let bound : length (locals bs) ≡ length bs = length-map bs (λ l. Local l) in
    let all : length ps ≡ length (locals bs) + length (own_from 0 (suc methods) ++ kept_places kept) = ap length is ∙ length-append (locals bs) (own_from 0 (suc methods) ++ kept_places kept) in
    omega arith

pub actor_made : (p : Program) (s inside after : Scope) (bs : List ℕ) (methods kept declared functions : ℕ) (whole : Actor) (now a b new : Groups) (layers : List Layer) (e start : Expression) (ms : List CoreBody) (v : CoreBody)
    → methods ≡ length p.methods → kept ≡ length p.stable → functions ≡ length (functions_of p) → length s.places ≡ declared + (1 + methods) + kept
    → s.places ≡ locals bs ++ (own_from 0 (suc (length p.methods)) ++ kept_places (length p.stable))
    → Opens whole (elaborate_actor (length p.methods) (length p.stable) s (length now) (source.Group (group (functions_of p)) (parts p))) now layers
    → (length bs ≡ declared → IsMade (start_end s (length now) functions (locals bs) (optional_hook p.after_upgrade)) now a e)
    → expression start ≡ layered layers fails (expression e)
    → inside ≡ outside (known_places methods kept declared functions) → after ≡ inside
    → BodiesMade (elaborate_functions inside (length a) (group (map method_function p.methods))) a b ms
    → ((ps : List Place) → after ≡ outside ps → BodyMade (saved (save_of (length p.stable) ps (length b) (optional_hook p.before_upgrade) (held_in ps (cells_behind functions p.stable)))) b new v)
    → IsActor whole start new ms v
actor_made p s inside after bs methods kept declared functions whole now a b new layers e start ms v same alike many count names opens one is known back bodies save =
    let declares : length bs ≡ declared = declared_count s.places bs (length p.methods) (length p.stable) methods kept declared same alike names count in
    let F : ℕ = length (functions_of p) in
    let K : List Place = known_places (length p.methods) (length p.stable) (length bs) F in
    let here : known_places methods kept declared functions ≡ K = ap₂ (λ m k. known_places m k declared functions) same alike ∙ ap₂ (λ d f. known_places (length p.methods) (length p.stable) d f) (sym declares) many in
    let there : inside ≡ outside K = known ∙ ap outside here in
    let Opened : Actor → Type 0 = λ r. Opens whole r now layers in
    let First : ℕ → Type 0 = λ f. IsMade (start_end s (length now) f (locals bs) (optional_hook p.after_upgrade)) now a e in
    let Second : Scope → Type 0 = λ u. BodiesMade (elaborate_functions u (length a) (group (map method_function p.methods))) a b ms in
    let Third : ℕ → Type 0 = λ f. BodyMade (saved (save_of (length p.stable) K (length b) (optional_hook p.before_upgrade) (held_in K (cells_behind f p.stable)))) b new v in
    ended_made p s (length now) bs whole now a b new layers e start ms v refl (subst Opened (ending_is p s (length now) bs names) opens) is (subst First many (one declares)) (subst Second there bodies)
    (subst Third many (save K (back ∙ there)))
