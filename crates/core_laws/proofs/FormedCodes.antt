-- Split programs of formed programs are formed: all but what their groups pay.
use Rattle.std.proofs.Common.{◌≡◌, ℕ, zero, suc, ◌+◌, ◌≤◌, refl, sym, ap, ◌∙◌, subst, List, [], ◌∷◌, length, map, Bool, true, false, arith as arithmetic}
use Rattle.std.specs.Prelude.{AllPairs, Contains, codes, ◌≢◌}
use Rattle.std.specs.List.{AllByRecursion}
use mathlib.Core.Path.{fun_ext}
use Rattle.mo_types.specs.Values.{is_method_name}
use Rattle.mo_values.specs.Shapes.{Bytes}
use Rattle.core_ir.specs.Programs.{Group, Method, Program}
use Rattle.core_ir.specs.Expressions as core
use Rattle.core_ir.specs.Expressions.{Core}
use Rattle.core_ir.specs.FormedCode as code_form
use Rattle.core_ir.specs.FormedExpressions.{points}
use Rattle.core_ir.specs.Code as code
use Rattle.core_ir.specs.Code.{CodeProgram}
use Rattle.core_ir.specs.Formed.{size_at, sees_at, global_count, counted, counted_groups, NamedMethods, FormedCoreBody, FormedCoreGroups, FormedCore, FormedCodeBody, FormedCodeGroups, FormedCode}
use Rattle.core_laws.specs.Split.{split_body, split_group, split_method, split_program}
use Rattle.core_laws.proofs.FormedBodies.{body_formed, total_points}

pub length_map : {A B : Type 0} (f : A → B) (xs : List A) → length (map f xs) ≡ length xs
length_map f [] = refl
length_map f (x ∷ xs) = ap suc (length_map f xs)

-- ---- methods whose bodies alone change

module _ {B C : Type 0} (f : Method B → Method C) (name : (m : Method B) → (f m).name ≡ m.name) where
  names_same : (ms : List (Method B)) → map (λ (m : Method C). m.name) (map f ms) ≡ map (λ (m : Method B). m.name) ms
  names_same [] = refl
  names_same (m ∷ ms) = cc (name m, names_same ms)

  named_all : (ms : List (Method B)) → AllByRecursion (λ (m : Method B). is_method_name m.name ≡ true) ms → AllByRecursion (λ (m : Method C). is_method_name m.name ≡ true) (map f ms)
  named_all [] h = tt
  named_all (m ∷ ms) h = (ap is_method_name (name m) ∙ h.0, named_all ms (h.1))

  pub named_same : (p : Program B) (q : Program C) → q.methods ≡ map f p.methods → NamedMethods p → NamedMethods q
  named_same p q e h =
      let names : map (λ (m : Method C). m.name) q.methods ≡ map (λ (m : Method B). m.name) p.methods = ap (map (λ (m : Method C). m.name)) e ∙ names_same p.methods in
      record {
        different = subst (λ (ns : List Bytes). AllPairs (λ m n. m ≢ n) ns) (sym names) h.different;
        names = subst (λ (ms : List (Method C)). AllByRecursion (λ (m : Method C). is_method_name m.name ≡ true) ms) (sym e) (named_all p.methods h.names);
        resume = subst (λ (ns : List Bytes). Contains ns (codes "__resume")) (sym names) h.resume;
      }

-- ---- groups

sizes_same : (sizes : ℕ → ℕ) (gs : List (Group core.Body)) (k : ℕ) → size_at (map (split_group sizes) gs) k ≡ size_at gs k
sizes_same sizes [] k = refl
sizes_same sizes (g ∷ gs) zero = length_map (split_body sizes (length g.bodies) g.sees) g.bodies
sizes_same sizes (g ∷ gs) (suc k) = sizes_same sizes gs k

sees_same : (sizes : ℕ → ℕ) (gs : List (Group core.Body)) (k : ℕ) → sees_at (map (split_group sizes) gs) k ≡ sees_at gs k
sees_same sizes [] k = refl
sees_same sizes (g ∷ gs) zero = refl
sees_same sizes (g ∷ gs) (suc k) = sees_same sizes gs k

module _ (own : ℕ) (p : Core) where
  abbrev S : ℕ → ℕ
  S = size_at p.groups

  abbrev q : CodeProgram
  q = split_program p

  globals_same : global_count q own ≡ global_count p own
  globals_same = ap (λ n. suc (n + own)) (length_map (split_method S) p.methods)

  one_formed : (bound : ℕ) (shared : Bool) (size seen : ℕ) (b : core.Body) → FormedCoreBody own p bound shared size seen b → FormedCodeBody own q bound shared size seen (split_body S size seen b)
  one_formed bound shared size seen b h =
      subst (λ (x : ℕ → ℕ). code_form.FormedBody x (sees_at q.groups) (global_count q own) bound shared size seen (split_body S size seen b)) (sym (fun_ext (sizes_same S p.groups)))
      (subst (λ (x : ℕ → ℕ). code_form.FormedBody S x (global_count q own) bound shared size seen (split_body S size seen b)) (sym (fun_ext (sees_same S p.groups)))
      (subst (λ (x : ℕ). code_form.FormedBody S (sees_at p.groups) x bound shared size seen (split_body S size seen b)) (sym globals_same)
      (body_formed S (sees_at p.groups) (global_count p own) bound shared size seen b h)))

  bodies_formed : (bound size seen : ℕ) (bs : List core.Body) → AllByRecursion (λ b. FormedCoreBody own p bound false size seen b) bs → AllByRecursion (λ b. FormedCodeBody own q bound false size seen b) (map (split_body S size seen) bs)
  bodies_formed bound size seen [] h = tt
  bodies_formed bound size seen (b ∷ bs) h = (one_formed bound false size seen b (h.0), bodies_formed bound size seen bs (h.1))

  groups_formed : (n : ℕ) (gs : List (Group core.Body)) → FormedCoreGroups own p n gs → FormedCodeGroups own q n (map (split_group S) gs)
  groups_formed n [] h = tt
  groups_formed n (g ∷ gs) h =
      let made : List code.Body = map (split_body S (length g.bodies) g.sees) g.bodies in (
        subst (λ m. AllByRecursion (λ b. FormedCodeBody own q n false m g.sees b) made) (sym (length_map (split_body S (length g.bodies) g.sees) g.bodies)) (bodies_formed n (length g.bodies) g.sees g.bodies (h.0)),
        groups_formed (suc n) gs (h.1),
      )

  methods_formed : (n : ℕ) (ms : List (Method core.Body)) → AllByRecursion (λ (m : Method core.Body). FormedCoreBody own p n true 0 0 m.body) ms → AllByRecursion (λ (m : Method code.Body). FormedCodeBody own q n true 0 0 m.body) (map (split_method S) ms)
  methods_formed n [] h = tt
  methods_formed n (m ∷ ms) h = (one_formed n true 0 0 m.body (h.0), methods_formed n ms (h.1))

  -- segments and functions

  abbrev segments : code.Body → ℕ
  segments b = length b.segments

  abbrev counts : core.Body → ℕ
  counts b = 1 + points b.expression

  one_counts : (bound : ℕ) (shared : Bool) (size seen : ℕ) (b : core.Body) → FormedCoreBody own p bound shared size seen b → segments (split_body S size seen b) ≤ counts b
  one_counts bound shared size seen b h = let a = total_points S (sees_at p.groups) (global_count p own) bound shared size seen b h in omega (arithmetic, a)

  bodies_count : (bound size seen : ℕ) (bs : List core.Body) → AllByRecursion (λ b. FormedCoreBody own p bound false size seen b) bs → counted segments (map (split_body S size seen) bs) ≤ counted counts bs
  bodies_count bound size seen [] h = omega arithmetic
  bodies_count bound size seen (b ∷ bs) h = let a = one_counts bound false size seen b (h.0) in let c = bodies_count bound size seen bs (h.1) in omega (arithmetic, a, c)

  groups_count : (n : ℕ) (gs : List (Group core.Body)) → FormedCoreGroups own p n gs → counted_groups segments (map (split_group S) gs) ≤ counted_groups counts gs
  groups_count n [] h = omega arithmetic
  groups_count n (g ∷ gs) h = let a = bodies_count n (length g.bodies) g.sees g.bodies (h.0) in let c = groups_count (suc n) gs (h.1) in omega (arithmetic, a, c)

  methods_count : (n : ℕ) (ms : List (Method core.Body)) → AllByRecursion (λ (m : Method core.Body). FormedCoreBody own p n true 0 0 m.body) ms
      → counted segments (map (λ (m : Method code.Body). m.body) (map (split_method S) ms)) ≤ counted counts (map (λ (m : Method core.Body). m.body) ms)
  methods_count n [] h = omega arithmetic
  methods_count n (m ∷ ms) h = let a = one_counts n true 0 0 m.body (h.0) in let c = methods_count n ms (h.1) in omega (arithmetic, a, c)

  pub split_formed : FormedCore own p → FormedCode own q
  split_formed h =
      let many : length q.groups ≡ length p.groups = length_map (split_group S) p.groups in
      record {
        groups = groups_formed 0 p.groups h.groups;
        methods = subst (λ n. AllByRecursion (λ (m : Method code.Body). FormedCodeBody own q n true 0 0 m.body) q.methods) (sym many) (methods_formed (length p.groups) p.methods h.methods);
        save = subst (λ n. FormedCodeBody own q n false 0 0 q.save) (sym many) (one_formed (length p.groups) false 0 0 p.save h.save);
        start = subst (λ n. FormedCodeBody own q n false 0 0 q.start) (sym many) (one_formed (length p.groups) false 0 0 p.start h.start);
        named = named_same (split_method S) (λ m. refl) p q refl h.named;
        few =
            let a = groups_count 0 p.groups h.groups in
            let b = methods_count (length p.groups) p.methods h.methods in
            let c = one_counts (length p.groups) false 0 0 p.save h.save in
            let d = one_counts (length p.groups) false 0 0 p.start h.start in
            let f = h.few in
            omega (arithmetic, a, b, c, d, f);
      }
