-- The functions of a program in its module.
use Rattle.std.proofs.Common.{◌≡◌, ℕ, zero, suc, ◌+◌, ◌*◌, ◌-◌, ◌^◌, ◌<◌, ◌≤◌, max, List, [], ◌∷◌, ◌++◌, length, map, replicate, Bool, true, false, ◌&&◌, cond, nat_lt, nat_le, Option, Some, None, slice_get, refl, sym, ap, ◌∙◌, subst, arith}
use Rattle.std.proofs.lemmas.Bool.Decides.{nat_tests}
use Rattle.std.proofs.lemmas.List.{length-map, length-replicate}
use Rattle.std.proofs.Common.{length-append}
use Rattle.std.specs.List.{AllByRecursion}
use Rattle.wasm_tree.specs.declared.types.ValueType.{ValueType}
use Rattle.wasm_tree.specs.declared.types.ValueType.TheVariants.{I32, I64}
use Rattle.wasm_tree.specs.declared.types.FunctionType.{FunctionType}
use Rattle.wasm_tree.specs.Imports.{entry_type}
use Rattle.wasm_tree.specs.Rules.{or_no}
use Rattle.wasm_tree.specs.Exec.{same_type, same_kinds}
use Rattle.wasm_tree.proofs.Asked.{all_at}
use Rattle.core_ir.specs.Values.{Value}
use Rattle.core_ir.specs.Programs.{Group, Method}
use Rattle.core_ir.specs.Code.{Code, Body, CodeProgram, nodes_of}
use Rattle.core_ir.specs.CodeMachine.{first_of}
use Rattle.core_ir.specs.FormedCode.{most_of, most_operands, nesting, FormedSegments, FormedBody}
use Rattle.core_ir.specs.Formed.{FormedFlat, FormedCodeBody, FormedCodeGroups, size_at, sees_at, counted_groups, counted_program, global_count}
use Rattle.low_ir.specs.declared.module_parts.LowExport.{LowExport}
use Rattle.low_ir.specs.Tree.{Function, Module}
use Rattle.low_ir.specs.Numbering.{host_count, host_types, host_signatures, all_types, all_signatures, type_of, defined, upto}
use Rattle.low_ir.proofs.Numbers.{host_types_counted, host_signatures_counted}
use Rattle.heap_layout.specs.Heaps.{Plan}
use Rattle.flat_emission.specs.Emission.{Linkage, here_of, function_of}
use Rattle.flat_emission.specs.Laws.{Shallow}
use Rattle.flat_emission.proofs.Paid.{frames_paid}
use Rattle.operation_codes.proofs.Shallow.{shallow}
use Rattle.emitted_steps.specs.States.{Fits, words_for}
use Rattle.emitted_steps.specs.Modules.{FunctionAt, FunctionsAre}
use Rattle.low_emit.specs.Modules.{Routine, before, all_bodies, most_arity, arity_type, plan, link, links, routines, first_arity, first_body, functions_from, of_groups, alone, functions, number_of_function, number_of_method, heap_begin, module_with}
use Rattle.low_emit.specs.Emittable.{is_emittable, is_treated_body, is_one_segment, are_treated, are_treated_groups}
use Rattle.emitted_runs.specs.Bodies.{BodyAt}
use Rattle.emitted_modules.specs.Laws.{FunctionsStand, first_table}
use Rattle.emitted_modules.proofs.Lists.{first, second, get_front, get_behind, get_map, get_upto, length_upto}
use Rattle.emitted_modules.proofs.Fitting.{code_fits}
use Rattle.emitted_modules.proofs.Placed.{sizes_are, sees_are, paid_at, below_all, made_of, made_at, in_bodies, in_groups, groups_counted}

kinds_same : (ks : List ValueType) → same_kinds ks ks ≡ true
kinds_same [] = refl
kinds_same (I32 ∷ ks) = kinds_same ks
kinds_same (I64 ∷ ks) = kinds_same ks

type_same : (t : FunctionType) → same_type (Some t) (Some t) ≡ true
type_same t = ap (λ b. b && same_kinds t.results t.results) (kinds_same t.params) ∙ kinds_same t.results

module _ (p : CodeProgram) (more : List Routine) (own : ℕ) (formed : FormedFlat own p) (emits : is_emittable p more own ≡ true) (globals : List Value) (counted : length globals ≡ global_count p own)
    (entries : List Function) (exports : List LowExport) where
  abbrev m : Module
  m = module_with p more own entries exports

  abbrev plan_now : Plan
  plan_now = plan p more own

  abbrev link_now : Linkage
  link_now = link p more own

  abbrev F : ℕ → Body → Function
  F members b = function_of plan_now link_now members b

  length_routines : (signature : ℕ) (rs : List Routine) → length (functions_from p more own signature rs) ≡ length rs
  length_routines signature [] = refl
  length_routines signature (r ∷ rs) = ap suc (length_routines (suc signature) rs)

  made_same : (gs : List (Group Body)) → of_groups p more own gs ≡ made_of F gs
  made_same [] = refl
  made_same (g ∷ gs) = ap (λ fs. map (F (length g.bodies)) g.bodies ++ fs) (made_same gs)

  -- ---- what is known of a body by its place

  all_treated_at : (bs : List Body) (k : ℕ) (b : Body) → slice_get bs k ≡ Some b → are_treated plan_now link_now link_now.hidden bs ≡ true → is_treated_body plan_now link_now link_now.hidden b ≡ true
  all_treated_at [] k b e t = absurd (cc)
  all_treated_at (c ∷ bs) zero b e t = let same : c ≡ b = cc in subst (λ c. is_treated_body plan_now link_now link_now.hidden c ≡ true) same (first _ _ t)
  all_treated_at (c ∷ bs) (suc k) b e t = all_treated_at bs k b e (second _ _ t)

  treated_at : (gs : List (Group Body)) (code k : ℕ) (group : Group Body) (b : Body) → slice_get gs code ≡ Some group → slice_get group.bodies k ≡ Some b → are_treated_groups plan_now link_now link_now.hidden gs ≡ true
      → is_treated_body plan_now link_now link_now.hidden b ≡ true
  treated_at [] code k group b e q t = absurd (cc)
  treated_at (g ∷ gs) zero k group b e q t =
      let same : g ≡ group = cc in all_treated_at g.bodies k b (subst (λ h. slice_get h.bodies k ≡ Some b) (sym same) q) (first _ _ (second _ _ t))
  treated_at (g ∷ gs) (suc code) k group b e q t = treated_at gs code k group b e q (second _ _ (second _ _ t))

  Formed : ℕ → Group Body → Body → Type 0
  Formed bound group b = FormedCodeBody own p bound false (length group.bodies) group.sees b

  formed_at : (gs : List (Group Body)) (n code k : ℕ) (group : Group Body) (b : Body) → slice_get gs code ≡ Some group → slice_get group.bodies k ≡ Some b → FormedCodeGroups own p n gs
      → FormedCodeBody own p (n + code) false (length group.bodies) group.sees b
  formed_at [] n code k group b e q f = absurd (cc)
  formed_at (g ∷ gs) n zero k group b e q f =
      let same : g ≡ group = cc in
      let none : n ≡ n + 0 = omega arith in
      subst (λ n. FormedCodeBody own p n false (length group.bodies) group.sees b) none
      (all_at (λ b. FormedCodeBody own p n false (length group.bodies) group.sees b) group.bodies k b (subst (λ h. AllByRecursion (λ b. FormedCodeBody own p n false (length h.bodies) h.sees b) h.bodies) same f.0) q)
  formed_at (g ∷ gs) n (suc code) k group b e q f =
      let next : suc n + code ≡ n + suc code = omega arith in
      subst (λ n. FormedCodeBody own p n false (length group.bodies) group.sees b) next (formed_at gs (suc n) code k group b e q f.1)

  -- ---- the module

  signature_at : (j : ℕ) (f : Function) → slice_get m.functions j ≡ Some f → slice_get (all_signatures m) (host_count + j) ≡ Some f.signature
  signature_at j f e =
      ap (λ n. slice_get (all_signatures m) (n + j)) (sym host_signatures_counted)
      ∙ get_behind host_signatures (map (λ (f : Function). f.signature) m.functions) j ∙ get_map (λ (f : Function). f.signature) m.functions j f e

  arity_at : (n : ℕ) → n ≤ most_arity p → slice_get (all_types m) (first_arity p more own + n) ≡ Some (arity_type n)
  arity_at n le =
      let long : length (map (λ (r : Routine). r.type) (routines p more own)) ≡ length (routines p more own) = length-map (routines p more own) (λ r. r.type) in
      ap (slice_get (all_types m)) (omega (arith, host_types_counted, long))
      ∙ get_behind host_types m.types (suc (length (map (λ (r : Routine). r.type) (routines p more own)) + n))
      ∙ get_behind (map (λ (r : Routine). r.type) (routines p more own)) (map arity_type (upto 0 (suc (most_arity p)))) n
      ∙ get_map arity_type (upto 0 (suc (most_arity p))) n n (get_upto 0 (suc (most_arity p)) n (omega (arith, le)) ∙ ap Some (omega arith))

  function_at : (code k : ℕ) (group : Group Body) (b : Body) → slice_get p.groups code ≡ Some group → slice_get group.bodies k ≡ Some b
      → slice_get m.functions (length (routines p more own) + (before p.groups code + k)) ≡ Some (F (length group.bodies) b)
  function_at code k group b e q =
      let routines_now : List Function = functions_from p more own (suc host_count) (routines p more own) in
      let others : List Function = map (λ m. alone p more own m.body) p.methods ++ alone p more own p.start ∷ [] in
      let here : slice_get (of_groups p more own p.groups) (before p.groups code + k) ≡ Some (F (length group.bodies) b) =
      ap (λ fs. slice_get fs (before p.groups code + k)) (made_same p.groups) ∙ made_at F p.groups code k group b e q in
      get_front (functions p more own) entries (length (routines p more own) + (before p.groups code + k)) (F (length group.bodies) b)
      (ap (λ n. slice_get (functions p more own) (n + (before p.groups code + k))) (sym (length_routines (suc host_count) (routines p more own)))
      ∙ get_behind routines_now (of_groups p more own p.groups ++ others) (before p.groups code + k) ∙ get_front (of_groups p more own p.groups) others (before p.groups code + k) (F (length group.bodies) b) here)

  segments_fit : (shared : Bool) (b : Body) (bound size seen : ℕ) → FormedCodeBody own p bound shared size seen b → is_one_segment plan_now link_now link_now.hidden b.segments ≡ true
      → Fits plan_now link_now globals (sees_at p.groups) (here_of size b) seen (first_of b.segments)
  segments_fit shared b bound size seen f t = by_segments b.segments refl f.segments t
    where
      by_segments : (cs : List Code) → cs ≡ b.segments → FormedSegments (size_at p.groups) (sees_at p.groups) (global_count p own) bound shared b.slots (length b.segments) size seen cs → is_one_segment plan_now link_now link_now.hidden cs ≡ true
          → Fits plan_now link_now globals (sees_at p.groups) (here_of size b) seen (first_of cs)
      by_segments [] e g t = absurd (cc)
      by_segments (c ∷ []) e g t =
          let most : most_of most_operands (c ∷ []) ≡ most_of most_operands b.segments = ap (most_of most_operands) e in
          code_fits plan_now link_now globals (sees_at p.groups) (global_count p own) bound shared (length b.segments) b.slots size seen (most_of most_operands b.segments) counted c 0 g.0 t (omega (arith, most))
      by_segments (c ∷ d ∷ cs) e g t = absurd (cc)

  abbrev groups_treated : are_treated_groups plan_now link_now link_now.hidden p.groups ≡ true
  groups_treated = first _ _ emits

  abbrev methods_treated : Bool
  methods_treated = are_treated plan_now link_now link_now.hidden (map (λ (m : Method Body). m.body) p.methods)

  abbrev last_treated : Bool
  last_treated = is_treated_body plan_now link_now link_now.hidden p.start && nat_le (8 * heap_begin p more own) (2 ^ 31)

  begins_all : (code k : ℕ) (group : Group Body) (b : Body) → slice_get p.groups code ≡ Some group → slice_get group.bodies k ≡ Some b → 1 ≤ length b.segments
  begins_all code k group b e q = (formed_at p.groups 0 code k group b e q formed.code.groups).begins

  shallow_now : Shallow link_now 2
  shallow_now = record { high = λ q to free xs. (shallow (links p more own) q to free xs).0; deep = λ q to free xs. (shallow (links p more own) q to free xs).1 }

  defined_there : (j : ℕ) (f : Function) → slice_get m.functions j ≡ Some f → cond (nat_lt (host_count + j) host_count) None (slice_get m.functions (host_count + j - host_count)) ≡ Some f
  defined_there j f e =
      let not_host : nat_lt (host_count + j) host_count ≡ false = grind (arith, nat_tests) in
      let same : host_count + j - host_count ≡ j = omega arith in
      ap (λ t. cond t None (slice_get m.functions (host_count + j - host_count))) not_host ∙ ap (slice_get m.functions) same ∙ e

  stands : (code k : ℕ) (group : Group Body) (b : Body) → slice_get p.groups code ≡ Some group → slice_get group.bodies k ≡ Some b
      → FunctionAt plan_now link_now (first_table p more own) (sees_at p.groups) globals m code k b
  stands code k group b e q =
      let body = formed_at p.groups 0 code k group b e q formed.code.groups in
      let treated : is_treated_body plan_now link_now link_now.hidden b ≡ true = treated_at p.groups code k group b e q groups_treated in
      let size : size_at p.groups code ≡ length group.bodies = sizes_are p.groups code group e in
      let sees : sees_at p.groups code ≡ group.sees = sees_are p.groups code group e in
      let below : before p.groups code + k < all_bodies p.groups = below_all p.groups code k group b e q in
      let few_bodies : all_bodies p.groups ≤ counted_groups (λ (b : Body). length b.segments) p.groups = groups_counted p.groups begins_all in
      let few : counted_program (λ (b : Body). length b.segments) p ≤ 90000 = formed.code.few in
      let params : b.parameters ≤ most_arity p = let le = in_groups p.groups code k group b e q in omega (arith, le) in
      let there : slice_get m.functions (length (routines p more own) + (before p.groups code + k)) ≡ Some (F (length group.bodies) b) = function_at code k group b e q in
      let number_is : number_of_function p more own code k ≡ host_count + (length (routines p more own) + (before p.groups code + k)) = omega arith in
      let type_is : type_of m (number_of_function p more own code k) ≡ Some (arity_type b.parameters) =
      ap (λ n. or_no (slice_get (all_signatures m) n) (slice_get (all_types m))) number_is
      ∙ ap (λ s. or_no s (slice_get (all_types m))) (signature_at (length (routines p more own) + (before p.groups code + k)) (F (length group.bodies) b) there) ∙ arity_at b.parameters params in
      record {
        number = number_of_function p more own code k;
        type = arity_type b.parameters;
        entry_small = omega (arith, below, few_bodies, few);
        entry_is = get_map Some (upto (first_body p more own) (all_bodies p.groups)) (before p.groups code + k) (number_of_function p more own code k) (get_upto (first_body p more own) (all_bodies p.groups) (before p.groups code + k) below);
        same = (λ i. same_type (type_is i) (arity_at b.parameters params i)) ∙ type_same (arity_type b.parameters);
        typed = type_is;
        is_defined =
            ap (λ n. cond (nat_lt n host_count) None (slice_get m.functions (n - host_count))) number_is
            ∙ defined_there (length (routines p more own) + (before p.groups code + k)) (F (length group.bodies) b) there ∙ ap (λ n. Some (F n b)) (sym size);
        results = refl;
        frame =
            let paid = frames_paid plan_now link_now 2 shallow_now (plan_now.sizes code) b body.parameters (arity_type b.parameters) (ap suc (length-replicate {A = ValueType} b.parameters I64)) in
            let frame = body.frame in omega (arith, paid, frame);
        fits =
            subst (λ n. Fits plan_now link_now globals (sees_at p.groups) (here_of n b) (sees_at p.groups code) (first_of b.segments)) (sym size)
            (subst (λ n. Fits plan_now link_now globals (sees_at p.groups) (here_of (length group.bodies) b) n (first_of b.segments)) (sym sees)
            (segments_fit false b (0 + code) (length group.bodies) group.sees body (first _ _ treated)));
        parameters = body.parameters;
        few = grind (arith, nat_tests, second (is_one_segment plan_now link_now link_now.hidden b.segments) (nat_le b.parameters (8 + b.nodes)) treated);
      }

  -- ---- bodies that no group has

  alone_at : (i : ℕ) (b : Body) → slice_get (map (λ (m : Method Body). m.body) p.methods ++ p.start ∷ []) i ≡ Some b → slice_get m.functions (length (routines p more own) + (all_bodies p.groups + i)) ≡ Some (F 0 b)
  alone_at i b e =
      let routines_now : List Function = functions_from p more own (suc host_count) (routines p more own) in
      let groups_now : List Function = of_groups p more own p.groups in
      let others : List Function = map (λ m. alone p more own m.body) p.methods ++ alone p more own p.start ∷ [] in
      let here : slice_get others i ≡ Some (F 0 b) = ap (λ fs. slice_get fs i) (alone_all p.methods) ∙ get_map (F 0) (map (λ (m : Method Body). m.body) p.methods ++ p.start ∷ []) i b e in
      get_front (functions p more own) entries (length (routines p more own) + (all_bodies p.groups + i)) (F 0 b)
      (ap (λ n. slice_get (functions p more own) (n + (all_bodies p.groups + i))) (sym (length_routines (suc host_count) (routines p more own)))
      ∙ get_behind routines_now (groups_now ++ others) (all_bodies p.groups + i)
      ∙ ap (λ n. slice_get (groups_now ++ others) (n + i)) (sym (length_groups p.groups)) ∙ get_behind groups_now others i ∙ here)
    where
      alone_all : (ms : List (Method Body)) → map (λ m. alone p more own m.body) ms ++ alone p more own p.start ∷ [] ≡ map (F 0) (map (λ (m : Method Body). m.body) ms ++ p.start ∷ [])
      alone_all [] = refl
      alone_all (m ∷ ms) = ap (λ fs. alone p more own m.body ∷ fs) (alone_all ms)

      length_groups : (gs : List (Group Body)) → length (of_groups p more own gs) ≡ all_bodies gs
      length_groups [] = refl
      length_groups (g ∷ gs) =
          let long : length (map (function_of plan_now link_now (length g.bodies)) g.bodies) ≡ length g.bodies = length-map g.bodies (function_of plan_now link_now (length g.bodies)) in
          let rest : length (of_groups p more own gs) ≡ all_bodies gs = length_groups gs in
          length-append (map (function_of plan_now link_now (length g.bodies)) g.bodies) (of_groups p more own gs) ∙ (λ i. long i + rest i)

  body_stands : (shared : Bool) (bound i : ℕ) (b : Body) → slice_get (map (λ (m : Method Body). m.body) p.methods ++ p.start ∷ []) i ≡ Some b → FormedCodeBody own p bound shared 0 0 b → is_treated_body plan_now link_now link_now.hidden b ≡ true → b.parameters ≤ most_arity p
      → BodyAt plan_now link_now (first_table p more own) (sees_at p.groups) globals m 0 0 b
  body_stands shared bound i b e f treated params =
      let there : slice_get m.functions (length (routines p more own) + (all_bodies p.groups + i)) ≡ Some (F 0 b) = alone_at i b e in
      let number_is : number_of_method p more own i ≡ host_count + (length (routines p more own) + (all_bodies p.groups + i)) = omega arith in
      record {
        number = number_of_method p more own i;
        type = arity_type b.parameters;
        typed =
            ap (λ n. or_no (slice_get (all_signatures m) n) (slice_get (all_types m))) number_is
            ∙ ap (λ s. or_no s (slice_get (all_types m))) (signature_at (length (routines p more own) + (all_bodies p.groups + i)) (F 0 b) there) ∙ arity_at b.parameters params;
        is_defined =
            ap (λ n. cond (nat_lt n host_count) None (slice_get m.functions (n - host_count))) number_is ∙ defined_there (length (routines p more own) + (all_bodies p.groups + i)) (F 0 b) there;
        results = refl;
        frame =
            let paid = frames_paid plan_now link_now 2 shallow_now 0 b f.parameters (arity_type b.parameters) (ap suc (length-replicate {A = ValueType} b.parameters I64)) in
            let frame = f.frame in omega (arith, paid, frame);
        fits = segments_fit shared b bound 0 0 f (first (is_one_segment plan_now link_now link_now.hidden b.segments) (nat_le b.parameters (8 + b.nodes)) treated);
        parameters = f.parameters;
      }

  method_stands : (i : ℕ) (method : Method Body) → slice_get p.methods i ≡ Some method → BodyAt plan_now link_now (first_table p more own) (sees_at p.groups) globals m 0 0 method.body
  method_stands i method e =
      let bodies : List Body = map (λ (m : Method Body). m.body) p.methods in
      let here : slice_get bodies i ≡ Some method.body = get_map (λ (m : Method Body). m.body) p.methods i method e in
      let rest : _ = second (are_treated_groups plan_now link_now link_now.hidden p.groups) (methods_treated && last_treated) emits in
      body_stands true (length p.groups) i method.body (get_front bodies (p.start ∷ []) i method.body here)
      (all_at (λ (m : Method Body). FormedCodeBody own p (length p.groups) true 0 0 m.body) p.methods i method formed.code.methods e)
      (all_treated_at bodies i method.body here (first methods_treated last_treated rest))
      (let le = in_bodies bodies i method.body here in omega (arith, le))

  start_stands : BodyAt plan_now link_now (first_table p more own) (sees_at p.groups) globals m 0 0 p.start
  start_stands =
      let bodies : List Body = map (λ (m : Method Body). m.body) p.methods in
      let rest : (methods_treated && last_treated) ≡ true = second (are_treated_groups plan_now link_now link_now.hidden p.groups) (methods_treated && last_treated) emits in
      let long : length bodies ≡ length p.methods = length-map p.methods (λ (m : Method Body). m.body) in
      body_stands false (length p.groups) (length p.methods) p.start
      (ap (slice_get (bodies ++ p.start ∷ [])) (omega (arith, long)) ∙ get_behind bodies (p.start ∷ []) 0) formed.code.start
      (first (is_treated_body plan_now link_now link_now.hidden p.start) (nat_le (8 * heap_begin p more own) (2 ^ 31)) (second methods_treated last_treated rest)) (omega arith)

  short_at : (gs : List (Group Body)) (code : ℕ) (group : Group Body) → slice_get gs code ≡ Some group → are_treated_groups plan_now link_now link_now.hidden gs ≡ true → 8 * (2 * length group.bodies + group.sees) < 2 ^ 32
  short_at [] code group e t = absurd (cc)
  short_at (g ∷ gs) zero group e t = let same : g ≡ group = cc in subst (λ h. 8 * (2 * length h.bodies + h.sees) < 2 ^ 32) same (grind (arith, nat_tests, first (nat_lt (8 * (2 * length g.bodies + g.sees)) (2 ^ 32)) (are_treated plan_now link_now link_now.hidden g.bodies && are_treated_groups plan_now link_now link_now.hidden gs) t))
  short_at (g ∷ gs) (suc code) group e t = short_at gs code group e (second _ _ (second _ _ t))

  pub stand_all : FunctionsAre plan_now link_now (first_table p more own) (sees_at p.groups) globals m p
  stand_all = record {
    sizes = sizes_are p.groups;
    paid = λ code group e. let sees : sees_at p.groups code ≡ group.sees = sees_are p.groups code group e in let paid = paid_at p.groups code group e formed.paid in omega (arith, paid, sees);
    short = λ code group e. let sees : sees_at p.groups code ≡ group.sees = sees_are p.groups code group e in let short = short_at p.groups code group e groups_treated in omega (arith, short, sees);
    functions = stands;
  }

pub functions_stand : FunctionsStand
unfolding method_stands body_stands start_stands
functions_stand p more own formed emits globals counted entries exports = (
  stand_all p more own formed emits globals counted entries exports,
  record {
    methods = method_stands p more own formed emits globals counted entries exports;
    start = start_stands p more own formed emits globals counted entries exports;
    method_numbers = λ i method e. refl;
    start_number = refl;
  },
)
