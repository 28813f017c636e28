-- The modules of formed programs that are small.
use Rattle.std.proofs.Common.{◌≡◌, ℕ, suc, ◌+◌, ◌*◌, ◌<◌, ◌≤◌, ◌^◌, List, [], ◌∷◌, ◌++◌, length, map, true, ◌&&◌, nat_le, nat_lt, refl, ap, arith, length-append, false}
use Rattle.std.proofs.lemmas.Bool.Decides.{nat_tests}
use Rattle.std.proofs.lemmas.List.{length-map}
use Rattle.std.specs.List.{AllByRecursion}
use Rattle.core_ir.specs.Programs.{Group, Method}
use Rattle.core_ir.specs.Code.{Code, Stop, Let, If, Match, Loop, Label, Branch, Leave, Pass, Make, Call, Tabulate, Send, Wait, Raise, Return, Body, CodeProgram}
use Rattle.core_ir.specs.Formed.{FormedFlat, FormedCodeBody, FormedCodeGroups, counted, counted_groups, counted_program}
use Rattle.core_ir.specs.FormedCode.{most_of, most_operands}
use Rattle.low_ir.specs.declared.module_parts.LowExport.{LowExport}
use Rattle.low_ir.specs.Tree.{Function, Module}
use Rattle.low_ir.specs.Numbering.{host_count, host_signatures, all_signatures, upto}
use Rattle.low_ir.specs.Formed.{most_bytes}
use Rattle.low_ir.proofs.Numbers.{host_signatures_counted}
use Rattle.low_emit.specs.Modules.{Routine, calculations, calculating, traps, routines, first_body, all_bodies, code_arity, segments_arity, body_arity, bodies_arity, groups_arity, most_arity, arity_type, functions_from, of_groups, alone, functions, heap_begin, module_with}
use Rattle.emitted_modules.proofs.Lists.{first, second, length_upto}
use Rattle.module_forms.specs.Tests.{is_small_body, are_small_bodies, are_small_groups, are_small_methods, is_small}
use Rattle.module_forms.specs.Laws.{IsSmall, ProgramsAreSmall}
use Rattle.module_forms.proofs.Modules.{groups_length, from_length}

less : (i n : ℕ) → nat_lt i n ≡ true → i < n
less i n e = grind (arith, nat_tests, e)

at_most : (i n : ℕ) → nat_le i n ≡ true → i ≤ n
at_most i n e = grind (arith, nat_tests, e)

-- ---- arguments are operands

code_below : (c : Code) → code_arity c ≤ most_operands c
code_below Stop = omega arith
code_below (Let t p xs c) = let h = code_below c in omega (arith, h)
code_below (If p xs y n c) = let h = code_below c in let i = code_below y in let j = code_below n in omega (arith, h, i, j)
code_below (Match t k x y n c) = let h = code_below c in let i = code_below y in let j = code_below n in omega (arith, h, i, j)
code_below (Loop b c) = let h = code_below c in let i = code_below b in omega (arith, h, i)
code_below (Label b c) = let h = code_below c in let i = code_below b in omega (arith, h, i)
code_below (Branch l) = omega arith
code_below (Leave j) = omega arith
code_below (Pass t x j) = omega arith
code_below (Make t xs k c) = let h = code_below c in omega (arith, h)
code_below (Call t f xs c) = let h = code_below c in omega (arith, h)
code_below (Tabulate t n f c) = omega arith
code_below (Send t s f xs h c) = omega arith
code_below (Wait t x h j) = omega arith
code_below (Raise x h) = omega arith
code_below (Return x) = omega arith

segments_below : (cs : List Code) → segments_arity cs ≤ most_of most_operands cs
segments_below [] = omega arith
segments_below (c ∷ cs) = let h = code_below c in let i = segments_below cs in omega (arith, h, i)

body_below : (b : Body) → b.parameters ≤ b.slots → is_small_body b ≡ true → body_arity b ≤ 49000
body_below b le s =
    let few = at_most (b.slots + most_of most_operands b.segments) 49000 (first _ _ s) in
    let h = segments_below b.segments in
    omega (arith, le, few, h)

-- ---- what is counted

module _ (p : CodeProgram) (own : ℕ) where
  abbrev F : ℕ → ℕ → ℕ → Body → Type 0
  F bound size seen b = FormedCodeBody own p bound false size seen b

  bodies_below : (bound size seen : ℕ) (bs : List Body) → AllByRecursion (F bound size seen) bs → are_small_bodies bs ≡ true → bodies_arity bs ≤ 49000
  bodies_below bound size seen [] f s = omega arith
  bodies_below bound size seen (b ∷ bs) f s =
      let h = body_below b f.0.parameters (first _ _ s) in
      let i = bodies_below bound size seen bs f.1 (second _ _ s) in
      omega (arith, h, i)

  groups_below : (n : ℕ) (gs : List (Group Body)) → FormedCodeGroups own p n gs → are_small_groups gs ≡ true → groups_arity gs ≤ 49000
  groups_below n [] f s = omega arith
  groups_below n (g ∷ gs) f s =
      let u : (are_small_bodies g.bodies && are_small_groups gs) ≡ true = second (nat_lt (8 * (2 * length g.bodies + g.sees)) (2 ^ 31)) _ s in
      let h = bodies_below n (length g.bodies) g.sees g.bodies f.0 (first _ _ u) in
      let i = groups_below (suc n) gs f.1 (second _ _ u) in
      omega (arith, h, i)

  methods_below : (bound : ℕ) (ms : List (Method Body)) → AllByRecursion (λ m. FormedCodeBody own p bound true 0 0 m.body) ms → are_small_methods ms ≡ true → bodies_arity (map (λ m. m.body) ms) ≤ 49000
  methods_below bound [] f s = omega arith
  methods_below bound (m ∷ ms) f s =
      let h = body_below m.body f.0.parameters (first _ _ s) in
      let i = methods_below bound ms f.1 (second _ _ s) in
      omega (arith, h, i)

  bodies_counted : (bound size seen : ℕ) (bs : List Body) → AllByRecursion (F bound size seen) bs → length bs ≤ counted (λ (b : Body). length b.segments) bs
  bodies_counted bound size seen [] f = omega arith
  bodies_counted bound size seen (b ∷ bs) f = let some = f.0.begins in let h = bodies_counted bound size seen bs f.1 in omega (arith, some, h)

  groups_counted : (n : ℕ) (gs : List (Group Body)) → FormedCodeGroups own p n gs → all_bodies gs ≤ counted_groups (λ (b : Body). length b.segments) gs
  groups_counted n [] f = omega arith
  groups_counted n (g ∷ gs) f = let h = bodies_counted n (length g.bodies) g.sees g.bodies f.0 in let i = groups_counted (suc n) gs f.1 in omega (arith, h, i)

  methods_counted : (bound : ℕ) (ms : List (Method Body)) → AllByRecursion (λ m. FormedCodeBody own p bound true 0 0 m.body) ms → length ms ≤ counted (λ (b : Body). length b.segments) (map (λ m. m.body) ms)
  methods_counted bound [] f = omega arith
  methods_counted bound (m ∷ ms) f = let some = f.0.begins in let h = methods_counted bound ms f.1 in omega (arith, some, h)

module _ (p : CodeProgram) (more : List Routine) (own : ℕ) (entries : List Function) (exports : List LowExport) (formed : FormedFlat own p) (small : is_small p more own ≡ true) (few : length more + length entries ≤ 900) where
  abbrev m : Module
  m = module_with p more own entries exports

  abbrev sizes_small : (nat_le (all_bodies p.groups) 100000 && (are_small_groups p.groups && (are_small_methods p.methods && is_small_body p.start))) ≡ true
  sizes_small = second (nat_lt (8 * heap_begin p more own) (2 ^ 31)) _ small

  abbrev bodies_small : (are_small_groups p.groups && (are_small_methods p.methods && is_small_body p.start)) ≡ true
  bodies_small = second (nat_le (all_bodies p.groups) 100000) _ sizes_small

  abbrev methods_small : (are_small_methods p.methods && is_small_body p.start) ≡ true
  methods_small = second (are_small_groups p.groups) _ bodies_small

  few_parameters : most_arity p ≤ 49000
  few_parameters =
      let a = groups_below p own 0 p.groups formed.code.groups (first _ _ bodies_small) in
      let b = methods_below p own (length p.groups) p.methods formed.code.methods (first _ _ methods_small) in
      let c = body_below p.start formed.code.start.parameters (second _ _ methods_small) in
      omega (arith, a, b, c)

  few_functions : all_bodies p.groups + length p.methods ≤ 90000
  few_functions =
      let a = groups_counted p own 0 p.groups formed.code.groups in
      let b = methods_counted p own (length p.groups) p.methods formed.code.methods in
      let c : counted_program (λ (b : Body). length b.segments) p ≤ 90000 = formed.code.few in
      omega (arith, a, b, c)

  routines_counted : length (routines p more own) ≡ 23 + length more
  routines_counted =
      let a : length (map (calculating (traps p more own)) calculations ++ more) ≡ length (map (calculating (traps p more own)) calculations) + length more = length-append (map (calculating (traps p more own)) calculations) more in
      let b : length (map (calculating (traps p more own)) calculations) ≡ 21 = refl in
      omega (arith, a, b)

  types_counted : length m.types ≤ 100000
  types_counted =
      let a : length m.types ≡ suc (length (map (λ (r : Routine). r.type) (routines p more own)) + length (map arity_type (upto 0 (suc (most_arity p))))) = ap suc (length-append (map (λ (r : Routine). r.type) (routines p more own)) (map arity_type (upto 0 (suc (most_arity p))))) in
      let b : length (map (λ (r : Routine). r.type) (routines p more own)) ≡ length (routines p more own) = length-map (routines p more own) (λ r. r.type) in
      let c : length (map arity_type (upto 0 (suc (most_arity p)))) ≡ length (upto 0 (suc (most_arity p))) = length-map (upto 0 (suc (most_arity p))) arity_type in
      let d = length_upto 0 (suc (most_arity p)) in
      let e = routines_counted in
      let f = few_parameters in
      omega (arith, a, b, c, d, e, f, few)

  functions_counted : length (all_signatures m) ≤ 100000
  functions_counted =
      let others : List Function = map (λ (m : Method Body). alone p more own m.body) p.methods ++ alone p more own p.start ∷ [] in
      let a : length (all_signatures m) ≡ length host_signatures + length (map (λ (f : Function). f.signature) m.functions) = length-append host_signatures (map (λ (f : Function). f.signature) m.functions) in
      let b : length (map (λ (f : Function). f.signature) m.functions) ≡ length m.functions = length-map m.functions (λ f. f.signature) in
      let c : length m.functions ≡ length (functions p more own) + length entries = length-append (functions p more own) entries in
      let d : length (functions p more own) ≡ length (functions_from p more own (suc host_count) (routines p more own)) + length (of_groups p more own p.groups ++ others) = length-append (functions_from p more own (suc host_count) (routines p more own)) (of_groups p more own p.groups ++ others) in
      let e : length (of_groups p more own p.groups ++ others) ≡ length (of_groups p more own p.groups) + length others = length-append (of_groups p more own p.groups) others in
      let f : length others ≡ length (map (λ (m : Method Body). alone p more own m.body) p.methods) + 1 = length-append (map (λ (m : Method Body). alone p more own m.body) p.methods) (alone p more own p.start ∷ []) in
      let g : length (map (λ (m : Method Body). alone p more own m.body) p.methods) ≡ length p.methods = length-map p.methods (λ m. alone p more own m.body) in
      let h = from_length p more own entries exports (suc host_count) (routines p more own) in
      let i = groups_length p more own entries exports p.groups in
      let j = host_signatures_counted in
      let k = routines_counted in
      let l = few_functions in
      omega (arith, a, b, c, d, e, f, g, h, i, j, k, l, few)

  pub module_small : most_bytes m ≤ 67108864 → IsSmall p more own m
  module_small short = record {
    memory = less (8 * heap_begin p more own) (2 ^ 31) (first _ _ small);
    arity = let le = few_parameters in omega (arith, le);
    types = types_counted;
    functions = functions_counted;
    entries = let a = length_upto (first_body p more own) (all_bodies p.groups) in let b = few_functions in omega (arith, a, b);
    short = short;
  }

pub programs_small : ProgramsAreSmall
programs_small p more own entries exports formed small few short = module_small p more own entries exports formed small few short
