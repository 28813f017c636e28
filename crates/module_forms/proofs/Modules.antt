-- The low module of a program is formed.
use Rattle.std.proofs.Common.{◌≡◌, ℕ, zero, suc, ◌+◌, ◌*◌, ◌-◌, ◌^◌, ◌<◌, ◌≤◌, List, [], ◌∷◌, ◌++◌, length, map, replicate, refl, ap, arith, length-append}
use Rattle.std.proofs.lemmas.List.{length-map, length-replicate}
use Rattle.std.specs.List.{AllByRecursion}
use Rattle.mo_values.specs.Shapes.{Bytes}
use Rattle.wasm_tree.specs.declared.types.ValueType.{ValueType}
use Rattle.wasm_tree.specs.declared.types.ValueType.TheVariants.{I64}
use Rattle.wasm_tree.specs.Exec.{bytes_of}
use Rattle.core_ir.specs.Programs.{Group, Method}
use Rattle.core_ir.specs.Code.{Body, CodeProgram}
use Rattle.low_ir.specs.declared.module_parts.LowExport.{LowExport}
use Rattle.low_ir.specs.Tree.{Function, Module}
use Rattle.low_ir.specs.Numbering.{host_count, host_signatures, all_signatures, upto}
use Rattle.low_ir.specs.Formed.{TypeIsFormed}
use Rattle.low_ir.proofs.Numbers.{host_signatures_counted}
use Rattle.memory_routines.specs.Heaps.{pages_for}
use Rattle.heap_layout.specs.Words.{words_for}
use Rattle.heap_layout.specs.Blocks.{text_words}
use Rattle.flat_emission.specs.Emission.{function_of}
use Rattle.low_emit.specs.Texts.{text_block, blocks, memory_of, words_from}
use Rattle.low_emit.specs.Modules.{Routine, calculations, calculating, all_bodies, most_arity, arity_type, plan, link, traps, routines, texts, first_body, functions_from, of_groups, alone, functions, heap_begin, module_with}
use Rattle.operation_forms.proofs.Forms.{word}
use Rattle.module_forms.specs.Laws.{ModulesAreFormed}
use Rattle.module_forms.proofs.Placed.{joined, mapped, all_formed}

-- ---- texts

eight : (n : ℕ) → length (bytes_of 8 n) ≡ 8
eight n = refl

whole : (n : ℕ) → n ≤ 8 * words_for n
whole n = omega arith

text_length : (t : Bytes) → length (text_block t) ≡ 8 * text_words t
text_length t =
    let a : length (text_block t) ≡ length (bytes_of 8 (length t)) + length (t ++ replicate (8 * words_for (length t) - length t) 0) = length-append (bytes_of 8 (length t)) (t ++ replicate (8 * words_for (length t) - length t) 0) in
    let b : length (t ++ replicate (8 * words_for (length t) - length t) 0) ≡ length t + length (replicate {A = ℕ} (8 * words_for (length t) - length t) 0) = length-append t (replicate (8 * words_for (length t) - length t) 0) in
    let c : length (replicate (8 * words_for (length t) - length t) 0) ≡ 8 * words_for (length t) - length t = length-replicate {A = ℕ} (8 * words_for (length t) - length t) 0 in
    let d = whole (length t) in
    let e = eight (length t) in
    omega (arith, a, b, c, d, e)

blocks_length : (i : ℕ) (ts : List Bytes) → 8 * i + length (blocks ts) ≡ 8 * words_from i ts
blocks_length i [] = omega arith
blocks_length i (t ∷ ts) =
    let a : length (blocks (t ∷ ts)) ≡ length (text_block t) + length (blocks ts) = length-append (text_block t) (blocks ts) in
    let b = text_length t in
    let c = blocks_length (i + text_words t) ts in
    omega (arith, a, b, c)

memory_length : (ts : List Bytes) → length (memory_of ts) ≡ 8 * words_from 1 ts
memory_length ts =
    let a : length (memory_of ts) ≡ length (replicate {A = ℕ} 8 0) + length (blocks ts) = length-append (replicate 8 0) (blocks ts) in
    let b = blocks_length 1 ts in
    omega (arith, a, b)

in_pages : (n : ℕ) → n ≤ 65536 * pages_for n
in_pages n = omega arith

-- ---- the module

all_upto : (P : ℕ → Type 0) (from n : ℕ) → ((k : ℕ) → k < from + n → P k) → AllByRecursion P (upto from n)
all_upto P from zero h = tt
all_upto P from (suc n) h = (h from (omega arith), all_upto P (suc from) n (λ k lt. h k (omega (arith, lt))))

module _ (p : CodeProgram) (more : List Routine) (own : ℕ) (entries : List Function) (exports : List LowExport) where
  abbrev m : Module
  m = module_with p more own entries exports

  pub groups_length : (gs : List (Group Body)) → length (of_groups p more own gs) ≡ all_bodies gs
  groups_length [] = refl
  groups_length (g ∷ gs) =
      let a : length (of_groups p more own (g ∷ gs)) ≡ length (map (function_of (plan p more own) (link p more own) (length g.bodies)) g.bodies) + length (of_groups p more own gs) = length-append (map (function_of (plan p more own) (link p more own) (length g.bodies)) g.bodies) (of_groups p more own gs) in
      let b : length (map (function_of (plan p more own) (link p more own) (length g.bodies)) g.bodies) ≡ length g.bodies = length-map g.bodies (function_of (plan p more own) (link p more own) (length g.bodies)) in
      let c = groups_length gs in
      omega (arith, a, b, c)

  pub from_length : (signature : ℕ) (rs : List Routine) → length (functions_from p more own signature rs) ≡ length rs
  from_length signature [] = refl
  from_length signature (r ∷ rs) = ap suc (from_length (suc signature) rs)

  -- all functions of groups have numbers
  bodies_inside : first_body p more own + all_bodies p.groups ≤ length (all_signatures m)
  bodies_inside =
      let others : List Function = map (λ (m : Method Body). alone p more own m.body) p.methods ++ alone p more own p.start ∷ [] in
      let a : length (all_signatures m) ≡ length host_signatures + length (map (λ (f : Function). f.signature) m.functions) = length-append host_signatures (map (λ (f : Function). f.signature) m.functions) in
      let b : length (map (λ (f : Function). f.signature) m.functions) ≡ length m.functions = length-map m.functions (λ f. f.signature) in
      let c : length m.functions ≡ length (functions p more own) + length entries = length-append (functions p more own) entries in
      let d : length (functions p more own) ≡ length (functions_from p more own (suc host_count) (routines p more own)) + length (of_groups p more own p.groups ++ others) = length-append (functions_from p more own (suc host_count) (routines p more own)) (of_groups p more own p.groups ++ others) in
      let e : length (of_groups p more own p.groups ++ others) ≡ length (of_groups p more own p.groups) + length others = length-append (of_groups p more own p.groups) others in
      let f = from_length (suc host_count) (routines p more own) in
      let g = groups_length p.groups in
      let h = host_signatures_counted in
      omega (arith, a, b, c, d, e, f, g, h)

  arity_formed : (n : ℕ) → suc n ≤ 50000 → TypeIsFormed (arity_type n)
  arity_formed n le = record { results = omega arith; params = let a : length (replicate n I64) ≡ n = length-replicate {A = ValueType} n I64 in omega (arith, a, le) }

  calculation_types : AllByRecursion (λ (r : Routine). TypeIsFormed r.type) (map (calculating (traps p more own)) calculations)
  calculation_types = mapped (λ (r : Routine). TypeIsFormed r.type) (calculating (traps p more own)) calculations (all calculations)
    where
      all : (cs : List _) → AllByRecursion (λ c. TypeIsFormed (calculating (traps p more own) c).type) cs
      all [] = tt
      all (c ∷ cs) = (record { results = omega arith; params = omega arith }, all cs)

  types_formed : suc (most_arity p) ≤ 50000 → AllByRecursion (λ (r : Routine). TypeIsFormed r.type) more → AllByRecursion TypeIsFormed m.types
  types_formed le others = (
    record { results = omega arith; params = omega arith },
    joined TypeIsFormed (map (λ (r : Routine). r.type) (routines p more own)) (map arity_type (upto 0 (suc (most_arity p))))
        (mapped TypeIsFormed (λ (r : Routine). r.type) (routines p more own)
        (record { results = omega arith; params = omega arith }, (record { results = omega arith; params = omega arith }, joined (λ (r : Routine). TypeIsFormed r.type) (map (calculating (traps p more own)) calculations) more calculation_types others)))
        (mapped TypeIsFormed arity_type (upto 0 (suc (most_arity p))) (all_upto (λ n. TypeIsFormed (arity_type n)) 0 (suc (most_arity p)) (λ n lt. arity_formed n (omega (arith, lt, le))))),
  )

pub modules_formed : ModulesAreFormed
modules_formed p more own entries exports spelled small others types entered exported names = record {
  types = types_formed p more own entries exports small.arity types;
  functions = all_formed p more own entries exports spelled others entered;
  table = all_upto (λ f. f < length (all_signatures (module_with p more own entries exports))) (first_body p more own) (all_bodies p.groups) (λ k lt. let le = bodies_inside p more own entries exports in omega (arith, lt, le));
  globals = (word (8 * heap_begin p more own) small.memory, tt);
  exports = exported;
  names = names;
  few_types = small.types;
  few_functions = small.functions;
  few_entries = small.entries;
  few_globals = omega arith;
  few_pages = few_pages (8 * heap_begin p more own) small.memory;
  fits = let a = memory_length (texts p more own) in let b = in_pages (8 * heap_begin p more own) in fitting (length (memory_of (texts p more own))) (8 * heap_begin p more own) (omega (arith, a)) b;
  short = small.short;
}
  where
    few_pages : (n : ℕ) → n < 2 ^ 31 → pages_for n ≤ 65536
    few_pages n lt = omega (arith, lt)

    fitting : (a b : ℕ) → a ≤ b → b ≤ 65536 * pages_for b → a ≤ 65536 * pages_for b
    fitting a b le h = omega (arith, le, h)
