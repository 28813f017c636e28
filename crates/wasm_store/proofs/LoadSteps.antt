-- The steps of a loading, put together.
use Rattle.std.proofs.Common.{◌≡◌, ℕ, ◌+◌, ◌*◌, ◌≤◌, true, List, [], ◌++◌, map, Option, None, Err, nat_le, refl, sym, ap, ◌∙◌, subst, arith, replicate, cond}
use Rattle.std.specs.Prelude.{Result, IsOk, IsNone, OnSome, is_some, Some, ◌<◌, ◌/◌, length}
use Rattle.std.proofs.lemmas.Bool.{cases_lt}
use Rattle.std.proofs.Common.{⊎_elim}
use Rattle.wasm_store.specs.declared.store.LoadTrap.{LoadTrap}
use Rattle.std.proofs.lemmas.Bool.Decides.{nat_tests}
use Rattle.page_store.specs.Pages.{KeptMemory, live, page_count, zero_pages}
use Rattle.wasm_tree.specs.declared.module_parts.Module.{Module}
use Rattle.wasm_tree.specs.Load.{Load, Instance, AboveLimit, OutOfBounds, Loaded, first_size, constant, blank, with_segments, with_elements, filled}
use Rattle.wasm_store.specs.declared.store.LoadTrap.TheVariants.{Bounds}
use Rattle.wasm_store.specs.Loading.{Answers, load_within, nothing}

load_is : (limit : ℕ) (m : Module) (globals memory : List ℕ) (table : List (Option ℕ)) (l : Load) → first_size m.memories ≤ limit
    → globals ≡ map (λ g. constant g.init) m.globals → memory ≡ blank (65536 * first_size m.memories) 0 → table ≡ blank (first_size m.tables) None
    → filled globals (with_segments m.segments memory) (with_elements m.elements table) ≡ l → load_within limit m ≡ l
load_is limit m globals memory table l within g e t done =
    let inside : nat_le (first_size m.memories) limit ≡ true = grind (arith, nat_tests) in
    ap (λ b. cond b (filled (map (λ g. constant g.init) m.globals) (with_segments m.segments (blank (65536 * first_size m.memories) 0)) (with_elements m.elements (blank (first_size m.tables) None))) AboveLimit) inside
    ∙ sym (ap (λ (x : List ℕ). filled x (with_segments m.segments (blank (65536 * first_size m.memories) 0)) (with_elements m.elements (blank (first_size m.tables) None))) g)
    ∙ sym (ap (λ (x : List ℕ). filled globals (with_segments m.segments x) (with_elements m.elements (blank (first_size m.tables) None))) e)
    ∙ sym (ap (λ (x : List (Option ℕ)). filled globals (with_segments m.segments memory) (with_elements m.elements x)) t) ∙ done

-- pages of zeros behind no pages
zeros : (n : ℕ) (before now : List ℕ) → before ≡ [] → now ≡ before ++ zero_pages n → now ≡ blank (65536 * n) 0
unfolding zero_pages blank
zeros n before now none is = is ∙ ap (λ (l : List ℕ). l ++ replicate (n * 65536) 0) none ∙ (let same : n * 65536 ≡ 65536 * n = omega arith in ap (λ k. replicate k 0) same)

pub answers_bounds : {A : Type 0} (l : Load) (result : Result A LoadTrap) (left : Instance) → result ≡ Err Bounds → l ≡ OutOfBounds → left ≡ nothing → Answers l result left
answers_bounds l result left is e h = subst (λ (x : Load). Answers x result left) (sym e) (is, h)

pub answers_loaded : {A : Type 0} (l : Load) (result : Result A LoadTrap) (left : Instance) → IsOk result → l ≡ Loaded left → Answers l result left
answers_loaded l result left is e = subst (λ (x : Load). Answers x result left) (sym e) (is, refl)

-- where a memory without pages grew, its limit has room for the pages, and they are zeros
room_left : (result : Option ℕ) (limit n : ℕ) (before : List ℕ) → is_some result ≡ true → before ≡ [] → (limit < length before / 65536 + n → IsNone result) → n ≤ limit
room_left None limit n before some none refused = cc
room_left (Some x) limit n before some none refused = ⊎_elim (λ (h : limit < n). absurd (is_not (refused (rw none (omega arith))))) (λ (h : n ≤ limit). h) (cases_lt limit n)
  where
    is_not : IsNone {T = ℕ} (Some x) → ⊥
    is_not h = cc

grown : {P : Type 0} (result : Option ℕ) → is_some result ≡ true → OnSome result P → P
grown None some h = cc
grown (Some x) some h = h

-- What loading gives, from what its steps gave: the memory grew from no bytes, and was filled.
pub load_by : (m : Module) (before after : KeptMemory) (grew : Option ℕ) (pages entries limit : ℕ) (globals : List ℕ) (table : List (Option ℕ)) (l : Load)
    → before.bytes ≡ [] → before.limit ≡ limit → is_some grew ≡ true → (before.limit < page_count (live before) + pages → IsNone grew)
    → OnSome grew (after ≡ record before { bytes = before.bytes ++ zero_pages pages }) → pages ≡ first_size m.memories
    → globals ≡ map (λ g. constant g.init) m.globals → table ≡ blank entries None → entries ≡ first_size m.tables
    → filled globals (with_segments m.segments after.bytes) (with_elements m.elements table) ≡ l → load_within limit m ≡ l
load_by m before after grew pages entries limit globals table l none same some refused grows memories g t tables done =
    let within : pages ≤ before.limit = room_left grew before.limit pages before.bytes some none refused in
    let memory : after.bytes ≡ blank (65536 * first_size m.memories) 0 =
    zeros pages before.bytes after.bytes none (ap (λ (x : KeptMemory). x.bytes) (grown grew some grows)) ∙ ap (λ n. blank (65536 * n) 0) memories in
    load_is limit m globals after.bytes table l (omega arith) g memory (t ∙ ap (λ n. blank {A = Option ℕ} n None) tables) done
