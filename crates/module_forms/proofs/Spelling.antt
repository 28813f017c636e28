-- Formed programs that are treated and small are spelled.
use Rattle.std.proofs.Common.{◌≡◌, ℕ, zero, suc, ◌+◌, ◌*◌, ◌<◌, ◌≤◌, ◌^◌, List, [], ◌∷◌, length, map, Bool, true, false, ◌&&◌, cond, nat_le, nat_lt, pos, refl, ap, arith, FitsSigned}
use Rattle.std.specs.Int.{w64}
use Rattle.std.specs.List.{AllByRecursion}
use Rattle.std.specs.Str.{bytes_eq}
use Rattle.std.proofs.lemmas.Bool.Decides.{nat_tests}
use Rattle.mo_num.specs.declared.operator.NumTrap.TheVariants.{Overflow, Underflow, DivideByZero}
use Rattle.mo_types.specs.declared.datum.Datum.{Datum}
use Rattle.mo_types.specs.declared.datum.Datum.TheVariants as part
use Rattle.mo_values.specs.Operations.{number_text}
use Rattle.mo_values.specs.Shapes.{Bytes}
use Rattle.wasm_tree.specs.Numeric.{flag}
use Rattle.core_ir.specs.declared.constant.Constant.{Constant}
use Rattle.core_ir.specs.declared.constant.Constant.TheVariants as constant
use Rattle.core_ir.specs.declared.code.Operand.{Operand}
use Rattle.core_ir.specs.declared.code.Operand.TheVariants.{Slot, Captured, Member, Global}
use Rattle.core_ir.specs.declared.code.Operand.TheVariants as operand
use Rattle.core_ir.specs.Programs.{Group, Method}
use Rattle.core_ir.specs.Code.{Code, Stop, Let, If, Match, Loop, Label, Branch, Make, Call, Return, Body, CodeProgram}
use Rattle.core_ir.specs.CodeMachine.{first_of}
use Rattle.core_ir.specs.Formed.{FormedFlat, FormedCodeBody, FormedCodeGroups, size_at, sees_at, global_count}
use Rattle.core_ir.specs.FormedCode.{most_of, most_operands, FormedOperand, FormedOperands, FormedCode, FormedSegments}
use Rattle.heap_layout.specs.Blocks.{text_words}
use Rattle.heap_layout.specs.Heaps.{Plan}
use Rattle.flat_emission.specs.Emission.{Linkage, Here, leaf_word, constant_word, here_of}
use Rattle.operation_forms.specs.Laws.{TrapsFit}
use Rattle.operation_forms.proofs.Forms.{word, long}
use Rattle.operation_forms.proofs.AllCodes.{number_fits}
use Rattle.emission_forms.specs.Spelled.{SpelledOperand, SpelledOperands, Spelled}
use Rattle.low_emit.specs.Texts.{words_from, place_from}
use Rattle.low_emit.specs.Modules.{Routine, before, all_bodies, code_arity, segments_arity, body_arity, bodies_arity, groups_arity, most_arity, plan, link, traps, texts, base, bytes_at, hidden, heap_begin}
use Rattle.low_emit.specs.Emittable.{is_plain_leaf, is_plain, is_read, are_read, is_treated_code, is_one_segment, is_treated_body, are_treated, are_treated_groups, is_emittable}
use Rattle.emitted_modules.proofs.Lists.{first, second}
use Rattle.module_forms.specs.Tests.{is_long_leaf, is_long_constant, is_long_operand, are_long, is_long_code, are_long_segments, is_small_body, are_small_bodies, are_small_groups, are_small_methods, is_small}
use Rattle.module_forms.specs.Laws.{BodyIsSpelled, IsSpelled, ProgramsAreSpelled}

flag_fits : (b : Bool) → FitsSigned w64 (pos (flag b))
flag_fits true = long 1 (omega arith)
flag_fits false = long 0 (omega arith)

module _ (plan : Plan) (link : Linkage) (sees : ℕ → ℕ) (count bound : ℕ) (shared : Bool) (segments slots size seen most arity : ℕ) (own_block : 8 * (2 * size + seen) < 2 ^ 32) (names : 8 * (link.names + count) < 2 ^ 32) (texts_low : (t : Bytes) → 8 * link.bytes_at t < 2 ^ 31)
    (blocks : (k : ℕ) → 8 * (2 * plan.sizes k + sees k) < 2 ^ 31) (entries : (code k : ℕ) → k < plan.sizes code → plan.entry_of code k < 2 ^ 63) where
  abbrev here : Here
  here = record { slots = slots; members = size; most = most }

  text_fits : (t : Bytes) → FitsSigned w64 (pos (8 * link.bytes_at t))
  text_fits t = let lt = texts_low t in long (8 * link.bytes_at t) (omega (arith, lt))

  leaf_fits : (p : Datum) → is_plain_leaf plan link link.hidden p ≡ true → is_long_leaf p ≡ true → FitsSigned w64 (leaf_word link.bytes_at p)
  leaf_fits part.Null e l = long 0 (omega arith)
  leaf_fits (part.Flag b) e l = flag_fits b
  leaf_fits (part.Number n) e l = number_fits n l
  leaf_fits (part.Char c) e l = long c (let lt = below c (2 ^ 32) e in omega (arith, lt))
    where
      below : (i n : ℕ) → nat_lt i n ≡ true → i < n
      below i n e = grind (arith, nat_tests, e)
  leaf_fits (part.Text t) e l = text_fits t
  leaf_fits (part.Blob t) e l = text_fits t
  leaf_fits (part.Principal t) e l = text_fits t
  leaf_fits (part.Actor t) e l = text_fits t
  leaf_fits p e l = absurd (cc)

  constant_fits : (c : Constant) → is_plain plan link link.hidden c ≡ true → is_long_constant c ≡ true → FitsSigned w64 (constant_word link.bytes_at c)
  constant_fits constant.Unit e l = long 0 (omega arith)
  constant_fits (constant.Leaf p) e l = leaf_fits p e l

  operand_spelled : (x : Operand) → FormedOperand plan.sizes sees count bound shared slots segments size seen x → is_read plan link link.hidden x ≡ true → is_long_operand x ≡ true → SpelledOperand plan link arity here x
  operand_spelled (Slot x) f e l = f
  operand_spelled (Captured x) f e l = omega (arith, f, own_block)
  operand_spelled (Member k) f e l = omega (arith, f, own_block)
  operand_spelled (Global x) f e l = omega (arith, f, names)
  operand_spelled (operand.Constant c) f e l = constant_fits c e l

  operands_spelled : (xs : List Operand) → FormedOperands plan.sizes sees count bound shared slots segments size seen xs → are_read plan link link.hidden xs ≡ true → are_long xs ≡ true → SpelledOperands plan link arity here xs
  operands_spelled [] f e l = tt
  operands_spelled (x ∷ xs) f e l = (operand_spelled x f.0 (first _ _ e) (first _ _ l), operands_spelled xs f.1 (second _ _ e) (second _ _ l))

  pub code_spelled : (c : Code) (within : ℕ) → FormedCode plan.sizes sees count bound shared slots segments size seen within c → is_treated_code plan link link.hidden c ≡ true → is_long_code c ≡ true → most_operands c ≤ most → code_arity c ≤ arity
      → Spelled plan link arity here within c
  code_spelled Stop within f e l m a = f
  code_spelled (Let t p xs c) within f e l m a =
      let r : (are_read plan link link.hidden xs && is_treated_code plan link link.hidden c) ≡ true = second _ _ e in
      (f.0, first _ _ e, operands_spelled xs f.2 (first _ _ r) (first _ _ l), omega (arith, m), code_spelled c within f.3 (second _ _ r) (second _ _ l) (omega (arith, m)) a)
  code_spelled (If p xs y n c) within f e l m a =
      let r : (are_read plan link link.hidden xs && (is_treated_code plan link link.hidden y && (is_treated_code plan link link.hidden n && is_treated_code plan link link.hidden c))) ≡ true = second _ _ e in
      let s : (is_treated_code plan link link.hidden y && (is_treated_code plan link link.hidden n && is_treated_code plan link link.hidden c)) ≡ true = second _ _ r in
      let t : (is_treated_code plan link link.hidden n && is_treated_code plan link link.hidden c) ≡ true = second _ _ s in
      let u : (is_long_code y && (is_long_code n && is_long_code c)) ≡ true = second _ _ l in
      let v : (is_long_code n && is_long_code c) ≡ true = second _ _ u in (
        first _ _ e,
        operands_spelled xs f.2 (first _ _ r) (first _ _ l),
        omega (arith, m),
        code_spelled y (suc within) f.3 (first _ _ s) (first _ _ u) (omega (arith, m)) (omega (arith, a)),
        code_spelled n (suc within) f.4 (first _ _ t) (first _ _ v) (omega (arith, m)) (omega (arith, a)),
        code_spelled c within f.5 (second _ _ t) (second _ _ v) (omega (arith, m)) (omega (arith, a)),
      )
  code_spelled (Match t k x y n c) within f e l m a =
      let r : (is_read plan link link.hidden x && (is_treated_code plan link link.hidden y && (is_treated_code plan link link.hidden n && is_treated_code plan link link.hidden c))) ≡ true = second _ _ e in
      let s : (is_treated_code plan link link.hidden y && (is_treated_code plan link link.hidden n && is_treated_code plan link link.hidden c)) ≡ true = second _ _ r in
      let w : (is_treated_code plan link link.hidden n && is_treated_code plan link link.hidden c) ≡ true = second _ _ s in
      let u : (is_long_code y && (is_long_code n && is_long_code c)) ≡ true = second _ _ l in
      let v : (is_long_code n && is_long_code c) ≡ true = second _ _ u in (
        f.0,
        operand_spelled x f.1 (first _ _ r) (first _ _ l),
        omega (arith, m),
        code_spelled y (suc within) f.2 (first _ _ s) (first _ _ u) (omega (arith, m)) (omega (arith, a)),
        code_spelled n (suc within) f.3 (first _ _ w) (first _ _ v) (omega (arith, m)) (omega (arith, a)),
        code_spelled c within f.4 (second _ _ w) (second _ _ v) (omega (arith, m)) (omega (arith, a)),
      )
  code_spelled (Loop b c) within f e l m a =
      (code_spelled b (suc within) f.0 (first _ _ e) (first _ _ l) (omega (arith, m)) (omega (arith, a)), code_spelled c within f.1 (second _ _ e) (second _ _ l) (omega (arith, m)) (omega (arith, a)))
  code_spelled (Label b c) within f e l m a =
      (code_spelled b (suc within) f.0 (first _ _ e) (first _ _ l) (omega (arith, m)) (omega (arith, a)), code_spelled c within f.1 (second _ _ e) (second _ _ l) (omega (arith, m)) (omega (arith, a)))
  code_spelled (Branch l) within f e k m a = f
  code_spelled (Make t xs k c) within f e l m a =
      let many = f.2 in
      let small = blocks k in
      (f.0, operands_spelled xs f.3 (first _ _ e) (first _ _ l), omega (arith, m), omega (arith, many, small), entries k, code_spelled c within f.4 (second _ _ e) (second _ _ l) (omega (arith, m)) a)
  code_spelled (Call t g xs c) within f e l m a =
      let r : (are_read plan link link.hidden xs && is_treated_code plan link link.hidden c) ≡ true = second _ _ e in
      let u : (are_long xs && is_long_code c) ≡ true = second _ _ l in
      (f.0, operand_spelled g f.1 (first _ _ e) (first _ _ l), operands_spelled xs f.2 (first _ _ r) (first _ _ u), omega (arith, m), omega (arith, a), code_spelled c within f.3 (second _ _ r) (second _ _ u) (omega (arith, m)) (omega (arith, a)))
  code_spelled (Return x) within f e l m a = (operand_spelled x f e l, m)
  code_spelled c within f e l m a = absurd (cc)

-- ---- texts and groups

further : (i : ℕ) (ts : List Bytes) → i ≤ words_from i ts
further i [] = omega arith
further i (u ∷ us) = let le = further (i + text_words u) us in omega (arith, le)

chosen_below : (b : Bool) (i j n : ℕ) → i ≤ n → j ≤ n → cond b i j ≤ n
chosen_below true i j n a c = a
chosen_below false i j n a c = c

place_below : (i : ℕ) (t : Bytes) (ts : List Bytes) → place_from i t ts ≤ words_from i ts
place_below i t [] = omega arith
place_below i t (u ∷ us) =
    chosen_below (bytes_eq t u) i (place_from (i + text_words u) t us) (words_from (i + text_words u) us) (let le = further (i + text_words u) us in omega (arith, le)) (place_below (i + text_words u) t us)

entries_below : (gs : List (Group Body)) (code : ℕ) → before gs code + size_at gs code ≤ all_bodies gs
entries_below [] code = omega arith
entries_below (g ∷ gs) zero = omega arith
entries_below (g ∷ gs) (suc code) = let le = entries_below gs code in omega (arith, le)

less : (i n : ℕ) → nat_lt i n ≡ true → i < n
less i n e = grind (arith, nat_tests, e)

at_most : (i n : ℕ) → nat_le i n ≡ true → i ≤ n
at_most i n e = grind (arith, nat_tests, e)

blocks_small : (gs : List (Group Body)) → are_small_groups gs ≡ true → (k : ℕ) → 8 * (2 * size_at gs k + sees_at gs k) < 2 ^ 31
blocks_small [] e k = omega arith
blocks_small (g ∷ gs) e zero = less (8 * (2 * length g.bodies + g.sees)) (2 ^ 31) (first _ _ e)
blocks_small (g ∷ gs) e (suc k) = blocks_small gs (second _ _ (second _ _ e)) k

-- ---- programs

module _ (p : CodeProgram) (more : List Routine) (own : ℕ) (formed : FormedFlat own p) (emits : is_emittable p more own ≡ true) (small : is_small p more own ≡ true) where
  abbrev sizes_small : (nat_le (all_bodies p.groups) 100000 && (are_small_groups p.groups && (are_small_methods p.methods && is_small_body p.start))) ≡ true
  sizes_small = second (nat_lt (8 * heap_begin p more own) (2 ^ 31)) _ small

  abbrev bodies_small : (are_small_groups p.groups && (are_small_methods p.methods && is_small_body p.start)) ≡ true
  bodies_small = second (nat_le (all_bodies p.groups) 100000) _ sizes_small

  heap_low : 8 * heap_begin p more own < 2 ^ 31
  heap_low = less (8 * heap_begin p more own) (2 ^ 31) (first _ _ small)

  few_bodies : all_bodies p.groups ≤ 100000
  few_bodies = at_most (all_bodies p.groups) 100000 (first _ _ sizes_small)

  base_low : 8 * base p more own + 8 < 2 ^ 31
  base_low = let h = heap_low in omega (arith, h)

  text_low : (t : Bytes) → 8 * bytes_at p more own t + 8 < 2 ^ 31
  text_low t = let le = place_below 1 t (texts p more own) in let b = base_low in omega (arith, le, b)

  one_spelled : (bound : ℕ) (shared : Bool) (size seen : ℕ) (b : Body) → FormedCodeBody own p bound shared size seen b → is_treated_body (plan p more own) (link p more own) (hidden p more own) b ≡ true → is_small_body b ≡ true → 8 * (2 * size + seen) < 2 ^ 32 → body_arity b ≤ most_arity p → BodyIsSpelled p more own size b
  one_spelled bound shared size seen b f t s block le = record {
    parameters = f.parameters;
    few = omega (arith, le);
    short = at_most (b.slots + most_of most_operands b.segments) 49000 (first _ _ s);
    code = by_segments b.segments refl f.segments (first _ _ t) (second _ _ s);
  }
    where
      by_segments : (cs : List Code) → cs ≡ b.segments → FormedSegments (size_at p.groups) (sees_at p.groups) (global_count p own) bound shared b.slots (length b.segments) size seen cs
          → is_one_segment (plan p more own) (link p more own) (hidden p more own) cs ≡ true → are_long_segments cs ≡ true → Spelled (plan p more own) (link p more own) (most_arity p) (here_of size b) 0 (first_of cs)
      by_segments [] e g t s = absurd (cc)
      by_segments (c ∷ []) e g t s =
          let most : most_of most_operands (c ∷ []) ≡ most_of most_operands b.segments = ap (most_of most_operands) e in
          let many : segments_arity (c ∷ []) ≡ segments_arity b.segments = ap segments_arity e in
          code_spelled (plan p more own) (link p more own) (sees_at p.groups) (global_count p own) bound shared (length b.segments) b.slots size seen (most_of most_operands b.segments) (most_arity p) block
          (let h = heap_low in omega (arith, h)) (λ t. let low = text_low t in omega (arith, low)) (blocks_small p.groups (first _ _ bodies_small))
          (λ code k lt. let le = entries_below p.groups code in let few = few_bodies in omega (arith, lt, le, few)) c 0 g.0 t (first _ _ s) (omega (arith, most)) (omega (arith, many, le))
      by_segments (c ∷ d ∷ cs) e g t s = absurd (cc)

  all_bodies_spelled : (bound size seen : ℕ) (bs : List Body) → AllByRecursion (λ b. FormedCodeBody own p bound false size seen b) bs → are_treated (plan p more own) (link p more own) (hidden p more own) bs ≡ true → are_small_bodies bs ≡ true → 8 * (2 * size + seen) < 2 ^ 32 → bodies_arity bs ≤ most_arity p
      → AllByRecursion (BodyIsSpelled p more own size) bs
  all_bodies_spelled bound size seen [] f t s block le = tt
  all_bodies_spelled bound size seen (b ∷ bs) f t s block le =
      (one_spelled bound false size seen b f.0 (first _ _ t) (first _ _ s) block (omega (arith, le)), all_bodies_spelled bound size seen bs f.1 (second _ _ t) (second _ _ s) block (omega (arith, le)))

  groups_spelled : (n : ℕ) (gs : List (Group Body)) → FormedCodeGroups own p n gs → are_treated_groups (plan p more own) (link p more own) (hidden p more own) gs ≡ true → are_small_groups gs ≡ true → groups_arity gs ≤ most_arity p
      → AllByRecursion (λ (g : Group Body). AllByRecursion (BodyIsSpelled p more own (length g.bodies)) g.bodies) gs
  groups_spelled n [] f t s le = tt
  groups_spelled n (g ∷ gs) f t s le =
      let u : (are_small_bodies g.bodies && are_small_groups gs) ≡ true = second (nat_lt (8 * (2 * length g.bodies + g.sees)) (2 ^ 31)) _ s in
      let v : (are_treated (plan p more own) (link p more own) (hidden p more own) g.bodies && are_treated_groups (plan p more own) (link p more own) (hidden p more own) gs) ≡ true = second (nat_lt (8 * (2 * length g.bodies + g.sees)) (2 ^ 32)) _ t in
      let block = less (8 * (2 * length g.bodies + g.sees)) (2 ^ 31) (first _ _ s) in
      (all_bodies_spelled n (length g.bodies) g.sees g.bodies f.0 (first _ _ v) (first _ _ u) (omega (arith, block)) (omega (arith, le)), groups_spelled (suc n) gs f.1 (second _ _ v) (second _ _ u) (omega (arith, le)))

  methods_spelled : (ms : List (Method Body)) → AllByRecursion (λ m. FormedCodeBody own p (length p.groups) true 0 0 m.body) ms → are_treated (plan p more own) (link p more own) (hidden p more own) (map (λ m. m.body) ms) ≡ true → are_small_methods ms ≡ true → bodies_arity (map (λ m. m.body) ms) ≤ most_arity p
      → AllByRecursion (λ m. BodyIsSpelled p more own 0 m.body) ms
  methods_spelled [] f t s le = tt
  methods_spelled (m ∷ ms) f t s le =
      (one_spelled (length p.groups) true 0 0 m.body f.0 (first _ _ t) (first _ _ s) (omega arith) (omega (arith, le)), methods_spelled ms f.1 (second _ _ t) (second _ _ s) (omega (arith, le)))

  pub program_spelled : IsSpelled p more own
  program_spelled =
      let t = second (are_treated_groups (plan p more own) (link p more own) (hidden p more own) p.groups) _ emits in
      let u : (is_treated_body (plan p more own) (link p more own) (hidden p more own) p.start && nat_le (8 * heap_begin p more own) (2 ^ 31)) ≡ true = second (are_treated (plan p more own) (link p more own) (hidden p more own) (map (λ m. m.body) p.methods)) _ t in
      let v : (are_small_methods p.methods && is_small_body p.start) ≡ true = second (are_small_groups p.groups) _ bodies_small in
      record {
        traps = traps_fit;
        texts = let b = base_low in omega (arith, b);
        groups = groups_spelled 0 p.groups formed.code.groups (first _ _ emits) (first _ _ bodies_small) (omega arith);
        methods = methods_spelled p.methods formed.code.methods (first _ _ t) (first _ _ v) (omega arith);
        start = one_spelled (length p.groups) false 0 0 p.start formed.code.start (first _ _ u) (second _ _ v) (omega arith) (omega arith);
      }
    where
      traps_fit : TrapsFit (traps p more own)
      traps_fit Overflow = word _ (text_low (number_text Overflow))
      traps_fit Underflow = word _ (text_low (number_text Underflow))
      traps_fit DivideByZero = word _ (text_low (number_text DivideByZero))

pub programs_spelled : ProgramsAreSpelled
programs_spelled p more own formed emits small = program_spelled p more own formed emits small
