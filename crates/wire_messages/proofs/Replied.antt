-- A reply is written.
use Rattle.std.proofs.Common.{◌≡◌, ℕ, suc, ◌+◌, ◌*◌, ◌^◌, ◌<◌, ◌≤◌, List, [], ◌∷◌, ◌++◌, length, take, drop, Bool, cond, Some, None, Ok, Err, ℤ, refl, sym, ap, ◌∙◌, subst, arith, length-append}
use Rattle.std.specs.List.{AllByRecursion}
use Rattle.mo_num.specs.declared.kind.Kind.{Kind}
use Rattle.mo_types.specs.declared.datum.Datum.{Datum}
use Rattle.mo_types.specs.declared.datum.Datum.TheVariants as part
use Rattle.mo_types.specs.declared.wire.Plain.TheVariants as plain
use Rattle.mo_types.specs.Values.{Values, Nil, Value}
use Rattle.mo_types.specs.Spelling.{bit}
use Rattle.mo_types.specs.Wire.{plain_number}
use Rattle.mo_coding.specs.Pieces.{Piece, join}
use Rattle.mo_coding.specs.Values.{plain_part}
use Rattle.module_laws.specs.Stored.{written}
use Rattle.module_laws.proofs.StoredBytes.{stored}
use Rattle.wasm_tree.specs.declared.trap.Trap.TheVariants as trap
use Rattle.wasm_tree.specs.declared.types.ValueType.TheVariants.{I32}
use Rattle.wasm_tree.specs.declared.types.FunctionType.{FunctionType}
use Rattle.wasm_tree.specs.declared.op.LoadKind.TheVariants as load
use Rattle.wasm_tree.specs.Numeric.{low, flag}
use Rattle.wasm_tree.specs.Exec.{Store, bits64, number_of}
use Rattle.low_ir.specs.Tree.{Code, Module}
use Rattle.low_rules.specs.Rule.{At, CallEnd, Comes, Contracts, Before, spend, after_call, ResultTo, loads, is_inside, ends}
use Rattle.low_rules.proofs.Steps.{on_true, on_ok, low_is, le_test}
use Rattle.memory_routines.specs.Laws.{word_of as type_of_word}
use Rattle.memory_routines.specs.Numerals.{with_memory, between}
use Rattle.wire_numbers.specs.Readers.{word_of}
use Rattle.wire_numbers.specs.Writers.{MayWrite, IsWritten}
use Rattle.wire_numbers.proofs.Spelled.{put_none, put_more}
use Rattle.wire_messages.specs.declared.column.Wired.{Wired}
use Rattle.wire_messages.specs.declared.column.Wired.TheVariants.{Number, Truth, Unit as Nothing}
use Rattle.wire_messages.specs.Column.{IsOf, AreValues, WordsAre, wired_piece, column_piece}
use Rattle.wire_messages.specs.Replies.{writes_kind, writes_truth, put_bytes, next_word, put_value, put_wired, put_values, behind_header, write_reply, MayReply, IsReplied}
use Rattle.wire_messages.proofs.Sizes.{number_short}
use Rattle.wire_messages.proofs.Placed.{between_length, between_below, between_more, same_below}

abbrev pub reply_type : FunctionType
reply_type = type_of_word (I32 ∷ I32 ∷ [])

-- a word that is loaded
pub loads_word : (memory : List ℕ) (a : ℕ) → a + 8 ≤ length memory → a < 2 ^ 32 → loads memory load.I64 (low I32 a + 0) ≡ Ok (number_of (take 8 (drop a memory)))
loads_word memory a inside small =
    let at : low I32 a + 0 ≡ a = ap (λ n. n + 0) (low_is a small) ∙ omega arith in
    ap (loads memory load.I64) at ∙ ap (λ t. cond t (Ok (number_of (take 8 (drop a memory)))) (Err trap.Bounds)) (le_test (a + 8) (length memory) inside)

pub words_below : (old new : List ℕ) (a from : ℕ) (values : Values) (count : ℕ) → take a new ≡ take a old → from + 8 * count ≤ a → (ws : List Wired) → length ws ≡ count → AreValues ws values → WordsAre old from values → WordsAre new from values
words_below old new a from Nil count same le ws many is words = tt
words_below old new a from (Value p inner others) count same le [] many is words = absurd is
words_below old new a from (Value p inner others) count same le (w ∷ ws) many is words =
    (ap number_of (same_below old new a from 8 same (omega (arith, le, many))) ∙ words.0, words_below old new a (from + 8) others (length ws) same (omega (arith, le, many)) ws refl is.2 words.1)

-- pieces that are there
pub joined_some : (a b : Piece) (text : List ℕ) → join a b ≡ Some text → (x y : List ℕ) × (a ≡ Some x) × (b ≡ Some y) × (x ++ y ≡ text)
joined_some (Some x) (Some y) text e = (x, y, refl, refl, some_is (x ++ y) text e)
  where
    some_is : (a b : List ℕ) → Some a ≡ Some b → a ≡ b
    some_is a b e = cc
joined_some (Some x) None text e = cc
joined_some None b text e = cc

inside_some : (a b : List ℕ) → Some a ≡ Some b → a ≡ b
inside_some a b e = cc

flag_short : (b : Bool) (text : List ℕ) → plain_part plain.Bool (part.Flag b) ≡ Some text → length text ≤ 10
flag_short b text e = let l : 1 ≡ length text = ap length (inside_some (bit b ∷ []) text e) in omega (arith, l)

wired_short : (w : Wired) (p : Datum) (text : List ℕ) → IsOf w p → wired_piece w p ≡ Some text → length text ≤ 10
wired_short (Number k) p text is e = number_short k is.0 text (subst (λ p. plain_part (plain_number k) p ≡ Some text) is.1 e)
wired_short Truth p text is e = flag_short is.0 text (subst (λ p. plain_part plain.Bool p ≡ Some text) is.1 e)
wired_short Nothing p text is e = let l : 0 ≡ length text = ap length (inside_some [] text e) in omega (arith, l)

-- all of them
column_short : (ws : List Wired) (values : Values) (text : List ℕ) → AreValues ws values → column_piece ws values ≡ Some text → length text ≤ 10 * length ws
column_short [] Nil text are e = let none : [] ≡ text = inside_some [] text e in let l : length text ≡ 0 = sym (ap length none) in omega (arith, l)
column_short [] (Value p inner others) text are e = absurd are
column_short (w ∷ ws) Nil text are e = absurd are
column_short (w ∷ ws) (Value p inner others) text are e =
    let j = joined_some (wired_piece w p) (column_piece ws others) text e in
    let rest = column_short ws others j.1 are.2 j.3 in
    let one = wired_short w p j.0 are.0 j.2 in
    omega (arith, one, rest, ap length j.4, length-append j.0 j.1)

module _ {World : Type 0} (pages : ℕ) (m : Module) (does : Contracts World) (s : Store World) (first : ℕ) (q : CallEnd World → Type 0)
    (kinds : (k : Kind) (store : Store World) (at : ℕ) (z : ℤ) (text : List ℕ) (r : CallEnd World → Type 0) → plain_part (plain_number k) (part.Number z) ≡ Some text → MayWrite store.memory at → ((e : CallEnd World) → IsWritten store at text e → r e) → does (writes_kind first k) store (at ∷ bits64 z ∷ []) r)
    (truths : (store : Store World) (at : ℕ) (b : Bool) (text : List ℕ) (r : CallEnd World → Type 0) → plain_part plain.Bool (part.Flag b) ≡ Some text → MayWrite store.memory at → ((e : CallEnd World) → IsWritten store at text e → r e) → does (writes_truth first) store (at ∷ flag b ∷ []) r) where
  abbrev pub spot : ℕ → List ℕ → ℕ → ℕ → ℕ → At World
  spot spent memory a from w = record { spent = spent; store = with_memory s memory; locals = a ∷ from ∷ w ∷ [] }

  -- The message so far ends there, and what is written from there on ends as it is told.
  abbrev Done : ℕ → List ℕ → ℕ → List ℕ → Type 0
  Done most memory a text = (cost : ℕ) → cost ≤ most → q (Comes cost (with_memory s (between memory a text (a + length text))) (Some (a + length text)))

  abbrev After : ℕ → List ℕ → ℕ → ℕ → ℕ → List Wired → CallEnd World → Type 0
  After now memory a from word ws e = after_call (spend 3 (spot now memory a from word)) (ResultTo (Some 0) (Before pages m does (next_word (put_values first ws)) (ends reply_type q))) (ends reply_type q) e

  -- a value that a function writes
  value_is : (writes : ℕ) (ws : List Wired) (now a from w word : ℕ) (memory text : List ℕ) → length memory < 2 ^ 32 → from + 8 ≤ a → a + 10 ≤ length memory → number_of (take 8 (drop from memory)) ≡ word
      → ((r : CallEnd World → Type 0) → ((e : CallEnd World) → IsWritten (with_memory s memory) a text e → r e) → does writes (with_memory s memory) (a ∷ word ∷ []) r)
      → ((now2 : ℕ) → now2 ≤ now + 411 → Before pages m does (put_values first ws) (ends reply_type q) (spot now2 (between memory a text (a + length text)) (a + length text) (from + 8) word))
      → Before pages m does (put_value writes (put_values first ws)) (ends reply_type q) (spot now memory a from w)
  value_is writes ws now a from w word memory text small under inside is calls go =
      on_ok _ _ _ word (loads_word memory from (omega (arith, under, inside)) (omega (arith, under, inside, small)) ∙ ap Ok is)
      (calls (After (now + 3) memory a from word ws)
      (λ e h.
      subst (After (now + 3) memory a from word ws) (sym h.2)
      (subst (λ f. Before pages m does (put_values first ws) (ends reply_type q) (spot (now + 3 + 3 + h.0 + 1 + 4) (between memory a text (a + length text)) (a + length text) f word)) (sym (low_is (from + 8) (omega (arith, under, inside, small)))) (go (now + 3 + 3 + h.0 + 1 + 4) (omega (arith, h.1))))))

  values_is : (ws : List Wired) (values : Values) (most now a from w : ℕ) (memory text : List ℕ) → length memory < 2 ^ 32 → AreValues ws values → WordsAre memory from values → column_piece ws values ≡ Some text → from + 8 * length ws ≤ a → a + 10 * length ws + 10 ≤ length memory
      → Done most memory a text → now + 420 * length ws + 2 ≤ most → Before pages m does (put_values first ws) (ends reply_type q) (spot now memory a from w)
  values_is [] Nil most now a from w memory text small are words piece under inside done le =
      let none : [] ≡ text = inside_some [] text piece in
      let done : Done most memory a [] = subst (Done most memory a) (sym none) done in
      subst (λ (e : CallEnd World). q e) (λ i. Comes (now + 2) (with_memory s (put_none memory a i)) (Some (nothing_more a i))) (done (now + 2) (omega (arith, le)))
    where
      nothing_more : (a : ℕ) → a + 0 ≡ a
      nothing_more a = omega arith
  values_is [] (Value p inner others) most now a from w memory text small are words piece under inside done le = absurd are
  values_is (v ∷ ws) Nil most now a from w memory text small are words piece under inside done le = absurd are
  values_is (v ∷ ws) (Value p inner others) most now a from w memory text small are words piece under inside done le =
      let j = joined_some (wired_piece v p) (column_piece ws others) text piece in
      let x : List ℕ = j.0 in
      let y : List ℕ = j.1 in
      one v p j.0 are.0 j.2 words.0
      (λ short now2 w less.
      let all : a + length x ≤ length memory = omega (arith, inside, short) in
      let long = between_length memory a x all in
      values_is ws others most now2 (a + length x) (from + 8) w (between memory a x (a + length x)) y (omega (arith, small, long)) are.2
      (words_below memory (between memory a x (a + length x)) a (from + 8) others (length ws) (between_below memory a x all) (omega (arith, under)) ws refl are.2 words.1)
      j.3 (omega (arith, under)) (omega (arith, inside, long, short))
      (λ cost less.
      subst (λ (e : CallEnd World). q e) (λ i. Comes cost (with_memory s (sym (between_more memory a x y (fits x y short ws others are.2 j.3 inside)) i)) (Some (sym (behind x y) i)))
      (subst (Done most memory a) (sym j.4) done cost less))
      (omega (arith, le, less)))
    where
      behind : (x y : List ℕ) → a + length x + length y ≡ a + length (x ++ y)
      behind x y = omega (arith, length-append x y)

      fits : (x y : List ℕ) → length x ≤ 10 → (ws : List Wired) (others : Values) → AreValues ws others → column_piece ws others ≡ Some y → a + 10 * suc (length ws) + 10 ≤ length memory → a + length x + length y ≤ length memory
      fits x y short ws others are piece inside = let few = column_short ws others y are piece in omega (arith, short, few, inside)

      one : (v : Wired) (p : Datum) (x : List ℕ) → IsOf v p → wired_piece v p ≡ Some x → number_of (take 8 (drop from memory)) ≡ word_of p
          → (length x ≤ 10 → (now2 w : ℕ) → now2 ≤ now + 411 → Before pages m does (put_values first ws) (ends reply_type q) (spot now2 (between memory a x (a + length x)) (a + length x) (from + 8) w)) → Before pages m does (put_wired first v (put_values first ws)) (ends reply_type q) (spot now memory a from w)
      one (Number k) p x is piece word go =
          let z : ℤ = is.0 in
          let piece : plain_part (plain_number k) (part.Number z) ≡ Some x = subst (λ p. plain_part (plain_number k) p ≡ Some x) is.1 piece in
          let word : number_of (take 8 (drop from memory)) ≡ bits64 z = subst (λ p. number_of (take 8 (drop from memory)) ≡ word_of p) is.1 word in
          value_is (writes_kind first k) ws now a from w (bits64 z) memory x small (omega (arith, under)) (omega (arith, inside)) word
          (λ r then. kinds k (with_memory s memory) a z x r piece (record { inside = omega (arith, inside); small = small }) then)
          (λ now2 le. go (number_short k z x piece) now2 (bits64 z) le)
      one Truth p x is piece word go =
          let b : Bool = is.0 in
          let piece : plain_part plain.Bool (part.Flag b) ≡ Some x = subst (λ p. plain_part plain.Bool p ≡ Some x) is.1 piece in
          let word : number_of (take 8 (drop from memory)) ≡ flag b = subst (λ p. number_of (take 8 (drop from memory)) ≡ word_of p) is.1 word in
          value_is (writes_truth first) ws now a from w (flag b) memory x small (omega (arith, under)) (omega (arith, inside)) word
          (λ r then. truths (with_memory s memory) a b x r piece (record { inside = omega (arith, inside); small = small }) then)
          (λ now2 le. go (flag_short b x piece) now2 (flag b) le)
      one Nothing p x is piece word go =
          let none : [] ≡ x = inside_some [] x piece in
          let go2 = go (let e : length x ≡ 0 = sym (ap length none) in omega (arith, e)) (now + 4) w (omega arith) in
          subst (λ f. Before pages m does (put_values first ws) (ends reply_type q) (spot (now + 4) memory a f w)) (sym (low_is (from + 8) (omega (arith, under, inside, small))))
          (subst (λ h. Before pages m does (put_values first ws) (ends reply_type q) h) (λ i. spot (now + 4) (put_none memory a i) (nothing_more a i) (from + 8) w)
          (subst (λ x. Before pages m does (put_values first ws) (ends reply_type q) (spot (now + 4) (between memory a x (a + length x)) (a + length x) (from + 8) w)) (sym none) go2))
        where
          nothing_more : (a : ℕ) → a + 0 ≡ a
          nothing_more a = omega arith

  bytes_is : (bs : List ℕ) (i now a from w : ℕ) (memory : List ℕ) (rest : Code) → AllByRecursion (λ b. b < 256) bs → a + i + length bs ≤ length memory → length memory < 2 ^ 32
      → Before pages m does rest (ends reply_type q) (spot (now + 3 * length bs) (between memory (a + i) bs (a + i + length bs)) a from w) → Before pages m does (put_bytes bs i rest) (ends reply_type q) (spot now memory a from w)
  bytes_is [] i now a from w memory rest all inside small h = subst (λ h. Before pages m does rest (ends reply_type q) h) (λ j. spot (same_time now j) (put_none memory (a + i) j) a from w) h
    where
      same_time : (n : ℕ) → n + 3 * 0 ≡ n
      same_time n = omega arith
  bytes_is (b ∷ bs) i now a from w memory rest all inside small h =
      let address : low I32 a + i ≡ a + i = ap (λ k. k + i) (low_is a (omega (arith, inside, small))) in
      let is = stored memory (a + i) 1 b (omega (arith, inside)) in
      on_true _ _ (is_inside memory (low I32 a + i) 1) (ap (λ k. is_inside memory k 1) address ∙ le_test (a + i + 1) (length memory) (omega (arith, inside)))
      (subst (λ k. Before pages m does (put_bytes bs (suc i) rest) (ends reply_type q) (spot (now + 3) (written memory k 1 b) a from w)) (sym address)
      (bytes_is bs (suc i) (now + 3) a from w (written memory (a + i) 1 b) rest all.1 (omega (arith, inside, is.same_length)) (omega (arith, small, is.same_length))
      (subst (λ h. Before pages m does rest (ends reply_type q) h) (λ j. spot (later now (length bs) j) ((sym (put_more memory (a + i) b bs (omega (arith, inside)) all.0) ∙ (λ j. between (written memory (a + i) 1 b) (place a i j) bs (place a i j + length bs))) j) a from w) h)))
    where
      later : (n k : ℕ) → n + 3 * suc k ≡ n + 3 + 3 * k
      later n k = omega arith

      place : (a i : ℕ) → suc (a + i) ≡ a + suc i
      place a i = omega arith

  pub reply_is : (header : List ℕ) (ws : List Wired) (values : Values) (a from : ℕ) (text : List ℕ) → AllByRecursion (λ b. b < 256) header → MayReply s.memory a from (length header) (length ws) → AreValues ws values → WordsAre s.memory from values → column_piece ws values ≡ Some text
      → ((e : CallEnd World) → IsReplied s a (length header) (length ws) (header ++ text) e → q e) → Before pages m does (write_reply first header ws) (ends reply_type q) (spot 0 s.memory a from 0)
  reply_is header ws values a from text all may are words piece h =
      let memory : List ℕ = s.memory in
      let there : a + length header ≤ length memory = omega (arith, may.inside) in
      let long = between_length memory a header there in
      let next : low I32 (a + length header) ≡ a + length header = low_is (a + length header) (omega (arith, may.inside, may.small)) in
      let few = column_short ws values text are piece in
      bytes_is header 0 0 a from 0 memory (behind_header first (length header) ws) all (omega (arith, may.inside)) may.small
      (subst (λ h. Before pages m does (put_values first ws) (ends reply_type q) h) (λ j. spot (0 + 3 * length header + 4) (between memory (nothing_more a 0 j) header (nothing_more a 0 j + length header)) (sym next j) from 0)
      (values_is ws values (3 * length header + 420 * length ws + 10) (0 + 3 * length header + 4) (a + length header) from 0 (between memory a header (a + length header)) text (omega (arith, may.small, long)) are
      (words_below memory (between memory a header (a + length header)) a from values (length ws) (between_below memory a header there) (omega (arith, may.words)) ws refl are words) piece (omega (arith, may.words)) (omega (arith, may.inside, long))
      (λ cost le. h _ (cost, le, ended cost text (omega (arith, few, may.inside))))
      (omega arith)))
    where
      nothing_more : (a z : ℕ) → a ≡ a + 0
      nothing_more a z = omega arith

      ended : (cost : ℕ) (text : List ℕ) → a + length header + length text ≤ length s.memory
          → Comes cost (with_memory s (between (between s.memory a header (a + length header)) (a + length header) text (a + length header + length text))) (Some (a + length header + length text)) ≡ Comes cost (with_memory s (between s.memory a (header ++ text) (a + length (header ++ text)))) (Some (a + length (header ++ text)))
      ended cost text le = λ i. Comes cost (with_memory s (between_more s.memory a header text le i)) (Some ((let e : a + length header + length text ≡ a + length (header ++ text) = omega (arith, length-append header text) in e) i))
