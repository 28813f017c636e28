-- The values of arguments are read.
use Rattle.std.proofs.Common.{◌≡◌, ℕ, suc, ◌+◌, ◌-◌, ◌*◌, ◌^◌, ◌<◌, ◌≤◌, List, [], ◌∷◌, length, drop, Bool, true, false, not, nat_eq, Option, Some, None, Result, Ok, Err, pos, refl, sym, ap, ◌∙◌, subst, arith, length-drop}
use Rattle.std.proofs.lemmas.Bool.Decides.{nat_tests}
use Rattle.exact_reading.specs.Reading.{◌>>=◌}
use Rattle.mo_num.specs.declared.kind.Kind.{Kind}
use Rattle.mo_types.specs.declared.datum.Datum.{Datum}
use Rattle.mo_types.specs.declared.datum.Datum.TheVariants as part
use Rattle.mo_types.specs.declared.wire.Plain.TheVariants as plain
use Rattle.mo_types.specs.Values.{Values, Nil}
use Rattle.mo_types.specs.Wire.{plain_number}
use Rattle.candid_header.specs.declared.fault.Fault.{Fault}
use Rattle.candid_read.specs.Parts.{plain_at}
use Rattle.mo_coding.specs.Reading.{whole_of}
use Rattle.module_laws.specs.Stored.{written}
use Rattle.module_laws.proofs.StoredBytes.{stored}
use Rattle.wasm_tree.specs.declared.types.ValueType.TheVariants.{I32}
use Rattle.wasm_tree.specs.declared.types.FunctionType.{FunctionType}
use Rattle.wasm_tree.specs.Numeric.{low, flag}
use Rattle.wasm_tree.specs.Exec.{Store, number_of}
use Rattle.wasm_tree.specs.declared.op.BinaryOperator.TheVariants.{Add}
use Rattle.low_ir.specs.declared.op.Operand.TheVariants.{Local, Word}
use Rattle.low_ir.specs.declared.op.Operation.TheVariants.{IsZero, Binary}
use Rattle.low_ir.specs.Tree.{Code, Set, Module}
use Rattle.low_rules.specs.Rule.{At, CallEnd, Comes, Contracts, Before, spend, after_call, ResultTo, is_inside, ends}
use Rattle.low_rules.proofs.Steps.{on_true, on_flag, low_is, le_test}
use Rattle.memory_routines.specs.Heaps.{HoldsBytes}
use Rattle.memory_routines.specs.Laws.{word_of as type_of_word}
use Rattle.memory_routines.specs.Numerals.{with_memory}
use Rattle.wire_numbers.specs.Readers.{word_of, bytes_between, MayRead, IsRead}
use Rattle.wire_numbers.proofs.Bytes.{Stand}
use Rattle.wire_numbers.proofs.Numbers.{Bytes}
use Rattle.wire_numbers.proofs.Words.{stand_dropped}
use Rattle.wire_tables.specs.References.{unless}
use Rattle.wire_tables.specs.Tables.{IsBeside}
use Rattle.wire_messages.specs.declared.column.Wired.{Wired}
use Rattle.wire_messages.specs.declared.column.Wired.TheVariants.{Number, Truth, Unit as Nothing}
use Rattle.wire_messages.specs.Column.{AreValues, WordsAre}
use Rattle.wire_messages.specs.Arguments.{reads_kind, reads_truth, take_value, take_wired, at_end, take_values}
use Rattle.wire_messages.proofs.Matched.{with_value, read_column}
use Rattle.wire_messages.proofs.Consumed.{Takes, IsGood, number_takes, truth_takes}
use Rattle.wire_messages.proofs.Placed.{same_below}
use Rattle.wire_messages.proofs.Stored.{written_hold, bytes_dropped, stand_below, between_is, beside_none, beside_word, beside_more, word_stored}

abbrev pub arguments_type : FunctionType
arguments_type = type_of_word (I32 ∷ I32 ∷ I32 ∷ [])

module _ {World : Type 0} (pages : ℕ) (m : Module) (does : Contracts World) (s : Store World) (first end : ℕ) (q : CallEnd World → Type 0)
    (kinds : (k : Kind) (store : Store World) (at to : ℕ) (r : CallEnd World → Type 0) → MayRead store.memory at end to → ((e : CallEnd World) → IsRead store end to (plain_at (plain_number k) (bytes_between store.memory at end)) e → r e) → does (reads_kind first k) store (at ∷ end ∷ to ∷ []) r)
    (truths : (store : Store World) (at to : ℕ) (r : CallEnd World → Type 0) → MayRead store.memory at end to → ((e : CallEnd World) → IsRead store end to (plain_at plain.Bool (bytes_between store.memory at end)) e → r e) → does (reads_truth first) store (at ∷ end ∷ to ∷ []) r) where
  abbrev pub place : ℕ → List ℕ → ℕ → ℕ → ℕ → ℕ → ℕ → ℕ → ℕ → ℕ → ℕ → At World
  place spent memory a to v sc b t d n x = record { spent = spent; store = with_memory s memory; locals = a ∷ end ∷ to ∷ v ∷ sc ∷ b ∷ t ∷ d ∷ n ∷ x ∷ [] }

  -- What is to hold of each end.
  abbrev pub Fin : ℕ → List ℕ → ℕ → List Wired → Option Values → Type 0
  Fin most memory to ws (Some values) = (cost : ℕ) (new : List ℕ) → cost ≤ most → IsBeside memory new to (8 * length ws) → AreValues ws values → WordsAre new to values → q (Comes cost (with_memory s new) (Some 1))
  Fin most memory to ws None = (cost : ℕ) (new : List ℕ) → cost ≤ most → IsBeside memory new to (8 * length ws) → q (Comes cost (with_memory s new) (Some 0))

  abbrev Whole : Result (Values × List ℕ) Fault → Option Values
  Whole r = whole_of r

  turned : (x : Bool) → not x ≡ false → x ≡ true
  turned true e = refl
  turned false e = cc

  turned_back : (x : Bool) → not x ≡ true → x ≡ false
  turned_back true e = cc
  turned_back false e = refl

  -- After a value the others are read behind it.
  others_fin : (most a to : ℕ) (memory : List ℕ) (w : Wired) (ws : List Wired) (p : Datum) (r : Result (Values × List ℕ) Fault) → to + 8 * suc (length ws) ≤ length memory → HoldsBytes memory → IsGood w p
      → Fin most memory to (w ∷ ws) (whole_of (with_value p r)) → Fin most (written memory to 8 (word_of p)) (to + 8) ws (whole_of r)
  others_fin most a to memory w ws p (Err f) inside holds good h = λ cost new le beside. h cost new le (joined new beside)
    where
      joined : (new : List ℕ) → IsBeside (written memory to 8 (word_of p)) new (to + 8) (8 * length ws) → IsBeside memory new to (8 * suc (length ws))
      joined new beside = beside_more memory (written memory to 8 (word_of p)) new to (8 * suc (length ws)) (to + 8) (8 * length ws) (beside_word memory to (word_of p) (8 * suc (length ws)) (omega (arith, inside)) (omega arith) holds) beside (omega arith) (omega arith)
  others_fin most a to memory w ws p (Ok (values, b ∷ bs)) inside holds good h = λ cost new le beside. h cost new le (joined new beside)
    where
      joined : (new : List ℕ) → IsBeside (written memory to 8 (word_of p)) new (to + 8) (8 * length ws) → IsBeside memory new to (8 * suc (length ws))
      joined new beside = beside_more memory (written memory to 8 (word_of p)) new to (8 * suc (length ws)) (to + 8) (8 * length ws) (beside_word memory to (word_of p) (8 * suc (length ws)) (omega (arith, inside)) (omega arith) holds) beside (omega arith) (omega arith)
  others_fin most a to memory w ws p (Ok (values, [])) inside holds good h =
      λ cost new le beside are words.
      h cost new le (beside_more memory (written memory to 8 (word_of p)) new to (8 * suc (length ws)) (to + 8) (8 * length ws) (beside_word memory to (word_of p) (8 * suc (length ws)) (omega (arith, inside)) (omega arith) holds) beside (omega arith) (omega arith)) (good.0, refl, are)
      (ap number_of (same_below (written memory to 8 (word_of p)) new (to + 8) to 8 beside.below (omega arith)) ∙ word_stored memory to (word_of p) (omega (arith, inside)) good.1, words)

  -- the end of the bytes
  end_is : (most spent a to v sc b t d n x : ℕ) (memory bs : List ℕ) → a + length bs ≡ end → end < 2 ^ 32 → HoldsBytes memory → spent + 10 ≤ most → Fin most memory to [] (whole_of (Ok (Nil, bs))) → Before pages m does at_end (ends arguments_type q) (place spent memory a to v sc b t d n x)
  end_is most spent a to v sc b t d n x memory [] long small holds le h =
      let e : a ≡ end = omega (arith, long) in
      on_flag _ _ (not (nat_eq (low I32 a) (low I32 end)))
      (λ c. h (spent + 4 + 2 + 2) memory (omega (arith, le)) (beside_none memory to 0 holds) tt tt)
      (λ c. absurd (cc (sym (turned_back (nat_eq (low I32 a) (low I32 end)) c) ∙ alike (low I32 a) (low I32 end) (ap (low I32) e))))
    where
      alike : (a b : ℕ) → a ≡ b → nat_eq a b ≡ true
      alike a b h = grind (arith, nat_tests)
  end_is most spent a to v sc b t d n x memory (y ∷ bs) long small holds le h =
      on_flag _ _ (not (nat_eq (low I32 a) (low I32 end)))
      (λ c. absurd (let e : a ≡ end = same a end (sym (λ i. nat_eq (low_is a (omega (arith, long, small)) i) (low_is end small i)) ∙ turned (nat_eq (low I32 a) (low I32 end)) c) in omega (arith, e, long)))
      (λ c. h (spent + 4 + 2 + 2) memory (omega (arith, le)) (beside_none memory to 0 holds))
    where
      same : (a b : ℕ) → nat_eq a b ≡ true → a ≡ b
      same a b h = grind (arith, nat_tests)

  abbrev behind_call : Code → Code
  behind_call rest = Set 6 (IsZero I32 (Local 0)) (unless (Set 2 (Binary I32 Add (Local 2) (Word (pos 8))) rest))

  abbrev After : Code → At World → CallEnd World → Type 0
  After rest h e = after_call (spend 4 h) (ResultTo (Some 0) (Before pages m does (behind_call rest) (ends arguments_type q))) (ends arguments_type q) e

  -- a value that a function reads
  take_is : (reads : ℕ) (w : Wired) (ws : List Wired) (most spent a to v sc b t d n x : ℕ) (memory bs : List ℕ) (r : Result (Datum × List ℕ) Fault) → a + length bs ≡ end → end ≤ to → to + 8 * suc (length ws) ≤ length memory → length memory < 2 ^ 32 → HoldsBytes memory → spent + 520 ≤ most
      → ((k : CallEnd World → Type 0) → ((e : CallEnd World) → IsRead (with_memory s memory) end to r e → k e) → does reads (with_memory s memory) (a ∷ end ∷ to ∷ []) k)
      → Takes (IsGood w) bs r → Fin most memory to (w ∷ ws) (whole_of (r >>= λ p. with_value p.0 (read_column ws p.1)))
      → ((p : Datum) (count now t : ℕ) → count ≤ length bs → IsGood w p → now ≤ spent + 520 → Fin most (written memory to 8 (word_of p)) (to + 8) ws (whole_of (read_column ws (drop count bs)))
      → Before pages m does (take_values first ws) (ends arguments_type q) (place now (written memory to 8 (word_of p)) (a + count) (to + 8) v sc b t d n x))
      → Before pages m does (take_value reads (take_values first ws)) (ends arguments_type q) (place spent memory a to v sc b t d n x)
  take_is reads w ws most spent a to v sc b t d n x memory bs (Err f) long under inside small holds le calls takes fin next =
      calls (After (take_values first ws) (place spent memory a to v sc b t d n x))
      (λ e h.
      subst (After (take_values first ws) (place spent memory a to v sc b t d n x)) (sym h.2)
      (fin (spent + 4 + h.0 + 1 + 3 + 2 + 2) memory (omega (arith, le, h.1)) (beside_none memory to (8 * suc (length ws)) holds)))
  take_is reads w ws most spent a to v sc b t d n x memory bs (Ok y) long under inside small holds le calls takes fin next =
      let count : ℕ = takes.1 in
      let new : List ℕ = written memory to 8 (word_of y.0) in
      let rest : end - length y.1 ≡ a + count = (λ i. end - length (takes.4 i)) ∙ omega (arith, length-drop count bs, takes.3, long) in
      let lower : to < 2 ^ 32 = omega (arith, inside, small) in
      let word : low I32 (a + count) ≡ a + count = low_is (a + count) (omega (arith, takes.3, long, under, lower)) in
      let fin : Fin most memory to (w ∷ ws) (whole_of (with_value y.0 (read_column ws (drop count bs)))) = subst (λ l. Fin most memory to (w ∷ ws) (whole_of (with_value y.0 (read_column ws l)))) takes.4 fin in
      let later = others_fin most a to memory w ws y.0 (read_column ws (drop count bs)) inside holds takes.0 fin in
      calls (After (take_values first ws) (place spent memory a to v sc b t d n x))
      (λ e h.
      subst (After (take_values first ws) (place spent memory a to v sc b t d n x)) (sym h.2)
      (subst (λ p. Before pages m does (behind_call (take_values first ws)) (ends arguments_type q) (place (spent + 4 + h.0 + 1) new p to v sc b t d n x)) (sym rest)
      (on_flag _ _ (nat_eq (low I32 (a + count)) 0)
      (λ c.
      subst (λ p. Before pages m does (take_values first ws) (ends arguments_type q) (place (spent + 4 + h.0 + 1 + 3 + 2 + 4) new (a + count) p v sc b (flag (nat_eq (low I32 (a + count)) 0)) d n x)) (sym (low_is (to + 8) (omega (arith, inside, small))))
      (next y.0 count (spent + 4 + h.0 + 1 + 3 + 2 + 4) (flag (nat_eq (low I32 (a + count)) 0)) takes.3 takes.0 (omega (arith, h.1)) later))
      (λ c. absurd (let none : a + count ≡ 0 = zero_is (a + count) (sym (ap (λ k. nat_eq k 0) word) ∙ c) in omega (arith, none, takes.2))))))
    where
      zero_is : (n : ℕ) → nat_eq n 0 ≡ true → n ≡ 0
      zero_is n e = grind (arith, nat_tests)

  pub values_are : (ws : List Wired) (most spent a to v sc b t d n x : ℕ) (memory bs : List ℕ) → a + length bs ≡ end → end ≤ to → to + 8 * length ws ≤ length memory → length memory < 2 ^ 32 → HoldsBytes memory → Stand memory a bs → Bytes bs → spent + (520 * length ws + 10) ≤ most
      → Fin most memory to ws (whole_of (read_column ws bs)) → Before pages m does (take_values first ws) (ends arguments_type q) (place spent memory a to v sc b t d n x)
  values_are [] most spent a to v sc b t d n x memory bs long under inside small holds is all le fin = end_is most spent a to v sc b t d n x memory bs long (omega (arith, under, inside, small)) holds (omega (arith, le)) fin
  values_are (w ∷ ws) most spent a to v sc b t d n x memory bs long under inside small holds is all le fin =
      by w fin
      (λ p count now t few good less after.
      let new : List ℕ = written memory to 8 (word_of p) in
      let st = stored memory to 8 (word_of p) (omega (arith, inside)) in
      let left : length (drop count bs) ≡ length bs - count = length-drop count bs in
      values_are ws most now (a + count) (to + 8) v sc b t d n x new (drop count bs) (omega (arith, left, long, few)) (omega (arith, under)) (omega (arith, inside, st.same_length)) (omega (arith, small, st.same_length)) (written_hold memory to 8 (word_of p) holds)
      (stand_below memory new to (a + count) (drop count bs) (st.below 0 to (omega arith)) (omega (arith, left, few, long, under)) (stand_dropped memory a count bs few is)) (bytes_dropped count bs all) (omega (arith, le, less)) after)
    where
      Next : Wired → Type 0
      Next w = (p : Datum) (count now t : ℕ) → count ≤ length bs → IsGood w p → now ≤ spent + 520 → Fin most (written memory to 8 (word_of p)) (to + 8) ws (whole_of (read_column ws (drop count bs))) → Before pages m does (take_values first ws) (ends arguments_type q) (place now (written memory to 8 (word_of p)) (a + count) (to + 8) v sc b t d n x)

      may : MayRead memory a end to
      may = record { order = omega (arith, long); inside = omega (arith, under, inside); place = omega (arith, inside); small = small; bytes = holds }

      seen : bytes_between memory a end ≡ bs
      seen = between_is memory a end bs long (omega (arith, under, inside)) is

      by : (w : Wired) → Fin most memory to (w ∷ ws) (whole_of (read_column (w ∷ ws) bs)) → Next w → Before pages m does (take_wired first w (take_values first ws)) (ends arguments_type q) (place spent memory a to v sc b t d n x)
      by (Number k) fin next =
          take_is (reads_kind first k) (Number k) ws most spent a to v sc b t d n x memory bs (plain_at (plain_number k) bs) long under inside small holds (omega (arith, le))
          (λ r then. kinds k (with_memory s memory) a to r may (λ e h. then e (subst (λ l. IsRead (with_memory s memory) end to (plain_at (plain_number k) l) e) seen h))) (number_takes k bs all) fin next
      by Truth fin next =
          take_is (reads_truth first) Truth ws most spent a to v sc b t d n x memory bs (plain_at plain.Bool bs) long under inside small holds (omega (arith, le))
          (λ r then. truths (with_memory s memory) a to r may (λ e h. then e (subst (λ l. IsRead (with_memory s memory) end to (plain_at plain.Bool l) e) seen h))) (truth_takes bs) fin next
      by Nothing fin next =
          let address : low I32 to + 0 ≡ to = ap (λ k. k + 0) (low_is to (omega (arith, inside, small))) ∙ omega arith in
          let good : IsGood Nothing (part.Record 0) = (refl, omega arith) in
          on_true _ _ (is_inside memory (low I32 to + 0) 8) (ap (λ k. is_inside memory k 8) address ∙ le_test (to + 8) (length memory) (omega (arith, inside)))
          (subst (λ h. Before pages m does (take_values first ws) (ends arguments_type q) h) (λ i. place (spent + 3 + 4) (written memory (sym address i) 8 0) (plus_none a i) (sym (low_is (to + 8) (omega (arith, inside, small))) i) v sc b t d n x)
          (next (part.Record 0) 0 (spent + 3 + 4) t (omega arith) good (omega arith) (others_fin most a to memory Nothing ws (part.Record 0) (read_column ws bs) inside holds good fin)))
        where
          plus_none : (a : ℕ) → a + 0 ≡ a
          plus_none a = omega arith
