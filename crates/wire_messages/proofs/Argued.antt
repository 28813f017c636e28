-- Arguments are read.
use Rattle.std.proofs.Common.{◌≡◌, ℕ, ◌+◌, ◌-◌, ◌*◌, ◌^◌, ◌<◌, ◌≤◌, List, [], ◌∷◌, ◌++◌, length, drop, Bool, true, false, not, cond, nat_eq, Option, Some, None, Result, Ok, Err, refl, sym, ap, ◌∙◌, subst, arith, length-append, length-drop}
use Rattle.std.proofs.lemmas.Bool.Decides.{nat_tests}
use Rattle.std.proofs.Math.Seq.{drop-append_seam}
use Rattle.exact_reading.specs.Reading.{◌>>=◌}
use Rattle.exact_reading.proofs.Numbers.{unsigned_exact}
use Rattle.exact_reading.proofs.Prefix.{prefix_sound}
use Rattle.mo_num.specs.declared.kind.Kind.{Kind}
use Rattle.mo_types.specs.declared.wire.Plain.TheVariants as plain
use Rattle.mo_types.specs.declared.wire.Wire.{Wire}
use Rattle.mo_types.specs.declared.wire.TableRef.{TableRef}
use Rattle.mo_types.specs.Header.{magic}
use Rattle.mo_types.specs.Values.{Values}
use Rattle.mo_types.specs.Wire.{plain_number}
use Rattle.candid_header.specs.declared.fault.Fault.{Fault}
use Rattle.candid_header.specs.declared.fault.Fault.TheVariants.{Short, NotDidl, BadTable}
use Rattle.candid_header.specs.Header.{magic_at}
use Rattle.candid_header.specs.Reading.{u32_at}
use Rattle.candid_header.specs.Table.{table_at}
use Rattle.candid_header.proofs.Entries.{table_exact}
use Rattle.candid_read.specs.Parts.{plain_at}
use Rattle.mo_coding.specs.Reading.{whole_of}
use Rattle.wasm_tree.specs.declared.types.ValueType.TheVariants.{I32, I64}
use Rattle.wasm_tree.specs.Numeric.{low, flag}
use Rattle.wasm_tree.specs.Exec.{Store}
use Rattle.low_ir.specs.Tree.{Module}
use Rattle.low_rules.specs.Rule.{CallEnd, Comes, Contracts, Before, spend, after_call, ResultTo, ends}
use Rattle.low_rules.proofs.Steps.{on_flag, on_ok, low_is}
use Rattle.memory_routines.specs.Numerals.{with_memory}
use Rattle.wire_numbers.specs.Readers.{bytes_between, MayRead, IsRead}
use Rattle.wire_numbers.proofs.Bytes.{Stand, long_is}
use Rattle.wire_numbers.proofs.Numbers.{Bytes}
use Rattle.wire_numbers.proofs.Words.{stand_dropped, between_stands, stand_bytes}
use Rattle.wire_tables.specs.Tables.{table_read, marks_size, IsBeside, Marks, TableIsRead}
use Rattle.wire_tables.proofs.Referred.{Goes, u32_is}
use Rattle.wire_messages.specs.declared.column.Wired.{Wired}
use Rattle.wire_messages.specs.Arguments.{reads_kind, reads_truth, take_values, behind_count, behind_table, read_arguments, MayReadAll, all_steps, AreRead}
use Rattle.wire_messages.proofs.Matched.{read_column, values_of, match_refs, on_count, on_table}
use Rattle.wire_messages.proofs.Replied.{loads_word}
use Rattle.wire_messages.proofs.Stored.{bytes_dropped, stand_below, beside_none, beside_more}
use Rattle.wire_messages.proofs.Taken.{arguments_type, place, Fin, values_are}
use Rattle.wire_messages.proofs.Named.{OnMatch, refs_is}

-- ---- what a table that is read leaves

abbrev Left : List ℕ → List (Wire TableRef) × List ℕ → Type 0
Left bs t = (length t.0 ≤ 4096) × (count : ℕ) × (0 < count) × (count ≤ length bs) × (t.1 ≡ drop count bs)

left_by : (bs : List ℕ) (t : List (Wire TableRef) × List ℕ) → table_read bs ≡ Ok t → Left bs t
left_by bs t e = by (magic_at bs) refl e
  where
    by : (r : Result (List ℕ) Fault) → magic_at bs ≡ r → (r >>= λ rest. table_at rest) ≡ Ok t → Left bs t
    by (Err f) m e = cc
    by (Ok rest) m e =
        let front = table_exact.sound rest t e in
        let before : bs ≡ magic ++ rest = prefix_sound Short NotDidl magic bs rest m in
        let whole : bs ≡ (magic ++ front.front) ++ t.1 = before ∙ ap (λ l. magic ++ l) front.split in
        let count : length (magic ++ front.front) ≡ 4 + length front.front = length-append magic front.front in
        (front.spells.1, length (magic ++ front.front), omega (arith, count), omega (arith, ap length whole, length-append (magic ++ front.front) t.1), sym (drop-append_seam (magic ++ front.front) t.1) ∙ ap (drop (length (magic ++ front.front))) (sym whole))

small_count : (bs : List ℕ) (c : ℕ × List ℕ) → u32_at BadTable bs ≡ Ok c → c.0 < 4294967296
small_count bs c e = ((unsigned_exact Short BadTable 32).sound bs c e).spells.2

turned : (x : Bool) → not x ≡ false → x ≡ true
turned true e = refl
turned false e = cc

turned_back : (x : Bool) → not x ≡ true → x ≡ false
turned_back true e = cc
turned_back false e = refl

module _ {World : Type 0} (pages : ℕ) (m : Module) (does : Contracts World) (s : Store World) (at end to : ℕ) (table first : ℕ) (ws : List Wired) (may : MayReadAll s.memory at end to (length ws)) (q : CallEnd World → Type 0)
    (kinds : (k : Kind) (store : Store World) (at to : ℕ) (r : CallEnd World → Type 0) → MayRead store.memory at end to → ((e : CallEnd World) → IsRead store end to (plain_at (plain_number k) (bytes_between store.memory at end)) e → r e) → does (reads_kind first k) store (at ∷ end ∷ to ∷ []) r)
    (truths : (store : Store World) (at to : ℕ) (r : CallEnd World → Type 0) → MayRead store.memory at end to → ((e : CallEnd World) → IsRead store end to (plain_at plain.Bool (bytes_between store.memory at end)) e → r e) → does (reads_truth first) store (at ∷ end ∷ to ∷ []) r)
    (calls : (r : CallEnd World → Type 0) → ((e : CallEnd World) → TableIsRead s at end to (table_read (bytes_between s.memory at end)) e → r e) → does table s (at ∷ end ∷ to ∷ []) r) where
  abbrev bs : List ℕ
  bs = bytes_between s.memory at end

  abbrev most : ℕ
  most = all_steps (end - at) (length ws)

  abbrev Asked : Option Values → Type 0
  Asked o = (e : CallEnd World) → AreRead s at end to ws o e → q e

  wider : (memory : List ℕ) → IsBeside s.memory memory to marks_size → IsBeside s.memory memory to (marks_size + 8 * length ws)
  wider memory beside = beside_more s.memory s.memory memory to (marks_size + 8 * length ws) to marks_size (beside_none s.memory to (marks_size + 8 * length ws) may.bytes) beside (omega arith) (omega arith)

  none_so : Asked None → (memory : List ℕ) → IsBeside s.memory memory to marks_size → (cost : ℕ) → cost ≤ most → q (Comes cost (with_memory s memory) (Some 0))
  none_so h memory beside cost le = h (Comes cost (with_memory s memory) (Some 0)) (cost, memory, le, wider memory beside, refl)

  fin_of : (o : Option Values) → Asked o → (memory : List ℕ) → IsBeside s.memory memory to marks_size → Fin pages m does s first end q kinds truths most memory to ws o
  fin_of None h memory beside = λ cost new le inner. h _ (cost, new, le, beside_more s.memory memory new to (marks_size + 8 * length ws) to (8 * length ws) (wider memory beside) inner (omega arith) (omega arith), refl)
  fin_of (Some values) h memory beside = λ cost new le inner are words. h _ (cost, new, le, beside_more s.memory memory new to (marks_size + 8 * length ws) to (8 * length ws) (wider memory beside) inner (omega arith) (omega arith), are, words, refl)

  long : at + length bs ≡ end
  long = let there = between_stands s.memory at (end - at) (omega (arith, may.order, may.inside, may.place)) in omega (arith, there.0, may.order)

  module _ (memory : List ℕ) (t : List (Wire TableRef) × List ℕ) (read_so : table_read bs ≡ Ok t) (beside : IsBeside s.memory memory to marks_size) (marks : Marks memory to t.0) where
    left : Left bs t
    left = left_by bs t read_so

    small : length memory < 2 ^ 32
    small = omega (arith, may.small, beside.same_length)

    inside : to + (marks_size + 8 * length ws) ≤ length memory
    inside = omega (arith, may.place, beside.same_length)

    far : end ≤ length memory
    far = omega (arith, may.inside, inside)

    here : ℕ
    here = at + left.1

    stands : Stand memory (at + left.1) t.1
    stands =
        let there = between_stands s.memory at (end - at) (omega (arith, may.order, may.inside, may.place)) in
        subst (Stand memory (at + left.1)) (sym left.4)
        (stand_below s.memory memory to (at + left.1) (drop left.1 bs) beside.below (omega (arith, length-drop left.1 bs, left.3, long, may.inside)) (stand_dropped s.memory at left.1 bs left.3 there.1))

    all : Bytes t.1
    all = subst Bytes (sym left.4) (bytes_dropped left.1 bs (stand_bytes s.memory at bs may.bytes (let there = between_stands s.memory at (end - at) (omega (arith, may.order, may.inside, may.place)) in there.1)))

    behind : at + left.1 + length t.1 ≡ end
    behind = omega (arith, ap length left.4, length-drop left.1 bs, left.3, long)

    matched_so : (spent : ℕ) (o : Option (List ℕ)) → spent + (300 * length ws + (520 * length ws + 10)) ≤ most → Asked (values_of o ws) → OnMatch pages m does s end to q memory small beside.bytes far t.0 left.0 (omega (arith, inside)) marks (take_values first ws) (spent + 300 * length ws) o
    matched_so spent None le h = λ now less. none_so h memory beside now (omega (arith, le, less))
    matched_so spent (Some bs) le h =
        λ now v sc b u d x less few is every.
        values_are pages m does s first end q kinds truths ws most now (end - length bs) to v sc b u d (length t.0) x memory bs (omega (arith, few)) may.inside (omega (arith, inside)) small beside.bytes is every (omega (arith, le, less))
        (fin_of (whole_of (read_column ws bs)) h memory beside)

    counted_so : (spent : ℕ) (c : Result (ℕ × List ℕ) Fault) → u32_at BadTable t.1 ≡ c → spent + (300 * length ws + (520 * length ws + 290)) ≤ most → Asked (on_count t.0 ws c)
        → Goes pages m does (with_memory s memory) small beside.bytes end to far (length t.0 ∷ 0 ∷ []) (ends arguments_type q) (behind_count first ws) (λ n. n) spent t.1 c
    counted_so spent (Err f) e le h = λ now locals less. none_so h memory beside now (omega (arith, le, less))
    counted_so spent (Ok c) e le h =
        λ now sc b u d less shorter is every.
        let few : c.0 < 4294967296 = small_count t.1 c e in
        let same : nat_eq (low I64 c.0) (low I64 (length ws)) ≡ nat_eq c.0 (length ws) = λ i. nat_eq (long_is c.0 (omega (arith, few)) i) (long_is (length ws) (omega (arith, inside, small)) i) in
        on_flag _ _ (not (nat_eq (low I64 c.0) (low I64 (length ws))))
        (λ k.
        let yes_so : nat_eq c.0 (length ws) ≡ true = sym same ∙ turned (nat_eq (low I64 c.0) (low I64 (length ws))) k in
        let h : Asked (values_of (match_refs t.0 ws c.1) ws) = subst (λ b. Asked (cond b (values_of (match_refs t.0 ws c.1) ws) None)) yes_so h in
        refs_is pages m does s end to q memory small beside.bytes far t.0 left.0 (omega (arith, inside)) marks (take_values first ws) ws (now + 4 + 2) (end - length c.1) c.0 sc b (flag (not (nat_eq (low I64 c.0) (low I64 (length ws))))) d 0 c.1 (omega (arith, shorter, behind)) is every
        (matched_so (now + 4 + 2) (match_refs t.0 ws c.1) (omega (arith, le, less)) h))
        (λ k.
        let no_so : nat_eq c.0 (length ws) ≡ false = sym same ∙ turned_back (nat_eq (low I64 c.0) (low I64 (length ws))) k in
        let h : Asked None = subst (λ b. Asked (cond b (values_of (match_refs t.0 ws c.1) ws) None)) no_so h in
        none_so h memory beside (now + 4 + 2 + 2) (omega (arith, le, less)))

    tabled_so : (spent : ℕ) → spent + (300 * length ws + (520 * length ws + 310)) ≤ most → Asked (on_count t.0 ws (u32_at BadTable t.1)) → Before pages m does (behind_table first ws) (ends arguments_type q) (place pages m does s first end q kinds truths spent memory (end - length t.1) to 0 0 0 0 0 0 0)
    tabled_so spent le h =
        let spot : end - length t.1 ≡ at + left.1 = omega (arith, behind) in
        let word : low I32 (end - length t.1) ≡ at + left.1 = ap (low I32) spot ∙ low_is (at + left.1) (omega (arith, behind, far, small)) in
        on_flag _ _ (nat_eq (low I32 (end - length t.1)) 0)
        (λ k.
        on_ok _ _ _ (length t.0) (loads_word memory to (omega (arith, inside)) (omega (arith, inside, small)) ∙ ap Ok marks.count)
        (subst (λ a. Before pages m does (Rattle.wire_tables.specs.References.u32 (behind_count first ws)) (ends arguments_type q) (place pages m does s first end q kinds truths (spent + 3 + 2 + 3) memory a to 0 0 0 (flag (nat_eq (low I32 (end - length t.1)) 0)) 0 (length t.0) 0)) (sym spot)
        (u32_is pages m does (with_memory s memory) small beside.bytes end to far (length t.0 ∷ 0 ∷ []) (ends arguments_type q) (behind_count first ws) BadTable (at + left.1) 0 0 0 (flag (nat_eq (low I32 (end - length t.1)) 0)) 0 (spent + 3 + 2 + 3) t.1 behind stands all
        (counted_so (spent + 3 + 2 + 3) (u32_at BadTable t.1) refl (omega (arith, le)) h))))
        (λ k. absurd (let none : at + left.1 ≡ 0 = zero_is (at + left.1) (sym (ap (λ n. nat_eq n 0) word) ∙ k) in omega (arith, none, left.2)))
      where
        zero_is : (n : ℕ) → nat_eq n 0 ≡ true → n ≡ 0
        zero_is n e = grind (arith, nat_tests)

  abbrev After : CallEnd World → Type 0
  After e = after_call (spend 4 (place pages m does s first end q kinds truths 0 s.memory at to 0 0 0 0 0 0 0)) (ResultTo (Some 0) (Before pages m does (behind_table first ws) (ends arguments_type q))) (ends arguments_type q) e

  pub arguments_are : Asked (on_table ws (table_read bs)) → Before pages m does (read_arguments table first ws) (ends arguments_type q) (place pages m does s first end q kinds truths 0 s.memory at to 0 0 0 0 0 0 0)
  arguments_are h = calls After (λ e is. by (table_read bs) refl h e is)
    where
      by : (r : Result (List (Wire TableRef) × List ℕ) Fault) → table_read bs ≡ r → Asked (on_table ws r) → (e : CallEnd World) → TableIsRead s at end to r e → After e
      by (Err f) same h e is = subst After (sym is.4) (none_so h is.1 is.3 (0 + 4 + is.0 + 1 + 3 + 2 + 2) (omega (arith, is.2)))
      by (Ok t) same h e is = subst After (sym is.5) (tabled_so is.1 t same is.3 is.4 (0 + 4 + is.0 + 1) (omega (arith, is.2)) h)
