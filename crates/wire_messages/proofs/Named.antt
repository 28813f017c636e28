-- The types of arguments are compared.
use Rattle.std.proofs.Common.{◌≡◌, ℕ, zero, suc, ◌+◌, ◌-◌, ◌*◌, ◌^◌, ◌<◌, ◌≤◌, List, [], ◌∷◌, length, take, drop, get_or, Bool, true, false, not, cond, nat_le, nat_eq, Option, Some, None, slice_get, Result, Ok, Err, refl, sym, ap, ◌∙◌, subst, arith, drop-cons}
use Rattle.std.proofs.lemmas.Bool.Decides.{nat_tests}
use Rattle.mo_types.specs.declared.wire.Plain.TheVariants as plain
use Rattle.mo_types.specs.declared.wire.Wire.{Wire}
use Rattle.mo_types.specs.declared.wire.Wire.TheVariants.{Simple, Opt, Vec, Record, Variant, Func, Service}
use Rattle.mo_types.specs.declared.wire.TableRef.{TableRef}
use Rattle.mo_types.specs.declared.wire.TableRef.TheVariants.{Plainly, At}
use Rattle.mo_types.specs.Header.{or_empty, IsWithin}
use Rattle.mo_types.specs.Wire.{plain_code, plain_number}
use Rattle.candid_header.specs.declared.fault.Fault.{Fault}
use Rattle.candid_header.specs.Table.{ref_at}
use Rattle.candid_header.proofs.Refs.{code_range, ref_exact}
use Rattle.wasm_tree.specs.declared.trap.Trap.TheVariants as trap
use Rattle.wasm_tree.specs.declared.types.ValueType.TheVariants.{I32, I64}
use Rattle.wasm_tree.specs.declared.op.LoadKind.TheVariants.{I64From8U}
use Rattle.wasm_tree.specs.Numeric.{low, flag}
use Rattle.wasm_tree.specs.Exec.{Store, number_of}
use Rattle.low_ir.specs.Tree.{Code, Module}
use Rattle.low_rules.specs.Rule.{At as Point, CallEnd, Comes, Contracts, Before, loads, ends}
use Rattle.low_rules.proofs.Steps.{on_flag, on_ok, low_is, le_test, le_true}
use Rattle.memory_routines.specs.Heaps.{HoldsBytes}
use Rattle.memory_routines.specs.Numerals.{with_memory}
use Rattle.wire_numbers.proofs.Bytes.{Stand, long_is}
use Rattle.wire_numbers.proofs.Numbers.{Bytes}
use Rattle.wire_tables.specs.References.{ref_word}
use Rattle.wire_tables.specs.Tables.{mark_of, Marks}
use Rattle.wire_tables.proofs.Pointed.{Refers, ref_is}
use Rattle.wire_messages.specs.declared.column.Wired.{Wired}
use Rattle.wire_messages.specs.declared.column.Wired.TheVariants.{Number, Truth, Unit as Nothing}
use Rattle.wire_messages.specs.Arguments.{is_code, is_marked, is_wired, refs_are}
use Rattle.wire_messages.proofs.Matched.{fits_type, on_ref, match_refs}
use Rattle.wire_messages.proofs.Taken.{arguments_type}

same_code : (a b : ℕ) → nat_eq (4096 + a) (4096 + b) ≡ nat_eq a b
same_code a b = by (nat_eq a b) refl
  where
    by : (t : Bool) → nat_eq a b ≡ t → nat_eq (4096 + a) (4096 + b) ≡ t
    by true e = grind (arith, nat_tests)
    by false e = grind (arith, nat_tests)

no_code : (i b : ℕ) → i < 4096 → nat_eq i (4096 + b) ≡ false
no_code i b lt = grind (arith, nat_tests)

turned : (x : Bool) → not x ≡ false → x ≡ true
turned true e = refl
turned false e = cc

turned_back : (x : Bool) → not x ≡ true → x ≡ false
turned_back true e = cc
turned_back false e = refl

there : (table : List (Wire TableRef)) (i : ℕ) → i < length table → (h : Wire TableRef) × (slice_get table i ≡ Some h)
there [] i lt = absurd (omega (arith, lt))
there (h ∷ table) zero lt = (h, refl)
there (h ∷ table) (suc i) lt = there table i (omega (arith, lt))

small_mark : {A : Type 0} (h : Wire A) → mark_of h < 2 ^ 64
small_mark (Simple p) = omega arith
small_mark (Opt b) = omega arith
small_mark (Vec b) = omega arith
small_mark (Record []) = omega arith
small_mark (Record (e ∷ es)) = omega arith
small_mark (Variant es) = omega arith
small_mark (Func ps rs ns) = omega arith
small_mark (Service ms) = omega arith

loads_mark : (memory : List ℕ) (a b : ℕ) → b ≡ a → a + 8 < length memory → loads memory I64From8U (b + 8) ≡ Ok (get_or memory (a + 8) 0)
loads_mark memory a b e lt =
    let inside : nat_le (a + 8 + 1) (length memory) ≡ true = le_test (a + 8 + 1) (length memory) (omega (arith, lt)) in
    let found : drop (a + 8) memory ≡ get_or memory (a + 8) 0 ∷ drop (suc (a + 8)) memory = drop-cons memory (a + 8) 0 lt in
    let whole : get_or memory (a + 8) 0 + 256 * 0 ≡ get_or memory (a + 8) 0 = omega arith in
    ap (λ b. loads memory I64From8U (b + 8)) e
    ∙ ap (λ t. cond t (Ok (number_of (take 1 (drop (a + 8) memory)))) (Err trap.Bounds)) inside
    ∙ ap (λ (l : List ℕ). Ok (number_of (take 1 l))) found
    ∙ ap (λ n. Ok n) whole

module _ {World : Type 0} (pages : ℕ) (m : Module) (does : Contracts World) (s : Store World) (end to : ℕ) (q : CallEnd World → Type 0) (memory : List ℕ) (small : length memory < 2 ^ 32) (holds : HoldsBytes memory) (far : end ≤ length memory) (table : List (Wire TableRef)) (few : length table ≤ 4096) (room : to + 8200 ≤ length memory) (marks : Marks memory to table) (rest : Code) where
  abbrev at : ℕ → ℕ → ℕ → ℕ → ℕ → ℕ → ℕ → ℕ → Point World
  at spent a v sc b t d x = record { spent = spent; store = with_memory s memory; locals = a ∷ end ∷ to ∷ v ∷ sc ∷ b ∷ t ∷ d ∷ length table ∷ x ∷ [] }

  abbrev Refuses : ℕ → Type 0
  Refuses most = (spent : ℕ) → spent ≤ most → q (Comes spent (with_memory s memory) (Some 0))

  abbrev pub OnMatch : ℕ → Option (List ℕ) → Type 0
  OnMatch most (Some bs) = (now v sc b t d x : ℕ) → now ≤ most → length bs ≤ end → Stand memory (end - length bs) bs → Bytes bs → Before pages m does rest (ends arguments_type q) (at now (end - length bs) v sc b t d x)
  OnMatch most None = Refuses most

  code_fits : (r : TableRef) (c : ℕ) → IsWithin (length table) r → c < 128 → nat_eq (low I64 (ref_word r)) (low I64 (4096 + c)) ≡ nat_eq (ref_word r) (4096 + c)
  code_fits (Plainly p) c is lt = let range = code_range p in λ i. nat_eq (long_is (4096 + plain_code p) (omega (arith, range.1)) i) (long_is (4096 + c) (omega (arith, lt)) i)
  code_fits (At j) c is lt = λ i. nat_eq (long_is j (omega (arith, is, few)) i) (long_is (4096 + c) (omega (arith, lt)) i)

  -- a type without parts
  code_is : (r : TableRef) (c now a sc b t d x : ℕ) (next : Code) → IsWithin (length table) r → c < 128 → (nat_eq (ref_word r) (4096 + c) ≡ true → (now2 t2 : ℕ) → now2 ≤ now + 30 → Before pages m does next (ends arguments_type q) (at now2 a (ref_word r) sc b t2 d x))
      → (nat_eq (ref_word r) (4096 + c) ≡ false → Refuses (now + 30)) → Before pages m does (is_code c next) (ends arguments_type q) (at now a (ref_word r) sc b t d x)
  code_is r c now a sc b t d x next is lt accept refuse =
      on_flag _ _ (not (nat_eq (low I64 (ref_word r)) (low I64 (4096 + c))))
      (λ e. accept (sym (code_fits r c is lt) ∙ turned (nat_eq (low I64 (ref_word r)) (low I64 (4096 + c))) e) (now + 4 + 2) (flag (not (nat_eq (low I64 (ref_word r)) (low I64 (4096 + c))))) (omega arith))
      (λ e. refuse (sym (code_fits r c is lt) ∙ turned_back (nat_eq (low I64 (ref_word r)) (low I64 (4096 + c))) e) (now + 4 + 2 + 2) (omega arith))

  -- a record without fields
  marked_is : (r : TableRef) (now a sc b t d x : ℕ) (next : Code) → IsWithin (length table) r → (fits_type table r Nothing ≡ true → (now2 b2 t2 x2 : ℕ) → now2 ≤ now + 30 → Before pages m does next (ends arguments_type q) (at now2 a (ref_word r) sc b2 t2 d x2))
      → (fits_type table r Nothing ≡ false → Refuses (now + 30)) → Before pages m does (is_marked next) (ends arguments_type q) (at now a (ref_word r) sc b t d x)
  marked_is (Plainly p) now a sc b t d x next is accept refuse =
      let range = code_range p in
      let large : nat_le (low I64 4096) (low I64 (4096 + plain_code p)) ≡ true = (λ i. nat_le 4096 (long_is (4096 + plain_code p) (omega (arith, range.1)) i)) ∙ le_test 4096 (4096 + plain_code p) (omega arith) in
      on_flag _ _ (nat_le (low I64 4096) (low I64 (4096 + plain_code p))) (λ e. absurd (cc (sym large ∙ e))) (λ e. refuse refl (now + 4 + 2 + 2) (omega arith))
  marked_is (At i) now a sc b t d x next is accept refuse =
      let found = there table i is in
      let mark : ℕ = mark_of found.0 in
      let seen : get_or memory (to + i + 8) 0 ≡ mark = ap (λ k. get_or memory k 0) (let e : to + i + 8 ≡ to + 8 + i = omega arith in e) ∙ marks.marks i found.0 found.1 in
      let fits : fits_type table (At i) Nothing ≡ nat_eq mark 2 = ap (λ o. nat_eq (mark_of (or_empty o)) 2) found.1 in
      let address : low I32 (low I32 (low I32 i + to)) ≡ to + i = ap (λ k. low I32 (low I32 (k + to))) (low_is i (omega (arith, is, few))) ∙ ap (low I32) (low_is (i + to) (omega (arith, is, few, room, small))) ∙ low_is (i + to) (omega (arith, is, few, room, small)) ∙ omega arith in
      let tested : nat_eq (low I64 mark) (low I64 2) ≡ nat_eq mark 2 = ap (λ k. nat_eq k 2) (long_is mark (small_mark found.0)) in
      on_flag _ _ (nat_le (low I64 4096) (low I64 i))
      (λ e.
      on_ok _ _ _ mark (loads_mark memory (to + i) (low I32 (low I32 (low I32 i + to))) address (omega (arith, is, few, room)) ∙ ap Ok seen)
      (on_flag _ _ (not (nat_eq (low I64 mark) (low I64 2)))
      (λ f. accept (fits ∙ sym tested ∙ turned (nat_eq (low I64 mark) (low I64 2)) f) (now + 4 + 2 + 3 + 4 + 3 + 4 + 2) mark (flag (not (nat_eq (low I64 mark) (low I64 2)))) (low I32 (low I32 i + to)) (omega arith))
      (λ f. refuse (fits ∙ sym tested ∙ turned_back (nat_eq (low I64 mark) (low I64 2)) f) (now + 4 + 2 + 3 + 4 + 3 + 4 + 2 + 2) (omega arith))))
      (λ e. absurd (let large : 4096 ≤ i = le_true 4096 i (sym (ap (nat_le 4096) (long_is i (omega (arith, is, few)))) ∙ e) in omega (arith, large, is, few)))

  wired_is : (w : Wired) (r : TableRef) (now a sc b t d x : ℕ) (next : Code) → IsWithin (length table) r → (fits_type table r w ≡ true → (now2 b2 t2 x2 : ℕ) → now2 ≤ now + 30 → Before pages m does next (ends arguments_type q) (at now2 a (ref_word r) sc b2 t2 d x2))
      → (fits_type table r w ≡ false → Refuses (now + 30)) → Before pages m does (is_wired w next) (ends arguments_type q) (at now a (ref_word r) sc b t d x)
  wired_is (Number k) (Plainly p) now a sc b t d x next is accept refuse =
      code_is (Plainly p) (plain_code (plain_number k)) now a sc b t d x next is (let range = code_range (plain_number k) in range.1) (λ e now2 t2 le. accept (sym (same_code (plain_code p) (plain_code (plain_number k))) ∙ e) now2 b t2 x le) (λ e. refuse (sym (same_code (plain_code p) (plain_code (plain_number k))) ∙ e))
  wired_is (Number k) (At i) now a sc b t d x next is accept refuse =
      code_is (At i) (plain_code (plain_number k)) now a sc b t d x next is (let range = code_range (plain_number k) in range.1) (λ e. absurd (cc (sym (no_code i (plain_code (plain_number k)) (omega (arith, is, few))) ∙ e))) (λ e. refuse refl)
  wired_is Truth (Plainly p) now a sc b t d x next is accept refuse =
      code_is (Plainly p) (plain_code plain.Bool) now a sc b t d x next is (omega arith) (λ e now2 t2 le. accept (sym (same_code (plain_code p) (plain_code plain.Bool)) ∙ e) now2 b t2 x le) (λ e. refuse (sym (same_code (plain_code p) (plain_code plain.Bool)) ∙ e))
  wired_is Truth (At i) now a sc b t d x next is accept refuse = code_is (At i) (plain_code plain.Bool) now a sc b t d x next is (omega arith) (λ e. absurd (cc (sym (no_code i (plain_code plain.Bool) (omega (arith, is, few))) ∙ e))) (λ e. refuse refl)
  wired_is Nothing r now a sc b t d x next is accept refuse = marked_is r now a sc b t d x next is accept refuse

  pub refs_is : (ws : List Wired) (spent a v sc b t d x : ℕ) (bs : List ℕ) → a + length bs ≡ end → Stand memory a bs → Bytes bs → OnMatch (spent + 300 * length ws) (match_refs table ws bs) → Before pages m does (refs_are ws rest) (ends arguments_type q) (at spent a v sc b t d x)
  refs_is [] spent a v sc b t d x bs long is all h =
      let e : end - length bs ≡ a = omega (arith, long) in
      subst (λ a. Before pages m does rest (ends arguments_type q) (at spent a v sc b t d x)) e (h spent v sc b t d x (omega arith) (omega (arith, long)) (subst (λ a. Stand memory a bs) (sym e) is) all)
  refs_is (w ∷ ws) spent a v sc b t d x bs long is all h =
      ref_is pages m does (with_memory s memory) small holds end to far (length table) few (x ∷ []) (ends arguments_type q) (is_wired w (refs_are ws rest)) a v sc b t d spent bs long is all
      (by (λ spent a v sc b t d x bs. refs_is ws spent a v sc b t d x bs) (ref_at (length table) bs) refl)
    where
      earlier : (o : Option (List ℕ)) (a b : ℕ) → b ≤ a → OnMatch a o → OnMatch b o
      earlier None a b le h = λ now l. h now (omega (arith, l, le))
      earlier (Some bs) a b le h = λ now v sc b t d x l. h now v sc b t d x (omega (arith, l, le))

      by : ((spent a v sc b t d x : ℕ) (bs : List ℕ) → a + length bs ≡ end → Stand memory a bs → Bytes bs → OnMatch (spent + 300 * length ws) (match_refs table ws bs) → Before pages m does (refs_are ws rest) (ends arguments_type q) (at spent a v sc b t d x))
          → (r : Result (TableRef × List ℕ) Fault) → ref_at (length table) bs ≡ r → Refers pages m does (with_memory s memory) small holds end to far (length table) few (x ∷ []) (ends arguments_type q) (is_wired w (refs_are ws rest)) spent bs r
      by ih (Err f) e = let none : Refuses (spent + 300 * suc (length ws)) = subst (λ r. OnMatch (spent + 300 * suc (length ws)) (on_ref table w (match_refs table ws) r)) e h in λ now locals le. none now (omega (arith, le))
      by ih (Ok y) e =
          let inside = ((ref_exact (length table)).sound bs y e).spells.1 in
          let some : OnMatch (spent + 300 * suc (length ws)) (cond (fits_type table y.0 w) (match_refs table ws y.1) None) = subst (λ r. OnMatch (spent + 300 * suc (length ws)) (on_ref table w (match_refs table ws) r)) e h in
          λ now sc b t d le shorter stands all.
          wired_is w y.0 now (end - length y.1) sc b t d x (refs_are ws rest) inside
          (λ f now2 b2 t2 x2 less.
          let some : OnMatch (spent + 300 * suc (length ws)) (match_refs table ws y.1) = subst (λ t. OnMatch (spent + 300 * suc (length ws)) (cond t (match_refs table ws y.1) None)) f some in
          ih now2 (end - length y.1) (ref_word y.0) sc b2 t2 d x2 y.1 (omega (arith, shorter, long)) stands all (earlier (match_refs table ws y.1) (spent + 300 * suc (length ws)) (now2 + 300 * length ws) (omega (arith, le, less)) some))
          (λ f now2 less. let none : Refuses (spent + 300 * suc (length ws)) = subst (λ t. OnMatch (spent + 300 * suc (length ws)) (cond t (match_refs table ws y.1) None)) f some in none now2 (omega (arith, le, less)))
