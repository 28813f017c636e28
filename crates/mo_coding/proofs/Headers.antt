-- Headers of a table of any length are read exactly.
use Rattle.std.proofs.Common.{◌≡◌, ℕ, ◌+◌, ◌-◌, Bool, true, List, [], ◌∷◌, ◌++◌, length, Option, Some, None, Result, Ok, Err, refl, sym, ap, ◌∙◌, subst, append_assoc, length-append, arith}
use Rattle.std.specs.Prelude.{slice_get}
use Rattle.std.specs.List.{list_all}
use Rattle.mo_types.specs.Sub.{Each}
use Rattle.mo_types.specs.declared.wire.Method.{Method}
use Rattle.mo_types.specs.declared.wire.Wire.{Wire}
use Rattle.mo_types.specs.declared.wire.Wire.TheVariants.{Simple, Opt, Vec, Record, Variant, Func, Service}
use Rattle.mo_types.specs.declared.wire.TableRef.{TableRef}
use Rattle.mo_types.specs.declared.wire.TableRef.TheVariants.{Plainly, At}
use Rattle.mo_types.specs.Spelling.{padded}
use Rattle.mo_types.specs.Header.{magic, IsHeader, IsList, IsEntry, IsTableRef, IsTable, IsWithin, IsFunction, or_empty, table_head, IsSound}
use Rattle.candid_header.specs.declared.fault.Fault.{Fault}
use Rattle.candid_header.specs.declared.fault.Fault.TheVariants.{BadTable, NotDidl, Short}
use Rattle.candid_header.specs.declared.header.Header.{Header}
use Rattle.candid_header.specs.Header.{magic_at, header}
use Rattle.candid_header.specs.Reading.{many, u32_at}
use Rattle.candid_header.specs.Table.{no_state, entry_item, is_func, is_some_func, is_func_at, have_functions, are_functions, refs_at}
use Rattle.candid_header.proofs.Entries.{IsLocal, IsAnEntry, entry_exact}
use Rattle.candid_header.proofs.Lists.{Linked, many_sound, many_complete, refs_exact}
use Rattle.candid_header.proofs.Numbers.{IsU32, u32_exact}
use Rattle.exact_reading.specs.Reading.{◌>>=◌}
use Rattle.exact_reading.proofs.Exact.{Exact, bind_ok, kept_exact, same_pair}
use Rattle.exact_reading.proofs.Prefix.{prefix_sound, prefix_complete}
use Rattle.mo_meaning.specs.Coding.{BeginsWith}
use Rattle.mo_values.specs.Shapes.{Bytes}
use Rattle.mo_coding.specs.Headers.{entries_at, table_at, header_at, length_by, header_length}
use Rattle.mo_coding.proofs.Truths.{both_true, true_both}

-- ---- entries

abbrev IsEntryIn : ℕ → Option ℕ → Wire TableRef → Type 0
IsEntryIn n s w = IsLocal n w

linked_local : (n : ℕ) (s : Option ℕ) (ws : List (Wire TableRef)) → Linked (IsEntryIn n) no_state s ws → Each (IsLocal n) ws
linked_local n s [] h = tt
linked_local n s (w ∷ ws) h = (h.0, linked_local n None ws h.1)

local_linked : (n : ℕ) (s : Option ℕ) (ws : List (Wire TableRef)) → Each (IsLocal n) ws → Linked (IsEntryIn n) no_state s ws
local_linked n s [] h = tt
local_linked n s (w ∷ ws) h = (h.0, local_linked n None ws h.1)

abbrev AreEntries : List (Wire TableRef) → List ℕ → Type 0
AreEntries t b = IsList padded (IsEntry padded (IsTableRef padded)) t b × Each (IsLocal (length t)) t

entries_exact : Exact AreEntries entries_at
unfolding entries_at
entries_exact = record {
  sound = λ bytes r e.
      let s = bind_ok (u32_at BadTable bytes) _ r e in
      let n = s.0.0 in
      let a = (u32_exact BadTable).sound bytes s.0 s.1 in
      let b = many_sound (entry_item n) no_state IsAnEntry (IsEntryIn n) (λ _. entry_exact n) n None s.0.1 r s.2 in
      record {
        front = a.front ++ b.front;
        split = a.split ∙ ap (λ l. a.front ++ l) b.split ∙ sym (append_assoc a.front b.front r.1);
        spells = (record { front = a.front; back = b.front; whole = refl; first = subst (λ n. IsU32 n a.front) (sym b.spells.2) a.spells; second = b.spells.0 }, subst (λ k. Each (IsLocal k) r.0) (sym b.spells.2) (linked_local n None r.0 b.spells.1));
      };
  complete = λ x front rest k.
      let h = k.0 in
      let e : front ++ rest ≡ h.front ++ (h.back ++ rest) = ap (λ l. l ++ rest) h.whole ∙ append_assoc h.front h.back rest in
      let a : u32_at BadTable (front ++ rest) ≡ Ok (length x, h.back ++ rest) = ap (u32_at BadTable) e ∙ (u32_exact BadTable).complete (length x) h.front (h.back ++ rest) h.first in
      ap (λ (s : Result (ℕ × List ℕ) Fault). s >>= λ n. many (entry_item n.0) no_state n.0 None n.1) a
      ∙ many_complete (entry_item (length x)) no_state IsAnEntry (IsEntryIn (length x)) (λ _. entry_exact (length x)) x None h.back rest h.second (local_linked (length x) None x k.1);
}

-- ---- methods are functions

function_of : (w : Wire TableRef) → is_func w ≡ true → IsFunction w
function_of (Func ps rs ns) e = tt
function_of (Simple p) e = cc
function_of (Opt b) e = cc
function_of (Vec b) e = cc
function_of (Record es) e = cc
function_of (Variant es) e = cc
function_of (Service ms) e = cc

of_function : (w : Wire TableRef) → IsFunction w → is_func w ≡ true
of_function (Func ps rs ns) h = refl
of_function w h = absurd h

function_at : (table : List (Wire TableRef)) (r : TableRef) → is_func_at table r ≡ true → IsFunction (table_head table r)
function_at table (Plainly p) e = cc
function_at table (At i) e = by (slice_get table i) e where
  by : (o : Option (Wire TableRef)) → is_some_func o ≡ true → IsFunction (or_empty o)
  by None e = cc
  by (Some w) e = function_of w e

at_function : (table : List (Wire TableRef)) (r : TableRef) → IsFunction (table_head table r) → is_func_at table r ≡ true
at_function table (Plainly p) h = absurd h
at_function table (At i) h = by (slice_get table i) h where
  by : (o : Option (Wire TableRef)) → IsFunction (or_empty o) → is_some_func o ≡ true
  by None h = absurd h
  by (Some w) h = of_function w h

module _ (table : List (Wire TableRef)) where
  abbrev Called : Method TableRef → Bool
  Called m = is_func_at table m.part

  methods_sound : (n : ℕ) (ms : List (Method TableRef)) → Each (λ m. IsWithin n m.part) ms → list_all Called ms ≡ true → Each (λ m. IsWithin n m.part × IsFunction (table_head table m.part)) ms
  methods_sound n [] w e = tt
  methods_sound n (m ∷ ms) w e = let p = both_true (Called m) (list_all Called ms) e in ((w.0, function_at table m.part p.0), methods_sound n ms w.1 p.1)

  sound_methods : (n : ℕ) (ms : List (Method TableRef)) → Each (λ m. IsWithin n m.part × IsFunction (table_head table m.part)) ms → Each (λ m. IsWithin n m.part) ms × (list_all Called ms ≡ true)
  sound_methods n [] h = (tt, refl)
  sound_methods n (m ∷ ms) h = let i = sound_methods n ms h.1 in ((h.0.0, i.0), true_both (Called m) (list_all Called ms) (at_function table m.part h.0.1) i.1)

  to_sound : (w : Wire TableRef) → IsLocal (length table) w → have_functions table w ≡ true → IsSound table w
  to_sound (Service ms) l e = (l.0, methods_sound (length table) ms l.1 e)
  to_sound (Simple p) l e = l
  to_sound (Opt b) l e = l
  to_sound (Vec b) l e = l
  to_sound (Record es) l e = l
  to_sound (Variant es) l e = l
  to_sound (Func ps rs ns) l e = l

  from_sound : (w : Wire TableRef) → IsSound table w → IsLocal (length table) w × (have_functions table w ≡ true)
  from_sound (Simple p) h = absurd h
  from_sound (Opt b) h = (h, refl)
  from_sound (Vec b) h = (h, refl)
  from_sound (Record es) h = (h, refl)
  from_sound (Variant es) h = (h, refl)
  from_sound (Func ps rs ns) h = (h, refl)
  from_sound (Service ms) h = let i = sound_methods (length table) ms h.1 in ((h.0, i.0), i.1)

  all_sound : (ws : List (Wire TableRef)) → Each (IsLocal (length table)) ws → list_all (have_functions table) ws ≡ true → Each (IsSound table) ws
  all_sound [] l e = tt
  all_sound (w ∷ ws) l e = let p = both_true (have_functions table w) (list_all (have_functions table) ws) e in (to_sound w l.0 p.0, all_sound ws l.1 p.1)

  sound_all : (ws : List (Wire TableRef)) → Each (IsSound table) ws → Each (IsLocal (length table)) ws × (list_all (have_functions table) ws ≡ true)
  sound_all [] h = (tt, refl)
  sound_all (w ∷ ws) h =
      let a = from_sound w h.0 in
      let i = sound_all ws h.1 in
      ((a.0, i.0), true_both (have_functions table w) (list_all (have_functions table) ws) a.1 i.1)

abbrev IsATable : List (Wire TableRef) → List ℕ → Type 0
IsATable t b = IsList padded (IsEntry padded (IsTableRef padded)) t b × Each (IsSound t) t

table_exact : Exact IsATable table_at
unfolding table_at
table_exact =
    kept_exact AreEntries IsATable BadTable are_functions entries_at entries_exact
    (λ x front h t. (h.0, all_sound x x h.1 t))
    (λ x front h. let i = sound_all x x h.1 in ((h.0, i.0), i.1))

-- ---- whole headers

record IsHead (h : Header) (bytes : List ℕ) : Type 0 where
  well_formed : IsTable h.table h.arguments
  spelled : IsHeader padded (IsTableRef padded) h.table h.arguments bytes

header_exact : Exact IsHead header_at
unfolding header_at
header_exact = record {
  sound = λ bytes r e.
      let m = bind_ok (magic_at bytes) _ r e in
      let t = bind_ok (table_at m.0) _ r m.2 in
      let a = bind_ok (refs_at (length t.0.0) t.0.1) _ r t.2 in
      let x = table_exact.sound m.0 t.0 t.1 in
      let y = (refs_exact (length t.0.0)).sound t.0.1 a.0 a.1 in
      same_pair IsHead bytes (header t.0.0 a.0.0, a.0.1) r a.2 (record {
        front = magic ++ (x.front ++ y.front);
        split = prefix_sound Short NotDidl magic bytes m.0 m.1 ∙ ap (λ l. magic ++ l) (x.split ∙ ap (λ l. x.front ++ l) y.split ∙ sym (append_assoc x.front y.front a.0.1)) ∙ sym (append_assoc magic (x.front ++ y.front) a.0.1);
        spells = record {
          well_formed = record { sound = x.spells.1; within = y.spells.1 };
          spelled = record { front = magic; back = x.front ++ y.front; whole = refl; first = refl; second = record { front = x.front; back = y.front; whole = refl; first = x.spells.0; second = y.spells.0 } };
        };
      });
  complete = λ h front rest k.
      let s = k.spelled in
      let u = s.second in
      let e : front ++ rest ≡ magic ++ (u.front ++ (u.back ++ rest)) = ap (λ l. l ++ rest) (s.whole ∙ ap (λ l. l ++ s.back) s.first ∙ ap (λ l. magic ++ l) u.whole) ∙ append_assoc magic (u.front ++ u.back) rest ∙ ap (λ l. magic ++ l) (append_assoc u.front u.back rest) in
      let t : table_at (u.front ++ (u.back ++ rest)) ≡ Ok (h.table, u.back ++ rest) = table_exact.complete h.table u.front (u.back ++ rest) (u.first, k.well_formed.sound) in
      let a : refs_at (length h.table) (u.back ++ rest) ≡ Ok (h.arguments, rest) = (refs_exact (length h.table)).complete h.arguments u.back rest (u.second, k.well_formed.within) in
      ap (λ l. magic_at l >>= λ rest. table_at rest >>= λ t. refs_at (length t.0) t.1 >>= λ r. Ok (header t.0 r.0, r.1)) e
      ∙ ap (λ (s : Result (List ℕ) Fault). s >>= λ rest. table_at rest >>= λ t. refs_at (length t.0) t.1 >>= λ r. Ok (header t.0 r.0, r.1)) (prefix_complete Short NotDidl magic (u.front ++ (u.back ++ rest)))
      ∙ ap (λ (s : Result (List (Wire TableRef) × List ℕ) Fault). s >>= λ t. refs_at (length t.0) t.1 >>= λ r. Ok (header t.0 r.0, r.1)) t
      ∙ ap (λ (s : Result (List TableRef × List ℕ) Fault). s >>= λ r. Ok (header h.table r.0, r.1)) a;
}

pub begins : (bytes : Bytes) (n : ℕ) → BeginsWith bytes n → header_length bytes ≡ n
begins bytes n h =
    let e : header_at bytes ≡ Ok (header h.table h.args, h.back) = ap header_at h.whole ∙ header_exact.complete (header h.table h.args) h.front h.back (record { well_formed = h.formed; spelled = h.spelled }) in
    let a : header_length bytes ≡ length bytes - length h.back = ap (length_by bytes) e in
    let b : length bytes ≡ length h.front + length h.back = ap length h.whole ∙ length-append h.front h.back in
    let l = h.long in
    omega (arith, a, b, l)

pub no_begin : (bytes : Bytes) → ((n : ℕ) → BeginsWith bytes n → ⊥) → header_length bytes ≡ length bytes
no_begin bytes h = by (header_at bytes) refl where
  by : (r : Result (Header × List ℕ) Fault) → header_at bytes ≡ r → length_by bytes r ≡ length bytes
  by (Err f) e = refl
  by (Ok r) e =
      let a = header_exact.sound bytes r e in
      absurd (h (length a.front) (record { table = r.0.table; args = r.0.arguments; front = a.front; back = r.1; whole = a.split; spelled = a.spells.spelled; formed = a.spells.well_formed; long = refl }))
