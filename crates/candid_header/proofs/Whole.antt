-- Whole headers are read exactly.
use Rattle.std.proofs.Common.{◌≡◌, ℕ, List, ◌++◌, length, Result, Ok, Err, refl, sym, ap, ◌∙◌, append_assoc}
use Rattle.std.specs.Prelude.{IfOk}
use Rattle.mo_types.specs.declared.wire.Wire.{Wire}
use Rattle.mo_types.specs.declared.wire.TableRef.{TableRef}
use Rattle.mo_types.specs.Header.{magic}
use Rattle.candid_header.specs.declared.fault.Fault.{Fault}
use Rattle.candid_header.specs.declared.fault.Fault.TheVariants.{NotDidl, Short}
use Rattle.exact_reading.specs.declared.stop.Stop.{Stop}
use Rattle.exact_reading.specs.declared.stop.Stop.TheVariants as stop
use Rattle.candid_header.specs.declared.header.Header.{Header}
use Rattle.exact_reading.specs.Reading.{◌>>=◌, Gives}
use Rattle.candid_header.specs.Table.{refs_at, table_at}
use Rattle.candid_header.specs.Header.{magic_at, header, header_at, IsHead, Reads, Finds}
use Rattle.exact_reading.proofs.Exact.{Exact, ok_is, bind_ok, same_pair}
use Rattle.exact_reading.proofs.Prefix.{prefix_sound, prefix_complete}
use Rattle.candid_header.proofs.Exact.{okay}
use Rattle.candid_header.proofs.Lists.{refs_exact}
use Rattle.candid_header.proofs.Entries.{table_exact}

pub header_exact : Exact IsHead header_at
unfolding header_at
header_exact = record {
  sound = λ bytes r e.
      let m = bind_ok (magic_at bytes) _ r e in
      let t = bind_ok (table_at m.0) _ r m.2 in
      let a = bind_ok (refs_at (length t.0.0) t.0.1) _ r t.2 in
      let x = table_exact.sound m.0 t.0 t.1 in
      let y = (refs_exact (length t.0.0)).sound t.0.1 a.0 a.1 in
      same_pair IsHead bytes (header t.0.0 a.0.0, a.0.1) r a.2 (record {
        front = magic ++ (x.front ++ y.front);
        split = prefix_sound Short NotDidl magic bytes m.0 m.1 ∙ ap (λ l. magic ++ l) (x.split ∙ ap (λ l. x.front ++ l) y.split ∙ sym (append_assoc x.front y.front a.0.1)) ∙ sym (append_assoc magic (x.front ++ y.front) a.0.1);
        spells = record {
          few = x.spells.1;
          well_formed = record { sound = x.spells.2; within = y.spells.1 };
          spelled = record { front = magic; back = x.front ++ y.front; whole = refl; first = refl; second = record { front = x.front; back = y.front; whole = refl; first = x.spells.0; second = y.spells.0 } };
        };
      });
  complete = λ h front rest k.
      let s = k.spelled in
      let u = s.second in
      let e : front ++ rest ≡ magic ++ (u.front ++ (u.back ++ rest)) = ap (λ l. l ++ rest) (s.whole ∙ ap (λ l. l ++ s.back) s.first ∙ ap (λ l. magic ++ l) u.whole) ∙ append_assoc magic (u.front ++ u.back) rest ∙ ap (λ l. magic ++ l) (append_assoc u.front u.back rest) in
      let t : table_at (u.front ++ (u.back ++ rest)) ≡ Ok (h.table, u.back ++ rest) = table_exact.complete h.table u.front (u.back ++ rest) (u.first, k.few, k.well_formed.sound) in
      let a : refs_at (length h.table) (u.back ++ rest) ≡ Ok (h.arguments, rest) = (refs_exact (length h.table)).complete h.arguments u.back rest (u.second, k.well_formed.within) in
      ap (λ l. magic_at l >>= λ rest. table_at rest >>= λ t. refs_at (length t.0) t.1 >>= λ r. Ok (header t.0 r.0, r.1)) e
      ∙ ap (λ (s : Result (List ℕ) Fault). s >>= λ rest. table_at rest >>= λ t. refs_at (length t.0) t.1 >>= λ r. Ok (header t.0 r.0, r.1)) (prefix_complete Short NotDidl magic (u.front ++ (u.back ++ rest)))
      ∙ ap (λ (s : Result (List (Wire TableRef) × List ℕ) Fault). s >>= λ t. refs_at (length t.0) t.1 >>= λ r. Ok (header t.0 r.0, r.1)) t
      ∙ ap (λ (s : Result (List TableRef × List ℕ) Fault). s >>= λ r. Ok (header h.table r.0, r.1)) a;
}

pub found_is : {X : Type 0} (view : X → Header × List ℕ) (r : Result X (Stop Fault)) (bytes : List ℕ) → Gives view r (header_at bytes) → IfOk r (λ x. Reads (view x).0 bytes (view x).1)
found_is view (Ok x) bytes h = let a = header_exact.sound bytes (view x) h in record { front = a.front; whole = a.split; head = a.spells }
found_is view (Err e) bytes h = tt

differ : {A : Type 0} (f : Fault) (x : A) (r : Result A Fault) → r ≡ Err f → r ≡ okay x → ⊥
differ f x r e k = cc

pub only_is : {X : Type 0} (view : X → Header × List ℕ) (r : Result X (Stop Fault)) (bytes : List ℕ) → Gives view r (header_at bytes) → (h : Header) (rest : List ℕ) → Reads h bytes rest → Finds view r h rest
only_is view r bytes g h rest k = by r g (ap header_at k.whole ∙ header_exact.complete h k.front rest k.head)
  where
    by : (r : Result _ (Stop Fault)) → Gives view r (header_at bytes) → header_at bytes ≡ Ok (h, rest) → Finds view r h rest
    by (Ok x) g e = ok_is (view x) (h, rest) (sym g ∙ e)
    by (Err stop.Memory) g e = tt
    by (Err (stop.Fault f)) g e = absurd (differ f (h, rest) (header_at bytes) g e)
