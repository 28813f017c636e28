-- The table of the routines is kept.
use Rattle.std.proofs.Common.{◌≡◌, ◌-◌, ◌*◌, ◌<◌, ◌≤◌, ◌^◌, ℕ, suc, List, [], ◌∷◌, Some, None, cond, slice_get, refl, sym, ap, subst, arith}
use Rattle.wasm_tree.specs.declared.types.ValueType.TheVariants.{I32, I64}
use Rattle.wasm_tree.specs.Exec.{Store, Host, pages_of}
use Rattle.low_ir.specs.Tree.{Module}
use Rattle.low_ir.specs.Numbering.{host_count, type_of, defined}
use Rattle.low_ir.specs.Frames.{enter}
use Rattle.low_rules.specs.Rule.{ComesTo, Before, begins, ends}
use Rattle.low_rules.specs.Lines.{Table, line, host_end, KeepsLine, Keeps, TableIsKept}
use Rattle.low_rules.proofs.Entering.{lines_met}
use Rattle.memory_routines.specs.Heaps.{heap}
use Rattle.memory_routines.specs.Allocation.{allocate, allocation}
use Rattle.memory_routines.specs.Copying.{copy_bytes, copying}
use Rattle.memory_routines.specs.Numerals.{WritesDigits}
use Rattle.memory_routines.specs.Order.{Orders}
use Rattle.memory_routines.specs.Texts.{Compares}
use Rattle.memory_routines.specs.Laws.{word_of}
use Rattle.memory_routines.proofs.Allocating.{allocates}
use Rattle.memory_routines.proofs.Copied.{copies}
use Rattle.memory_routines.proofs.Comparing.{compares}
use Rattle.memory_routines.proofs.Ordered.{orders}
use Rattle.memory_routines.proofs.Digits.{writes}
use Rattle.routine_lines.specs.Roles.{Role, Allocating, Copying, Comparing, Ordering, Numbering, place, level_of, params_of, function_of, AreThere, top_in, others_in, HasHeap, Asked, Done, Spot, Hosts, Runs, Elsewhere, spot_of, AskedAt, DoneAt, frame_words, routine_table}
use Rattle.routine_lines.specs.Laws.{TablesAreKept, LinkedCallsKeepTheirLines}
use Rattle.routine_lines.proofs.Spots.{found, hosts, spot_is}

same_store : {World : Type 0} (store : Store World) → HasHeap store → heap store store.memory (top_in store) (others_in store) ≡ store
same_store store h = ap (λ g. record { memory = store.memory; globals = g; table = store.table; refused = store.refused; world = store.world }) (sym h.global)

module _ {World : Type 0} (pages : ℕ) (m : Module) (host : Host World) (signature : Role → ℕ) (there : AreThere m signature) where
  abbrev table : Table World
  table = routine_table pages m host

  abbrev Line : ℕ → Role → Store World → List ℕ → Type 0
  Line level r store args = KeepsLine pages m table level (place r) (word_of (params_of r)) (function_of (signature r) r) store args

  line_kept : (r : Role) (level : ℕ) (store : Store World) (args : List ℕ) → level_of r ≤ suc level → Asked r store args → Line level r store args
  line_kept Allocating level store (size ∷ []) le (heaped, word) = record {
    room = omega arith;
    body =
        subst (λ s. Before pages m (line table level) allocate (ends (word_of (I32 ∷ [])) (Done pages Allocating store (size ∷ []))) (begins (allocation (signature Allocating)) s (size ∷ []))) (same_store store heaped)
        (allocates pages m (line table level) store store.memory (pages_of store.memory) (top_in store) size (others_in store) heaped.is (word_of (I32 ∷ [])) (signature Allocating) (Done pages Allocating store (size ∷ [])) refl word (λ end h. h));
  }
  line_kept Copying level store (from ∷ size ∷ []) le (heaped, bytes, under) =
      let few : size < 2 ^ 32 = omega (arith, under, heaped.is.inside, heaped.is.whole, heaped.is.few) in
      record {
        room = omega arith;
        body =
            subst (λ s. Before pages m (line table level) (copy_bytes 22) (ends (word_of (I32 ∷ I32 ∷ [])) (Done pages Copying store (from ∷ size ∷ []))) (begins (copying (signature Copying) 22) s (from ∷ size ∷ []))) (same_store store heaped)
            (copies pages m (line table level) store (others_in store) store.memory (pages_of store.memory) (top_in store) heaped.is bytes (word_of (I32 ∷ I32 ∷ [])) refl (signature Copying) 22 from size under (Done pages Copying store (from ∷ size ∷ [])) (λ end h. h)
            (λ r then. ((omega (arith, le), (record { global = refl; is = heaped.is }, few)), then)));
      }
  line_kept Comparing level store (a ∷ b ∷ size ∷ []) le texts = record {
    room = omega arith;
    body = compares pages m (line table level) store (word_of (I32 ∷ I32 ∷ I32 ∷ [])) (signature Comparing) a b size (Compares store a b size) refl texts (λ cost le. (cost, le, refl));
  }
  line_kept Ordering level store (a ∷ size ∷ b ∷ other ∷ []) le texts = record {
    room = omega arith;
    body = orders pages m (line table level) store (word_of (I32 ∷ I32 ∷ I32 ∷ I32 ∷ [])) (signature Ordering) a size b other (Orders store a size b other) refl texts (λ cost le. (cost, le, refl));
  }
  line_kept Numbering level store (to ∷ n ∷ []) le (far, inside, small, long) = record {
    room = omega arith;
    body = writes pages m (line table level) store to inside small (word_of (I32 ∷ I64 ∷ [])) (signature Numbering) n (WritesDigits store to n) refl long far (λ from cost le e. (from, cost, le, e, refl));
  }
  line_kept r level store args le asked = absurd asked

  role_kept : (r : Role) (level : ℕ) (store : Store World) (args : List ℕ) → level_of r ≤ suc level → Asked r store args → Keeps pages m host table level (place r) store args (type_of m (place r)) (defined m (place r))
  role_kept r level store args le asked =
      subst (λ o. Keeps pages m host table level (place r) store args o (defined m (place r))) (sym (there r).typed)
      (subst (λ o. Keeps pages m host table level (place r) store args (Some (word_of (params_of r))) o) (sym (there r).there) (line_kept r level store args le asked))

  kept : (level f : ℕ) (store : Store World) (args : List ℕ) → AskedAt m (spot_of f) (suc level) f store args → Keeps pages m host table level f store args (type_of m f) (defined m f)
  kept level f store args asked = by (spot_of f) refl asked
    where
      by : (s : Spot) → spot_of f ≡ s → AskedAt m s (suc level) f store args → Keeps pages m host table level f store args (type_of m f) (defined m f)
      by Hosts is (le, (t, typed)) =
          let none : defined m f ≡ None = ap (λ c. cond c None (slice_get m.functions (f - host_count))) (hosts f is) in
          subst (λ o. Keeps pages m host table level f store args o (defined m f)) (sym typed)
          (subst (λ o. Keeps pages m host table level f store args (Some t) o) (sym none)
          (subst (λ s. DoneAt pages host s f store args (host_end store (host f args store.memory store.world))) (sym is) refl))
      by (Runs r) is (le, asked) =
          subst (λ f. Keeps pages m host table level f store args (type_of m f) (defined m f)) (sym (found f r is)) (role_kept r level store args le asked)
      by Elsewhere is asked = absurd asked

  none : (f : ℕ) (store : Store World) (args : List ℕ) → AskedAt m (spot_of f) 0 f store args → ⊥
  none f store args asked = by (spot_of f) asked
    where
      by : (s : Spot) → AskedAt m s 0 f store args → ⊥
      by Hosts (le, t) = absurd (omega (arith, le))
      by (Runs Allocating) (le, a) = absurd (omega (arith, le))
      by (Runs Copying) (le, a) = absurd (omega (arith, le))
      by (Runs Comparing) (le, a) = absurd (omega (arith, le))
      by (Runs Ordering) (le, a) = absurd (omega (arith, le))
      by (Runs Numbering) (le, a) = absurd (omega (arith, le))
      by Elsewhere asked = absurd asked

  pub table_kept : TableIsKept pages m host table
  table_kept = record { none = none; kept = kept }

  pub comes : (r : Role) (store : Store World) (args : List ℕ) → Asked r store args → (deep room : ℕ) → level_of r ≤ deep → frame_words * level_of r ≤ room
      → ComesTo (enter deep pages m host room) (place r) store args (Done pages r store args)
  comes r store args asked deep room less fits =
      lines_met pages m host table table_kept (level_of r) deep room less fits (place r) store args (Done pages r store args)
      (subst (λ s. AskedAt m s (level_of r) (place r) store args) (sym (spot_is r)) (omega arith, asked), λ end h. subst (λ s. DoneAt pages host s (place r) store args end) (spot_is r) h)

pub tables_kept : (World : Type 0) → TablesAreKept World
tables_kept World pages m host signature there = table_kept pages m host signature there

pub calls_kept : (World : Type 0) → LinkedCallsKeepTheirLines World
calls_kept World pages m host signature there r store args asked deep room less fits = comes pages m host signature there r store args asked deep room less fits
