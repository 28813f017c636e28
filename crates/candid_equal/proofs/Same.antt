-- Pairs of equal types, and types that are equal each to each.
use Rattle.std.proofs.Common.{◌≡◌, ℕ, suc, ◌+◌, ◌<◌, Bool, true, false, List, [], ◌∷◌, ◌++◌, length, map, Result, Ok, Err, refl, sym, ap, ◌∙◌, subst, arith, append_assoc, drop, get_or, drop-cons, add-one}
use Rattle.std.specs.Prelude.{IfOk}
use Rattle.mo_num.specs.declared.memory.Memory.{Memory}
use Rattle.mo_types.specs.declared.node.TypeId.{TypeId}
use Rattle.mo_types.specs.declared.wire.Entry.{Entry}
use Rattle.mo_types.specs.declared.wire.Method.{Method}
use Rattle.mo_types.specs.declared.wire.Wire.{Wire}
use Rattle.mo_types.specs.declared.wire.Wire.TheVariants.{Simple, Opt, Vec, Record, Variant, Func, Service}
use Rattle.mo_types.specs.declared.wire.Ref.TheVariants.{Of}
use Rattle.mo_types.specs.declared.wire.TableRef.{TableRef}
use Rattle.mo_types.specs.Graph.{Slot, head_at}
use Rattle.mo_types.specs.Wire.{map_entry, map_method, map_wire, wire, SameWire}
use Rattle.mo_types.specs.Header.{table_head}
use Rattle.mo_types.specs.Code.{SameEach}
use Rattle.candid_types.specs.Shapes.{number_of, ref_of, shape_at, IsTableOf}
use Rattle.candid_types.proofs.Natural.{same_wire_to, same_wire_from}
use Rattle.candid_types.proofs.NumberLemmas.{ref_of_id}
use Rattle.candid_equal.specs.declared.pair.Pair.{Pair}
use Rattle.candid_equal.specs.Pairs.{pair}
use Rattle.candid_equal.specs.Asks.{IsEqual, AllEqual}
use Rattle.candid_equal.specs.Types.{pairs_of}

abbrev self : TableRef → TableRef
self r = r

refs_same : (rs : List TableRef) → map self rs ≡ rs
refs_same [] = refl
refs_same (r ∷ rs) = ap (λ l. r ∷ l) (refs_same rs)

entries_same : (es : List (Entry TableRef)) → map (map_entry self) es ≡ es
entries_same [] = refl
entries_same (e ∷ es) = ap (λ l. e ∷ l) (entries_same es)

methods_same : (ms : List (Method TableRef)) → map (map_method self) ms ≡ ms
methods_same [] = refl
methods_same (m ∷ ms) = ap (λ l. m ∷ l) (methods_same ms)

wire_same : (w : Wire TableRef) → w ≡ map_wire self w
wire_same (Simple p) = refl
wire_same (Opt a) = refl
wire_same (Vec a) = refl
wire_same (Record es) = ap (λ l. Record l) (sym (entries_same es))
wire_same (Variant es) = ap (λ l. Variant l) (sym (entries_same es))
wire_same (Func ps rs ns) = ap (λ l. Func l rs ns) (sym (refs_same ps)) ∙ ap (λ l. Func (map self ps) l ns) (sym (refs_same rs))
wire_same (Service ms) = ap (λ l. Service l) (sym (methods_same ms))

module _ (slots : List Slot) (shapes : List (Wire ℕ)) (is : IsTableOf slots shapes) (table : List (Wire TableRef)) where
  to_pair : (r : TableRef) (t : TypeId) → SameWire (table_head table) (wire (head_at slots)) r (Of t) → IsEqual table shapes (pair r (number_of t))
  to_pair r t s =
      same_wire_to self ref_of (table_head table) (shape_at shapes) (table_head table) (wire (head_at slots)) (λ a. wire_same (table_head table a)) is.heads r (number_of t)
      (subst (λ z. SameWire (table_head table) (wire (head_at slots)) r z) (sym (ref_of_id t)) s)

  from_pair : (r : TableRef) (t : TypeId) → IsEqual table shapes (pair r (number_of t)) → SameWire (table_head table) (wire (head_at slots)) r (Of t)
  from_pair r t s =
      subst (λ z. SameWire (table_head table) (wire (head_at slots)) r z) (ref_of_id t)
      (same_wire_from self ref_of (table_head table) (shape_at shapes) (table_head table) (wire (head_at slots)) (λ a. wire_same (table_head table a)) is.heads r (number_of t) s)

  each_to : (rs : List TableRef) (ts : List TypeId) → SameEach (head_at slots) table rs ts → AllEqual table shapes (pairs_of rs ts)
  each_to [] [] h = tt
  each_to [] (t ∷ ts) h = absurd h
  each_to (r ∷ rs) [] h = absurd h
  each_to (r ∷ rs) (t ∷ ts) h = (to_pair r t h.0, each_to rs ts h.1)

  each_from : (rs : List TableRef) (ts : List TypeId) → length rs ≡ length ts → AllEqual table shapes (pairs_of rs ts) → SameEach (head_at slots) table rs ts
  each_from [] [] e h = tt
  each_from [] (t ∷ ts) e h = absurd (omega (arith, e))
  each_from (r ∷ rs) [] e h = absurd (omega (arith, e))
  each_from (r ∷ rs) (t ∷ ts) e h = (from_pair r t h.0, each_from rs ts (omega (arith, e)) h.1)

  pub yes_same : (rs : List TableRef) (ts : List TypeId) (ps : List Pair) (o : Result Bool Memory) → length rs ≡ length ts → ps ≡ pairs_of rs ts → IfOk o (λ b. b ≡ true → AllEqual table shapes ps) → IfOk o (λ b. b ≡ true → SameEach (head_at slots) table rs ts)
  yes_same rs ts ps (Ok b) e k h = λ t. each_from rs ts e (subst (AllEqual table shapes) k (h t))
  yes_same rs ts ps (Err m) e k h = tt

  pub no_same : (rs : List TableRef) (ts : List TypeId) (ps : List Pair) (o : Result Bool Memory) → ps ≡ pairs_of rs ts → IfOk o (λ b. b ≡ false → AllEqual table shapes ps → ⊥) → IfOk o (λ b. b ≡ false → SameEach (head_at slots) table rs ts → ⊥)
  no_same rs ts ps (Ok b) k h = λ t s. h t (subst (AllEqual table shapes) (sym k) (each_to rs ts s))
  no_same rs ts ps (Err m) k h = tt

pub as_many : (slots : List Slot) (table : List (Wire TableRef)) (rs : List TableRef) (ts : List TypeId) → SameEach (head_at slots) table rs ts → length rs ≡ length ts
as_many slots table [] [] h = refl
as_many slots table [] (t ∷ ts) h = absurd h
as_many slots table (r ∷ rs) [] h = absurd h
as_many slots table (r ∷ rs) (t ∷ ts) h = ap suc (as_many slots table rs ts h.1)

-- One pair more.
drop_more : {X : Type 0} (xs : List X) (i : ℕ) (d : X) → i < length xs → drop i xs ≡ get_or xs i d ∷ drop (i + 1) xs
drop_more xs i d h = drop-cons xs i d h ∙ ap (λ (j : ℕ). get_or xs i d ∷ drop j xs) (sym (add-one i))

pub one_pair : (rs : List TableRef) (ts : List TypeId) (i : ℕ) (r : TableRef) (t : TypeId) (n : ℕ) (front more : List Pair) → i < length rs → i < length ts → n ≡ number_of (get_or ts i t) → more ≡ front ++ pair (get_or rs i r) n ∷ []
    → front ++ pairs_of (drop i rs) (drop i ts) ≡ pairs_of rs ts → more ++ pairs_of (drop (i + 1) rs) (drop (i + 1) ts) ≡ pairs_of rs ts
one_pair rs ts i r t n front more h k e m so_far =
    let later : List Pair = pairs_of (drop (i + 1) rs) (drop (i + 1) ts) in
    let step : pairs_of (drop i rs) (drop i ts) ≡ pair (get_or rs i r) n ∷ later =
    ap (λ l. pairs_of l (drop i ts)) (drop_more rs i r h) ∙ ap (pairs_of (get_or rs i r ∷ drop (i + 1) rs)) (drop_more ts i t k) ∙ ap (λ z. pair (get_or rs i r) z ∷ later) (sym e) in
    ap (λ l. l ++ later) m ∙ append_assoc front (pair (get_or rs i r) n ∷ []) later ∙ ap (λ l. front ++ l) (sym step) ∙ so_far
