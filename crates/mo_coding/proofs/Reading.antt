-- Messages are read exactly.
use Rattle.std.proofs.Common.{◌≡◌, ℕ, zero, suc, Bool, true, false, List, [], ◌∷◌, ◌++◌, length, Option, Some, None, Result, Ok, Err, refl, sym, ap, ◌∙◌, subst, append_assoc, append-nil}
use Rattle.mo_types.specs.declared.datum.Datum.{Datum}
use Rattle.mo_types.specs.declared.node.TypeId.{TypeId}
use Rattle.mo_types.specs.declared.wire.Ref.{Ref}
use Rattle.mo_types.specs.declared.wire.Ref.TheVariants.{Of}
use Rattle.mo_types.specs.declared.wire.Wire.{Wire}
use Rattle.mo_types.specs.declared.wire.TableRef.{TableRef}
use Rattle.mo_types.specs.Code.{Reads, SameEach}
use Rattle.mo_types.specs.Graph.{head_at}
use Rattle.mo_types.specs.Spelling.{padded, FewEmpty, Then}
use Rattle.mo_types.specs.Values.{Values, Nil, Value}
use Rattle.mo_types.specs.Wire.{refs, wire}
use Rattle.exact_reading.specs.Reading.{◌>>=◌}
use Rattle.exact_reading.proofs.Exact.{Exact, Front, bind_ok, same_pair, not_ok}
use Rattle.candid_forms.specs.Forms.{Forms, inside_ref}
use Rattle.candid_forms.proofs.Few.{few_bytes}
use Rattle.candid_forms.proofs.Whole.{forms_to, forms_from}
use Rattle.candid_header.specs.declared.fault.Fault.{Fault}
use Rattle.candid_header.specs.declared.header.Header.{Header}
use Rattle.candid_header.specs.Header.{header, header_at}
use Rattle.candid_header.specs.Reading.{Reading}
use Rattle.candid_header.proofs.Exact.{okay}
use Rattle.candid_header.proofs.Whole.{header_exact}
use Rattle.mo_meaning.specs.Coding.{Types}
use Rattle.mo_values.specs.Shapes.{Bytes}
use Rattle.mo_coding.specs.Equality.{same}
use Rattle.mo_coding.specs.Heads.{of_graph, of_table}
use Rattle.mo_coding.specs.Reading.{part_at, read_none, read_each, read_by, most_depth, whole, whole_of, same_each, read_behind, read}
use Rattle.mo_coding.proofs.Equality.{same_from, same_to}
use Rattle.mo_coding.proofs.Truths.{both_true, true_both}
use Rattle.mo_coding.proofs.Heads.{graph_finite, table_finite}
use Rattle.mo_coding.proofs.Parts.{part_exact}
use Rattle.mo_coding.proofs.Depth.{Within, deepest}

-- three pieces, one behind the other
split_three : (bytes x y a b c rest : List ℕ) → bytes ≡ a ++ x → x ≡ b ++ y → y ≡ c ++ rest → bytes ≡ (a ++ (b ++ c)) ++ rest
split_three bytes x y a b c rest e f g =
    let whole : bytes ≡ a ++ (b ++ (c ++ rest)) = e ∙ ap (λ l. a ++ l) (f ∙ ap (λ l. b ++ l) g) in
    whole ∙ ap (λ l. a ++ l) (sym (append_assoc b c rest)) ∙ sym (append_assoc a (b ++ c) rest)

spelled_three : {P Q R : List ℕ → Type 0} (a b c : List ℕ) → P a → Q b → R c → Then P (Then Q R) (a ++ (b ++ c))
spelled_three a b c p q r = record { front = a; back = b ++ c; whole = refl; first = p; second = record { front = b; back = c; whole = refl; first = q; second = r } }

joined_three : (front back a b c rest : List ℕ) → front ≡ a ++ back → back ≡ b ++ c → front ++ rest ≡ a ++ (b ++ (c ++ rest))
joined_three front back a b c rest e f =
    let whole : front ≡ a ++ (b ++ c) = e ∙ ap (λ l. a ++ l) f in
    ap (λ l. l ++ rest) whole ∙ append_assoc a (b ++ c) rest ∙ ap (λ l. a ++ l) (append_assoc b c rest)

module _ (slots : Types) where
  abbrev Few : ℕ → Ref TypeId → Type 0
  Few n r = FewEmpty (wire (head_at slots)) n r

  abbrev Formed : List (Ref TypeId) → Values → List ℕ → Type 0
  Formed rs v b = Forms padded Few (head_at slots) rs v b

  abbrev inner : Ref TypeId → Datum → List (Ref TypeId)
  inner r p = inside_ref (head_at slots) r p

  -- ---- values to a depth

  abbrev To : ℕ → List (Ref TypeId) → Values → List ℕ → Type 0
  To depth rs v b = Formed rs v b × Within depth v

  none_sound : (rs : List (Ref TypeId)) (bytes : List ℕ) (r : Values × List ℕ) → read_none slots rs bytes ≡ Ok r → Front (To 0 rs) bytes r.0 r.1
  none_sound [] bytes r e = same_pair (To 0 []) bytes (Nil, bytes) r e (record { front = []; split = refl; spells = (refl, tt) })
  none_sound (s ∷ rs) bytes r e = absurd (not_ok e)

  none_complete : (rs : List (Ref TypeId)) (v : Values) (front rest : List ℕ) → To 0 rs v front → read_none slots rs (front ++ rest) ≡ Ok (v, rest)
  none_complete [] Nil front rest h = ap (λ l. okay (Nil, l ++ rest)) h.0
  none_complete [] (Value p i o) front rest h = absurd h.0
  none_complete (s ∷ rs) Nil front rest h = absurd h.0
  none_complete (s ∷ rs) (Value p i o) front rest h = absurd h.1

  module _ (depth : ℕ) (next : List (Ref TypeId) → Reading Values) (exact : (rs : List (Ref TypeId)) → Exact (To depth rs) (next rs)) where
    each_sound : (rs : List (Ref TypeId)) (bytes : List ℕ) (r : Values × List ℕ) → read_each slots next rs bytes ≡ Ok r → Front (To (suc depth) rs) bytes r.0 r.1
    each_sound [] bytes r e = same_pair (To (suc depth) []) bytes (Nil, bytes) r e (record { front = []; split = refl; spells = (refl, tt) })
    each_sound (s ∷ rs) bytes r e =
        let p = bind_ok (part_at slots s bytes) _ r e in
        let i = bind_ok (next (inner s p.0.0) p.0.1) _ r p.2 in
        let o = bind_ok (read_each slots next rs i.0.1) _ r i.2 in
        let a = (part_exact slots s).sound bytes p.0 p.1 in
        let b = (exact (inner s p.0.0)).sound p.0.1 i.0 i.1 in
        let c = each_sound rs i.0.1 o.0 o.1 in
        same_pair (To (suc depth) (s ∷ rs)) bytes (Value p.0.0 i.0.0 o.0.0, o.0.1) r o.2 (record {
          front = a.front ++ (b.front ++ c.front);
          split = split_three bytes p.0.1 i.0.1 a.front b.front c.front o.0.1 a.split b.split c.split;
          spells = (spelled_three a.front b.front c.front a.spells b.spells.0 c.spells.0, (b.spells.1, c.spells.1));
        })

    each_complete : (rs : List (Ref TypeId)) (v : Values) (front rest : List ℕ) → To (suc depth) rs v front → read_each slots next rs (front ++ rest) ≡ Ok (v, rest)
    each_complete [] Nil front rest h = ap (λ l. okay (Nil, l ++ rest)) h.0
    each_complete [] (Value p i o) front rest h = absurd h.0
    each_complete (s ∷ rs) Nil front rest h = absurd h.0
    each_complete (s ∷ rs) (Value p i o) front rest h =
        let k = h.0 in
        let l = k.second in
        let e = joined_three front k.back k.front l.front l.back rest k.whole l.whole in
        let a : part_at slots s (k.front ++ (l.front ++ (l.back ++ rest))) ≡ Ok (p, l.front ++ (l.back ++ rest)) = (part_exact slots s).complete p k.front (l.front ++ (l.back ++ rest)) k.first in
        let b : next (inner s p) (l.front ++ (l.back ++ rest)) ≡ Ok (i, l.back ++ rest) = (exact (inner s p)).complete i l.front (l.back ++ rest) (l.first, h.1.0) in
        let c : read_each slots next rs (l.back ++ rest) ≡ Ok (o, rest) = each_complete rs o l.back rest (l.second, h.1.1) in
        ap (read_each slots next (s ∷ rs)) e
        ∙ ap (λ (x : Result (Datum × List ℕ) Fault). x >>= λ p. next (inner s p.0) p.1 >>= λ i. read_each slots next rs i.1 >>= λ o. Ok (Value p.0 i.0 o.0, o.1)) a
        ∙ ap (λ (x : Result (Values × List ℕ) Fault). x >>= λ i. read_each slots next rs i.1 >>= λ o. Ok (Value p i.0 o.0, o.1)) b
        ∙ ap (λ (x : Result (Values × List ℕ) Fault). x >>= λ o. Ok (Value p i o.0, o.1)) c

  values_exact : (depth : ℕ) (rs : List (Ref TypeId)) → Exact (To depth rs) (read_by slots depth rs)
  values_exact zero rs = record { sound = none_sound rs; complete = none_complete rs }
  values_exact (suc depth) rs = record { sound = each_sound depth (read_by slots depth) (values_exact depth) rs; complete = each_complete depth (read_by slots depth) (values_exact depth) rs }

  -- ---- all bytes

  whole_is : (v w : Values) (rest : List ℕ) → whole w rest ≡ Some v → (w ≡ v) × (rest ≡ [])
  whole_is v w [] e = (let f : w ≡ v = cc in f, refl)
  whole_is v w (b ∷ rest) e = cc

  all_sound : (rs : List (Ref TypeId)) (depth : ℕ) (bytes : List ℕ) (v : Values) → whole_of (read_by slots depth rs bytes) ≡ Some v → Formed rs v bytes
  all_sound rs depth bytes v e = by (read_by slots depth rs bytes) refl e where
    by : (x : Result (Values × List ℕ) Fault) → read_by slots depth rs bytes ≡ x → whole_of x ≡ Some v → Formed rs v bytes
    by (Err f) g h = cc
    by (Ok x) g h =
        let a = (values_exact depth rs).sound bytes x g in
        let k = whole_is v x.0 x.1 h in
        let s : bytes ≡ a.front = a.split ∙ ap (λ l. a.front ++ l) k.1 ∙ append-nil a.front in
        subst (λ b. Formed rs v b) (sym s) (subst (λ w. Formed rs w a.front) k.0 a.spells.0)

  all_complete : (rs : List (Ref TypeId)) (bytes : List ℕ) (v : Values) → Formed rs v bytes → whole_of (read_by slots (most_depth slots (length bytes)) rs bytes) ≡ Some v
  all_complete rs bytes v h =
      let d = most_depth slots (length bytes) in
      ap (λ l. whole_of (read_by slots d rs l)) (sym (append-nil bytes)) ∙ ap whole_of ((values_exact d rs).complete v bytes [] (h, deepest slots v rs bytes h))

  -- ---- types

  module _ (table : List (Wire TableRef)) where
    each_same : (rs : List TableRef) (ts : List TypeId) → same_each table slots rs ts ≡ true → SameEach (head_at slots) table rs ts
    each_same [] [] e = tt
    each_same (r ∷ rs) (t ∷ ts) e =
        let b = both_true (same (of_table table) (of_graph slots) r (Of t)) (same_each table slots rs ts) e in
        (same_to (of_table table) (of_graph slots) (table_finite table) (graph_finite slots) r (Of t) b.0, each_same rs ts b.1)
    each_same [] (t ∷ ts) e = cc
    each_same (r ∷ rs) [] e = cc

    same_all : (rs : List TableRef) (ts : List TypeId) → SameEach (head_at slots) table rs ts → same_each table slots rs ts ≡ true
    same_all [] [] h = refl
    same_all (r ∷ rs) (t ∷ ts) h = true_both (same (of_table table) (of_graph slots) r (Of t)) (same_each table slots rs ts) (same_from (of_table table) (of_graph slots) (table_finite table) (graph_finite slots) r (Of t) h.0) (same_all rs ts h.1)
    same_all [] (t ∷ ts) h = absurd h
    same_all (r ∷ rs) [] h = absurd h

-- ---- messages

module _ (slots : Types) (types : List TypeId) (bytes : Bytes) (values : Values) where
  abbrev behind : Header × List ℕ → Bool → Option Values
  behind x b = elim b [ true ↦ whole_of (read_by slots (most_depth slots (length x.1)) (refs types) x.1) | false ↦ None ]

  pub sound : read slots types bytes ≡ Some values → Reads (head_at slots) types bytes values
  sound e = by (header_at bytes) refl e where
    by : (x : Result (Header × List ℕ) Fault) → header_at bytes ≡ x → read_behind slots types x ≡ Some values → Reads (head_at slots) types bytes values
    by (Err f) g h = cc
    by (Ok x) g h = at (same_each x.0.table slots x.0.arguments types) refl h where
      at : (b : Bool) → same_each x.0.table slots x.0.arguments types ≡ b → behind x b ≡ Some values → Reads (head_at slots) types bytes values
      at false s k = cc
      at true s k =
          let a = header_exact.sound bytes x g in
          let f = all_sound slots (refs types) (most_depth slots (length x.1)) x.1 values k in
          let t = forms_to padded (FewEmpty (wire (head_at slots))) (head_at slots) (few_bytes (head_at slots)) types values x.1 f in
          record {
            typed = t.0;
            table = x.0.table;
            args = x.0.arguments;
            few = a.spells.few;
            well_formed = a.spells.well_formed;
            same = each_same slots x.0.table x.0.arguments types s;
            spelled = record { front = a.front; back = x.1; whole = a.split; first = a.spells.spelled; second = t.1 };
          }

  pub complete : Reads (head_at slots) types bytes values → read slots types bytes ≡ Some values
  complete h =
      let s = h.spelled in
      let e : header_at bytes ≡ Ok (header h.table h.args, s.back) = ap header_at s.whole ∙ header_exact.complete (header h.table h.args) s.front s.back (record { few = h.few; well_formed = h.well_formed; spelled = s.first }) in
      let f = forms_from padded (FewEmpty (wire (head_at slots))) (head_at slots) types values s.back h.typed s.second in
      ap (read_behind slots types) e ∙ ap (behind (header h.table h.args, s.back)) (same_all slots h.table h.args types h.same) ∙ all_complete slots (refs types) s.back values f
