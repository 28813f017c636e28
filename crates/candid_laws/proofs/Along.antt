-- Messages depend on types up to equality alone.
use Rattle.std.proofs.Common.{◌≡◌, ℕ, zero, suc, ◌<◌, List, [], ◌∷◌, slice_get, sym, ◌∙◌, subst}
use Rattle.mo_types.specs.declared.datum.Datum.{Datum}
use Rattle.mo_types.specs.declared.datum.Datum.TheVariants as part
use Rattle.mo_types.specs.declared.node.Node.{Node}
use Rattle.mo_types.specs.declared.wire.Plain.{Plain}
use Rattle.mo_types.specs.declared.wire.Plain.TheVariants as plain
use Rattle.mo_types.specs.declared.wire.Entry.{Entry}
use Rattle.mo_types.specs.declared.wire.Wire.{Wire}
use Rattle.mo_types.specs.declared.wire.Wire.TheVariants.{Simple, Opt, Vec, Record, Variant, Func, Service}
use Rattle.mo_types.specs.declared.wire.Ref.TheVariants.{Of}
use Rattle.mo_types.specs.declared.wire.TableRef.{TableRef}
use Rattle.mo_types.specs.Sub.{Each}
use Rattle.mo_types.specs.Wire.{refs, wire, SameParts, SameEntries, SameHead, SameTo, SameWire}
use Rattle.mo_types.specs.Form.{form}
use Rattle.mo_types.specs.Values.{Values, Nil, Value, copies, HaveTypes}
use Rattle.mo_types.specs.Spelling.{Numbers, padded, shortest, IsPlainPart, IsWirePart, one_part, wire_inside, Spell, EmptyHead, EmptyBy, FewEmpty, AnyCount}
use Rattle.mo_types.specs.Header.{table_head}
use Rattle.mo_types.specs.Code.{Code, SameEach, Reads, Keep}
use Rattle.candid_laws.proofs.Counts.{entry_counts}
use Rattle.candid_laws.proofs.Same.{same_trans, same_heads}
use Rattle.candid_laws.proofs.Headers.{entry_parts, each_same, canonical_along}

module _ {A B : Type 0} (h : A → Wire A) (k : B → Wire B) where
  abbrev Alike : A → B → Type 0
  Alike a b = (n : ℕ) → SameTo h k n a b

  heads : (a : A) (b : B) → Alike a b → SameHead Alike (h a) (k b)
  heads a b s = same_heads h k a b (record { to = s })

  same_copies : (n : ℕ) (a : A) (b : B) → Alike a b → SameParts Alike (copies n a) (copies n b)
  same_copies zero a b s = tt
  same_copies (suc n) a b s = (s, same_copies n a b s)

  same_tag : (as_ : List (Entry A)) (bs : List (Entry B)) (i : ℕ) → SameEntries Alike as_ bs → SameParts Alike (one_part (slice_get as_ i)) (one_part (slice_get bs i))
  same_tag [] [] i s = tt
  same_tag (a ∷ as_) (b ∷ bs) zero s = (s.1, tt)
  same_tag (a ∷ as_) (b ∷ bs) (suc i) s = same_tag as_ bs i s.2
  same_tag [] (b ∷ bs) i s = absurd s
  same_tag (a ∷ as_) [] i s = absurd s

  module _ (N : Numbers) (P : ℕ → A → Type 0) (Q : ℕ → B → Type 0) (allow : (n : ℕ) (a : A) (b : B) → Alike a b → P n a → Q n b) where
    part_along : (w : Wire A) (v : Wire B) (p : Datum) (bytes : List ℕ) → SameHead Alike w v → IsWirePart N P w p bytes → IsWirePart N Q v p bytes × SameParts Alike (wire_inside w p) (wire_inside v p)
    part_along (Simple a) (Simple b) p bytes s t = (subst (λ (x : Plain). IsPlainPart N x p bytes) s t, tt)
    part_along (Opt a) (Opt b) part.Null bytes s t = (t, tt)
    part_along (Opt a) (Opt b) part.Present bytes s t = (t, (s, tt))
    part_along (Opt a) (Opt b) p bytes s t = absurd t
    part_along (Vec a) (Vec b) (part.Many n) bytes s t = ((allow n a b s t.0, t.1), same_copies n a b s)
    part_along (Vec a) (Vec b) p bytes s t = absurd t
    part_along (Record as_) (Record bs) (part.Record n) bytes s t = ((t.0 ∙ entry_counts Alike as_ bs s, t.1), entry_parts h k as_ bs s)
    part_along (Record as_) (Record bs) p bytes s t = absurd t
    part_along (Variant as_) (Variant bs) (part.Tag i) bytes s t = ((subst (λ (n : ℕ). i < n) (entry_counts Alike as_ bs s) t.0, t.1), same_tag as_ bs i s)
    part_along (Variant as_) (Variant bs) p bytes s t = absurd t
    part_along (Func x y z) (Func u v w) (part.Method q name) bytes s t = (t, tt)
    part_along (Func x y z) (Func u v w) p bytes s t = absurd t
    part_along (Service xs) (Service ys) (part.Actor q) bytes s t = (t, tt)
    part_along (Service xs) (Service ys) p bytes s t = absurd t
    part_along w v p bytes s t = absurd s

    pub spell_along : (ts : List A) (us : List B) (v : Values) (bytes : List ℕ) → SameParts Alike ts us → Spell N P h ts v bytes → Spell N Q k us v bytes
    spell_along [] [] Nil bytes s t = t
    spell_along [] [] (Value p i o) bytes s t = absurd t
    spell_along (a ∷ ts) (b ∷ us) Nil bytes s t = absurd t
    spell_along (a ∷ ts) (b ∷ us) (Value p i o) bytes s t =
        let x = part_along (h a) (k b) p t.front (heads a b s.0) t.first in
        let r = t.second in
        record {
          front = t.front;
          back = t.back;
          whole = t.whole;
          first = x.0;
          second = record {
            front = r.front;
            back = r.back;
            whole = r.whole;
            first = spell_along (wire_inside (h a) p) (wire_inside (k b) p) i r.front x.1 r.first;
            second = spell_along ts us o r.back s.1 r.second;
          };
        }
    spell_along [] (b ∷ us) v bytes s t = absurd s
    spell_along (a ∷ ts) [] v bytes s t = absurd s

  -- ---- types whose values have no bytes

  empty_each : (P : A → Type 0) (Q : B → Type 0) → ((a : A) (b : B) → Alike a b → Q b → P a) → (as_ : List (Entry A)) (bs : List (Entry B)) → SameEntries Alike as_ bs → Each (λ e. Q e.part) bs → Each (λ e. P e.part) as_
  empty_each P Q f [] [] s q = tt
  empty_each P Q f (a ∷ as_) (b ∷ bs) s q = (f a.part b.part s.1 q.0, empty_each P Q f as_ bs s.2 q.1)
  empty_each P Q f [] (b ∷ bs) s q = absurd s
  empty_each P Q f (a ∷ as_) [] s q = absurd s

  empty_head : (P : A → Type 0) (Q : B → Type 0) → ((a : A) (b : B) → Alike a b → Q b → P a) → (w : Wire A) (v : Wire B) → SameHead Alike w v → EmptyHead Q v → EmptyHead P w
  empty_head P Q f (Simple a) (Simple plain.Null) s q = subst (λ (x : Plain). EmptyHead P (Simple x)) (sym s) tt
  empty_head P Q f (Simple a) (Simple plain.Reserved) s q = subst (λ (x : Plain). EmptyHead P (Simple x)) (sym s) tt
  empty_head P Q f (Simple a) (Simple b) s q = absurd q
  empty_head P Q f (Record as_) (Record bs) s q = empty_each P Q f as_ bs s q
  empty_head P Q f (Opt a) (Opt b) s q = absurd q
  empty_head P Q f (Vec a) (Vec b) s q = absurd q
  empty_head P Q f (Variant a) (Variant b) s q = absurd q
  empty_head P Q f (Func x y z) (Func u v w) s q = absurd q
  empty_head P Q f (Service a) (Service b) s q = absurd q
  empty_head P Q f w v s q = absurd s

  empty_along : (levels : ℕ) (a : A) (b : B) → Alike a b → EmptyBy k levels b → EmptyBy h levels a
  unfolding EmptyBy
  empty_along zero a b s e = e
  empty_along (suc n) a b s e = empty_head (EmptyBy h n) (EmptyBy k n) (empty_along n) (h a) (k b) (heads a b s) e

  pub few_along : (n : ℕ) (a : A) (b : B) → Alike a b → FewEmpty h n a → FewEmpty k n b
  few_along n a b s f = λ levels e. f levels (empty_along levels a b s e)

-- ---- messages

module _ {A B : Type 0} (head : A → Node A) (other : B → Node B) where
  abbrev AreSame : List A → List B → Type 0
  AreSame types others = SameParts (SameWire (wire head) (wire other)) (refs types) (refs others)

  pub code_along : (types : List A) (others : List B) (v w : Values) (bytes : List ℕ) → AreSame types others → form head types v ≡ form other others w → Code head types v bytes → Code other others w bytes
  code_along types others v w bytes s e c = record {
    front = c.front;
    back = c.back;
    whole = c.whole;
    first = canonical_along (wire head) (wire other) shortest (refs types) (refs others) c.front s c.first;
    second = subst (λ (x : Values). Spell shortest AnyCount (wire other) (refs others) x c.back) e
        (spell_along (wire head) (wire other) shortest AnyCount AnyCount (λ n a b r p. tt) (refs types) (refs others) (form head types v) c.back (each_same (wire head) (wire other) (refs types) (refs others) s) c.second);
  }

  each_along : (table : List (Wire TableRef)) (args : List TableRef) (ts : List A) (us : List B) → AreSame ts us → SameEach head table args ts → SameEach other table args us
  each_along table [] [] [] s e = tt
  each_along table (r ∷ rs) (t ∷ ts) (u ∷ us) s e = (same_trans (table_head table) (wire head) (wire other) r (Of t) (Of u) e.0 s.0, each_along table rs ts us s.1 e.1)
  each_along table rs [] (u ∷ us) s e = absurd s
  each_along table rs (t ∷ ts) [] s e = absurd s
  each_along table [] (t ∷ ts) us s e = absurd e
  each_along table (r ∷ rs) [] us s e = absurd e

  pub reads_along : (types : List A) (others : List B) (v w : Values) (bytes : List ℕ) → AreSame types others → form head types v ≡ form other others w → HaveTypes other others w → Reads head types bytes v → Reads other others bytes w
  reads_along types others v w bytes s e t r =
      let m = r.spelled in
      record {
        typed = t;
        table = r.table;
        args = r.args;
        few = r.few;
        well_formed = r.well_formed;
        same = each_along r.table r.args types others s r.same;
        spelled = record {
          front = m.front;
          back = m.back;
          whole = m.whole;
          first = m.first;
          second = subst (λ (x : Values). Spell padded (FewEmpty (wire other)) (wire other) (refs others) x m.back) e
              (spell_along (wire head) (wire other) padded (FewEmpty (wire head)) (FewEmpty (wire other)) (few_along (wire head) (wire other)) (refs types) (refs others) (form head types v) m.back (each_same (wire head) (wire other) (refs types) (refs others) s) m.second);
        };
      }

pub kept_reads : {A B : Type 0} (head : A → Node A) (next : B → Node B) (t : A) (u : B) (v w : Values) (bytes : List ℕ) → Keep head next t u v w → Reads head (t ∷ []) bytes v → Reads next (u ∷ []) bytes w
kept_reads head next t u v w bytes k r = reads_along head next (t ∷ []) (u ∷ []) v w bytes (k.types, tt) (sym k.same) k.new r
