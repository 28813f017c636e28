-- What the definition of messages reads of the column, step by step.
use Rattle.std.proofs.Common.{◌≡◌, ℕ, zero, suc, ◌+◌, Bool, true, false, ◌&&◌, cond, List, [], ◌∷◌, ◌++◌, length, Option, Some, None, slice_get, Result, Ok, Err, refl, sym, ap, ◌∙◌, subst, arith}
use Rattle.std.specs.Prelude.{nat_eq}
use Rattle.std.specs.List.{list_all}
use Rattle.std.proofs.lemmas.Bool.Decides.{nat_tests}
use Rattle.exact_reading.specs.Reading.{◌>>=◌}
use Rattle.mo_types.specs.Sub.{Each}
use Rattle.mo_types.specs.declared.datum.Datum.{Datum}
use Rattle.mo_types.specs.declared.datum.Datum.TheVariants as part
use Rattle.mo_types.specs.declared.node.Node.{Node}
use Rattle.mo_types.specs.declared.node.TypeId.{TypeId}
use Rattle.mo_types.specs.declared.wire.Plain.TheVariants as plain
use Rattle.mo_num.specs.declared.kind.Kind.{Kind}
use Rattle.mo_num.specs.declared.kind.Kind.TheVariants as kind
use Rattle.mo_types.specs.declared.wire.Ref.{Ref}
use Rattle.mo_types.specs.declared.wire.Ref.TheVariants.{Of}
use Rattle.mo_types.specs.declared.wire.Wire.{Wire}
use Rattle.mo_types.specs.declared.wire.Wire.TheVariants.{Simple, Opt, Vec, Record, Variant, Func, Service}
use Rattle.mo_types.specs.declared.wire.TableRef.{TableRef}
use Rattle.mo_types.specs.declared.wire.TableRef.TheVariants.{Plainly, At}
use Rattle.mo_types.specs.Graph.{head_at}
use Rattle.mo_types.specs.Header.{or_empty, table_head, parts_of, IsSound}
use Rattle.mo_types.specs.Spelling.{wire_inside}
use Rattle.mo_types.specs.Values.{Values, Nil, Value}
use Rattle.mo_types.specs.Wire.{plain_code, plain_number, refs, wire, wire_of_node}
use Rattle.candid_header.specs.declared.fault.Fault.{Fault}
use Rattle.candid_header.specs.declared.fault.Fault.TheVariants.{BadTable}
use Rattle.candid_header.specs.Header.{magic_at, header, header_at}
use Rattle.candid_header.specs.Reading.{Reading, many, u32_at}
use Rattle.candid_header.specs.Table.{ref_at, ref_item, refs_at, no_state, table_at}
use Rattle.candid_header.proofs.Entries.{table_exact}
use Rattle.candid_read.specs.Parts.{plain_at, part_by, node_part}
use Rattle.candid_forms.specs.Forms.{inside_ref}
use Rattle.mo_meaning.specs.Coding.{Types}
use Rattle.mo_coding.specs.Equality.{pairs, products, alike, has_pair, asks, are_alike, same}
use Rattle.mo_coding.specs.Walks.{visit}
use Rattle.mo_coding.specs.Heads.{of_graph, of_table}
use Rattle.mo_coding.specs.Levels.{all_levels}
use Rattle.mo_coding.specs.Reading.{marks, marked, read_each, read_by, budget, most_depth, whole_of, same_each, read_behind, read}
use Rattle.wire_tables.specs.Tables.{table_read, mark_of}
use Rattle.wire_messages.specs.declared.column.Wired.{Wired}
use Rattle.wire_messages.specs.declared.column.Wired.TheVariants.{Number, Truth, Unit as Nothing}
use Rattle.wire_messages.specs.Column.{node_of, AreOf}

-- ---- types

-- whether a reference is to the type
abbrev pub fits_type : List (Wire TableRef) → TableRef → Wired → Bool
fits_type table (Plainly p) (Number k) = nat_eq (plain_code p) (plain_code (plain_number k))
fits_type table (Plainly p) Truth = nat_eq (plain_code p) (plain_code plain.Bool)
fits_type table (Plainly p) Nothing = false
fits_type table (At i) (Number k) = false
fits_type table (At i) Truth = false
fits_type table (At i) Nothing = nat_eq (mark_of (or_empty (slice_get table i))) 2

-- the type's head
abbrev head_of : {B : Type 0} → Wired → Wire B
head_of (Number k) = Simple (plain_number k)
head_of Truth = Simple plain.Bool
head_of Nothing = Record []

no_parts : {A B : Type 0} (xs : List A) → pairs {A = A} {B = B} xs [] ≡ []
no_parts [] = refl
no_parts (x ∷ xs) = refl

no_parts_of : {A B : Type 0} (w : Wired) (xs : List A) → pairs xs (parts_of {B = B} (head_of w)) ≡ []
no_parts_of (Number k) xs = no_parts xs
no_parts_of Truth xs = no_parts xs
no_parts_of Nothing xs = no_parts xs

no_empty : (k : Kind) → nat_eq (plain_code plain.Empty) (plain_code (plain_number k)) ≡ false
no_empty kind.Nat = refl
no_empty kind.Int = refl
no_empty kind.Nat8 = refl
no_empty kind.Nat16 = refl
no_empty kind.Nat32 = refl
no_empty kind.Nat64 = refl
no_empty kind.Int8 = refl
no_empty kind.Int16 = refl
no_empty kind.Int32 = refl
no_empty kind.Int64 = refl

-- whether a type of the table is of the column
abbrev at_entry : Wire TableRef → Wired → Bool
at_entry h (Number k) = false
at_entry h Truth = false
at_entry h Nothing = nat_eq (mark_of h) 2

entry_alike : (table : List (Wire TableRef)) (w : Wired) (o : Option (Wire TableRef)) → ((h : Wire TableRef) → o ≡ Some h → IsSound table h) → alike {B = Ref TypeId} (or_empty o) (head_of w) ≡ at_entry (or_empty o) w
entry_alike table (Number k) None sound = no_empty k
entry_alike table Truth None sound = refl
entry_alike table Nothing None sound = refl
entry_alike table w (Some (Simple p)) sound = absurd (sound (Simple p) refl)
entry_alike table (Number k) (Some (Opt b)) sound = refl
entry_alike table Truth (Some (Opt b)) sound = refl
entry_alike table Nothing (Some (Opt b)) sound = refl
entry_alike table (Number k) (Some (Vec b)) sound = refl
entry_alike table Truth (Some (Vec b)) sound = refl
entry_alike table Nothing (Some (Vec b)) sound = refl
entry_alike table (Number k) (Some (Record es)) sound = refl
entry_alike table Truth (Some (Record es)) sound = refl
entry_alike table Nothing (Some (Record [])) sound = refl
entry_alike table Nothing (Some (Record (e ∷ es))) sound = refl
entry_alike table (Number k) (Some (Variant es)) sound = refl
entry_alike table Truth (Some (Variant es)) sound = refl
entry_alike table Nothing (Some (Variant es)) sound = refl
entry_alike table (Number k) (Some (Func ps rs ns)) sound = refl
entry_alike table Truth (Some (Func ps rs ns)) sound = refl
entry_alike table Nothing (Some (Func ps rs ns)) sound = refl
entry_alike table (Number k) (Some (Service ms)) sound = refl
entry_alike table Truth (Some (Service ms)) sound = refl
entry_alike table Nothing (Some (Service ms)) sound = refl

ref_alike : (table : List (Wire TableRef)) (r : TableRef) (w : Wired) → ((i : ℕ) (h : Wire TableRef) → slice_get table i ≡ Some h → IsSound table h) → alike {B = Ref TypeId} (table_head table r) (head_of w) ≡ fits_type table r w
ref_alike table (Plainly p) (Number k) sound = refl
ref_alike table (Plainly p) Truth sound = refl
ref_alike table (Plainly p) Nothing sound = refl
ref_alike table (At i) (Number k) sound = entry_alike table (Number k) (slice_get table i) (sound i)
ref_alike table (At i) Truth sound = entry_alike table Truth (slice_get table i) (sound i)
ref_alike table (At i) Nothing sound = entry_alike table Nothing (slice_get table i) (sound i)

module _ (slots : Types) where
  head_is : (w : Wired) → wire_of_node (head_at slots) (node_of w) ≡ head_of w
  head_is (Number k) = refl
  head_is Truth = refl
  head_is Nothing = refl

  type_is : (t : TypeId) (w : Wired) → head_at slots t ≡ node_of w → wire (head_at slots) (Of t) ≡ head_of w
  type_is t w e = ap (wire_of_node (head_at slots)) e ∙ head_is w

  visited : (n : ℕ) (known : List (TableRef × Ref TypeId) → TableRef × Ref TypeId → Bool) (parts : TableRef × Ref TypeId → List (TableRef × Ref TypeId)) (x : TableRef × Ref TypeId) → visit known parts n (x ∷ []) [] ≡ x ∷ []
  visited zero known parts x = refl
  visited (suc n) known parts x = refl

  and_true : (b : Bool) → (b && true) ≡ b
  and_true true = refl
  and_true false = refl

  pub same_is : (table : List (Wire TableRef)) (r : TableRef) (t : TypeId) (w : Wired) → ((i : ℕ) (h : Wire TableRef) → slice_get table i ≡ Some h → IsSound table h) → head_at slots t ≡ node_of w → same (of_table table) (of_graph slots) r (Of t) ≡ fits_type table r w
  same_is table r t w sound e =
      let g = of_table table in
      let k = of_graph slots in
      let none : asks g k (r, Of t) ≡ [] = ap (λ h. pairs (parts_of (table_head table r)) (parts_of h)) (type_is t w e) ∙ no_parts_of w (parts_of (table_head table r)) in
      ap (λ l. list_all (are_alike g k) l) (ap (λ l. visit (has_pair g k) (asks g k) (length (products g.parts k.parts)) ((r, Of t) ∷ []) (l ++ [])) none ∙ visited (length (products g.parts k.parts)) (has_pair g k) (asks g k) (r, Of t))
      ∙ and_true (are_alike g k (r, Of t)) ∙ ap (alike (table_head table r)) (type_is t w e) ∙ ref_alike table r w sound

-- ---- reading by the column

abbrev pub wired_at : Wired → Reading Datum
wired_at (Number k) bytes = plain_at (plain_number k) bytes
wired_at Truth bytes = plain_at plain.Bool bytes
wired_at Nothing bytes = Ok (part.Record 0, bytes)

abbrev pub with_value : Datum → Result (Values × List ℕ) Fault → Result (Values × List ℕ) Fault
with_value p r = r >>= λ o. Ok (Value p Nil o.0, o.1)

abbrev pub read_column : List Wired → Reading Values
read_column [] bytes = Ok (Nil, bytes)
read_column (w ∷ ws) bytes = wired_at w bytes >>= λ p. with_value p.0 (read_column ws p.1)

abbrev pub values_of : Option (List ℕ) → List Wired → Option Values
values_of None ws = None
values_of (Some bytes) ws = whole_of (read_column ws bytes)

abbrev pub on_ref : List (Wire TableRef) → Wired → (List ℕ → Option (List ℕ)) → Result (TableRef × List ℕ) Fault → Option (List ℕ)
on_ref table w next (Err f) = None
on_ref table w next (Ok r) = cond (fits_type table r.0 w) (next r.1) None

-- the bytes behind references to these types
abbrev pub match_refs : List (Wire TableRef) → List Wired → List ℕ → Option (List ℕ)
match_refs table [] bytes = Some bytes
match_refs table (w ∷ ws) bytes = on_ref table w (match_refs table ws) (ref_at (length table) bytes)

abbrev pub on_count : List (Wire TableRef) → List Wired → Result (ℕ × List ℕ) Fault → Option Values
on_count table ws (Err f) = None
on_count table ws (Ok c) = cond (nat_eq c.0 (length ws)) (values_of (match_refs table ws c.1) ws) None

abbrev pub on_table : List Wired → Result (List (Wire TableRef) × List ℕ) Fault → Option Values
on_table ws (Err f) = None
on_table ws (Ok t) = on_count t.0 ws (u32_at BadTable t.1)

module _ (slots : Types) where
  -- ---- values

  abbrev part_of : Node TypeId → List ℕ → Result (Datum × List ℕ) Fault
  part_of n bytes = node_part n (part_by marks (marked slots (wire_of_node (head_at slots) n))) bytes

  part_is : (w : Wired) (bytes : List ℕ) → part_of (node_of w) bytes ≡ wired_at w bytes
  part_is (Number k) bytes = refl
  part_is Truth bytes = refl
  part_is Nothing bytes = refl

  none_inside : (w : Wired) (p : Datum) → wire_inside {B = Ref TypeId} (head_of w) p ≡ []
  none_inside (Number k) p = refl
  none_inside Truth p = refl
  none_inside Nothing part.Null = refl
  none_inside Nothing (part.Flag b) = refl
  none_inside Nothing (part.Number z) = refl
  none_inside Nothing (part.Char c) = refl
  none_inside Nothing (part.Text t) = refl
  none_inside Nothing (part.Blob t) = refl
  none_inside Nothing (part.Principal t) = refl
  none_inside Nothing (part.Actor t) = refl
  none_inside Nothing (part.Method t n) = refl
  none_inside Nothing part.Present = refl
  none_inside Nothing (part.Many n) = refl
  none_inside Nothing (part.Record n) = refl
  none_inside Nothing (part.Tag n) = refl

  no_more : (d : ℕ) (bytes : List ℕ) → read_by slots d [] bytes ≡ Ok (Nil, bytes)
  no_more zero bytes = refl
  no_more (suc d) bytes = refl

  pub values_is : (d : ℕ) (types : List TypeId) (ws : List Wired) (bytes : List ℕ) → AreOf slots types ws → read_by slots (suc d) (refs types) bytes ≡ read_column ws bytes
  values_is d [] [] bytes of = refl
  values_is d [] (w ∷ ws) bytes of = absurd of
  values_is d (t ∷ types) [] bytes of = absurd of
  values_is d (t ∷ types) (w ∷ ws) bytes of =
      ap (λ r. r >>= λ p. read_by slots d (inside_ref (head_at slots) (Of t) p.0) p.1 >>= λ i. read_each slots (read_by slots d) (refs types) i.1 >>= λ o. Ok (Value p.0 i.0 o.0, o.1)) (ap (λ n. part_of n bytes) of.0 ∙ part_is w bytes)
      ∙ by (λ bytes. values_is d types ws bytes of.1) (wired_at w bytes)
    where
      by : ((bytes : List ℕ) → read_by slots (suc d) (refs types) bytes ≡ read_column ws bytes) → (r : Result (Datum × List ℕ) Fault) → (r >>= λ p. read_by slots d (inside_ref (head_at slots) (Of t) p.0) p.1 >>= λ i. read_each slots (read_by slots d) (refs types) i.1 >>= λ o. Ok (Value p.0 i.0 o.0, o.1)) ≡ (r >>= λ p. with_value p.0 (read_column ws p.1))
      by ih (Err f) = refl
      by ih (Ok p) =
          let none : inside_ref (head_at slots) (Of t) p.0 ≡ [] = ap (λ h. wire_inside h p.0) (type_is slots t w of.0) ∙ none_inside w p.0 in
          ap (λ r. r >>= λ i. read_each slots (read_by slots d) (refs types) i.1 >>= λ o. Ok (Value p.0 i.0 o.0, o.1)) (ap (λ l. read_by slots d l p.1) none ∙ no_more d p.1)
          ∙ ap (with_value p.0) (ih p.1)

  -- ---- the types of the arguments

  abbrev found : List (Wire TableRef) → List TypeId → (List ℕ → Option Values) → Result (List TableRef × List ℕ) Fault → Option Values
  found table types next (Err f) = None
  found table types next (Ok r) = cond (same_each table slots r.0 types) (next r.1) None

  abbrev matched : (List ℕ → Option Values) → Option (List ℕ) → Option Values
  matched next None = None
  matched next (Some bytes) = next bytes

  same_both : (a b : Bool) (x : Option Values) → cond (a && b) x None ≡ cond a (cond b x None) None
  same_both true b x = refl
  same_both false b x = refl

  none_twice : (b : Bool) → cond {A = Option Values} b None None ≡ None
  none_twice true = refl
  none_twice false = refl

  module _ (table : List (Wire TableRef)) (sound : (i : ℕ) (h : Wire TableRef) → slice_get table i ≡ Some h → IsSound table h) (next : List ℕ → Option Values) where
    abbrev items : ℕ → List ℕ → Result (List TableRef × List ℕ) Fault
    items c bytes = many (ref_item (length table)) no_state c None bytes

    args_are : (c : ℕ) (types : List TypeId) (ws : List Wired) (bytes : List ℕ) → AreOf slots types ws → found table types next (items c bytes) ≡ cond (nat_eq c (length ws)) (matched next (match_refs table ws bytes)) None
    args_are zero [] [] bytes of = refl
    args_are zero [] (w ∷ ws) bytes of = absurd of
    args_are zero (t ∷ types) [] bytes of = absurd of
    args_are zero (t ∷ types) (w ∷ ws) bytes of = sym (ap (λ b. cond {A = Option Values} b (matched next (match_refs table (w ∷ ws) bytes)) None) (let e : nat_eq 0 (suc (length ws)) ≡ false = grind (arith, nat_tests) in e))
    args_are (suc c) [] [] bytes of = by (ref_at (length table) bytes) ∙ sym (ap (λ b. cond {A = Option Values} b (next bytes) None) (let e : nat_eq (suc c) 0 ≡ false = grind (arith, nat_tests) in e))
      where
        none : (r : TableRef) (rs : Result (List TableRef × List ℕ) Fault) → found table [] next (rs >>= λ xs. Ok (r ∷ xs.0, xs.1)) ≡ None
        none r (Err f) = refl
        none r (Ok x) = refl

        by : (r : Result (TableRef × List ℕ) Fault) → found table [] next (r >>= λ x. many (ref_item (length table)) no_state c None x.1 >>= λ xs. Ok (x.0 ∷ xs.0, xs.1)) ≡ None
        by (Err f) = refl
        by (Ok x) = none x.0 (many (ref_item (length table)) no_state c None x.1)
    args_are (suc c) [] (w ∷ ws) bytes of = absurd of
    args_are (suc c) (t ∷ types) [] bytes of = absurd of
    args_are (suc c) (t ∷ types) (w ∷ ws) bytes of = by (λ bytes. args_are c types ws bytes of.1) (ref_at (length table) bytes)
      where
        counts : nat_eq (suc c) (suc (length ws)) ≡ nat_eq c (length ws)
        counts = suc_eq c (length ws)
          where
            suc_eq : (a b : ℕ) → nat_eq (suc a) (suc b) ≡ nat_eq a b
            suc_eq a b = by (nat_eq a b) refl
              where
                by : (t : Bool) → nat_eq a b ≡ t → nat_eq (suc a) (suc b) ≡ t
                by true e = grind (arith, nat_tests)
                by false e = grind (arith, nat_tests)

        one : (r : TableRef) (rs : Result (List TableRef × List ℕ) Fault) → found table (t ∷ types) next (rs >>= λ xs. Ok (r ∷ xs.0, xs.1)) ≡ cond (fits_type table r w) (found table types next rs) None
        one r (Err f) = sym (none_twice (fits_type table r w))
        one r (Ok x) = same_both (same (of_table table) (of_graph slots) r (Of t)) (same_each table slots x.0 types) (next x.1) ∙ ap (λ b. cond b (cond (same_each table slots x.0 types) (next x.1) None) None) (same_is slots table r t w sound of.0)

        swapped : (a b : Bool) (x : Option (List ℕ)) → cond a (cond b (matched next x) None) None ≡ cond b (matched next (cond a x None)) None
        swapped true b x = refl
        swapped false true x = refl
        swapped false false x = refl

        by : ((bytes : List ℕ) → found table types next (many (ref_item (length table)) no_state c None bytes) ≡ cond (nat_eq c (length ws)) (matched next (match_refs table ws bytes)) None)
            → (r : Result (TableRef × List ℕ) Fault) → found table (t ∷ types) next (r >>= λ x. many (ref_item (length table)) no_state c None x.1 >>= λ xs. Ok (x.0 ∷ xs.0, xs.1)) ≡ cond (nat_eq (suc c) (suc (length ws))) (matched next (on_ref table w (match_refs table ws) r)) None
        by ih (Err f) = sym (none_twice (nat_eq (suc c) (suc (length ws))))
        by ih (Ok x) =
            one x.0 (many (ref_item (length table)) no_state c None x.1) ∙ ap (λ o. cond (fits_type table x.0 w) o None) (ih x.1) ∙ swapped (fits_type table x.0 w) (nat_eq c (length ws)) (match_refs table ws x.1)
            ∙ ap (λ b. cond {A = Option Values} b (matched next (cond (fits_type table x.0 w) (match_refs table ws x.1) None)) None) (sym counts)

  -- ---- the whole

  abbrev behind : List TypeId → List (Wire TableRef) → Result (List TableRef × List ℕ) Fault → Option Values
  behind types table r = found table types (λ bytes. whole_of (read_by slots (most_depth slots (length bytes)) (refs types) bytes)) r

  each_sound : (table ws : List (Wire TableRef)) → Each (IsSound table) ws → (i : ℕ) (h : Wire TableRef) → slice_get ws i ≡ Some h → IsSound table h
  each_sound table [] all i h e = cc
  each_sound table (w ∷ ws) all zero h e = subst (IsSound table) (some_is w h e) all.0
    where
      some_is : (a b : Wire TableRef) → Some a ≡ Some b → a ≡ b
      some_is a b e = cc
  each_sound table (w ∷ ws) all (suc i) h e = each_sound table ws all.1 i h e

  pub read_is : (types : List TypeId) (ws : List Wired) (bytes : List ℕ) → AreOf slots types ws → read slots types bytes ≡ on_table ws (table_read bytes)
  unfolding header_at
  read_is types ws bytes of = magic (magic_at bytes)
    where
      refs_is : (table : List (Wire TableRef)) (rest : List ℕ) → ((i : ℕ) (h : Wire TableRef) → slice_get table i ≡ Some h → IsSound table h)
          → read_behind slots types (refs_at (length table) rest >>= λ r. Ok (header table r.0, r.1)) ≡ on_count table ws (u32_at BadTable rest)
      refs_is table rest sound = count (u32_at BadTable rest)
        where
          next : List ℕ → Option Values
          next bytes = whole_of (read_by slots (most_depth slots (length bytes)) (refs types) bytes)

          seen : (r : Result (List TableRef × List ℕ) Fault) → read_behind slots types (r >>= λ r. Ok (header table r.0, r.1)) ≡ found table types next r
          seen (Err f) = refl
          seen (Ok r) = choose (same_each table slots r.0 types)
            where
              choose : (t : Bool) → elim t [ true ↦ next r.1 | false ↦ None ] ≡ cond t (next r.1) None
              choose true = refl
              choose false = refl

          values : (o : Option (List ℕ)) → matched next o ≡ values_of o ws
          values None = refl
          values (Some bytes) =
              let deep : most_depth slots (length bytes) ≡ suc (length (of_graph slots).parts + budget (all_levels (of_graph slots)) (length bytes)) = omega arith in
              ap (λ d. whole_of (read_by slots d (refs types) bytes)) deep ∙ ap whole_of (values_is (length (of_graph slots).parts + budget (all_levels (of_graph slots)) (length bytes)) types ws bytes of)

          count : (c : Result (ℕ × List ℕ) Fault) → read_behind slots types ((c >>= λ n. many (ref_item (length table)) no_state n.0 None n.1) >>= λ r. Ok (header table r.0, r.1)) ≡ on_count table ws c
          count (Err f) = refl
          count (Ok c) = seen (many (ref_item (length table)) no_state c.0 None c.1) ∙ args_are table sound next c.0 types ws c.1 of ∙ ap (λ o. cond (nat_eq c.0 (length ws)) o None) (values (match_refs table ws c.1))

      tabled : (rest : List ℕ) (t : Result (List (Wire TableRef) × List ℕ) Fault) → table_at rest ≡ t → read_behind slots types (t >>= λ t. refs_at (length t.0) t.1 >>= λ r. Ok (header t.0 r.0, r.1)) ≡ on_table ws t
      tabled rest (Err f) e = refl
      tabled rest (Ok t) e = refs_is t.0 t.1 (each_sound t.0 t.0 (table_exact.sound rest t e).spells.2)

      magic : (r : Result (List ℕ) Fault) → read_behind slots types (r >>= λ rest. table_at rest >>= λ t. refs_at (length t.0) t.1 >>= λ r. Ok (header t.0 r.0, r.1)) ≡ on_table ws (r >>= λ rest. table_at rest)
      magic (Err f) = refl
      magic (Ok rest) = tabled rest (table_at rest) refl
