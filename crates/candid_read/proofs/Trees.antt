-- Reading part after part goes one way: what is read of values is spelled, and what is spelled is read.
use Rattle.std.proofs.Common.{◌≡◌, ℕ, List, [], ◌∷◌, ◌++◌, length, Result, Ok, Err, refl, sym, ap, ◌∙◌, subst, append_assoc}
use Rattle.std.specs.Prelude.{IfOk}
use Rattle.std.proofs.lemmas.List.{append-nil}
use Rattle.mo_types.specs.declared.datum.Datum.{Datum}
use Rattle.mo_types.specs.Values.{Values, Nil, Value, flat, arity, firsts, after, tree}
use Rattle.mo_types.specs.Spelling.{Then}
use Rattle.candid_header.specs.declared.fault.Fault.{Fault}
use Rattle.exact_reading.specs.declared.stop.Stop.{Stop}
use Rattle.exact_reading.specs.declared.stop.Stop.TheVariants as stop
use Rattle.candid_header.specs.Reading.{Reading}
use Rattle.exact_reading.proofs.Exact.{Exact}
use Rattle.candid_forms.specs.Forms.{FormsBy}
use Rattle.candid_read.specs.Whole.{Reaches, Stops, IfFault, Takes, Finds}
use Rattle.candid_read.proofs.Reach.{reaches_then}

abbrev pairs : List Datum → List ℕ → List Datum × List ℕ
pairs ps r = (ps, r)

abbrev pair : Datum → List ℕ → Datum × List ℕ
pair p r = (p, r)

ok_same : (p q : Datum) (a b : List ℕ) (r : Result (Datum × List ℕ) Fault) → r ≡ Ok (p, a) → r ≡ Ok (q, b) → pair p a ≡ pair q b
ok_same p q a b r e f = cc

paired : (a b : List Datum) (x y : List ℕ) → a ≡ b → x ≡ y → pairs a x ≡ pairs b y
paired a b x y e f = ap (λ (z : List Datum). pairs z x) e ∙ ap (λ (z : List ℕ). pairs b z) f

module _ {B : Type 0} (part_of : B → Reading Datum) (inside : B → Datum → List B) where
  abbrev Goes : List B → List Datum → List ℕ → List B → List ℕ → Type 0
  Goes ts ps bytes todo rest = Reaches part_of inside ts ps bytes todo rest

  -- ---- reading goes one way

  -- two readings of all the types are one
  one_reading : (ts : List B) (ps qs : List Datum) (bytes rest other : List ℕ) → Goes ts ps bytes [] rest → Goes ts qs bytes [] other → (ps ≡ qs) × (rest ≡ other)
  one_reading [] [] [] bytes rest other r s = (refl, sym r.1 ∙ s.1)
  one_reading [] [] (q ∷ qs) bytes rest other r s = absurd s
  one_reading [] (p ∷ ps) qs bytes rest other r s = absurd r
  one_reading (t ∷ ts) [] qs bytes rest other r s = absurd (let e = r.0 in cc)
  one_reading (t ∷ ts) (p ∷ ps) [] bytes rest other r s = absurd (let e = s.0 in cc)
  one_reading (t ∷ ts) (p ∷ ps) (q ∷ qs) bytes rest other r s =
      let e = ok_same p q r.0 s.0 (part_of t bytes) r.1 s.1 in
      let pq : p ≡ q = ap (λ (x : Datum × List ℕ). x.0) e in
      let ab : r.0 ≡ s.0 = ap (λ (x : Datum × List ℕ). x.1) e in
      let moved : Goes (inside t q ++ ts) ps s.0 [] rest = subst (λ (x : Datum). Goes (inside t x ++ ts) ps s.0 [] rest) pq (subst (λ (x : List ℕ). Goes (inside t p ++ ts) ps x [] rest) ab r.2) in
      let i = one_reading (inside t q ++ ts) ps qs s.0 rest other moved s.2 in
      (ap (λ (x : Datum). x ∷ ps) pq ∙ ap (λ (x : List Datum). q ∷ x) i.0, i.1)

  -- where all is read there is no fault
  no_fault : (ts : List B) (ps qs : List Datum) (bytes rest : List ℕ) (todo : List B) (left : List ℕ) (t : B) (f : Fault) → Goes ts ps bytes [] rest → Goes ts qs bytes (t ∷ todo) left → part_of t left ≡ Err f → ⊥
  no_fault [] ps [] bytes rest todo left t f r s h = let e = s.0 in cc
  no_fault [] ps (q ∷ qs) bytes rest todo left t f r s h = absurd s
  no_fault (u ∷ ts) [] qs bytes rest todo left t f r s h = let e = r.0 in cc
  no_fault (u ∷ ts) (p ∷ ps) [] bytes rest todo left t f r s h =
      let e = s.0 in
      let same : u ≡ t = cc in
      let there : part_of t left ≡ Ok (p, r.0) = ap (part_of t) (sym s.1) ∙ ap (λ (x : B). part_of x bytes) (sym same) ∙ r.1 in
      let bad = h in
      cc
  no_fault (u ∷ ts) (p ∷ ps) (q ∷ qs) bytes rest todo left t f r s h =
      let e = ok_same p q r.0 s.0 (part_of u bytes) r.1 s.1 in
      let pq : p ≡ q = ap (λ (x : Datum × List ℕ). x.0) e in
      let ab : r.0 ≡ s.0 = ap (λ (x : Datum × List ℕ). x.1) e in
      let moved : Goes (inside u q ++ ts) ps s.0 [] rest = subst (λ (x : Datum). Goes (inside u x ++ ts) ps s.0 [] rest) pq (subst (λ (x : List ℕ). Goes (inside u p ++ ts) ps x [] rest) ab r.2) in
      no_fault (inside u q ++ ts) ps qs s.0 rest todo left t f moved s.2 h

  -- ---- trees

  module _ (IsPart : B → Datum → List ℕ → Type 0) (exact : (t : B) → Exact (IsPart t) (part_of t)) (counted : (t : B) (p : Datum) (bytes : List ℕ) → IsPart t p bytes → arity p ≡ length (inside t p)) where
    abbrev Spells : List B → Values → List ℕ → Type 0
    Spells ts v bytes = FormsBy IsPart inside ts v bytes

    -- what is spelled is read as its flat form
    spelled_reads : (ts : List B) (v : Values) (bytes : List ℕ) (todo : List B) (rest : List ℕ) → Spells ts v bytes → Goes (ts ++ todo) (flat v) (bytes ++ rest) todo rest
    spelled_reads [] Nil bytes todo rest h = let e : bytes ++ rest ≡ rest = ap (λ (b : List ℕ). b ++ rest) h in nothing todo e
      where
        nothing : (todo : List B) → bytes ++ rest ≡ rest → Goes todo [] (bytes ++ rest) todo rest
        nothing [] e = (refl, e)
        nothing (t ∷ ts) e = (refl, e)
    spelled_reads (t ∷ ts) Nil bytes todo rest h = absurd h
    spelled_reads [] (Value p inner others) bytes todo rest h = absurd h
    spelled_reads (t ∷ ts) (Value p inner others) bytes todo rest h =
        let a = h.front in
        let b = h.second.front in
        let c = h.second.back in
        let shape : bytes ++ rest ≡ a ++ (b ++ (c ++ rest)) = ap (λ (x : List ℕ). x ++ rest) (h.whole ∙ ap (λ (x : List ℕ). a ++ x) h.second.whole) ∙ append_assoc a (b ++ c) rest ∙ ap (λ (x : List ℕ). a ++ x) (append_assoc b c rest) in
        let first = spelled_reads (inside t p) inner b (ts ++ todo) (c ++ rest) h.second.first in
        let second = spelled_reads ts others c todo rest h.second.second in
        (b ++ (c ++ rest), ap (part_of t) shape ∙ (exact t).complete p a (b ++ (c ++ rest)) h.first, reaches_then part_of inside (inside t p ++ (ts ++ todo)) (flat inner) (flat others) (b ++ (c ++ rest)) (ts ++ todo) (c ++ rest) todo rest first second)

    -- a spelling of values of two lists of types is one of each
    cut : (us ts : List B) (w : Values) (bytes : List ℕ) → Spells (us ++ ts) w bytes → Then (Spells us (firsts (length us) w)) (Spells ts (after (length us) w)) bytes
    cut [] ts w bytes h = record { front = []; back = bytes; whole = refl; first = refl; second = h }
    cut (u ∷ us) ts Nil bytes h = absurd h
    cut (u ∷ us) ts (Value p inner others) bytes h =
        let i = cut us ts others h.second.back h.second.second in
        let a = h.front in
        let b = h.second.front in
        record {
          front = a ++ (b ++ i.front);
          back = i.back;
          whole = h.whole ∙ ap (λ (x : List ℕ). a ++ x) (h.second.whole ∙ ap (λ (x : List ℕ). b ++ x) i.whole ∙ sym (append_assoc b i.front i.back)) ∙ sym (append_assoc a (b ++ i.front) i.back);
          first = record { front = a; back = b ++ i.front; whole = refl; first = h.first; second = record { front = b; back = i.front; whole = refl; first = h.second.first; second = i.first } };
          second = i.second;
        }

    -- what is read is a spelling of the tree of the parts
    read_spells : (ts : List B) (ps : List Datum) (bytes rest : List ℕ) → Goes ts ps bytes [] rest → Takes (Spells ts (tree ps)) bytes rest
    read_spells [] [] bytes rest r = record { front = []; whole = r.1; holds = refl }
    read_spells (t ∷ ts) [] bytes rest r = absurd (let e = r.0 in cc)
    read_spells [] (p ∷ ps) bytes rest r = absurd r
    read_spells (t ∷ ts) (p ∷ ps) bytes rest r =
        let h = (exact t).sound bytes (p, r.0) r.1 in
        let i = read_spells (inside t p ++ ts) ps r.0 rest r.2 in
        let c = cut (inside t p) ts (tree ps) i.front i.holds in
        let k : length (inside t p) ≡ arity p = sym (counted t p h.front h.spells) in
        let inner = subst (λ (n : ℕ). Then (Spells (inside t p) (firsts n (tree ps))) (Spells ts (after n (tree ps))) i.front) k c in
        record {
          front = h.front ++ i.front;
          whole = h.split ∙ ap (λ (x : List ℕ). h.front ++ x) i.whole ∙ sym (append_assoc h.front i.front rest);
          holds = record { front = h.front; back = i.front; whole = refl; first = h.spells; second = inner };
        }

    -- ---- what the reader's answer means

    reads_all : (ts : List B) (v : Values) (bytes front rest : List ℕ) → Spells ts v front → bytes ≡ front ++ rest → Goes ts (flat v) bytes [] rest
    reads_all ts v bytes front rest h e =
        subst (λ (b : List ℕ). Goes ts (flat v) b [] rest) (sym e) (subst (λ (x : List B). Goes x (flat v) (front ++ rest) [] rest) (append-nil ts) (spelled_reads ts v front [] rest h))

    pub found_is : {X : Type 0} (list : X → List Datum) (more : X → List ℕ) (r : Result X (Stop Fault)) (ts : List B) (bytes : List ℕ)
        → IfOk r (λ x. Goes ts (list x) bytes [] (more x)) → IfOk r (λ x. Takes (Spells ts (tree (list x))) bytes (more x))
    found_is list more (Ok x) ts bytes r = read_spells ts (list x) bytes (more x) r
    found_is list more (Err e) ts bytes r = tt

    pub only_is : {X : Type 0} (list : X → List Datum) (more : X → List ℕ) (r : Result X (Stop Fault)) (ts : List B) (bytes : List ℕ)
        → IfOk r (λ x. Goes ts (list x) bytes [] (more x)) → IfFault r (λ f. Stops part_of inside ts bytes f)
        → (v : Values) (front rest : List ℕ) → Spells ts v front → bytes ≡ front ++ rest → Finds (λ x. (list x, more x)) r (flat v) rest
    only_is list more (Ok x) ts bytes ok bad v front rest h e =
        let one = one_reading ts (list x) (flat v) bytes (more x) rest ok (reads_all ts v bytes front rest h e) in
        paired (list x) (flat v) (more x) rest one.0 one.1
    only_is list more (Err stop.Memory) ts bytes ok bad v front rest h e = tt
    only_is list more (Err (stop.Fault f)) ts bytes ok bad v front rest h e =
        no_fault ts (flat v) bad.parts bytes rest bad.todo bad.rest bad.next f (reads_all ts v bytes front rest h e) bad.reached bad.faulty
