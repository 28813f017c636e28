-- A list of pairs that is closed under what they ask is equal throughout.
use Rattle.std.proofs.Common.{◌≡◌, ℕ, zero, suc, ◌+◌, ◌<◌, ◌≤◌, List, [], ◌∷◌, ◌++◌, length, Bool, true, false, cond, Option, Some, None, ◌⊎◌, inl, inr, refl, sym, ap, ◌∙◌, subst, arith}
use Rattle.std.specs.Prelude.{slice_get, ◌||◌}
use Rattle.std.specs.List.{list_any}
use Rattle.std.proofs.lemmas.Bool.{cases_lt}
use Rattle.indexmap.specs.IndexSet.{insert_key, insert_all}
use Rattle.mo_types.specs.Sub.{Each}
use Rattle.mo_types.specs.declared.wire.Wire.{Wire}
use Rattle.mo_types.specs.declared.wire.TableRef.{TableRef}
use Rattle.mo_types.specs.Wire.{SameTo}
use Rattle.mo_types.specs.Header.{table_head}
use Rattle.candid_types.specs.Shapes.{shape_at}
use Rattle.candid_equal.specs.declared.pair.Pair.{Pair}
use Rattle.candid_equal.specs.Pairs.{same_pair, pair_decides}
use Rattle.candid_equal.specs.Asks.{Adds, asked, IsEqual, AllEqual}
use Rattle.candid_equal.proofs.Heads.{AllAsked, head_to, head_from}

-- the place of a pair
abbrev pub In : List Pair → Pair → Type 0
In seen p = (k : ℕ) × (slice_get seen k ≡ Some p)

in_front : (seen more : List Pair) (k : ℕ) (p : Pair) → slice_get seen k ≡ Some p → slice_get (seen ++ more) k ≡ Some p
in_front [] more k p e = cc
in_front (q ∷ seen) more zero p e = e
in_front (q ∷ seen) more (suc k) p e = in_front seen more k p e

in_last : (seen : List Pair) (p : Pair) → slice_get (seen ++ p ∷ []) (length seen) ≡ Some p
in_last [] p = refl
in_last (q ∷ seen) p = in_last seen p

known_in : (seen : List Pair) (p : Pair) → list_any (same_pair p) seen ≡ true → In seen p
known_in [] p e = cc
known_in (o ∷ seen) p e = by (same_pair p o) refl (known_in seen p)
  where
    by : (b : Bool) → same_pair p o ≡ b → (list_any (same_pair p) seen ≡ true → In seen p) → In (o ∷ seen) p
    by true h f = (0, ap (λ (z : Pair). Some z) (sym ((pair_decides p o).0 h)))
    by false h f = let i = f (subst (λ b. b || list_any (same_pair p) seen ≡ true) h e) in (suc i.0, i.1)

-- what adding does: what was there stays, what was asked is there, and no more
pub record Added (seen ps new : List Pair) : Type 0 where
  pub kept : (k : ℕ) (p : Pair) → slice_get seen k ≡ Some p → slice_get new k ≡ Some p
  pub there : Each (In new) ps
  pub no_more : (k : ℕ) (p : Pair) → slice_get new k ≡ Some p → In seen p ⊎ In ps p

with_kept : (seen : List Pair) (q : Pair) (b : Bool) → (k : ℕ) (p : Pair) → slice_get seen k ≡ Some p → slice_get (cond b seen (seen ++ q ∷ [])) k ≡ Some p
with_kept seen q true k p e = e
with_kept seen q false k p e = in_front seen (q ∷ []) k p e

with_there : (seen : List Pair) (q : Pair) (b : Bool) → list_any (same_pair q) seen ≡ b → In (cond b seen (seen ++ q ∷ [])) q
with_there seen q true e = known_in seen q e
with_there seen q false e = (length seen, in_last seen q)

at_end : (seen : List Pair) (q : Pair) (k : ℕ) (p : Pair) → slice_get (seen ++ q ∷ []) k ≡ Some p → In seen p ⊎ (q ≡ p)
at_end [] q zero p e = inr cc
at_end [] q (suc k) p e = cc
at_end (o ∷ seen) q zero p e = inl (0, e)
at_end (o ∷ seen) q (suc k) p e = elim (at_end seen q k p e) [ inl i ↦ inl (suc i.0, i.1) | inr s ↦ inr s ]

with_no_more : (seen : List Pair) (q : Pair) (b : Bool) (k : ℕ) (p : Pair) → slice_get (cond b seen (seen ++ q ∷ [])) k ≡ Some p → In seen p ⊎ (q ≡ p)
with_no_more seen q true k p e = inl (k, e)
with_no_more seen q false k p e = at_end seen q k p e

pub adds_add : (seen ps : List Pair) → Added seen ps (insert_all same_pair seen ps)
adds_add seen [] = record { kept = λ k p e. e; there = tt; no_more = λ k p e. inl (k, e) }
adds_add seen (q ∷ ps) =
    let a = adds_add (insert_key same_pair seen q) ps in
    let here = with_there seen q (list_any (same_pair q) seen) refl in
    record {
      kept = λ k p e. a.kept k p (with_kept seen q (list_any (same_pair q) seen) k p e);
      there = ((here.0, a.kept here.0 q here.1), a.there);
      no_more = λ k p e. elim (a.no_more k p e) [
        | inl i ↦ elim (with_no_more seen q (list_any (same_pair q) seen) i.0 p i.1) [ inl j ↦ inl j | inr s ↦ inr (0, ap (λ (x : Pair). Some x) s) ]
        | inr j ↦ inr (suc j.0, j.1)
      ];
    }

every_more : (P Q : Pair → Type 0) (ps : List Pair) → ((p : Pair) → P p → Q p) → Each P ps → Each Q ps
every_more P Q [] f h = tt
every_more P Q (p ∷ ps) f h = (f p h.0, every_more P Q ps f h.1)

every_at : (P : Pair → Type 0) (ps : List Pair) (k : ℕ) (p : Pair) → Each P ps → slice_get ps k ≡ Some p → P p
every_at P [] k p h e = cc
every_at P (q ∷ ps) zero p h e = let same : q ≡ p = cc in subst P same h.0
every_at P (q ∷ ps) (suc k) p h e = every_at P ps k p h.1 e

asked_more : (P Q : Pair → Type 0) (o : Option (List Pair)) → ((p : Pair) → P p → Q p) → AllAsked P o → AllAsked Q o
asked_more P Q None f h = absurd h
asked_more P Q (Some ps) f h = every_more P Q ps f h

module _ (table : List (Wire TableRef)) (shapes : List (Wire ℕ)) where
  abbrev Same : ℕ → Pair → Type 0
  Same n p = SameTo (table_head table) (shape_at shapes) n p.wire p.declared

  start : (p : Pair) → Same zero p
  unfolding SameTo
  start p = tt

  to : (n : ℕ) (p : Pair) → Same (suc n) p → AllAsked (Same n) (asked table shapes p)
  unfolding SameTo
  to n p h = head_to (SameTo (table_head table) (shape_at shapes) n) (table_head table p.wire) (shape_at shapes p.declared) h

  from : (n : ℕ) (p : Pair) → AllAsked (Same n) (asked table shapes p) → Same (suc n) p
  unfolding SameTo
  from n p h = head_from (SameTo (table_head table) (shape_at shapes) n) (table_head table p.wire) (shape_at shapes p.declared) h

  abbrev Equal : Pair → Type 0
  Equal p = IsEqual table shapes p

  -- what a pair asks is there
  abbrev pub Answered : List Pair → Pair → Type 0
  Answered seen p = AllAsked (In seen) (asked table shapes p)

  -- the search so far
  pub record Search (roots seen : List Pair) (next : ℕ) : Type 0 where
    pub rooted : Each (In seen) roots
    pub answered : (k : ℕ) (p : Pair) → k < next → slice_get seen k ≡ Some p → Answered seen p
    pub implied : (k : ℕ) (p : Pair) → slice_get seen k ≡ Some p → AllEqual table shapes roots → Equal p

  -- what is equal has equal parts
  parts_equal : (p : Pair) (cs : List Pair) → asked table shapes p ≡ Some cs → Equal p → (k : ℕ) (q : Pair) → slice_get cs k ≡ Some q → Equal q
  parts_equal p cs e h k q at = record { to = λ n. every_at (Same n) cs k q (subst (AllAsked (Same n)) e (to n p (h.to (suc n)))) at }

  closed : (seen : List Pair) → ((k : ℕ) (p : Pair) → slice_get seen k ≡ Some p → Answered seen p) → (n k : ℕ) (p : Pair) → slice_get seen k ≡ Some p → Same n p
  closed seen h zero k p e = start p
  closed seen h (suc n) k p e = from n p (asked_more (In seen) (Same n) (asked table shapes p) (λ q i. closed seen h n i.0 q i.1) (h k p e))

  pub begins : (empty roots seen : List Pair) → empty ≡ [] → seen ≡ insert_all same_pair empty roots → Search roots seen 0
  begins empty roots seen none is =
      let a : Added [] roots seen = subst (Added [] roots) (sym (is ∙ ap (λ l. insert_all same_pair l roots) none)) (adds_add [] roots) in
      record {
        rooted = a.there;
        answered = λ k p lt e. absurd (omega arith);
        implied = λ k p e all. elim (a.no_more k p e) [ inl i ↦ absurd (nowhere i.0 p i.1) | inr i ↦ every_at Equal roots i.0 p all i.1 ];
      }
    where
      nowhere : (k : ℕ) (p : Pair) → slice_get {X = Pair} [] k ≡ Some p → ⊥
      nowhere k p e = cc

  less : (k n : ℕ) → k < n + 1 → (k < n) ⊎ (k ≡ n)
  less k n h = elim (cases_lt k n) [ inl l ↦ inl l | inr g ↦ inr (omega arith) ]

  past : (seen : List Pair) (k : ℕ) → slice_get seen k ≡ None → length seen ≤ k
  past [] k e = omega arith
  past (q ∷ seen) zero e = cc
  past (q ∷ seen) (suc k) e = let i = past seen k e in omega arith

  within : (seen : List Pair) (k : ℕ) (p : Pair) → slice_get seen k ≡ Some p → k < length seen
  within [] k p e = cc
  within (q ∷ seen) zero p e = omega arith
  within (q ∷ seen) (suc k) p e = let i = within seen k p e in omega arith

  pub goes_on : (roots seen new cs : List Pair) (next : ℕ) (p : Pair) → Search roots seen next → slice_get seen next ≡ Some p → asked table shapes p ≡ Some cs → new ≡ insert_all same_pair seen cs → Search roots new (next + 1)
  goes_on roots seen new cs next p s at e is = record { rooted = every_more (In seen) (In new) roots keep s.rooted; answered = answer; implied = imply }
    where
      add : Added seen cs new
      add = subst (Added seen cs) (sym is) (adds_add seen cs)

      keep : (q : Pair) → In seen q → In new q
      keep q i = (i.0, add.kept i.0 q i.1)

      old_one : (k : ℕ) (q r : Pair) → slice_get seen k ≡ Some q → slice_get new k ≡ Some r → q ≡ r
      old_one k q r a b = let c = add.kept k q a in let d = b in cc

      old_at : (xs : List Pair) (k : ℕ) → k < length xs → (q : Pair) × (slice_get xs k ≡ Some q)
      old_at [] k lt = absurd (omega arith)
      old_at (x ∷ xs) zero lt = (x, refl)
      old_at (x ∷ xs) (suc k) lt = old_at xs k (omega arith)

      answer : (k : ℕ) (q : Pair) → k < next + 1 → slice_get new k ≡ Some q → Answered new q
      answer k q lt e2 = elim (less k next lt) [
        | inl l ↦
            let o = old_at seen k (let w = within seen next p at in omega arith) in
            let same = old_one k o.0 q o.1 e2 in
            subst (Answered new) same (asked_more (In seen) (In new) (asked table shapes o.0) keep (s.answered k o.0 l o.1))
        | inr r ↦
            let there : slice_get seen k ≡ Some p = ap (slice_get seen) r ∙ at in
            let same = old_one k p q there e2 in
            subst (Answered new) same (subst (AllAsked (In new)) (sym e) add.there)
      ]

      imply : (k : ℕ) (q : Pair) → slice_get new k ≡ Some q → AllEqual table shapes roots → Equal q
      imply k q e2 all = elim (add.no_more k q e2) [
        | inl i ↦ s.implied i.0 q i.1 all
        | inr i ↦ parts_equal p cs e (s.implied next p at all) i.0 q i.1
      ]

  pub says_yes : (roots seen : List Pair) (next : ℕ) → Search roots seen next → slice_get seen next ≡ None → AllEqual table shapes roots
  says_yes roots seen next s none =
      let le = past seen next none in
      every_more (In seen) Equal roots (λ p i. record { to = λ n. closed seen (λ k q e. s.answered k q (let w = within seen k q e in omega arith) e) n i.0 p i.1 }) s.rooted

  pub says_no : (roots seen : List Pair) (next : ℕ) (p : Pair) → Search roots seen next → slice_get seen next ≡ Some p → asked table shapes p ≡ None → AllEqual table shapes roots → ⊥
  says_no roots seen next p s at e all = subst (AllAsked (Same 0)) e (to 0 p ((s.implied next p at all).to 1))

none_of : (o : Option (List Pair)) (b : Bool) (old new : List Pair) → Adds o b old new → b ≡ false → o ≡ None
none_of None b old new h e = refl
none_of (Some qs) true old new h e = cc
none_of (Some qs) false old new h e = absurd h

some_of : (o : Option (List Pair)) (b : Bool) (old new : List Pair) → Adds o b old new → b ≡ true → old ≡ [] → o ≡ Some new
some_of None true old new h e n = absurd h
some_of None false old new h e n = cc
some_of (Some qs) false old new h e n = absurd h
some_of (Some qs) true old new h e n = ap (λ l. Some l) (sym (h ∙ ap (λ l. l ++ qs) n))

module _ (table : List (Wire TableRef)) (shapes : List (Wire ℕ)) (roots seen : List Pair) (next : ℕ) (s : Search table shapes roots seen next) (p : Pair) (o : Option Pair) (at : o ≡ slice_get seen next) (is : o ≡ Some p) (b : Bool) (old out : List Pair) (h : Adds (asked table shapes p) b old out) where
  pub ends_no : b ≡ false → AllEqual table shapes roots → ⊥
  ends_no e = says_no table shapes roots seen next p s (sym at ∙ is) (none_of (asked table shapes p) b old out h e)

  pub one_more : (new more : List Pair) → b ≡ true → old ≡ [] → more ≡ out → new ≡ insert_all same_pair seen more → Search table shapes roots new (next + 1)
  one_more new more e n m k = goes_on table shapes roots seen new out next p s (sym at ∙ is) (some_of (asked table shapes p) b old out h e n) (k ∙ ap (λ l. insert_all same_pair seen l) m)
