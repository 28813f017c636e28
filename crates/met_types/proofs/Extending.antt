-- Parts that are added to a graph.
use Rattle.std.proofs.Common.{◌≡◌, ◌⊎◌, inl, inr, ℕ, zero, suc, ◌+◌, ◌<◌, ◌≤◌, List, [], ◌∷◌, ◌++◌, length, take, Some, slice_get, refl, sym, ap, ◌∙◌, subst, arith, length-append}
use Rattle.mo_types.specs.declared.node.TypeId.{TypeId}
use Rattle.mo_types.specs.Graph.{Slot, Open, Fits, IsAdded, total, node_of, node_entries}
use Rattle.subtype_laws.specs.Reached.{Among}
use Rattle.type_terms.specs.declared.form.TermId.{TermId}
use Rattle.met_types.specs.declared.fault.MeetFault.{MeetFault}
use Rattle.met_types.specs.declared.fault.MeetFault.TheVariants as meet
use Rattle.met_types.specs.Faults.{IfTooMany}
use Rattle.met_types.specs.Reached.{IsMissing}
use Rattle.met_types.specs.Closing.{Different, Extends, NoRoom, AreNumbers}
use Rattle.met_types.proofs.Indexing.{get_left, get_last, get_either, in_range, there}

total_open : (ss : List Slot) → total (ss ++ Open ∷ []) ≡ total ss
total_open [] = refl
total_open (s ∷ ss) = ap (λ n. node_entries (node_of s) + n) (total_open ss)

pub extends_not : (parts old : List TermId) (slots : List Slot) → length old ≡ length slots → Different old → Fits slots → Extends parts old old slots slots
extends_not parts old slots m d f = record {
  keeps = λ i t h. h;
  slots_keep = λ i s h. h;
  added = λ i t l h. absurd (let k : i < length old = in_range old i t h in omega arith);
  longer = omega arith;
  many = m;
  different = d;
  fits = f;
  same_total = refl;
}

pub extends_one : (old : List TermId) (slots more : List Slot) (t : TermId) (id : TypeId) → length old ≡ length slots → Different old → IsMissing old t → IsAdded slots Open id more → Extends (t ∷ []) old (old ++ t ∷ []) slots more
extends_one old slots more t id m d missing a = record {
  keeps = λ i u h. get_left old (t ∷ []) i u h;
  slots_keep = λ i s h. ap (λ (l : List Slot). slice_get l i) a.slots ∙ get_left slots (Open ∷ []) i s h;
  added = λ i u l h. added i u l (get_either old t u i h);
  longer = omega (arith, n);
  many = omega (arith, n, k);
  different = λ i j u h k. different i j u (get_either old t u i h) (get_either old t u j k);
  fits = a.fits;
  same_total = ap total a.slots ∙ total_open slots;
} where
  n : length (old ++ t ∷ []) ≡ length old + 1
  n = length-append old (t ∷ [])

  k : length more ≡ length slots + 1
  k = ap length a.slots ∙ length-append slots (Open ∷ [])

  added : (i : ℕ) (u : TermId) → length old ≤ i → (slice_get old i ≡ Some u) ⊎ ((i ≡ length old) × (t ≡ u)) → Among u (t ∷ []) × (slice_get more i ≡ Some Open)
  added i u l (inl h) = absurd (let k : i < length old = in_range old i u h in omega arith)
  added i u l (inr h) = (inl h.1, ap (λ (l : List Slot). slice_get l i) a.slots ∙ (ap (slice_get (slots ++ Open ∷ [])) (h.0 ∙ m) ∙ get_last slots Open))

  different : (i j : ℕ) (u : TermId) → (slice_get old i ≡ Some u) ⊎ ((i ≡ length old) × (t ≡ u)) → (slice_get old j ≡ Some u) ⊎ ((j ≡ length old) × (t ≡ u)) → i ≡ j
  different i j u (inl h) (inl k) = d i j u h k
  different i j u (inl h) (inr k) = absurd (missing i (h ∙ ap (λ (x : TermId). Some x) (sym k.1)))
  different i j u (inr h) (inl k) = absurd (missing j (k ∙ ap (λ (x : TermId). Some x) (sym h.1)))
  different i j u (inr h) (inr k) = h.0 ∙ sym k.0

wider : (u : TermId) (ps qs : List TermId) → Among u ps → Among u (ps ++ qs)
wider u [] qs h = absurd h
wider u (p ∷ ps) qs (inl h) = inl h
wider u (p ∷ ps) qs (inr h) = inr (wider u ps qs h)

last_among : (u : TermId) (ps : List TermId) (q : TermId) → Among u (q ∷ []) → Among u (ps ++ q ∷ [])
last_among u [] q h = h
last_among u (p ∷ ps) q h = inr (last_among u ps q h)

pub lt_or : (i n : ℕ) → (i < n) ⊎ (n ≤ i)
lt_or i zero = inr (omega arith)
lt_or zero (suc n) = inl (omega arith)
lt_or (suc i) (suc n) = next (lt_or i n) where
  next : (i < n) ⊎ (n ≤ i) → (suc i < suc n) ⊎ (suc n ≤ suc i)
  next (inl h) = inl (omega arith)
  next (inr h) = inr (omega arith)

-- further parts
pub extends_on : (ps : List TermId) (q : TermId) (a b c : List TermId) (r s t : List Slot) → Extends ps a b r s → Extends (q ∷ []) b c s t → Extends (ps ++ q ∷ []) a c r t
extends_on ps q a b c r s t m n = record {
  keeps = λ i u h. n.keeps i u (m.keeps i u h);
  slots_keep = λ i z h. n.slots_keep i z (m.slots_keep i z h);
  added = λ i u l h. added i u l h (lt_or i (length b));
  longer = let x : length a ≤ length b = m.longer in let y : length b ≤ length c = n.longer in omega arith;
  many = n.many;
  different = n.different;
  fits = n.fits;
  same_total = n.same_total ∙ m.same_total;
} where
  added : (i : ℕ) (u : TermId) → length a ≤ i → slice_get c i ≡ Some u → (i < length b) ⊎ (length b ≤ i) → Among u (ps ++ q ∷ []) × (slice_get t i ≡ Some Open)
  added i u l h (inl k) =
      let v = there b i k in
      let g : Some v.0 ≡ Some u = sym (n.keeps i v.0 v.1) ∙ h in
      let e : v.0 ≡ u = cc in
      let f = m.added i v.0 l v.1 in
      (subst (λ (x : TermId). Among x (ps ++ q ∷ [])) e (wider v.0 ps (q ∷ []) f.0), n.slots_keep i Open f.1)
  added i u l h (inr k) = let f = n.added i u k h in (last_among u ps q f.0, f.1)

-- ---- their numbers

pub numbers_keep : (a b : List TermId) → ((i : ℕ) (t : TermId) → slice_get a i ≡ Some t → slice_get b i ≡ Some t) → (ps : List TermId) (ids : List TypeId) → AreNumbers a ps ids → AreNumbers b ps ids
numbers_keep a b k [] [] h = tt
numbers_keep a b k [] (id ∷ ids) h = absurd h
numbers_keep a b k (p ∷ ps) [] h = absurd h
numbers_keep a b k (p ∷ ps) (id ∷ ids) h = (k id.index p h.0, numbers_keep a b k ps ids h.1)

pub numbers_more : (a : List TermId) (ps : List TermId) (ids : List TypeId) (p : TermId) (id : TypeId) → AreNumbers a ps ids → slice_get a id.index ≡ Some p → AreNumbers a (ps ++ p ∷ []) (ids ++ id ∷ [])
numbers_more a [] [] p id h k = (k, tt)
numbers_more a [] (j ∷ ids) p id h k = absurd h
numbers_more a (q ∷ ps) [] p id h k = absurd h
numbers_more a (q ∷ ps) (j ∷ ids) p id h k = (h.0, numbers_more a ps ids p id h.1 k)

-- ---- no room

pub no_room_for : (ps qs : List TermId) (a : List TermId) → ((u : TermId) → Among u ps → Among u qs) → NoRoom ps a → NoRoom qs a
no_room_for ps qs a k r = record { part = r.part; among = k r.part r.among; missing = r.missing; full = r.full }

pub extends_for : (ps qs : List TermId) (a b : List TermId) (r s : List Slot) → ((u : TermId) → Among u ps → Among u qs) → Extends ps a b r s → Extends qs a b r s
extends_for ps qs a b r s k m = record {
  keeps = m.keeps;
  slots_keep = m.slots_keep;
  added = λ i t l h. (let f = m.added i t l h in (k t f.0, f.1));
  longer = m.longer;
  many = m.many;
  different = m.different;
  fits = m.fits;
  same_total = m.same_total;
}

pub one_there : (old new : List TermId) (slots more : List Slot) (t : TermId) (id : TypeId) → length old ≡ length slots → IsAdded slots Open id more → new ≡ old ++ t ∷ [] → slice_get new id.index ≡ Some t
one_there old new slots more t id m a e = ap (λ (l : List TermId). slice_get l id.index) e ∙ (ap (slice_get (old ++ t ∷ [])) (a.number ∙ sym m) ∙ get_last old t)

-- ---- the loop over parts

take_among : (n : ℕ) (xs : List TermId) (u : TermId) → Among u (take n xs) → Among u xs
take_among zero xs u h = absurd h
take_among (suc n) [] u h = absurd h
take_among (suc n) (x ∷ xs) u (inl h) = inl h
take_among (suc n) (x ∷ xs) u (inr h) = inr (take_among n xs u h)

among_end : (xs : List TermId) (x : TermId) → Among x (xs ++ x ∷ [])
among_end [] x = inl refl
among_end (y ∷ xs) x = inr (among_end xs x)

pub parts_err : (f : MeetFault) (xs : List TermId) (i : ℕ) (p : TermId) (old mid new : List TermId) (g h k : List Slot) → take (i + 1) xs ≡ take i xs ++ p ∷ [] → Extends (take i xs) old mid g h
    → IfTooMany f (NoRoom (p ∷ []) new × (new ≡ mid) × (k ≡ h)) → IfTooMany f (NoRoom xs new × Extends xs old new g k)
parts_err meet.Memory xs i p old mid new g h k e m r = tt
parts_err meet.TooManyTypes xs i p old mid new g h k e m r =
    let one : Among p xs = take_among (i + 1) xs p (subst (λ ys. Among p ys) (sym e) (among_end (take i xs) p)) in (
      no_room_for (p ∷ []) xs new (only p one) r.0,
      subst (λ ys. Extends xs old ys g k) (sym r.1) (subst (λ ys. Extends xs old mid g ys) (sym r.2) (extends_for (take i xs) xs old mid g h (take_among i xs) m)),
    )
  where
    only : (p : TermId) → Among p xs → (u : TermId) → Among u (p ∷ []) → Among u xs
    only p h u (inl e) = subst (λ (y : TermId). Among y xs) e h
    only p h u (inr e) = absurd e

pub parts_next : (xs : List TermId) (i : ℕ) (p : TermId) (old mid new : List TermId) (g h k : List Slot) (ids js : List TypeId) (id : TypeId) → take (i + 1) xs ≡ take i xs ++ p ∷ [] → js ≡ ids ++ id ∷ []
    → AreNumbers mid (take i xs) ids → Extends (take i xs) old mid g h → slice_get new id.index ≡ Some p → Extends (p ∷ []) mid new h k
    → AreNumbers new (take (i + 1) xs) js × Extends (take (i + 1) xs) old new g k
parts_next xs i p old mid new g h k ids js id e j n m t q = (
  subst (λ ys. AreNumbers new ys js) (sym e) (subst (λ ys. AreNumbers new (take i xs ++ p ∷ []) ys) (sym j) (numbers_more new (take i xs) ids p id (numbers_keep mid new q.keeps (take i xs) ids n) t)),
  subst (λ ys. Extends ys old new g k) (sym e) (extends_on (take i xs) p old mid new g h k m q),
)
