-- What the rounds of the search prove.
use Rattle.std.proofs.Common.{◌≡◌, ℕ, zero, suc, ◌+◌, ◌<◌, ◌≤◌, Bool, true, false, ◌||◌, List, [], ◌∷◌, ◌++◌, length, Option, Some, None, if◌then◌else◌, refl, sym, ap, ◌∙◌, subst, arith, length-append, append_assoc, nat_lt}
use Rattle.std.specs.Prelude.{slice_get}
use Rattle.std.specs.List.{list_any}
use Rattle.std.proofs.lemmas.Bool.Decides.{Decides-ltb}
use Rattle.std.proofs.lemmas.Bool.{ltb-false}
use Rattle.indexmap.specs.IndexSet.{insert_key, insert_all}
use Rattle.mo_types.specs.declared.node.Node.{Node}
use Rattle.mo_types.specs.declared.node.TypeId.{TypeId}
use Rattle.mo_types.specs.Sub.{AtSome, Each, Sub, IsSubtype}
use Rattle.mo_subtype.specs.declared.pairs.Pair.{Pair}
use Rattle.mo_subtype.specs.Pairs.{same_pair, pair_decides}
use Rattle.mo_types.specs.Graph.{Slot, head_at}
use Rattle.mo_subtype.specs.Questions.{pair, asked, questions}
use Rattle.mo_subtype.specs.Certificate.{In, Proves, Fails, Adds, Led, Grew, AllBelow, Asked, Turned}
use Rattle.mo_subtype.proofs.Questions.{Holds, each_append, each_map}
use Rattle.mo_subtype.proofs.Rounds.{Round, first, next, clash, below_clash, closed, sub_to, sub_less}

abbrev pub P : Type 0
P = Pair TypeId

append_nil : (xs : List P) → xs ++ [] ≡ xs
append_nil [] = refl
append_nil (x ∷ xs) = ap (λ l. x ∷ l) (append_nil xs)

in_front : (xs ys : List P) (q : P) (i : ℕ) → slice_get xs i ≡ Some q → slice_get (xs ++ ys) i ≡ Some q
in_front [] ys q i e = cc
in_front (x ∷ xs) ys q zero e = e
in_front (x ∷ xs) ys q (suc i) e = in_front xs ys q i e

from_front : (xs ys : List P) (i : ℕ) → i < length xs → slice_get (xs ++ ys) i ≡ slice_get xs i
from_front [] ys i l = absurd (omega arith)
from_front (x ∷ xs) ys zero l = refl
from_front (x ∷ xs) ys (suc i) l = from_front xs ys i (omega arith)

bound : (xs : List P) (i : ℕ) (q : P) → slice_get xs i ≡ Some q → i < length xs
bound [] i q e = cc
bound (x ∷ xs) zero q e = omega arith
bound (x ∷ xs) (suc i) q e = let h : i < length xs = bound xs i q e in omega arith

each_at : (F : P → Type 0) (xs : List P) (q : P) (i : ℕ) → slice_get xs i ≡ Some q → Each F xs → F q
each_at F [] q i e h = cc
each_at F (x ∷ xs) q zero e h = let f : Some x ≡ Some q = e in let g : x ≡ q = cc in subst F g h.0
each_at F (x ∷ xs) q (suc i) e h = each_at F xs q i e h.1

at_map : (o : Option (List P)) (F G : List P → Type 0) → ((x : List P) → F x → G x) → AtSome o F → AtSome o G
at_map None F G f h = h
at_map (Some x) F G f h = f x h

-- Keys as they are inserted.
any_in : (k : P) (ks : List P) → list_any (same_pair k) ks ≡ true → In ks k
any_in k [] h = cc
any_in k (x ∷ ks) h = by (same_pair k x) refl (any_in k ks) where
  by : (b : Bool) → same_pair k x ≡ b → (list_any (same_pair k) ks ≡ true → In ks k) → In (x ∷ ks) k
  by true e f = (0, ap (λ (z : P). Some z) (sym ((pair_decides k x).0 e)))
  by false e f = let i = f (subst (λ b. b || list_any (same_pair k) ks ≡ true) e h) in (suc i.0, i.1)

at_end : (ks : List P) (k : P) → slice_get (ks ++ k ∷ []) (length ks) ≡ Some k
at_end [] k = refl
at_end (x ∷ ks) k = at_end ks k

pub record OneMore (ks : List P) (k : P) (new : List P) : Type 0 where
  pub there : In new k
  pub more : List P
  pub grew : new ≡ ks ++ more
  pub only : Each (λ q. q ≡ k) more

inserted : (ks : List P) (k : P) → OneMore ks k (insert_key same_pair ks k)
inserted ks k = by (list_any (same_pair k) ks) refl where
  by : (b : Bool) → list_any (same_pair k) ks ≡ b → OneMore ks k (if b then ks else ks ++ k ∷ [])
  by true e = record { there = any_in k ks e; more = []; grew = sym (append_nil ks); only = tt }
  by false e = record { there = (length ks, at_end ks k); more = k ∷ []; grew = refl; only = (refl, tt) }

pub record AllMore (ks qs new : List P) : Type 0 where
  pub there : Each (In new) qs
  pub more : List P
  pub grew : new ≡ ks ++ more
  pub only : Each (In qs) more

pub all_inserted : (ks qs : List P) → AllMore ks qs (insert_all same_pair ks qs)
all_inserted ks [] = record { there = tt; more = []; grew = sym (append_nil ks); only = tt }
all_inserted ks (q ∷ qs) =
    let o = inserted ks q in
    let r = all_inserted (insert_key same_pair ks q) qs in
    record {
      there = ((o.there.0, subst (λ l. slice_get l o.there.0 ≡ Some q) (sym r.grew) (in_front (insert_key same_pair ks q) r.more q o.there.0 o.there.1)), r.there);
      more = o.more ++ r.more;
      grew = r.grew ∙ ap (λ l. l ++ r.more) o.grew ∙ append_assoc ks o.more r.more;
      only = each_append (In (q ∷ qs)) o.more r.more
          (each_map (λ x. x ≡ q) (In (q ∷ qs)) (λ x e. (0, ap (λ (z : P). Some z) (sym e))) o.more o.only)
          (each_map (In qs) (In (q ∷ qs)) (λ x i. (suc i.0, i.1)) r.more r.only);
    }

pub asked_all : (o : Option (List P)) (out old new : List P) → Adds o true [] out → new ≡ insert_all same_pair old out → Asked o true old new
asked_all None out old new a e = absurd a
asked_all (Some qs) out old new a e =
    let r = all_inserted old out in
    let f : out ≡ qs = a in
    (subst (λ l. Each (In new) l) f (subst (λ l. Each (In l) out) (sym e) r.there), (r.more, e ∙ r.grew, subst (λ l. Each (In l) r.more) f r.only))

pub asked_none : (o : Option (List P)) (out old new now : List P) → Adds o false old out → Asked o false new now
asked_none None out old new now a = tt
asked_none (Some qs) out old new now a = absurd a

pub expanded : (types : List Slot) (q : P) (x y : Node TypeId) (start out more old new : List P) (b : Bool) → x ≡ head_at types q.low → y ≡ head_at types q.high →
    Adds (questions q.high x y) b start out → start ≡ [] → b ≡ true → more ≡ out → new ≡ insert_all same_pair old more → Asked (asked (head_at types) q) true old new
expanded types q x y start out more old new b d e a s t m n =
    let u : Adds (questions q.high x y) true [] out = subst (λ l. Adds (questions q.high x y) true l out) s (subst (λ c. Adds (questions q.high x y) c start out) t a) in
    let v : Adds (questions q.high (head_at types q.low) y) true [] out = subst (λ z. Adds (questions q.high z y) true [] out) d u in
    let w : Adds (asked (head_at types) q) true [] out = subst (λ z. Adds (questions q.high (head_at types q.low) z) true [] out) e v in
    asked_all (asked (head_at types) q) out old new w (n ∙ ap (insert_all same_pair old) m)

module _ (head : TypeId → Node TypeId) where
  -- a round, of whose pairs those below place i have been asked
  pub record Turning (old : List P) (i : ℕ) (now : List P) : Type 0 where
    pub grew : Grew old now
    pub led : Led head now i
    pub only : (n : ℕ) → AllBelow head (suc n) old → AllBelow head n now

  pub turning_start : (old : List P) (start : ℕ) → Led head old start → Turning old start old
  turning_start old start l = record {
    grew = ([], sym (append_nil old));
    led = l;
    only = λ n. each_map (λ q. Sub head (suc n) q.low q.high) (λ q. Sub head n q.low q.high) (λ q. sub_less head n q.low q.high) old;
  }

  was_there : (old now : List P) (i : ℕ) (q : P) → Grew old now → i < length old → slice_get now i ≡ Some q → slice_get old i ≡ Some q
  was_there old now i q g l e = sym (from_front old g.0 i l) ∙ ap (λ s. slice_get s i) (sym g.1) ∙ e

  pub longer : (old now : List P) → Grew old now → length old ≤ length now
  longer old now g = let e : length now ≡ length old + length g.0 = ap length g.1 ∙ length-append old g.0 in omega arith

  grew_on : (a b c : List P) → Grew a b → Grew b c → Grew a c
  grew_on a b c g h = (g.0 ++ h.0, h.1 ∙ ap (λ l. l ++ h.0) g.1 ∙ append_assoc a g.0 h.0)

  still_in : (a b : List P) → Grew a b → (q : P) → In a q → In b q
  still_in a b g q i = (i.0, subst (λ l. slice_get l i.0 ≡ Some q) (sym g.1) (in_front a g.0 q i.0 i.1))

  led_on : (a b : List P) (i : ℕ) → Grew a b → i ≤ length a → Led head a i → Led head b i
  led_on a b i g l h k q m e =
      at_map (asked head q) (Each (In a)) (Each (In b)) (λ qs. each_map (In a) (In b) (still_in a b g) qs) (h k q m (was_there a b k q g (omega arith) e))

  -- the questions of one pair more
  step : (old now new : List P) (i : ℕ) (q : P) (o : Option (List P)) → asked head q ≡ o → Turning old i now → i < length old → slice_get now i ≡ Some q → Asked o true now new → Turning old (i + 1) new
  step old now new i q None c t l e a = absurd a
  step old now new i q (Some qs) c t l e a = record {
    grew = grew_on old now new t.grew grown;
    led = λ k p m f. at k p (nat_lt k i) refl m f;
    only = λ n h. subst (λ s. AllBelow head n s) (sym a.1.1) (each_append (λ p. Sub head n p.low p.high) now a.1.0 (t.only n h) (rest n h));
  } where
    grown : Grew now new
    grown = (a.1.0, a.1.1)

    inside : i < length now
    inside = let m : length old ≤ length now = longer old now t.grew in omega arith

    asked_at : (p : P) → p ≡ q → AtSome (asked head p) (Each (In new))
    asked_at p d = subst (λ z. AtSome (asked head z) (Each (In new))) (sym d) (subst (λ z. AtSome z (Each (In new))) (sym c) a.0)

    at : (k : ℕ) (p : P) (b : Bool) → nat_lt k i ≡ b → k < i + 1 → slice_get new k ≡ Some p → AtSome (asked head p) (Each (In new))
    at k p true d m f = led_on now new i grown (let z : i < length now = inside in omega arith) t.led k p ((Decides-ltb k i).0 d) f
    at k p false d m f =
        let g : i ≤ k = ltb-false k i d in
        let s : k ≡ i = omega arith in
        let u : slice_get now i ≡ Some p = was_there now new i p grown inside (subst (λ j. slice_get new j ≡ Some p) s f) in
        let v : Some p ≡ Some q = sym u ∙ e in
        let w : p ≡ q = cc in
        asked_at p w

    rest : (n : ℕ) → AllBelow head (suc n) old → Each (λ p. Sub head n p.low p.high) a.1.0
    rest n h =
        let z : slice_get old i ≡ Some q = was_there old now i q t.grew l e in
        let s : Sub head (suc n) q.low q.high = each_at (λ p. Sub head (suc n) p.low p.high) old q i z h in
        let u : AtSome (asked head q) (Each (Holds (Sub head n))) = sub_to head n q s in
        let v : Each (Holds (Sub head n)) qs = subst (λ z. AtSome z (Each (Holds (Sub head n)))) c u in
        each_map (In qs) (λ p. Sub head n p.low p.high) (λ p j. each_at (Holds (Sub head n)) qs p j.0 j.1 v) a.1.0 a.1.2

  pub turning_step : (old now new : List P) (i : ℕ) (q : P) → Turning old i now → i < length old → slice_get now i ≡ Some q → Asked (asked head q) true now new → Turning old (i + 1) new
  turning_step old now new i q t l e a = step old now new i q (asked head q) refl t l e a

  none_asked : (o : Option (List P)) (now new : List P) → Asked o false now new → o ≡ None
  none_asked None now new a = refl
  none_asked (Some qs) now new a = absurd a

  pub turning_clash : (old now new end : List P) (i : ℕ) (q : P) → Turning old i now → i < length old → slice_get now i ≡ Some q → Asked (asked head q) false now new → Turned head false old end
  turning_clash old now new end i q t l e a = (q, (i, was_there old now i q t.grew l e), none_asked (asked head q) now new a)

  pub turned : (old now : List P) (i : ℕ) → i ≡ length old → Turning old i now → Turned head true old now
  turned old now i e t = (t.grew, subst (Led head now) e t.led, t.only)

  -- Rounds of the search.
  pub goes : (k : ℕ) (low high : TypeId) (old new : List P) → Round head k low high old → Turned head true old new → Round head (k + 1) low high new
  goes k low high old new r t =
      let e : suc k ≡ k + 1 = omega arith in
      subst (λ n. Round head n low high new) e (next head k low high old new r (record { kept = kept; found = t.2 })) where
        kept : (q : P) (i : ℕ) → slice_get old i ≡ Some q → AtSome (asked head q) (Each (In new))
        kept q i h = t.1 i q (bound old i q h) (subst (λ l. slice_get l i ≡ Some q) (sym t.0.1) (in_front old t.0.0 q i h))

  pub first_stays : (old new : List P) (q : P) → Turned head true old new → slice_get old 0 ≡ Some q → slice_get new 0 ≡ Some q
  first_stays old new q t e = subst (λ l. slice_get l 0 ≡ Some q) (sym t.0.1) (in_front old t.0.0 q 0 e)

  pub proved : (low high : TypeId) (ps : List P) → Led head ps (length ps) → slice_get ps 0 ≡ Some (pair low high) → Proves head low high ps × IsSubtype head low high
  proved low high ps l e = (
    record { closed = record { each = λ q i. l i.0 q (bound ps i.0 q i.1) i.1 }; holds = (0, e) },
    record { by = λ n. closed head ps (λ q i h. l i q (bound ps i q h) h) n (pair low high) 0 e },
  )

  pub refuted : (k : ℕ) (low high : TypeId) (ps : List P) (new : List P) → Round head k low high ps → Turned head false ps new → Fails head low high (k + 1)
  refuted k low high ps new r c =
      let e : k + 1 ≡ suc k = omega arith in
      record {
        at = λ h. clash head k low high ps c.0 c.1.0 r c.1.1 c.2 (subst (λ (n : ℕ). Sub head n low high) e h);
        less = λ m l. let g : m < suc k = omega arith in below_clash head k low high ps r m g;
      }

  pub begins : (low high : TypeId) → Round head 0 low high (pair low high ∷ [])
  begins low high = first head low high

  pub none_led : (ps : List P) → Led head ps 0
  none_led ps k q l e = absurd (omega arith)

-- The steps of the calls, with what they are told.
pub single : (empty keys : List P) (q : P) → empty ≡ [] → keys ≡ insert_key same_pair empty q → keys ≡ q ∷ []
single empty keys q e k = k ∙ ap (λ l. insert_key same_pair l q) e

pub item_at : (ps : List P) (i : ℕ) (o : Option P) (q : P) → o ≡ slice_get ps i → o ≡ Some q → slice_get ps i ≡ Some q
item_at ps i o q e f = sym e ∙ f

module _ (head : TypeId → Node TypeId) (old now new : List P) (i : ℕ) (q : P) (t : Turning head old i now) (l : i < length old) (e : slice_get now i ≡ Some q) (b : Bool) (a : Asked (asked head q) b now new) where
  pub on_true : b ≡ true → Turning head old (i + 1) new
  on_true h = turning_step head old now new i q t l e (subst (λ c. Asked (asked head q) c now new) h a)

  pub on_false : (end : List P) → b ≡ false → Turned head false old end
  on_false end h = turning_clash head old now new end i q t l e (subst (λ c. Asked (asked head q) c now new) h a)
