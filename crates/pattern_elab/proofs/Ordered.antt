-- Tests that are made of patterns name tests before them alone.
use Rattle.std.proofs.Common.{◌≡◌, ℕ, suc, ◌+◌, ◌≤◌, List, [], ◌∷◌, ◌++◌, length, refl, ap, arith}
use Rattle.mo_values.specs.Shapes.{Bytes}
use Rattle.typed_tree.specs.Patterns.{Pat, Pats, Wildcard, Bind, Constant, Present?, Tagged, Parts, Fields, Either, NoPat, APat}
use Rattle.pattern_elab.specs.declared.decision.Place.{Place}
use Rattle.pattern_elab.specs.declared.decision.Place.TheVariants as place
use Rattle.pattern_elab.specs.declared.decision.Question.{Question}
use Rattle.pattern_elab.specs.declared.decision.Question.TheVariants as ask
use Rattle.pattern_elab.specs.declared.decision.Target.{Target}
use Rattle.pattern_elab.specs.declared.decision.Target.TheVariants as to
use Rattle.pattern_elab.specs.declared.decision.Test.{Test}
use Rattle.pattern_elab.specs.declared.making.State.{State}
use Rattle.pattern_elab.specs.Deciding.{IsBelow, AreOrdered}
use Rattle.pattern_elab.specs.Making.{Begun, with_place, asked, made_of, parts_made, fields_made}

pub length_pushed : {A : Type 0} (xs : List A) (x : A) → length (xs ++ x ∷ []) ≡ suc (length xs)
length_pushed [] x = refl
length_pushed (y ∷ ys) x = ap suc (length_pushed ys x)

pub still_below : (m n : ℕ) (t : Target) → m ≤ n → IsBelow m t → IsBelow n t
still_below m n (to.Test i) h b = omega (arith, h, b)
still_below m n (to.Chosen k) h b = b
still_below m n to.Nothing h b = b

pushed : (n : ℕ) (ts : List Test) (t : Test) → AreOrdered n ts → IsBelow (n + length ts) t.holds → IsBelow (n + length ts) t.fails → AreOrdered n (ts ++ t ∷ [])
pushed n [] t o h f = ((still_below (n + 0) n t.holds (omega arith) h, still_below (n + 0) n t.fails (omega arith) f), tt)
pushed n (q ∷ ts) t o h f =
    (o.0, pushed (suc n) ts t o.1 (still_below (n + suc (length ts)) (suc n + length ts) t.holds (omega arith) h) (still_below (n + suc (length ts)) (suc n + length ts) t.fails (omega arith) f))

-- more tests than these, in order, and an entry among them
pub record Good (s : State) (b : Begun) : Type 0 where
  pub more : length s.tests ≤ length b.state.tests
  pub ordered : AreOrdered 0 b.state.tests
  pub entry : IsBelow (length b.state.tests) b.entry

pub onward : (a : State) (b c : Begun) → Good a b → Good b.state c → Good a c
onward a b c g h = record { more = omega (arith, g.more, h.more); ordered = h.ordered; entry = h.entry }

asked_good : (s : State) (k : ℕ) (q : Question) (fails : Target) (b : Begun) → Good s b → IsBelow (length s.tests) fails → Good s (asked k q fails b)
asked_good s k q fails b g f =
    let t : Test = record { place = k; question = q; holds = b.entry; fails = fails } in
    let n : length (b.state.tests ++ t ∷ []) ≡ suc (length b.state.tests) = length_pushed b.state.tests t in
    record {
      more = omega (arith, g.more, n);
      ordered = pushed 0 b.state.tests t g.ordered (still_below (length b.state.tests) (0 + length b.state.tests) b.entry (omega arith) g.entry) (still_below (length s.tests) (0 + length b.state.tests) fails (omega (arith, g.more)) f);
      entry = omega (arith, n);
    }

within : (at : Place) (s : State) (b : Begun) → Good (with_place at s) b → Good s b
within at s b g = record { more = g.more; ordered = g.ordered; entry = g.entry }

mutual
  pub made_good : (p : Pat) (k : ℕ) (holds fails : Target) (s : State) → AreOrdered 0 s.tests → IsBelow (length s.tests) holds → IsBelow (length s.tests) fails → Good s (made_of p k holds fails s)
  made_good Wildcard k holds fails s o h f = record { more = omega arith; ordered = o; entry = h }
  made_good Bind k holds fails s o h f = record { more = omega arith; ordered = o; entry = h }
  made_good (Constant c) k holds fails s o h f =
      asked_good s k (ask.Equals c) fails (record { entry = holds; state = s }) (record { more = omega arith; ordered = o; entry = h }) f
  made_good (Present? p) k holds fails s o h f =
      asked_good s k ask.Present fails (made_of p (length s.places) holds fails (with_place (place.Inside k) s)) (within (place.Inside k) s (made_of p (length s.places) holds fails (with_place (place.Inside k) s)) (made_good p (length s.places) holds fails (with_place (place.Inside k) s) o h f)) f
  made_good (Tagged l p) k holds fails s o h f =
      asked_good s k (ask.Tag l) fails (made_of p (length s.places) holds fails (with_place (place.Payload k) s)) (within (place.Payload k) s (made_of p (length s.places) holds fails (with_place (place.Payload k) s)) (made_good p (length s.places) holds fails (with_place (place.Payload k) s) o h f)) f
  made_good (Parts ps) k holds fails s o h f = parts_good ps 0 k fails (record { entry = holds; state = s }) s (record { more = omega arith; ordered = o; entry = h }) f
  made_good (Fields ls ps) k holds fails s o h f = fields_good ls ps k fails (record { entry = holds; state = s }) s (record { more = omega arith; ordered = o; entry = h }) f
  made_good (Either p q) k holds fails s o h f =
      let b : Begun = made_of q k holds fails s in
      let g : Good s b = made_good q k holds fails s o h f in
      onward s b (made_of p k holds b.entry b.state) g (made_good p k holds b.entry b.state g.ordered (still_below (length s.tests) (length b.state.tests) holds g.more h) g.entry)

  parts_good : (ps : Pats) (i k : ℕ) (fails : Target) (b : Begun) (s : State) → Good s b → IsBelow (length s.tests) fails → Good s (parts_made ps i k fails b)
  parts_good NoPat i k fails b s g f = g
  parts_good (APat p ps) i k fails b s g f =
      let n : Begun = made_of p (length b.state.places) b.entry fails (with_place (place.Part k i) b.state) in
      parts_good ps (suc i) k fails n s
      (onward s b n g (within (place.Part k i) b.state n (made_good p (length b.state.places) b.entry fails (with_place (place.Part k i) b.state) g.ordered g.entry (still_below (length s.tests) (length b.state.tests) fails g.more f)))) f

  fields_good : (ls : List Bytes) (ps : Pats) (k : ℕ) (fails : Target) (b : Begun) (s : State) → Good s b → IsBelow (length s.tests) fails → Good s (fields_made ls ps k fails b)
  fields_good [] ps k fails b s g f = g
  fields_good (l ∷ ls) NoPat k fails b s g f = g
  fields_good (l ∷ ls) (APat p ps) k fails b s g f =
      let n : Begun = made_of p (length b.state.places) b.entry fails (with_place (place.Field k l) b.state) in
      fields_good ls ps k fails n s
      (onward s b n g (within (place.Field k l) b.state n (made_good p (length b.state.places) b.entry fails (with_place (place.Field k l) b.state) g.ordered g.entry (still_below (length s.tests) (length b.state.tests) fails g.more f)))) f
