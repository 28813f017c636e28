-- What is made of patterns stands behind what stood there.
use Rattle.std.proofs.Common.{◌≡◌, ℕ, zero, suc, List, [], ◌∷◌, ◌++◌, length, Some, slice_get, refl}
use Rattle.mo_values.specs.Shapes.{Bytes}
use Rattle.typed_tree.specs.Patterns.{Pat, Pats, Wildcard, Bind, Constant, Present?, Tagged, Parts, Fields, Either, NoPat, APat}
use Rattle.pattern_elab.specs.declared.decision.Place.{Place}
use Rattle.pattern_elab.specs.declared.decision.Place.TheVariants as place
use Rattle.pattern_elab.specs.declared.decision.Question.{Question}
use Rattle.pattern_elab.specs.declared.decision.Question.TheVariants as ask
use Rattle.pattern_elab.specs.declared.decision.Target.{Target}
use Rattle.pattern_elab.specs.declared.decision.Test.{Test}
use Rattle.pattern_elab.specs.declared.making.State.{State}
use Rattle.pattern_elab.specs.Making.{Begun, with_place, asked, made_of, parts_made, fields_made}

pub in_front : {A : Type 0} (xs more : List A) (k : ℕ) (x : A) → slice_get xs k ≡ Some x → slice_get (xs ++ more) k ≡ Some x
in_front [] more k x e = cc
in_front (y ∷ ys) more zero x e = e
in_front (y ∷ ys) more (suc k) x e = in_front ys more k x e

pub in_last : {A : Type 0} (xs : List A) (x : A) → slice_get (xs ++ x ∷ []) (length xs) ≡ Some x
in_last [] x = refl
in_last (y ∷ ys) x = in_last ys x

-- places and tests keep their numbers
pub record Extends (old new : State) : Type 0 where
  pub places : (k : ℕ) (p : Place) → slice_get old.places k ≡ Some p → slice_get new.places k ≡ Some p
  pub tests : (k : ℕ) (t : Test) → slice_get old.tests k ≡ Some t → slice_get new.tests k ≡ Some t

pub same : (s : State) → Extends s s
same s = record { places = λ k p e. e; tests = λ k t e. e }

pub on : (a b c : State) → Extends a b → Extends b c → Extends a c
on a b c f g = record { places = λ k p e. g.places k p (f.places k p e); tests = λ k t e. g.tests k t (f.tests k t e) }

pub placed : (p : Place) (s : State) → Extends s (with_place p s)
placed p s = record { places = λ k q e. in_front s.places (p ∷ []) k q e; tests = λ k t e. e }

pub test_extends : (k : ℕ) (q : Question) (fails : Target) (b : Begun) → Extends b.state ((asked k q fails b).state)
test_extends k q fails b = record {
  places = λ i p e. e;
  tests = λ i t e. in_front b.state.tests ((record { place = k; question = q; holds = b.entry; fails = fails }) ∷ []) i t e;
}

inside_extends : (s : State) (k : ℕ) (at : Place) (q : Question) (fails : Target) (b : Begun) → Extends (with_place at s) b.state → Extends s (asked k q fails b).state
inside_extends s k at q fails b x =
    let last : State = (asked k q fails b).state in
    on s (with_place at s) last (placed at s) (on (with_place at s) b.state last x (test_extends k q fails b))

mutual
  pub made_extends : (p : Pat) (k : ℕ) (holds fails : Target) (s : State) → Extends s (made_of p k holds fails s).state
  made_extends Wildcard k holds fails s = same s
  made_extends Bind k holds fails s = same s
  made_extends (Constant c) k holds fails s = test_extends k (ask.Equals c) fails (record { entry = holds; state = s })
  made_extends (Present? p) k holds fails s = inside_extends s k (place.Inside k) ask.Present fails (made_of p (length s.places) holds fails (with_place (place.Inside k) s)) (made_extends p (length s.places) holds fails (with_place (place.Inside k) s))
  made_extends (Tagged l p) k holds fails s = inside_extends s k (place.Payload k) (ask.Tag l) fails (made_of p (length s.places) holds fails (with_place (place.Payload k) s)) (made_extends p (length s.places) holds fails (with_place (place.Payload k) s))
  made_extends (Parts ps) k holds fails s = parts_extend ps 0 k fails (record { entry = holds; state = s })
  made_extends (Fields ls ps) k holds fails s = fields_extend ls ps k fails (record { entry = holds; state = s })
  made_extends (Either p q) k holds fails s =
      let b : Begun = made_of q k holds fails s in
      on s b.state (made_of p k holds b.entry b.state).state (made_extends q k holds fails s) (made_extends p k holds b.entry b.state)

  pub parts_extend : (ps : Pats) (i k : ℕ) (fails : Target) (b : Begun) → Extends b.state (parts_made ps i k fails b).state
  parts_extend NoPat i k fails b = same b.state
  parts_extend (APat p ps) i k fails b =
      let at : Place = place.Part k i in
      let n : Begun = made_of p (length b.state.places) b.entry fails (with_place at b.state) in
      let last : State = (parts_made ps (suc i) k fails n).state in
      on b.state (with_place at b.state) last (placed at b.state)
      (on (with_place at b.state) n.state last (made_extends p (length b.state.places) b.entry fails (with_place at b.state)) (parts_extend ps (suc i) k fails n))

  pub fields_extend : (ls : List Bytes) (ps : Pats) (k : ℕ) (fails : Target) (b : Begun) → Extends b.state (fields_made ls ps k fails b).state
  fields_extend [] ps k fails b = same b.state
  fields_extend (l ∷ ls) NoPat k fails b = same b.state
  fields_extend (l ∷ ls) (APat p ps) k fails b =
      let at : Place = place.Field k l in
      let n : Begun = made_of p (length b.state.places) b.entry fails (with_place at b.state) in
      let last : State = (fields_made ls ps k fails n).state in
      on b.state (with_place at b.state) last (placed at b.state)
      (on (with_place at b.state) n.state last (made_extends p (length b.state.places) b.entry fails (with_place at b.state)) (fields_extend ls ps k fails n))
