-- There is at most one test for each node of the patterns.
use Rattle.std.proofs.Common.{◌≡◌, ℕ, suc, ◌+◌, ◌≤◌, List, [], ◌∷◌, length, arith}
use Rattle.mo_values.specs.Shapes.{Bytes}
use Rattle.typed_tree.specs.Patterns.{Pat, Pats, Wildcard, Bind, Constant, Present?, Tagged, Parts, Fields, Either, NoPat, APat, pattern_nodes, nodes_of_all}
use Rattle.pattern_elab.specs.declared.decision.Place.TheVariants as place
use Rattle.pattern_elab.specs.declared.decision.Question.{Question}
use Rattle.pattern_elab.specs.declared.decision.Question.TheVariants as ask
use Rattle.pattern_elab.specs.declared.decision.Target.{Target}
use Rattle.pattern_elab.specs.declared.making.State.{State}
use Rattle.pattern_elab.specs.Making.{Begun, with_place, asked, made_of, parts_made, fields_made}
use Rattle.pattern_elab.proofs.Ordered.{length_pushed}

-- at most so many tests more
abbrev pub Adds : ℕ → State → Begun → Type 0
Adds n s b = length b.state.tests ≤ length s.tests + n

asked_adds : (s : State) (n k : ℕ) (q : Question) (fails : Target) (b : Begun) → Adds n s b → Adds (1 + n) s (asked k q fails b)
asked_adds s n k q fails b h =
    let e : length ((asked k q fails b).state.tests) ≡ suc (length b.state.tests) = length_pushed b.state.tests (record { place = k; question = q; holds = b.entry; fails = fails }) in
    omega (arith, e, h)

mutual
  pub made_adds : (p : Pat) (k : ℕ) (holds fails : Target) (s : State) → Adds (pattern_nodes p) s (made_of p k holds fails s)
  made_adds Wildcard k holds fails s = omega arith
  made_adds Bind k holds fails s = omega arith
  made_adds (Constant c) k holds fails s = asked_adds s 0 k (ask.Equals c) fails (record { entry = holds; state = s }) (omega arith)
  made_adds (Present? p) k holds fails s =
      asked_adds s (pattern_nodes p) k ask.Present fails (made_of p (length s.places) holds fails (with_place (place.Inside k) s)) (made_adds p (length s.places) holds fails (with_place (place.Inside k) s))
  made_adds (Tagged l p) k holds fails s =
      asked_adds s (pattern_nodes p) k (ask.Tag l) fails (made_of p (length s.places) holds fails (with_place (place.Payload k) s)) (made_adds p (length s.places) holds fails (with_place (place.Payload k) s))
  made_adds (Parts ps) k holds fails s =
      let h : length (parts_made ps 0 k fails (record { entry = holds; state = s })).state.tests ≤ length s.tests + nodes_of_all ps = parts_add ps 0 k fails (record { entry = holds; state = s }) in
      omega (arith, h)
  made_adds (Fields ls ps) k holds fails s =
      let h : length (fields_made ls ps k fails (record { entry = holds; state = s })).state.tests ≤ length s.tests + nodes_of_all ps = fields_add ls ps k fails (record { entry = holds; state = s }) in
      omega (arith, h)
  made_adds (Either p q) k holds fails s =
      let b : Begun = made_of q k holds fails s in
      let h : length b.state.tests ≤ length s.tests + pattern_nodes q = made_adds q k holds fails s in
      let i : length (made_of p k holds b.entry b.state).state.tests ≤ length b.state.tests + pattern_nodes p = made_adds p k holds b.entry b.state in
      omega (arith, h, i)

  parts_add : (ps : Pats) (i k : ℕ) (fails : Target) (b : Begun) → Adds (nodes_of_all ps) b.state (parts_made ps i k fails b)
  parts_add NoPat i k fails b = omega arith
  parts_add (APat p ps) i k fails b =
      let n : Begun = made_of p (length b.state.places) b.entry fails (with_place (place.Part k i) b.state) in
      let h : length n.state.tests ≤ length b.state.tests + pattern_nodes p = made_adds p (length b.state.places) b.entry fails (with_place (place.Part k i) b.state) in
      let j : length (parts_made ps (suc i) k fails n).state.tests ≤ length n.state.tests + nodes_of_all ps = parts_add ps (suc i) k fails n in
      omega (arith, h, j)

  fields_add : (ls : List Bytes) (ps : Pats) (k : ℕ) (fails : Target) (b : Begun) → Adds (nodes_of_all ps) b.state (fields_made ls ps k fails b)
  fields_add [] ps k fails b = omega arith
  fields_add (l ∷ ls) NoPat k fails b = omega arith
  fields_add (l ∷ ls) (APat p ps) k fails b =
      let n : Begun = made_of p (length b.state.places) b.entry fails (with_place (place.Field k l) b.state) in
      let h : length n.state.tests ≤ length b.state.tests + pattern_nodes p = made_adds p (length b.state.places) b.entry fails (with_place (place.Field k l) b.state) in
      let j : length (fields_made ls ps k fails n).state.tests ≤ length n.state.tests + nodes_of_all ps = fields_add ls ps k fails n in
      omega (arith, h, j)
