-- What tests come to on a value (Motoko language manual, section "Switch").
use Rattle.std.specs.Prelude.{◌≡◌, ℕ, suc, ◌<◌, List, [], ◌∷◌, Option, Some, None, Bool, true, false, is_some, slice_get}
use Rattle.mo_values.specs.Shapes.{Tag, Shape, Made, NoShape, AShape}
use Rattle.mo_values.specs.Views.{leaf_of, tuple_of, field_of}
use Rattle.typed_tree.specs.Patterns.{is_literal, present_of, tagged_of}
use Rattle.pattern_elab.specs.declared.decision.Place.{Place}
use Rattle.pattern_elab.specs.declared.decision.Place.TheVariants as place
use Rattle.pattern_elab.specs.declared.decision.Question.{Question}
use Rattle.pattern_elab.specs.declared.decision.Question.TheVariants as ask
use Rattle.pattern_elab.specs.declared.decision.Target.{Target}
use Rattle.pattern_elab.specs.declared.decision.Target.TheVariants as to
use Rattle.pattern_elab.specs.declared.decision.Test.{Test}

-- the place in which a place lies directly
abbrev pub around : Place → Option ℕ
around place.Whole = None
around (place.Inside k) = Some k
around (place.Payload k) = Some k
around (place.Part k i) = Some k
around (place.Field k l) = Some k

abbrev pub next : Test → Bool → Target
next t true = t.holds
next t false = t.fails

module _ {F : Type 0} where
  -- the value under a tag
  abbrev pub payload_of : Shape F → Option (Shape F)
  payload_of (Made (Tag l) (AShape v NoShape)) = Some v
  payload_of _ = None

  abbrev pub part_of : ℕ → Option (List (Shape F)) → Option (Shape F)
  part_of i None = None
  part_of i (Some vs) = slice_get vs i

  -- what lies at a place, where this value lies around it
  abbrev pub inside : Place → Shape F → Option (Shape F)
  inside place.Whole u = None
  inside (place.Inside k) u = present_of u
  inside (place.Payload k) u = payload_of u
  inside (place.Part k i) u = part_of i (tuple_of u)
  inside (place.Field k l) u = field_of l u

  abbrev pub answer : Question → Shape F → Bool
  answer (ask.Equals c) u = is_literal c (leaf_of u)
  answer ask.Present u = is_some (present_of u)
  answer (ask.Tag l) u = is_some (tagged_of l u)

  -- which part of the value lies at a place
  pub data Lies (places : List Place) (v : Shape F) : ℕ → Shape F → Type 0 where
    AtWhole : (k : ℕ) → slice_get places k ≡ Some place.Whole → Lies places v k v
    AtPart : (k j : ℕ) (p : Place) (u w : Shape F) → slice_get places k ≡ Some p → around p ≡ Some j → Lies places v j u → inside p u ≡ Some w → Lies places v k w

  -- where the tests lead to, from one on
  pub data Leads (places : List Place) (tests : List Test) (v : Shape F) : Target → Target → Type 0 where
    Here : (t : Target) → Leads places tests v t t
    Asks : (i : ℕ) (t : Test) (u : Shape F) (end : Target) → slice_get tests i ≡ Some t → Lies places v t.place u → Leads places tests v (next t (answer t.question u)) end → Leads places tests v (to.Test i) end

-- tests that it names have smaller numbers
abbrev pub IsBelow : ℕ → Target → Type 0
IsBelow n (to.Test i) = i < n
IsBelow n (to.Chosen k) = Unit {0}
IsBelow n to.Nothing = Unit {0}

-- each names tests before it alone; the first of these has number n
abbrev pub AreOrdered : ℕ → List Test → Type 0
AreOrdered n [] = Unit {0}
AreOrdered n (t ∷ ts) = (IsBelow n t.holds × IsBelow n t.fails) × AreOrdered (suc n) ts
