-- Declarations of a list, each to be written out where its place is (Motoko language manual, section "Declarations").
use Rattle.std.specs.Prelude.{ℕ, zero, suc, Bool, true, false, List, [], ◌∷◌, ◌++◌, map, Option, Some, None, nat_eq, flat_map, filter}
use Rattle.typed_tree.specs.declared.expression.Step.{Step, roll-Step}
use Rattle.typed_tree.specs.declared.expression.Form.TheOpen as F
use Rattle.typed_tree.specs.declared.expression.Function.{Function}
use Rattle.typed_tree.specs.declared.expression.TypedExpression.{TypedExpression}
use Rattle.typed_tree.specs.Placing.{Declared, place}
use Rattle.typing_rules.specs.AbstractSyntax.{Bytes}
use Rattle.desugaring.specs.Frames.{Entry, value, Frame, with_entries}

-- What a declaration becomes: a step with the names that it binds, a function with its name, or an expression, whose value may be that of the list.
pub data Becomes : Type 0 where
  AStep : (binds : List Entry) → (step : Frame → Step) → Becomes
  AFunction : (x : Bytes) → (function : Frame → Function) → Becomes
  AnExpression : (e : Frame → TypedExpression) → Becomes
  Nothing : Becomes

pub record Piece : Type 0 where
  pub declared : Declared
  pub becomes : Becomes

-- what a list becomes: its steps, the value of a last expression, and what stands around the end
pub record Arranged : Type 0 where
  pub steps : List Step
  pub last : Option TypedExpression
  pub frame : Frame

abbrev pub before : List Step → Arranged → Arranged
before steps a = record a { steps = steps ++ a.steps }

-- ---- the functions that have one place

-- a function with its name
abbrev pub Named : Type 0
Named = Bytes × (Frame → Function)

abbrev pub function_of : Becomes → List Named
function_of (AFunction x f) = (x, f) ∷ []
function_of _ = []

abbrev pub group_at : List Declared → ℕ → List Piece → List Named
group_at all n pieces = flat_map (λ b. function_of b.becomes) (filter (λ b. nat_eq (place all b.declared) n) pieces)

abbrev pub names_of : List Named → List Entry
names_of group = map (λ f. value f.0) group

abbrev pub group_steps : List Named → Frame → List Step
group_steps [] frame = []
group_steps (f ∷ fs) frame = roll-Step (F.Functions (map (λ g. g.1 (with_entries (names_of (f ∷ fs)) frame)) (f ∷ fs))) ∷ []

-- ---- the order of evaluation

-- after the functions whose place is here; `arranged` says what the rest becomes
abbrev pub behind_group : List Named → Frame → (Frame → Arranged) → Arranged
behind_group group frame arranged = before (group_steps group frame) (arranged (with_entries (names_of group) frame))

abbrev pub ended : Frame → Arranged
ended frame = record { steps = []; last = None; frame = frame }

-- one declaration, and then the rest
abbrev pub placed_piece : Becomes → Bool → (Frame → Arranged) → Frame → Arranged
placed_piece (AStep binds step) is_last arranged frame = before (step frame ∷ []) (arranged (with_entries binds frame))
placed_piece (AFunction x f) is_last arranged frame = arranged frame
placed_piece (AnExpression e) true arranged frame = record { steps = []; last = Some (e frame); frame = frame }
placed_piece (AnExpression e) false arranged frame = before (roll-Step (F.Evaluate (e frame)) ∷ []) (arranged frame)
placed_piece Nothing is_last arranged frame = arranged frame

module _ (all : List Declared) (pieces : List Piece) (has_value : Bool) where
  abbrev pub is_end : List Piece → Bool
  is_end [] = has_value
  is_end _ = false

  -- the pieces from the n-th on
  abbrev pub arranged_from : ℕ → List Piece → Frame → Arranged
  arranged_from n [] frame = behind_group (group_at all n pieces) frame ended
  arranged_from n (b ∷ rest) frame = behind_group (group_at all n pieces) frame (placed_piece b.becomes (is_end rest) (arranged_from (suc n) rest))

-- a list in the order of evaluation, whose last expression is its value or not
abbrev pub arranged : Bool → List Piece → Frame → Arranged
arranged has_value pieces frame = arranged_from (map (λ b. b.declared) pieces) pieces has_value zero pieces frame
