-- Jumps and errors go outward construct by construct: Motoko language manual, sections "Labels", "Break", "Return",
-- "Option block and null break", "Throw" and "Try". Passing a label or a handler is a reduction of its own, so that each of
-- them is paid where it is left.
use Rattle.std.specs.Prelude.{ℕ, zero, suc, ◌+◌}
use Rattle.mo_types.specs.declared.datum.Datum.TheVariants as part
use Rattle.mo_values.specs.Costs.{weighing}
use Rattle.mo_values.specs.Shapes.{Leaf, Present}
use Rattle.typed_tree.specs.declared.action.Action.TheVariants as action
use Rattle.typed_tree.specs.Patterns.{Pat}
use Rattle.typed_tree.specs.Language.{Value, Exp, Made, NoValue, AValue, Val, Do, Frame, Label, Try, null}
use Rattle.typed_tree.specs.Substitution.{put}
use Rattle.mo_meaning.specs.Acts.{Store, Act, Goes, Awaits, Leaves, Throws, Stuck}
use Rattle.mo_meaning.specs.Places.{inside, one}
use Rattle.mo_meaning.specs.Cells.{goes}
use Rattle.mo_meaning.specs.Matching.{matching, trying, fails_to_match}

-- a jump that goes on behind the construct that it passed
abbrev pub jumps_on : Store → ℕ → Value → Act
jumps_on store labels v = goes store (Do (action.Break labels) (one (Val v)))

-- `e!` in an option block that stands behind so many labels; at null it is a jump, which is a reduction of its own
abbrev pub unwrapped : Store → ℕ → Value → Act
unwrapped store labels (Made (Leaf part.Null) NoValue) = jumps_on store labels null
unwrapped store labels (Made Present (AValue v NoValue)) = goes store (Val v)
unwrapped store labels _ = Stuck

-- a label takes the jump that is its own, and lets others and errors pass
abbrev pub at_label : Store → Act → Act
at_label store (Leaves zero v) = goes store (Val v)
at_label store (Leaves (suc labels) v) = jumps_on store labels v
at_label store (Throws cost error) = Goes cost store (Do action.Throw (one (Val error)))
at_label store act = inside Label act

-- a handler takes what is thrown, and lets jumps pass
abbrev pub at_handler : Store → Pat → Exp → Act → Act
at_handler store p b (Throws cost error) =
    matching p error (λ s. Goes (weighing (cost.weight + trying p error)) store (put s b)) (fails_to_match (cost.weight + trying p error))
at_handler store p b (Leaves labels v) = jumps_on store labels v
at_handler store p b act = inside (λ e. Try e p b) act

-- a frame takes the jump that passed all labels in it; an `await` in it counts its nodes
abbrev pub at_frame : Store → ℕ → Act → Act
at_frame store n (Leaves zero v) = goes store (Val v)
at_frame store n (Leaves (suc labels) v) = Stuck
at_frame store n (Awaits nodes call) = Awaits (n + nodes) call
at_frame store n act = inside (Frame n) act
