-- What happens at the place of a stack goes out through the stack as through the expression around that place.
use Rattle.std.proofs.Common.{◌≡◌, ℕ, zero, suc, ◌+◌, List, [], ◌∷◌, ◌++◌, Option, Some, None, refl, sym, ap, ap₂, ◌∙◌}
use Rattle.mo_types.specs.Heads.{map_option}
use Rattle.mo_values.specs.Costs.{Cost, weighing}
use Rattle.mo_values.specs.Recoding.{recodes}
use Rattle.mo_values.specs.Shapes.{Shape}
use Rattle.typed_tree.specs.Patterns.{names, matches}
use Rattle.typed_tree.specs.Language.{Exp, Val}
use Rattle.typed_tree.specs.Substitution.{Slots, hide, put}
use Rattle.typed_tree.specs.Opening as opening
use Rattle.typed_tree.specs.Opening.{slots_of}
use Rattle.typed_tree.proofs.Counts.{as_many_as_names}
use Rattle.mo_meaning.specs.Acts.{Act, Goes, Prints, Asks, Awaits, Leaves, Throws, Traps, Stuck}
use Rattle.mo_meaning.specs.Acts as meaning
use Rattle.mo_meaning.specs.Cells.{goes}
use Rattle.mo_meaning.specs.Jumps.{at_label, at_handler, at_frame, jumps_on}
use Rattle.mo_meaning.specs.Matching as matching
use Rattle.mo_meaning.specs.Places.{inside}
use Rattle.mo_machine.specs.Values.{Value, shape_of}
use Rattle.mo_machine.specs.Frames.{Frame, Returning, Labelled, Trying, Joining, Stack}
use Rattle.mo_machine.specs.Acts.{Store}
use Rattle.mo_machine.specs.Acts as act
use Rattle.mo_machine.specs.Matching.{trying, fails_to_match}
use Rattle.mo_machine.specs.Jumps.{leave, throw, nodes_around, on_stack}
use Rattle.mo_machine.specs.Unload.{unload, unload_list, slots, plug_in, plug, focused, unload_state}
use Rattle.mo_machine.specs.Agrees.{unload_act}
use Rattle.mo_machine.proofs.Matching.{match_same, trying_same, on_match_same}
use Rattle.mo_machine.proofs.Unloaded.{closed}

pub plug_append : (j k : Stack) (e : Exp) → plug (j ++ k) e ≡ plug k (plug j e)
plug_append [] k e = refl
plug_append (frame ∷ j) k e = plug_append j k (plug_in frame e)

-- ---- what a frame, and a stack, does with what happens in it

abbrev pub out_of : meaning.Store → Frame → Act → Act
out_of store (Returning n) a = at_frame store n a
out_of store Labelled a = at_label store a
out_of store (Trying p b env) a = at_handler store p (put (hide (names p) (slots env)) b) a
out_of store Joining a = a
out_of store frame a = inside (plug_in frame) a

abbrev pub out : meaning.Store → Stack → Act → Act
out store [] a = a
out store (frame ∷ k) a = out store k (out_of store frame a)

-- what no label, handler or entered body looks at
abbrev Plain : Act → Type 0
Plain (Leaves labels v) = ⊥
Plain (Throws cost v) = ⊥
Plain (Awaits nodes call) = ⊥
Plain _ = Unit {0}

unchanged : (a : Act) → a ≡ inside (λ e. e) a
unchanged (Goes cost store e) = refl
unchanged _ = refl

out_of_plain : (store : meaning.Store) (frame : Frame) (a : Act) → Plain a → out_of store frame a ≡ inside (plug_in frame) a
out_of_plain store (Returning n) (Leaves labels v) h = absurd h
out_of_plain store (Returning n) (Awaits nodes call) h = absurd h
out_of_plain store (Returning n) _ h = refl
out_of_plain store Labelled (Leaves labels v) h = absurd h
out_of_plain store Labelled (Throws cost v) h = absurd h
out_of_plain store Labelled _ h = refl
out_of_plain store (Trying p b env) (Leaves labels v) h = absurd h
out_of_plain store (Trying p b env) (Throws cost v) h = absurd h
out_of_plain store (Trying p b env) _ h = refl
out_of_plain store Joining a h = unchanged a
out_of_plain store _ a h = refl

plain_inside : (around : Exp → Exp) (a : Act) → Plain a → Plain (inside around a)
plain_inside around (Leaves labels v) h = h
plain_inside around (Throws cost v) h = h
plain_inside around (Awaits nodes call) h = h
plain_inside around _ h = tt

inside_inside : (f g : Exp → Exp) (a : Act) → inside f (inside g a) ≡ inside (λ e. f (g e)) a
inside_inside f g (Leaves labels v) = refl
inside_inside f g _ = refl

out_plain : (store : meaning.Store) (k : Stack) (a : Act) → Plain a → out store k a ≡ inside (plug k) a
out_plain store [] a h = unchanged a
out_plain store (frame ∷ k) a h =
    ap (out store k) (out_of_plain store frame a h) ∙ out_plain store k (inside (plug_in frame) a) (plain_inside (plug_in frame) a h) ∙ inside_inside (plug k) (plug_in frame) a

-- ---- jumps, errors and waits

module _ (store : Store) where
  abbrev there : meaning.Store
  there = unload_list store

  leave_same : (labels : ℕ) (v : Value) (k : Stack) → unload_act (leave store labels v k) ≡ out there k (Leaves labels (unload v))
  leave_same labels v [] = refl
  leave_same zero v (Labelled ∷ k) = sym (out_plain there k (goes there (Val (unload v))) tt)
  leave_same (suc labels) v (Labelled ∷ k) = sym (out_plain there k (jumps_on there labels (unload v)) tt)
  leave_same labels v (Trying p b env ∷ k) = sym (out_plain there k (jumps_on there labels (unload v)) tt)
  leave_same zero v (Returning n ∷ k) = sym (out_plain there k (goes there (Val (unload v))) tt)
  leave_same (suc labels) v (Returning n ∷ k) = sym (out_plain there k Stuck tt)
  leave_same labels v (_ ∷ k) = leave_same labels v k

  -- what a handler does, with the stack around it
  handled_out : (k : Stack) (o : Option (List (Shape opening.Code))) (weight : ℕ) (handler : Slots → Exp)
      → matching.on_match o (λ s. Goes (weighing weight) there (plug k (handler s))) (matching.fails_to_match weight)
      ≡ out there k (matching.on_match o (λ s. Goes (weighing weight) there (handler s)) (matching.fails_to_match weight))
  handled_out k None weight handler = sym (out_plain there k (matching.fails_to_match weight) tt)
  handled_out k (Some vs) weight handler = sym (out_plain there k (Goes (weighing weight) there (handler (slots_of vs))) tt)

  throw_same : (cost : Cost) (error : Value) (k : Stack) → unload_act (throw store cost error k) ≡ out there k (Throws cost (unload error))
  throw_same cost error [] = refl
  throw_same cost error (Labelled ∷ k) = sym (out_plain there k (at_label there (Throws cost (unload error))) tt)
  throw_same cost error (Trying p b env ∷ k) =
      let all = cost.weight + trying p error in
      let handler = λ (s : Slots). put s (put (hide (names p) (slots env)) b) in
      let handled = λ (n : ℕ) (o : Option (List (Shape opening.Code))). out there k (matching.on_match o (λ s. Goes (weighing (cost.weight + n)) there (handler s)) (matching.fails_to_match (cost.weight + n))) in
      on_match_same (names p) (matches p (shape_of error)) (as_many_as_names p (shape_of error)) env b k (weighing all) store (fails_to_match all) (matching.fails_to_match all) refl
      ∙ handled_out k (map_option (recodes closed) (matches p (shape_of error))) all handler
      ∙ ap₂ handled (sym (trying_same p error)) (sym (match_same p error))
  throw_same cost error (_ ∷ k) = throw_same cost error k

  awaits_same : (nodes call : ℕ) (k : Stack) → unload_act (act.Awaits (nodes_around nodes k) call) ≡ out there k (Awaits nodes call)
  awaits_same nodes call [] = refl
  awaits_same nodes call (Returning n ∷ k) = awaits_same (n + nodes) call k
  awaits_same nodes call (_ ∷ k) = awaits_same nodes call k

  pub on_stack_same : (m : act.Act) (k : Stack) → unload_act (on_stack store m k) ≡ out there k (unload_act m)
  on_stack_same (act.Goes cost after f j) k = ap (Goes cost (unload_list after)) (plug_append j k (focused f)) ∙ sym (out_plain there k (Goes cost (unload_list after) (unload_state f j)) tt)
  on_stack_same (act.Prints cost text f j) k = ap (Prints cost text) (plug_append j k (focused f)) ∙ sym (out_plain there k (Prints cost text (unload_state f j)) tt)
  on_stack_same (act.Asks request) k = sym (out_plain there k (unload_act (act.Asks request)) tt)
  on_stack_same (act.Awaits nodes call) k = awaits_same nodes call k
  on_stack_same (act.Leaves labels v) k = leave_same labels v k
  on_stack_same (act.Throws cost error) k = throw_same cost error k
  on_stack_same (act.Traps cost text) k = sym (out_plain there k (Traps cost text) tt)
  on_stack_same act.Stuck k = sym (out_plain there k Stuck tt)
