-- Lists of declarations, one declaration after the other.
use Rattle.std.proofs.Common.{◌≡◌, ◌∙◌, ℕ, suc, ◌+◌, ◌<◌, ◌≤◌, inl, inr, Bool, true, false, List, [], ◌∷◌, ◌++◌, length, drop, get_or, Option, Some, None, refl, sym, ap, arith, append_assoc, drop-cons}
use Rattle.std.specs.Prelude.{Result, Ok, Err, OnOk, slice_index_or}
use Rattle.std.proofs.lemmas.List.{append-nil, get_or-map, length-map}
use Rattle.typed_tree.specs.declared.expression.Step.{Step}
use Rattle.typed_tree.specs.declared.expression.TypedExpression.{TypedExpression}
use Rattle.typed_tree.specs.Placing.{Declared}
use Rattle.abstract_tree.specs.declared.declarations.Declaration.{Declaration}
use Rattle.abstract_tree.specs.declared.expressions.Expression.{Expression}
use Rattle.value_scopes.specs.declared.note.Note.{Note}
use Rattle.met_types.specs.States.{State}
use Rattle.desugaring.specs.Frames.{Frame, with_entries}
use Rattle.desugaring.specs.Pieces.{AFunction, AStep, AnExpression, Arranged, Becomes, Named, Nothing, Piece, arranged, arranged_from, before, behind_group, ended, group_at, group_steps, is_end, names_of, placed_piece}
use Rattle.kernel_parts.specs.Views.{tree_of}
use Rattle.kernel_parts.specs.declared.lists.Arranged as value
use Rattle.kernel_declarations.specs.Becoming.{IsWritten, becomes_in, binds_of, steps_of, value_becomes}
use Rattle.kernel_pieces.specs.Ordered.{AreGroups, GoesOn, IsArranged, IsGroup, all_of, from_here, group_in, piece_of, pieces_of}
use Rattle.kernel_pieces.proofs.Drops.{drop_all, drop_none}

stepped : (b : Becomes) (k : Frame → Arranged) (f : Frame) → placed_piece b false k f ≡ before (steps_of b f) (k (with_entries (binds_of b) f))
stepped (AStep binds step) k f = refl
stepped (AFunction x g) k f = refl
stepped (AnExpression e) k f = refl
stepped Nothing k f = refl

twice : (xs ys : List Step) (a : Arranged) → before xs (before ys a) ≡ before (xs ++ ys) a
twice xs ys a = ap (λ (l : List Step). record a { steps = l }) (sym (append_assoc xs ys a.steps))

abbrev pub whole_of : List Step → Option TypedExpression → Frame → Arranged
whole_of steps last f = record { steps = steps; last = last; frame = f }

module _ (s : State) (ds : List (Declaration Note)) (v : Bool) where
  abbrev all : List Declared
  all = all_of s ds

  abbrev ps : List Piece
  ps = pieces_of s ds

  -- what the list becomes from the m-th declaration on
  abbrev on_from : ℕ → Frame → Arranged
  on_from m f = arranged_from all ps v m (drop m ps) f

  longer : length ps ≡ length ds
  longer = length-map ds (piece_of s)

  no_end : (rest : List Piece) → v ≡ false → is_end all ps v rest ≡ false
  no_end [] e = e
  no_end (b ∷ rest) e = refl

  goes_on : (n : ℕ) (b : Piece) → GoesOn v (n + 1) ds → is_end all ps v (drop (suc n) ps) ≡ false
  goes_on n b (inl e) = no_end (drop (suc n) ps) e
  goes_on n b (inr l) = let m : suc n < length ps = omega (arith, l, longer) in ap (is_end all ps v) (drop-cons ps (suc n) b m)

  at_place : (n : ℕ) (d : Declaration Note) → n < length ds → d ≡ get_or ds n d → drop n ps ≡ piece_of s d ∷ drop (suc n) ps
  at_place n d l e =
      let m : n < length ps = omega (arith, l, longer) in
      drop-cons ps n (piece_of s d) m ∙ ap (λ (b : Piece). b ∷ drop (suc n) ps) (get_or-map (piece_of s) ds n d (piece_of s d) l ∙ ap (piece_of s) (sym e))

  pub place_written : (n : ℕ) (d : Declaration Note) (gs : List Named) (old mid new : List Step) (f g h : Frame) → n < length ds → d ≡ get_or ds n d → GoesOn v (n + 1) ds → gs ≡ group_at all n ps
      → IsGroup gs old f mid g → IsWritten (becomes_in s d) mid g new h → from_here s v ds n old f ≡ from_here s v ds (n + 1) new h
  unfolding from_here
  place_written n d gs old mid new f g h l e o k group one =
      let next : suc n ≡ n + 1 = omega arith in
      ap (λ (z : List Piece). before old (arranged_from all ps v n z f)) (at_place n d l e)
      ∙ (ap (λ (c : Bool). before old (behind_group (group_at all n ps) f (placed_piece (becomes_in s d) c (on_from (suc n))))) (goes_on n (piece_of s d) o)
      ∙ (ap (λ (z : List Named). before old (behind_group z f (placed_piece (becomes_in s d) false (on_from (suc n))))) (sym k)
      ∙ (ap (λ (z : Frame). before old (before (group_steps gs f) (placed_piece (becomes_in s d) false (on_from (suc n)) z))) (sym group.frame)
      ∙ (ap (λ (z : Arranged). before old (before (group_steps gs f) z)) (stepped (becomes_in s d) (on_from (suc n)) g)
      ∙ (ap (λ (z : Frame). before old (before (group_steps gs f) (before (steps_of (becomes_in s d) g) (on_from (suc n) z)))) (sym one.frame)
      ∙ (twice old (group_steps gs f) (before (steps_of (becomes_in s d) g) (on_from (suc n) h))
      ∙ (ap (λ (z : List Step). before z (before (steps_of (becomes_in s d) g) (on_from (suc n) h))) (sym group.steps)
      ∙ (twice mid (steps_of (becomes_in s d) g) (on_from (suc n) h)
      ∙ (ap (λ (z : List Step). before z (on_from (suc n) h)) (sym one.steps)
      ∙ ap (λ (m : ℕ). before new (on_from m h)) next)))))))))

  pub on_place : {A E : Type 0} (r : Result A E) (n : ℕ) (d : Declaration Note) (indexes : List ℕ) (groups : List (List ℕ)) (old mid new : List Step) (f g h : Frame) → n < length ds → d ≡ get_or ds n d
      → AreGroups s ds groups → indexes ≡ slice_index_or groups n [] → IsGroup (group_in s ds indexes) old f mid g → OnOk r (IsWritten (becomes_in s d) mid g new h)
      → OnOk r (GoesOn v (n + 1) ds → from_here s v ds n old f ≡ from_here s v ds (n + 1) new h)
  on_place (Ok a) n d indexes groups old mid new f g h l e are i group one =
      let m : n ≤ length ds = omega (arith, l) in
      λ (o : GoesOn v (n + 1) ds). place_written n d (group_in s ds indexes) old mid new f g h l e o (ap (group_in s ds) i ∙ are n m) group one
  on_place (Err x) n d indexes groups old mid new f g h l e are i group one = tt

  pub begun : (f : Frame) (steps : List Step) → steps ≡ [] → from_here s v ds 0 steps f ≡ arranged v ps f
  unfolding from_here
  begun f steps e = ap (λ (z : List Step). before z (on_from 0 f)) e ∙ ap (λ (z : List Piece). arranged_from all ps v 0 z f) (drop_none ps)

  pub ended_by : (gs : List Named) (old new : List Step) (f g : Frame) → gs ≡ group_at all (length ds) ps → IsGroup gs old f new g → from_here s v ds (length ds) old f ≡ whole_of new None g
  unfolding from_here
  ended_by gs old new f g k group =
      let l : length ps ≤ length ds = omega (arith, longer) in
      ap (λ (z : List Piece). before old (arranged_from all ps v (length ds) z f)) (drop_all ps (length ds) l)
      ∙ (ap (λ (z : List Named). before old (behind_group z f ended)) (sym k)
      ∙ (ap (λ (z : List Step). whole_of (old ++ z) None (with_entries (names_of gs) f)) (append-nil (group_steps gs f))
      ∙ (ap (λ (z : List Step). whole_of z None (with_entries (names_of gs) f)) (sym group.steps)
      ∙ ap (λ (z : Frame). whole_of new None z) (sym group.frame))))

pub goes_before : (ds : List (Declaration Note)) (v : Bool) (i n : ℕ) → i < n → GoesOn v n ds → GoesOn v (i + 1) ds
goes_before ds v i n l (inl e) = inl e
goes_before ds v i n l (inr m) = inr (omega (arith, l, m))

module _ (s : State) (ds : List (Declaration Note)) where
  valued_end : (b : Becomes) (a : Expression Note) (k : Frame → Arranged) (f : Frame) → b ≡ value_becomes s a → placed_piece b true k f ≡ whole_of [] (Some (tree_of s f a)) f
  valued_end b a k f e = ap (λ (z : Becomes). placed_piece z true k f) e

  pub valued_by : (n : ℕ) (d : Declaration Note) (a : Expression Note) (e : TypedExpression) (gs : List Named) (old new : List Step) (f g : Frame) → n + 1 ≡ length ds → d ≡ get_or ds n d → becomes_in s d ≡ value_becomes s a
      → e ≡ tree_of s g a → gs ≡ group_at (all_of s ds) n (pieces_of s ds) → IsGroup gs old f new g → from_here s true ds n old f ≡ whole_of new (Some e) g
  unfolding from_here
  valued_by n d a e gs old new f g l i b m k group =
      let within : n < length ds = omega (arith, l) in
      let none : length (pieces_of s ds) ≤ suc n = omega (arith, l, longer s ds true) in
      ap (λ (z : List Piece). before old (arranged_from (all_of s ds) (pieces_of s ds) true n z f)) (at_place s ds true n d within i)
      ∙ (ap (λ (z : List Piece). before old (behind_group (group_at (all_of s ds) n (pieces_of s ds)) f (placed_piece (becomes_in s d) (is_end (all_of s ds) (pieces_of s ds) true z) (on_from s ds true (suc n))))) (drop_all (pieces_of s ds) (suc n) none)
      ∙ (ap (λ (z : List Named). before old (behind_group z f (placed_piece (becomes_in s d) true (on_from s ds true (suc n))))) (sym k)
      ∙ (ap (λ (z : Frame). before old (before (group_steps gs f) (placed_piece (becomes_in s d) true (on_from s ds true (suc n)) z))) (sym group.frame)
      ∙ (ap (λ (z : Arranged). before old (before (group_steps gs f) z)) (valued_end (becomes_in s d) a (on_from s ds true (suc n)) g b)
      ∙ (ap (λ (z : List Step). whole_of (old ++ z) (Some (tree_of s g a)) g) (append-nil (group_steps gs f))
      ∙ (ap (λ (z : List Step). whole_of z (Some (tree_of s g a)) g) (sym group.steps)
      ∙ ap (λ (z : TypedExpression). whole_of new (Some z) g) (sym m)))))))

pub arranged_as : (a b : Arranged) (made : value.Arranged) (f : Frame) → a ≡ b → b ≡ whole_of made.steps made.last f → IsArranged a made f
arranged_as a b made f h e = record {
  steps = ap (λ (z : Arranged). z.steps) (sym (h ∙ e));
  last = ap (λ (z : Arranged). z.last) (sym (h ∙ e));
  frame = ap (λ (z : Arranged). z.frame) (sym (h ∙ e));
}
