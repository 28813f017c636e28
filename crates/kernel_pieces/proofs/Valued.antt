-- The value of a list.
use Rattle.std.proofs.Common.{◌≡◌, ◌∙◌, ℕ, suc, ◌+◌, ◌-◌, ◌<◌, Bool, true, false, List, [], ◌∷◌, length, get_or, Option, Some, None, refl, sym, ap, subst, arith}
use Rattle.std.specs.Prelude.{Result, Ok, Err, IfOk, OnOk, MatchOption, slice_get, unwrap_or}
use Rattle.std.proofs.lemmas.Option.{get_or_from_slice_get, slice_get-get_or, slice_get_within}
use Rattle.typed_tree.specs.Placing.{Declared}
use Rattle.abstract_tree.specs.declared.declarations.Declaration.{Declaration}
use Rattle.abstract_tree.specs.declared.expressions.Expression.{Expression}
use Rattle.value_scopes.specs.declared.note.Note.{Note}
use Rattle.met_types.specs.States.{State}
use Rattle.desugaring.specs.Frames.{Frame, with_entries}
use Rattle.desugaring.specs.Pieces.{AFunction, AStep, AnExpression, Arranged, Becomes, Nothing, Piece, arranged, arranged_from, before, group_at, group_steps, is_end, names_of, placed_piece}
use Rattle.kernel_nodes.specs.Made.{evaluate_step}
use Rattle.kernel_parts.specs.declared.lists.Arranged as value
use Rattle.kernel_declarations.specs.Becoming.{becomes_in, value_becomes}
use Rattle.kernel_pieces.specs.Ordered.{EndsIn, HasNoValue, IsArranged, IsNoValue, all_of, piece_of, pieces_of}

-- what is no expression is written in the same way, whether it ends the list or not
no_flag : (b : Becomes) (k : Frame → Arranged) (f : Frame) → IsNoValue b → placed_piece b true k f ≡ placed_piece b false k f
no_flag (AStep binds step) k f h = refl
no_flag (AFunction x g) k f h = refl
no_flag (AnExpression e) k f h = absurd h
no_flag Nothing k f h = refl

next_same : (b : Becomes) (k l : Frame → Arranged) (f : Frame) → ((g : Frame) → k g ≡ l g) → placed_piece b false k f ≡ placed_piece b false l f
next_same (AStep binds step) k l f h = ap (before (step f ∷ [])) (h (with_entries binds f))
next_same (AFunction x g) k l f h = h f
next_same (AnExpression e) k l f h = ap (before (evaluate_step (e f) ∷ [])) (h f)
next_same Nothing k l f h = h f

abbrev LastOf : Piece → List Piece → Type 0
LastOf b [] = IsNoValue b.becomes
LastOf b (c ∷ rest) = LastOf c rest

-- the last of these is no expression
abbrev NoLast : List Piece → Type 0
NoLast [] = Unit {0}
NoLast (b ∷ rest) = LastOf b rest

module _ (all : List Declared) (ps : List Piece) where
  abbrev on : Bool → ℕ → List Piece → Frame → Arranged
  on v n rest f = arranged_from all ps v n rest f

  one_same : (b : Piece) (rest : List Piece) → LastOf b rest → (n : ℕ) (f : Frame) → (NoLast rest → (g : Frame) → on true n rest g ≡ on false n rest g)
      → placed_piece b.becomes (is_end all ps true rest) (on true n rest) f ≡ placed_piece b.becomes (is_end all ps false rest) (on false n rest) f
  one_same b [] h n f i = no_flag b.becomes (on true n []) f h
  one_same b (c ∷ rest) h n f i = next_same b.becomes (on true n (c ∷ rest)) (on false n (c ∷ rest)) f (λ (g : Frame). i h g)

  same_from : (rest : List Piece) → NoLast rest → (n : ℕ) (f : Frame) → on true n rest f ≡ on false n rest f
  same_from [] h n f = refl
  same_from (b ∷ rest) h n f =
      ap (before (group_steps (group_at all n ps) f))
      (one_same b rest h (suc n) (with_entries (names_of (group_at all n ps)) f) (λ (m : NoLast rest) (g : Frame). same_from rest m (suc n) g))

module _ (s : State) where
  last_none : (x : Declaration Note) (ds : List (Declaration Note)) (d : Declaration Note) → slice_get (x ∷ ds) (length ds) ≡ Some d → IsNoValue (becomes_in s d) → LastOf (piece_of s x) (pieces_of s ds)
  last_none x [] d e h = subst (λ (z : Declaration Note). IsNoValue (becomes_in s z)) (sym (ap (λ (o : Option (Declaration Note)). unwrap_or o x) e)) h
  last_none x (y ∷ ds) d e h = last_none y ds d e h

  no_last : (ds : List (Declaration Note)) (d : Declaration Note) → slice_get ds (length ds - 1) ≡ Some d → IsNoValue (becomes_in s d) → NoLast (pieces_of s ds)
  no_last [] d e h = tt
  no_last (x ∷ ds) d e h = let n : length ds ≡ length (x ∷ ds) - 1 = omega arith in last_none x ds d (ap (slice_get (x ∷ ds)) n ∙ e) h

  no_value : (ds : List (Declaration Note)) (d : Declaration Note) → slice_get ds (length ds - 1) ≡ Some d → IsNoValue (becomes_in s d) → HasNoValue s true ds
  no_value ds d e h = λ (f : Frame). same_from (all_of s ds) (pieces_of s ds) (pieces_of s ds) (no_last ds d e h) 0 f

  pub nothing_last : (ds : List (Declaration Note)) → None ≡ slice_get ds (length ds - 1) → HasNoValue s true ds
  nothing_last [] e = λ (f : Frame). refl
  nothing_last (x ∷ ds) e =
      let l : length (x ∷ ds) - 1 < length (x ∷ ds) = omega arith in
      let some : slice_get (x ∷ ds) (length (x ∷ ds) - 1) ≡ Some (get_or (x ∷ ds) (length (x ∷ ds) - 1) x) = slice_get-get_or (x ∷ ds) (length (x ∷ ds) - 1) x l in
      let no : None ≡ Some (get_or (x ∷ ds) (length (x ∷ ds) - 1) x) = e ∙ some in
      cc

  module _ {A : Type 0} (now : A → Expression Note) (ds : List (Declaration Note)) where
    pub found : (r : Option A) (d : Declaration Note) → slice_get ds (length ds - 1) ≡ Some d → MatchOption r (IsNoValue (becomes_in s d)) (λ a. becomes_in s d ≡ value_becomes s (now a))
        → MatchOption r (HasNoValue s true ds) (λ a. EndsIn s ds (now a))
    found None d e h = no_value ds d e h
    found (Some a) d e h = record { last = d; at = e; is = h }

    pub flagged : (r : Option A) (b : Bool) → b ≡ true → MatchOption r (HasNoValue s true ds) (λ a. EndsIn s ds (now a)) → MatchOption r (HasNoValue s b ds) (λ a. (b ≡ true) × EndsIn s ds (now a))
    flagged None b e h = λ (f : Frame). ap (λ (v : Bool). arranged v (pieces_of s ds) f) e ∙ h f
    flagged (Some a) b e h = (e, h)

  pub unflagged : (ds : List (Declaration Note)) (b : Bool) → b ≡ false → HasNoValue s b ds
  unflagged ds b e = λ (f : Frame). ap (λ (v : Bool). arranged v (pieces_of s ds) f) e

  -- the last declaration stands at the last index
  pub last_at : (ds : List (Declaration Note)) (a : Expression Note) (ends : EndsIn s ds a) → ends.last ≡ get_or ds (length ds - 1) ends.last
  last_at ds a ends = sym (get_or_from_slice_get ds (length ds - 1) ends.last ends.last ends.at)

  pub some_last : (ds : List (Declaration Note)) (a : Expression Note) → EndsIn s ds a → length ds - 1 + 1 ≡ length ds
  some_last ds a ends = let l : length ds - 1 < length ds = slice_get_within ds (length ds - 1) ends.last ends.at in omega (arith, l)

module _ {E : Type 0} (a b : Arranged) (f : Frame) (e : a ≡ b) where
  pub steps_by : (r : Result value.Arranged E) → IfOk r (λ m. IsArranged a m f) → IfOk r (λ m. m.steps ≡ b.steps)
  steps_by (Ok m) h = h.steps ∙ ap (λ (z : Arranged). z.steps) e
  steps_by (Err x) h = tt

  pub last_by : (r : Result value.Arranged E) → IfOk r (λ m. IsArranged a m f) → IfOk r (λ m. m.last ≡ b.last)
  last_by (Ok m) h = h.last ∙ ap (λ (z : Arranged). z.last) e
  last_by (Err x) h = tt

  pub frame_by : (r : Result value.Arranged E) → IfOk r (λ m. IsArranged a m f) → OnOk r (f ≡ b.frame)
  frame_by (Ok m) h = h.frame ∙ ap (λ (z : Arranged). z.frame) e
  frame_by (Err x) h = tt
