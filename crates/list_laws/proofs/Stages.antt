-- A list of declarations in the order of evaluation is typed, where each of its parts is at its stage.
use Rattle.std.proofs.Common.{◌≡◌, ℕ, ◌+◌, suc, Bool, true, false, List, [], ◌∷◌, ◌++◌, length, map, refl, subst, arith}
use Rattle.mo_types.specs.declared.node.TypeId.{TypeId}
use Rattle.mo_types.specs.Graph.{Slot}
use Rattle.typed_tree.specs.declared.expression.Form.TheOpen as F
use Rattle.typed_tree.specs.declared.expression.Step.{Step, roll-Step}
use Rattle.typed_tree.specs.declared.expression.TypedExpression.{TypedExpression}
use Rattle.typed_tree.specs.ActionTypes.{Context}
use Rattle.typed_tree.specs.Placing.{Declared}
use Rattle.typed_tree.specs.Typing.{BlockGives, Declares, Typed, with_names}
use Rattle.typed_tree.specs.Wants.{Want}
use Rattle.typed_tree.specs.WellTyped.{AllDeclare}
use Rattle.typed_tree.proofs.Rules.{steps}
use Rattle.desugaring.specs.Frames.{Frame, with_entries}
use Rattle.desugaring.specs.Pieces.{Becomes, AStep, AFunction, AnExpression, Nothing, Piece, Arranged, Named, before, group_at, names_of, group_steps, behind_group, ended, placed_piece, is_end, arranged_from}
use Rattle.list_laws.specs.Laws as laws

module _ (types : List Slot) where
  -- declarations one after the other
  declared_both : (ss us : List Step) (c d e : Context) → AllDeclare types c ss d → AllDeclare types d us e → AllDeclare types c (ss ++ us) e
  declared_both [] us c d e h k = subst (λ z. AllDeclare types z us e) h k
  declared_both (s ∷ ss) us c d e h k = (h.0, h.1, declared_both ss us (with_names h.0 c) d e h.2 k)

  -- a block of declarations, behind which its value is typed
  pub block_of_declared : (ss : List Step) (x : TypedExpression) (c d : Context) (w : Want TypeId) → AllDeclare types c ss d → Typed types x d w → BlockGives (Declares types) (Typed types) c ss x w
  block_of_declared [] x c d w h k = subst (λ z. Typed types x z w) h k
  block_of_declared (s ∷ ss) x c d w h k = (h.0, h.1, block_of_declared ss x (with_names h.0 c) d w h.2 k)

  -- At k n: so many groups of functions and so many declarations stand around this. of_list: where the value of the list is to serve.
  module _ (all : List Declared) (pieces : List Piece) (has_value : Bool) (At : ℕ → ℕ → Frame → Context → Type 0) (of_list : Want TypeId) where
    -- the value of the list
    abbrev Last : TypedExpression → Context → Type 0
    Last e d = Typed types e d of_list

    -- the functions that have the n-th place
    abbrev pub Grouped : List Named → ℕ → Frame → Context → Type 0
    Grouped [] n f c = At (suc n) n f c
    Grouped (g ∷ gs) n f c =
        (ws : List (Want TypeId)) × Declares types (roll-Step (F.Functions (map (λ h. h.1 (with_entries (names_of (g ∷ gs)) f)) (g ∷ gs)))) c ws × At (suc n) n (with_entries (names_of (g ∷ gs)) f) (with_names ws c)

    -- the n-th declaration
    abbrev pub Passes : ℕ → Bool → Becomes → Type 0
    Passes n last (AStep binds step) = (f : Frame) (c : Context) → At (suc n) n f c → (ns : List (Want TypeId)) × Declares types (step f) c ns × At (suc n) (suc n) (with_entries binds f) (with_names ns c)
    Passes n last (AFunction x g) = (f : Frame) (c : Context) → At (suc n) n f c → At (suc n) (suc n) f c
    Passes n true (AnExpression e) = (f : Frame) (c : Context) → At (suc n) n f c → Last (e f) c
    Passes n false (AnExpression e) = (f : Frame) (c : Context) → At (suc n) n f c → ((w : Want TypeId) × Typed types (e f) c w) × At (suc n) (suc n) f c
    Passes n last Nothing = (f : Frame) (c : Context) → At (suc n) n f c → At (suc n) (suc n) f c

    abbrev pub AllPass : ℕ → List Piece → Type 0
    AllPass n [] = Unit {0}
    AllPass n (b ∷ rest) = Passes n (is_end all pieces has_value rest) b.becomes × AllPass (suc n) rest

    abbrev Walked : Arranged → Context → Type 0
    Walked = laws.Walked types pieces At of_list

    walk_before : (ss : List Step) (a : Arranged) (c d : Context) → AllDeclare types c ss d → Walked a d → Walked (before ss a) c
    walk_before ss a c d h k = record { end = k.end; declared = declared_both ss a.steps c d k.end h k.declared; ends = k.ends }

    -- behind the group of this place
    behind : (gs : List Named) (n : ℕ) (f : Frame) (c : Context) → Grouped gs n f c → (next : Frame → Arranged) → ((g : Frame) (d : Context) → At (suc n) n g d → Walked (next g) d) → Walked (behind_group gs f next) c
    behind [] n f c h next k = walk_before [] (next (with_entries [] f)) c c refl (k (with_entries [] f) c h)
    behind (g ∷ gs) n f c h next k =
        let inner = with_entries (names_of (g ∷ gs)) f in
        walk_before (group_steps (g ∷ gs) f) (next inner) c (with_names h.0 c) (h.0, h.1, refl) (k inner (with_names h.0 c) h.2)

    one_piece : (n : ℕ) (b : Becomes) (last : Bool) → Passes n last b → (next : Frame → Arranged) → ((g : Frame) (d : Context) → At (suc n) (suc n) g d → Walked (next g) d) → (f : Frame) (c : Context) → At (suc n) n f c
        → Walked (placed_piece b last next f) c
    one_piece n (AStep binds step) last p next k f c h =
        let q = p f c h in
        walk_before (step f ∷ []) (next (with_entries binds f)) c (with_names q.0 c) (q.0, q.1, refl) (k (with_entries binds f) (with_names q.0 c) q.2)
    one_piece n (AFunction x g) last p next k f c h = k f c (p f c h)
    one_piece n (AnExpression e) true p next k f c h = record { end = c; declared = refl; ends = p f c h }
    one_piece n (AnExpression e) false p next k f c h =
        let q = p f c h in
        walk_before (roll-Step (F.Evaluate (e f)) ∷ []) (next f) c (with_names [] c) ([], (steps types (F.Evaluate (e f)) c []).1 (q.0.0, q.0.1, refl), refl) (k f c q.1)
    one_piece n Nothing last p next k f c h = k f c (p f c h)

    module _ (grouped : (n : ℕ) (f : Frame) (c : Context) → At n n f c → Grouped (group_at all n pieces) n f c) where
      -- the declarations from the n-th on
      pub walk : (n : ℕ) (rest : List Piece) → length rest + n ≡ length pieces → AllPass n rest → (f : Frame) (c : Context) → At n n f c → Walked (arranged_from all pieces has_value n rest f) c
      walk n [] e p f c h = behind (group_at all n pieces) n f c (grouped n f c h) ended (λ g d k. record { end = d; declared = refl; ends = subst (λ m. At (suc m) m g d) (the_end e) k }) where
        the_end : length {A = Piece} [] + n ≡ length pieces → n ≡ length pieces
        the_end e = omega (arith, e)
      walk n (b ∷ rest) e p f c h =
          behind (group_at all n pieces) n f c (grouped n f c h) (placed_piece b.becomes (is_end all pieces has_value rest) (arranged_from all pieces has_value (suc n) rest)) (λ g d k.
          one_piece n b.becomes (is_end all pieces has_value rest) p.0 (arranged_from all pieces has_value (suc n) rest) (λ g' d' k'. walk (suc n) rest (omega (arith, e)) p.1 g' d' k') g d k)
