-- Whether a list that is put in order ends in a value.
use Rattle.std.proofs.Common.{◌≡◌, ℕ, suc, Bool, true, false, List, [], ◌∷◌, Option, Some, None, refl}
use Rattle.mo_types.specs.declared.node.TypeId.{TypeId}
use Rattle.mo_types.specs.Graph.{Slot}
use Rattle.typed_tree.specs.Placing.{Declared}
use Rattle.typing_rules.specs.AbstractSyntax.{Bytes, Declaration, Declarations}
use Rattle.typing_rules.specs.AbstractSyntax as p
use Rattle.typing_rules.specs.AsyncPlaces.{Other}
use Rattle.typing_rules.specs.Contexts.{Context, directly, with_values}
use Rattle.typing_rules.specs.Definitions.{Definitions}
use Rattle.typing_rules.specs.Lists.{Entry as Given, of_expression}
use Rattle.typing_rules.specs.Terms.{Term}
use Rattle.typing_rules.specs.TypedTrees.{Note}
use Rattle.desugaring.specs.Expressions.{becomes, pieces}
use Rattle.desugaring.specs.FreeNames.{occurring}
use Rattle.desugaring.specs.Frames.{Frame, with_entries}
use Rattle.desugaring.specs.Pieces.{Becomes, AStep, AFunction, AnExpression, Nothing, Piece, Arranged, names_of, group_at, placed_piece, is_end, arranged_from}
use Rattle.declaration_laws.specs.Made.{ValueMade}
use Rattle.block_laws.specs.Bound.{IsBoundSo, AreBoundSo}
use Rattle.block_laws.specs.Lists.{IsMade, AreMade, last_of}

-- ---- a list that has no value

piece_last : (b : Becomes) (last : Bool) → last ≡ false → (next : Frame → Arranged) → ((g : Frame) → (next g).last ≡ None) → (f : Frame) → (placed_piece b last next f).last ≡ None
piece_last (AStep binds step) last e next h f = h (with_entries binds f)
piece_last (AFunction x g) last e next h f = h f
piece_last (AnExpression x) true e next h f = cc
piece_last (AnExpression x) false e next h f = h f
piece_last Nothing last e next h f = h f

no_end : (all : List Declared) (ps rest : List Piece) → is_end all ps false rest ≡ false
no_end all ps [] = refl
no_end all ps (b ∷ rest) = refl

pub no_last : (all : List Declared) (ps : List Piece) (n : ℕ) (rest : List Piece) (f : Frame) → (arranged_from all ps false n rest f).last ≡ None
no_last all ps n [] f = refl
no_last all ps n (b ∷ rest) f =
    piece_last b.becomes (is_end all ps false rest) (no_end all ps rest) (arranged_from all ps false (suc n) rest) (λ g. no_last all ps (suc n) rest g) (with_entries (names_of (group_at all n ps)) f)

-- ---- one that has a value, where it ends in an expression

piece_behind : (b : Becomes) (next : Frame → Arranged) (f : Frame) → (placed_piece b false next f).last ≡ None → (g : Frame) × ((next g).last ≡ None)
piece_behind (AStep binds step) next f h = (with_entries binds f, h)
piece_behind (AFunction x g) next f h = (f, h)
piece_behind (AnExpression x) next f h = (f, h)
piece_behind Nothing next f h = (f, h)

module _ (defs : Definitions) (slots : List Slot) (terms : List Term) (number : Term → TypeId) (vs : List ℕ) (last : Context) (w : Option Term) (all : List Declared) (whole : List Piece) where
  none_given : (uses : List Bytes) (e : Context) (v o : Option Term) (b : Becomes) → ValueMade defs slots terms number vs uses e v o b → (next : Frame → Arranged) (f : Frame) → (placed_piece b true next f).last ≡ None → o ≡ None
  none_given uses e v None b m next f h = refl
  none_given uses e v (Some u) (AnExpression x) m next f h = cc
  none_given uses e v (Some u) (AStep binds step) m next f h = absurd m
  none_given uses e v (Some u) (AFunction x g) m next f h = absurd m
  none_given uses e v (Some u) Nothing m next f h = absurd m

  -- the last declaration
  one_ended : (e : Context) (d : Declaration ℕ) (v : Option Term) (one : Given) (b : Becomes) → IsMade defs slots terms number vs last e d v one b → IsBoundSo e.types d one → (next : Frame → Arranged) (f : Frame) → (placed_piece b true next f).last ≡ None
      → one.value ≡ None
  one_ended e (p.Let q a) v one b m k next f h = k.0
  one_ended e (p.Var stable x u a) v one b m k next f h = k.0
  one_ended e (p.Evaluate a) v one b m k next f h = none_given (occurring a) (directly Other e) v one.value b m.0 next f h
  one_ended e (p.Func x g body) v one b m k next f h = k
  one_ended e (p.Method query context x g body) v one b m k next f h = k
  one_ended e (p.System x body) v one b m k next f h = k
  one_ended e (p.TypeAlias x parameters u) v one b m k next f h = k
  one_ended e (p.Class x g fields) v one b m k next f h = k
  one_ended e (p.NamedObject x fields) v one b m k next f h = k.0

  pub ended : (e : Context) (public : Bool) (j : ℕ) (d : Declaration ℕ) (rest : Declarations ℕ) (one : Given) (ones : List Given) (public_too : Bool) (l : Note) (b : Declaration Note) (bs : Declarations Note)
      → AreMade defs slots terms number vs last true e (p.Then public j d rest) w (one ∷ ones) (p.Then public_too l b bs) → AreBoundSo e.types (p.Then public j d rest) (one ∷ ones) → (n : ℕ) (f : Frame)
      → (arranged_from all whole true n (pieces defs number (p.Then public_too l b bs)) f).last ≡ None → last_of one.value ones ≡ None
  ended e public j d p.End one [] public_too l b p.End m k n f h =
      one_ended e d (of_expression true p.End w) one (becomes defs number l b) m.1 k.0 (arranged_from all whole true (suc n) []) (with_entries (names_of (group_at all n whole)) f) h
  ended e public j d p.End one [] public_too l b (p.Then public' l' b' bs) m k n f h = absurd m.2
  ended e public j d p.End one (two ∷ ones) public_too l b bs m k n f h = absurd k.1
  ended e public j d (p.Then public' j' d' rest) one [] public_too l b bs m k n f h = absurd k.1
  ended e public j d (p.Then public' j' d' rest) one (two ∷ ones) public_too l b p.End m k n f h = absurd m.2
  ended e public j d (p.Then public' j' d' rest) one (two ∷ ones) public_too l b (p.Then public_too' l' b' bs) m k n f h =
      let r = piece_behind (becomes defs number l b) (arranged_from all whole true (suc n) (pieces defs number (p.Then public_too' l' b' bs))) (with_entries (names_of (group_at all n whole)) f) h in
      ended (with_values one.scope e) public' j' d' rest two ones public_too' l' b' bs m.2 k.1 (suc n) r.0 r.1
