-- What a word stands for: numbers, truth values, characters, null and () are words themselves; all else is the address of a block.
use Rattle.std.specs.Prelude.{◌≡◌, ℕ, ◌+◌, ◌*◌, ◌<◌, ◌^◌, List, [], ◌∷◌, length, get_or, Bool, true, false}
use Rattle.mo_types.specs.declared.datum.Datum.{Datum}
use Rattle.mo_types.specs.declared.datum.Datum.TheVariants as part
use Rattle.mo_values.specs.declared.error_code.ErrorCode.{ErrorCode}
use Rattle.mo_values.specs.Shapes.{Bytes, Leaf, Tuple, Error, Cell, Future, Made, Function, Shapes, NoShape, AShape}
use Rattle.wasm_tree.specs.Numeric.{flag}
use Rattle.wasm_tree.specs.Exec.{bits64}
use Rattle.core_ir.specs.Values.{Value, Handle}
use Rattle.low_rules.specs.Rule.{OnTest}
use Rattle.heap_layout.specs.Words.{word_at, byte_at, words_for}
use Rattle.heap_layout.specs.Ghosts.{Ghost, Fixed}
use Rattle.heap_layout.specs.Blocks.{Constant, constants, places, error_constants, shape_count}

abbrev pub is_empty : {F : Type 0} → Shapes F → Bool
is_empty NoShape = true
is_empty (AShape v vs) = false

module _ (g : Ghost) (memory : List ℕ) where
  -- the block of a text, from word i on
  pub record TextAt (i : ℕ) (t : Bytes) : Type 0 where
    pub fixed : (j : ℕ) → j < 1 + words_for (length t) → g.own (i + j) ≡ Fixed
    pub size : word_at memory i ≡ length t
    pub bytes : (j : ℕ) → j < length t → byte_at memory (i + 1) j ≡ get_or t j 0

  abbrev pub MeansText : ℕ → Bytes → Type 0
  MeansText w t = (i : ℕ) × (w ≡ 8 * i) × (0 < i) × TextAt i t

  -- a fixed word with the address of a text
  pub record TextIn (i : ℕ) (t : Bytes) : Type 0 where
    pub fixed : g.own i ≡ Fixed
    pub means : MeansText (word_at memory i) t

  abbrev pub MeansLeaf : ℕ → Datum → Type 0
  MeansLeaf w part.Null = w ≡ 0
  MeansLeaf w (part.Flag b) = w ≡ flag b
  MeansLeaf w (part.Number n) = w ≡ bits64 n
  MeansLeaf w (part.Char c) = w ≡ c
  MeansLeaf w (part.Text t) = MeansText w t
  MeansLeaf w (part.Blob t) = MeansText w t
  MeansLeaf w (part.Principal p) = MeansText w p
  MeansLeaf w (part.Actor p) = MeansText w p
  MeansLeaf w (part.Method p name) = (i : ℕ) × (w ≡ 8 * i) × (0 < i) × TextIn i p × TextIn (i + 1) name
  MeansLeaf w _ = ⊥

  -- the words whose numbers the head tells, in the block from word i on
  abbrev pub HasConstants : ℕ → List Constant → Type 0
  HasConstants i [] = Unit {0}
  HasConstants i (c ∷ cs) = (g.own (i + c.place) ≡ Fixed) × (word_at memory (i + c.place) ≡ c.number) × HasConstants i cs

  abbrev pub MeansError : ℕ → ErrorCode → Bytes → Type 0
  MeansError w code message =
      (i : ℕ) × (w ≡ 8 * i) × (0 < i) × HasConstants i (error_constants code) × TextIn (i + 2) message

  abbrev mutual
    pub Means : ℕ → Value → Type 0
    Means w (Made (Leaf p) NoShape) = MeansLeaf w p
    Means w (Made (Leaf p) (AShape v vs)) = ⊥
    Means w (Made (Error code message) NoShape) = MeansError w code message
    Means w (Made (Error code message) (AShape v vs)) = ⊥
    Means w (Made (Cell n) NoShape) = (w ≡ 8 * g.cells n) × (n < g.held)
    Means w (Made (Cell n) (AShape v vs)) = ⊥
    Means w (Made (Future n) NoShape) = (w ≡ 8 * g.futures n) × (n < g.called)
    Means w (Made (Future n) (AShape v vs)) = ⊥
    Means w (Made Tuple inside) =
        OnTest (is_empty inside) (w ≡ 0)
        ((i : ℕ) × (w ≡ 8 * i) × (0 < i) × HasConstants i (constants Tuple (shape_count inside)) × PartsMean i (places Tuple (shape_count inside)) inside)
    Means w (Made head inside) =
        (i : ℕ) × (w ≡ 8 * i) × (0 < i) × HasConstants i (constants head (shape_count inside)) × PartsMean i (places head (shape_count inside)) inside
    Means w (Function h) = (w ≡ 8 * (g.groups h.group + 2 * h.member)) × (h.group < g.made)

    -- the parts of a value, at their places in the block from word i on
    pub PartsMean : ℕ → List ℕ → Shapes Handle → Type 0
    PartsMean i places NoShape = Unit {0}
    PartsMean i [] (AShape v vs) = ⊥
    PartsMean i (o ∷ os) (AShape v vs) = (g.own (i + o) ≡ Fixed) × (word_at memory (i + o) < 2 ^ 64) × Means (word_at memory (i + o)) v × PartsMean i os vs

-- A word that stands for a value.
pub record Rep (g : Ghost) (memory : List ℕ) (w : ℕ) (v : Value) : Type 0 where
  pub small : w < 2 ^ 64
  pub means : Means g memory w v

-- A fixed word that does.
pub record ValueAt (g : Ghost) (memory : List ℕ) (i : ℕ) (v : Value) : Type 0 where
  pub fixed : g.own i ≡ Fixed
  pub rep : Rep g memory (word_at memory i) v

-- Words, in their order.
abbrev pub Reps : Ghost → List ℕ → List ℕ → List Value → Type 0
Reps g memory [] [] = Unit {0}
Reps g memory (w ∷ ws) (v ∷ vs) = Rep g memory w v × Reps g memory ws vs
Reps g memory _ _ = ⊥
